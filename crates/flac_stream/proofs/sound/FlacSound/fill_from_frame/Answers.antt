use Rattle.std.proofs.Common.{◌≡◌, ◌≤◌, ◌+◌, ◌*◌, ◌∙◌, length, length-drop, drop, ap, arith}
use Rattle.std.proofs.lemmas.List.{length-take-le}
use Rattle.lib_base.specs.Sounds.{part, samples_of}
use Rattle.flac_stream.specs.Sounding.{samples_before}
use Rattle.flac_stream.proofs.Sounding.{part_more}
use Rattle.flac_stream.proofs.sound.FlacSound.fill_from_frame.Goals as goal

pub returns-clause-written : goal.returns-clause-written
returns-clause-written c =
    let s = c.args.self.now in
    let file = s.file.now in
    let first = samples_before file c.args.frame in
    let size = c.decode-first.result.1 in
    let in_cells = c.decode-first.ensures.cells in
    let cells = c.decode-first.new.scratch.cells in
    let samples = c.channel.result.now in
    let are : samples ≡ part (samples_of s.held.0 c.args.index) first size = c.channel.ensures.cells ∙ in_cells.samples in
    let rest = length-drop (c.args.index * size) cells in
    let fits = in_cells.fits in
    let apart : (c.args.index + 1) * size ≡ c.args.index * size + size = omega arith in
    let long : length samples ≡ size =
    ap length c.channel.ensures.cells ∙ length-take-le size (drop (c.args.index * size) cells) (omega (arith, rest, fits, apart)) in
    let is_first = c.decode-first.ensures.first in
    let next = in_cells.next in
    let before = c.requires.before in
    let behind = c.requires.behind in
    let count = c.copy_behind.ensures.count in
    part_more (samples_of s.held.0 c.args.index) samples c.args.out.now c.copy_behind.new.out first size _ c.args.start c.args.done c.copy_behind.result are
    (omega (arith, long, count, is_first, next, before, behind)) (omega (arith, is_first, behind)) c.requires.written c.copy_behind.ensures.written
