use Rattle.std.proofs.Common.{◌≡◌, ◌∙◌, ◌-◌, ℕ, List, Bool, Ok, length, replicate, sym, subst, arith}
use Rattle.bit_codec.specs.Reader.{left}
use Rattle.lib_base.specs.Sounds.{samples_of}
use Rattle.file_model.specs.FlacFrame.{Channels}
use Rattle.flac_frames.proofs.Ones.{own_first, own_behind, ok_and_then}
use Rattle.flac_frames.proofs.one_channel.+read_own.Goals as goal

-- it is the first one
pub returns-then-index-eq0 : goal.returns-then-index-eq0
returns-then-index-eq0 t c = λ channels lists rest less are.
    own_first c.read_channel.result c.read_channel.new.out (left c.read_channel.new.reader) (length c.args.own.now) c.args.depth channels c.args.index
    (left c.args.reader.now) lists rest c.if-index-eq0.true less c.read_channel.ensures.comes are

-- the first one is passed
pub returns-in-Ok : goal.returns-in-Ok
returns-in-Ok t c = λ channels lists rest less are.
    let block = length c.args.own.now in
    let h = own_behind block c.args.depth channels c.args.index (left c.args.reader.now) lists rest c.if-index-eq0.false less are in
    let there = c.in-Ok.ensures h.coded h.next h.first in
    let behind : Channels (length c.skip_channel.new.cells) (replicate (channels - 1) c.args.depth) (left c.skip_channel.new.reader) (Ok (h.others, rest)) =
    subst (λ (n : ℕ). Channels n (replicate (channels - 1) c.args.depth) (left c.skip_channel.new.reader) (Ok (h.others, rest))) (omega arith)
    (subst (λ (b : List Bool). Channels block (replicate (channels - 1) c.args.depth) b (Ok (h.others, rest))) (sym there) h.are) in
    ok_and_then c.read_own.result (c.read_own.new.own ≡ samples_of h.others (c.args.index - 1)) (c.read_own.new.own ≡ samples_of lists c.args.index)
    (λ is. is ∙ h.same) (c.read_own.ensures (channels - 1) h.others rest h.less behind)

pub returns-in-Err : goal.returns-in-Err
returns-in-Err t c = λ channels lists rest less are.
    let h = own_behind (length c.args.own.now) c.args.depth channels c.args.index (left c.args.reader.now) lists rest c.if-index-eq0.false less are in
    c.in-Err.ensures h.coded h.next h.first
