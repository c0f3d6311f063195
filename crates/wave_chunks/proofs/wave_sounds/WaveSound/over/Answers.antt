use Rattle.std.proofs.Common.{◌≡◌, ◌≤◌, ◌-◌, ◌∙◌, length, ap, sym, subst}
use Rattle.std.specs.Prelude.{codes}
use Rattle.lib_base.specs.Sounds.{part}
use Rattle.lib_base.specs.declared.files.Span.{Span}
use Rattle.file_model.specs.Pcm.{Pcm}
use Rattle.file_model.proofs.Samples.{IsDepth}
use Rattle.file_model.proofs.Waves.{IsWave_unique}
use Rattle.wave_chunks.proofs.Holding.{has_samples, depth_of_read, known_depth, held_is, held_whole, held_sound}
use Rattle.wave_chunks.proofs.Locating.{lies}
use Rattle.wave_chunks.proofs.wave_sounds.WaveSound.over.Goals as goal

pub content_of-requires-clause-inside : goal.content_of-requires-clause-inside
content_of-requires-clause-inside c =
    subst (λ (s : Span). s.end ≤ length c.args.bytes.now) (sym c.samples.ensures)
    (lies c.args.bytes.now (codes "data") c.args.wave.now.samples (has_samples c.args.bytes.now c.args.wave.now c.requires)).inside

pub invariant_of-result : goal.invariant_of-result
invariant_of-result c =
    let bytes = c.args.bytes.now in
    let wave = c.args.wave.now in
    let content = c.content_of.result.now in
    let is : content ≡ part bytes wave.samples.start (wave.samples.end - wave.samples.start) =
    c.content_of.ensures.content ∙ ap (λ (s : Span). part bytes s.start (s.end - s.start)) c.samples.ensures in
    record {
      known = known_depth c.depth.result (subst IsDepth (sym c.depth.ensures) (depth_of_read bytes wave c.requires));
      whole = held_whole bytes content wave c.requires c.depth.result c.channels.result c.frames.result is c.depth.ensures c.channels.ensures c.frames.ensures;
      sound = held_sound bytes content wave c.requires c.depth.result c.channels.result c.frames.result is c.depth.ensures c.channels.ensures c.frames.ensures;
    }

pub returns-clause-lists : goal.returns-clause-lists
returns-clause-lists c = λ sound wave.
    let bytes = c.args.bytes.now in
    let read = c.requires in
    let is = c.content_of.ensures.content ∙ ap (λ (s : Span). part bytes s.start (s.end - s.start)) c.samples.ensures in
    held_is bytes c.content_of.result.now c.args.wave.now read c.depth.result c.channels.result c.frames.result is c.depth.ensures c.channels.ensures
    c.frames.ensures
    ∙ ap (λ (s : Pcm). s.lists) (IsWave_unique bytes read.sound sound (read.chunks, read.reads) wave)
