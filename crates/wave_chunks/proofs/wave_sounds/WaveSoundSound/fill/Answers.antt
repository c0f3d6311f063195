use Rattle.std.proofs.Common.{◌≡◌, ◌<◌, ◌+◌, ◌*◌, ◌/◌, ◌∙◌, ℕ, List, length, ap, subst, sym, arith}
use Rattle.std.specs.Prelude.{ℤ}
use Rattle.file_model.proofs.Interleaving.{length-first_channels}
use Rattle.file_model.specs.Channels.{channel_samples, first_channels}
use Rattle.wave_chunks.specs.Held.{samples_held}
use Rattle.wave_chunks.proofs.Filling.{part-channel, place_inside}
use Rattle.wave_chunks.proofs.wave_sounds.WaveSoundSound.fill.Goals as goal

-- a channel of as many lists as there are channels
among : (k n channel : ℕ) (ys : List ℤ) → channel < length (first_channels k k n ys) → channel < k
among k n channel ys below = let whole = length-first_channels k k n ys in omega (arith, whole, below)

pub fill_16-requires : goal.fill_16-requires
fill_16-requires c i below =
    let s = c.args.self.now in
    let whole : length s.content.now / 2 ≡ s.channels * s.frames =
    subst (λ (d : ℕ). length s.content.now / (d / 8) ≡ s.channels * s.frames) c.if-self-eq16.true s.whole in
    place_inside s.channels s.frames c.args.start (length c.args.out.now) c.args.channel i _ whole c.requires.inside
    (among s.channels s.frames c.args.channel (samples_held s.depth s.content.now) c.requires.channel) below

pub fill_24-requires : goal.fill_24-requires
fill_24-requires c i below =
    let s = c.args.self.now in
    let whole : length s.content.now / 3 ≡ s.channels * s.frames =
    subst (λ (d : ℕ). length s.content.now / (d / 8) ≡ s.channels * s.frames) (s.known c.if-self-eq16.false) s.whole in
    place_inside s.channels s.frames c.args.start (length c.args.out.now) c.args.channel i _ whole c.requires.inside
    (among s.channels s.frames c.args.channel (samples_held s.depth s.content.now) c.requires.channel) below

pub returns-then-self-eq16-clause-samples : goal.returns-then-self-eq16-clause-samples
returns-then-self-eq16-clause-samples c =
    let s = c.args.self.now in
    let count = length c.args.out.now in
    let ys = samples_held s.depth s.content.now in
    c.fill_16.ensures
    ∙ ap (λ (d : ℕ). channel_samples s.channels (s.channels * c.args.start + c.args.channel) count (samples_held d s.content.now)) (sym c.if-self-eq16.true)
    ∙ sym (part-channel s.channels c.args.channel s.frames c.args.start count ys (among s.channels s.frames c.args.channel ys c.requires.channel) c.requires.inside)

pub returns-else-self-eq16-clause-samples : goal.returns-else-self-eq16-clause-samples
returns-else-self-eq16-clause-samples c =
    let s = c.args.self.now in
    let count = length c.args.out.now in
    let ys = samples_held s.depth s.content.now in
    c.fill_24.ensures
    ∙ ap (λ (d : ℕ). channel_samples s.channels (s.channels * c.args.start + c.args.channel) count (samples_held d s.content.now)) (sym (s.known c.if-self-eq16.false))
    ∙ sym (part-channel s.channels c.args.channel s.frames c.args.start count ys (among s.channels s.frames c.args.channel ys c.requires.channel) c.requires.inside)
