use Rattle.std.proofs.Common.{◌≡◌, ◌∙◌, ◌<◌, ◌+◌, ◌*◌, List, ap, length, map, set, take, rules, arith, subst, sym, refl, w32, FitsSigned}
use Rattle.std.specs.Prelude.{ℕ}
use Rattle.std.proofs.lemmas.Int.{to_z-of_z}
use Rattle.std.proofs.lemmas.List.{length-set}
use Rattle.file_model.specs.Channels.{channel_samples}
use Rattle.file_model.specs.Samples.{sample_in}
use Rattle.wave_chunks.proofs.Filling.{filled_more}
use Rattle.wave_chunks.proofs.wave_sounds.fill_24.Goals as goal

pub loop-i-preserved : goal.loop-i-preserved
loop-i-preserved c =
    let fits : FitsSigned w32 c.sample_24.result = search rules in
    let out = c.loop-i.out in
    let i = c.loop-i.i in
    let step = c.args.step in
    let first = c.args.first in
    let cells = c.as_chunks.result.0.now in
    let long = c.loop-i.invariant.long in
    let inside : i < length out = omega (arith, long, c.loop-i-test.true) in
    let within : step * i + first < length cells = omega (arith, c.requires i c.loop-i-test.true, c.as_chunks.ensures.front_len) in
    let Filled : List (List ℕ) → Type 0 = λ all.
    take (i + 1) (set out i c.sample_24.result) ≡ channel_samples step first (i + 1) (map (sample_in 24) all) in
    let so_far = c.loop-i.invariant.filled
    ∙ ap (λ (all : List (List ℕ)). channel_samples step first i (map (sample_in 24) all)) (sym c.as_chunks.ensures.front) in
    let more = filled_more 24 step first i cells out _ c.sample_24.result inside within refl c.sample_24.ensures so_far in
    rw (to_z-of_z w32 c.sample_24.result fits) (record {
      long = length-set out i c.sample_24.result ∙ long;
      filled = subst Filled c.as_chunks.ensures.front more;
    })
