use Rattle.std.proofs.Common.{◌≡◌, ◌≤◌, ◌*◌, ◌^◌, ℕ, List, length, sym, ap, ◌∙◌, subst, arith, All}
use Rattle.lib_base.specs.declared.limits.TheConstants.{GREATEST_ENERGY, BLOCK_SEGMENTS, WINDOW_SEGMENTS, MOST_SEGMENTS}
use Rattle.sound_model.specs.Blocks.{neighbour_sums}
use Rattle.sound_model.specs.Loudness.{greatest}
use Rattle.sound_model.proofs.AlbumLaws.{greatest-reaches}
use Rattle.gate_blocks.proofs.Summing.{length-neighbour_sums}
use Rattle.album_merge.proofs.tallies.TrackTally.make.Goals as goal

-- so many sums of neighbours are no more than the segments
few_sums : (count : ℕ) (energies sums : List ℕ) → length energies ≤ MOST_SEGMENTS → sums ≡ neighbour_sums count energies
    → length sums ≤ MOST_SEGMENTS
few_sums count energies sums few are = let same = ap length are in omega (arith, few, same, length-neighbour_sums count energies)

-- each is no greater than the greatest
within_greatest : (sums slice : List ℕ) (most : ℕ) → slice ≡ sums → most ≡ greatest slice → All (λ z. z ≤ most) sums
within_greatest sums slice most same is =
    let Within : ℕ → Type 0 = λ n. All (λ z. z ≤ n) sums in subst Within (sym (is ∙ ap greatest same)) (greatest-reaches sums)

pub invariant_of-result : goal.invariant_of-result
invariant_of-result g c =
    let energies = c.args.measured.now.energies in
    let segments : length energies ≤ MOST_SEGMENTS = omega (arith, c.requires.count, c.requires.frames) in
    let few : length energies ≤ 2 ^ 25 = omega (arith, segments) in
    let blocks = c.in_ok-blocks.ensures.bounds (rw c.as_slice.ensures few) in
    let windows = c.in_ok-windows.ensures.bounds (rw c.as_slice-2.ensures few) in
    let Blocks : List ℕ → Type 0 = λ zs. All (λ z. z ≤ BLOCK_SEGMENTS * GREATEST_ENERGY) zs in
    let Windows : List ℕ → Type 0 = λ zs. All (λ z. z ≤ WINDOW_SEGMENTS * GREATEST_ENERGY) zs in
    record {
      blocks_within = blocks.within;
      few_blocks = few_sums 4 energies c.in_ok-blocks.blocks segments (c.in_ok-blocks.ensures.sums ∙ ap (neighbour_sums 4) c.as_slice.ensures);
      windows_within = within_greatest c.in_ok-windows.windows c.as_slice-6.result.now c.greatest-2.result c.as_slice-6.ensures c.greatest-2.ensures.value;
      few_windows = few_sums 30 energies c.in_ok-windows.windows segments (c.in_ok-windows.ensures.sums ∙ ap (neighbour_sums 30) c.as_slice-2.ensures);
      block = c.greatest.ensures.within (BLOCK_SEGMENTS * GREATEST_ENERGY) (subst Blocks (sym c.as_slice-5.ensures) blocks.within);
      window = c.greatest-2.ensures.within (WINDOW_SEGMENTS * GREATEST_ENERGY) (subst Windows (sym c.as_slice-6.ensures) windows.within);
      frames = omega (arith, c.in_ok-summary.ensures.frames_kept, c.requires.frames);
      peak = omega (arith, c.in_ok-summary.ensures.peak_kept, c.requires.peak);
    }
