-- Segments, blocks and loudness worked by hand.
use Rattle.std.proofs.Common.{◌≡◌, ◌*◌, ◌^◌, ℕ, ℤ, negsuc, List, [], ◌∷◌, ◌++◌, length, Some, None, refl, arith}
use Rattle.lib_base.specs.declared.limits.TheConstants.{FULL_POWER}
use Rattle.sound_model.specs.Blocks.{blocks_of, windows_of}
use Rattle.sound_model.specs.Levels.{entry, hundredths}
use Rattle.sound_model.specs.Loudness.{IsBlockLevel, IsLoudness, is_audible, is_near}
use Rattle.sound_model.specs.Segments.{energies, energy_over, weights}
use Rattle.sound_model.specs.Summaries.{gain_of}
use Rattle.sound_model.proofs.LevelLaws.{level_from_root}
use Rattle.sound_model.proofs.LevelTable.{later_places_pass}

-- 4,799 frames have no segment, and 4,800 one
no_segment : (depth : ℕ) (lists : List (List ℤ)) → energies depth 4799 lists ≡ []
no_segment depth lists = refl

one_segment : (depth : ℕ) (lists : List (List ℤ)) → energies depth 4800 lists ≡ energy_over depth (weights (length lists)) lists 0 ∷ []
one_segment depth lists = refl

-- 19,199 frames have no block, and 19,200 one
no_block : (depth : ℕ) (lists : List (List ℤ)) → blocks_of (energies depth 19199 lists) ≡ []
no_block depth lists = refl

one_block : (depth : ℕ) (lists : List (List ℤ)) → length (blocks_of (energies depth 19200 lists)) ≡ 1
one_block depth lists = refl

-- a block from each segment that has three after it
blocks_of_five : blocks_of (1 ∷ 2 ∷ 4 ∷ 8 ∷ 16 ∷ []) ≡ 15 ∷ 30 ∷ []
blocks_of_five = refl

-- 29 segments have no window, and 30 one
no_window : (depth : ℕ) (lists : List (List ℤ)) → windows_of (energies depth 139200 lists) ≡ []
no_window depth lists = refl

one_window : (depth : ℕ) (lists : List (List ℤ)) → length (windows_of (energies depth 144000 lists)) ≡ 1
one_window depth lists = refl

-- the power 1920000 * 2^54 over that of 0 LUFS is 0.8529, which is -0.694 dB
of_one_block : IsBlockLevel (1920000 * 2 ^ 54) (negsuc 68)
unfolding entry hundredths
of_one_block = record {
  level = negsuc 138;
  of_ratio =
      level_from_root (125 * (1920000 * 2 ^ 54)) (24 * FULL_POWER) 0 1861 (omega arith) (omega arith) (omega arith) (omega arith)
      (later_places_pass 1862 (125 * (1920000 * 2 ^ 54) * 10 * 10 ^ 9) (24 * FULL_POWER) (omega arith));
  rounded = refl;
}

loudness_of_one_block : IsLoudness (1920000 * 2 ^ 54 ∷ []) (Some (negsuc 68))
unfolding is_audible is_near
loudness_of_one_block = of_one_block

-- its gain to -18 LUFS
gain_of_one_block : gain_of (negsuc 68) ≡ negsuc 1730
gain_of_one_block = refl

-- no block, and one at -70 LUFS or below, have no loudness
loudness_of_none : IsLoudness [] None
loudness_of_none = tt

loudness_of_a_quiet_block : IsLoudness (1 ∷ []) None
unfolding is_audible is_near
loudness_of_a_quiet_block = tt

-- Two recordings of one block each. Ten times the first block times two is the sum of both, a tie, so the first is dropped.
first_blocks : List ℕ
first_blocks = blocks_of (19200 * 2 ^ 54 ∷ 0 ∷ 0 ∷ 0 ∷ [])

second_blocks : List ℕ
second_blocks = blocks_of (364800 * 2 ^ 54 ∷ 0 ∷ 0 ∷ 0 ∷ [])

of_second_block : IsBlockLevel (364800 * 2 ^ 54) (negsuc 789)
unfolding entry hundredths
of_second_block = record {
  level = negsuc 1580;
  of_ratio =
      level_from_root (125 * (364800 * 2 ^ 54)) (24 * FULL_POWER) 0 419 (omega arith) (omega arith) (omega arith) (omega arith)
      (later_places_pass 420 (125 * (364800 * 2 ^ 54) * 10 * 10 ^ 9) (24 * FULL_POWER) (omega arith));
  rounded = refl;
}

loudness_of_both : IsLoudness (first_blocks ++ second_blocks) (Some (negsuc 789))
unfolding is_audible is_near first_blocks second_blocks
loudness_of_both = of_second_block

-- the first alone
of_first_block : IsBlockLevel (19200 * 2 ^ 54) (negsuc 2068)
unfolding entry hundredths
of_first_block = record {
  level = negsuc 4138;
  of_ratio =
      level_from_root (125 * (19200 * 2 ^ 54)) (24 * FULL_POWER) 2 1861 (omega arith) (omega arith) (omega arith) (omega arith)
      (later_places_pass 1862 (125 * (19200 * 2 ^ 54) * 10 ^ 3 * 10 ^ 9) (24 * FULL_POWER) (omega arith));
  rounded = refl;
}

loudness_of_the_first : IsLoudness first_blocks (Some (negsuc 2068))
unfolding is_audible is_near first_blocks
loudness_of_the_first = of_first_block
