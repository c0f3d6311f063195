-- The K-weighting of a channel at 48,000 Hz (BS.1770-4 Annex 1): two second-order sections, in whole numbers.
-- The coefficients are those of the standard; the fixed point and its clamps are the library's own.
use Rattle.std.specs.Prelude.{◌-◌, ◌*◌, ◌^◌, ℕ, ℤ, pos, neg_ℤ, ◌+ℤ◌, ◌-ℤ◌, ◌*ℤ◌, List, [], ◌∷◌, map, reverse, slice_index_or}
use Rattle.std.specs.Int.{int_min, int_max, int_div_euclid}
use Rattle.lib_base.specs.Sounds.{scaled}

-- the coefficients of a section, in units of 10^-14
pub record Section : Type 0 where
  pub b0 : ℤ
  pub b1 : ℤ
  pub b2 : ℤ
  pub a1 : ℤ
  pub a2 : ℤ

-- the first section, the pre-filter: a high shelf (BS.1770-4 table 1)
abbrev pub shelf : Section
shelf = record {
  b0 = pos 153512485958697;
  b1 = neg_ℤ (pos 269169618940638);
  b2 = pos 119839281085285;
  a1 = neg_ℤ (pos 169065929318241);
  a2 = pos 73248077421585;
}

-- the second section, the RLB filter: a high pass (BS.1770-4 table 2)
abbrev pub high_pass : Section
high_pass = record {
  b0 = pos 100000000000000;
  b1 = neg_ℤ (pos 200000000000000);
  b2 = pos 100000000000000;
  a1 = neg_ℤ (pos 199004745483398);
  a2 = pos 99007225036621;
}

-- a number held to the range from -limit to limit
abbrev pub held : ℕ → ℤ → ℤ
held limit z = int_max (neg_ℤ (pos limit)) (int_min (pos limit) z)

-- what a section makes of an input and the two before it, and of its own two last outputs
unfoldable pub next_output : Section → ℤ → ℤ → ℤ → ℤ → ℤ → ℤ
next_output s x0 x1 x2 u1 u2 =
    held (2 ^ 50) (int_div_euclid ((s.b0 *ℤ x0) +ℤ (s.b1 *ℤ x1) +ℤ (s.b2 *ℤ x2) -ℤ (s.a1 *ℤ u1) -ℤ (s.a2 *ℤ u2) +ℤ pos (5 * 10 ^ 13)) (pos (10 ^ 14)))

-- the value so many places back in a list with its newest first, 0 before the first one
abbrev pub back : List ℤ → ℕ → ℤ
back newest_first places = slice_index_or newest_first places (pos 0)

-- the outputs so far and the next one, for an input after these inputs; all with the newest first
abbrev pub with_next : Section → ℤ → List ℤ → List ℤ → List ℤ
with_next s x xs us = next_output s x (back xs 0) (back xs 1) (back us 0) (back us 1) ∷ us

-- a section's outputs for all inputs, both with the newest first
abbrev pub outputs : Section → List ℤ → List ℤ
outputs s [] = []
outputs s (x ∷ xs) = with_next s x xs (outputs s xs)

-- a sample as it enters, in units of 2^-39 of full scale
unfoldable pub entering : ℕ → ℤ → ℤ
entering depth sample = scaled depth sample *ℤ pos (2 ^ 16)

-- an output as it leaves, in units of 2^-27 of full scale
unfoldable pub leaving : ℤ → ℤ
leaving output = held (2 ^ 30) (int_div_euclid (output +ℤ pos (2 ^ 11)) (pos (2 ^ 12)))

-- the weighted list of a channel's samples
abbrev pub weighted : ℕ → List ℤ → List ℤ
weighted depth samples = reverse (map leaving (outputs high_pass (outputs shelf (map (entering depth) (reverse samples)))))
