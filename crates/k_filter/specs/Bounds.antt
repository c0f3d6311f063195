-- Bounds of what a filter keeps, and of what it adds up.
use Rattle.std.specs.Prelude.{◌≤◌, ◌<◌, ◌^◌, ℕ, ℤ, ◌*ℤ◌, unsigned_abs}
use Rattle.sound_model.specs.Weighted.{Section}
use Rattle.k_filter.specs.declared.sections.Recent.{Recent}

-- both values are within a limit
pub record IsWithin (limit : ℕ) (recent : Recent) : Type 0 where
  pub last : unsigned_abs recent.last ≤ limit
  pub before : unsigned_abs recent.before ≤ limit

-- The five products that a section's next output is made of are below 2^102.
pub record HasSmallProducts (s : Section) (x0 x1 x2 u1 u2 : ℤ) : Type 0 where
  pub b0 : unsigned_abs (s.b0 *ℤ x0) < 2 ^ 102
  pub b1 : unsigned_abs (s.b1 *ℤ x1) < 2 ^ 102
  pub b2 : unsigned_abs (s.b2 *ℤ x2) < 2 ^ 102
  pub a1 : unsigned_abs (s.a1 *ℤ u1) < 2 ^ 102
  pub a2 : unsigned_abs (s.a2 *ℤ u2) < 2 ^ 102
