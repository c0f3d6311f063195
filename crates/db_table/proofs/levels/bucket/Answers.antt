use Rattle.std.proofs.Common.{◌≡◌, ◌≤◌, ℤ, pos, negsuc, ◌+ℤ◌, ℕ, w32, w64, FitsSigned, arith, rules, sym, ◌∙◌, ap, subst, unsigned_abs}
use Rattle.std.proofs.lemmas.Int.{ints, clamps, to_z-of_z}
use Rattle.std.specs.Int.{int_max, int_min, int_div_euclid}
use Rattle.sound_model.specs.Levels.{bucket_of, held_to_buckets}
use Rattle.sound_model.proofs.LevelLaws.{level-rises, bucket_of-rises}
use Rattle.db_table.proofs.levels.bucket.Goals as goal

-- a number clamped to the buckets' places is held to them
clamped : (z r : ℤ) → r ≡ int_max (pos 0) (int_min z (pos 1023)) → r ≡ pos (held_to_buckets z)
clamped (pos n) r is = omega (arith, ints, clamps)
clamped (negsuc n) r is = omega (arith, ints, clamps)

pub returns-clause-value : goal.returns-clause-value
unfolding bucket_of
returns-clause-value c =
    let level : FitsSigned w32 c.args.level = c.ranges.level in
    let shifted : FitsSigned w64 (c.args.level +ℤ pos 14000) = search rules in
    let quotient : c.div_euclid.result ≡ int_div_euclid (c.args.level +ℤ pos 14000) (pos 20) = grind (arith, to_z-of_z) in
    let within : FitsSigned w64 c.div_euclid.result = search rules in
    let value : c.clamp.result ≡ int_max (pos 0) (int_min c.div_euclid.result (pos 1023)) = grind (arith, to_z-of_z) in
    let held = clamped c.div_euclid.result c.clamp.result value in
    let fits : FitsSigned w64 c.clamp.result = search rules in
    ap unsigned_abs (to_z-of_z w64 c.clamp.result fits ∙ (rw quotient at held))

pub returns-clause-rises : goal.returns-clause-rises
returns-clause-rises c = λ a b c' d lower is lower_is rises.
    let Above : ℕ → Type 0 = λ n. bucket_of lower ≤ n in
    subst Above (sym (returns-clause-value c)) (bucket_of-rises lower c.args.level (level-rises a b c' d c.args.level lower is lower_is rises))
