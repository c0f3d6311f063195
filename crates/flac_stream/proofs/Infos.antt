-- The fields of STREAMINFO, one after another.
use Rattle.std.proofs.Common.{◌≡◌, ◌≤◌, ◌+◌, ◌*◌, ◌^◌, ℕ, Bool, true, false, List, length, take, drop, length-take, length-drop, Result, Ok, Err, refl, ap, sym, ◌∙◌, subst, arith}
use Rattle.std.specs.Prelude.{◌&&◌, nat_le}
use Rattle.std.proofs.lemmas.Bool.{leb-true}
use Rattle.std.proofs.Math.Seq.{take-add}
use Rattle.std.proofs.lemmas.List.{drop-drop}
use Rattle.lib_base.specs.Sounds.{part}
use Rattle.file_model.specs.Bits.{bits, number}
use Rattle.file_model.specs.Fields.{field}
use Rattle.file_model.specs.declared.flac_info.Info.{Info}
use Rattle.file_model.specs.declared.flac_rules.FlacRule.{FlacRule}
use Rattle.file_model.specs.declared.flac_rules.FlacRule.TheVariants.{OtherRate, OtherChannels, OtherDepth}
use Rattle.file_model.specs.FlacFile.{FlacBreak, bits_number, info_in, info_at, breaks_at}
use Rattle.file_model.specs.Outcomes.{◌>>=◌, holds}
use Rattle.flac_stream.specs.Infos.{info_ruled, place_in}
use Rattle.file_model.proofs.BitsLemmas.{length-bits, bits-drop, number-append}
use Rattle.file_model.proofs.FieldsLemmas.{field_whole}

-- the number in bits of a content, as a field behind others
pub number_behind : (content : List ℕ) (left : List Bool) (from count : ℕ) → left ≡ drop from (bits content) → from + count ≤ 8 * length content
    → field count left ≡ Ok (bits_number content from count, drop (from + count) (bits content))
number_behind content left from count is inside =
    let long = length-bits content in
    let rest = length-drop from (bits content) in
    let size = ap length is in
    field_whole count left (omega (arith, long, rest, size, inside))
    ∙ ap (λ (xs : List Bool). Ok (number (take count xs), drop count xs)) is
    ∙ ap (λ (xs : List Bool). Ok (bits_number content from count, xs)) (drop-drop count from (bits content))

-- a number in two parts, of 4 and of 32 bits
pub number_of_36 : (content : List ℕ) → length content ≡ 34 → bits_number content 108 4 * 2 ^ 32 + bits_number content 112 32 ≡ bits_number content 108 36
number_of_36 content long =
    let ys : List Bool = drop 108 (bits content) in
    let total = length-bits content in
    let behind = length-drop 108 (bits content) in
    let more = length-drop 4 ys in
    let size : length (take 32 (drop 4 ys)) ≡ 32 = length-take 32 (drop 4 ys) ∙ omega (arith, total, behind, more, long) in
    sym (ap number (take-add 4 32 ys) ∙ number-append (take 4 ys) (take 32 (drop 4 ys))
    ∙ ap (λ (n : ℕ). number (take 4 ys) * 2 ^ n + number (take 32 (drop 4 ys))) size
    ∙ ap (λ (zs : List Bool). number (take 4 ys) * 2 ^ 32 + number (take 32 zs)) (drop-drop 4 108 (bits content)))

-- where the rate stands
pub at_rate : (content : List ℕ) → length content ≡ 34 → bits (drop 10 content) ≡ drop 80 (bits content)
at_rate content long = sym (bits-drop 10 content (omega (arith, long)))

-- all fields
pub info_is : (content : List ℕ) (rate channels depth high low total : ℕ) (digest : List ℕ) → length content ≡ 34
    → rate ≡ bits_number content 80 20 → channels ≡ bits_number content 100 3 → depth ≡ bits_number content 103 5
    → high ≡ bits_number content 108 4 → low ≡ bits_number content 112 32 → total ≡ high * 2 ^ 32 + low → digest ≡ part content 18 16
    → record { rate = rate; channels = channels + 1; depth = depth + 1; total = total; md5 = digest } ≡ info_in content
unfolding info_in
info_is content rate channels depth high low total digest long a b c d e f g =
    let whole : total ≡ bits_number content 108 36 =
    f ∙ ap (λ (n : ℕ). n * 2 ^ 32 + low) d ∙ ap (λ (n : ℕ). bits_number content 108 4 * 2 ^ 32 + n) e ∙ number_of_36 content long in
    ap (λ (r : ℕ). record { rate = r; channels = channels + 1; depth = depth + 1; total = total; md5 = digest }) a
    ∙ ap (λ (n : ℕ). record { rate = bits_number content 80 20; channels = n + 1; depth = depth + 1; total = total; md5 = digest }) b
    ∙ ap (λ (n : ℕ). record { rate = bits_number content 80 20; channels = bits_number content 100 3 + 1; depth = n + 1; total = total; md5 = digest }) c
    ∙ ap (λ (n : ℕ). record { rate = bits_number content 80 20; channels = bits_number content 100 3 + 1; depth = bits_number content 103 5 + 1; total = n; md5 = digest }) whole
    ∙ ap (λ (m : List ℕ). record { rate = bits_number content 80 20; channels = bits_number content 100 3 + 1; depth = bits_number content 103 5 + 1; total = bits_number content 108 36; md5 = m }) g

-- the three rules, with and without a place
ruled : Bool → Bool → Bool → Info → Result Info FlacRule
ruled a b c info = do
  _ ← holds a OtherRate
  _ ← holds b OtherChannels
  _ ← holds c OtherDepth
  Ok info

placed : Bool → Bool → Bool → Info → Result Info FlacBreak
placed a b c info = do
  _ ← holds a (breaks_at OtherRate 10)
  _ ← holds b (breaks_at OtherChannels 12)
  _ ← holds c (breaks_at OtherDepth 12)
  Ok info

there : (one rule : FlacRule) → ◌≡◌ {A = Result Info FlacRule} (Err one) (Err rule)
    → ◌≡◌ {A = Result Info FlacBreak} (Err (record { rule = one; place = place_in one })) (Err (record { rule = rule; place = place_in rule }))
there one rule is = let same : one ≡ rule = cc in ap (λ (r : FlacRule). Err (record { rule = r; place = place_in r })) same

placed_broken : (a b c : Bool) (info : Info) (rule : FlacRule) → ruled a b c info ≡ Err rule → placed a b c info ≡ Err (record { rule = rule; place = place_in rule })
unfolding ruled placed
placed_broken false b c info rule is = there OtherRate rule is
placed_broken true false c info rule is = there OtherChannels rule is
placed_broken true true false info rule is = there OtherDepth rule is
placed_broken true true true info rule is = absurd cc

placed_whole : (a b c : Bool) (info said : Info) → ruled a b c info ≡ Ok said → placed a b c info ≡ Ok said
unfolding ruled placed
placed_whole false b c info said is = absurd cc
placed_whole true false c info said is = absurd cc
placed_whole true true false info said is = absurd cc
placed_whole true true true info said is = let same : info ≡ said = cc in ap Ok same

pub info_broken : (content : List ℕ) (rule : FlacRule) → info_ruled content ≡ Err rule → info_at content ≡ Err (record { rule = rule; place = place_in rule })
unfolding info_ruled info_at ruled placed
info_broken content rule is = placed_broken _ _ _ (info_in content) rule is

pub info_whole : (content : List ℕ) (said : Info) → info_ruled content ≡ Ok said → info_at content ≡ Ok said
unfolding info_ruled info_at ruled placed
info_whole content said is = placed_whole _ _ _ (info_in content) said is

-- ---- what is read

placed_fits : (a b c : Bool) (info said : Info) → placed a b c info ≡ Ok said → (b ≡ true) × (c ≡ true) × (info ≡ said)
unfolding placed
placed_fits false b c info said is = absurd cc
placed_fits true false c info said is = absurd cc
placed_fits true true false info said is = absurd cc
placed_fits true true true info said is = let same : info ≡ said = cc in (refl, refl, same)

both_true : (a b : Bool) → (a && b) ≡ true → (a ≡ true) × (b ≡ true)
both_true true b is = (refl, is)
both_true false b is = absurd cc

some_in : (content : List ℕ) → 1 ≤ (info_in content).channels
unfolding info_in
some_in content = omega arith

-- the channels and the bits of a sample are within bounds
pub record IsWithin (info : Info) : Type 0 where
  pub some : 1 ≤ info.channels
  pub few : info.channels ≤ 6
  pub low : 4 ≤ info.depth
  pub high : info.depth ≤ 24

fits_in : (info : Info) → 1 ≤ info.channels → nat_le info.channels 6 ≡ true → (nat_le 4 info.depth && nat_le info.depth 24) ≡ true → IsWithin info
fits_in info some few depth =
    let both = both_true (nat_le 4 info.depth) (nat_le info.depth 24) depth in
    record {
      some = some;
      few = leb-true info.channels 6 few;
      low = leb-true 4 info.depth both.0;
      high = leb-true info.depth 24 both.1;
    }

pub info_fits : (content : List ℕ) (info : Info) → info_at content ≡ Ok info → IsWithin info
unfolding info_at placed
info_fits content info is =
    let tests = placed_fits _ _ _ (info_in content) info is in
    subst IsWithin tests.2 (fits_in (info_in content) (some_in content) tests.0 tests.1)
