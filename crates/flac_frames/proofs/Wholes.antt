-- Headers are whole bytes.
use Rattle.std.proofs.Common.{◌≡◌, ◌≤◌, ◌+◌, ◌-◌, ◌*◌, ◌/◌, ◌%◌, ℕ, zero, suc, Bool, true, false, List, length, length-drop, drop, refl, ap, sym, ◌∙◌, subst, cond, arith}
use Rattle.std.specs.Prelude.{Result, Ok, Err, nat_eq, if◌then◌else◌}
use Rattle.file_model.specs.declared.bits.BitFault.{BitFault}
use Rattle.file_model.specs.declared.bits.BitFault.TheVariants.{Cut, BadNumber}
use Rattle.file_model.specs.Fields.{field, lead, coded_more, coded_at}
use Rattle.file_model.specs.Outcomes.{◌>>=◌}
use Rattle.file_model.proofs.FieldsLemmas.{field_parts}
use Rattle.flac_frames.specs.Headers.{TakesBytes}

-- what is behind a field is shorter by its bits
pub field_shorter : (count value : ℕ) (bits rest : List Bool) → field count bits ≡ Ok (value, rest) → length bits ≡ count + length rest
field_shorter count value bits rest is =
    let parts = field_parts count value bits rest is in
    let behind = ap length parts.2 in
    let size = length-drop count bits in
    let enough = parts.0 in
    omega (arith, behind, size, enough)

-- two readings gave a value: so did each of them
pub both_give : {A B E : Type 0} (read : Result A E) (next : A → Result B E) (out : B) → (read >>= next) ≡ Ok out
    → (value : A) × (read ≡ Ok value) × (next value ≡ Ok out)
both_give (Ok value) next out is = (value, refl, is)
both_give (Err fault) next out is = cc

-- a reading that is no fault was not left out
taken : {A E : Type 0} (is_taken : Bool) (read : Result A E) (fault : E) (out : A)
    → (if is_taken then read else Err fault) ≡ Ok out → read ≡ Ok out
taken true read fault out is = is
taken false read fault out is = cc

-- the bytes behind the first one of a coded number are whole
coded_more_whole : (count value : ℕ) (bits : List Bool) (out : ℕ × List Bool) → coded_more count value bits ≡ Ok out
    → TakesBytes bits out.1
unfolding coded_more
coded_more_whole zero value bits out is =
    let pair : (value, bits) ≡ out = cc in
    let P : ℕ × List Bool → Type 0 = λ o. TakesBytes bits o.1 in subst P pair (omega arith, refl)
coded_more_whole (suc count) value bits out is =
    let first = both_give (field 8 bits) _ out is in
    let shorter = field_shorter 8 first.0.0 bits first.0.1 first.1 in
    let others = coded_more_whole count (value * 64 + first.0.0 % 64) first.0.1 out (taken (nat_eq (first.0.0 / 64) 2) _ BadNumber out first.2) in
    (omega (arith, shorter, others.0), omega (arith, shorter, others.1))

-- a coded number is whole bytes
pub coded_whole : (bits : List Bool) (out : ℕ × List Bool) → coded_at bits ≡ Ok out → TakesBytes bits out.1
unfolding coded_at
coded_whole bits out is =
    let first = both_give (field 8 bits) _ out is in
    let shorter = field_shorter 8 first.0.0 bits first.0.1 first.1 in
    let high = both_give (lead first.0.0) _ out first.2 in
    let others = coded_more_whole high.0.0 high.0.1 first.0.1 out high.2 in
    (omega (arith, shorter, others.0), omega (arith, shorter, others.1))
