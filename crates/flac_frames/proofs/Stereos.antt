-- A header's code of channels.
use Rattle.std.proofs.Common.{◌≡◌, ◌≢◌, ◌≤◌, ◌<◌, ◌+◌, inl, inr, ℕ, Bool, cond, refl, ap, sym, ◌∙◌, subst, arith}
use Rattle.std.specs.Prelude.{◌==◌, Option, None, Some, IfSome, if◌then◌else◌}
use Rattle.std.proofs.lemmas.Bool.{cases_lt, le-ltb, ne_eqb}
use Rattle.file_model.specs.declared.pairs.Stereo.{Stereo}
use Rattle.file_model.specs.declared.pairs.Stereo.TheVariants.{LeftSide, SideRight, MidSide}
use Rattle.file_model.specs.FlacHeader.{channels_of, stereo_of}

any : {P : Type 0} (o : Option Stereo) → P → IfSome o (λ _. P)
any None p = tt
any (Some kind) p = p

no_pair : (code : ℕ) → code < 8 → stereo_of code ≡ None
no_pair code less =
    let eight : ¬ (code ≡ 8) = λ is. absurd (omega (arith, less, is)) in
    let nine : ¬ (code ≡ 9) = λ is. absurd (omega (arith, less, is)) in
    let ten : ¬ (code ≡ 10) = λ is. absurd (omega (arith, less, is)) in
    ap (λ (b : Bool). cond b (Some LeftSide) (if code == 9 then Some SideRight else if code == 10 then Some MidSide else None)) (ne_eqb code 8 eight)
    ∙ ap (λ (b : Bool). cond b (Some SideRight) (if code == 10 then Some MidSide else None)) (ne_eqb code 9 nine)
    ∙ ap (λ (b : Bool). cond b (Some MidSide) None) (ne_eqb code 10 ten)

-- a code of a pair is one of two channels
pub two_channels : (code channels : ℕ) → channels_of code ≡ channels → IfSome (stereo_of code) (λ _. channels ≡ 2)
two_channels code channels is =
    elim (cases_lt code 8) [
      | inl less ↦ subst (λ (o : Option Stereo). IfSome o (λ _. channels ≡ 2)) (sym (no_pair code less)) tt
      | inr more ↦ any (stereo_of code) (sym is ∙ ap (λ (b : Bool). cond b (code + 1) 2) (le-ltb code 8 more))
    ]

-- where there is a pair, what holds of each does
pub of_pair : {P : Type 0} (o : Option Stereo) (kind : Stereo) → o ≡ Some kind → IfSome o (λ _. P) → P
of_pair {P = P} o kind is all = subst (λ (x : Option Stereo). IfSome x (λ _. P)) is all
