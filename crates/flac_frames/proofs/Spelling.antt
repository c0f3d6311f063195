-- What comes of a channel, by its parts.
use Rattle.std.proofs.Common.{◌≡◌, ◌-◌, ◌^◌, inl, inr, ℕ, List, Bool, Result, Ok, Err, refl, ap, sym, ◌∙◌, subst}
use Rattle.std.specs.Prelude.{ℤ, pos, ◌*ℤ◌, map}
use Rattle.file_model.specs.declared.flac_rules.FlacRule.{FlacRule}
use Rattle.file_model.specs.declared.flac_rules.FlacRule.TheVariants.{OutOfRange}
use Rattle.file_model.specs.Outcomes.{◌>>=◌, Finds}
use Rattle.file_model.specs.Predict.{Spells}
use Rattle.file_model.specs.Subframe.{Coding, Coded, subframe_head_at, content_at, subframe_at, IsSpelledBy, Channel}
use Rattle.flac_frames.specs.Answers.{Comes}
use Rattle.flac_frames.specs.Subframes.{Spelled}

-- the head breaks a rule
pub head_refused : (block depth : ℕ) (bits : List Bool) (rule : FlacRule) → subframe_head_at block depth bits ≡ Err rule → Channel block depth bits (Err rule)
unfolding subframe_at
head_refused block depth bits rule is =
    inr (rule, sym (ap (λ (r : Result ((Coding × ℕ) × List Bool) FlacRule). r >>= λ head. content_at head.0.0 block (depth - head.0.1) head.0.1 head.1) is), refl)

whole : (block depth : ℕ) (bits rest : List Bool) (coding : Coding) (wasted : ℕ) → subframe_head_at block depth bits ≡ Ok ((coding, wasted), rest)
    → subframe_at block depth bits ≡ content_at coding block (depth - wasted) wasted rest
unfolding subframe_at
whole block depth bits rest coding wasted head =
    ap (λ (r : Result ((Coding × ℕ) × List Bool) FlacRule). r >>= λ head. content_at head.0.0 block (depth - head.0.1) head.0.1 head.1) head

-- what follows a head
pub behind_head : {X : Type 0} (result : Result X FlacRule) (block depth : ℕ) (bits rest next : List Bool) (coding : Coding) (wasted : ℕ) (out : List ℤ)
    → subframe_head_at block depth bits ≡ Ok ((coding, wasted), rest)
    → Comes (λ (_ : X). (out, next)) (Spelled depth (content_at coding block (depth - wasted) wasted rest)) result
    → Comes (λ (_ : X). (out, next)) (Channel block depth bits) result
behind_head {X = X} result block depth bits rest next coding wasted out head comes =
    subst (λ (coded : Result (Coded × List Bool) FlacRule). Comes (λ (_ : X). (out, next)) (Spelled depth coded) result)
    (sym (whole block depth bits rest coding wasted head)) comes

-- what is coded breaks a rule
pub content_refused : (depth : ℕ) (given : Result (Coded × List Bool) FlacRule) (rule : FlacRule) → given ≡ Err rule → Spelled depth given (Err rule)
content_refused depth given rule is = inr (rule, sym is, refl)

-- it spells samples or none
pub coded_comes : {X : Type 0} (result : Result X FlacRule) (depth : ℕ) (given : Result (Coded × List Bool) FlacRule) (coded : Coded) (rest : List Bool) (out : List ℤ)
    → given ≡ Ok (coded, rest) → Comes (λ (_ : X). out) (Finds (IsSpelledBy depth coded) OutOfRange) result
    → Comes (λ (_ : X). (out, rest)) (Spelled depth given) result
coded_comes (Ok value) depth given coded rest out is finds = inl ((coded, rest), sym is, inl (out, finds, refl))
coded_comes (Err rule) depth given coded rest out is finds = inl ((coded, rest), sym is, inr (rule, finds, refl))

-- no samples are spelled
pub none_spelled : (depth : ℕ) (coded : Coded) (rule : FlacRule)
    → ((spelled : List ℤ) → ¬ Spells coded.weights coded.shift (depth - coded.wasted) spelled coded.numbers) × (rule ≡ OutOfRange)
    → Finds (IsSpelledBy depth coded) OutOfRange (Err rule)
none_spelled depth coded rule none = (λ samples is. none.0 is.spelled is.spells, none.1)
