-- The next frame: how many samples are read is tried between its header and its rest.
use Rattle.std.proofs.Common.{◌≡◌, ◌≤◌, ◌<◌, ◌+◌, ◌*◌, inl, inr, ℕ, Bool, true, false, not, cond, List, Result, Ok, Err, refl, ap, sym, ◌∙◌, subst, arith}
use Rattle.std.specs.Prelude.{nat_le, IfOk}
use Rattle.std.proofs.lemmas.Bool.{leb-true}
use Rattle.std.proofs.lemmas.Nat.{mul-le}
use Rattle.lib_base.specs.declared.outcomes.Broken.{Broken}
use Rattle.lib_base.specs.declared.limits.TheConstants.{MOST_SAMPLES}
use Rattle.file_model.specs.declared.flac_info.Info.{Info}
use Rattle.file_model.specs.declared.flac_rules.FlacRule.{FlacRule}
use Rattle.file_model.specs.declared.flac_rules.FlacRule.TheVariants.{TooManySamples}
use Rattle.file_model.specs.FlacFile.{NextFrame}
use Rattle.file_model.specs.FlacFrame.{FlacFrame, Frame}
use Rattle.file_model.specs.FlacHeader.{FlacHeader, header_at}
use Rattle.file_model.specs.Outcomes.{holds}
use Rattle.flac_frames.specs.declared.frame.FrameEnd.{FrameEnd}
use Rattle.flac_frames.specs.Answers.{Answers}
use Rattle.flac_frames.specs.Frames.{HasBlock}

tried : Bool → Result Bool FlacRule
tried fits = holds fits TooManySamples

-- the header is refused
pub header_broken : (info : Info) (before : ℕ) (bytes : List ℕ) (rule : FlacRule) → Err rule ≡ header_at info bytes
    → NextFrame info before bytes (Err rule)
header_broken info before bytes rule is = inr (rule, is, refl)

-- there would be too many samples
pub too_many : (info : Info) (before : ℕ) (bytes : List ℕ) (header : FlacHeader) → Ok header ≡ header_at info bytes
    → nat_le (info.channels * (before + header.block)) MOST_SAMPLES ≡ false → NextFrame info before bytes (Err TooManySamples)
unfolding tried
too_many info before bytes header is more = inl (header, is, inr (TooManySamples, sym (ap tried more), refl))

-- there are not, so what comes is what the frame is
frame_next : (info : Info) (before : ℕ) (bytes : List ℕ) (header : FlacHeader) (out : Result FlacFrame FlacRule)
    → Ok header ≡ header_at info bytes → nat_le (info.channels * (before + header.block)) MOST_SAMPLES ≡ true
    → Frame info bytes out → NextFrame info before bytes out
unfolding tried
frame_next info before bytes header out is fits (inl (other, is_other, body)) =
    let outcomes = is ∙ sym is_other in
    let same : header ≡ other = cc in
    let fits_other = subst (λ (h : FlacHeader). nat_le (info.channels * (before + h.block)) MOST_SAMPLES ≡ true) same fits in
    inl (other, is_other, inl (true, sym (ap tried fits_other), body))
frame_next info before bytes header out is fits (inr (fault, is_fault, out_is)) = let outcomes = is ∙ sym is_fault in absurd cc

-- and so it is answered
pub next_answers : (result : Result FrameEnd Broken) (view : FrameEnd → FlacFrame) (place : ℕ) (info : Info) (before : ℕ) (bytes : List ℕ) (header : FlacHeader)
    → Ok header ≡ header_at info bytes → nat_le (info.channels * (before + header.block)) MOST_SAMPLES ≡ true
    → Answers view place (Frame info bytes) result → Answers view place (NextFrame info before bytes) result
next_answers (Ok end) view place info before bytes header is fits h = frame_next info before bytes header (Ok (view end)) is fits h
next_answers (Err broken) view place info before bytes header is fits h = (h.0, frame_next info before bytes header (Err h.0) is fits h.1, h.2)

-- so many samples of each channel are read
pub samples_fit : (result : Result FrameEnd Broken) (info : Info) (before : ℕ) (bytes : List ℕ) (header : FlacHeader)
    → Ok header ≡ header_at info bytes → nat_le (info.channels * (before + header.block)) MOST_SAMPLES ≡ true → 1 ≤ info.channels
    → IfOk result (λ end. HasBlock info bytes end.block) → IfOk result (λ end. before + end.block ≤ MOST_SAMPLES)
samples_fit (Ok end) info before bytes header is fits some h =
    let outcomes = is ∙ h.1 in
    let same : header ≡ h.0 = cc in
    let block : end.block ≡ header.block = h.2 ∙ ap (λ (f : FlacHeader). f.block) (sym same) in
    let most = leb-true (info.channels * (before + header.block)) MOST_SAMPLES fits in
    let itself : before + header.block ≤ before + header.block = omega arith in
    let more = mul-le 1 (before + header.block) info.channels (before + header.block) some itself in
    omega (arith, block, most, more)
samples_fit (Err broken) info before bytes header is fits some h = tt

-- a test, as it is told
pub turned : (test fact : Bool) → test ≡ not fact → test ≡ true → fact ≡ false
turned test true is told = let both = sym is ∙ told in absurd cc
turned test false is told = refl

pub unturned : (test fact : Bool) → test ≡ not fact → test ≡ false → fact ≡ true
unturned test true is told = refl
unturned test false is told = let both = sym is ∙ told in absurd cc
