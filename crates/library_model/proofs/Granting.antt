-- Imports and retakes that nothing refuses are granted.
use Rattle.std.proofs.Common.{◌≡◌, ◌⊎◌, inl, inr, ℕ, Bool, true, false, Option, None, Some, nat_le, List, refl, sym, ap, ◌∙◌, subst}
use Rattle.lib_base.specs.declared.limits.TheConstants.{NUMBERS_END}
use Rattle.library_model.specs.declared.messages.Command.{Command}
use Rattle.library_model.specs.declared.messages.Command.TheVariants.{NewAlbum, Import, Retake, Regroup, RemoveRecording, RemoveAlbum}
use Rattle.library_model.specs.declared.refusals.Refusal.TheVariants.{Ids}
use Rattle.library_model.specs.Asked.{Asked, change, command, malformed, question, refused}
use Rattle.library_model.specs.Findings.{Finding, Finds, measured}
use Rattle.library_model.specs.Granted.{IsGrantable, IsRetakable}
use Rattle.library_model.specs.InOrder.{IsKeptStatus}
use Rattle.library_model.specs.Machine.{Decides, DecidesChange, OfFile, OfRecording, Step, Sums, Verdict, keeping, kept_under, makes, recording_reply, retake_step, retaken, retaking, verdict_reply}
use Rattle.library_model.specs.State.{Kept, Recording, State}
use Rattle.library_model.proofs.Measuring.{Finds_unique}
use Rattle.library_model.proofs.Verdicts.{import_granted, passed}

-- The retake of a recording that is there with an accepted file under a fresh token is granted, where a take is left: its verdict
-- replies 200.
pub retake_granted : (s : State) (token mark : List ℕ) (id : ℕ) (file : List ℕ) (verdict : Verdict) → kept_under token s.replies ≡ None
    → IsRetakable s id file → Decides s (change token mark (command (Retake id file))) verdict → (verdict_reply verdict).status ≡ 200
retake_granted s token mark id file verdict fresh may decides =
    let Of : Option Kept → Type 0 = λ kept. DecidesChange s token mark (command (Retake id file)) kept verdict in
    let of_fresh : Of None = subst Of fresh decides in
    let decided : Verdict = of_fresh.0 in
    let OfFound : Option Recording → Type 0 = λ found. OfRecording found (λ r. OfFile file (retake_step s r file)) decided in
    let by : OfFound (Some may.recording) = subst OfFound may.there of_fresh.1 in
    let same : by.0 ≡ measured may.sound may.summary = Finds_unique file by.0 (measured may.sound may.summary) by.1 may.finds in
    let OfFinding : Finding → Type 0 = λ f. Sums (retake_step s may.recording file f) decided in
    let sums : OfFinding (measured may.sound may.summary) = subst OfFinding same by.2 in
    let step : Step = makes (λ _. recording_reply 200 (retaken s may.recording file may.sound may.summary))
    (retaking s may.recording file may.sound may.summary) in
    let made : Sums step decided = passed (nat_le NUMBERS_END s.next_take) Ids step decided may.left sums in
    ap (λ (v : Verdict). (verdict_reply v).status) of_fresh.2
    ∙ ap (λ (v : Verdict). (verdict_reply (keeping token mark v)).status) made.2

-- What nothing refuses is decided with 200 or 201.
pub Decides-granted : (s : State) (asked : Asked) (verdict : Verdict) → IsGrantable s asked → Decides s asked verdict
    → IsKeptStatus (verdict_reply verdict).status
Decides-granted s (refused reply) verdict may decides = absurd may
Decides-granted s (question about) verdict may decides = absurd may
Decides-granted s (change token mark (malformed reply)) verdict may decides = absurd may
Decides-granted s (change token mark (command (Import album name file))) verdict may decides =
    let import = may.1 in
    inr (import_granted s token mark album name file import.sound import.summary verdict may.0 import.there import.finds import.room
    import.left decides)
Decides-granted s (change token mark (command (Retake id file))) verdict may decides =
    inl (retake_granted s token mark id file verdict may.0 may.1 decides)
Decides-granted s (change token mark (command (NewAlbum name))) verdict may decides = absurd may.1
Decides-granted s (change token mark (command (Regroup id album))) verdict may decides = absurd may.1
Decides-granted s (change token mark (command (RemoveRecording id))) verdict may decides = absurd may.1
Decides-granted s (change token mark (command (RemoveAlbum id))) verdict may decides = absurd may.1
