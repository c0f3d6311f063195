use Rattle.std.proofs.Common.{◌≡◌, Option, IfOk, subst}
use Rattle.keeper_store.specs.declared.row_types.RecordingRow.{RecordingRow}
use Rattle.catalogue_core.specs.Asking.{found_row_reply}
use Rattle.catalogue_core.proofs.asking.ask_recording.Goals as goal

pub returns-in-Some : goal.returns-in-Some
returns-in-Some c = λ t holds.
    let OfFound : Option RecordingRow → Type 0 = λ found. IfOk c.describe_row.result (λ reply. reply ≡ found_row_reply found) in
    subst OfFound (c.in-Some.ensures t holds) c.describe_row.ensures

pub returns-in-None : goal.returns-in-None
returns-in-None c = λ t holds.
    let OfFound : Option RecordingRow → Type 0 = λ found. IfOk c.refuse.result (λ reply. reply ≡ found_row_reply found) in
    subst OfFound (c.in-None.ensures t holds) c.refuse.ensures
