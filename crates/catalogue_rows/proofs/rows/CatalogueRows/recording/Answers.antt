use Rattle.std.proofs.Common.{◌==◌, None, Some, find, ap, ◌∙◌}
use Rattle.catalogue_rows.specs.declared.kept.KeptRecording.{KeptRecording}
use Rattle.catalogue_rows.specs.KeptOrders.{kept_recording_id}
use Rattle.catalogue_rows.proofs.Changed.{recording_found}
use Rattle.catalogue_rows.proofs.rows.CatalogueRows.recording.Goals as goal

pub returns-in-Some : goal.returns-in-Some
returns-in-Some c t holds =
    recording_found c.args.self.now t c.args.id (Some c.in-Some.kept.now) holds
    (c.in-Some.ensures ∙ ap (find (λ (k : KeptRecording). kept_recording_id k == c.args.id)) c.as_slice.ensures.value)

pub returns-in-None : goal.returns-in-None
returns-in-None c t holds =
    recording_found c.args.self.now t c.args.id None holds
    (c.in-None.ensures ∙ ap (find (λ (k : KeptRecording). kept_recording_id k == c.args.id)) c.as_slice.ensures.value)
