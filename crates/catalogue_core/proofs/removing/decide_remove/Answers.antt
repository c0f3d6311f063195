use Rattle.std.proofs.Common.{◌≡◌, ◌∙◌, refl, sym}
use Rattle.library_model.specs.Replies.{refusal}
use Rattle.library_model.specs.Stands.{tables_of}
use Rattle.library_model.specs.declared.messages.Command.TheVariants.{RemoveRecording}
use Rattle.library_model.specs.declared.refusals.Refusal.TheVariants.{NoRecording}
use Rattle.library_model.proofs.Refusing.{remove_no_recording}
use Rattle.catalogue_core.proofs.Exits.{leaves_after, refuses}
use Rattle.catalogue_core.proofs.removing.decide_remove.Goals as goal

pub returns-in_default-clause-decides : goal.returns-in_default-clause-decides
returns-in_default-clause-decides g c = λ s token mark keeps fresh.
    refuses c.refused.result s token mark (RemoveRecording c.args.id) (refusal NoRecording) c.refused.ensures
    (remove_no_recording s token mark c.args.id fresh (sym (c.in_ok-old.ensures (tables_of s) keeps.rows) ∙ c.in_default.is))

pub returns-clause-decides : goal.returns-clause-decides
returns-clause-decides g c = λ s token mark keeps fresh.
    let there = sym (c.in_ok-old.ensures (tables_of s) keeps.rows) ∙ c.in-Some.is in
    c.plan_remove.ensures.decides s token mark (c.reserve.ensures.held (tables_of s) keeps.rows) (record { valid = keeps.valid; fresh = fresh }) there
