use Rattle.std.proofs.Common.{◌≡◌, ◌∙◌, sym}
use Rattle.library_model.specs.Replies.{format_refusal, refusal}
use Rattle.library_model.specs.Stands.{tables_of}
use Rattle.library_model.specs.declared.messages.Command.TheVariants.{Retake}
use Rattle.library_model.specs.declared.refusals.Refusal.TheVariants.{NoRecording}
use Rattle.library_model.proofs.Refusing.{retake_broken, retake_no_recording}
use Rattle.catalogue_core.proofs.Exits.{refuses}
use Rattle.catalogue_core.proofs.retaking.decide_retake.Goals as goal

pub returns-in-Broken-clause-decides : goal.returns-in-Broken-clause-decides
returns-in-Broken-clause-decides g c = λ s token mark keeps fresh.
    let fault = c.in-Broken.fault in
    let there = sym (c.in_ok-old.ensures (tables_of s) keeps.rows) ∙ c.in-Some.is in
    let found = rw c.in-Broken.is at c.in_ok-fault.ensures in
    refuses c.refused_for.result s token mark (Retake c.args.id c.args.file.now) (format_refusal fault.rule fault.place) c.refused_for.ensures
    (retake_broken s token mark c.args.id c.in-Some.old c.args.file.now fault.rule fault.place fresh there found)

pub returns-in_default-clause-decides : goal.returns-in_default-clause-decides
returns-in_default-clause-decides g c = λ s token mark keeps fresh.
    refuses c.refused.result s token mark (Retake c.args.id c.args.file.now) (refusal NoRecording) c.refused.ensures
    (retake_no_recording s token mark c.args.id c.args.file.now fresh (sym (c.in_ok-old.ensures (tables_of s) keeps.rows) ∙ c.in_default.is))

pub returns-in-Accepted-clause-decides : goal.returns-in-Accepted-clause-decides
returns-in-Accepted-clause-decides g c = λ s token mark keeps fresh.
    let there = sym (c.in_ok-old.ensures (tables_of s) keeps.rows) ∙ c.in-Some.is in
    let found = rw c.in-Accepted.is at c.in_ok-fault.ensures in
    c.retake_measured.ensures.decides s token mark keeps.rows (record { valid = keeps.valid; fresh = fresh }) there
    (record { within = c.requires.within; sound = found.0; reads = found.1; measured = found.2 })
