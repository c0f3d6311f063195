use Rattle.std.proofs.Common.{◌≡◌, sym}
use Rattle.library_model.specs.Replies.{format_refusal, refusal}
use Rattle.library_model.specs.Stands.{tables_of}
use Rattle.library_model.specs.declared.messages.Command.TheVariants.{Import}
use Rattle.library_model.specs.declared.refusals.Refusal.TheVariants.{NoAlbum}
use Rattle.library_model.proofs.Refusing.{import_broken, import_no_album}
use Rattle.catalogue_core.proofs.Exits.{refuses}
use Rattle.catalogue_core.proofs.importing.decide_import.Goals as goal

pub returns-then-not-is_there-clause-decides : goal.returns-then-not-is_there-clause-decides
returns-then-not-is_there-clause-decides g c = λ s token mark keeps fresh.
    refuses c.refused.result s token mark (Import c.args.album c.args.name.now c.args.file.now) (refusal NoAlbum) c.refused.ensures
    (import_no_album s token mark c.args.album c.args.name.now c.args.file.now fresh (sym (c.if-not-is_there.ensures (tables_of s) keeps.rows)))

pub returns-in-Broken-clause-decides : goal.returns-in-Broken-clause-decides
returns-in-Broken-clause-decides g c = λ s token mark keeps fresh.
    let fault = c.in-Broken.fault in
    let found = rw c.in-Broken.is at c.in_ok-fault.ensures in
    refuses c.refused_for.result s token mark (Import c.args.album c.args.name.now c.args.file.now) (format_refusal fault.rule fault.place) c.refused_for.ensures
    (import_broken s token mark c.args.album c.args.name.now c.args.file.now fault.rule fault.place fresh
    (sym (c.if-not-is_there.ensures (tables_of s) keeps.rows)) found)

pub returns-in-Accepted-clause-decides : goal.returns-in-Accepted-clause-decides
returns-in-Accepted-clause-decides g c = λ s token mark keeps fresh.
    let found = rw c.in-Accepted.is at c.in_ok-fault.ensures in
    c.import_measured.ensures.decides s token mark keeps.rows (record { valid = keeps.valid; fresh = fresh })
    (record { named = c.requires.named; there = sym (c.if-not-is_there.ensures (tables_of s) keeps.rows) })
    (record { within = c.requires.within; sound = found.0; reads = found.1; measured = found.2 })
