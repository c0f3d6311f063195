use Rattle.std.proofs.Common.{◌≡◌, ◌∙◌, true, refl, sym, subst}
use Rattle.keeper_store.specs.declared.contents.NextNumbers.{NextNumbers}
use Rattle.library_model.specs.Replies.{refusal}
use Rattle.library_model.specs.Stands.{tables_of}
use Rattle.library_model.specs.declared.messages.Command.TheVariants.{Import}
use Rattle.library_model.specs.declared.refusals.Refusal.TheVariants.{AlbumFull, Ids}
use Rattle.library_model.proofs.Refusing.{import_full, import_ids}
use Rattle.catalogue_core.specs.Looking.{lacks_numbers}
use Rattle.catalogue_core.proofs.Exits.{leaves_after, refuses}
use Rattle.catalogue_core.proofs.Imports.{crowds_none}
use Rattle.catalogue_core.proofs.Taken.{finds_take}
use Rattle.catalogue_core.proofs.importing.import_measured.Goals as goal

pub returns-clause-decides : goal.returns-clause-decides
returns-clause-decides g c = λ s token mark holds open_ home take.
    let few = sym (c.if-is_full.ensures (tables_of s) holds home.there) in
    c.plan_import.ensures.decides s token mark (c.reserve_in.ensures.held (tables_of s) (c.reserve.ensures.held (tables_of s) holds)) open_ home take few

pub returns-clause-leaves : goal.returns-clause-leaves
returns-clause-leaves g c =
    leaves_after c.args.library.now _ c.plan_import.new.library c.plan_import.result
    (λ t holds. c.reserve_in.ensures.held t (c.reserve.ensures.held t holds)) (c.reserve_in.ensures.numbers ∙ c.reserve.ensures.numbers) refl
    c.plan_import.ensures.leaves

pub returns-then-is_full-clause-decides : goal.returns-then-is_full-clause-decides
returns-then-is_full-clause-decides g c = λ s token mark holds open_ home take.
    let a = c.args in
    let full = crowds_none (tables_of s) a.album ∙ sym (c.if-is_full.ensures (tables_of s) holds home.there) in
    refuses c.refused.result s token mark (Import a.album a.name.now a.file.now) (refusal AlbumFull) c.refused.ensures
    (import_full s token mark a.album a.name.now a.file.now take.sound a.tally.summary open_.valid open_.fresh home.there
    (finds_take a.file.now a.measured.now a.tally take) full)

pub returns-then-lacks_numbers-clause-decides : goal.returns-then-lacks_numbers-clause-decides
returns-then-lacks_numbers-clause-decides g c = λ s token mark holds open_ home take.
    let a = c.args in
    let few = crowds_none (tables_of s) a.album ∙ sym (c.if-is_full.ensures (tables_of s) holds home.there) in
    let lacks = sym (subst (λ (n : NextNumbers). true ≡ lacks_numbers n) (c.next_numbers.ensures ∙ holds.numbers) c.if-lacks_numbers.ensures) in
    refuses c.refused-then-lacks_numbers.result s token mark (Import a.album a.name.now a.file.now) (refusal Ids) c.refused-then-lacks_numbers.ensures
    (import_ids s token mark a.album a.name.now a.file.now take.sound a.tally.summary open_.valid open_.fresh home.there
    (finds_take a.file.now a.measured.now a.tally take) few lacks)

pub plan_import-requires-clause-room : goal.plan_import-requires-clause-room
plan_import-requires-clause-room g c = c.reserve_in.ensures.kept.room 6 c.in_ok-reserve.ensures.room
