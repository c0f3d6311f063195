use Rattle.std.proofs.Common.{◌≡◌, ◌∙◌, ◌++◌, ℕ, false, refl, sym, ap, subst, map, Option, None}
use Rattle.catalogue_rows.specs.Room.{HasPlaceIn, one_in}
use Rattle.catalogue_rows.specs.declared.fresh.Fresh.{Fresh}
use Rattle.keeper_store.specs.Changes.{next_numbers}
use Rattle.keeper_store.specs.declared.contents.Change.TheVariants.{PutAlbum}
use Rattle.keeper_store.specs.declared.contents.NextNumbers.{NextNumbers}
use Rattle.keeper_store.specs.declared.row_types.RecordingRow.{RecordingRow}
use Rattle.library_model.specs.Batches.{import_changes, import_row}
use Rattle.library_model.specs.Bodies.{row_reply}
use Rattle.library_model.specs.Stands.{tables_of}
use Rattle.catalogue_core.specs.Looking.{lacks_numbers}
use Rattle.catalogue_core.specs.Plans.{IsPlan}
use Rattle.catalogue_core.specs.Resumming.{JoinsNamed, in_list}
use Rattle.sound_model.proofs.SummaryLaws.{Summarises-unique}
use Rattle.catalogue_core.proofs.Imports.{crowds_none, import_decided, import_joins, tables_after}
use Rattle.catalogue_core.proofs.Rooms.{import_room}
use Rattle.catalogue_core.proofs.importing.plan_import.Goals as goal

pub returns-clause-decides : goal.returns-clause-decides
returns-clause-decides g c = λ s token mark holds open_ home take few.
    let t = tables_of s in
    let a = c.args in
    let m = a.measured.now in
    let same = c.next_numbers-next.ensures ∙ holds.numbers in
    let crowd = crowds_none t a.album ∙ few in
    let left = subst (λ (n : NextNumbers). lacks_numbers n ≡ false) holds.numbers c.requires.left in
    let after = tables_after s a.album a.name.now a.file.now m a.tally.summary in
    let joins = import_joins s a.album a.name.now a.file.now m a.tally open_.valid home.there crowd take.measured.within take.measured.stands in
    let sums = c.in_ok-resummed.ensures.row t after holds (subst (λ (n : NextNumbers). JoinsNamed a.album n.recording a.tally t after) (sym same) joins) in
    let stands = c.in_ok-resummed.ensures.tally m take.measured.stands in
    let levels = Summarises-unique _ _ _ _ c.in_ok-resummed.tally.summary a.tally.summary stands.summary take.measured.stands.summary in
    let row_is = c.in_ok-row.ensures ∙ ap (λ (n : NextNumbers). import_row n a.album a.name.now a.file.now m c.summary-summary.result) same
    ∙ ap (import_row (next_numbers t) a.album a.name.now a.file.now m) c.summary-summary.ensures.kept in
    let plans : IsPlan (import_changes (next_numbers t) m (import_row (next_numbers t) a.album a.name.now a.file.now m a.tally.summary)
    ++ map PutAlbum (in_list c.in_ok-resummed.resummed)) None
    (row_reply 201 (import_row (next_numbers t) a.album a.name.now a.file.now m a.tally.summary)) c.plan_of-plan.result =
    record {
      changes_are = c.plan_of-plan.ensures.changes ∙ c.in_ok-changes.ensures
          ∙ ap (λ (n : NextNumbers). import_changes n m c.in_ok-row.row ++ map PutAlbum (in_list c.in_ok-resummed.resummed)) same
          ∙ ap (λ (row : RecordingRow). import_changes (next_numbers t) m row ++ map PutAlbum (in_list c.in_ok-resummed.resummed)) row_is;
      released_is = c.plan_of-plan.ensures.released;
      reply_is = c.plan_of-plan.ensures.reply ∙ c.in_ok-reply.ensures ∙ ap (row_reply 201) row_is;
    } in
    import_decided s token mark a.album a.name.now a.file.now m a.tally c.in_ok-resummed.resummed c.plan_of-plan.result open_ home take crowd left
    (record { is = plans; sums = sums; tally = c.in_ok-resummed.tally; fresh = c.plan_of-plan.ensures.fresh; stands = stands; levels = levels })

pub returns-clause-leaves : goal.returns-clause-leaves
returns-clause-leaves g c =
    let kept = c.in_ok-resummed.ensures.kept in
    let plan = c.plan_of-plan.result in
    let own : c.in_ok-row.row.album ≡ c.args.album = ap (λ (row : RecordingRow). row.album) c.in_ok-row.ensures in
    let place = subst (λ (album : Option ℕ). HasPlaceIn c.resum_with.new.library.rows album) (sym own)
    (kept.room.places (one_in c.args.album) c.requires.place) in
    record {
      held = kept.held;
      numbers = kept.numbers;
      released = kept.released;
      room = import_room c.resum_with.new.library.rows c.next_numbers-next.result c.args.measured.now c.in_ok-row.row c.in_ok-resummed.resummed
          c.in_ok-reply.reply plan (kept.room.room 6 c.requires.room) place (ap (λ (f : Fresh). f.album) c.plan_of-plan.ensures.fresh)
          (record {
            changes_are = c.plan_of-plan.ensures.changes ∙ c.in_ok-changes.ensures;
            released_is = c.plan_of-plan.ensures.released;
            reply_is = c.plan_of-plan.ensures.reply;
          });
      own = tt;
    }
