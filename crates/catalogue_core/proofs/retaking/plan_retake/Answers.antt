use Rattle.std.proofs.Common.{◌≡◌, ◌∙◌, ◌++◌, ◌∷◌, ℕ, false, refl, sym, ap, subst, map, nat_le, List, Option, Some}
use Rattle.lib_base.specs.declared.limits.TheConstants.{NUMBERS_END}
use Rattle.keeper_store.specs.declared.contents.Change.{Change}
use Rattle.catalogue_rows.specs.Room.{HasPlaceIn, one_in}
use Rattle.catalogue_rows.specs.declared.fresh.Fresh.{Fresh}
use Rattle.keeper_store.specs.Changes.{next_numbers}
use Rattle.keeper_store.specs.declared.contents.Change.TheVariants.{DropSegments, PutAlbum}
use Rattle.keeper_store.specs.declared.contents.NextNumbers.{NextNumbers}
use Rattle.keeper_store.specs.declared.row_types.RecordingRow.{RecordingRow}
use Rattle.library_model.specs.Batches.{retake_changes, retake_row}
use Rattle.library_model.specs.Bodies.{row_reply}
use Rattle.library_model.specs.Stands.{tables_of}
use Rattle.sound_model.proofs.SummaryLaws.{Summarises-unique}
use Rattle.catalogue_core.specs.Plans.{IsPlan}
use Rattle.catalogue_core.specs.Resumming.{in_list}
use Rattle.catalogue_core.proofs.Retakes.{retake_decided, retake_joins, tables_after}
use Rattle.catalogue_core.proofs.Rooms.{retake_room}
use Rattle.catalogue_core.proofs.retaking.plan_retake.Goals as goal

pub returns-clause-decides : goal.returns-clause-decides
returns-clause-decides g c = λ s token mark holds open_ there take.
    let t = tables_of s in
    let a = c.args in
    let m = a.measured.now in
    let same = c.next_numbers-next.ensures ∙ holds.numbers in
    let left = subst (λ (n : NextNumbers). nat_le NUMBERS_END n.take ≡ false) holds.numbers c.requires.left in
    let after = tables_after s a.old a.file.now m a.tally.summary in
    let joins = retake_joins s a.id a.old a.file.now m a.tally open_.valid there take.measured.within take.measured.stands in
    let sums = c.in_ok-resummed.ensures.row t after holds joins in
    let stands = c.in_ok-resummed.ensures.tally m take.measured.stands in
    let levels = Summarises-unique _ _ _ _ c.in_ok-resummed.tally.summary a.tally.summary stands.summary take.measured.stands.summary in
    let row_is = c.row_of-row.ensures ∙ ap (λ (n : NextNumbers). retake_row n a.old a.file.now m c.summary-summary.result) same
    ∙ ap (retake_row (next_numbers t) a.old a.file.now m) c.summary-summary.ensures.kept in
    let front : NextNumbers → RecordingRow → List Change = λ n row. retake_changes n m row ++ DropSegments a.old.take ∷ map PutAlbum (in_list c.in_ok-resummed.resummed) in
    let plans : IsPlan (front (next_numbers t) (retake_row (next_numbers t) a.old a.file.now m a.tally.summary)) (Some a.old.take)
    (row_reply 200 (retake_row (next_numbers t) a.old a.file.now m a.tally.summary)) c.plan_of-plan.result =
    record {
      changes_are = c.plan_of-plan.ensures.changes ∙ c.in_ok-changes.ensures ∙ ap (λ (n : NextNumbers). front n c.row_of-row.result) same
          ∙ ap (front (next_numbers t)) row_is;
      released_is = c.plan_of-plan.ensures.released;
      reply_is = c.plan_of-plan.ensures.reply ∙ c.in_ok-reply.ensures ∙ ap (row_reply 200) row_is;
    } in
    retake_decided s token mark a.id a.old a.file.now m a.tally c.in_ok-resummed.resummed c.plan_of-plan.result open_ there take left
    (record { is = plans; sums = sums; tally = c.in_ok-resummed.tally; fresh = c.plan_of-plan.ensures.fresh; stands = stands; levels = levels })

pub returns-clause-leaves : goal.returns-clause-leaves
returns-clause-leaves g c =
    let kept = c.in_ok-resummed.ensures.kept in
    let own : c.row_of-row.result.album ≡ c.args.old.album = ap (λ (row : RecordingRow). row.album) c.row_of-row.ensures in
    let place = subst (λ (album : Option ℕ). HasPlaceIn c.resum_with.new.library.rows album) (sym own)
    (kept.room.places (one_in c.args.old.album) c.requires.place) in
    record {
      held = kept.held;
      numbers = kept.numbers;
      released = kept.released;
      room = retake_room c.resum_with.new.library.rows c.next_numbers-next.result c.args.measured.now c.row_of-row.result c.args.old.take
          c.in_ok-resummed.resummed c.in_ok-reply.reply c.plan_of-plan.result (kept.room.room 6 c.requires.room) place
          (ap (λ (f : Fresh). f.album) c.plan_of-plan.ensures.fresh)
          (record {
            changes_are = c.plan_of-plan.ensures.changes ∙ c.in_ok-changes.ensures;
            released_is = c.plan_of-plan.ensures.released;
            reply_is = c.plan_of-plan.ensures.reply;
          });
      own = tt;
    }
