use Rattle.std.proofs.Common.{◌≡◌, ◌∙◌, refl, ap}
use Rattle.catalogue_rows.specs.Room.{one_in}
use Rattle.catalogue_rows.specs.declared.fresh.Fresh.{Fresh}
use Rattle.keeper_store.specs.Changes.{changed}
use Rattle.keeper_store.specs.declared.contents.Change.TheVariants.{PutRecording}
use Rattle.library_model.specs.Batches.{regroup_row}
use Rattle.library_model.specs.Stands.{tables_of}
use Rattle.catalogue_core.proofs.Regroups.{crowds_full, regroup_decided, regroup_joins, regroup_leaves}
use Rattle.catalogue_core.proofs.Rooms.{regroup_room}
use Rattle.catalogue_core.proofs.regrouping.plan_regroup.Goals as goal

pub resum_moved-requires : goal.resum_moved-requires
resum_moved-requires g c = c.in_ok-left.ensures.kept.room.places (one_in c.args.album) c.requires.place

pub returns-clause-decides : goal.returns-clause-decides
returns-clause-decides g c = λ s token mark holds open_ there home few.
    let t = tables_of s in
    let a = c.args in
    let crowd = crowds_full t a.old.album a.album c.requires.other ∙ few in
    let next = changed (PutRecording (regroup_row a.old a.album)) t in
    let goes = c.in_ok-left.ensures.row t next holds (regroup_leaves s a.id a.old a.album open_.valid there c.requires.other) in
    let comes = c.in_ok-joined.ensures.row t next (c.in_ok-left.ensures.kept.held t holds)
    (regroup_joins s a.id a.old a.album open_.valid there home crowd) in
    regroup_decided s token mark a.id a.old a.album c.in_ok-left.left c.in_ok-joined.joined c.plan_of-plan.result open_ there home crowd
    c.requires.other goes comes
    (record {
      changes_are = c.plan_of-plan.ensures.changes ∙ c.in_ok-changes.ensures;
      released_is = c.plan_of-plan.ensures.released;
      reply_is = c.plan_of-plan.ensures.reply ∙ c.in_ok-reply.ensures;
    })
    (ap (λ (f : Fresh). f.tally) c.plan_of-plan.ensures.fresh)

pub returns-clause-leaves : goal.returns-clause-leaves
returns-clause-leaves g c =
    let left = c.in_ok-left.ensures.kept in
    let joined = c.in_ok-joined.ensures.kept in
    let room = joined.room.room 6 (left.room.room 6 c.requires.room) in
    let place = joined.room.places (one_in c.args.album) (left.room.places (one_in c.args.album) c.requires.place) in
    record {
      held = λ t holds. joined.held t (left.held t holds);
      numbers = joined.numbers ∙ left.numbers;
      released = joined.released ∙ left.released;
      room = regroup_room c.resum_moved.new.library.rows (regroup_row c.args.old c.args.album) c.in_ok-left.left c.in_ok-joined.joined
          c.in_ok-reply.reply c.plan_of-plan.result room place (ap (λ (f : Fresh). f.album) c.plan_of-plan.ensures.fresh)
          (record {
            changes_are = c.plan_of-plan.ensures.changes ∙ c.in_ok-changes.ensures;
            released_is = c.plan_of-plan.ensures.released;
            reply_is = c.plan_of-plan.ensures.reply;
          });
      own = tt;
    }
