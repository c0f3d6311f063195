use Rattle.std.proofs.Common.{◌≡◌, ◌∙◌, refl}
use Rattle.keeper_store.specs.Changes.{changed}
use Rattle.keeper_store.specs.declared.contents.Change.TheVariants.{DropRecording}
use Rattle.library_model.specs.Stands.{tables_of}
use Rattle.catalogue_core.proofs.Regroups.{remove_decided, remove_leaves}
use Rattle.catalogue_core.proofs.Rooms.{remove_room}
use Rattle.catalogue_core.proofs.removing.plan_remove.Goals as goal

pub returns-clause-decides : goal.returns-clause-decides
returns-clause-decides g c = λ s token mark holds open_ there.
    let t = tables_of s in
    let old = c.args.old.now in
    let goes = c.in_ok-resummed.ensures.row t (changed (DropRecording old.id) t) holds (remove_leaves s c.args.id old open_.valid there) in
    remove_decided s token mark c.args.id old c.in_ok-resummed.resummed c.plan_of-plan.result open_ there goes
    (record {
      changes_are = c.plan_of-plan.ensures.changes ∙ c.in_ok-changes.ensures;
      released_is = c.plan_of-plan.ensures.released;
      reply_is = c.plan_of-plan.ensures.reply ∙ c.in_ok-reply.ensures;
    })

pub returns-clause-leaves : goal.returns-clause-leaves
returns-clause-leaves g c =
    let kept = c.in_ok-resummed.ensures.kept in
    let old = c.args.old.now in
    record {
      held = kept.held;
      numbers = kept.numbers;
      released = kept.released;
      room = remove_room c.resum_without.new.library.rows old.id old.take c.in_ok-resummed.resummed c.in_ok-reply.reply c.plan_of-plan.result
          (kept.room.room 6 c.requires)
          (record {
            changes_are = c.plan_of-plan.ensures.changes ∙ c.in_ok-changes.ensures;
            released_is = c.plan_of-plan.ensures.released;
            reply_is = c.plan_of-plan.ensures.reply;
          });
      own = tt;
    }
