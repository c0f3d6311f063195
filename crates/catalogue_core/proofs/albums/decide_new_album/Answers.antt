use Rattle.std.proofs.Common.{◌∙◌, ◌≤◌, ◌<◌, refl, subst}
use Rattle.lib_base.specs.declared.limits.TheConstants.{NUMBERS_END}
use Rattle.keeper_store.specs.declared.contents.NextNumbers.{NextNumbers}
use Rattle.library_model.specs.Batches.{new_album_row}
use Rattle.library_model.specs.Replies.{refusal}
use Rattle.library_model.specs.declared.messages.Command.TheVariants.{NewAlbum}
use Rattle.library_model.specs.declared.refusals.Refusal.TheVariants.{Ids}
use Rattle.library_model.proofs.Refusing.{new_album_ids}
use Rattle.catalogue_core.proofs.Exits.{at_end, not_at_end, refuses}
use Rattle.catalogue_core.proofs.NewAlbums.{new_album_decided}
use Rattle.catalogue_core.proofs.Rooms.{new_album_room}
use Rattle.catalogue_core.proofs.albums.decide_new_album.Goals as goal

pub returns-then-next-ge-NUMBERS_END-clause-decides : goal.returns-then-next-ge-NUMBERS_END-clause-decides
returns-then-next-ge-NUMBERS_END-clause-decides c = λ s token mark keeps fresh.
    let same = c.next_numbers-next.ensures ∙ keeps.rows.numbers in
    let ends = subst (λ (n : NextNumbers). NUMBERS_END ≤ n.album) same c.if-next-ge-NUMBERS_END.true in
    refuses c.refused.result s token mark (NewAlbum c.args.name.now) (refusal Ids) c.refused.ensures
    (new_album_ids s token mark c.args.name.now fresh (at_end s.next_album ends))

pub returns-clause-decides : goal.returns-clause-decides
returns-clause-decides c = λ s token mark keeps fresh.
    let same = c.next_numbers-next.ensures ∙ keeps.rows.numbers in
    let left = subst (λ (n : NextNumbers). n.album < NUMBERS_END) same c.if-next-ge-NUMBERS_END.false in
    let is = rw same at c.in_ok-plan_new_album.ensures.plan in
    new_album_decided s token mark c.args.name.now c.in_ok-plan_new_album.field-0 keeps.valid fresh (not_at_end s.next_album left) is
    c.in_ok-plan_new_album.ensures.empty

pub returns-clause-leaves : goal.returns-clause-leaves
returns-clause-leaves c =
    let next = c.next_numbers-next.result in
    record {
      held = c.reserve.ensures.held;
      numbers = c.reserve.ensures.numbers;
      released = refl;
      room = new_album_room _ next (new_album_row next c.args.name.now) _ c.in_ok-plan_new_album.field-0 c.in_ok-reserve.ensures.room
          c.in_ok-plan_new_album.ensures.plan;
      own = tt;
    }
