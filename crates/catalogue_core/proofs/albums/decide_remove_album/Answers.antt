use Rattle.std.proofs.Common.{◌≡◌, ◌∙◌, false, nat_lt, refl, sym}
use Rattle.library_model.specs.Replies.{refusal}
use Rattle.library_model.specs.Stands.{tables_of}
use Rattle.library_model.specs.declared.messages.Command.TheVariants.{RemoveAlbum}
use Rattle.library_model.specs.declared.refusals.Refusal.TheVariants.{NoAlbum, NotEmpty}
use Rattle.library_model.proofs.Refusing.{not_empty, remove_no_album}
use Rattle.catalogue_core.proofs.Exits.{none_above, refuses}
use Rattle.catalogue_core.proofs.NewAlbums.{remove_album_decided}
use Rattle.catalogue_core.proofs.Rooms.{remove_album_room}
use Rattle.catalogue_core.proofs.albums.decide_remove_album.Goals as goal

pub returns-then-not-is_there-clause-decides : goal.returns-then-not-is_there-clause-decides
returns-then-not-is_there-clause-decides c = λ s token mark keeps fresh.
    refuses c.refused.result s token mark (RemoveAlbum c.args.id) (refusal NoAlbum) c.refused.ensures
    (remove_no_album s token mark c.args.id fresh (sym (c.if-not-is_there.ensures (tables_of s) keeps.rows)))

pub returns-then-has_members-clause-decides : goal.returns-then-has_members-clause-decides
returns-then-has_members-clause-decides c = λ s token mark keeps fresh.
    let there = sym (c.if-not-is_there.ensures (tables_of s) keeps.rows) in
    refuses c.refused-then-has_members.result s token mark (RemoveAlbum c.args.id) (refusal NotEmpty) c.refused-then-has_members.ensures
    (not_empty s token mark c.args.id fresh there (sym (c.if-has_members.ensures (tables_of s) keeps.rows there)))

pub returns-clause-decides : goal.returns-clause-decides
returns-clause-decides c = λ s token mark keeps fresh.
    let there = sym (c.if-not-is_there.ensures (tables_of s) keeps.rows) in
    let none = none_above _ (sym (c.if-has_members.ensures (tables_of s) keeps.rows there)) in
    remove_album_decided s token mark c.args.id c.in_ok-plan_remove_album.field-0 keeps.valid fresh there none c.in_ok-plan_remove_album.ensures.plan

pub returns-clause-leaves : goal.returns-clause-leaves
returns-clause-leaves c = record {
  held = c.reserve.ensures.held;
  numbers = c.reserve.ensures.numbers;
  released = refl;
  room = remove_album_room c.reserve.new.self c.args.id _ c.in_ok-plan_remove_album.field-0 c.in_ok-reserve.ensures.room
      c.in_ok-plan_remove_album.ensures.plan;
  own = tt;
}
