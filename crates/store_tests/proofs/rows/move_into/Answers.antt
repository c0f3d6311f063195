use Rattle.std.proofs.Common.{arith, Some, List, [], ◌∷◌, ◌++◌, sym, ap, ◌∙◌, subst}
use Rattle.keeper_store.specs.declared.contents.Change.{Change}
use Rattle.keeper_store.specs.declared.contents.Change.TheVariants.{PutRecording}
use Rattle.catalogue_rows.specs.Room.{HasRoomFor, one_in}
use Rattle.catalogue_rows.proofs.Laws.{room_for}
use Rattle.store_tests.proofs.rows.move_into.Goals as goal

pub make_all-requires : goal.make_all-requires
make_all-requires g c =
    let change : Change = PutRecording (record c.in_ok-row.row { album = Some c.args.album }) in
    let is = c.in_ok-push.ensures.items ∙ ap (λ (l : List Change). l ++ change ∷ []) c.new-changes.ensures.items in
    let kept = c.summary_with_moved-tried.ensures.kept in
    subst (HasRoomFor c.summary_with_moved-tried.new.self c.none.result) (sym is)
    (room_for c.summary_with_moved-tried.new.self c.none.result (change ∷ []) (Some c.args.album)
    (kept.room 1 (c.in_ok-reserve_in.ensures.kept.room 1 c.in_ok-reserve.ensures.room))
    (kept.places (one_in (Some c.args.album)) c.in_ok-reserve_in.ensures.place) (λ id. omega arith) c.none.ensures.album)
