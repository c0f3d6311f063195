use Rattle.std.proofs.Common.{arith, None, [], ◌∷◌, refl, sym, subst}
use Rattle.keeper_store.specs.declared.contents.Change.{Change}
use Rattle.keeper_store.specs.declared.contents.Change.TheVariants as change
use Rattle.keeper_store.specs.Changes.{changed}
use Rattle.catalogue_rows.specs.Holding.{Holds}
use Rattle.catalogue_rows.specs.Making.{FitsChange}
use Rattle.catalogue_rows.specs.Room.{HasRoomFor, one_in, puts_into}
use Rattle.catalogue_rows.proofs.Changed.{Holds-drop_segments, Holds-put_segments}
use Rattle.catalogue_rows.proofs.Laws.{places_less}
use Rattle.catalogue_rows.proofs.Rooms.{new_less, room_after, room_album, room_or_less, room_same}
use Rattle.catalogue_rows.proofs.rows.CatalogueRows.make_one.Goals as goal

pub returns-in-PutAlbum-clause-room : goal.returns-in-PutAlbum-clause-room
returns-in-PutAlbum-clause-room c changes has =
    room_album c.args.self.now c.put_album.new.self c.args.fresh c.in-PutAlbum.row changes c.put_album.ensures.room c.put_album.ensures.places
    (subst (λ (made : Change). HasRoomFor c.args.self.now c.args.fresh (made ∷ changes)) c.in-PutAlbum.is has)

pub put_recording-requires-clause-place : goal.put_recording-requires-clause-place
put_recording-requires-clause-place c =
    let row = c.in-PutRecording.row in
    let has = subst (λ (made : Change). HasRoomFor c.args.self.now c.args.fresh (made ∷ [])) c.in-PutRecording.is c.requires in
    places_less (puts_into (change.PutRecording row ∷ [])) (one_in row.album) c.args.self.now.albums.items (λ id. omega arith) has.places

pub returns-in-PutRecording-clause-room : goal.returns-in-PutRecording-clause-room
returns-in-PutRecording-clause-room c changes has =
    let row = c.in-PutRecording.row in
    room_after c.args.self.now c.put_recording.new.self c.args.fresh (record c.args.fresh { tally = None }) (change.PutRecording row) changes
    c.put_recording.ensures.room (c.put_recording.ensures.places (puts_into changes))
    (new_less c.args.fresh.album (puts_into (change.PutRecording row ∷ changes)) (puts_into changes) (λ id. omega arith))
    (subst (λ (made : Change). HasRoomFor c.args.self.now c.args.fresh (made ∷ changes)) c.in-PutRecording.is has)

pub returns-in-Counters-clause-room : goal.returns-in-Counters-clause-room
returns-in-Counters-clause-room c changes has =
    room_same c.args.self.now c.set_numbers.new.self c.args.fresh
    (change.Counters c.in-Counters.next_album c.in-Counters.next_recording c.in-Counters.next_take) changes (λ id. refl)
    (room_or_less c.args.self.now c.set_numbers.new.self c.set_numbers.ensures.room) c.set_numbers.ensures.places
    (subst (λ (made : Change). HasRoomFor c.args.self.now c.args.fresh (made ∷ changes)) c.in-Counters.is has)

pub returns-in-PutReply-clause-room : goal.returns-in-PutReply-clause-room
returns-in-PutReply-clause-room c changes has =
    room_same c.args.self.now c.put_reply.new.self c.args.fresh (change.PutReply c.in-PutReply.row) changes (λ id. refl)
    c.put_reply.ensures.room c.put_reply.ensures.places
    (subst (λ (made : Change). HasRoomFor c.args.self.now c.args.fresh (made ∷ changes)) c.in-PutReply.is has)

pub returns-in-DropAlbum-clause-room : goal.returns-in-DropAlbum-clause-room
returns-in-DropAlbum-clause-room c changes has =
    room_same c.args.self.now c.drop_album.new.self c.args.fresh (change.DropAlbum c.in-DropAlbum.id) changes (λ id. refl)
    (room_or_less c.args.self.now c.drop_album.new.self c.drop_album.ensures.room) c.drop_album.ensures.places
    (subst (λ (made : Change). HasRoomFor c.args.self.now c.args.fresh (made ∷ changes)) c.in-DropAlbum.is has)

pub returns-in-DropRecording-clause-room : goal.returns-in-DropRecording-clause-room
returns-in-DropRecording-clause-room c changes has =
    room_same c.args.self.now c.drop_recording.new.self c.args.fresh (change.DropRecording c.in-DropRecording.id) changes (λ id. refl)
    (room_or_less c.args.self.now c.drop_recording.new.self c.drop_recording.ensures.room) c.drop_recording.ensures.places
    (subst (λ (made : Change). HasRoomFor c.args.self.now c.args.fresh (made ∷ changes)) c.in-DropRecording.is has)

pub returns-in-PutSegments-clause-held : goal.returns-in-PutSegments-clause-held
returns-in-PutSegments-clause-held c t holds fits =
    let unnamed = subst (λ (made : Change). FitsChange made c.args.fresh t) c.in-PutSegments.is fits in
    subst (λ (made : Change). Holds c.args.self.now (changed made t)) (sym c.in-PutSegments.is)
    (Holds-put_segments c.args.self.now t c.in-PutSegments.field-0 holds unnamed)

pub returns-in-PutSegments-clause-room : goal.returns-in-PutSegments-clause-room
returns-in-PutSegments-clause-room c changes has =
    room_same c.args.self.now c.args.self.now c.args.fresh (change.PutSegments c.in-PutSegments.field-0) changes (λ id. refl)
    (room_or_less c.args.self.now c.args.self.now (λ more room. room)) (λ more places. places)
    (subst (λ (made : Change). HasRoomFor c.args.self.now c.args.fresh (made ∷ changes)) c.in-PutSegments.is has)

pub returns-clause-held : goal.returns-clause-held
returns-clause-held c t holds fits =
    let unnamed = subst (λ (made : Change). FitsChange made c.args.fresh t) c.in-DropSegments.is fits in
    subst (λ (made : Change). Holds c.args.self.now (changed made t)) (sym c.in-DropSegments.is)
    (Holds-drop_segments c.args.self.now t c.in-DropSegments.take holds unnamed)

pub returns-clause-room : goal.returns-clause-room
returns-clause-room c changes has =
    room_same c.args.self.now c.args.self.now c.args.fresh (change.DropSegments c.in-DropSegments.take) changes (λ id. refl)
    (room_or_less c.args.self.now c.args.self.now (λ more room. room)) (λ more places. places)
    (subst (λ (made : Change). HasRoomFor c.args.self.now c.args.fresh (made ∷ changes)) c.in-DropSegments.is has)
