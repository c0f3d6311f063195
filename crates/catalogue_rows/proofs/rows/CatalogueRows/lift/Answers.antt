use Rattle.std.proofs.Common.{arith, ◌≡◌, ℕ, List, Option, true, is_some, refl, sym, ap, ◌∙◌, subst}
use Rattle.std.proofs.lemmas.Option.{IfSome_then}
use Rattle.std.specs.List.{AllByRecursion}
use Rattle.keeper_store.specs.declared.row_types.AlbumRow.{AlbumRow}
use Rattle.keeper_store.specs.declared.row_types.RecordingRow.{RecordingRow}
use Rattle.library_model.specs.RowRules.{album_is_there, has_album, measured_in}
use Rattle.catalogue_rows.specs.declared.kept.KeptRecording.{KeptRecording}
use Rattle.catalogue_rows.specs.Holding.{album_of, recording_row}
use Rattle.catalogue_rows.specs.Places.{HavePlaces, IsFewIn}
use Rattle.catalogue_rows.specs.Room.{and_one}
use Rattle.catalogue_rows.proofs.Albums.{places_none}
use Rattle.catalogue_rows.proofs.Held.{any_at, at_as, but_album, but_beside, but_none, contains_found, found_row, home_of, if_some_any, none_as, none_found, only_at, recordings_set, rise_set, row_is, same_at, tally_beside}
use Rattle.catalogue_rows.proofs.rows.CatalogueRows.lift.Goals as goal

pub returns-in_default-clause-but : goal.returns-in_default-clause-but
returns-in_default-clause-but c t holds =
    but_none c.args.self.now c.args.id t holds
    (none_as c.args.id c.args.self.now.recordings.items c.as_slice.result.now c.as_slice.ensures.value c.in_default.ensures.missing)

pub returns-in_default-clause-some : goal.returns-in_default-clause-some
returns-in_default-clause-some c t row holds found there =
    absurd (none_found c.args.id c.args.self.now.recordings.items t.recordings row holds.recordings
    (none_as c.args.id c.args.self.now.recordings.items c.as_slice.result.now c.as_slice.ensures.value c.in_default.ensures.missing) found)

pub invariant_of-self-in-None : goal.invariant_of-self-in-None
invariant_of-self-in-None c =
    let at = at_as c.args.id c.in-Some.place c.args.self.now.recordings.items c.as_slice.result.now c.as_slice.ensures.value
    c.in-Some.ensures.there in
    record {
      albums_ascend = c.args.self.now.albums_ascend;
      recordings_ascend = rise_set c.args.self.now.recordings.items c.args.id c.in-Some.place c.index_mut.result.now _
          c.args.self.now.recordings_ascend at c.index_mut.ensures.value refl;
    }

pub returns-in-Some-album-clause-but : goal.returns-in-Some-album-clause-but
returns-in-Some-album-clause-but c t holds =
    let at = at_as c.args.id c.in-Some.place c.args.self.now.recordings.items c.as_slice.result.now c.as_slice.ensures.value
    c.in-Some.ensures.there in
    let kept = c.index.result.now in
    but_album c.args.self.now _ c.in-Some-album.album c.args.id kept.row t holds
    (found_row c.args.id c.in-Some.place c.args.self.now.recordings.items kept t.recordings holds.recordings at c.index.ensures)
    c.in-Some-album.is c.take_from.ensures.kept.rows (c.take_from.ensures.members (album_of t t.recordings) holds.in_albums) refl refl refl

pub returns-in-Some-album-clause-room : goal.returns-in-Some-album-clause-room
returns-in-Some-album-clause-room c = record {
  room = λ more has. record {
    albums = omega (arith, has.albums, c.take_from.ensures.kept.len, c.take_from.ensures.kept.capacity);
    recordings = has.recordings;
    replies = has.replies;
  };
  places = λ more has. c.take_from.ensures.places more has;
}

pub returns-in-Some-album-clause-home : goal.returns-in-Some-album-clause-home
returns-in-Some-album-clause-home c =
    let at = at_as c.args.id c.in-Some.place c.args.self.now.recordings.items c.as_slice.result.now c.as_slice.ensures.value
    c.in-Some.ensures.there in
    let kept = c.index.result.now in
    IfSome_then c.take_from.result c.take_from.ensures.place
    (λ tally place more has. (
      c.take_from.ensures.places more has,
      home_of c.args.self.now.recordings.items c.take_from.new.albums.items c.args.id kept.row more
          (only_at c.args.self.now.recordings.items c.args.id c.in-Some.place kept c.args.self.now.recordings_ascend at c.index.ensures)
          (subst (λ (album : Option ℕ). HavePlaces (and_one album more) c.take_from.new.albums.items) (sym c.in-Some-album.is) (place more has)),
    ))

pub returns-in-Some-album-clause-tally : goal.returns-in-Some-album-clause-tally
returns-in-Some-album-clause-tally c =
    let at = at_as c.args.id c.in-Some.place c.args.self.now.recordings.items c.as_slice.result.now c.as_slice.ensures.value
    c.in-Some.ensures.there in
    let kept = c.index.result.now in
    IfSome_then c.take_from.result c.take_from.ensures.tally
    (λ tally stands t row holds found.
    let one = row_is c.args.id c.in-Some.place c.args.self.now.recordings.items kept t.recordings row holds.recordings at c.index.ensures found in
    stands (album_of t t.recordings) (measured_in t row) holds.in_albums
    (contains_found t c.args.id c.in-Some-album.album row t.recordings found (ap (λ (r : RecordingRow). r.album) one ∙ c.in-Some-album.is)))

pub returns-in-Some-album-clause-few : goal.returns-in-Some-album-clause-few
returns-in-Some-album-clause-few c =
    let at = at_as c.args.id c.in-Some.place c.args.self.now.recordings.items c.as_slice.result.now c.as_slice.ensures.value
    c.in-Some.ensures.there in
    let kept = c.index.result.now in
    IfSome_then c.take_from.result c.take_from.ensures.few
    (λ tally few t row holds found.
    let one = row_is c.args.id c.in-Some.place c.args.self.now.recordings.items kept t.recordings row holds.recordings at c.index.ensures found in
    subst (λ (album : Option ℕ). IsFewIn album c.args.id (album_of t t.recordings))
    (sym (ap (λ (r : RecordingRow). r.album) one ∙ c.in-Some-album.is)) (few (album_of t t.recordings) holds.in_albums))

pub returns-in-Some-album-clause-some : goal.returns-in-Some-album-clause-some
returns-in-Some-album-clause-some c t row holds found there =
    let at = at_as c.args.id c.in-Some.place c.args.self.now.recordings.items c.as_slice.result.now c.as_slice.ensures.value
    c.in-Some.ensures.there in
    let kept = c.index.result.now in
    let one = row_is c.args.id c.in-Some.place c.args.self.now.recordings.items kept t.recordings row holds.recordings at c.index.ensures found in
    let named = ap (λ (r : RecordingRow). r.album) one ∙ c.in-Some-album.is in
    let has = subst (λ (album : Option ℕ). album_is_there album t.albums ≡ true) named there in
    c.take_from.ensures.some (album_of t t.recordings) (measured_in t row) holds.in_albums
    (subst (λ (albums : List AlbumRow). has_album c.in-Some-album.album albums ≡ true) (sym holds.albums) has)
    (contains_found t c.args.id c.in-Some-album.album row t.recordings found named)

pub returns-in-Some-album-clause-there : goal.returns-in-Some-album-clause-there
returns-in-Some-album-clause-there c =
    let at = at_as c.args.id c.in-Some.place c.args.self.now.recordings.items c.as_slice.result.now c.as_slice.ensures.value
    c.in-Some.ensures.there in
    if_some_any _ c.take_from.result
    (λ tally t holds. ap (λ (o : Option RecordingRow). is_some o)
    (found_row c.args.id c.in-Some.place c.args.self.now.recordings.items c.index.result.now t.recordings holds.recordings at c.index.ensures))

pub returns-in-None-clause-there : goal.returns-in-None-clause-there
returns-in-None-clause-there c =
    let at = at_as c.args.id c.in-Some.place c.args.self.now.recordings.items c.as_slice.result.now c.as_slice.ensures.value
    c.in-Some.ensures.there in
    if_some_any _ c.take.result
    (λ tally t holds. ap (λ (o : Option RecordingRow). is_some o)
    (found_row c.args.id c.in-Some.place c.args.self.now.recordings.items c.index.result.now t.recordings holds.recordings at c.index.ensures))

pub returns-in-None-clause-but : goal.returns-in-None-clause-but
returns-in-None-clause-but c t holds =
    let at = at_as c.args.id c.in-Some.place c.args.self.now.recordings.items c.as_slice.result.now c.as_slice.ensures.value
    c.in-Some.ensures.there in
    let one = same_at c.args.self.now.recordings.items c.in-Some.place c.index_mut.result.now c.index.result.now at.inside
    c.index_mut.ensures.value c.index.ensures in
    but_beside c.args.self.now _ c.args.id c.in-Some.place c.index.result.now _ t holds at c.index.ensures c.in-None.is
    (ap recording_row one) refl refl refl refl

pub returns-in-None-clause-home : goal.returns-in-None-clause-home
returns-in-None-clause-home c =
    let items = c.args.self.now.recordings.items in
    let at = at_as c.args.id c.in-Some.place items c.as_slice.result.now c.as_slice.ensures.value c.in-Some.ensures.there in
    let kept = c.index.result.now in
    let one = same_at items c.in-Some.place c.index_mut.result.now kept at.inside c.index_mut.ensures.value c.index.ensures in
    if_some_any _ c.take.result
    (λ tally more has. (
      has,
      home_of _ c.args.self.now.albums.items c.args.id kept.row more
          (subst (λ (rows : List RecordingRow). AllByRecursion (λ (r : RecordingRow). r.id ≡ c.args.id → r ≡ kept.row) rows)
          (sym (recordings_set items c.in-Some.place _
          (λ d. ap recording_row one ∙ ap recording_row (any_at items c.in-Some.place kept d at.inside c.index.ensures))))
          (only_at items c.args.id c.in-Some.place kept c.args.self.now.recordings_ascend at c.index.ensures))
          (subst (λ (album : Option ℕ). HavePlaces (and_one album more) c.args.self.now.albums.items) (sym c.in-None.is)
          (places_none more c.args.self.now.albums.items has)),
    ))

pub returns-in-None-clause-tally : goal.returns-in-None-clause-tally
returns-in-None-clause-tally c =
    let at = at_as c.args.id c.in-Some.place c.args.self.now.recordings.items c.as_slice.result.now c.as_slice.ensures.value
    c.in-Some.ensures.there in
    let one = same_at c.args.self.now.recordings.items c.in-Some.place c.index_mut.result.now c.index.result.now at.inside
    c.index_mut.ensures.value c.index.ensures in
    tally_beside c.args.self.now c.args.id c.in-Some.place c.index.result.now c.take.result at c.index.ensures c.in-None.is
    (c.take.ensures.value ∙ ap (λ (k : KeptRecording). k.tally) one)

pub returns-in-None-clause-few : goal.returns-in-None-clause-few
returns-in-None-clause-few c =
    let at = at_as c.args.id c.in-Some.place c.args.self.now.recordings.items c.as_slice.result.now c.as_slice.ensures.value
    c.in-Some.ensures.there in
    if_some_any _ c.take.result
    (λ tally t row holds found.
    let one = row_is c.args.id c.in-Some.place c.args.self.now.recordings.items c.index.result.now t.recordings row holds.recordings at
    c.index.ensures found in
    subst (λ (album : Option ℕ). IsFewIn album c.args.id (album_of t t.recordings))
    (sym (ap (λ (r : RecordingRow). r.album) one ∙ c.in-None.is)) tt)
