use Rattle.std.proofs.Common.{arith, ◌≡◌, ◌==◌, ℕ, List, Some, true, is_some, refl, sym, ap, ◌∙◌, subst}
use Rattle.std.specs.List.{find}
use Rattle.std.proofs.lemmas.Option.{IfSome_then}
use Rattle.keeper_store.specs.declared.row_types.AlbumRow.{AlbumRow}
use Rattle.keeper_store.specs.declared.row_types.RecordingRow.{RecordingRow}
use Rattle.keeper_store.specs.Puts.{without, recording_id}
use Rattle.album_merge.specs.Tallies.{StandsForMeasured}
use Rattle.library_model.specs.RowRules.{has_album, measured_in}
use Rattle.catalogue_rows.specs.Holding.{album_of}
use Rattle.catalogue_rows.specs.Room.{one_in}
use Rattle.catalogue_rows.proofs.Albums.{no_places}
use Rattle.catalogue_rows.proofs.Held.{but_through, few_but, home_through, some_is, tables_rise}
use Rattle.catalogue_rows.proofs.Sums.{few_comes, sum_moves, sum_of}
use Rattle.catalogue_rows.proofs.rows.CatalogueRows.summary_with_moved.Goals as goal

pub returns-in_default-clause-some : goal.returns-in_default-clause-some
returns-in_default-clause-some g c t next holds moves place =
    let there = subst (λ (n : ℕ). find (λ (r : RecordingRow). r.id == n) t.recordings ≡ Some moves.moves.before) moves.comes.same
    moves.moves.there in
    sym (ap is_some c.in_default.is) ∙ c.lift.ensures.some t moves.moves.before holds there moves.moves.home

pub try_with-summary-requires-clause-place : goal.try_with-summary-requires-clause-place
try_with-summary-requires-clause-place g c = c.lift.ensures.room.places (one_in (Some c.args.album)) c.requires

pub bring_back-requires : goal.bring_back-requires
bring_back-requires g c =
    let home = c.in-Some.ensures.home (λ _. 0) (no_places c.args.self.now.albums.items) in (
      c.try_with-summary.ensures.places (λ _. 0) home.0,
      home_through c.lift.new.self.recordings.items c.lift.new.self.albums.items c.try_with-summary.new.albums.items c.args.id (λ _. 0)
          c.try_with-summary.ensures.places home.1,
    )

pub returns-clause-held : goal.returns-clause-held
returns-clause-held g c t holds =
    let found = some_is (find (λ (r : RecordingRow). r.id == c.args.id) t.recordings) (c.in-Some.ensures.there t holds) in
    let row = found.0 in
    let but = but_through c.lift.new.self _ c.args.id t (c.lift.ensures.but t holds) c.try_with-summary.ensures.kept.rows
    (c.try_with-summary.ensures.members (album_of t (without recording_id c.args.id t.recordings)) (c.lift.ensures.but t holds).in_albums)
    refl refl refl in
    c.bring_back.ensures.held t row but found.1
    (c.try_with-summary.ensures.tally (measured_in t row) (c.in-Some.ensures.tally t row holds found.1))
    (c.in-Some.ensures.few t row holds found.1)

pub returns-clause-kept : goal.returns-clause-kept
returns-clause-kept g c = record {
  room = λ more has.
      let mid = c.lift.ensures.room.room more has in
      let kept = c.try_with-summary.ensures.kept in
      c.bring_back.ensures.room more
      (record { albums = omega (arith, mid.albums, kept.len, kept.capacity); recordings = mid.recordings; replies = mid.replies });
  places = λ more has.
      let home = c.in-Some.ensures.home more has in
      c.bring_back.ensures.places more (
        c.try_with-summary.ensures.places more home.0,
        home_through c.lift.new.self.recordings.items c.lift.new.self.albums.items c.try_with-summary.new.albums.items c.args.id more
            c.try_with-summary.ensures.places home.1,
      );
}

pub returns-clause-summary : goal.returns-clause-summary
returns-clause-summary g c t next holds moves =
    let rise = tables_rise c.args.self.now t holds.recordings in
    let there = subst (λ (n : ℕ). find (λ (r : RecordingRow). r.id == n) t.recordings ≡ Some moves.moves.before) moves.comes.same
    moves.moves.there in
    let stands = subst (StandsForMeasured c.in-Some.tally) (sym (moves.measured ∙ moves.moves.measured))
    (c.in-Some.ensures.tally t moves.moves.before holds there) in
    IfSome_then c.try_with-summary.result.0
    (c.try_with-summary.ensures.summary (album_of t (without recording_id c.args.id t.recordings)) (measured_in next moves.comes.row)
    (c.lift.ensures.but t holds).in_albums stands)
    (λ summary sums. sum_of next c.args.album _ summary (sum_moves t next c.args.album c.args.id moves.comes rise) sums)

pub returns-clause-some : goal.returns-clause-some
returns-clause-some g c t next holds moves place =
    let rise = tables_rise c.args.self.now t holds.recordings in
    let but = c.lift.ensures.but t holds in
    c.try_with-summary.ensures.some (album_of t (without recording_id c.args.id t.recordings)) but.in_albums
    (subst (λ (albums : List AlbumRow). has_album c.args.album albums ≡ true) (sym but.albums) place.there)
    (few_but t (Some c.args.album) c.args.id t.recordings (few_comes t next c.args.album c.args.id rise moves.comes place))
