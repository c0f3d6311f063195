-- Tables whose rows pass one by one break none of the rules 1 to 7 and 9.
use Rattle.std.proofs.Common.{◌≡◌, ◌≢◌, ◌≤◌, ◌+◌, ◌==◌, ◌||◌, inl, inr, ℕ, Bool, true, false, Option, None, List, [], ◌∷◌, length, map, nat_le, nat_lt, refl, ap, arith}
use Rattle.std.specs.List.{AllByRecursion}
use Rattle.std.proofs.lemmas.Bool.Decides.{nat_tests}
use Rattle.lib_base.specs.declared.limits.TheConstants.{NUMBERS_END, MOST_MEMBERS}
use Rattle.keeper_store.specs.Puts.{Ascends, album_less, recording_less, reply_less, segments_less}
use Rattle.keeper_store.specs.declared.contents.Tables.{Tables}
use Rattle.keeper_store.specs.declared.row_types.AlbumRow.{AlbumRow}
use Rattle.keeper_store.specs.declared.row_types.RecordingRow.{RecordingRow}
use Rattle.keeper_store.specs.declared.row_types.SegmentRow.{SegmentRow}
use Rattle.keeper_store.specs.declared.row_types.ReplyRow.{ReplyRow}
use Rattle.keeper_store.proofs.Putting.{AllByRecursion-weaken}
use Rattle.library_model.specs.declared.bad_rows.BadRow.{BadRow}
use Rattle.library_model.specs.declared.bad_rows.RowTable.TheVariants.{Albums, Recordings, Segments, Replies}
use Rattle.library_model.specs.InOrder.{AreInOrder, Differ, IsCounter, IsGiven, IsKeptStatus}
use Rattle.library_model.specs.Names.{is_name, is_token}
use Rattle.library_model.specs.RowRules.{album_rule, album_is_there, bad_album, bad_at, bad_recording, bad_reply, bad_segments, beside_row, counters_rule, energies_rule, first_bad_of, first_bad_row, frames_of_take, has_segments, is_above, is_counter, is_named, is_sound, member_count, recording_rule, reply_rule, segments_before, segments_rule, token_before}
use Rattle.library_model.specs.RowRules.{album_before, recording_before}
use Rattle.library_model.proofs.Imports.{AllByRecursion-both}
use Rattle.library_model.proofs.InOrderLemmas.{AllByRecursion-unmap}

-- ---- one row

counter_passes : (next : ℕ) → IsCounter next → is_counter next ≡ true
counter_passes next is =
    let one : nat_le 1 next ≡ true = grind (arith, nat_tests, is.0) in
    let most : nat_le next NUMBERS_END ≡ true = grind (arith, nat_tests, is.1) in
    rw (one, most) refl

counters_pass : (t : Tables) → AreInOrder t → counters_rule t ≡ None
counters_pass t are =
    rw (counter_passes t.next_album are.next_album, counter_passes t.next_recording are.next_recording, counter_passes t.next_take are.next_take)
    refl

below : (next number : ℕ) → IsGiven next number → nat_lt number next ≡ true
below next number given = let less = given.1 in grind (arith, nat_tests)

above_none : (next number : ℕ) → IsGiven next number → nat_lt 0 number ≡ true
above_none next number given = let from = given.0 in grind (arith, nat_tests)

-- an album above the one before it
album_passes : (next before members : ℕ) (row : AlbumRow) → nat_lt before row.id ≡ true → IsGiven next row.id
    → is_name row.name ≡ true → members ≤ MOST_MEMBERS → album_rule next before members row ≡ None
album_passes next before members row above given name few =
    let not_more : nat_lt MOST_MEMBERS members ≡ false = grind (arith, nat_tests) in
    rw (above, below next row.id given, name, not_more) refl

-- a recording above the one before it, whose album and segments are there, and whose take none before it names
recording_passes : (t : Tables) (seen : List RecordingRow) (row : RecordingRow) → nat_lt (recording_before seen) row.id ≡ true
    → IsGiven t.next_recording row.id → IsGiven t.next_take row.take → album_is_there row.album t.albums ≡ true
    → is_name row.name ≡ true → is_sound row ≡ true → has_segments row.take t.segments ≡ true → is_named row.take seen ≡ false
    → recording_rule t.next_recording t.next_take (recording_before seen) (beside_row t seen row) row ≡ None
recording_passes t seen row above id take album name sound segments fresh =
    rw (
      above,
      below t.next_recording row.id id,
      above_none t.next_take row.take take,
      below t.next_take row.take take,
      album,
      name,
      sound,
      segments,
      fresh,
    ) refl

-- segments above those before them
segments_pass : (next before : ℕ) (frames : Option ℕ) (row : SegmentRow) → nat_lt before row.take ≡ true → IsGiven next row.take
    → energies_rule frames row.energies ≡ None → segments_rule next before frames row ≡ None
segments_pass next before frames row above given energies = rw (above, below next row.take given) energies

-- a reply above the one before it
reply_passes : (row : ReplyRow) (rises : Bool) → rises ≡ true → is_token row.token ≡ true → IsKeptStatus row.status
    → reply_rule rises row ≡ None
reply_passes row rises above token status =
    let kept : (row.status == 200 || row.status == 201) ≡ true = elim status [
      | inl given ↦ rw given refl
      | inr made ↦ rw made refl
    ] in rw (above, token, kept) refl

-- ---- all rows of a table

-- No row is bad where each passes after those before it, and what it wants of the rows behind it is kept.
none_bad : {A : Type 0} (bad : List A → A → Option BadRow) (Fit : List A → List A → Type 0)
    → ((seen : List A) (row : A) (rows : List A) → Fit seen (row ∷ rows) → (bad seen row ≡ None) × Fit (row ∷ seen) rows)
    → (seen rows : List A) → Fit seen rows → first_bad_of bad seen rows ≡ None
none_bad bad Fit step seen [] fit = refl
none_bad bad Fit step seen (row ∷ rows) fit =
    let here = step seen row rows fit in
    rw here.0 (none_bad bad Fit step (row ∷ seen) rows here.1)

-- albums that pass, behind those that were seen
record AlbumsFit (t : Tables) (seen rows : List AlbumRow) : Type 0 where
  above : AllByRecursion (λ (row : AlbumRow). nat_lt (album_before seen) row.id ≡ true) rows
  rise : Ascends album_less rows
  given : AllByRecursion (λ (row : AlbumRow). IsGiven t.next_album row.id) rows
  names : AllByRecursion (λ (row : AlbumRow). is_name row.name ≡ true) rows
  few : AllByRecursion (λ (row : AlbumRow). member_count row.id t.recordings ≤ MOST_MEMBERS) rows

albums_pass : (t : Tables) → AreInOrder t → first_bad_of (bad_album t) [] t.albums ≡ None
albums_pass t are = none_bad (bad_album t) (AlbumsFit t) step [] t.albums (record {
  above = AllByRecursion-weaken (λ (row : AlbumRow). IsGiven t.next_album row.id) (λ (row : AlbumRow). nat_lt 0 row.id ≡ true)
      (λ row given. above_none t.next_album row.id given) t.albums are.album_ids_given;
  rise = are.albums;
  given = are.album_ids_given;
  names = are.album_names;
  few = are.few_members;
})
  where
    step : (seen : List AlbumRow) (row : AlbumRow) (rows : List AlbumRow) → AlbumsFit t seen (row ∷ rows)
        → (bad_album t seen row ≡ None) × AlbumsFit t (row ∷ seen) rows
    step seen row rows fit = (
      ap (bad_at Albums row.id)
          (album_passes t.next_album (album_before seen) (member_count row.id t.recordings) row fit.above.0 fit.given.0 fit.names.0 fit.few.0),
      record { above = fit.rise.0; rise = fit.rise.1; given = fit.given.1; names = fit.names.1; few = fit.few.1 },
    )

-- what a recording's row has of itself
pub record RecordingPasses (t : Tables) (row : RecordingRow) : Type 0 where
  pub sound : is_sound row ≡ true
  pub segments : has_segments row.take t.segments ≡ true

-- recordings that pass, behind those that were seen
record RecordingsFit (t : Tables) (seen rows : List RecordingRow) : Type 0 where
  above : AllByRecursion (λ (row : RecordingRow). nat_lt (recording_before seen) row.id ≡ true) rows
  rise : Ascends recording_less rows
  ids : AllByRecursion (λ (row : RecordingRow). IsGiven t.next_recording row.id) rows
  takes : AllByRecursion (λ (row : RecordingRow). IsGiven t.next_take row.take) rows
  fresh : AllByRecursion (λ (row : RecordingRow). is_named row.take seen ≡ false) rows
  differ : Differ (map (λ (row : RecordingRow). row.take) rows)
  albums : AllByRecursion (λ (row : RecordingRow). album_is_there row.album t.albums ≡ true) rows
  names : AllByRecursion (λ (row : RecordingRow). is_name row.name ≡ true) rows
  pass : AllByRecursion (RecordingPasses t) rows

-- no row seen names a take of another
still_fresh : (seen : List RecordingRow) (row : RecordingRow) (rows : List RecordingRow)
    → AllByRecursion (λ (r : RecordingRow). is_named r.take seen ≡ false) rows
    → AllByRecursion (λ (later : ℕ). later ≢ row.take) (map (λ (r : RecordingRow). r.take) rows)
    → AllByRecursion (λ (r : RecordingRow). is_named r.take (row ∷ seen) ≡ false) rows
still_fresh seen row rows fresh differ =
    AllByRecursion-both (λ (r : RecordingRow). is_named r.take seen ≡ false) (λ (r : RecordingRow). r.take ≢ row.take)
    (λ (r : RecordingRow). is_named r.take (row ∷ seen) ≡ false) rows neither fresh
    (AllByRecursion-unmap (λ (later : ℕ). later ≢ row.take) (λ (r : RecordingRow). r.take) rows differ)
  where
    neither : (r : RecordingRow) → is_named r.take seen ≡ false → r.take ≢ row.take → is_named r.take (row ∷ seen) ≡ false
    neither r unseen differs =
        let other : (row.take == r.take) ≡ false = grind (arith, nat_tests) in rw (other, unseen) refl

fresh_at_first : (rows : List RecordingRow) → AllByRecursion (λ (r : RecordingRow). is_named r.take [] ≡ false) rows
fresh_at_first [] = tt
fresh_at_first (r ∷ rows) = (refl, fresh_at_first rows)

recordings_pass : (t : Tables) → AreInOrder t → AllByRecursion (RecordingPasses t) t.recordings
    → first_bad_of (bad_recording t) [] t.recordings ≡ None
recordings_pass t are pass = none_bad (bad_recording t) (RecordingsFit t) step [] t.recordings (record {
  above = AllByRecursion-weaken (λ (row : RecordingRow). IsGiven t.next_recording row.id)
      (λ (row : RecordingRow). nat_lt 0 row.id ≡ true) (λ row given. above_none t.next_recording row.id given) t.recordings are.ids_given;
  rise = are.recordings;
  ids = are.ids_given;
  takes = are.takes_given;
  fresh = fresh_at_first t.recordings;
  differ = are.takes_differ;
  albums = are.albums_there;
  names = are.names;
  pass = pass;
})
  where
    step : (seen : List RecordingRow) (row : RecordingRow) (rows : List RecordingRow) → RecordingsFit t seen (row ∷ rows)
        → (bad_recording t seen row ≡ None) × RecordingsFit t (row ∷ seen) rows
    step seen row rows fit = (
      ap (bad_at Recordings row.id)
          (recording_passes t seen row fit.above.0 fit.ids.0 fit.takes.0 fit.albums.0 fit.names.0 fit.pass.0.sound fit.pass.0.segments fit.fresh.0),
      record {
        above = fit.rise.0;
        rise = fit.rise.1;
        ids = fit.ids.1;
        takes = fit.takes.1;
        fresh = still_fresh seen row rows fit.fresh.1 fit.differ.0;
        differ = fit.differ.1;
        albums = fit.albums.1;
        names = fit.names.1;
        pass = fit.pass.1;
      },
    )

-- the energies of segments are those of the recording that names their take
abbrev pub SegmentsPass : Tables → SegmentRow → Type 0
SegmentsPass t row = energies_rule (frames_of_take row.take t.recordings) row.energies ≡ None

-- segments that pass, behind those that were seen
record SegmentsFit (t : Tables) (seen rows : List SegmentRow) : Type 0 where
  above : AllByRecursion (λ (row : SegmentRow). nat_lt (segments_before seen) row.take ≡ true) rows
  rise : Ascends segments_less rows
  given : AllByRecursion (λ (row : SegmentRow). IsGiven t.next_take row.take) rows
  pass : AllByRecursion (SegmentsPass t) rows

all_segments_pass : (t : Tables) → AreInOrder t → AllByRecursion (SegmentsPass t) t.segments
    → first_bad_of (bad_segments t) [] t.segments ≡ None
all_segments_pass t are pass = none_bad (bad_segments t) (SegmentsFit t) step [] t.segments (record {
  above = AllByRecursion-weaken (λ (row : SegmentRow). IsGiven t.next_take row.take) (λ (row : SegmentRow). nat_lt 0 row.take ≡ true)
      (λ row given. above_none t.next_take row.take given) t.segments are.segments_given;
  rise = are.segments;
  given = are.segments_given;
  pass = pass;
})
  where
    step : (seen : List SegmentRow) (row : SegmentRow) (rows : List SegmentRow) → SegmentsFit t seen (row ∷ rows)
        → (bad_segments t seen row ≡ None) × SegmentsFit t (row ∷ seen) rows
    step seen row rows fit = (
      ap (bad_at Segments row.take)
          (segments_pass t.next_take (segments_before seen) (frames_of_take row.take t.recordings) row fit.above.0 fit.given.0 fit.pass.0),
      record { above = fit.rise.0; rise = fit.rise.1; given = fit.given.1; pass = fit.pass.1 },
    )

-- replies that pass, behind those that were seen
record RepliesFit (seen rows : List ReplyRow) : Type 0 where
  above : AllByRecursion (λ (row : ReplyRow). is_above (token_before seen) row.token ≡ true) rows
  rise : Ascends reply_less rows
  tokens : AllByRecursion (λ (row : ReplyRow). is_token row.token ≡ true) rows
  statuses : AllByRecursion (λ (row : ReplyRow). IsKeptStatus row.status) rows

above_at_first : (rows : List ReplyRow) → AllByRecursion (λ (row : ReplyRow). is_above None row.token ≡ true) rows
above_at_first [] = tt
above_at_first (r ∷ rows) = (refl, above_at_first rows)

replies_pass : (t : Tables) → AreInOrder t → first_bad_of bad_reply [] t.replies ≡ None
replies_pass t are = none_bad bad_reply RepliesFit step [] t.replies (record {
  above = above_at_first t.replies;
  rise = are.replies;
  tokens = are.tokens;
  statuses = are.statuses;
})
  where
    step : (seen : List ReplyRow) (row : ReplyRow) (rows : List ReplyRow) → RepliesFit seen (row ∷ rows)
        → (bad_reply seen row ≡ None) × RepliesFit (row ∷ seen) rows
    step seen row rows fit = (
      ap (bad_at Replies (length seen + 1))
          (reply_passes row (is_above (token_before seen) row.token) fit.above.0 fit.tokens.0 fit.statuses.0),
      record { above = fit.rise.0; rise = fit.rise.1; tokens = fit.tokens.1; statuses = fit.statuses.1 },
    )

-- ---- all tables

-- Tables in order, whose recordings and segments pass, break none of these rules.
pub none_of_rows : (t : Tables) → AreInOrder t → AllByRecursion (RecordingPasses t) t.recordings → AllByRecursion (SegmentsPass t) t.segments
    → first_bad_row t ≡ None
none_of_rows t are recordings segments =
    rw (counters_pass t are, albums_pass t are, recordings_pass t are recordings, all_segments_pass t are segments) (replies_pass t are)
