-- What is built of tables, recording by recording.
use Rattle.std.proofs.Common.{◌≡◌, ◌<◌, ◌≤◌, ◌+◌, ℕ, true, List, [], ◌∷◌, ◌++◌, length, take, nat_lt, Option, Some, None, sym, ap, ◌∙◌, subst, inr}
use Rattle.std.specs.List.{AllByRecursion}
use Rattle.std.specs.Option.{option_or}
use Rattle.std.proofs.Math.ListN.{get_or}
use Rattle.std.proofs.lemmas.List.{take_more}
use Rattle.lib_base.specs.declared.files.Measured.{Measured}
use Rattle.lib_base.specs.declared.limits.TheConstants.{MOST_MEMBERS}
use Rattle.keeper_store.specs.declared.contents.Tables.{Tables}
use Rattle.keeper_store.specs.declared.row_types.AlbumRow.{AlbumRow}
use Rattle.keeper_store.specs.declared.row_types.RecordingRow.{RecordingRow}
use Rattle.keeper_store.specs.Held.{RowsAscend}
use Rattle.keeper_store.specs.Puts.{recording_less}
use Rattle.keeper_store.proofs.Putting.{All-at}
use Rattle.album_merge.specs.Members.{IsAlbumOf}
use Rattle.album_merge.specs.Tallies.{Tallied}
use Rattle.library_model.specs.declared.bad_rows.BadRow.{BadRow}
use Rattle.library_model.specs.RowRules.{first_bad_row, measured_in, is_in_album, album_is_there, member_count, IsSummedRecording, other_recording_summary, IsFirstBad}
use Rattle.catalogue_rows.specs.declared.building.Built.{Built}
use Rattle.catalogue_rows.specs.Opening.{AreAlbumsOf, AreOwn, AreSummed, HasPlace, HavePlace, IsBuilt, IsFirstOther, IsFirstSummary, IsOther, with_row}
use Rattle.catalogue_rows.specs.Holding.{HasOwn, album_of}
use Rattle.catalogue_rows.proofs.Placed.{AllZip-more, AllZip-weaken, AllByRecursion-any, album_more, earlier, has_place}
use Rattle.catalogue_rows.proofs.Summed.{other_more}
use Rattle.catalogue_rows.proofs.Unbroken.{unbroken}

-- the album of a recording is there
pub its_album : (t : Tables) (i : ℕ) (row : RecordingRow) → first_bad_row t ≡ None → i < length t.recordings → row ≡ get_or t.recordings i row
    → album_is_there row.album t.albums ≡ true
its_album t i row none inside is =
    subst (λ (r : RecordingRow). album_is_there r.album t.albums ≡ true) (sym is)
    (All-at (λ (r : RecordingRow). album_is_there r.album t.albums ≡ true) t.recordings (unbroken t none).albums_there i row inside)

-- and has a place for it
pub its_place : (t : Tables) (i : ℕ) (row : RecordingRow) (built : Built) → first_bad_row t ≡ None → i < length t.recordings
    → row ≡ get_or t.recordings i row → IsBuilt t (take i t.recordings) built → HavePlace row.album row.id t.albums built.albums.items
its_place t i row built none inside is so_far =
    AllZip-weaken (λ (a : AlbumRow). member_count a.id t.recordings ≤ MOST_MEMBERS)
    (λ a kept. IsAlbumOf kept (album_of t (take i t.recordings) a.id))
    (λ a kept. is_in_album a.id row.album ≡ true → HasPlace row.id kept)
    (λ a kept few stands. has_place t i row a.id kept (unbroken t none).recordings_ascend inside is few stands)
    t.albums built.albums.items (unbroken t none).few so_far.albums

-- one recording more is taken in
pub taken_in : (t : Tables) (i : ℕ) (row : RecordingRow) (built next : Built) (own : Option Tallied) (here : Option BadRow)
    → first_bad_row t ≡ None → i < length t.recordings → row ≡ get_or t.recordings i row → IsBuilt t (take i t.recordings) built
    → AreAlbumsOf (with_row row (measured_in t row) (album_of t (take i t.recordings))) t.albums next.albums.items
    → HasOwn row.album own (measured_in t row) → next.tallies.items ≡ built.tallies.items ++ own ∷ []
    → IsOther (IsSummedRecording t row) (other_recording_summary row) here → next.other ≡ option_or built.other here
    → IsBuilt t (take (i + 1) t.recordings) next
taken_in t i row built next own here none inside is so_far albums has_own tallies other other_is =
    subst (λ (seen : List RecordingRow). IsBuilt t seen next) (sym more) (record {
      albums = AllZip-weaken (λ (a : AlbumRow). Unit {0})
          (λ a kept. IsAlbumOf kept (with_row row (measured_in t row) (album_of t (take i t.recordings)) a.id))
          (λ a kept. IsAlbumOf kept (album_of t (take i t.recordings ++ row ∷ []) a.id))
          (λ a kept any stands. subst (λ (l : List (ℕ × Measured)). IsAlbumOf kept l) (album_more t (take i t.recordings) row a.id below) stands)
          t.albums next.albums.items (AllByRecursion-any (λ (a : AlbumRow). Unit {0}) (λ a. tt) t.albums) albums;
      tallies = subst (λ (l : List (Option Tallied)). AreOwn t (take i t.recordings ++ row ∷ []) l) (sym tallies)
          (AllZip-more (λ (r : RecordingRow) tally. HasOwn r.album tally (measured_in t r)) (take i t.recordings) built.tallies.items row own
          so_far.tallies has_own);
      other = subst (λ (o : Option BadRow). IsFirstOther (IsSummedRecording t) other_recording_summary (take i t.recordings ++ row ∷ []) o)
          (sym other_is) (other_more (IsSummedRecording t) other_recording_summary (take i t.recordings) row built.other here so_far.other other);
    })
  where
    more : take (i + 1) t.recordings ≡ take i t.recordings ++ row ∷ []
    more = take_more t.recordings i row inside ∙ ap (λ (r : RecordingRow). take i t.recordings ++ r ∷ []) (sym is)

    below : AllByRecursion (λ (r : RecordingRow). nat_lt r.id row.id ≡ true) (take i t.recordings)
    below = earlier recording_less t.recordings i row (unbroken t none).recordings_ascend inside is

-- rows ascend of tables of which no row is bad
pub rows_ascend : (t : Tables) → first_bad_row t ≡ None → RowsAscend t
rows_ascend t none =
    let holds = unbroken t none in
    record {
      albums = holds.albums_ascend;
      recordings = holds.recordings_ascend;
      segments = holds.segments_ascend;
      replies = holds.replies_ascend;
    }

-- tables of which no row breaks a rule, or the first that does
pub none_bad : (t : Tables) → first_bad_row t ≡ None → AreSummed t → IsFirstBad t None
none_bad t none summed = record { rows = none; albums = summed.0; recordings = summed.1 }

pub summary_bad : (t : Tables) (bad : BadRow) → first_bad_row t ≡ None → IsFirstSummary t bad → IsFirstBad t (Some bad)
summary_bad t bad none first = inr (none, first)
