-- What those who stage changes show of them.
use Rattle.std.proofs.Common.{◌≡◌, ◌≢◌, ◌≤◌, ◌==◌, ◌||◌, ℕ, Bool, true, false, cond, List, [], ◌∷◌, length, Option, None, Some, refl, sym, ap, ◌∙◌, subst, arith}
use Rattle.std.specs.Prelude.{IfSome}
use Rattle.std.specs.List.{AllByRecursion, find}
use Rattle.std.specs.Str.{bytes_eq}
use Rattle.std.proofs.lemmas.Bool.Decides.{nat_tests}
use Rattle.lib_base.specs.declared.limits.TheConstants.{MOST_MEMBERS}
use Rattle.keeper_store.specs.declared.contents.Change.{Change}
use Rattle.keeper_store.specs.declared.contents.Change.TheVariants.{Counters, PutRecording, PutSegments, DropRecording}
use Rattle.keeper_store.specs.declared.contents.Tables.{Tables}
use Rattle.keeper_store.specs.declared.row_types.AlbumRow.{AlbumRow}
use Rattle.keeper_store.specs.declared.row_types.RecordingRow.{RecordingRow}
use Rattle.keeper_store.specs.declared.row_types.ReplyRow.{ReplyRow}
use Rattle.keeper_store.specs.declared.row_types.SegmentRow.{SegmentRow}
use Rattle.keeper_store.specs.Changes.{changed}
use Rattle.keeper_store.specs.Puts.{put, recording_less}
use Rattle.keeper_store.proofs.Putting.{AllByRecursion-weaken}
use Rattle.kept_replies.proofs.KeptRows.{fresh_held, held_fresh}
use Rattle.album_merge.specs.Members.{Kept}
use Rattle.library_model.specs.RowRules.{album_is_there, has_album, measured_in, member_count}
use Rattle.catalogue_rows.specs.declared.fresh.Fresh.{Fresh}
use Rattle.catalogue_rows.specs.declared.kept.KeptAlbum.{KeptAlbum}
use Rattle.catalogue_rows.specs.declared.rows.CatalogueRows.{CatalogueRows}
use Rattle.catalogue_rows.specs.Holding.{Holds}
use Rattle.catalogue_rows.specs.Making.{IsUnnamed}
use Rattle.catalogue_rows.specs.Room.{HasPlaceIn, HasPlaces, HasRoom, HasRoomFor, one_in, puts_into}
use Rattle.catalogue_rows.specs.Seeing.{IsFresh}
use Rattle.catalogue_rows.specs.Trying.{DropsRow, MeasuresOthers, PutsRow}
use Rattle.catalogue_rows.proofs.Changed.{measured_put}

-- ---- room

-- fewer places than there are
pub places_less : (more less : ℕ → ℕ) (ks : List KeptAlbum) → ((id : ℕ) → less id ≤ more id)
    → AllByRecursion (λ (k : KeptAlbum). more k.row.id ≤ k.members.spare) ks
    → AllByRecursion (λ (k : KeptAlbum). less k.row.id ≤ k.members.spare) ks
places_less more less ks fewer all =
    AllByRecursion-weaken (λ (k : KeptAlbum). more k.row.id ≤ k.members.spare) (λ (k : KeptAlbum). less k.row.id ≤ k.members.spare)
    (λ k has. let few = fewer k.row.id in omega (arith, few, has)) ks all

-- There is room for changes that put a recording into one album at most, in which a place was made.
pub room_for : (rows : CatalogueRows) (fresh : Fresh) (changes : List Change) (album : Option ℕ) → HasRoom rows (length changes)
    → HasPlaceIn rows album → ((id : ℕ) → puts_into changes id ≤ one_in album id) → fresh.album ≡ None → HasRoomFor rows fresh changes
room_for rows fresh changes album room place puts none = record {
  room = room;
  places = places_less (one_in album) (puts_into changes) rows.albums.items puts place;
  new = rw none tt;
}

-- There is room for changes that put no recording into an album.
pub room_for_none : (rows : CatalogueRows) (fresh : Fresh) (changes : List Change) → HasRoom rows (length changes)
    → ((id : ℕ) → puts_into changes id ≡ 0) → HasRoomFor rows fresh changes
room_for_none rows fresh changes room puts = record {
  room = room;
  places = each rows.albums.items;
  new = new fresh.album;
}
  where
    each : (ks : List KeptAlbum) → AllByRecursion (λ (k : KeptAlbum). puts_into changes k.row.id ≤ k.members.spare) ks
    each [] = tt
    each (k ∷ ks) = (let none = puts k.row.id in omega (arith, none), each ks)

    new : (album : Option Kept) → IfSome album (λ (a : Kept). (id : ℕ) → puts_into changes id ≤ a.spare)
    new None = tt
    new (Some a) = λ id. let none = puts id in omega (arith, none)

-- ---- tokens

-- Under a token that is fresh no reply of the tables is kept.
pub fresh_token : (rows : CatalogueRows) (t : Tables) (token : List ℕ) → Holds rows t → IsFresh rows token
    → find (λ (row : ReplyRow). bytes_eq row.token token) t.replies ≡ None
fresh_token rows t token holds fresh = fresh_held token rows.replies t.replies holds.replies fresh

-- A token is fresh where no reply of the tables is kept under it.
pub token_fresh : (rows : CatalogueRows) (t : Tables) (token : List ℕ) → Holds rows t
    → find (λ (row : ReplyRow). bytes_eq row.token token) t.replies ≡ None → IsFresh rows token
token_fresh rows t token holds none = held_fresh token rows.replies t.replies holds.replies none

-- ---- rows that are put and dropped

-- what holds of all albums holds of one that is there
there_holds : (P : ℕ → Type 0) (id : ℕ) (albums : List AlbumRow) → has_album id albums ≡ true → AllByRecursion (λ (a : AlbumRow). P a.id) albums
    → P id
there_holds P id [] has all = absurd (cc has)
there_holds P id (a ∷ albums) has all = cases (λ more. there_holds P id albums more all.1) (a.id == id) refl has
  where
    cases : (has_album id albums ≡ true → P id) → (here : Bool) → (a.id == id) ≡ here → (here || has_album id albums) ≡ true → P id
    cases rest true is has_it = let same : a.id ≡ id = grind (arith, nat_tests, is) in subst P same all.0
    cases rest false is has_it = rest has_it

-- Where no album is crowded, the one that is named is not.
pub few_named : (album : Option ℕ) (recordings : List RecordingRow) (albums : List AlbumRow) → album_is_there album albums ≡ true
    → AllByRecursion (λ (a : AlbumRow). member_count a.id recordings ≤ MOST_MEMBERS) albums
    → IfSome album (λ id. member_count id recordings ≤ MOST_MEMBERS)
few_named None recordings albums there few = tt
few_named (Some id) recordings albums there few = there_holds (λ n. member_count n recordings ≤ MOST_MEMBERS) id albums there few

-- The tables after new counters and the segments of a take that none names have a recording put.
pub puts_new : (album recording take : ℕ) (segments : SegmentRow) (row : RecordingRow) (t : Tables) → IsUnnamed segments.take t
    → PutsRow row t (changed (PutRecording row) (changed (PutSegments segments) (changed (Counters album recording take) t)))
puts_new album recording take segments row t unnamed = record {
  recordings = refl;
  others = AllByRecursion-weaken (λ (r : RecordingRow). r.take ≢ segments.take)
      (λ (r : RecordingRow). r.id ≢ row.id
      → measured_in (changed (PutRecording row) (changed (PutSegments segments) (changed (Counters album recording take) t))) r ≡ measured_in t r)
      (λ r apart other. measured_put t segments r apart) t.recordings unnamed;
}

-- So have the tables after it is put alone.
pub puts_same : (row : RecordingRow) (t : Tables) → PutsRow row t (changed (PutRecording row) t)
puts_same row t = record { recordings = refl; others = each t.recordings }
  where
    each : (rs : List RecordingRow) → AllByRecursion (λ (r : RecordingRow). r.id ≢ row.id → measured_in (changed (PutRecording row) t) r ≡ measured_in t r) rs
    each [] = tt
    each (r ∷ rs) = ((λ other. refl), each rs)

-- The tables after a recording is dropped have the others.
pub drops_same : (id : ℕ) (t : Tables) → DropsRow id t (changed (DropRecording id) t)
drops_same id t = record { recordings = refl; others = each t.recordings }
  where
    each : (rs : List RecordingRow) → AllByRecursion (λ (r : RecordingRow). r.id ≢ id → measured_in (changed (DropRecording id) t) r ≡ measured_in t r) rs
    each [] = tt
    each (r ∷ rs) = ((λ other. refl), each rs)
