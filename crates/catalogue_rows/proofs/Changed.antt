-- Rows in memory after changes of the tables.
use Rattle.std.proofs.Common.{◌≡◌, ◌≢◌, ◌==◌, ℕ, Bool, true, false, not, cond, List, [], ◌∷◌, map, nat_lt, Option, None, Some, refl, sym, ap, ◌∙◌, subst, arith}
use Rattle.std.specs.List.{AllByRecursion, find}
use Rattle.std.specs.Option.{option_map}
use Rattle.std.proofs.lemmas.Bool.Decides.{nat_tests}
use Rattle.lib_base.specs.declared.files.Measured.{Measured}
use Rattle.keeper_store.specs.declared.contents.Tables.{Tables}
use Rattle.keeper_store.specs.declared.row_types.AlbumRow.{AlbumRow}
use Rattle.keeper_store.specs.declared.row_types.RecordingRow.{RecordingRow}
use Rattle.keeper_store.specs.declared.row_types.SegmentRow.{SegmentRow}
use Rattle.keeper_store.specs.declared.contents.Change.TheVariants.{PutAlbum, PutSegments, DropAlbum, DropSegments}
use Rattle.keeper_store.specs.Changes.{changed}
use Rattle.keeper_store.specs.EnergyBytes.{energies_in}
use Rattle.keeper_store.specs.Puts.{put, without, album_less, album_id, segments_less, segments_take, Ascends, IsFirstOfNumber}
use Rattle.std.proofs.Math.ListN.{get_or, set}
use Rattle.keeper_store.proofs.Putting.{map-put, AllByRecursion-put, AllByRecursion-weaken, All-at, Ascends-put}
use Rattle.keeper_store.proofs.Dropping.{map-without, AllByRecursion-without}
use Rattle.album_merge.specs.Members.{IsAlbumOf, Kept}
use Rattle.album_merge.specs.Tallies.{Tallied, StandsForMeasured}
use Rattle.library_model.specs.RowRules.{measured_in, members_in, is_in_album, energies_of_take}
use Rattle.catalogue_rows.specs.declared.kept.KeptAlbum.{KeptAlbum}
use Rattle.catalogue_rows.specs.declared.kept.KeptRecording.{KeptRecording}
use Rattle.catalogue_rows.specs.declared.rows.CatalogueRows.{CatalogueRows}
use Rattle.catalogue_rows.specs.KeptOrders.{kept_album_id, kept_album_less, kept_albums_in_order, kept_recording_id}
use Rattle.kept_replies.specs.Holding as replies
use Rattle.kept_replies.specs.declared.keeping.KeptReplies.{KeptReplies}
use Rattle.catalogue_rows.specs.Making.{HasNoMembers, IsUnnamed}
use Rattle.catalogue_rows.proofs.Moved.{set_is_put}
use Rattle.catalogue_rows.specs.Holding.{HasOwn, Holds, IsBeside, IsInAlbum, album_of, album_row, recording_row, numbers_of}

-- a row found among parts
pub find_parts : {K A : Type 0} (number : A → ℕ) (n : ℕ) (f : K → A) (ks : List K)
    → option_map f (find (λ k. number (f k) == n) ks) ≡ find (λ a. number a == n) (map f ks)
find_parts number n f [] = refl
find_parts {K} {A} number n f (k ∷ ks) = cases (find_parts number n f ks) (number (f k) == n)
  where
    cases : option_map f (find (λ x. number (f x) == n) ks) ≡ find (λ a. number a == n) (map f ks) → (here : Bool)
        → option_map f (cond here (Some k) (find (λ x. number (f x) == n) ks))
        ≡ cond here (Some (f k)) (find (λ a. number a == n) (map f ks))
    cases rest true = refl
    cases rest false = rest

-- rows hold the tables with an album of no recording more
pub Holds-put_empty_album : (rows next : CatalogueRows) (t : Tables) (row : AlbumRow) (members : Kept) → Holds rows t → HasNoMembers row.id t
    → IsAlbumOf members [] → next.albums.items ≡ put kept_album_less (record { row = row; members = members }) rows.albums.items
    → numbers_of next ≡ numbers_of rows → next.recordings.items ≡ rows.recordings.items → next.replies ≡ rows.replies
    → Holds next (changed (PutAlbum row) t)
Holds-put_empty_album rows next t row members holds none stands put_is numbers recordings same_replies = record {
  numbers = numbers ∙ holds.numbers;
  albums = ap (map album_row) put_is
      ∙ map-put kept_album_less album_less album_row (λ a b. refl) kept rows.albums.items
      ∙ ap (put album_less row) holds.albums;
  recordings = ap (map recording_row) recordings ∙ holds.recordings;
  replies = subst (λ (kept : KeptReplies). replies.Holds kept t.replies) (sym same_replies) holds.replies;
  in_albums = subst (λ (l : List KeptAlbum). AllByRecursion (IsInAlbum t) l) (sym put_is)
      (AllByRecursion-put (IsInAlbum t) kept_album_less kept rows.albums.items its holds.in_albums);
  beside = subst (λ (l : List KeptRecording). AllByRecursion (IsBeside t) l) (sym recordings) holds.beside;
}
  where
    kept : KeptAlbum
    kept = record { row = row; members = members }

    its : IsInAlbum t kept
    its = subst (λ (rs : List RecordingRow). IsAlbumOf members (map (λ (r : RecordingRow). (r.id, measured_in t r)) rs)) (sym none) stands

-- or with an album less
pub Holds-drop_album : (rows next : CatalogueRows) (t : Tables) (id : ℕ) → Holds rows t
    → next.albums.items ≡ without kept_album_id id rows.albums.items
    → numbers_of next ≡ numbers_of rows → next.recordings.items ≡ rows.recordings.items → next.replies ≡ rows.replies
    → Holds next (changed (DropAlbum id) t)
Holds-drop_album rows next t id holds left numbers recordings same_replies = record {
  numbers = numbers ∙ holds.numbers;
  albums = ap (map album_row) left
      ∙ map-without kept_album_id album_id album_row (λ a. refl) id rows.albums.items
      ∙ ap (without album_id id) holds.albums;
  recordings = ap (map recording_row) recordings ∙ holds.recordings;
  replies = subst (λ (kept : KeptReplies). replies.Holds kept t.replies) (sym same_replies) holds.replies;
  in_albums = subst (λ (l : List KeptAlbum). AllByRecursion (IsInAlbum t) l) (sym left)
      (AllByRecursion-without (IsInAlbum t) kept_album_id id rows.albums.items holds.in_albums);
  beside = subst (λ (l : List KeptRecording). AllByRecursion (IsBeside t) l) (sym recordings) holds.beside;
}

-- what holds of all rows holds of the one that is found
pub found_holds : {K : Type 0} (P : K → Type 0) (test : K → Bool) (k : K) (ks : List K) → Some k ≡ find test ks → AllByRecursion P ks
    → P k × (test k ≡ true)
found_holds P test k [] found all = (cc found, cc found)
found_holds {K} P test k (x ∷ ks) found all = cases (λ more. found_holds P test k ks more all.1) (test x) refl found
  where
    same : Some k ≡ Some x → k ≡ x
    same is = cc is

    cases : (Some k ≡ find test ks → P k × (test k ≡ true)) → (here : Bool) → test x ≡ here → Some k ≡ cond here (Some x) (find test ks)
        → P k × (test k ≡ true)
    cases rest true is at = (
      subst P (sym (same at)) all.0,
      ap test (same at) ∙ is,
    )
    cases rest false is at = rest at

-- the row of a recording, or of an album, by what is kept of it
pub recording_found : (rows : CatalogueRows) (t : Tables) (id : ℕ) (found : Option KeptRecording) → Holds rows t
    → found ≡ find (λ (k : KeptRecording). kept_recording_id k == id) rows.recordings.items
    → option_map recording_row found ≡ find (λ (row : RecordingRow). row.id == id) t.recordings
recording_found rows t id found holds is =
    ap (option_map recording_row) is ∙ find_parts (λ (r : RecordingRow). r.id) id recording_row rows.recordings.items
    ∙ ap (find (λ (row : RecordingRow). row.id == id)) holds.recordings

pub album_found : (rows : CatalogueRows) (t : Tables) (id : ℕ) (found : Option KeptAlbum) → Holds rows t
    → found ≡ find (λ (k : KeptAlbum). kept_album_id k == id) rows.albums.items
    → option_map album_row found ≡ find (λ (row : AlbumRow). row.id == id) t.albums
album_found rows t id found holds is =
    ap (option_map album_row) is ∙ find_parts (λ (r : AlbumRow). r.id) id album_row rows.albums.items
    ∙ ap (find (λ (row : AlbumRow). row.id == id)) holds.albums

-- what an album that is found stands for
pub members_found : (rows : CatalogueRows) (t : Tables) (id : ℕ) (kept : KeptAlbum) → Holds rows t
    → Some kept ≡ find (λ (k : KeptAlbum). kept_album_id k == id) rows.albums.items → IsAlbumOf kept.members (album_of t t.recordings id)
members_found rows t id kept holds is =
    let found = found_holds (IsInAlbum t) (λ (k : KeptAlbum). kept_album_id k == id) kept rows.albums.items is holds.in_albums in
    let passed : (kept.row.id == id) ≡ true = found.1 in
    let same : kept.row.id ≡ id = grind (arith, nat_tests, passed) in
    subst (λ (n : ℕ). IsAlbumOf kept.members (album_of t t.recordings n)) same found.0

-- ---- segments

-- the energies of another take stay
energies_put : (take : ℕ) (row : SegmentRow) (rows : List SegmentRow) → row.take ≢ take
    → energies_of_take take (put segments_less row rows) ≡ energies_of_take take rows
energies_put take row [] apart =
    let test : (row.take == take) ≡ false = grind (arith, nat_tests, apart) in rw test refl
energies_put take row (s ∷ rows) apart =
    cases (energies_put take row rows apart) (nat_lt s.take row.take) refl (nat_lt row.take s.take) refl
  where
    test : (row.take == take) ≡ false
    test = grind (arith, nat_tests, apart)

    cases : energies_of_take take (put segments_less row rows) ≡ energies_of_take take rows
        → (first : Bool) → nat_lt s.take row.take ≡ first → (second : Bool) → nat_lt row.take s.take ≡ second
        → energies_of_take take (cond first (s ∷ put segments_less row rows) (cond second (row ∷ s ∷ rows) (row ∷ rows)))
        ≡ energies_of_take take (s ∷ rows)
    cases rest true is second also = ap (λ (es : List ℕ). cond (s.take == take) (energies_in s.energies) es) rest
    cases rest false is true also = rw test refl
    cases rest false is false also =
        let other : (s.take == take) ≡ false = grind (arith, nat_tests, is, also, apart) in
        rw (test, other) refl

-- they stay where another take's go
energies_without : (take gone : ℕ) (rows : List SegmentRow) → take ≢ gone
    → energies_of_take take (without segments_take gone rows) ≡ energies_of_take take rows
energies_without take gone [] apart = refl
energies_without take gone (s ∷ rows) apart = cases (energies_without take gone rows apart) (s.take == gone) refl
  where
    cases : energies_of_take take (without segments_take gone rows) ≡ energies_of_take take rows → (here : Bool) → (s.take == gone) ≡ here
        → energies_of_take take (cond (not here) (s ∷ without segments_take gone rows) (without segments_take gone rows))
        ≡ energies_of_take take (s ∷ rows)
    cases rest true is =
        let other : (s.take == take) ≡ false = grind (arith, nat_tests, is, apart) in
        rw other rest
    cases rest false is = ap (λ (es : List ℕ). cond (s.take == take) (energies_in s.energies) es) rest

-- rows hold what changes no recording's measure
Holds-measured : (rows : CatalogueRows) (t : Tables) (segments : List SegmentRow) → Holds rows t
    → AllByRecursion (λ (r : RecordingRow). measured_in (record t { segments = segments }) r ≡ measured_in t r) t.recordings
    → Holds rows (record t { segments = segments })
Holds-measured rows t segments holds same = record {
  numbers = holds.numbers;
  albums = holds.albums;
  recordings = holds.recordings;
  replies = holds.replies;
  in_albums = AllByRecursion-weaken (IsInAlbum t) (IsInAlbum (record t { segments = segments })) still rows.albums.items holds.in_albums;
  beside = besides rows.recordings.items (subst (λ (rs : List RecordingRow).
      AllByRecursion (λ (r : RecordingRow). measured_in (record t { segments = segments }) r ≡ measured_in t r) rs) (sym holds.recordings) same) holds.beside;
}
  where
    of_album : (id : ℕ) (rs : List RecordingRow) → AllByRecursion (λ (r : RecordingRow). measured_in (record t { segments = segments }) r ≡ measured_in t r) rs
        → album_of t rs id ≡ album_of (record t { segments = segments }) rs id
    of_album id [] all = refl
    of_album id (r ∷ rs) all = cases (of_album id rs all.1) (is_in_album id r.album)
      where
        first : measured_in (record t { segments = segments }) r ≡ measured_in t r
        first = all.0

        cases : album_of t rs id ≡ album_of (record t { segments = segments }) rs id → (here : Bool)
            → map {B = ℕ × Measured} (λ (s : RecordingRow). (s.id, measured_in t s)) (cond here (r ∷ members_in id rs) (members_in id rs))
            ≡ map {B = ℕ × Measured} (λ (s : RecordingRow). (s.id, measured_in (record t { segments = segments }) s)) (cond here (r ∷ members_in id rs) (members_in id rs))
        cases rest true = rw (sym first) (ap (λ (l : List (ℕ × Measured)). (r.id, measured_in (record t { segments = segments }) r) ∷ l) rest)
        cases rest false = rest

    still : (a : KeptAlbum) → IsInAlbum t a → IsInAlbum (record t { segments = segments }) a
    still a is = subst (λ (l : List (ℕ × Measured)). IsAlbumOf a.members l) (of_album a.row.id t.recordings same) is

    besides : (ks : List KeptRecording)
        → AllByRecursion (λ (r : RecordingRow). measured_in (record t { segments = segments }) r ≡ measured_in t r) (map recording_row ks)
        → AllByRecursion (IsBeside t) ks → AllByRecursion (IsBeside (record t { segments = segments })) ks
    besides [] all its = tt
    besides (k ∷ ks) all its =
        (subst (λ (m : Measured). HasOwn k.row.album k.tally m) (sym all.0) its.0, besides ks all.1 its.1)

abbrev measured_with : RecordingRow → List ℕ → Measured
measured_with r es = record {
  channels = r.channels;
  depth = r.depth;
  frames = r.summary.frames;
  energies = es;
  peak = r.summary.peak;
}

-- the same is measured of a recording of another take once segments are put, or dropped
pub measured_put : (t : Tables) (row : SegmentRow) (r : RecordingRow) → r.take ≢ row.take
    → measured_in (changed (PutSegments row) t) r ≡ measured_in t r
measured_put t row r apart = ap (measured_with r) (energies_put r.take row t.segments (λ same. apart (sym same)))

pub measured_drop : (t : Tables) (take : ℕ) (r : RecordingRow) → r.take ≢ take
    → measured_in (changed (DropSegments take) t) r ≡ measured_in t r
measured_drop t take r apart = ap (measured_with r) (energies_without r.take take t.segments apart)

-- Rows hold the tables with the segments of a take that no recording names.
pub Holds-put_segments : (rows : CatalogueRows) (t : Tables) (row : SegmentRow) → Holds rows t → IsUnnamed row.take t
    → Holds rows (changed (PutSegments row) t)
Holds-put_segments rows t row holds unnamed =
    Holds-measured rows t (put segments_less row t.segments) holds
    (AllByRecursion-weaken (λ (r : RecordingRow). r.take ≢ row.take)
    (λ (r : RecordingRow). measured_in (record t { segments = put segments_less row t.segments }) r ≡ measured_in t r)
    (measured_put t row) t.recordings unnamed)

-- Or without them.
pub Holds-drop_segments : (rows : CatalogueRows) (t : Tables) (take : ℕ) → Holds rows t → IsUnnamed take t
    → Holds rows (changed (DropSegments take) t)
Holds-drop_segments rows t take holds unnamed =
    Holds-measured rows t (without segments_take take t.segments) holds
    (AllByRecursion-weaken (λ (r : RecordingRow). r.take ≢ take)
    (λ (r : RecordingRow). measured_in (record t { segments = without segments_take take t.segments }) r ≡ measured_in t r)
    (measured_drop t take) t.recordings unnamed)

-- Rows hold the tables with their albums' objects standing for the same.
pub Holds-albums : (rows next : CatalogueRows) (t : Tables) → Holds rows t → map album_row next.albums.items ≡ map album_row rows.albums.items
    → AllByRecursion (IsInAlbum t) next.albums.items → next.recordings.items ≡ rows.recordings.items → next.replies ≡ rows.replies
    → numbers_of next ≡ numbers_of rows → Holds next t
Holds-albums rows next t holds same members recordings same_replies numbers = record {
  numbers = numbers ∙ holds.numbers;
  albums = same ∙ holds.albums;
  recordings = ap (map recording_row) recordings ∙ holds.recordings;
  replies = subst (λ (kept : KeptReplies). replies.Holds kept t.replies) (sym same_replies) holds.replies;
  in_albums = members;
  beside = subst (λ (l : List KeptRecording). AllByRecursion (IsBeside t) l) (sym recordings) holds.beside;
}

-- Or with another row over that of an album.
pub Holds-put_album_over : (rows next : CatalogueRows) (t : Tables) (row : AlbumRow) (place : ℕ) (was : KeptAlbum) → Holds rows t
    → IsFirstOfNumber kept_album_id row.id rows.albums.items place → was ≡ get_or rows.albums.items place was
    → next.albums.items ≡ set rows.albums.items place (record { row = row; members = was.members })
    → numbers_of next ≡ numbers_of rows → next.recordings.items ≡ rows.recordings.items → next.replies ≡ rows.replies
    → Holds next (changed (PutAlbum row) t)
Holds-put_album_over rows next t row place was holds at is set_is numbers recordings same_replies = record {
  numbers = numbers ∙ holds.numbers;
  albums = ap (map album_row) put_is
      ∙ map-put kept_album_less album_less album_row (λ a b. refl) kept rows.albums.items
      ∙ ap (put album_less row) holds.albums;
  recordings = ap (map recording_row) recordings ∙ holds.recordings;
  replies = subst (λ (all : KeptReplies). replies.Holds all t.replies) (sym same_replies) holds.replies;
  in_albums = subst (λ (l : List KeptAlbum). AllByRecursion (IsInAlbum t) l) (sym put_is)
      (AllByRecursion-put (IsInAlbum t) kept_album_less kept rows.albums.items its holds.in_albums);
  beside = subst (λ (l : List KeptRecording). AllByRecursion (IsBeside t) l) (sym recordings) holds.beside;
}
  where
    kept : KeptAlbum
    kept = record { row = row; members = was.members }

    put_is : next.albums.items ≡ put kept_album_less kept rows.albums.items
    put_is = set_is ∙ set_is_put kept_album_less kept_album_id (λ a b. refl) kept row.id rows.albums.items place rows.albums_ascend at refl

    same : was.row.id ≡ row.id
    same = ap kept_album_id is ∙ at.same was

    stood : IsInAlbum t was
    stood = subst (IsInAlbum t) (sym is) (All-at (IsInAlbum t) rows.albums.items holds.in_albums place was at.inside)

    its : IsInAlbum t kept
    its = subst (λ (n : ℕ). IsAlbumOf was.members (album_of t t.recordings n)) same stood

-- albums ascend with one put over another
pub albums_rise_set : (ks : List KeptAlbum) (n place : ℕ) (kept : KeptAlbum) → Ascends kept_album_less ks
    → IsFirstOfNumber kept_album_id n ks place → kept.row.id ≡ n → Ascends kept_album_less (set ks place kept)
albums_rise_set ks n place kept rise at same =
    subst (Ascends kept_album_less)
    (sym (set_is_put kept_album_less kept_album_id (λ a b. refl) kept n ks place rise at same))
    (Ascends-put kept_album_less kept_albums_in_order kept ks rise)
