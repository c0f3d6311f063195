-- What is found among the rows of a state is what the state has.
use Rattle.std.proofs.Common.{◌≡◌, ◌==◌, ◌||◌, ℕ, Bool, true, false, true≢false, cond, Option, None, Some, List, [], ◌∷◌, map, refl, sym, ap, ◌∙◌, subst, arith}
use Rattle.std.specs.List.{AllByRecursion, find}
use Rattle.std.specs.Option.{option_map}
use Rattle.std.specs.Str.{bytes_eq}
use Rattle.std.proofs.lemmas.Bool.Decides.{nat_tests}
use Rattle.keeper_store.specs.Puts.{recording_id}
use Rattle.keeper_store.specs.declared.row_types.AlbumRow.{AlbumRow}
use Rattle.keeper_store.specs.declared.row_types.RecordingRow.{RecordingRow}
use Rattle.keeper_store.specs.declared.row_types.ReplyRow.{ReplyRow}
use Rattle.library_model.specs.declared.messages.Question.TheVariants as about
use Rattle.library_model.specs.declared.refusals.Refusal.TheVariants.{NoAlbum, NoRecording}
use Rattle.library_model.specs.Bodies.{album_row_reply, row_reply}
use Rattle.library_model.specs.Machine.{album_of, found_album_reply, found_reply, ids_of, kept_under, question_reply, recording_of}
use Rattle.library_model.specs.Replies.{refusal}
use Rattle.library_model.specs.RowRules.{album_is_there, has_album, is_in_album, members_in}
use Rattle.library_model.specs.Stands.{IsValid, album_row, members, recording_row, reply_row, tables_of}
use Rattle.library_model.specs.State.{Album, Kept, Recording, State}
use Rattle.library_model.proofs.Exits.{found_row}

-- what was found has the number, and what all have
pub find_has : {A : Type 0} (number : A → ℕ) (P : A → Type 0) (n : ℕ) (xs : List A) (x : A) → AllByRecursion P xs
    → find (λ (a : A). number a == n) xs ≡ Some x → P x × (number x ≡ n)
find_has number P n [] x all is = absurd (cc is)
find_has {A} number P n (y ∷ xs) x all is = cases (number y == n) refl (find_has number P n xs x all.1) is
  where
    cases : (here : Bool) → (number y == n) ≡ here → (find (λ (a : A). number a == n) xs ≡ Some x → P x × (number x ≡ n))
        → cond here (Some y) (find (λ (a : A). number a == n) xs) ≡ Some x → P x × (number x ≡ n)
    cases true same rest is =
        let one : y ≡ x = cc is in
        let named : number y ≡ n = grind (arith, nat_tests) in
        (subst P one all.0, sym (ap number one) ∙ named)
    cases false same rest is = rest is

-- ---- recordings

-- a recording that is found has the id
pub recording_named : (id : ℕ) (rs : List Recording) (r : Recording) → recording_of id rs ≡ Some r → r.id ≡ id
recording_named id rs r is = (find_has (λ (x : Recording). x.id) (λ (x : Recording). x ≡ x) id rs r (all_same rs) is).1
  where
    all_same : (rs : List Recording) → AllByRecursion (λ (x : Recording). x ≡ x) rs
    all_same [] = tt
    all_same (x ∷ rs) = (refl, all_same rs)

-- The recording of an id among rows is the row of the one that the state has.
found_recordings : (id : ℕ) (rs : List Recording)
    → find (λ (row : RecordingRow). row.id == id) (map recording_row rs) ≡ option_map recording_row (recording_of id rs)
found_recordings id [] = refl
found_recordings id (r ∷ rs) = cases (r.id == id) (found_recordings id rs)
  where
    cases : (here : Bool) → find (λ (row : RecordingRow). row.id == id) (map recording_row rs) ≡ option_map recording_row (recording_of id rs)
        → cond here (Some (recording_row r)) (find (λ (row : RecordingRow). row.id == id) (map recording_row rs))
        ≡ option_map recording_row (cond here (Some r) (recording_of id rs))
    cases true rest = refl
    cases false rest = rest

pub found_recording : (id : ℕ) (s : State)
    → find (λ (row : RecordingRow). row.id == id) (tables_of s).recordings ≡ option_map recording_row (recording_of id s.recordings)
found_recording id s = found_recordings id s.recordings

-- Where a row is found, it is that of a recording.
pub recording_there : (s : State) (id : ℕ) (old : RecordingRow) → find (λ (row : RecordingRow). row.id == id) (tables_of s).recordings ≡ Some old
    → (r : Recording) × (recording_of id s.recordings ≡ Some r) × (recording_row r ≡ old)
recording_there s id old is = by_found (recording_of id s.recordings) refl
  where
    by_found : (found : Option Recording) → recording_of id s.recordings ≡ found
        → (r : Recording) × (recording_of id s.recordings ≡ Some r) × (recording_row r ≡ old)
    by_found None found = absurd (cc (sym is ∙ found_recording id s ∙ ap (option_map recording_row) found))
    by_found (Some r) found =
        let same : Some (recording_row r) ≡ Some old = sym (ap (option_map recording_row) found) ∙ sym (found_recording id s) ∙ is in
        (r, found, cc same)

-- Where none is found, there is none.
pub recording_missing : (s : State) (id : ℕ) → find (λ (row : RecordingRow). row.id == id) (tables_of s).recordings ≡ None
    → recording_of id s.recordings ≡ None
recording_missing s id is = by_found (recording_of id s.recordings) refl
  where
    by_found : (found : Option Recording) → recording_of id s.recordings ≡ found → recording_of id s.recordings ≡ None
    by_found None found = found
    by_found (Some r) found = absurd (cc (sym is ∙ found_recording id s ∙ ap (option_map recording_row) found))

-- A row that is found has the id.
pub found_id : (id : ℕ) (rows : List RecordingRow) (old : RecordingRow) → find (λ (row : RecordingRow). row.id == id) rows ≡ Some old → old.id ≡ id
found_id id rows old is = (find_has recording_id (λ (x : RecordingRow). x ≡ x) id rows old (all_same rows) is).1
  where
    all_same : (rows : List RecordingRow) → AllByRecursion (λ (x : RecordingRow). x ≡ x) rows
    all_same [] = tt
    all_same (x ∷ rows) = (refl, all_same rows)

-- ---- albums

pub found_albums : (id : ℕ) (albums : List Album)
    → find (λ (row : AlbumRow). row.id == id) (map album_row albums) ≡ option_map album_row (album_of id albums)
found_albums id [] = refl
found_albums id (a ∷ albums) = cases (a.id == id) (found_albums id albums)
  where
    cases : (here : Bool) → find (λ (row : AlbumRow). row.id == id) (map album_row albums) ≡ option_map album_row (album_of id albums)
        → cond here (Some (album_row a)) (find (λ (row : AlbumRow). row.id == id) (map album_row albums))
        ≡ option_map album_row (cond here (Some a) (album_of id albums))
    cases true rest = refl
    cases false rest = rest

-- The album of an id among rows is the row of the one that the state has.
pub found_album : (id : ℕ) (s : State)
    → find (λ (row : AlbumRow). row.id == id) (tables_of s).albums ≡ option_map album_row (album_of id s.albums)
found_album id s = found_albums id s.albums

-- An album that is found is there, and one that is not found is not.
pub has_album-some : (id : ℕ) (rows : List AlbumRow) (row : AlbumRow) → find (λ (a : AlbumRow). a.id == id) rows ≡ Some row → has_album id rows ≡ true
has_album-some id [] row is = absurd (cc is)
has_album-some id (a ∷ rows) row is = cases (a.id == id) (has_album-some id rows row) is
  where
    cases : (here : Bool) → (find (λ (a : AlbumRow). a.id == id) rows ≡ Some row → has_album id rows ≡ true)
        → cond here (Some a) (find (λ (a : AlbumRow). a.id == id) rows) ≡ Some row → (here || has_album id rows) ≡ true
    cases true rest is = refl
    cases false rest is = rest is

pub has_album-none : (id : ℕ) (rows : List AlbumRow) → find (λ (a : AlbumRow). a.id == id) rows ≡ None → has_album id rows ≡ false
has_album-none id [] is = refl
has_album-none id (a ∷ rows) is = cases (a.id == id) (has_album-none id rows) is
  where
    cases : (here : Bool) → (find (λ (a : AlbumRow). a.id == id) rows ≡ None → has_album id rows ≡ false)
        → cond here (Some a) (find (λ (a : AlbumRow). a.id == id) rows) ≡ None → (here || has_album id rows) ≡ false
    cases true rest is = absurd (cc is)
    cases false rest is = rest is

-- One that is there is found.
pub has_album-found : (id : ℕ) (rows : List AlbumRow) → has_album id rows ≡ true
    → (row : AlbumRow) × (find (λ (a : AlbumRow). a.id == id) rows ≡ Some row)
has_album-found id [] there = absurd (true≢false (sym there))
has_album-found id (a ∷ rows) there = cases (a.id == id) (has_album-found id rows) there
  where
    cases : (here : Bool) → (has_album id rows ≡ true → (row : AlbumRow) × (find (λ (a : AlbumRow). a.id == id) rows ≡ Some row))
        → (here || has_album id rows) ≡ true
        → (row : AlbumRow) × (cond here (Some a) (find (λ (a : AlbumRow). a.id == id) rows) ≡ Some row)
    cases true rest there = (a, refl)
    cases false rest there = rest there

-- The album that a recording is in is there.
pub own_album : (s : State) (id album : ℕ) (old : RecordingRow) → IsValid s
    → find (λ (row : RecordingRow). row.id == id) (tables_of s).recordings ≡ Some old → old.album ≡ Some album
    → (row : AlbumRow) × (find (λ (a : AlbumRow). a.id == album) (tables_of s).albums ≡ Some row)
own_album s id album old valid found is =
    let there = find_has recording_id (λ (row : RecordingRow). album_is_there row.album (tables_of s).albums ≡ true) id (tables_of s).recordings
    old valid.rows.albums_there found in
    let has : has_album album (tables_of s).albums ≡ true =
    subst (λ (a : Option ℕ). album_is_there a (tables_of s).albums ≡ true) is there.0 in
    has_album-found album (tables_of s).albums has

-- ---- tokens

-- A token under which no row is found is fresh.
pub fresh_token : (s : State) (token : List ℕ) → find (λ (row : ReplyRow). bytes_eq row.token token) (tables_of s).replies ≡ None
    → kept_under token s.replies ≡ None
fresh_token s token is = by_kept (kept_under token s.replies) refl
  where
    by_kept : (kept : Option Kept) → kept_under token s.replies ≡ kept → kept_under token s.replies ≡ None
    by_kept None found = found
    by_kept (Some k) found = absurd (cc (sym is ∙ found_row token s.replies ∙ ap (option_map reply_row) found))

-- ---- questions

-- A question after a recording is answered from its row.
pub asked_recording : (s : State) (id : ℕ) (row : RecordingRow) → find (λ (r : RecordingRow). r.id == id) (tables_of s).recordings ≡ Some row
    → question_reply s (about.Recording id) ≡ row_reply 200 row
asked_recording s id row is =
    let there = recording_there s id row is in
    ap found_reply there.1 ∙ ap (row_reply 200) there.2

-- Without a row it is refused.
pub asked_no_recording : (s : State) (id : ℕ) → find (λ (r : RecordingRow). r.id == id) (tables_of s).recordings ≡ None
    → question_reply s (about.Recording id) ≡ refusal NoRecording
asked_no_recording s id is = ap found_reply (recording_missing s id is)

-- the ids of an album's rows are those of its recordings
ids_of_rows : (id : ℕ) (rs : List Recording) → map recording_id (members_in id (map recording_row rs)) ≡ ids_of (members id rs)
ids_of_rows id [] = refl
ids_of_rows id (r ∷ rs) = cases (is_in_album id r.album) (ids_of_rows id rs)
  where
    cases : (inside : Bool) → map recording_id (members_in id (map recording_row rs)) ≡ ids_of (members id rs)
        → map recording_id (cond inside (recording_row r ∷ members_in id (map recording_row rs)) (members_in id (map recording_row rs)))
        ≡ ids_of (cond inside (r ∷ members id rs) (members id rs))
    cases true rest = ap (λ (ids : List ℕ). r.id ∷ ids) rest
    cases false rest = rest

-- an album's row that is found has the id
pub album_named : (id : ℕ) (rows : List AlbumRow) (row : AlbumRow) → find (λ (a : AlbumRow). a.id == id) rows ≡ Some row → row.id ≡ id
album_named id rows row is = (find_has (λ (x : AlbumRow). x.id) (λ (x : AlbumRow). x ≡ x) id rows row (all_same rows) is).1
  where
    all_same : (rows : List AlbumRow) → AllByRecursion (λ (x : AlbumRow). x ≡ x) rows
    all_same [] = tt
    all_same (x ∷ rows) = (refl, all_same rows)

-- A question after an album is answered from its row and the ids of its recordings.
pub asked_album : (s : State) (id : ℕ) (row : AlbumRow) → find (λ (a : AlbumRow). a.id == id) (tables_of s).albums ≡ Some row
    → question_reply s (about.Album id) ≡ album_row_reply 200 row (map recording_id (members_in id (tables_of s).recordings))
asked_album s id row is = by_found (album_of id s.albums) refl
  where
    Answer : Type 0
    Answer = question_reply s (about.Album id) ≡ album_row_reply 200 row (map recording_id (members_in id (tables_of s).recordings))

    by_found : (found : Option Album) → album_of id s.albums ≡ found → Answer
    by_found None found = absurd (cc (sym is ∙ found_album id s ∙ ap (option_map album_row) found))
    by_found (Some a) found =
        let one : Some (album_row a) ≡ Some row = sym (ap (option_map album_row) found) ∙ sym (found_album id s) ∙ is in
        let same : album_row a ≡ row = cc one in
        let id_is : a.id ≡ id = ap (λ (x : AlbumRow). x.id) same ∙ album_named id (tables_of s).albums row is in
        ap (found_album_reply s) found ∙ ap (λ (n : ℕ). album_row_reply 200 (album_row a) (ids_of (members n s.recordings))) id_is
        ∙ ap (λ (x : AlbumRow). album_row_reply 200 x (ids_of (members id s.recordings))) same
        ∙ ap (album_row_reply 200 row) (sym (ids_of_rows id s.recordings))

-- Without a row it is refused.
pub asked_no_album : (s : State) (id : ℕ) → find (λ (a : AlbumRow). a.id == id) (tables_of s).albums ≡ None
    → question_reply s (about.Album id) ≡ refusal NoAlbum
asked_no_album s id is = by_found (album_of id s.albums) refl
  where
    by_found : (found : Option Album) → album_of id s.albums ≡ found → question_reply s (about.Album id) ≡ refusal NoAlbum
    by_found None found = ap (found_album_reply s) found
    by_found (Some a) found = absurd (cc (sym is ∙ found_album id s ∙ ap (option_map album_row) found))
