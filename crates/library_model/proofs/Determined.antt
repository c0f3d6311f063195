-- Tables and blobs determine the state that they stand for.
use Rattle.std.proofs.Common.{◌≡◌, ℕ, Some, List, [], ◌∷◌, map, refl, sym, ap, ◌∙◌, subst}
use Rattle.std.specs.List.{AllByRecursion}
use Rattle.file_model.specs.Pcm.{Pcm}
use Rattle.keeper_store.specs.Blobs.{Blobs}
use Rattle.keeper_store.specs.declared.contents.Tables.{Tables}
use Rattle.keeper_store.specs.declared.row_types.AlbumRow.{AlbumRow}
use Rattle.keeper_store.specs.declared.row_types.RecordingRow.{RecordingRow}
use Rattle.keeper_store.specs.declared.row_types.ReplyRow.{ReplyRow}
use Rattle.library_model.specs.Findings.{Finds, measured}
use Rattle.library_model.specs.Stands.{HoldsFiles, IsFound, Stands, album_row, recording_row, reply_row, tables_of}
use Rattle.library_model.specs.State.{Album, Kept, Recording, State}
use Rattle.library_model.proofs.Measuring.{Finds_unique}

-- ---- rows of albums and of kept replies hold all of them

abbrev album_of : AlbumRow → Album
album_of row = record { id = row.id; name = row.name; summary = row.summary }

albums_back : (albums : List Album) → map album_of (map album_row albums) ≡ albums
albums_back [] = refl
albums_back (a ∷ albums) = ap (λ (rest : List Album). a ∷ rest) (albums_back albums)

same_albums : (xs ys : List Album) → map album_row xs ≡ map album_row ys → xs ≡ ys
same_albums xs ys same = sym (albums_back xs) ∙ ap (map album_of) same ∙ albums_back ys

abbrev kept_of : ReplyRow → Kept
kept_of row = record { token = row.token; mark = row.mark; status = row.status; body = row.body }

replies_back : (replies : List Kept) → map kept_of (map reply_row replies) ≡ replies
replies_back [] = refl
replies_back (k ∷ replies) = ap (λ (rest : List Kept). k ∷ rest) (replies_back replies)

same_replies : (xs ys : List Kept) → map reply_row xs ≡ map reply_row ys → xs ≡ ys
same_replies xs ys same = sym (replies_back xs) ∙ ap (map kept_of) same ∙ replies_back ys

-- ---- the row of a recording and its file hold all of it

-- a recording of such a row, with such a file and such a sound
abbrev recording_of_row : RecordingRow → List ℕ → Pcm → Recording
recording_of_row row file sound = record {
  id = row.id;
  album = row.album;
  name = row.name;
  take = row.take;
  file = file;
  sound = sound;
  summary = row.summary;
}

same_recording : (blobs : Blobs) (r q : Recording) → recording_row r ≡ recording_row q → IsFound r → IsFound q
    → blobs r.take ≡ Some r.file → blobs q.take ≡ Some q.file → r ≡ q
same_recording blobs r q same found also held kept =
    let files : Some r.file ≡ Some q.file = sym held ∙ ap (λ (row : RecordingRow). blobs row.take) same ∙ kept in
    let file : r.file ≡ q.file = cc files in
    let summary : r.summary ≡ q.summary = ap (λ (row : RecordingRow). row.summary) same in
    let Of : List ℕ → Type 0 = λ f. Finds f (measured r.sound r.summary) in
    let one : measured r.sound r.summary ≡ measured q.sound q.summary =
    Finds_unique q.file (measured r.sound r.summary) (measured q.sound q.summary) (subst Of file found.1) also.1 in
    let sound : r.sound ≡ q.sound = cc one in
    ap (λ (row : RecordingRow). recording_of_row row r.file r.sound) same
    ∙ ap (λ (f : List ℕ). recording_of_row (recording_row q) f r.sound) file
    ∙ ap (recording_of_row (recording_row q) q.file) sound

same_recordings : (blobs : Blobs) (rs qs : List Recording) → map recording_row rs ≡ map recording_row qs
    → AllByRecursion IsFound rs → AllByRecursion IsFound qs → HoldsFiles blobs rs → HoldsFiles blobs qs → rs ≡ qs
same_recordings blobs [] [] same found also held kept = refl
same_recordings blobs [] (q ∷ qs) same found also held kept = absurd (cc same)
same_recordings blobs (r ∷ rs) [] same found also held kept = absurd (cc same)
same_recordings blobs (r ∷ rs) (q ∷ qs) same found also held kept =
    let first : recording_row r ≡ recording_row q = cc same in
    let rest : map recording_row rs ≡ map recording_row qs = cc same in
    ap (λ (x : Recording). x ∷ rs) (same_recording blobs r q first found.0 also.0 held.0 kept.0)
    ∙ ap (λ (xs : List Recording). q ∷ xs) (same_recordings blobs rs qs rest found.1 also.1 held.1 kept.1)

-- ---- the state

-- a state with the counters of tables and with these lists
abbrev state_of : Tables → List Album → List Recording → List Kept → State
state_of t albums recordings replies = record {
  next_album = t.next_album;
  next_recording = t.next_recording;
  next_take = t.next_take;
  albums = albums;
  recordings = recordings;
  replies = replies;
}

-- Tables and blobs stand for one state at most.
pub Stands-unique : (tables : Tables) (blobs : Blobs) (s u : State) → Stands tables blobs s → Stands tables blobs u → s ≡ u
Stands-unique tables blobs s u one other =
    let same : tables_of s ≡ tables_of u = sym one.rows ∙ other.rows in
    let albums : s.albums ≡ u.albums = same_albums s.albums u.albums (ap (λ (t : Tables). t.albums) same) in
    let recordings : s.recordings ≡ u.recordings =
    same_recordings blobs s.recordings u.recordings (ap (λ (t : Tables). t.recordings) same)
    one.valid.files other.valid.files one.files other.files in
    let replies : s.replies ≡ u.replies = same_replies s.replies u.replies (ap (λ (t : Tables). t.replies) same) in
    ap (λ (t : Tables). state_of t s.albums s.recordings s.replies) same
    ∙ ap (λ (xs : List Album). state_of (tables_of u) xs s.recordings s.replies) albums
    ∙ ap (λ (xs : List Recording). state_of (tables_of u) u.albums xs s.replies) recordings
    ∙ ap (state_of (tables_of u) u.albums u.recordings) replies
