-- What an import does to the state, to the tables and to the files that blobs hold.
use Rattle.std.proofs.Common.{◌≡◌, ℕ, ◌+◌, Bool, true, Option, Some, List, [], ◌∷◌, ◌++◌, map, refl, ap, ◌∙◌, arith, lt-ltb}
use Rattle.std.specs.List.{AllByRecursion}
use Rattle.lib_base.specs.declared.files.Summary.{Summary}
use Rattle.file_model.specs.Pcm.{Pcm}
use Rattle.keeper_store.specs.Blobs.{Blobs, OthersKept}
use Rattle.keeper_store.specs.Changes.{empty_tables, changed_all}
use Rattle.keeper_store.specs.Puts.{put, recording_less, segments_less}
use Rattle.keeper_store.specs.declared.contents.Change.TheVariants.{Counters, PutRecording, PutSegments}
use Rattle.keeper_store.specs.declared.contents.Tables.{Tables}
use Rattle.keeper_store.specs.declared.row_types.RecordingRow.{RecordingRow}
use Rattle.keeper_store.specs.declared.row_types.SegmentRow.{SegmentRow}
use Rattle.keeper_store.proofs.Putting.{map-put, AllByRecursion-put}
use Rattle.library_model.specs.Machine.{imported, new_recording}
use Rattle.std.specs.Prelude.{fold}
use Rattle.library_model.specs.Stands.{IsValid, HoldsFiles, album_row, recording_row, reply_row, segment_row, segment_rows, tables_of}
use Rattle.library_model.specs.InOrder.{IsGiven}
use Rattle.library_model.specs.State.{Recording, State, empty_state, recording_before}
use Rattle.library_model.proofs.InOrderLemmas.{AllByRecursion-unmap, empty-AreInOrder}

-- ---- lists of which each element has a property

-- What follows from the property holds of each element too.
pub AllByRecursion-weaker : {A : Type 0} (P Q : A → Type 0) (xs : List A)
    → ((x : A) → P x → Q x) → AllByRecursion P xs → AllByRecursion Q xs
AllByRecursion-weaker P Q [] weaker all = tt
AllByRecursion-weaker P Q (x ∷ xs) weaker all = (weaker x all.0, AllByRecursion-weaker P Q xs weaker all.1)

-- What follows from two properties holds of each element that has both.
pub AllByRecursion-both : {A : Type 0} (P Q R : A → Type 0) (xs : List A)
    → ((x : A) → P x → Q x → R x) → AllByRecursion P xs → AllByRecursion Q xs → AllByRecursion R xs
AllByRecursion-both P Q R [] joined all other = tt
AllByRecursion-both P Q R (x ∷ xs) joined all other =
    (joined x all.0 other.0, AllByRecursion-both P Q R xs joined all.1 other.1)

-- ---- rows put in their place

-- A row above all others comes last.
pub put-last : {A : Type 0} (less : A → A → Bool) (row : A) (rows : List A)
    → AllByRecursion (λ r. less r row ≡ true) rows → put less row rows ≡ rows ++ row ∷ []
put-last less row [] all = refl
put-last less row (r ∷ rows) all = rw all.0 (ap (λ l. r ∷ l) (put-last less row rows all.1))

-- ---- one more recording

-- In a valid state ids and takes were given by their counters.
pub given_of : (s : State) → IsValid s
    → AllByRecursion (λ (r : Recording). IsGiven s.next_recording r.id) s.recordings
    × AllByRecursion (λ (r : Recording). IsGiven s.next_take r.take) s.recordings
given_of s valid = (
  AllByRecursion-unmap (λ (row : RecordingRow). IsGiven s.next_recording row.id) recording_row s.recordings valid.rows.ids_given,
  AllByRecursion-unmap (λ (row : RecordingRow). IsGiven s.next_take row.take) recording_row s.recordings valid.rows.takes_given,
)

-- There an import's recording comes last.
pub recordings-imported : (s : State) (album : Option ℕ) (name file : List ℕ) (sound : Pcm) (summary : Summary) → IsValid s
    → (imported s album name file sound summary).recordings ≡ s.recordings ++ new_recording s album name file sound summary ∷ []
recordings-imported s album name file sound summary valid =
    put-last recording_before (new_recording s album name file sound summary) s.recordings
    (AllByRecursion-weaker (λ (r : Recording). IsGiven s.next_recording r.id)
    (λ (r : Recording). recording_before r (new_recording s album name file sound summary) ≡ true) s.recordings
    (λ r given. lt-ltb r.id s.next_recording given.1) (given_of s valid).0)

-- One recording more puts the row of its segments in its place.
segment_rows-push : (rows : List SegmentRow) (rs : List Recording) (r : Recording)
    → fold (λ (rows : List SegmentRow) (r : Recording). put segments_less (segment_row r) rows) rows (rs ++ r ∷ [])
    ≡ put segments_less (segment_row r) (fold (λ (rows : List SegmentRow) (r : Recording). put segments_less (segment_row r) rows) rows rs)
segment_rows-push rows [] r = refl
segment_rows-push rows (first ∷ rs) r = segment_rows-push (put segments_less (segment_row first) rows) rs r

-- The tables after an import are the changes of its counters and of its rows.
pub tables_of-imported : (s : State) (album : Option ℕ) (name file : List ℕ) (sound : Pcm) (summary : Summary) → IsValid s → tables_of (imported s album name file sound summary)
    ≡ changed_all (Counters s.next_album (s.next_recording + 1) (s.next_take + 1)
    ∷ PutRecording (recording_row (new_recording s album name file sound summary))
    ∷ PutSegments (segment_row (new_recording s album name file sound summary)) ∷ []) (tables_of s)
tables_of-imported s album name file sound summary valid =
    let with_rows : List RecordingRow → List SegmentRow → Tables = λ rows segments. record {
      next_album = s.next_album;
      next_recording = s.next_recording + 1;
      next_take = s.next_take + 1;
      albums = map album_row s.albums;
      recordings = rows;
      segments = segments;
      replies = map reply_row s.replies;
    } in
    let new = new_recording s album name file sound summary in
    ap (λ (rows : List RecordingRow). with_rows rows (segment_rows (imported s album name file sound summary).recordings))
    (map-put recording_before recording_less recording_row (λ a b. refl) new s.recordings)
    ∙ ap (with_rows (put recording_less (recording_row new) (map recording_row s.recordings)))
    (ap segment_rows (recordings-imported s album name file sound summary valid) ∙ segment_rows-push [] s.recordings new)

-- Blobs that hold another file under the next take hold the files of the state.
pub HoldsFiles-kept : (s : State) (old new : Blobs) → IsValid s → HoldsFiles old s.recordings
    → OthersKept s.next_take old new → HoldsFiles new s.recordings
HoldsFiles-kept s old new valid holds kept =
    AllByRecursion-both (λ (r : Recording). old r.take ≡ Some r.file) (λ (r : Recording). IsGiven s.next_take r.take)
    (λ (r : Recording). new r.take ≡ Some r.file) s.recordings
    (λ r held given. kept r.take (λ same. omega (arith, given.1, same)) ∙ held) holds (given_of s valid).1

-- Blobs that hold the new file under the next take hold the files of the state after the import.
pub HoldsFiles-imported : (s : State) (album : Option ℕ) (name file : List ℕ) (sound : Pcm) (summary : Summary) (old new : Blobs) → IsValid s
    → HoldsFiles old s.recordings → OthersKept s.next_take old new → new s.next_take ≡ Some file
    → HoldsFiles new (imported s album name file sound summary).recordings
HoldsFiles-imported s album name file sound summary old new valid holds kept put_there =
    AllByRecursion-put (λ (r : Recording). new r.take ≡ Some r.file) recording_before (new_recording s album name file sound summary) s.recordings
    put_there (HoldsFiles-kept s old new valid holds kept)

-- ---- the empty state

-- The empty state is valid.
pub empty-IsValid : IsValid empty_state
empty-IsValid = record { rows = empty-AreInOrder; files = tt; summed = tt }

-- Its tables are the empty ones.
pub tables_of-empty : tables_of empty_state ≡ empty_tables
tables_of-empty = refl
