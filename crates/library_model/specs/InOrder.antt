-- Which tables are in order: the rules of rows that speak of numbers, names, tokens and statuses alone.
use Rattle.std.specs.Prelude.{◌≡◌, ◌≢◌, ◌<◌, ◌≤◌, ◌⊎◌, ℕ, true, List, [], ◌∷◌, map, ⊤}
use Rattle.std.specs.List.{AllByRecursion}
use Rattle.lib_base.specs.declared.limits.TheConstants.{NUMBERS_END, MOST_MEMBERS}
use Rattle.keeper_store.specs.Puts.{Ascends, album_less, recording_less, segments_less, reply_less}
use Rattle.keeper_store.specs.declared.contents.Tables.{Tables}
use Rattle.keeper_store.specs.declared.row_types.AlbumRow.{AlbumRow}
use Rattle.keeper_store.specs.declared.row_types.RecordingRow.{RecordingRow}
use Rattle.keeper_store.specs.declared.row_types.SegmentRow.{SegmentRow}
use Rattle.keeper_store.specs.declared.row_types.ReplyRow.{ReplyRow}
use Rattle.library_model.specs.Names.{is_name, is_token}
use Rattle.library_model.specs.RowRules.{album_is_there, member_count}

-- no number stands twice
abbrev pub Differ : List ℕ → Type 0
Differ [] = ⊤
Differ (n ∷ ns) = AllByRecursion (λ (later : ℕ). later ≢ n) ns × Differ ns

-- a number that was given: from 1, and below the one that comes next
abbrev pub IsGiven : ℕ → ℕ → Type 0
IsGiven next number = (1 ≤ number) × (number < next)

-- a counter from 1 to its end
abbrev pub IsCounter : ℕ → Type 0
IsCounter next = (1 ≤ next) × (next ≤ NUMBERS_END)

-- the statuses of replies that are kept: those of changes that were made
abbrev pub IsKeptStatus : ℕ → Type 0
IsKeptStatus status = (status ≡ 200) ⊎ (status ≡ 201)

-- The counters are from 1 to their end. Albums and recordings ascend by their ids, segments by their takes, which their counters gave,
-- and kept replies by their tokens. No two recordings name one take, the album that a recording names is there, and none has too many.
-- Names and tokens have their form, and statuses are kept ones.
pub record AreInOrder (t : Tables) : Type 0 where
  pub next_album : IsCounter t.next_album
  pub next_recording : IsCounter t.next_recording
  pub next_take : IsCounter t.next_take
  pub albums : Ascends album_less t.albums
  pub recordings : Ascends recording_less t.recordings
  pub segments : Ascends segments_less t.segments
  pub replies : Ascends reply_less t.replies
  pub album_ids_given : AllByRecursion (λ (row : AlbumRow). IsGiven t.next_album row.id) t.albums
  pub ids_given : AllByRecursion (λ (row : RecordingRow). IsGiven t.next_recording row.id) t.recordings
  pub takes_given : AllByRecursion (λ (row : RecordingRow). IsGiven t.next_take row.take) t.recordings
  pub segments_given : AllByRecursion (λ (row : SegmentRow). IsGiven t.next_take row.take) t.segments
  pub takes_differ : Differ (map (λ (row : RecordingRow). row.take) t.recordings)
  pub albums_there : AllByRecursion (λ (row : RecordingRow). album_is_there row.album t.albums ≡ true) t.recordings
  pub few_members : AllByRecursion (λ (row : AlbumRow). member_count row.id t.recordings ≤ MOST_MEMBERS) t.albums
  pub album_names : AllByRecursion (λ (row : AlbumRow). is_name row.name ≡ true) t.albums
  pub names : AllByRecursion (λ (row : RecordingRow). is_name row.name ≡ true) t.recordings
  pub tokens : AllByRecursion (λ (row : ReplyRow). is_token row.token ≡ true) t.replies
  pub statuses : AllByRecursion (λ (row : ReplyRow). IsKeptStatus row.status) t.replies
