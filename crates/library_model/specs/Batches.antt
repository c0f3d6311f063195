-- What commands change in the tables: the rows that they put, and their batches.
use Rattle.std.specs.Prelude.{◌≡◌, ◌+◌, ◌==◌, ◌&&◌, not, ℕ, Bool, false, List, [], ◌∷◌, ◌++◌, map, nat_le, nat_lt, Option, None, Some, if◌then◌else◌, ⊤}
use Rattle.std.specs.List.{find}
use Rattle.md5.specs.Md5.{md5}
use Rattle.lib_base.specs.declared.files.Measured.{Measured}
use Rattle.lib_base.specs.declared.files.Summary.{Summary}
use Rattle.lib_base.specs.declared.limits.TheConstants.{MOST_MEMBERS}
use Rattle.keeper_store.specs.declared.contents.Change.{Change}
use Rattle.keeper_store.specs.declared.contents.Change.TheVariants.{Counters, PutAlbum, PutRecording, PutSegments, PutReply, DropAlbum, DropRecording, DropSegments}
use Rattle.keeper_store.specs.declared.contents.NextNumbers.{NextNumbers}
use Rattle.keeper_store.specs.declared.contents.Tables.{Tables}
use Rattle.keeper_store.specs.declared.row_types.AlbumRow.{AlbumRow}
use Rattle.keeper_store.specs.declared.row_types.RecordingRow.{RecordingRow}
use Rattle.keeper_store.specs.declared.row_types.ReplyRow.{ReplyRow}
use Rattle.library_model.specs.declared.messages.Reply.{Reply}
use Rattle.library_model.specs.Findings.{kind_of}
use Rattle.library_model.specs.Machine.{no_levels}
use Rattle.library_model.specs.RowRules.{IsSummedAlbum, is_in_album, member_count}
use Rattle.library_model.specs.Stands.{row_of, segments_of}

-- ---- albums

-- the album is another one than `old`, and has all the recordings that it can have
abbrev pub crowds : Option ℕ → Option ℕ → List RecordingRow → Bool
crowds old None recordings = false
crowds old (Some id) recordings = not (is_in_album id old) && nat_le MOST_MEMBERS (member_count id recordings)

-- the id of the album that is named, if one is
abbrev pub ids_in : Option ℕ → List ℕ
ids_in None = []
ids_in (Some id) = id ∷ []

-- the albums whose recordings are others once one moves from an album, or from none, to another, ascending; it stays in one album
-- where both are the same
abbrev pub moved : Option ℕ → Option ℕ → List ℕ
moved None to = ids_in to
moved (Some from) None = from ∷ []
moved (Some from) (Some to) =
    if from == to then [] else if nat_lt from to then from ∷ to ∷ [] else to ∷ from ∷ []

-- The row is that of the album of the id among these, with the levels that its recordings have in the next tables.
pub record IsResummed (albums : List AlbumRow) (next : Tables) (id : ℕ) (row : AlbumRow) : Type 0 where
  pub old : AlbumRow
  pub found : find (λ (a : AlbumRow). a.id == id) albums ≡ Some old
  pub row_is : row ≡ record old { summary = row.summary }
  pub summed : IsSummedAlbum next row

-- the rows are those of the albums of these ids, one for each
abbrev pub AreResummed : List AlbumRow → Tables → List ℕ → List AlbumRow → Type 0
AreResummed albums next [] [] = ⊤
AreResummed albums next [] (row ∷ rows) = ⊥
AreResummed albums next (id ∷ ids) [] = ⊥
AreResummed albums next (id ∷ ids) (row ∷ rows) = IsResummed albums next id row × AreResummed albums next ids rows

-- ---- rows

-- the row of a new album
abbrev pub new_album_row : NextNumbers → List ℕ → AlbumRow
new_album_row next name = record { id = next.album; name = name; summary = no_levels }

-- the row of an imported file of which that is measured, with its levels
abbrev pub import_row : NextNumbers → Option ℕ → List ℕ → List ℕ → Measured → Summary → RecordingRow
import_row next album name file m summary =
    row_of next.recording album name next.take (kind_of file) (md5 file) m summary

-- the row of a recording with another file
abbrev pub retake_row : NextNumbers → RecordingRow → List ℕ → Measured → Summary → RecordingRow
retake_row next old file m summary = row_of old.id old.album old.name next.take (kind_of file) (md5 file) m summary

-- the row of a recording in another album, or in none
abbrev pub regroup_row : RecordingRow → Option ℕ → RecordingRow
regroup_row old album = record old { album = album }

-- the row of a reply that is kept under a token
abbrev pub kept_row : List ℕ → List ℕ → Reply → ReplyRow
kept_row token mark reply = record { token = token; mark = mark; status = reply.status; body = reply.body }

-- ---- changes

-- a new album
abbrev pub new_album_changes : NextNumbers → AlbumRow → List Change
new_album_changes next row = Counters (next.album + 1) next.recording next.take ∷ PutAlbum row ∷ []

-- a new recording: its segments come before it
abbrev pub import_changes : NextNumbers → Measured → RecordingRow → List Change
import_changes next m row =
    Counters next.album (next.recording + 1) (next.take + 1) ∷ PutSegments (segments_of row.take m) ∷ PutRecording row ∷ []

-- a recording under the next take
abbrev pub retake_changes : NextNumbers → Measured → RecordingRow → List Change
retake_changes next m row =
    Counters next.album next.recording (next.take + 1) ∷ PutSegments (segments_of row.take m) ∷ PutRecording row ∷ []

-- Albums get other levels, and last the reply is kept.
abbrev pub closing : List AlbumRow → List ℕ → List ℕ → Reply → List Change
closing albums token mark reply = map PutAlbum albums ++ PutReply (kept_row token mark reply) ∷ []

-- the batch of a new album
abbrev pub new_album_batch : NextNumbers → AlbumRow → List ℕ → List ℕ → Reply → List Change
new_album_batch next row token mark reply = new_album_changes next row ++ closing [] token mark reply

-- that of an import
abbrev pub import_batch : NextNumbers → Measured → RecordingRow → List AlbumRow → List ℕ → List ℕ → Reply → List Change
import_batch next m row albums token mark reply = import_changes next m row ++ closing albums token mark reply

-- that of a retake, by which the segments of the old take go
abbrev pub retake_batch : NextNumbers → Measured → RecordingRow → RecordingRow → List AlbumRow → List ℕ → List ℕ → Reply → List Change
retake_batch next m old row albums token mark reply =
    retake_changes next m row ++ DropSegments old.take ∷ closing albums token mark reply

-- that of a recording that comes into another album
abbrev pub regroup_batch : RecordingRow → List AlbumRow → List ℕ → List ℕ → Reply → List Change
regroup_batch row albums token mark reply = PutRecording row ∷ closing albums token mark reply

-- that of a recording that is removed, and its segments with it
abbrev pub remove_batch : RecordingRow → List AlbumRow → List ℕ → List ℕ → Reply → List Change
remove_batch old albums token mark reply =
    DropRecording old.id ∷ DropSegments old.take ∷ closing albums token mark reply

-- that of an album that is removed
abbrev pub remove_album_batch : ℕ → List ℕ → List ℕ → Reply → List Change
remove_album_batch id token mark reply = DropAlbum id ∷ closing [] token mark reply
