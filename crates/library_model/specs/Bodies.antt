-- Bodies of replies in JSON (RFC 8259): one line, members in ascending order of their keys.
use Rattle.std.specs.Prelude.{ℕ, ℤ, List, [], ◌∷◌, codes, Option, None, Some}
use Rattle.serde_json.specs.Data.{Data, Items, null, number, unsigned, string, array, item, no_items, object, member, no_members}
use Rattle.serde_json.specs.Find.{of_integer}
use Rattle.serde_json.specs.Written.{compact_text}
use Rattle.lib_base.specs.declared.files.Kind.{Kind}
use Rattle.lib_base.specs.declared.files.Kind.TheVariants.{Wave, Flac}
use Rattle.sound_model.specs.Texts.{peak_text}
use Rattle.keeper_store.specs.declared.row_types.AlbumRow.{AlbumRow}
use Rattle.keeper_store.specs.declared.row_types.RecordingRow.{RecordingRow}
use Rattle.library_model.specs.declared.messages.Reply.{Reply}
use Rattle.library_model.specs.Replies.{json}

-- a level in hundredths, or null where it is absent
abbrev pub level_data : Option ℤ → Data
level_data None = null
level_data (Some level) = number (of_integer level)

-- the text that a kind of file is answered as
abbrev pub kind_text : Kind → List ℕ
kind_text Wave = codes "wave"
kind_text Flac = codes "flac"

-- the id of the album that a recording is in, or null
abbrev pub album_id_data : Option ℕ → Data
album_id_data None = null
album_id_data (Some id) = number (unsigned id)

-- a recording as it is answered: its album, its channels, the bits of a sample, its frames, the kind of its file, its name, its take,
-- and its levels; the peak is a text, 1 being full scale
abbrev pub recording_data : RecordingRow → Data
recording_data r =
    object (member (codes "album") (album_id_data r.album)
    (member (codes "channels") (number (unsigned r.channels))
    (member (codes "depth") (number (unsigned r.depth))
    (member (codes "frames") (number (unsigned r.summary.frames))
    (member (codes "gain") (level_data r.summary.gain)
    (member (codes "id") (number (unsigned r.id))
    (member (codes "kind") (string (kind_text r.kind))
    (member (codes "loudness") (level_data r.summary.loudness)
    (member (codes "momentary") (level_data r.summary.momentary)
    (member (codes "name") (string r.name)
    (member (codes "peak") (string (peak_text r.summary.peak))
    (member (codes "range") (level_data r.summary.range)
    (member (codes "short") (level_data r.summary.short_term)
    (member (codes "take") (number (unsigned r.take))
    (member (codes "true_peak") (level_data r.summary.true_peak) no_members)))))))))))))))

-- what is replied about the recording of a row
abbrev pub row_reply : ℕ → RecordingRow → Reply
row_reply status r = json status (compact_text (recording_data r))

-- ids as numbers
abbrev pub id_items : List ℕ → Items
id_items [] = no_items
id_items (id ∷ ids) = item (number (unsigned id)) (id_items ids)

-- an album as it is answered: its levels, its name, and the ids of its recordings
abbrev pub album_data : AlbumRow → List ℕ → Data
album_data a ids =
    object (member (codes "gain") (level_data a.summary.gain)
    (member (codes "id") (number (unsigned a.id))
    (member (codes "loudness") (level_data a.summary.loudness)
    (member (codes "momentary") (level_data a.summary.momentary)
    (member (codes "name") (string a.name)
    (member (codes "peak") (string (peak_text a.summary.peak))
    (member (codes "range") (level_data a.summary.range)
    (member (codes "recordings") (array (id_items ids))
    (member (codes "short") (level_data a.summary.short_term)
    (member (codes "true_peak") (level_data a.summary.true_peak) no_members))))))))))

-- what is replied about the album of a row, with the ids of its recordings
abbrev pub album_row_reply : ℕ → AlbumRow → List ℕ → Reply
album_row_reply status a ids = json status (compact_text (album_data a ids))

-- what is replied about what was removed: its id
abbrev pub removed_reply : ℕ → Reply
removed_reply id = json 200 (compact_text (object (member (codes "removed") (number (unsigned id)) no_members)))
