-- The members of recordings and albums, and that none of their numbers is a float.
use Rattle.std.proofs.Common.{◌≡◌, ℕ, Option, None, Some, List, [], ◌∷◌, map, false, refl, ap}
use Rattle.std.specs.Prelude.{ℤ, pos, negsuc, codes}
use Rattle.serde_json.proofs.OnLiterals.{serde_json_on_literals}
use Rattle.serde_json.specs.Data.{Data, array, item, no_members, number, object, put, string, unsigned}
use Rattle.serde_json.specs.View.{items_of}
use Rattle.serde_json.specs.Written.{has_float}
use Rattle.keeper_store.specs.declared.row_types.AlbumRow.{AlbumRow}
use Rattle.keeper_store.specs.declared.row_types.RecordingRow.{RecordingRow}
use Rattle.library_model.specs.Bodies.{album_data, album_id_data, id_items, kind_text, level_data, recording_data}
use Rattle.json_bodies.specs.Objects.{with_levels}

-- ---- ids

-- an id as a number
abbrev pub id_data : ℕ → Data
id_data id = number (unsigned id)

-- Ids as numbers are the items of ids.
pub id_items-of : (ids : List ℕ) → items_of (map id_data ids) ≡ id_items ids
id_items-of [] = refl
id_items-of (id ∷ ids) = ap (item (id_data id)) (id_items-of ids)

-- ---- members

-- The members of a recording, in the order in which they are put.
pub recording_members : (r : RecordingRow) → object (with_levels r.summary
    (put (codes "take") (number (unsigned r.take))
    (put (codes "name") (string r.name)
    (put (codes "kind") (string (kind_text r.kind))
    (put (codes "id") (number (unsigned r.id))
    (put (codes "frames") (number (unsigned r.summary.frames))
    (put (codes "depth") (number (unsigned r.depth))
    (put (codes "channels") (number (unsigned r.channels))
    (put (codes "album") (album_id_data r.album) no_members)))))))))
    ≡ recording_data r
unfolding serde_json_on_literals
recording_members r = refl

-- Those of an album.
pub album_members : (a : AlbumRow) (ids : List ℕ) → object (with_levels a.summary
    (put (codes "recordings") (array (id_items ids))
    (put (codes "name") (string a.name)
    (put (codes "id") (number (unsigned a.id)) no_members))))
    ≡ album_data a ids
unfolding serde_json_on_literals
album_members a ids = refl

-- ---- floats

-- No level is a float.
no_float-level : (level : Option ℤ) → has_float (level_data level) ≡ false
no_float-level None = refl
no_float-level (Some (pos n)) = refl
no_float-level (Some (negsuc n)) = refl

-- Nor is the id of an album.
no_float-album_id : (id : Option ℕ) → has_float (album_id_data id) ≡ false
no_float-album_id None = refl
no_float-album_id (Some id) = refl

-- Nor is any of a list of ids.
no_float-ids : (ids : List ℕ) → has_float (array (id_items ids)) ≡ false
no_float-ids [] = refl
no_float-ids (id ∷ ids) = no_float-ids ids

-- Nor is anything of a recording.
pub no_float-recording : (r : RecordingRow) → has_float (recording_data r) ≡ false
no_float-recording r =
    let s = r.summary in
    rw (
      no_float-album_id r.album,
      no_float-level s.gain,
      no_float-level s.loudness,
      no_float-level s.momentary,
      no_float-level s.range,
      no_float-level s.short_term,
      no_float-level s.true_peak,
    ) refl

-- Nor is anything of an album.
pub no_float-album : (a : AlbumRow) (ids : List ℕ) → has_float (album_data a ids) ≡ false
no_float-album a ids =
    let s = a.summary in
    rw (
      no_float-ids ids,
      no_float-level s.gain,
      no_float-level s.loudness,
      no_float-level s.momentary,
      no_float-level s.range,
      no_float-level s.short_term,
      no_float-level s.true_peak,
    ) refl
