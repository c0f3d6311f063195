-- How many recordings albums have, and which.
use Rattle.std.proofs.Common.{◌≡◌, ◌==◌, ◌||◌, ℕ, Bool, true, false, not, cond, List, [], ◌∷◌, length, map, nat_le, nat_lt, Option, None, Some, refl, sym, ap, ◌∙◌, arith}
use Rattle.std.specs.List.{find}
use Rattle.std.proofs.lemmas.Bool.Decides.{nat_tests}
use Rattle.lib_base.specs.declared.limits.TheConstants.{MOST_MEMBERS}
use Rattle.keeper_store.specs.declared.contents.Tables.{Tables}
use Rattle.keeper_store.specs.declared.row_types.AlbumRow.{AlbumRow}
use Rattle.keeper_store.specs.declared.row_types.RecordingRow.{RecordingRow}
use Rattle.keeper_store.specs.Puts.{recording_id}
use Rattle.album_merge.specs.Members.{Kept, IsAlbumOf, ids_of, recording_id as id_of}
use Rattle.album_merge.proofs.Joining.{ids_joined}
use Rattle.library_model.specs.RowRules.{has_album, measured_in, member_count, members_in}
use Rattle.catalogue_rows.specs.Holding.{album_of}
use Rattle.catalogue_rows.proofs.Backed.{long_as}
use Rattle.catalogue_rows.proofs.Sums.{long_album}

-- the ids of an album's object are those of its recordings
pub ids_as : (t : Tables) (id : ℕ) (album : Kept) → IsAlbumOf album (album_of t t.recordings id)
    → ids_of album ≡ map recording_id (members_in id t.recordings)
ids_as t id album stands = ids_joined album.members (album_of t t.recordings id) stands.members ∙ parts (members_in id t.recordings)
  where
    parts : (rs : List RecordingRow) → map id_of (map (λ (r : RecordingRow). (r.id, measured_in t r)) rs) ≡ map recording_id rs
    parts [] = refl
    parts (r ∷ rs) = ap (λ (l : List ℕ). r.id ∷ l) (parts rs)

-- an album is full where it has no place
pub full_as : (t : Tables) (id : ℕ) (album : Kept) → IsAlbumOf album (album_of t t.recordings id)
    → not (nat_lt (length (ids_of album)) MOST_MEMBERS) ≡ nat_le MOST_MEMBERS (member_count id t.recordings)
full_as t id album stands =
    let long = long_as album (album_of t t.recordings id) stands ∙ long_album t t.recordings id in
    rw long (turned (member_count id t.recordings) MOST_MEMBERS)
  where
    turned : (a b : ℕ) → not (nat_lt a b) ≡ nat_le b a
    turned a b = grind (arith, nat_tests)

-- an album that is not found is not there
pub missing_not_there : (id : ℕ) (albums : List AlbumRow) → find (λ (a : AlbumRow). a.id == id) albums ≡ None
    → has_album id albums ≡ true → ⊥
missing_not_there id [] none has = cc has
missing_not_there id (a ∷ albums) none has = cases (λ gone here. missing_not_there id albums gone here) (a.id == id) none has
  where
    cases : (find (λ (x : AlbumRow). x.id == id) albums ≡ None → has_album id albums ≡ true → ⊥) → (this : Bool)
        → cond this (Some a) (find (λ (x : AlbumRow). x.id == id) albums) ≡ None → (this || has_album id albums) ≡ true → ⊥
    cases rest true gone here = cc gone
    cases rest false gone here = rest gone here
