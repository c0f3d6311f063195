-- Recordings taken out of an album and put back.
use Rattle.std.proofs.Common.{◌≡◌, ◌<◌, ℕ, zero, suc, List, [], ◌∷◌, length, map, sym, ap, ◌∙◌, subst, arith, Contains}
use Rattle.std.proofs.lemmas.List.{length-map}
use Rattle.lib_base.specs.declared.files.Measured.{Measured}
use Rattle.album_merge.specs.Members.{Kept, IsAlbumOf, ids_of, placed, with_recording, without_recording, recording_id}
use Rattle.album_merge.proofs.Joining.{ids_joined}
use Rattle.album_merge.proofs.Placing.{placed_back, without_at, at_place}
use Rattle.std.proofs.Math.ListN.{get_or}

-- an album is as long as what it stands for
pub long_as : (album : Kept) (recordings : List (ℕ × Measured)) → IsAlbumOf album recordings → length (ids_of album) ≡ length recordings
long_as album recordings stands =
    ap (λ (l : List ℕ). length l) (ids_joined album.members recordings stands.members) ∙ length-map recordings recording_id

-- A recording of an album, which is as it was once the recording is out and in again.
pub record Backs (id : ℕ) (recordings : List (ℕ × Measured)) : Type 0 where
  pub measured : Measured
  pub there : Contains recordings (id, measured)
  pub back : with_recording id measured (without_recording id recordings) ≡ recordings

-- the recording at the place of an id
record At (id place : ℕ) (recordings : List (ℕ × Measured)) : Type 0 where
  measured : Measured
  is : get_or recordings place (id, measured) ≡ (id, measured)

at_id : (id place : ℕ) (recordings : List (ℕ × Measured)) → place < length recordings → get_or (map recording_id recordings) place id ≡ id
    → At id place recordings
at_id id place [] inside same = absurd (omega (arith, inside))
at_id id zero (r ∷ recordings) inside same = record { measured = r.1; is = ap (λ n. (n, r.1)) same }
at_id id (suc place) (r ∷ recordings) inside same =
    let rest = at_id id place recordings (omega (arith, inside)) same in
    record { measured = rest.measured; is = rest.is }

pub backed : (album : Kept) (id : ℕ) (recordings : List (ℕ × Measured)) → IsAlbumOf album recordings → Contains (ids_of album) id
    → Backs id recordings
backed album id recordings stands has =
    let ids : ids_of album ≡ map recording_id recordings = ids_joined album.members recordings stands.members in
    let there : Contains (map recording_id recordings) id = subst (λ (l : List ℕ). Contains l id) ids has in
    let long = length-map recordings recording_id in
    let inside : there.0 < length recordings = omega (arith, long, there.1) in
    let at = at_id id there.0 recordings inside there.2 in
    let same : (d : ℕ × Measured) → recording_id (get_or recordings there.0 d) ≡ id =
    λ d. ap recording_id (at_place recordings there.0 (id, at.measured) d inside (sym at.is)) in
    record {
      measured = at.measured;
      there = (there.0, inside, at.is);
      back = ap (placed recording_id (id, at.measured)) (without_at recording_id id there.0 recordings stands.ascend inside same)
          ∙ placed_back recording_id (id, at.measured) there.0 recordings stands.ascend inside at.is;
    }
