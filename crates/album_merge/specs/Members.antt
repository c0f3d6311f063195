-- What an album stands for: recordings by their ids, in ascending order.
use Rattle.std.specs.Prelude.{◌≡◌, ◌<◌, ◌≤◌, ℕ, List, [], ◌∷◌, length, map, filter, not, nat_lt, ◌==◌, slice_index_or, if◌then◌else◌}
use Rattle.std.specs.List.{AllZip, AllPairs}
use Rattle.lib_base.specs.declared.files.Measured.{Measured}
use Rattle.album_merge.specs.declared.members.Member.{Member}
use Rattle.album_merge.specs.Tallies.{StandsForMeasured}

-- what an album keeps: its recordings, and how many more it has room for
pub record Kept : Type 0 where
  pub members : List Member
  pub spare : ℕ

-- the id of a recording
abbrev pub member_id : Member → ℕ
member_id member = member.id

abbrev pub recording_id : ℕ × Measured → ℕ
recording_id recording = recording.0

-- the ids of an album's recordings
abbrev pub ids_of : Kept → List ℕ
ids_of album = map member_id album.members

-- the number of each is below those of all later ones
abbrev pub AscendBy : {A : Type 0} → (A → ℕ) → List A → Type 0
AscendBy number xs = AllPairs (λ x y. number x < number y) xs

-- a member is this recording: it has its id, and its tally stands for what was measured
abbrev pub IsMemberOf : Member → ℕ × Measured → Type 0
IsMemberOf member recording = (member.id ≡ recording.0) × StandsForMeasured member.tally recording.1

-- The album stands for these recordings: their ids ascend, and its members are they, one after another.
pub record IsAlbumOf (album : Kept) (recordings : List (ℕ × Measured)) : Type 0 where
  pub ascend : AscendBy recording_id recordings
  pub members : AllZip IsMemberOf album.members recordings

-- what was measured of recordings
abbrev pub measured_of : List (ℕ × Measured) → List Measured
measured_of recordings = map (λ (r : ℕ × Measured). r.1) recordings

-- an item put in its place by its number: after those with a lesser one
abbrev pub placed : {A : Type 0} → (A → ℕ) → A → List A → List A
placed number item [] = item ∷ []
placed number item (x ∷ xs) = if nat_lt (number x) (number item) then x ∷ placed number item xs else item ∷ x ∷ xs

-- the items with another number
abbrev pub without : {A : Type 0} → (A → ℕ) → ℕ → List A → List A
without number n xs = filter (λ x. not (number x == n)) xs

-- recordings with one more in its place by its id
abbrev pub with_recording : ℕ → Measured → List (ℕ × Measured) → List (ℕ × Measured)
with_recording id measured recordings = placed recording_id (id, measured) recordings

-- recordings without the one of an id
abbrev pub without_recording : ℕ → List (ℕ × Measured) → List (ℕ × Measured)
without_recording id recordings = without recording_id id recordings

-- so many of the members have a lesser id, and no later one has
pub record IsPlaceOf (members : List Member) (id place : ℕ) : Type 0 where
  pub inside : place ≤ length members
  pub below : (k : ℕ) (d : Member) → k < place → (slice_index_or members k d).id < id
  pub above : (k : ℕ) (d : Member) → place ≤ k → k < length members → id ≤ (slice_index_or members k d).id
