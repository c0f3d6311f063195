-- What an album's members have is what its recordings have.
use Rattle.std.proofs.Common.{◌≡◌, ◌<◌, ℕ, zero, suc, true, false, not, List, [], ◌∷◌, map, filter, length, get_or, max, nat_lt, ◌==◌, cond, refl, sym, ap, ◌∙◌, subst, arith, inl, inr, ◌⊎◌, ◌≤◌, Contains, All, IsPermutation}
use Rattle.std.specs.List.{AllZip, flat_map}
use Rattle.std.proofs.lemmas.Bool.{cases_lt}
use Rattle.std.proofs.lemmas.List.Elements.{All-nil, All-cons, filter-append}
use Rattle.std.proofs.lemmas.List.Kept.{AllPairs-filter}
use Rattle.std.proofs.lemmas.List.Sorted.{IsPermutation-refl, IsPermutation-append}
use Rattle.std.proofs.lemmas.List.Sums.{sum_by-cons}
use Rattle.lib_base.specs.declared.files.Measured.{Measured}
use Rattle.sound_model.specs.Albums.{album_frames, album_blocks, album_windows, album_peak}
use Rattle.sound_model.specs.Blocks.{blocks_of, windows_of}
use Rattle.sound_model.specs.Loudness.{is_audible, greatest}
use Rattle.sound_model.specs.Ranges.{is_window_audible}
use Rattle.sound_model.proofs.AlbumLaws.{greatest-append}
use Rattle.album_merge.specs.declared.members.Member.{Member}
use Rattle.album_merge.specs.Joined.{blocks_in, windows_in, frames_in, greatest_block_in, greatest_window_in, peak_in}
use Rattle.album_merge.specs.Members.{Kept, AscendBy, IsAlbumOf, IsMemberOf, IsPlaceOf, ids_of, member_id, recording_id, measured_of, placed, without, with_recording, without_recording}
use Rattle.album_merge.specs.Tallies.{Tallied, StandsForMeasured}
use Rattle.album_merge.proofs.Placing.{AscendBy-placed, Contains-placed, without-placed, All-without, at_place}

-- a number that no item's numbers contain is the number of none
pub none_has : {A : Type 0} (number : A → ℕ) (n : ℕ) (xs : List A) → (Contains (map number xs) n → ⊥) → All (λ x. number x ≡ n → ⊥) xs
none_has number n [] fresh = All-nil (λ x. number x ≡ n → ⊥)
none_has number n (x ∷ xs) fresh =
    All-cons (λ y. number y ≡ n → ⊥) x xs (λ same. fresh (0, omega arith, same))
    (none_has number n xs (λ has. fresh (suc has.0, omega arith, has.2)))

-- and the other way
pub has_none : {A : Type 0} (number : A → ℕ) (n : ℕ) (xs : List A) → All (λ x. number x ≡ n → ⊥) xs → Contains (map number xs) n → ⊥
has_none number n [] all has = omega (arith, has.1)
has_none {A} number n (x ∷ xs) all has = at has.0 has.1 has.2 (has_none number n xs (λ k d within. all (suc k) d (omega arith)))
  where
    at : (k : ℕ) → k < length (map number (x ∷ xs)) → get_or (map number (x ∷ xs)) k n ≡ n
        → (Contains (map number xs) n → ⊥) → ⊥
    at zero within is rest = all 0 x (omega arith) is
    at (suc k) within is rest = rest (k, omega arith, is)

-- an item's number is among the numbers
pub Contains-map : {A : Type 0} (number : A → ℕ) (x : A) (xs : List A) → Contains xs x → Contains (map number xs) (number x)
Contains-map {A} number x xs has = at xs has.0 has.1 has.2
  where
    at : (ys : List A) (k : ℕ) → k < length ys → get_or ys k x ≡ x → Contains (map number ys) (number x)
    at [] k within is = absurd (omega arith)
    at (y ∷ ys) zero within is = (0, omega arith, ap number is)
    at (y ∷ ys) (suc k) within is = let rest = at ys k (omega arith) is in (suc rest.0, omega arith, rest.2)

-- members have the ids of the recordings that they are
pub ids_joined : (members : List Member) (recordings : List (ℕ × Measured)) → AllZip IsMemberOf members recordings
    → map member_id members ≡ map recording_id recordings
ids_joined [] [] all = refl
ids_joined [] (r ∷ rs) all = absurd all
ids_joined (m ∷ ms) [] all = absurd all
ids_joined (m ∷ ms) (r ∷ rs) all = rw (all.0.0, ids_joined ms rs all.1) refl

-- a recording is some member
pub member_of : (members : List Member) (recordings : List (ℕ × Measured)) → AllZip IsMemberOf members recordings
    → (r : ℕ × Measured) → Contains recordings r → (m : Member) × Contains members m × IsMemberOf m r
member_of members recordings all r has = at members recordings all has.0 has.1 has.2
  where
    at : (ms : List Member) (rs : List (ℕ × Measured)) → AllZip IsMemberOf ms rs → (k : ℕ) → k < length rs → get_or rs k r ≡ r
        → (m : Member) × Contains ms m × IsMemberOf m r
    at ms [] all k within is = absurd (omega arith)
    at [] (y ∷ rs) all k within is = absurd all
    at (m ∷ ms) (y ∷ rs) all zero within is = (m, (0, omega arith, refl), subst (IsMemberOf m) is all.0)
    at (m ∷ ms) (y ∷ rs) all (suc k) within is =
        let rest = at ms rs all.1 k (omega arith) is in (rest.0, (suc rest.1.0, omega arith, rest.1.2), rest.2)

-- members and recordings with one more, which is this recording
zip_placed : (members : List Member) (recordings : List (ℕ × Measured)) (m : Member) (r : ℕ × Measured) → IsMemberOf m r
    → AllZip IsMemberOf members recordings → AllZip IsMemberOf (placed member_id m members) (placed recording_id r recordings)
zip_placed [] [] m r is all = (is, tt)
zip_placed [] (y ∷ rs) m r is all = absurd all
zip_placed (x ∷ ms) [] m r is all = absurd all
zip_placed (x ∷ ms) (y ∷ rs) m r is all =
    let rest = zip_placed ms rs m r is all.1 in
    let same : nat_lt (member_id x) (member_id m) ≡ nat_lt (recording_id y) (recording_id r) =
    ap (λ n. nat_lt n (member_id m)) all.0.0 ∙ ap (λ n. nat_lt (recording_id y) n) is.0 in
    rw same
    (elim (nat_lt (recording_id y) (recording_id r)) as (λ b. AllZip IsMemberOf (cond b (x ∷ placed member_id m ms) (m ∷ x ∷ ms))
    (cond b (y ∷ placed recording_id r rs) (r ∷ y ∷ rs))) [
      | true ↦ (all.0, rest)
      | false ↦ (is, all)
    ])

-- and with one less
zip_without : (members : List Member) (recordings : List (ℕ × Measured)) (id : ℕ) → AllZip IsMemberOf members recordings
    → AllZip IsMemberOf (without member_id id members) (without recording_id id recordings)
zip_without [] [] id all = tt
zip_without [] (y ∷ rs) id all = absurd all
zip_without (x ∷ ms) [] id all = absurd all
zip_without (x ∷ ms) (y ∷ rs) id all =
    let rest = zip_without ms rs id all.1 in
    let same : (member_id x == id) ≡ (recording_id y == id) = ap (λ n. n == id) all.0.0 in
    rw same
    (elim (recording_id y == id) as (λ b. AllZip IsMemberOf (cond (not b) (x ∷ without member_id id ms) (without member_id id ms))
    (cond (not b) (y ∷ without recording_id id rs) (without recording_id id rs))) [
      | true ↦ rest
      | false ↦ (all.0, rest)
    ])

-- an album stands for what it stood for where its members are the same
pub IsAlbumOf-same : (album next : Kept) (recordings : List (ℕ × Measured)) → next.members ≡ album.members
    → IsAlbumOf album recordings → IsAlbumOf next recordings
IsAlbumOf-same album next recordings same is = record {
  ascend = is.ascend;
  members = subst (λ (ms : List Member). AllZip IsMemberOf ms recordings) (sym same) is.members;
}

-- with a member more it stands for the recording more
pub IsAlbumOf-with : (album next : Kept) (recordings : List (ℕ × Measured)) (id : ℕ) (tally : Tallied) (measured : Measured)
    → IsAlbumOf album recordings → StandsForMeasured tally measured → (Contains (ids_of album) id → ⊥)
    → next.members ≡ placed member_id (record { id = id; tally = tally }) album.members → IsAlbumOf next (with_recording id measured recordings)
IsAlbumOf-with album next recordings id tally measured is stands fresh placed_is =
    let Fresh : List ℕ → Type 0 = λ ids. Contains ids id → ⊥ in
    let others = none_has recording_id id recordings (subst Fresh (ids_joined album.members recordings is.members) fresh) in
    let member : Member = record { id = id; tally = tally } in
    record {
      ascend = AscendBy-placed recording_id (id, measured) recordings is.ascend others;
      members =
          subst (λ (ms : List Member). AllZip IsMemberOf ms (with_recording id measured recordings)) (sym placed_is)
          (zip_placed album.members recordings member (id, measured) (refl, stands) is.members);
    }

-- with a member less, for the others
pub IsAlbumOf-without : (album next : Kept) (recordings : List (ℕ × Measured)) (id : ℕ) → IsAlbumOf album recordings
    → next.members ≡ without member_id id album.members → IsAlbumOf next (without_recording id recordings)
IsAlbumOf-without album next recordings id is left = record {
  ascend = AllPairs-filter (λ (a b : ℕ × Measured). recording_id a < recording_id b) (λ r. not (recording_id r == id)) recordings is.ascend;
  members =
      subst (λ (ms : List Member). AllZip IsMemberOf ms (without_recording id recordings)) (sym left)
      (zip_without album.members recordings id is.members);
}

-- the blocks of all, in some order
pub blocks_joined : (members : List Member) (recordings : List (ℕ × Measured)) → AllZip IsMemberOf members recordings
    → IsPermutation (filter is_audible (album_blocks (measured_of recordings))) (blocks_in members)
blocks_joined [] [] all = IsPermutation-refl []
blocks_joined [] (r ∷ rs) all = absurd all
blocks_joined (m ∷ ms) [] all = absurd all
blocks_joined (m ∷ ms) (r ∷ rs) all =
    let rest = blocks_joined ms rs all.1 in
    rw (filter-append is_audible (blocks_of r.1.energies) (album_blocks (measured_of rs)))
    (IsPermutation-append _ _ _ _ all.0.1.blocks rest)

-- and their windows
pub windows_joined : (members : List Member) (recordings : List (ℕ × Measured)) → AllZip IsMemberOf members recordings
    → IsPermutation (filter is_window_audible (album_windows (measured_of recordings))) (windows_in members)
windows_joined [] [] all = IsPermutation-refl []
windows_joined [] (r ∷ rs) all = absurd all
windows_joined (m ∷ ms) [] all = absurd all
windows_joined (m ∷ ms) (r ∷ rs) all =
    let rest = windows_joined ms rs all.1 in
    rw (filter-append is_window_audible (windows_of r.1.energies) (album_windows (measured_of rs)))
    (IsPermutation-append _ _ _ _ all.0.1.windows rest)

-- their frames
pub frames_joined : (members : List Member) (recordings : List (ℕ × Measured)) → AllZip IsMemberOf members recordings
    → frames_in members ≡ album_frames (measured_of recordings)
frames_joined [] [] all = refl
frames_joined [] (r ∷ rs) all = absurd all
frames_joined (m ∷ ms) [] all = absurd all
frames_joined (m ∷ ms) (r ∷ rs) all =
    let rest = frames_joined ms rs all.1 in
    let own = sum_by-cons (λ (x : Member). x.tally.summary.frames) m ms in
    let theirs = sum_by-cons (λ (x : Measured). x.frames) r.1 (measured_of rs) in
    let same = all.0.1.summary.frames_kept in
    omega (arith, rest, own, theirs, same)

-- the greatest of their blocks
pub greatest_block_joined : (members : List Member) (recordings : List (ℕ × Measured)) → AllZip IsMemberOf members recordings
    → greatest_block_in members ≡ greatest (album_blocks (measured_of recordings))
greatest_block_joined [] [] all = refl
greatest_block_joined [] (r ∷ rs) all = absurd all
greatest_block_joined (m ∷ ms) [] all = absurd all
greatest_block_joined (m ∷ ms) (r ∷ rs) all =
    let rest = greatest_block_joined ms rs all.1 in
    ap (λ n. max n (greatest_block_in ms)) all.0.1.greatest_block
    ∙ ap (λ n. max (greatest (blocks_of r.1.energies)) n) rest
    ∙ sym (greatest-append (blocks_of r.1.energies) (album_blocks (measured_of rs)))

-- the greatest of their windows
pub greatest_window_joined : (members : List Member) (recordings : List (ℕ × Measured)) → AllZip IsMemberOf members recordings
    → greatest_window_in members ≡ greatest (album_windows (measured_of recordings))
greatest_window_joined [] [] all = refl
greatest_window_joined [] (r ∷ rs) all = absurd all
greatest_window_joined (m ∷ ms) [] all = absurd all
greatest_window_joined (m ∷ ms) (r ∷ rs) all =
    let rest = greatest_window_joined ms rs all.1 in
    ap (λ n. max n (greatest_window_in ms)) all.0.1.greatest_window
    ∙ ap (λ n. max (greatest (windows_of r.1.energies)) n) rest
    ∙ sym (greatest-append (windows_of r.1.energies) (album_windows (measured_of rs)))

-- the greatest of their peaks
pub peak_joined : (members : List Member) (recordings : List (ℕ × Measured)) → AllZip IsMemberOf members recordings
    → peak_in members ≡ album_peak (measured_of recordings)
peak_joined [] [] all = refl
peak_joined [] (r ∷ rs) all = absurd all
peak_joined (m ∷ ms) [] all = absurd all
peak_joined (m ∷ ms) (r ∷ rs) all =
    let rest = peak_joined ms rs all.1 in
    ap (λ n. max n (peak_in ms)) all.0.1.summary.peak_kept ∙ ap (λ n. max r.1.peak n) rest

-- past the last of those with a lesser id there is none with the id
pub absent_past : (members : List Member) (id place : ℕ) → IsPlaceOf members id place → place ≡ length members
    → All (λ m. member_id m ≡ id → ⊥) members
absent_past members id place split past = λ k d within same. let less = split.below k d (omega arith) in omega (arith, less, same)

-- nor where the one at its place has another
pub absent_at : (members : List Member) (id place : ℕ) (there : Member) → AscendBy member_id members → IsPlaceOf members id place
    → place < length members → there ≡ get_or members place there → (there.id ≡ id → ⊥) → All (λ m. member_id m ≡ id → ⊥) members
absent_at members id place there ascend split inside is other = λ k d within same. cases k d within same (cases_lt k place) (cases_lt place k)
  where
    cases : (k : ℕ) (d : Member) → k < length members → member_id (get_or members k d) ≡ id → (k < place) ⊎ (place ≤ k)
        → (place < k) ⊎ (k ≤ place) → ⊥
    cases k d within same (inl less) after = let below = split.below k d less in omega (arith, below, same)
    cases k d within same (inr no_less) (inl more) =
        let above = split.above place d (omega arith) inside in
        let later = ascend place k d more within in omega (arith, above, later, same)
    cases k d within same (inr no_less) (inr no_more) =
        let here : k ≡ place = omega arith in
        let at = ap (λ (i : ℕ). member_id (get_or members i d)) here ∙ ap member_id (at_place members place there d inside is) in
        other (sym at ∙ same)

-- a member put in has its id among them
pub has_placed : (members next : List Member) (member : Member) → next ≡ placed member_id member members
    → Contains next member × Contains (map member_id next) member.id
has_placed members next member is =
    let Has : List Member → Type 0 = λ ms. Contains ms member in
    let has = subst Has (sym is) (Contains-placed member_id member members) in
    (has, Contains-map member_id member next has)

-- put in and taken out again, the members are as they were
pub put_back : (members between next : List Member) (member : Member) → (Contains (map member_id members) member.id → ⊥)
    → between ≡ placed member_id member members → next ≡ without member_id member.id between → next ≡ members
put_back members between next member fresh added left =
    left ∙ ap (without member_id member.id) added
    ∙ without-placed member_id member members (none_has member_id member.id members fresh)

-- taken out, its id is gone
pub gone : (members next : List Member) (id : ℕ) → next ≡ without member_id id members → Contains (map member_id next) id → ⊥
gone members next id left has =
    let Has : List Member → Type 0 = λ ms. Contains (map member_id ms) id in
    has_none member_id id (without member_id id members) (All-without member_id id members) (subst Has left has)
