-- Moves between albums, and removals of recordings, are decided as the machine decides them.
use Rattle.std.proofs.Common.{◌≡◌, ◌≢◌, ◌==◌, ◌&&◌, ◌++◌, not, ℕ, Bool, true, false, cond, List, [], ◌∷◌, Option, None, Some, map, nat_lt, nat_le, refl, sym, ap, ◌∙◌, subst, arith, inl, inr}
use Rattle.std.specs.List.{AllByRecursion, find}
use Rattle.std.proofs.lemmas.Bool.Decides.{nat_tests}
use Rattle.catalogue_rows.specs.Making.{FitsAll, Moves}
use Rattle.catalogue_rows.specs.Seeing.{is_full_in}
use Rattle.catalogue_rows.specs.Trying.{DropsRow, PutsRow}
use Rattle.keeper_store.specs.Changes.{changed}
use Rattle.keeper_store.specs.Puts.{recording_id}
use Rattle.keeper_store.specs.declared.contents.Change.TheVariants.{DropRecording, DropSegments, PutAlbum, PutRecording}
use Rattle.keeper_store.specs.declared.contents.Tables.{Tables}
use Rattle.keeper_store.specs.declared.row_types.AlbumRow.{AlbumRow}
use Rattle.keeper_store.specs.declared.row_types.RecordingRow.{RecordingRow}
use Rattle.library_model.specs.Batches.{AreResummed, IsResummed, closing, crowds, ids_in, moved, regroup_batch, regroup_row, remove_batch}
use Rattle.library_model.specs.Bodies.{removed_reply, row_reply}
use Rattle.library_model.specs.RowRules.{album_is_there, has_album, is_in_album, measured_in}
use Rattle.library_model.specs.Stands.{IsValid, tables_of}
use Rattle.library_model.specs.State.{State}
use Rattle.library_model.specs.declared.messages.Command.TheVariants.{Regroup, RemoveRecording}
use Rattle.library_model.proofs.LeadsRegroup.{regroup_leads, regroup_same_leads}
use Rattle.library_model.proofs.LeadsRemove.{remove_leads}
use Rattle.library_model.proofs.Looking.{find_has, found_id}
use Rattle.library_model.proofs.RowsPut.{regroup_puts, remove_frees}
use Rattle.catalogue_core.specs.Imports.{HasRow, IsOpenTo}
use Rattle.catalogue_core.specs.Moving.{ascending}
use Rattle.catalogue_core.specs.Plans.{DecidedFrom, IsPlan}
use Rattle.catalogue_core.specs.Resumming.{IsResummedIn, LeavesNamed, MovesIntoNamed, in_list}
use Rattle.catalogue_core.specs.declared.plans.Decision.TheVariants.{Planned}
use Rattle.catalogue_core.specs.declared.plans.Plan.{Plan}
use Rattle.catalogue_core.proofs.Closings.{closing_fits, resummed_id, resummed_list, resummed_there}
use Rattle.catalogue_core.proofs.Planned.{planned}
use Rattle.catalogue_core.proofs.Puts.{fits_recording, moves_named}

-- what holds of each row
all_rows : (P : RecordingRow → Type 0) → ((r : RecordingRow) → P r) → (rows : List RecordingRow) → AllByRecursion P rows
all_rows P each [] = tt
all_rows P each (r ∷ rows) = (each r, all_rows P each rows)

-- ---- where a recording is

-- the album of a recording that is there is there too
home_of : (s : State) (id : ℕ) (old : RecordingRow) → IsValid s → HasRow s id old → album_is_there old.album (tables_of s).albums ≡ true
home_of s id old valid there =
    (find_has recording_id (λ (r : RecordingRow). album_is_there r.album (tables_of s).albums ≡ true) id (tables_of s).recordings old
    valid.rows.albums_there there).0

-- a recording moves with its tally
moves : (s : State) (id : ℕ) (old : RecordingRow) (album : Option ℕ) → IsValid s → HasRow s id old → Moves (regroup_row old album) (tables_of s)
moves s id old album valid there = record {
  before = old;
  there = subst (λ (n : ℕ). find (λ (r : RecordingRow). r.id == n) (tables_of s).recordings ≡ Some old) (sym (found_id id (tables_of s).recordings old there)) there;
  home = home_of s id old valid there;
  measured = refl;
}

-- putting a row leaves what is measured of all others
puts_row : (t : Tables) (row : RecordingRow) → PutsRow row t (changed (PutRecording row) t)
puts_row t row = record { recordings = refl; others = all_rows (λ r. r.id ≢ row.id → measured_in (changed (PutRecording row) t) r ≡ measured_in t r) (λ r other. refl) t.recordings }

-- so does dropping one
drops_row : (t : Tables) (id : ℕ) → DropsRow id t (changed (DropRecording id) t)
drops_row t id = record { recordings = refl; others = all_rows (λ r. r.id ≢ id → measured_in (changed (DropRecording id) t) r ≡ measured_in t r) (λ r other. refl) t.recordings }

-- A recording comes into the other album, if one is named.
pub regroup_joins : (s : State) (id : ℕ) (old : RecordingRow) (album : Option ℕ) → IsValid s → HasRow s id old
    → album_is_there album (tables_of s).albums ≡ true → crowds old.album album (tables_of s).recordings ≡ false
    → MovesIntoNamed album old.id (tables_of s) (changed (PutRecording (regroup_row old album)) (tables_of s))
regroup_joins s id old album valid there home few =
    let t = tables_of s in
    let row = regroup_row old album in
    moves_named t (changed (PutRecording row) t) row album refl (puts_row t row) (regroup_puts s id album old valid there home few)
    (moves s id old album valid there) refl

-- another album is not the one that is named
outside : (from : ℕ) (to : Option ℕ) → Some from ≢ to → is_in_album from to ≡ false
outside from None other = refl
outside from (Some to) other =
    let apart : to ≢ from = λ same. other (ap (λ (n : ℕ). Some n) (sym same)) in
    grind (arith, nat_tests, apart)

-- It leaves the album that it is in, if it is in one.
pub regroup_leaves : (s : State) (id : ℕ) (old : RecordingRow) (album : Option ℕ) → IsValid s → HasRow s id old → old.album ≢ album
    → LeavesNamed old.album old.id (tables_of s) (changed (PutRecording (regroup_row old album)) (tables_of s))
regroup_leaves s id old album valid there other = by_home old.album refl other (home_of s id old valid there)
  where
    by_home : (home : Option ℕ) → old.album ≡ home → home ≢ album → album_is_there home (tables_of s).albums ≡ true
        → LeavesNamed home old.id (tables_of s) (changed (PutRecording (regroup_row old album)) (tables_of s))
    by_home None is other there = tt
    by_home (Some home) is other there =
        (inl (record { row = regroup_row old album; puts = puts_row (tables_of s) (regroup_row old album); same = refl; outside = outside home album other }), there)

-- So does one that is removed.
pub remove_leaves : (s : State) (id : ℕ) (old : RecordingRow) → IsValid s → HasRow s id old
    → LeavesNamed old.album old.id (tables_of s) (changed (DropRecording old.id) (tables_of s))
remove_leaves s id old valid there = by_home old.album (home_of s id old valid there)
  where
    by_home : (home : Option ℕ) → album_is_there home (tables_of s).albums ≡ true
        → LeavesNamed home old.id (tables_of s) (changed (DropRecording old.id) (tables_of s))
    by_home None there = tt
    by_home (Some home) there = (inr (drops_row (tables_of s) old.id), there)

-- Another album than its own is crowded by it where it is full.
pub crowds_full : (t : Tables) (from to : Option ℕ) → from ≢ to → crowds from to t.recordings ≡ is_full_in t to
crowds_full t from None other = refl
crowds_full t from (Some to) other = rw (outside_of from to other) refl
  where
    outside_of : (from : Option ℕ) (to : ℕ) → from ≢ Some to → is_in_album to from ≡ false
    outside_of None to other = refl
    outside_of (Some from) to other =
        let apart : from ≢ to = λ same. other (ap (λ (n : ℕ). Some n) same) in
        grind (arith, nat_tests, apart)

-- ---- moves

-- The rows of both albums ascend as their ids do.
pub moved_list : (t next : Tables) (from to : Option ℕ) (left joined : Option AlbumRow) → from ≢ to → IsResummedIn t next from left
    → IsResummedIn t next to joined → AreResummed t.albums next (moved from to) (ascending left joined)
moved_list t next None None None None other a b = tt
moved_list t next None None None (Some joined) other a b = absurd b
moved_list t next None to (Some left) joined other a b = absurd a
moved_list t next None (Some to) None None other a b = absurd b
moved_list t next None (Some to) None (Some joined) other a b = (b, tt)
moved_list t next (Some from) to None joined other a b = absurd a
moved_list t next (Some from) None (Some left) None other a b = (a, tt)
moved_list t next (Some from) None (Some left) (Some joined) other a b = absurd b
moved_list t next (Some from) (Some to) (Some left) None other a b = absurd b
moved_list t next (Some from) (Some to) (Some left) (Some joined) other a b =
    cases (from == to) refl (nat_lt from to) refl (nat_lt joined.id left.id) refl
  where
    lesser : (m n : ℕ) → nat_lt m n ≡ true → nat_lt joined.id left.id ≡ true → left.id ≡ m → joined.id ≡ n → ⊥
    lesser m n below above is also = grind (arith, nat_tests, below, above, is, also)

    neither : (m n : ℕ) → (m == n) ≡ false → nat_lt m n ≡ false → nat_lt joined.id left.id ≡ false → left.id ≡ m → joined.id ≡ n → ⊥
    neither m n apart below above is also = grind (arith, nat_tests, apart, below, above, is, also)

    cases : (same : Bool) → (from == to) ≡ same → (below : Bool) → nat_lt from to ≡ below → (above : Bool) → nat_lt joined.id left.id ≡ above
        → AreResummed t.albums next (cond same [] (cond below (from ∷ to ∷ []) (to ∷ from ∷ []))) (cond above (joined ∷ left ∷ []) (left ∷ joined ∷ []))
    cases true is below lt above gt =
        let one : from ≡ to = grind (arith, nat_tests, is) in absurd (other (ap (λ (n : ℕ). Some n) one))
    cases false is true lt true gt = absurd (lesser from to lt gt (resummed_id t next from left a) (resummed_id t next to joined b))
    cases false is true lt false gt = (a, (b, tt))
    cases false is false lt true gt = (b, (a, tt))
    cases false is false lt false gt = absurd (neither from to is lt gt (resummed_id t next from left a) (resummed_id t next to joined b))

-- A planned move is what is decided.
pub regroup_decided : (s : State) (token mark : List ℕ) (id : ℕ) (old : RecordingRow) (album : Option ℕ) (left joined : Option AlbumRow) (plan : Plan)
    → IsOpenTo s token → HasRow s id old → album_is_there album (tables_of s).albums ≡ true
    → crowds old.album album (tables_of s).recordings ≡ false → old.album ≢ album
    → IsResummedIn (tables_of s) (changed (PutRecording (regroup_row old album)) (tables_of s)) old.album left
    → IsResummedIn (tables_of s) (changed (PutRecording (regroup_row old album)) (tables_of s)) album joined
    → IsPlan (PutRecording (regroup_row old album) ∷ map PutAlbum (ascending left joined)) None (row_reply 200 (regroup_row old album)) plan
    → plan.fresh.tally ≡ None → DecidedFrom s token mark (Regroup id album) (Planned plan)
regroup_decided s token mark id old album left joined plan open_ there home few other goes comes is none =
    let t = tables_of s in
    let row = regroup_row old album in
    let next = changed (PutRecording row) t in
    let albums = ascending left joined in
    let sums = moved_list t next old.album album left joined other goes comes in
    let leads = regroup_leads s token mark id album old albums open_.valid open_.fresh there home few sums in
    let puts = regroup_puts s id album old open_.valid there home few in
    let fits = fits_recording t t row None puts refl refl (moves s id old album open_.valid there) in
    planned s token mark (Regroup id album) (PutRecording row ∷ map PutAlbum albums) None (row_reply 200 row) plan is leads (
      rw none fits,
      closing_fits albums token mark (row_reply 200 row) (record plan.fresh { tally = None }) next
          (resummed_there t next (moved old.album album) albums sums),
    )

-- A recording that stays where it is changes nothing but the kept reply.
pub stay_decided : (s : State) (token mark : List ℕ) (id : ℕ) (old : RecordingRow) (album : Option ℕ) (plan : Plan) → IsOpenTo s token → HasRow s id old
    → old.album ≡ album → IsPlan [] None (row_reply 200 old) plan → DecidedFrom s token mark (Regroup id album) (Planned plan)
stay_decided s token mark id old album plan open_ there same is =
    planned s token mark (Regroup id album) [] None (row_reply 200 old) plan is
    (regroup_same_leads s token mark id album old open_.valid open_.fresh there same) (tt, tt)

-- ---- removals

-- A planned removal is what is decided.
pub remove_decided : (s : State) (token mark : List ℕ) (id : ℕ) (old : RecordingRow) (resummed : Option AlbumRow) (plan : Plan) → IsOpenTo s token
    → HasRow s id old → IsResummedIn (tables_of s) (changed (DropRecording old.id) (tables_of s)) old.album resummed
    → IsPlan (DropRecording old.id ∷ DropSegments old.take ∷ map PutAlbum (in_list resummed)) (Some old.take) (removed_reply old.id) plan
    → DecidedFrom s token mark (RemoveRecording id) (Planned plan)
remove_decided s token mark id old resummed plan open_ there goes is =
    let t = tables_of s in
    let next = changed (DropRecording old.id) t in
    let albums = in_list resummed in
    let sums = resummed_list t next old.album resummed goes in
    let leads = remove_leads s token mark id old albums open_.valid open_.fresh there sums in
    planned s token mark (RemoveRecording id) (DropRecording old.id ∷ DropSegments old.take ∷ map PutAlbum albums) (Some old.take)
    (removed_reply old.id) plan is leads (
      tt,
      (
        remove_frees s id old open_.valid there,
        closing_fits albums token mark (removed_reply old.id) plan.fresh (changed (DropSegments old.take) next)
            (resummed_there t next (ids_in old.album) albums sums),
      ),
    )
