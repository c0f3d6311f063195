-- New albums, and albums that are removed, are decided as the machine decides them.
use Rattle.std.proofs.Common.{◌≡◌, ℕ, true, false, List, [], ◌∷◌, None, nat_le, nat_lt, refl, inr}
use Rattle.std.specs.List.{AllByRecursion}
use Rattle.lib_base.specs.declared.limits.TheConstants.{NUMBERS_END}
use Rattle.catalogue_rows.specs.Making.{HasNoMembers, IsEmptyAlbum}
use Rattle.keeper_store.specs.Changes.{next_numbers}
use Rattle.keeper_store.specs.declared.contents.Change.TheVariants.{DropAlbum}
use Rattle.keeper_store.specs.declared.row_types.RecordingRow.{RecordingRow}
use Rattle.library_model.specs.Batches.{new_album_changes, new_album_row}
use Rattle.library_model.specs.Bodies.{album_row_reply, removed_reply}
use Rattle.library_model.specs.Machine.{kept_under}
use Rattle.library_model.specs.RowRules.{has_album, is_in_album, member_count, members_in}
use Rattle.library_model.specs.Stands.{IsValid, tables_of}
use Rattle.library_model.specs.State.{State}
use Rattle.library_model.specs.declared.messages.Command.TheVariants.{NewAlbum, RemoveAlbum}
use Rattle.library_model.proofs.LeadsAlbums.{new_album_leads, remove_album_leads}
use Rattle.library_model.proofs.MadeStates.{none_in_next}
use Rattle.catalogue_core.specs.Plans.{DecidedFrom, IsPlan}
use Rattle.catalogue_core.specs.declared.plans.Decision.TheVariants.{Planned}
use Rattle.catalogue_core.specs.declared.plans.Plan.{Plan}
use Rattle.catalogue_core.proofs.Planned.{planned}

-- rows that are in no album of an id
no_members : (id : ℕ) (rows : List RecordingRow) → AllByRecursion (λ (r : RecordingRow). is_in_album id r.album ≡ false) rows
    → members_in id rows ≡ []
no_members id [] none = refl
no_members id (r ∷ rows) none = rw none.0 (no_members id rows none.1)

-- A planned album is what is decided.
pub new_album_decided : (s : State) (token mark name : List ℕ) (plan : Plan) → IsValid s → kept_under token s.replies ≡ None
    → nat_le NUMBERS_END s.next_album ≡ false
    → IsPlan (new_album_changes (next_numbers (tables_of s)) (new_album_row (next_numbers (tables_of s)) name)) None
    (album_row_reply 201 (new_album_row (next_numbers (tables_of s)) name) []) plan
    → IsEmptyAlbum plan.fresh.album → DecidedFrom s token mark (NewAlbum name) (Planned plan)
new_album_decided s token mark name plan valid fresh left is empty =
    let next = next_numbers (tables_of s) in
    let row = new_album_row next name in
    let none : HasNoMembers s.next_album (tables_of s) = no_members s.next_album (tables_of s).recordings (none_in_next s valid) in
    planned s token mark (NewAlbum name) (new_album_changes next row) None (album_row_reply 201 row []) plan is
    (new_album_leads s token mark name valid fresh left) (tt, (inr (none, empty), (tt, tt)))

-- A planned removal of an album is what is decided.
pub remove_album_decided : (s : State) (token mark : List ℕ) (id : ℕ) (plan : Plan) → IsValid s → kept_under token s.replies ≡ None
    → has_album id (tables_of s).albums ≡ true → member_count id (tables_of s).recordings ≡ 0
    → IsPlan (DropAlbum id ∷ []) None (removed_reply id) plan → DecidedFrom s token mark (RemoveAlbum id) (Planned plan)
remove_album_decided s token mark id plan valid fresh there none is =
    let empty : nat_lt 0 (member_count id (tables_of s).recordings) ≡ false = rw none refl in
    planned s token mark (RemoveAlbum id) (DropAlbum id ∷ []) None (removed_reply id) plan is
    (remove_album_leads s token mark id valid fresh there empty) (tt, (tt, tt))
