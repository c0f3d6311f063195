-- The batches of new albums and of albums that are removed.
use Rattle.std.proofs.Common.{◌≡◌, ◌∙◌, ℕ, true, false, nat_le, nat_lt, None, Some, List, [], ◌∷◌, length, refl, sym, ap, subst}
use Rattle.std.specs.List.{AllByRecursion}
use Rattle.lib_base.specs.declared.limits.TheConstants.{NUMBERS_END}
use Rattle.keeper_store.specs.Changes.{next_numbers}
use Rattle.keeper_store.specs.declared.contents.Change.TheVariants.{DropAlbum}
use Rattle.keeper_store.specs.declared.row_types.AlbumRow.{AlbumRow}
use Rattle.keeper_store.specs.declared.row_types.RecordingRow.{RecordingRow}
use Rattle.keeper_store.proofs.Dropping.{AllByRecursion-without}
use Rattle.keeper_store.proofs.Putting.{AllByRecursion-put, Ascends-put}
use Rattle.sound_model.specs.Albums.{IsAlbumSummary}
use Rattle.library_model.specs.declared.messages.Command.TheVariants.{NewAlbum, RemoveAlbum}
use Rattle.library_model.specs.declared.messages.Reply.{Reply}
use Rattle.library_model.specs.declared.refusals.Refusal.TheVariants.{Ids, NotEmpty}
use Rattle.library_model.specs.Batches.{new_album_batch, new_album_changes, new_album_row, remove_album_batch}
use Rattle.library_model.specs.Bodies.{album_row_reply, removed_reply}
use Rattle.library_model.specs.InOrder.{AreInOrder}
use Rattle.library_model.specs.Machine.{Sums, is_there, kept_under, makes, new_album, no_levels, remove_album_step, removing_album, with_new_album}
use Rattle.library_model.specs.RowRules.{has_album, is_in_album, member_count}
use Rattle.library_model.specs.Stands.{IsSummed, IsValid, measured_all, members, recording_row, tables_of}
use Rattle.library_model.specs.State.{Album, Recording, State, album_before}
use Rattle.library_model.proofs.Closing.{ButFor, albums_before_in_order}
use Rattle.library_model.proofs.Imports.{AllByRecursion-weaker}
use Rattle.library_model.proofs.InOrderLemmas.{AllByRecursion-unmap}
use Rattle.library_model.proofs.Leading.{Leads, Makes, albums_rise, leads_closed, measures_made}
use Rattle.library_model.proofs.MadeStates.{made_files, made_in_order, none_in_next, row-there, tables_of-new_album, tables_of-removing_album}
use Rattle.library_model.proofs.NextTables.{count_of-rows}
use Rattle.library_model.proofs.Refusing.{of_limit, of_there}
use Rattle.library_model.proofs.Steps.{MakesState}
use Rattle.library_model.proofs.Taking.{gone_none, own_takes}

-- an album outside which all recordings are has none of them
members-none : (id : ℕ) (rs : List Recording) → AllByRecursion (λ (r : Recording). is_in_album id r.album ≡ false) rs → members id rs ≡ []
members-none id [] outside = refl
members-none id (r ∷ rs) outside = rw outside.0 (members-none id rs outside.1)

-- An album of no recording has no level.
pub no_levels-summed : IsAlbumSummary [] no_levels
no_levels-summed = record {
  frames_kept = refl;
  loudness = tt;
  range = tt;
  momentary = tt;
  short_term = tt;
  true_peak = tt;
  peak_kept = refl;
  gain = refl;
}

-- A new album, for which a number is left: its batch puts the counter and the album.
pub new_album_leads : (s : State) (token mark name : List ℕ) → IsValid s → kept_under token s.replies ≡ None
    → nat_le NUMBERS_END s.next_album ≡ false
    → Leads s token mark (NewAlbum name)
    (new_album_batch (next_numbers (tables_of s)) (new_album_row (next_numbers (tables_of s)) name) token mark
    (album_row_reply 201 (new_album_row (next_numbers (tables_of s)) name) []))
    [] (album_row_reply 201 (new_album_row (next_numbers (tables_of s)) name) [])
new_album_leads s token mark name valid fresh left =
    let u : State = with_new_album s name in
    let row : AlbumRow = new_album_row (next_numbers (tables_of s)) name in
    let reply : Reply = album_row_reply 201 row [] in
    let made : Makes s u token (NewAlbum name) (new_album_changes (next_numbers (tables_of s)) row) reply = record {
      fresh = fresh;
      decides = λ v sums. of_limit (nat_le NUMBERS_END s.next_album) Ids (makes (λ _. reply) u) v left sums;
      rows = sym (tables_of-new_album s name);
    } in
    let none : members s.next_album s.recordings ≡ [] =
    members-none s.next_album s.recordings
    (AllByRecursion-unmap (λ (r : RecordingRow). is_in_album s.next_album r.album ≡ false) recording_row s.recordings (none_in_next s valid)) in
    let own : IsSummed s.recordings (new_album s name) =
    subst (λ (rs : List Recording). IsAlbumSummary (measured_all rs) no_levels) (sym none) no_levels-summed in
    leads_closed s u token mark (NewAlbum name) (new_album_changes (next_numbers (tables_of s)) row) [] [] [] reply (tables_of s) made
    (Ascends-put album_before albums_before_in_order (new_album s name) s.albums (albums_rise s valid.rows))
    (measures_made s valid.rows valid.files)
    (AllByRecursion-put (ButFor [] (IsSummed s.recordings)) album_before (new_album s name) s.albums (λ _. own)
    (AllByRecursion-weaker (IsSummed s.recordings) (ButFor [] (IsSummed s.recordings)) s.albums (λ a has _. has) valid.summed))
    tt (gone_none s.recordings s.recordings (own_takes s.recordings))

-- An album without recordings is removed: its batch drops it.
pub remove_album_leads : (s : State) (token mark : List ℕ) (id : ℕ) → IsValid s → kept_under token s.replies ≡ None
    → has_album id (tables_of s).albums ≡ true → nat_lt 0 (member_count id (tables_of s).recordings) ≡ false
    → Leads s token mark (RemoveAlbum id) (remove_album_batch id token mark (removed_reply id)) [] (removed_reply id)
remove_album_leads s token mark id valid fresh there empty =
    let u : State = removing_album s id in
    let here : is_there (Some id) s.albums ≡ true = sym (row-there (Some id) s.albums) ∙ there in
    let none : nat_lt 0 (length (members id s.recordings)) ≡ false =
    ap (λ (n : ℕ). nat_lt 0 n) (sym (count_of-rows id s.recordings)) ∙ empty in
    let makes_it : MakesState s (RemoveAlbum id) u = (here, none, refl) in
    let are : AreInOrder (tables_of u) = made_in_order s (RemoveAlbum id) u valid tt makes_it in
    let made : Makes s u token (RemoveAlbum id) (DropAlbum id ∷ []) (removed_reply id) = record {
      fresh = fresh;
      decides = λ v sums. of_there (is_there (Some id) s.albums) (Sums (remove_album_step s id)) v here
          (of_limit (nat_lt 0 (length (members id s.recordings))) NotEmpty (makes (λ _. removed_reply id) u) v none sums);
      rows = sym (tables_of-removing_album s id);
    } in
    leads_closed s u token mark (RemoveAlbum id) (DropAlbum id ∷ []) [] [] [] (removed_reply id) (tables_of u) made (albums_rise u are)
    (measures_made u are (made_files s (RemoveAlbum id) u valid tt makes_it))
    (AllByRecursion-without (ButFor [] (IsSummed s.recordings)) (λ (a : Album). a.id) id s.albums
    (AllByRecursion-weaker (IsSummed s.recordings) (ButFor [] (IsSummed s.recordings)) s.albums (λ a has _. has) valid.summed))
    tt (gone_none s.recordings s.recordings (own_takes s.recordings))
