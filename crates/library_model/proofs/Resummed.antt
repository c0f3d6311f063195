-- Tables in order stay so where albums get other levels.
use Rattle.std.proofs.Common.{◌≡◌, ◌≤◌, ◌==◌, ◌||◌, ℕ, Bool, true, Option, None, Some, List, [], ◌∷◌, map, refl, sym, ap, ◌∙◌, subst}
use Rattle.std.specs.List.{AllByRecursion}
use Rattle.lib_base.specs.declared.limits.TheConstants.{MOST_MEMBERS}
use Rattle.keeper_store.specs.Puts.{Ascends, album_less}
use Rattle.keeper_store.specs.declared.contents.Tables.{Tables}
use Rattle.keeper_store.specs.declared.row_types.AlbumRow.{AlbumRow}
use Rattle.keeper_store.specs.declared.row_types.RecordingRow.{RecordingRow}
use Rattle.keeper_store.proofs.Putting.{AllByRecursion-weaken}
use Rattle.library_model.specs.InOrder.{AreInOrder, IsGiven}
use Rattle.library_model.specs.Machine.{no_levels}
use Rattle.library_model.specs.Names.{is_name}
use Rattle.library_model.specs.RowRules.{album_is_there, has_album, member_count}
use Rattle.library_model.specs.Stands.{Resums, IsSummed, album_row}
use Rattle.library_model.specs.State.{Album, Recording}
use Rattle.library_model.proofs.InOrderLemmas.{AllByRecursion-map, AllByRecursion-unmap}

-- an album's row but for its levels
abbrev bare : AlbumRow → AlbumRow
bare row = record row { summary = no_levels }

-- albums that were summed have the ids and names that they had
pub same_but_levels : (recordings : List Recording) (albums nexts : List Album) → Resums recordings albums nexts
    → map bare (map album_row albums) ≡ map bare (map album_row nexts)
same_but_levels recordings [] [] resums = refl
same_but_levels recordings [] (next ∷ nexts) resums = absurd resums
same_but_levels recordings (a ∷ albums) [] resums = absurd resums
same_but_levels recordings (a ∷ albums) (next ∷ nexts) resums =
    ap (λ (n : ℕ). row_of n a.name ∷ map bare (map album_row albums)) (sym resums.0)
    ∙ ap (λ (name : List ℕ). row_of next.id name ∷ map bare (map album_row albums)) (sym resums.1)
    ∙ ap (λ (rows : List AlbumRow). row_of next.id next.name ∷ rows) (same_but_levels recordings albums nexts resums.3)
  where
    row_of : ℕ → List ℕ → AlbumRow
    row_of id name = record { id = id; name = name; summary = no_levels }

-- each of them has the levels of its recordings
pub all_summed : (recordings : List Recording) (albums nexts : List Album) → Resums recordings albums nexts
    → AllByRecursion (IsSummed recordings) nexts
all_summed recordings [] [] resums = tt
all_summed recordings [] (next ∷ nexts) resums = absurd resums
all_summed recordings (a ∷ albums) [] resums = absurd resums
all_summed recordings (a ∷ albums) (next ∷ nexts) resums = (resums.2, all_summed recordings albums nexts resums.3)

-- a fact that doesn't speak of levels goes over
carried : (P : AlbumRow → Type 0) → ((row : AlbumRow) → P row → P (bare row)) → ((row : AlbumRow) → P (bare row) → P row)
    → (xs ys : List AlbumRow) → map bare xs ≡ map bare ys → AllByRecursion P xs → AllByRecursion P ys
carried P there back xs ys same all =
    AllByRecursion-weaken (λ (row : AlbumRow). P (bare row)) P back ys
    (AllByRecursion-unmap P bare ys (subst (AllByRecursion P) same
    (AllByRecursion-map P bare xs (AllByRecursion-weaken P (λ (row : AlbumRow). P (bare row)) there xs all))))

-- so does their order
Ascends-bare : (xs : List AlbumRow) → Ascends album_less xs → Ascends album_less (map bare xs)
Ascends-bare [] rise = tt
Ascends-bare (x ∷ xs) rise = (AllByRecursion-map (λ (s : AlbumRow). album_less x s ≡ true) bare xs rise.0, Ascends-bare xs rise.1)

Ascends-unbare : (xs : List AlbumRow) → Ascends album_less (map bare xs) → Ascends album_less xs
Ascends-unbare [] rise = tt
Ascends-unbare (x ∷ xs) rise = (AllByRecursion-unmap (λ (s : AlbumRow). album_less x s ≡ true) bare xs rise.0, Ascends-unbare xs rise.1)

-- and which are there
has_album-bare : (id : ℕ) (xs : List AlbumRow) → has_album id (map bare xs) ≡ has_album id xs
has_album-bare id [] = refl
has_album-bare id (x ∷ xs) = ap (λ (b : Bool). (x.id == id) || b) (has_album-bare id xs)

there-bare : (album : Option ℕ) (xs ys : List AlbumRow) → map bare xs ≡ map bare ys → album_is_there album xs ≡ album_is_there album ys
there-bare None xs ys same = refl
there-bare (Some id) xs ys same = sym (has_album-bare id xs) ∙ ap (has_album id) same ∙ has_album-bare id ys

-- Tables in order stay so where albums get other levels.
pub AreInOrder-resummed : (t : Tables) (rows : List AlbumRow) → AreInOrder t → map bare t.albums ≡ map bare rows
    → AreInOrder (record t { albums = rows })
AreInOrder-resummed t rows are same = record {
  next_album = are.next_album;
  next_recording = are.next_recording;
  next_take = are.next_take;
  albums = Ascends-unbare rows (subst (Ascends album_less) same (Ascends-bare t.albums are.albums));
  recordings = are.recordings;
  segments = are.segments;
  replies = are.replies;
  album_ids_given = carried (λ (row : AlbumRow). IsGiven t.next_album row.id) (λ row given. given) (λ row given. given)
      t.albums rows same are.album_ids_given;
  ids_given = are.ids_given;
  takes_given = are.takes_given;
  segments_given = are.segments_given;
  takes_differ = are.takes_differ;
  albums_there = AllByRecursion-weaken (λ (r : RecordingRow). album_is_there r.album t.albums ≡ true)
      (λ (r : RecordingRow). album_is_there r.album rows ≡ true) (λ r there. sym (there-bare r.album t.albums rows same) ∙ there)
      t.recordings are.albums_there;
  few_members = carried (λ (row : AlbumRow). member_count row.id t.recordings ≤ MOST_MEMBERS) (λ row few. few) (λ row few. few)
      t.albums rows same are.few_members;
  album_names = carried (λ (row : AlbumRow). is_name row.name ≡ true) (λ row name. name) (λ row name. name)
      t.albums rows same are.album_names;
  names = are.names;
  tokens = are.tokens;
  statuses = are.statuses;
}
