-- Albums with the levels of their recordings.
use Rattle.std.proofs.Common.{◌≡◌, ℕ, List, [], ◌∷◌, refl, sym, ap, ◌∙◌, subst}
use Rattle.std.specs.List.{AllByRecursion}
use Rattle.lib_base.specs.declared.files.Summary.{Summary}
use Rattle.sound_model.specs.Albums.{IsAlbumSummary}
use Rattle.sound_model.proofs.AlbumLaws.{IsAlbumSummary-unique}
use Rattle.library_model.specs.Stands.{IsSummed, Resums, measured_all, members}
use Rattle.library_model.specs.State.{Album, Recording}

-- an album of that id, name and levels
abbrev album_of : ℕ → List ℕ → Summary → Album
album_of id name summary = record { id = id; name = name; summary = summary }

-- of one id and one name, an album has one form with the levels of its recordings
IsSummed-unique : (recordings : List Recording) (x y : Album) → x.id ≡ y.id → x.name ≡ y.name
    → IsSummed recordings x → IsSummed recordings y → x ≡ y
IsSummed-unique recordings x y id name one other =
    let Of : ℕ → Type 0 = λ n. IsAlbumSummary (measured_all (members n recordings)) x.summary in
    let summary : x.summary ≡ y.summary =
    IsAlbumSummary-unique (measured_all (members y.id recordings)) x.summary y.summary (subst Of id one) other in
    ap (λ (n : ℕ). album_of n x.name x.summary) id ∙ ap (λ (text : List ℕ). album_of y.id text x.summary) name
    ∙ ap (album_of y.id y.name) summary

-- Albums have one form with the levels of their recordings.
pub Resums-unique : (recordings : List Recording) (albums xs ys : List Album) → Resums recordings albums xs → Resums recordings albums ys
    → xs ≡ ys
Resums-unique recordings [] [] [] one other = refl
Resums-unique recordings [] [] (y ∷ ys) one other = absurd other
Resums-unique recordings [] (x ∷ xs) ys one other = absurd one
Resums-unique recordings (a ∷ albums) [] ys one other = absurd one
Resums-unique recordings (a ∷ albums) (x ∷ xs) [] one other = absurd other
Resums-unique recordings (a ∷ albums) (x ∷ xs) (y ∷ ys) one other =
    let first : x ≡ y = IsSummed-unique recordings x y (one.0 ∙ sym other.0) (one.1 ∙ sym other.1) one.2 other.2 in
    ap (λ (z : Album). z ∷ xs) first ∙ ap (λ (zs : List Album). y ∷ zs) (Resums-unique recordings albums xs ys one.3 other.3)

-- Albums that have the levels of their recordings stay as they are.
pub Resums-same : (recordings : List Recording) (albums : List Album) → AllByRecursion (IsSummed recordings) albums
    → Resums recordings albums albums
Resums-same recordings [] summed = tt
Resums-same recordings (a ∷ albums) summed = (refl, refl, summed.0, Resums-same recordings albums summed.1)
