-- Rows tried one after another, as far as a loop has come: those before a place are seen, the nearest first.
use Rattle.std.proofs.Common.{◌≡◌, ◌<◌, ◌≤◌, ◌+◌, ℕ, suc, List, [], ◌∷◌, length, take, drop, reverse, get_or, Option, Some, None, refl, sym, ap, ◌∙◌, add-one, drop-cons, arith}
use Rattle.std.specs.Option.{option_or}
use Rattle.std.proofs.Math.ListN.{drop_of_length-le}
use Rattle.std.proofs.lemmas.List.{take_more, reverse-append}
use Rattle.library_model.specs.declared.bad_rows.BadRow.{BadRow}
use Rattle.library_model.specs.RowRules.{first_bad_of}

-- one row more is seen
pub seen_more : {A : Type 0} → (rows : List A) (i : ℕ) (row : A) → i < length rows → row ≡ get_or rows i row
    → reverse (take (i + 1) rows) ≡ row ∷ reverse (take i rows)
seen_more rows i row inside is =
    ap reverse (take_more rows i row inside)
    ∙ reverse-append (take i rows) (get_or rows i row ∷ [])
    ∙ ap (λ r. r ∷ reverse (take i rows)) (sym is)

-- the row stands at the front of those that are left
pub left_from : {A : Type 0} → (rows : List A) (i : ℕ) (row : A) → i < length rows → row ≡ get_or rows i row
    → drop i rows ≡ row ∷ drop (i + 1) rows
left_from rows i row inside is =
    rw add-one (drop-cons rows i row inside ∙ ap (λ r. r ∷ drop (suc i) rows) (sym is))

-- so far no row was bad
pub record NoneSoFar {A : Type 0} (bad : List A → A → Option BadRow) (rows : List A) (i : ℕ) : Type 0 where
  pub rest : first_bad_of bad [] rows ≡ first_bad_of bad (reverse (take i rows)) (drop i rows)

pub none_at_first : {A : Type 0} → (bad : List A → A → Option BadRow) (rows : List A) → NoneSoFar bad rows 0
none_at_first bad rows = record { rest = refl }

-- the row at the place is tried
tried : {A : Type 0} → (bad : List A → A → Option BadRow) (rows : List A) (i : ℕ) (row : A) → i < length rows → row ≡ get_or rows i row
    → NoneSoFar bad rows i
    → first_bad_of bad [] rows ≡ option_or (bad (reverse (take i rows)) row) (first_bad_of bad (row ∷ reverse (take i rows)) (drop (i + 1) rows))
tried bad rows i row inside is so_far =
    so_far.rest ∙ ap (λ left. first_bad_of bad (reverse (take i rows)) left) (left_from rows i row inside is)

-- a row that is bad is the first
pub found : {A : Type 0} → (bad : List A → A → Option BadRow) (rows : List A) (i : ℕ) (row : A) (here : BadRow) → i < length rows
    → row ≡ get_or rows i row → NoneSoFar bad rows i → bad (reverse (take i rows)) row ≡ Some here → Some here ≡ first_bad_of bad [] rows
found bad rows i row here inside is so_far at_row =
    sym (tried bad rows i row inside is so_far
    ∙ ap (λ first. option_or first (first_bad_of bad (row ∷ reverse (take i rows)) (drop (i + 1) rows))) at_row)

-- after one that is not bad there was none so far
pub passed : {A : Type 0} → (bad : List A → A → Option BadRow) (rows : List A) (i : ℕ) (row : A) → i < length rows
    → row ≡ get_or rows i row → NoneSoFar bad rows i → bad (reverse (take i rows)) row ≡ None → NoneSoFar bad rows (i + 1)
passed bad rows i row inside is so_far at_row = record {
  rest = tried bad rows i row inside is so_far
      ∙ ap (λ first. option_or first (first_bad_of bad (row ∷ reverse (take i rows)) (drop (i + 1) rows))) at_row
      ∙ ap (λ seen. first_bad_of bad seen (drop (i + 1) rows)) (sym (seen_more rows i row inside is));
}

-- after the last one there is none
pub none_at_all : {A : Type 0} → (bad : List A → A → Option BadRow) (rows : List A) (i : ℕ) → length rows ≤ i
    → NoneSoFar bad rows i → None ≡ first_bad_of bad [] rows
none_at_all bad rows i ended so_far =
    sym (so_far.rest ∙ ap (λ left. first_bad_of bad (reverse (take i rows)) left) (drop_of_length-le rows ended))
