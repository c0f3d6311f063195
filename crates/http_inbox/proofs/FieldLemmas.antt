-- The values of the header lines of a name, from one place to the next.
use Rattle.std.proofs.Common.{◌≡◌, ℕ, suc, ◌+◌, ◌<◌, Bool, ◌&&◌, ◌||◌, true, false, Option, Some, None, MatchOption, List, ◌∷◌, length, drop, map, get_or, refl, sym, ap, ◌∙◌, add-one, drop-cons}
use Rattle.std.specs.Char.{to_ascii_lowercase}
use Rattle.std.specs.List.{list_any}
use Rattle.std.specs.Option.{is_some}
use Rattle.std.specs.Str.{bytes_eq}
use Rattle.std.proofs.lemmas.Slice.Eq.{bytes_eq-Decides}
use Rattle.httparse.specs.declared.spans.HeaderSpan.{HeaderSpan}
use Rattle.httparse.specs.declared.spans.Span.{Span}
use Rattle.httparse.specs.Spans.{IsWithin, header_bytes, span_bytes}
use Rattle.http_model.specs.Fields.{is_named, values_of}

-- The test that the code makes is the name's.
pub is_named-tested : (result : Bool) (bytes name : List ℕ)
    → (result ≡ true → map to_ascii_lowercase bytes ≡ map to_ascii_lowercase name)
    → (map to_ascii_lowercase bytes ≡ map to_ascii_lowercase name → result ≡ true)
    → result ≡ is_named name bytes
is_named-tested result bytes name to from =
    same result (bytes_eq (map to_ascii_lowercase bytes) (map to_ascii_lowercase name))
    (λ is. (bytes_eq-Decides (map to_ascii_lowercase bytes) (map to_ascii_lowercase name)).1 (to is))
    (λ is. from ((bytes_eq-Decides (map to_ascii_lowercase bytes) (map to_ascii_lowercase name)).0 is))
  where
    same : (a b : Bool) → (a ≡ true → b ≡ true) → (b ≡ true → a ≡ true) → a ≡ b
    same true b to from = sym (to refl)
    same false true to from = from refl
    same false false to from = refl

-- A header of the name adds its value.
values_of-named : (name : List ℕ) (header : List ℕ × List ℕ) (headers : List (List ℕ × List ℕ)) → is_named name header.0 ≡ true
    → values_of name (header ∷ headers) ≡ header.1 ∷ values_of name headers
values_of-named name header headers is = rw is refl

-- Another header adds none.
values_of-other : (name : List ℕ) (header : List ℕ × List ℕ) (headers : List (List ℕ × List ℕ)) → is_named name header.0 ≡ false
    → values_of name (header ∷ headers) ≡ values_of name headers
values_of-other name header headers is = rw is refl

-- the values of the headers from a place on
abbrev pub values_from : List ℕ → List ℕ → List HeaderSpan → ℕ → List (List ℕ)
values_from name bytes headers place = values_of name (map (header_bytes bytes) (drop place headers))

-- At a header of the name its value comes first.
pub values_from-named : (name bytes : List ℕ) (headers : List HeaderSpan) (place : ℕ) (past : HeaderSpan) → place < length headers
    → is_named name (span_bytes bytes (get_or headers place past).name) ≡ true
    → values_from name bytes headers place
    ≡ span_bytes bytes (get_or headers place past).value ∷ values_from name bytes headers (place + 1)
values_from-named name bytes headers place past inside is =
    rw (add-one, drop-cons headers place past inside)
    (values_of-named name (header_bytes bytes (get_or headers place past)) (map (header_bytes bytes) (drop (suc place) headers)) is)

-- A header of another name is passed over.
pub values_from-other : (name bytes : List ℕ) (headers : List HeaderSpan) (place : ℕ) (past : HeaderSpan) → place < length headers
    → is_named name (span_bytes bytes (get_or headers place past).name) ≡ false
    → values_from name bytes headers place ≡ values_from name bytes headers (place + 1)
values_from-other name bytes headers place past inside is =
    rw (add-one, drop-cons headers place past inside)
    (values_of-other name (header_bytes bytes (get_or headers place past)) (map (header_bytes bytes) (drop (suc place) headers)) is)

-- ---- the one value

-- what was found, and then the values of the headers that are left
abbrev pub Found : List ℕ → Option Span → List (List ℕ) → List (List ℕ) → Type 0
Found bytes found values left =
    MatchOption found (values ≡ left) (λ place. IsWithin (length bytes) place × (values ≡ span_bytes bytes place ∷ left))

-- A value behind one that was found is the second.
pub repeated : (bytes : List ℕ) (found : Option Span) (values left : List (List ℕ)) → is_some found ≡ true
    → Found bytes found values left → (second : List ℕ) (others : List (List ℕ)) → left ≡ second ∷ others
    → (first : List ℕ) × (second : List ℕ) × (others : List (List ℕ)) × (values ≡ first ∷ second ∷ others)
repeated bytes None values left is kept second others next = absurd (cc is)
repeated bytes (Some place) values left is kept second others next =
    (span_bytes bytes place, second, others, kept.1 ∙ ap (λ (l : List (List ℕ)). span_bytes bytes place ∷ l) next)

-- A first value is what was found.
pub first_found : (bytes : List ℕ) (found now : Option Span) (place : Span) (values left more : List (List ℕ))
    → is_some found ≡ false → Found bytes found values left → now ≡ Some place → IsWithin (length bytes) place
    → left ≡ span_bytes bytes place ∷ more → Found bytes now values more
first_found bytes None now place values left more empty kept is inside next = rw is (inside, kept ∙ next)
first_found bytes (Some other) now place values left more empty kept is inside next = absurd (cc empty)

-- A header that is passed over changes nothing.
pub passed_over : (bytes : List ℕ) (found now : Option Span) (values left more : List (List ℕ))
    → Found bytes found values left → now ≡ found → left ≡ more → Found bytes now values more
passed_over bytes found now values left more kept is next = rw (is, ← next) kept

-- ---- some value

-- Some value passes the test where the header at the place is of the name and its value passes, or one behind it does.
pub any_from : (test : List ℕ → Bool) (name bytes : List ℕ) (headers : List HeaderSpan) (place : ℕ) (past : HeaderSpan) → place < length headers
    → list_any test (values_from name bytes headers place)
    ≡ (is_named name (span_bytes bytes (get_or headers place past).name) && test (span_bytes bytes (get_or headers place past).value)
    || list_any test (values_from name bytes headers (place + 1)))
any_from test name bytes headers place past inside =
    by (is_named name (span_bytes bytes (get_or headers place past).name)) refl
  where
    by : (b : Bool) → is_named name (span_bytes bytes (get_or headers place past).name) ≡ b
        → list_any test (values_from name bytes headers place)
        ≡ (b && test (span_bytes bytes (get_or headers place past).value) || list_any test (values_from name bytes headers (place + 1)))
    by true is = ap (list_any test) (values_from-named name bytes headers place past inside is)
    by false is = ap (list_any test) (values_from-other name bytes headers place past inside is)

-- A header that passes ends the search.
pub any_from-here : (test : List ℕ → Bool) (name bytes : List ℕ) (headers : List HeaderSpan) (place : ℕ) (past : HeaderSpan) → place < length headers
    → (is_named name (span_bytes bytes (get_or headers place past).name) && test (span_bytes bytes (get_or headers place past).value)) ≡ true
    → list_any test (values_from name bytes headers place) ≡ true
any_from-here test name bytes headers place past inside is =
    any_from test name bytes headers place past inside
    ∙ ap (λ (b : Bool). b || list_any test (values_from name bytes headers (place + 1))) is

-- Another is passed over.
pub any_from-next : (test : List ℕ → Bool) (name bytes : List ℕ) (headers : List HeaderSpan) (place : ℕ) (past : HeaderSpan) → place < length headers
    → (is_named name (span_bytes bytes (get_or headers place past).name) && test (span_bytes bytes (get_or headers place past).value)) ≡ false
    → list_any test (values_from name bytes headers place) ≡ list_any test (values_from name bytes headers (place + 1))
any_from-next test name bytes headers place past inside is =
    any_from test name bytes headers place past inside
    ∙ ap (λ (b : Bool). b || list_any test (values_from name bytes headers (place + 1))) is
