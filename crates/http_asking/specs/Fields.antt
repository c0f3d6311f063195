-- What header lines of a name give.
use Rattle.std.specs.Prelude.{◌≡◌, ℕ, List, [], ◌∷◌}
use Rattle.httparse.specs.Spans.{IsWithin}
use Rattle.http_inbox.specs.declared.heads.FieldSpan.{FieldSpan}
use Rattle.http_inbox.specs.declared.heads.FieldSpan.TheVariants as span
use Rattle.http_asking.specs.declared.fields.Field.{Field}
use Rattle.http_asking.specs.declared.fields.Field.TheVariants.{Absent, Value, Repeated}

-- no value, the one value, or two and more
abbrev pub IsField : Field → List (List ℕ) → Type 0
IsField Absent values = values ≡ []
IsField (Value value) values = values ≡ value.now ∷ []
IsField Repeated values =
    (first : List ℕ) × (second : List ℕ) × (others : List (List ℕ)) × (values ≡ first ∷ second ∷ others)

-- the value lies in the first n bytes
abbrev pub IsFieldWithin : ℕ → FieldSpan → Type 0
IsFieldWithin n span.Absent = Unit {0}
IsFieldWithin n (span.Value place) = IsWithin n place
IsFieldWithin n span.Repeated = Unit {0}
