-- What serde_json's reader and std's test of UTF-8 answer is what the definitions say.
use Rattle.std.proofs.Common.{◌≡◌, ◌==◌, ◌∙◌, ℕ, suc, Bool, true, false, None, Some, Result, Ok, Err, List, [], ◌∷◌, length, if◌then◌else◌, option_and_then, refl, ap, sym, arith}
use Rattle.std.specs.Prelude.{IsUtf8, MatchResult, String, is_ok}
use Rattle.std.specs.Str.{is_utf8}
use Rattle.std.specs.declared.alloc.Global.{Global}
use Rattle.std.proofs.lemmas.Bool.Decides.{nat_tests}
use Rattle.std.proofs.lemmas.Str.{IsUtf8-from_is_utf8, is_utf8-from_IsUtf8}
use Rattle.serde_json.specs.Data.{Data, null, boolean, number, string, array, object}
use Rattle.serde_json.specs.Find.{as_object, get}
use Rattle.serde_json.specs.Read.{read}
use Rattle.serde_json.specs.View.{members_view}
use Rattle.serde_json.specs.declared.value.Value.{Value}
use Rattle.library_model.specs.Named.{data_in, has_one_key, only}

-- ---- UTF-8

by_test-false : (bytes : List ℕ) (test : Bool) → is_utf8 bytes ≡ test → ¬ (IsUtf8 bytes) → test ≡ false
by_test-false bytes true is other = absurd (other (IsUtf8-from_is_utf8 bytes is))
by_test-false bytes false is other = refl

-- Bytes that are no text fail the test.
is_utf8-false : (bytes : List ℕ) → ¬ (IsUtf8 bytes) → is_utf8 bytes ≡ false
is_utf8-false bytes other = by_test-false bytes (is_utf8 bytes) refl other

-- Whether bytes are taken as a text is the test of them.
pub taken_as_text : {A E : Type 0} (P : A → Type 0) (Q : E → Type 0) (bytes : List ℕ) (r : Result A E)
    → MatchResult r (λ text. P text × IsUtf8 bytes) (λ e. ¬ (IsUtf8 bytes) × Q e) → is_ok r ≡ is_utf8 bytes
taken_as_text P Q bytes (Ok text) taken = sym (is_utf8-from_IsUtf8 bytes taken.1)
taken_as_text P Q bytes (Err e) refused = sym (is_utf8-false bytes refused.0)

-- ---- data

-- Bytes of UTF-8 have the data that is read of them.
pub data_in-read : (body : List ℕ) (found : Data) → IsUtf8 body → read body ≡ Some found → data_in body ≡ Some found
data_in-read body found text reads = rw (is_utf8-from_IsUtf8 body text) reads

data_by_test : (body : List ℕ) (test : Bool) → is_utf8 body ≡ test → (IsUtf8 body → read body ≡ None)
    → (if test then read body else None) ≡ None
data_by_test body true is refused = refused (IsUtf8-from_is_utf8 body is)
data_by_test body false is refused = refl

-- Bytes of which nothing is read, if they are UTF-8, have no data.
pub data_in-refused : (body : List ℕ) → (IsUtf8 body → read body ≡ None) → data_in body ≡ None
data_in-refused body refused = data_by_test body (is_utf8 body) refl refused

-- ---- objects of one key

not_one : (n : ℕ) → false ≡ (suc (suc n) == 1)
not_one n = grind (arith, nat_tests)

-- An object has one key where its map has one entry.
has_one_key-length : (entries : List (String Global × Value)) → has_one_key (object (members_view entries)) ≡ (length entries == 1)
has_one_key-length [] = refl
has_one_key-length (e ∷ []) = refl
has_one_key-length (e ∷ f ∷ entries) = not_one (length entries)

-- The value of the only key, by what the data is as an object.
only-as_object : (key : List ℕ) (found : Data)
    → only key found ≡ option_and_then (λ members. if has_one_key (object members) then get key found else None) (as_object found)
only-as_object key null = refl
only-as_object key (boolean b) = refl
only-as_object key (number n) = refl
only-as_object key (string s) = refl
only-as_object key (array ds) = refl
only-as_object key (object ms) = refl

-- So of an object with those entries.
pub only-entries : (key : List ℕ) (found : Data) (entries : List (String Global × Value)) (one : Bool)
    → Some (members_view entries) ≡ as_object found → (length entries == 1) ≡ one
    → only key found ≡ (if one then get key found else None)
only-entries key found entries one is counted =
    only-as_object key found
    ∙ ap (option_and_then (λ members. if has_one_key (object members) then get key found else None)) (sym is)
    ∙ ap (λ (b : Bool). if b then get key found else None) (has_one_key-length entries ∙ counted)
