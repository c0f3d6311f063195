-- Where the parts of a head lie in the bytes that it begins.
use Rattle.std.specs.Prelude.{◌≡◌, ◌≢◌, ◌<◌, ◌≤◌, ◌==◌, ◌||◌, ℕ, List, [], ◌∷◌, ◌++◌, length, drop, map, codes}
use Rattle.std.specs.List.{list_any}
use Rattle.httparse.specs.declared.spans.HeaderSpan.{HeaderSpan}
use Rattle.httparse.specs.Grammar.{RequestHead, HasNoRequest}
use Rattle.httparse.specs.Spans.{IsRequestWithin, IsRequestOf, IsWithin, RequestOverflows, name_and_value, span_bytes}
use Rattle.http_model.specs.Fields.{is_named, values_of}
use Rattle.http_model.specs.Requests.{HeadAt, HasNoHead, head_limit}
use Rattle.http_inbox.specs.declared.heads.FieldSpan.{FieldSpan}
use Rattle.http_inbox.specs.declared.heads.FieldSpan.TheVariants.{Absent, Value, Repeated}
use Rattle.http_inbox.specs.declared.heads.Heading.{Heading}
use Rattle.http_inbox.specs.declared.heads.Look.{Look}
use Rattle.http_inbox.specs.declared.heads.Look.TheVariants.{Head, Never, Open}
use Rattle.http_inbox.specs.declared.heads.Parse.{Parse}
use Rattle.http_inbox.specs.declared.heads.Parse.TheVariants.{Complete, Partial, Invalid}

-- no value, the one value, which lies there, or two and more
abbrev pub IsFieldSpan : List ℕ → FieldSpan → List (List ℕ) → Type 0
IsFieldSpan bytes Absent values = values ≡ []
IsFieldSpan bytes (Value place) values = IsWithin (length bytes) place × (values ≡ span_bytes bytes place ∷ [])
IsFieldSpan bytes Repeated values =
    (first : List ℕ) × (second : List ℕ) × (others : List (List ℕ)) × (values ≡ first ∷ second ∷ others)

-- the heading gives the values of these header lines, of a request of that version
pub record GivesFields (bytes : List ℕ) (heading : Heading) (minor : ℕ) (fields : List (List ℕ × List ℕ)) : Type 0 where
  pub size : IsFieldSpan bytes heading.size (values_of (codes "Content-Length") fields)
  pub encoding : IsFieldSpan bytes heading.encoding (values_of (codes "Transfer-Encoding") fields)
  pub token : IsFieldSpan bytes heading.token (values_of (codes "Request-Token") fields)
  pub name : IsFieldSpan bytes heading.name (values_of (codes "Recording-Name") fields)
  pub closes : heading.closes ≡ (minor == 0 || list_any (is_named (codes "close")) (values_of (codes "Connection") fields))

-- that head begins the bytes, and the heading says where its parts lie
pub record IsHeadingOf (bytes : List ℕ) (heading : Heading) (head : RequestHead) : Type 0 where
  pub at : HeadAt bytes head (drop heading.len bytes)
  pub fits : heading.len ≤ length bytes
  pub method_in : IsWithin (length bytes) heading.method
  pub method : span_bytes bytes heading.method ≡ head.method
  pub target_in : IsWithin (length bytes) heading.target
  pub target : span_bytes bytes heading.target ≡ head.target
  pub values : GivesFields bytes heading head.minor (map name_and_value head.fields)

-- What parsing found: a head, none in these bytes, or none of so many header lines however they go on.
abbrev pub IsParsed : List ℕ → ℕ → List HeaderSpan → Parse → Type 0
IsParsed bytes room headers (Complete head) = IsRequestWithin bytes headers head × IsRequestOf bytes headers head
IsParsed bytes room headers Partial = HasNoRequest bytes
IsParsed bytes room headers Invalid = RequestOverflows room bytes

-- What is known of the head that begins the bytes: it is there, there is none however they go on, or there is none as yet.
abbrev pub Looks : List ℕ → Look → Type 0
Looks bytes (Head heading) = (head : RequestHead) × IsHeadingOf bytes heading head
Looks bytes Never = (bytes ≢ []) × ((more : List ℕ) → HasNoHead (bytes ++ more))
Looks bytes Open = HasNoHead bytes × (length bytes < head_limit)
