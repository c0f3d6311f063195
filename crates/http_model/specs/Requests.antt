-- The requests that bytes spell, whatever they ask (RFC 9112 sections 2.2, 3, 6 and 9.6).
use Rattle.std.specs.Prelude.{◌≡◌, ◌≢◌, ◌<◌, ◌≤◌, ◌⊎◌, ◌==◌, ◌&&◌, ◌||◌, ℕ, suc, zero, Bool, true, false, List, [], ◌∷◌, ◌++◌, length, map, codes, nat_le, if◌then◌else◌, ⊤}
use Rattle.std.specs.List.{list_any}
use Rattle.std.specs.Str.{bytes_eq, all_ascii_digits}
use Rattle.std.specs.Str.Parse.{digits_value}
use Rattle.httparse.specs.Grammar.{RequestHead, ReadsRequest, print_request}
use Rattle.httparse.specs.Spans.{name_and_value}
use Rattle.library_model.specs.declared.limits.TheConstants.{MOST_BODY_BYTES}
use Rattle.library_model.specs.declared.messages.Reply.{Reply}
use Rattle.http_model.specs.declared.limits.TheConstants.{MOST_HEAD_BYTES, MOST_FIELDS, MOST_SIZE_DIGITS}
use Rattle.http_model.specs.declared.refusals.FramingRefusal.{FramingRefusal}
use Rattle.http_model.specs.declared.refusals.FramingRefusal.TheVariants.{Frame, Length, Size}
use Rattle.http_model.specs.Fields.{is_named, values_of}
use Rattle.http_model.specs.Refusals.{framing_refusal}

-- the greatest length of a head, in bytes
unfoldable pub head_limit : ℕ
head_limit = MOST_HEAD_BYTES

-- the greatest number of header lines
unfoldable pub field_limit : ℕ
field_limit = MOST_FIELDS

-- the greatest length of a body, in bytes
unfoldable pub body_limit : ℕ
body_limit = MOST_BODY_BYTES

-- A request: its head, and its body.
pub record Framed : Type 0 where
  pub head : RequestHead
  pub body : List ℕ

-- A head within the limits begins the bytes, which go on with rest.
pub record HeadAt (bytes : List ℕ) (head : RequestHead) (rest : List ℕ) : Type 0 where
  pub reads : ReadsRequest bytes head rest
  pub short : length (print_request head) ≤ head_limit
  pub few : length head.fields ≤ field_limit

-- no head within the limits begins the bytes
abbrev pub HasNoHead : List ℕ → Type 0
HasNoHead bytes = (head : RequestHead) (rest : List ℕ) → ¬ HeadAt bytes head rest

-- the values of the header lines of that name
abbrev pub header_values : List ℕ → RequestHead → List (List ℕ)
header_values name head = values_of name (map name_and_value head.fields)

-- What follows a head: a body of so many bytes, or nothing that can be framed.
pub data Extent : Type 0 where
  refused : FramingRefusal → Extent
  long : ℕ → Extent

-- one to 18 digits
abbrev pub is_size : List ℕ → Bool
is_size digits = nat_le 1 (length digits) && nat_le (length digits) MOST_SIZE_DIGITS && all_ascii_digits digits

-- a request of this method has a body, so it says how long that is
abbrev pub wants_length : List ℕ → Bool
wants_length method = bytes_eq method (codes "POST") || bytes_eq method (codes "PUT")

-- so many bytes, where they are within the limit
abbrev pub limited : ℕ → Extent
limited size = if nat_le size body_limit then long size else refused Size

-- what follows a head of that method, by the values of its Content-Length (RFC 9110 section 8.6)
abbrev pub extent_by : List ℕ → List (List ℕ) → Extent
extent_by method [] = if wants_length method then refused Length else long 0
extent_by method (digits ∷ []) = if is_size digits then limited (digits_value 10 digits) else refused Frame
extent_by method (digits ∷ other ∷ others) = refused Frame

-- What follows a head. A transfer encoding is not taken (RFC 9112 section 6.1).
abbrev pub extent : RequestHead → Extent
extent head =
    if length (header_values (codes "Transfer-Encoding") head) == 0
    then extent_by head.method (header_values (codes "Content-Length") head)
    else refused Frame

-- The bytes begin with that request, and go on with rest.
pub record Frames (bytes : List ℕ) (q : Framed) (rest : List ℕ) : Type 0 where
  pub head : HeadAt bytes q.head (q.body ++ rest)
  pub body : extent q.head ≡ long (length q.body)

-- a head begins the bytes behind which nothing can be framed, for that cause
pub record IsRefused (bytes : List ℕ) (cause : FramingRefusal) : Type 0 where
  pub head : RequestHead
  pub rest : List ℕ
  pub at : HeadAt bytes head rest
  pub refuses : extent head ≡ refused cause

-- a head begins the bytes, whose body passes their end
pub record IsCut (bytes : List ℕ) : Type 0 where
  pub head : RequestHead
  pub rest : List ℕ
  pub at : HeadAt bytes head rest
  pub size : ℕ
  pub sized : extent head ≡ long size
  pub passes : length rest < size

-- Bytes are left, and no request can be framed of them, for that cause.
abbrev pub IsUnframeable : List ℕ → FramingRefusal → Type 0
IsUnframeable bytes cause =
    ((bytes ≢ []) × HasNoHead bytes × (cause ≡ Frame)) ⊎ (IsRefused bytes cause ⊎ (IsCut bytes × (cause ≡ Frame)))

-- the request asks to close: it is of version 1.0, or a Connection header has the whole value `close` (RFC 9112 section 9.6)
abbrev pub closes : RequestHead → Bool
closes head = head.minor == 0 || list_any (is_named (codes "close")) (header_values (codes "Connection") head)

-- How the requests of bytes end: no byte is left or a request closed, no request can be framed of what is left, which gets
-- that reply, or as many as are answered were there and bytes are left.
pub data End : Type 0 where
  ended : End
  unframeable : Reply → End
  turns : End

-- what is left where no further request is answered
abbrev pub LeavesAt : List ℕ → End → Type 0
LeavesAt bytes end = ((bytes ≡ []) × (end ≡ ended)) ⊎ ((bytes ≢ []) × (end ≡ turns))

-- what is left begins with no request
abbrev pub StopsAt : List ℕ → End → Type 0
StopsAt bytes end =
    ((bytes ≡ []) × (end ≡ ended))
    ⊎ ((cause : FramingRefusal) × IsUnframeable bytes cause × (end ≡ unframeable (framing_refusal cause)))

-- The requests of the bytes, of which so many are answered at most, are these, and end so.
abbrev pub RequestsOf : ℕ → List ℕ → List Framed → End → Type 0
RequestsOf zero bytes requests end = (requests ≡ []) × LeavesAt bytes end
RequestsOf (suc n) bytes [] end = StopsAt bytes end
RequestsOf (suc n) bytes (q ∷ requests) end =
    (rest : List ℕ) × Frames bytes q rest
    × (((closes q.head ≡ true) × (requests ≡ []) × (end ≡ ended))
    ⊎ ((closes q.head ≡ false) × RequestsOf n rest requests end))

-- They are, and no other requests are, nor do they end otherwise.
pub record AreRequests (n : ℕ) (bytes : List ℕ) (requests : List Framed) (end : End) : Type 0 where
  pub are : RequestsOf n bytes requests end
  pub only : (others : List Framed) (other : End) → RequestsOf n bytes others other → (others ≡ requests) × (other ≡ end)

-- The bytes begin with these requests, of which so many are answered at most. Behind one that closes there is none.
abbrev pub IsFront : ℕ → List ℕ → List Framed → Type 0
IsFront n bytes [] = ⊤
IsFront zero bytes (q ∷ requests) = ⊥
IsFront (suc n) bytes (q ∷ requests) =
    (rest : List ℕ) × Frames bytes q rest
    × (((closes q.head ≡ true) × (requests ≡ []))
    ⊎ ((closes q.head ≡ false) × IsFront n rest requests))

-- Of the bytes that were taken these requests were passed, and those of `left` are behind them. Of `most` requests that are
-- answered, `n` more are. So, however the bytes go on, the requests that they make are these and then those of what is left.
pub record SoFar (most n : ℕ) (taken left : List ℕ) (passed : List Framed) : Type 0 where
  pub on : (more : List ℕ) (requests : List Framed) (end : End)
      → RequestsOf n (left ++ more) requests end → RequestsOf most (taken ++ more) (passed ++ requests) end
  pub front : (more : List ℕ) (requests : List Framed)
      → IsFront n (left ++ more) requests → IsFront most (taken ++ more) (passed ++ requests)
