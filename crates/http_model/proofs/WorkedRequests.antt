-- Worked rows: what follows a head, what asks to close, and the requests of whole inputs.
use Rattle.std.proofs.Common.{◌≡◌, ℕ, true, false, List, [], ◌∷◌, ◌++◌, codes, refl, inl, inr, arith}
use Rattle.std.proofs.lemmas.List.Elements.{All-from_recursion}
use Rattle.std.proofs.lemmas.List.Sums.{AllPass-from_list_all}
use Rattle.std.specs.Char.{encode_utf8}
use Rattle.httparse.proofs.OnLiterals.{httparse_on_literals}
use Rattle.httparse.specs.Grammar.{RequestHead, Field, IsField, ReadsRequest, crlf, is_token_byte, is_uri_byte, is_value_byte}
use Rattle.http_model.specs.declared.refusals.FramingRefusal.TheVariants.{Frame, Length, Size}
use Rattle.http_model.specs.Requests.{Frames, refused, long, extent, closes, ended, turns, IsFront, RequestsOf, head_limit, field_limit, body_limit}
use Rattle.http_model.specs.Fields.{is_named}

-- a head of that method and version, with these header lines
abbrev row : List ℕ → ℕ → List Field → RequestHead
row method minor fields =
    record { blank = []; method = method; target = codes "/"; minor = minor; line_end = crlf; fields = fields; last = crlf }

-- a header line
abbrev field : List ℕ → List ℕ → Field
field name raw = record { name = name; raw = raw; end = crlf }

-- a header line that gives a length
abbrev size : List ℕ → Field
size digits = field (codes "content-LENGTH") digits

-- ---- header lines

-- Names match whatever their case.
pub is_named-case : is_named (codes "Content-Length") (codes "content-LENGTH") ≡ true
is_named-case = refl

-- Another name does not match.
pub is_named-other : is_named (codes "Content-Length") (codes "Content-Type") ≡ false
is_named-other = refl

-- ---- lengths

-- A length is that of the body, for a GET too.
pub extent-five : extent (row (codes "GET") 1 (size (codes " 5") ∷ [])) ≡ long 5
unfolding httparse_on_literals body_limit
extent-five = refl

-- The greatest body.
pub extent-greatest : extent (row (codes "PUT") 1 (size (codes "268435456") ∷ [])) ≡ long 268435456
unfolding httparse_on_literals body_limit
extent-greatest = refl

-- One byte more is too much.
pub extent-past : extent (row (codes "PUT") 1 (size (codes "268435457") ∷ [])) ≡ refused Size
unfolding httparse_on_literals body_limit
extent-past = refl

-- Eighteen digits are a length.
pub extent-eighteen : extent (row (codes "GET") 1 (size (codes "000000000000000005") ∷ [])) ≡ long 5
unfolding httparse_on_literals body_limit
extent-eighteen = refl

-- Nineteen are none.
pub extent-nineteen : extent (row (codes "GET") 1 (size (codes "0000000000000000005") ∷ [])) ≡ refused Frame
unfolding httparse_on_literals body_limit
extent-nineteen = refl

-- No digit is no length.
pub extent-empty : extent (row (codes "POST") 1 (size (codes " ") ∷ [])) ≡ refused Frame
unfolding httparse_on_literals body_limit
extent-empty = refl

-- A sign makes no length.
pub extent-sign : extent (row (codes "POST") 1 (size (codes "+5") ∷ [])) ≡ refused Frame
unfolding httparse_on_literals body_limit
extent-sign = refl

-- Two lengths are none, though they agree.
pub extent-both : extent (row (codes "POST") 1 (size (codes "5") ∷ size (codes "5") ∷ [])) ≡ refused Frame
unfolding httparse_on_literals body_limit
extent-both = refl

-- A POST gives a length.
pub extent-post : extent (row (codes "POST") 1 []) ≡ refused Length
extent-post = refl

-- So does a PUT.
pub extent-put : extent (row (codes "PUT") 1 []) ≡ refused Length
extent-put = refl

-- A DELETE that gives none has no body.
pub extent-delete : extent (row (codes "DELETE") 1 []) ≡ long 0
extent-delete = refl

-- A transfer encoding is refused, also beside a length.
pub extent-encoded : extent (row (codes "POST") 1 (size (codes "5") ∷ field (codes "transfer-encoding") (codes "chunked") ∷ [])) ≡ refused Frame
unfolding httparse_on_literals
extent-encoded = refl

-- ---- closing

-- Version 1.0 closes.
pub closes-old : closes (row (codes "GET") 0 []) ≡ true
closes-old = refl

-- Version 1.1 stays.
pub closes-new : closes (row (codes "GET") 1 []) ≡ false
closes-new = refl

-- `close` closes, whatever its case, also in a second line.
pub closes-asked : closes (row (codes "GET") 1 (field (codes "Connection") (codes "te") ∷ field (codes "connection") (codes " Close ") ∷ [])) ≡ true
unfolding httparse_on_literals
closes-asked = refl

-- A list that has it does not.
pub closes-list : closes (row (codes "GET") 1 (field (codes "Connection") (codes "keep-alive, close") ∷ [])) ≡ false
unfolding httparse_on_literals
closes-list = refl

-- ---- whole inputs

-- The head of an import of three bytes.
abbrev pub row_head : RequestHead
row_head = record {
  blank = [];
  method = codes "POST";
  target = codes "/recordings";
  minor = 1;
  line_end = crlf;
  fields = record { name = codes "Content-Length"; raw = codes " 3"; end = crlf } ∷ [];
  last = crlf;
}

-- The bytes of that head, before whatever follows.
pub row_head-ReadsRequest : (rest : List ℕ) → ReadsRequest
    (codes "POST /recordings HTTP/1.1" ++ 13 ∷ 10 ∷ codes "Content-Length: 3" ++ 13 ∷ 10 ∷ 13 ∷ 10 ∷ rest)
    row_head rest
unfolding httparse_on_literals encode_utf8
row_head-ReadsRequest rest = (
  record {
    method = (omega arith, AllPass-from_list_all is_token_byte (codes "POST") refl);
    target = (omega arith, AllPass-from_list_all is_uri_byte (codes "/recordings") refl);
    target_text = (codes "/recordings", (refl, refl));
    minor = omega arith;
    fields = All-from_recursion IsField row_head.fields (
      record {
        name = (omega arith, AllPass-from_list_all is_token_byte (codes "Content-Length") refl);
        raw = AllPass-from_list_all is_value_byte (codes " 3") refl;
      },
      tt,
    );
  },
  refl,
)

-- A POST of three bytes.
abbrev pub row_bytes : List ℕ
row_bytes = codes "POST /recordings HTTP/1.1" ++ 13 ∷ 10 ∷ codes "Content-Length: 3" ++ 13 ∷ 10 ∷ 13 ∷ 10 ∷ codes "abc"

-- That request, and one byte that follows it.
pub row-Frames : Frames (row_bytes ++ codes "X") (record { head = row_head; body = codes "abc" }) (codes "X")
unfolding httparse_on_literals head_limit field_limit body_limit
row-Frames = record {
  head = record { reads = row_head-ReadsRequest (codes "abcX"); short = omega arith; few = omega arith };
  body = refl;
}

-- Where one request is answered, its bytes and one more end as a session that has answered as many as it may.
pub row-RequestsOf : RequestsOf 1 (row_bytes ++ codes "X") (record { head = row_head; body = codes "abc" } ∷ []) turns
unfolding httparse_on_literals
row-RequestsOf = (codes "X", row-Frames, inr (refl, (refl, inr (λ e. cc e, refl))))

-- Where none is answered, and no byte is there, the input ends.
pub row-RequestsOf-none : RequestsOf 0 [] [] ended
row-RequestsOf-none = (refl, inl (refl, refl))

-- That request is a front of them.
pub row-IsFront : IsFront 1 (row_bytes ++ codes "X") (record { head = row_head; body = codes "abc" } ∷ [])
unfolding httparse_on_literals
row-IsFront = (codes "X", row-Frames, inr (refl, tt))
