-- The bytes that spell replies (RFC 9112).
use Rattle.std.specs.Prelude.{ℕ, Bool, true, false, List, [], ◌∷◌, ◌++◌, ◌==◌, length, codes, decimal, if◌then◌else◌}
use Rattle.library_model.specs.declared.messages.BodyKind.{BodyKind}
use Rattle.library_model.specs.declared.messages.BodyKind.TheVariants.{Json, Csv, Wave, Flac}
use Rattle.library_model.specs.declared.messages.Reply.{Reply}
use Rattle.http_routes.specs.Routes.{allowed}

-- a line of that text
abbrev pub line : List ℕ → List ℕ
line text = text ++ 13 ∷ 10 ∷ []

-- the reason phrase of a status, empty for those that no reply has (RFC 9110 section 15)
abbrev pub reason : ℕ → List ℕ
reason status =
    if status == 200 then codes "OK"
    else if status == 201 then codes "Created"
    else if status == 400 then codes "Bad Request"
    else if status == 404 then codes "Not Found"
    else if status == 405 then codes "Method Not Allowed"
    else if status == 409 then codes "Conflict"
    else if status == 411 then codes "Length Required"
    else if status == 413 then codes "Content Too Large"
    else if status == 422 then codes "Unprocessable Content"
    else if status == 500 then codes "Internal Server Error"
    else if status == 502 then codes "Bad Gateway"
    else if status == 503 then codes "Service Unavailable"
    else if status == 504 then codes "Gateway Timeout"
    else []

-- the media type of a body
abbrev pub media_type : BodyKind → List ℕ
media_type Json = codes "application/json"
media_type Csv = codes "text/csv"
media_type Wave = codes "audio/wav"
media_type Flac = codes "audio/flac"

-- says that the connection closes after this reply, where it does
abbrev pub closing : Bool → List ℕ
closing true = line (codes "Connection: close")
closing false = []

-- says which methods the target has, where that is asked (RFC 9110 section 10.2.1)
abbrev pub allowing : List (List ℕ) → List ℕ
allowing [] = []
allowing (method ∷ methods) = line (codes "Allow: " ++ allowed (method ∷ methods))

-- the lines of a reply up to its body, after which the connection closes or not; one says which methods there are, where any are named
abbrev pub spelled_head : Bool → List (List ℕ) → Reply → List ℕ
spelled_head closes methods reply =
    line (codes "HTTP/1.1 " ++ decimal reply.status ++ codes " " ++ reason reply.status)
    ++ line (codes "Content-Type: " ++ media_type reply.kind)
    ++ allowing methods
    ++ line (codes "Content-Length: " ++ decimal (length reply.body))
    ++ closing closes
    ++ line []

-- the bytes of a reply
abbrev pub spelled : Bool → List (List ℕ) → Reply → List ℕ
spelled closes methods reply = spelled_head closes methods reply ++ reply.body

-- the bytes of the reply to what can't be framed, after which the connection closes
abbrev pub spelled_refusal : Reply → List ℕ
spelled_refusal reply = spelled true [] reply
