-- Worked rows: what framed requests ask.
use Rattle.std.proofs.Common.{◌≡◌, ℕ, List, [], ◌∷◌, None, Some, codes, refl}
use Rattle.std.specs.Char.{encode_utf8}
use Rattle.std.specs.Str.{chars, is_utf8}
use Rattle.httparse.proofs.OnLiterals.{httparse_on_literals}
use Rattle.httparse.specs.Grammar.{Field, crlf}
use Rattle.matchit.proofs.OnLiterals.{matchit_on_literals}
use Rattle.md5.specs.Md5.{block_words, rounds, compress, hash_after, digest_bytes, md5}
use Rattle.serde_json.proofs.OnLiterals.{serde_json_on_literals}
use Rattle.library_model.specs.declared.messages.Command.TheVariants.{NewAlbum, Import, Retake, Regroup, RemoveRecording, RemoveAlbum}
use Rattle.library_model.specs.declared.messages.Question.TheVariants as about
use Rattle.library_model.specs.Asked.{change, command, malformed, question, refused}
use Rattle.library_model.specs.declared.refusals.Refusal.TheVariants.{Memory}
use Rattle.library_model.specs.Replies.{refusal}
use Rattle.http_routes.specs.declared.resources.Resource.TheVariants as at
use Rattle.http_model.specs.declared.refusals.AskingRefusal.TheVariants.{NoRoute, Method, Token, Name, Body}
use Rattle.http_model.specs.Asking.{allows_of, asked_of, mark_of, name_given, token_in, wanted_at}
use Rattle.http_model.specs.Exchanges.{allows_in}
use Rattle.http_model.specs.Refusals.{asking_refusal}
use Rattle.http_model.specs.Requests.{Framed}

-- a request of that method and target, with these header lines and that body
abbrev row : List ℕ → List ℕ → List Field → List ℕ → Framed
row method target fields body =
    record {
      head = record { blank = []; method = method; target = target; minor = 1; line_end = crlf; fields = fields; last = crlf };
      body = body;
    }

-- a header line
abbrev field : List ℕ → List ℕ → Field
field name raw = record { name = name; raw = raw; end = crlf }

-- the token `t`
abbrev token : Field
token = field (codes "request-token") (codes " t")

-- ---- places 2 and 3

-- A target that finds no route is refused.
pub asked_of-no_route : asked_of (row (codes "GET") (codes "/groups") [] []) ≡ refused (asking_refusal NoRoute)
unfolding matchit_on_literals is_utf8 chars encode_utf8
asked_of-no_route = refl

-- So is a method that the route has not, in small letters too. The reply allows those that it has.
pub asked_of-method : asked_of (row (codes "get") (codes "/recordings/1") [] []) ≡ refused (asking_refusal Method)
unfolding matchit_on_literals is_utf8 chars encode_utf8
asked_of-method = refl

pub allows_of-recording : allows_of (row (codes "HEAD") (codes "/recordings/1") [] []) ≡ codes "GET" ∷ codes "DELETE" ∷ []
unfolding matchit_on_literals is_utf8 chars encode_utf8
allows_of-recording = refl

-- A reply to a method that the route has allows none.
pub allows_of-none : allows_of (row (codes "GET") (codes "/recordings/1") [] []) ≡ []
unfolding matchit_on_literals is_utf8 chars encode_utf8
allows_of-none = refl

-- Only a reply of 405 names them.
pub allows_in-each : allows_in (row (codes "HEAD") (codes "/recordings/1") [] []) (asking_refusal Method)
    ∷ allows_in (row (codes "HEAD") (codes "/recordings/1") [] []) (refusal Memory) ∷ []
    ≡ (codes "GET" ∷ codes "DELETE" ∷ []) ∷ [] ∷ []
unfolding matchit_on_literals is_utf8 chars encode_utf8
allows_in-each = refl

-- A question needs no token.
pub asked_of-question : asked_of (row (codes "GET") (codes "/albums/12") [] []) ≡ question (about.Album 12)
unfolding matchit_on_literals is_utf8 chars encode_utf8
asked_of-question = refl

-- A change does.
pub asked_of-token : asked_of (row (codes "DELETE") (codes "/albums/12") [] []) ≡ refused (asking_refusal Token)
unfolding matchit_on_literals httparse_on_literals is_utf8 chars encode_utf8
asked_of-token = refl

-- One value is a token, two are none, nor is one of another form.
pub token_in-each : token_in (codes "a-Z9" ∷ []) ∷ token_in (codes "t" ∷ codes "t" ∷ []) ∷ token_in (codes "a b" ∷ []) ∷ token_in ([] ∷ []) ∷ token_in [] ∷ []
    ≡ Some (codes "a-Z9") ∷ None ∷ None ∷ None ∷ None ∷ []
token_in-each = refl

-- ---- what is wanted

-- A recording's removal, under its token.
pub asked_of-removal : asked_of (row (codes "DELETE") (codes "/recordings/7") (token ∷ []) [])
    ≡ change (codes "t") (mark_of (codes "DELETE") (codes "/recordings/7") [] []) (command (RemoveRecording 7))
unfolding matchit_on_literals httparse_on_literals is_utf8 chars encode_utf8
asked_of-removal = refl

-- An import into an album, under a name.
pub asked_of-import : asked_of (row (codes "POST") (codes "/albums/3/recordings") (token ∷ field (codes "Recording-Name") (codes "A") ∷ []) (1 ∷ []))
    ≡ change (codes "t") (mark_of (codes "POST") (codes "/albums/3/recordings") (codes "A") (1 ∷ [])) (command (Import (Some 3) (codes "A") (1 ∷ [])))
unfolding matchit_on_literals httparse_on_literals is_utf8 chars encode_utf8
asked_of-import = refl

-- A body that chooses no album, under its token.
pub asked_of-body : asked_of (row (codes "PUT") (codes "/recordings/7/album") (token ∷ []) (codes "{}"))
    ≡ change (codes "t") (mark_of (codes "PUT") (codes "/recordings/7/album") [] (codes "{}")) (malformed (asking_refusal Body))
unfolding matchit_on_literals httparse_on_literals serde_json_on_literals is_utf8 chars encode_utf8
asked_of-body = refl

-- What bodies and names say, row by row: a new album, another file, an album that is chosen, and none.
pub wanted_at-albums : wanted_at at.Albums [] (codes "{\"name\":\"A\"}") ≡ command (NewAlbum (codes "A"))
unfolding serde_json_on_literals is_utf8 chars encode_utf8
wanted_at-albums = refl

pub wanted_at-audio : wanted_at (at.Audio 7) [] (1 ∷ []) ≡ command (Retake 7 (1 ∷ []))
wanted_at-audio = refl

pub wanted_at-regroup : wanted_at (at.RecordingAlbum 7) [] (codes "{\"album\":3}") ∷ wanted_at (at.RecordingAlbum 7) [] (codes "{\"album\":null}") ∷ []
    ≡ command (Regroup 7 (Some 3)) ∷ command (Regroup 7 None) ∷ []
unfolding serde_json_on_literals is_utf8 chars encode_utf8
wanted_at-regroup = refl

-- An album goes, whatever the body is. Two names refuse an import.
pub wanted_at-album : wanted_at (at.Album 7) [] (codes "{") ≡ command (RemoveAlbum 7)
wanted_at-album = refl

pub wanted_at-names : wanted_at at.Recordings (codes "A" ∷ codes "A" ∷ []) (1 ∷ []) ≡ malformed (asking_refusal Name)
wanted_at-names = refl

-- No name is the empty one, and two are none.
pub name_given-each : name_given [] ∷ name_given (codes "A" ∷ []) ∷ name_given (codes "A" ∷ codes "A" ∷ []) ∷ name_given ((31 ∷ []) ∷ []) ∷ []
    ≡ Some [] ∷ Some (codes "A") ∷ None ∷ None ∷ []
unfolding is_utf8 chars encode_utf8
name_given-each = refl

-- ---- marks

-- The mark of a new album with the name A: the MD5 that md5sum gives of its parts with line feeds between.
pub mark_of-new_album : mark_of (codes "POST") (codes "/albums") [] (codes "{\"name\":\"A\"}")
    ≡ 94 ∷ 249 ∷ 73 ∷ 34 ∷ 39 ∷ 72 ∷ 247 ∷ 100 ∷ 179 ∷ 90 ∷ 80 ∷ 199 ∷ 214 ∷ 205 ∷ 163 ∷ 142 ∷ []
unfolding block_words rounds compress hash_after digest_bytes md5
mark_of-new_album = refl
