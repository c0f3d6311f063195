-- What a framed request asks, before the library is looked at (RFC 9110).
use Rattle.std.specs.Prelude.{ℕ, List, [], ◌∷◌, ◌++◌, codes, Option, None, Some, option_map, option_and_then, unwrap_or, if◌then◌else◌}
use Rattle.std.specs.Str.{bytes_eq}
use Rattle.httparse.specs.Grammar.{RequestHead}
use Rattle.md5.specs.Md5.{md5}
use Rattle.library_model.specs.declared.messages.Command.{Command}
use Rattle.library_model.specs.declared.messages.Command.TheVariants.{NewAlbum, Import, Retake, Regroup, RemoveRecording, RemoveAlbum}
use Rattle.library_model.specs.declared.messages.Question.{Question}
use Rattle.library_model.specs.declared.messages.Question.TheVariants as about
use Rattle.library_model.specs.Asked.{Asked, Wanted, change, command, malformed, question, refused}
use Rattle.library_model.specs.Named.{name_in, album_in, if_name}
use Rattle.library_model.specs.Names.{is_token}
use Rattle.http_routes.specs.declared.resources.Resource.{Resource}
use Rattle.http_routes.specs.declared.resources.Resource.TheVariants as at
use Rattle.http_routes.specs.Resources.{resource_found, route_of}
use Rattle.http_routes.specs.Routes.{has_method, methods_of}
use Rattle.http_model.specs.declared.refusals.AskingRefusal.{AskingRefusal}
use Rattle.http_model.specs.declared.refusals.AskingRefusal.TheVariants.{NoRoute, Method, Token, Name, Body}
use Rattle.http_model.specs.Refusals.{asking_refusal}
use Rattle.http_model.specs.Requests.{Framed, header_values}

-- ---- header lines

-- the one value that there is
abbrev pub only_value : List (List ℕ) → Option (List ℕ)
only_value [] = None
only_value (value ∷ []) = Some value
only_value (value ∷ other ∷ others) = None

-- a text, where it is a token
abbrev pub if_token : List ℕ → Option (List ℕ)
if_token text = if is_token text then Some text else None

-- the token that values of `Request-Token` give: the only one, where it is a token
abbrev pub token_in : List (List ℕ) → Option (List ℕ)
token_in values = option_and_then if_token (only_value values)

-- the name that values of `Recording-Name` give a recording: the empty one, or the only one, where it is a name
abbrev pub name_given : List (List ℕ) → Option (List ℕ)
name_given [] = Some []
name_given (name ∷ []) = if_name name
name_given (name ∷ other ∷ others) = None

-- the name that goes into the mark: the only value, whatever it is, and else the empty one
abbrev pub name_marked : List (List ℕ) → List ℕ
name_marked values = unwrap_or (only_value values) []

-- the values of `Request-Token`
abbrev pub token_values : RequestHead → List (List ℕ)
token_values head = header_values (codes "Request-Token") head

-- the values of `Recording-Name`
abbrev pub name_values : RequestHead → List (List ℕ)
name_values head = header_values (codes "Recording-Name") head

-- ---- marks

-- the mark of a request, by which a repeated one is known: the MD5 of its parts with line feeds between
abbrev pub mark_of : (method target name body : List ℕ) → List ℕ
mark_of method target name body = md5 (method ++ 10 ∷ target ++ 10 ∷ name ++ 10 ∷ body)

-- the mark of a framed request
abbrev pub mark_asked : Framed → List ℕ
mark_asked q = mark_of q.head.method q.head.target (name_marked (name_values q.head)) q.body

-- ---- what is wanted

-- a command, where there is one, and else the refusal
abbrev pub or_malformed : AskingRefusal → Option Command → Wanted
or_malformed cause (Some wanted) = command wanted
or_malformed cause None = malformed (asking_refusal cause)

-- an import into that album or into none, under the name that the values give
abbrev pub import_wanted : Option ℕ → List (List ℕ) → List ℕ → Wanted
import_wanted album names body = or_malformed Name (option_map (λ name. Import album name body) (name_given names))

-- What a changing request wants at what its target names, by its values of `Recording-Name` and its body: a row for each
-- that the table of requests has.
abbrev pub wanted_at : Resource → List (List ℕ) → List ℕ → Wanted
wanted_at at.Albums names body = or_malformed Body (option_map NewAlbum (name_in body))
wanted_at at.Recordings names body = import_wanted None names body
wanted_at (at.AlbumRecordings album) names body = import_wanted (Some album) names body
wanted_at (at.Audio recording) names body = command (Retake recording body)
wanted_at (at.RecordingAlbum recording) names body = or_malformed Body (option_map (Regroup recording) (album_in body))
wanted_at (at.Recording recording) names body = command (RemoveRecording recording)
wanted_at (at.Album album) names body = command (RemoveAlbum album)

-- ---- what is asked

-- a change under the token, where there is one
abbrev pub change_asked : Framed → Resource → Option (List ℕ) → Asked
change_asked q resource (Some token) = change token (mark_asked q) (wanted_at resource (name_values q.head) q.body)
change_asked q resource None = refused (asking_refusal Token)

-- what changes is asked under the request's token
abbrev pub changing : Framed → Resource → Asked
changing q resource = change_asked q resource (token_in (token_values q.head))

-- the question about what a target names, at the two that have GET
abbrev pub question_about : Resource → Option Question
question_about (at.Recording recording) = Some (about.Recording recording)
question_about (at.Album album) = Some (about.Album album)
question_about _ = None

-- the question that a method asks about what a target names
abbrev pub question_by : List ℕ → Resource → Option Question
question_by method resource = if bytes_eq method (codes "GET") then question_about resource else None

-- that question, where one is asked, and else a change
abbrev pub asked_or_changing : Framed → Resource → Option Question → Asked
asked_or_changing q resource (Some asked) = question asked
asked_or_changing q resource None = changing q resource

-- what is asked at what the target names, which has the method
abbrev pub asked_at : Framed → Resource → Asked
asked_at q resource = asked_or_changing q resource (question_by q.head.method resource)

-- what is asked at what the target names, if it names anything
abbrev pub asked_if : Framed → Option Resource → Asked
asked_if q (Some resource) =
    if has_method q.head.method (route_of resource) then asked_at q resource else refused (asking_refusal Method)
asked_if q None = refused (asking_refusal NoRoute)

-- What a framed request asks: refused are first a target that names nothing, then a method that is none of the route's,
-- then a change without a token.
abbrev pub asked_of : Framed → Asked
asked_of q = asked_if q (resource_found q.head.target)

-- ---- the line `Allow`

-- the methods of what the target names, where the request's is none of them (RFC 9110 section 15.5.6)
abbrev pub allowed_if : List ℕ → Option Resource → List (List ℕ)
allowed_if method (Some resource) = if has_method method (route_of resource) then [] else methods_of (route_of resource)
allowed_if method None = []

-- the methods that the reply to a request allows: none but where that is 405
abbrev pub allows_of : Framed → List (List ℕ)
allows_of q = allowed_if q.head.method (resource_found q.head.target)
