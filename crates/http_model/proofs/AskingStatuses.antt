-- What is asked is refused with no status of a fault.
use Rattle.std.proofs.Common.{◌≡◌, ◌<◌, ℕ, Bool, true, false, List, Option, None, Some, arith, if◌then◌else◌}
use Rattle.std.specs.Prelude.{option_map}
use Rattle.library_model.specs.declared.messages.Command.{Command}
use Rattle.library_model.specs.declared.messages.Command.TheVariants.{Import, NewAlbum, Regroup}
use Rattle.library_model.specs.declared.messages.Question.{Question}
use Rattle.library_model.specs.Asked.{change, refused}
use Rattle.library_model.specs.Named.{album_in, name_in}
use Rattle.library_model.proofs.Statuses.{IsBelow, RefusesBelow}
use Rattle.http_routes.specs.declared.resources.Resource.{Resource}
use Rattle.http_routes.specs.declared.resources.Resource.TheVariants as at
use Rattle.http_routes.specs.Resources.{resource_found, route_of}
use Rattle.http_routes.specs.Routes.{has_method}
use Rattle.http_model.specs.declared.refusals.AskingRefusal.{AskingRefusal}
use Rattle.http_model.specs.declared.refusals.AskingRefusal.TheVariants.{NoRoute, Method, Token, Name, Body}
use Rattle.http_model.specs.Asking.{asked_at, asked_if, asked_of, asked_or_changing, change_asked, mark_asked, name_given, name_values, or_malformed, question_by, token_in, token_values, wanted_at}
use Rattle.http_model.specs.Refusals.{asking_refusal}
use Rattle.http_model.specs.Requests.{Framed}

refusal_below : (cause : AskingRefusal) → IsBelow (asking_refusal cause).status
refusal_below NoRoute = omega arith
refusal_below Method = omega arith
refusal_below Token = omega arith
refusal_below Name = omega arith
refusal_below Body = omega arith

made_below : (token mark : List ℕ) (cause : AskingRefusal) (wanted : Option Command) → RefusesBelow (change token mark (or_malformed cause wanted))
made_below token mark cause (Some wanted) = tt
made_below token mark cause None = refusal_below cause

-- What is wanted is refused with no such status.
pub wanted_at-below : (token mark : List ℕ) (resource : Resource) (names : List (List ℕ)) (body : List ℕ)
    → RefusesBelow (change token mark (wanted_at resource names body))
wanted_at-below token mark at.Albums names body = made_below token mark Body (option_map NewAlbum (name_in body))
wanted_at-below token mark at.Recordings names body =
    made_below token mark Name (option_map (λ name. Import None name body) (name_given names))
wanted_at-below token mark (at.AlbumRecordings album) names body =
    made_below token mark Name (option_map (λ name. Import (Some album) name body) (name_given names))
wanted_at-below token mark (at.Audio recording) names body = tt
wanted_at-below token mark (at.RecordingAlbum recording) names body = made_below token mark Body (option_map (Regroup recording) (album_in body))
wanted_at-below token mark (at.Recording recording) names body = tt
wanted_at-below token mark (at.Album album) names body = tt

-- Nor is what is asked.
pub asked_of-below : (q : Framed) → RefusesBelow (asked_of q)
asked_of-below q = at_found (resource_found q.head.target)
  where
    tokened : (resource : Resource) (token : Option (List ℕ)) → RefusesBelow (change_asked q resource token)
    tokened resource None = refusal_below Token
    tokened resource (Some token) = wanted_at-below token (mark_asked q) resource (name_values q.head) q.body

    asked : (resource : Resource) (about : Option Question) → RefusesBelow (asked_or_changing q resource about)
    asked resource (Some about) = tt
    asked resource None = tokened resource (token_in (token_values q.head))

    by_method : (resource : Resource) (has : Bool) → RefusesBelow (if has then asked_at q resource else refused (asking_refusal Method))
    by_method resource true = asked resource (question_by q.head.method resource)
    by_method resource false = refusal_below Method

    at_found : (resource : Option Resource) → RefusesBelow (asked_if q resource)
    at_found None = refusal_below NoRoute
    at_found (Some resource) = by_method resource (has_method q.head.method (route_of resource))
