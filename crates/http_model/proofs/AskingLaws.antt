-- What framed requests ask has its form, and which replies name methods.
use Rattle.std.proofs.Common.{◌≡◌, ◌≤◌, ◌==◌, ℕ, Bool, true, false, List, [], ◌∷◌, length, codes, Option, None, Some, if◌then◌else◌, refl, sym, ap, ◌∙◌, subst, arith}
use Rattle.std.specs.Prelude.{nat_le, option_map, option_and_then, ⊤}
use Rattle.std.proofs.lemmas.Bool.Decides.{nat_tests}
use Rattle.std.specs.Char.{encode_utf8}
use Rattle.std.specs.Str.{chars, is_utf8}
use Rattle.std.specs.Str.Parse.{digits_value}
use Rattle.httparse.specs.Grammar.{RequestHead}
use Rattle.serde_json.specs.Find.{as_str}
use Rattle.library_model.specs.declared.limits.TheConstants.{MOST_BODY_BYTES}
use Rattle.library_model.specs.declared.messages.Command.{Command}
use Rattle.library_model.specs.declared.messages.Command.TheVariants.{NewAlbum, Regroup}
use Rattle.library_model.specs.declared.messages.Question.{Question}
use Rattle.library_model.specs.declared.messages.Reply.{Reply}
use Rattle.library_model.specs.declared.refusals.Refusal.TheVariants.{Memory}
use Rattle.library_model.specs.Asked.{Asked, Wanted, change, question, refused}
use Rattle.library_model.specs.Named.{album_in, if_name, name_in, only, data_in}
use Rattle.library_model.specs.Names.{is_name, is_token}
use Rattle.library_model.specs.Replies.{refusal}
use Rattle.library_model.specs.Stands.{AsksWithin, IsWithinLimit, WantsWithin}
use Rattle.http_routes.specs.declared.resources.Resource.{Resource}
use Rattle.http_routes.specs.declared.resources.Resource.TheVariants as at
use Rattle.http_routes.specs.Resources.{resource_found, route_of}
use Rattle.http_routes.specs.Routes.{has_method, methods_of}
use Rattle.http_model.specs.declared.refusals.AskingRefusal.{AskingRefusal}
use Rattle.http_model.specs.declared.refusals.AskingRefusal.TheVariants.{Method, Name, Body}
use Rattle.http_model.specs.declared.refusals.FramingRefusal.TheVariants.{Frame, Length, Size}
use Rattle.http_model.specs.Asking.{allowed_if, allows_of, asked_at, asked_if, asked_of, asked_or_changing, change_asked, if_token, name_given, only_value, or_malformed, question_by, token_in, token_values, wanted_at}
use Rattle.http_model.specs.Exchanges.{allows_in}
use Rattle.http_model.specs.Refusals.{asking_refusal, asking_row}
use Rattle.http_model.specs.Requests.{Extent, Framed, Frames, extent, extent_by, header_values, is_size, limited, long, refused as unframed, wants_length, body_limit}

-- ---- the form of what is asked

some-same : (a b : List ℕ) → Some a ≡ Some b → a ≡ b
some-same a b e = cc e

-- What passes a test, where it does.
passed : (text name : List ℕ) (test : List ℕ → Bool) (b : Bool) → test text ≡ b → (if b then Some text else None) ≡ Some name
    → test name ≡ true
passed text name test true is same = ap test (sym (some-same text name same)) ∙ is
passed text name test false is same = absurd (cc same)

-- A text that is taken as a name is one.
if_name-form : (text name : List ℕ) → if_name text ≡ Some name → is_name name ≡ true
if_name-form text name same = passed text name is_name (is_name text) refl same

-- A text that is taken as a token is one.
if_token-form : (text token : List ℕ) → if_token text ≡ Some token → is_token token ≡ true
if_token-form text token same = passed text token is_token (is_token text) refl same

-- So is one that may be there.
of_some : (P : List ℕ → Type 0) (take : List ℕ → Option (List ℕ)) (text : Option (List ℕ)) (name : List ℕ)
    → ((given name : List ℕ) → take given ≡ Some name → P name) → option_and_then take text ≡ Some name → P name
of_some P take None name form same = absurd (cc same)
of_some P take (Some given) name form same = form given name same

-- The token that header lines give is one.
pub token_in-form : (values : List (List ℕ)) (token : List ℕ) → token_in values ≡ Some token → is_token token ≡ true
token_in-form values token same = of_some (λ text. is_token text ≡ true) if_token (only_value values) token if_token-form same

-- The name that a body gives is one.
pub name_in-form : (body name : List ℕ) → name_in body ≡ Some name → is_name name ≡ true
name_in-form body name same =
    of_some (λ text. is_name text ≡ true) if_name (option_and_then as_str (option_and_then (only (codes "name")) (data_in body))) name
    if_name-form same

-- The empty name is one.
empty-form : is_name [] ≡ true
unfolding is_utf8 chars encode_utf8
empty-form = refl

-- The name that header lines give is one.
pub name_given-form : (values : List (List ℕ)) (name : List ℕ) → name_given values ≡ Some name → is_name name ≡ true
name_given-form [] name same = subst (λ (text : List ℕ). is_name text ≡ true) (some-same [] name same) empty-form
name_given-form (value ∷ []) name same = if_name-form value name same
name_given-form (value ∷ other ∷ others) name same = absurd (cc same)

-- A command that is made of a name has its form where the name has.
within_made : (cause : AskingRefusal) (make : List ℕ → Command) (name : Option (List ℕ))
    → ((given : List ℕ) → name ≡ Some given → WantsWithin (or_malformed cause (Some (make given))))
    → WantsWithin (or_malformed cause (option_map make name))
within_made cause make None form = tt
within_made cause make (Some name) form = form name refl

-- A choice of an album brings nothing.
within_chosen : (recording : ℕ) (album : Option (Option ℕ)) → WantsWithin (or_malformed Body (option_map (Regroup recording) album))
within_chosen recording None = tt
within_chosen recording (Some album) = tt

-- What is wanted has its form, where the body is within the limit.
pub wanted_at-within : (resource : Resource) (names : List (List ℕ)) (body : List ℕ) → IsWithinLimit body
    → WantsWithin (wanted_at resource names body)
wanted_at-within at.Albums names body fits = within_made Body NewAlbum (name_in body) (name_in-form body)
wanted_at-within at.Recordings names body fits =
    within_made Name _ (name_given names) (λ name same. (name_given-form names name same, fits))
wanted_at-within (at.AlbumRecordings album) names body fits =
    within_made Name _ (name_given names) (λ name same. (name_given-form names name same, fits))
wanted_at-within (at.Audio recording) names body fits = fits
wanted_at-within (at.RecordingAlbum recording) names body fits = within_chosen recording (album_in body)
wanted_at-within (at.Recording recording) names body fits = tt
wanted_at-within (at.Album album) names body fits = tt

-- What a request asks has its form, where its body is within the limit.
pub asked_of-within : (q : Framed) → IsWithinLimit q.body → AsksWithin (asked_of q)
asked_of-within q fits = at_found (resource_found q.head.target)
  where
    tokened : (resource : Resource) (token : Option (List ℕ)) → ((given : List ℕ) → token ≡ Some given → is_token given ≡ true)
        → AsksWithin (change_asked q resource token)
    tokened resource None form = tt
    tokened resource (Some token) form = (form token refl, wanted_at-within resource _ q.body fits)

    asked : (resource : Resource) (about : Option Question) → AsksWithin (asked_or_changing q resource about)
    asked resource (Some about) = tt
    asked resource None = tokened resource (token_in (token_values q.head)) (token_in-form (token_values q.head))

    by_method : (resource : Resource) (has : Bool) → AsksWithin (if has then asked_at q resource else refused (asking_refusal Method))
    by_method resource true = asked resource (question_by q.head.method resource)
    by_method resource false = tt

    at_found : (resource : Option Resource) → AsksWithin (asked_if q resource)
    at_found None = tt
    at_found (Some resource) = by_method resource (has_method q.head.method (route_of resource))

-- ---- bodies

-- An extent that is within the limit, where it is a length at all.
abbrev IsExtentWithin : Extent → Type 0
IsExtentWithin (unframed cause) = ⊤
IsExtentWithin (long size) = size ≤ MOST_BODY_BYTES

limited-within : (size : ℕ) (test : Bool) → nat_le size body_limit ≡ test → IsExtentWithin (if test then long size else unframed Size)
unfolding body_limit
limited-within size true is = grind (arith, nat_tests, is)
limited-within size false is = tt

missing-within : (test : Bool) → IsExtentWithin (if test then unframed Length else long 0)
missing-within true = tt
missing-within false = omega arith

written-within : (size : ℕ) (test : Bool) → IsExtentWithin (if test then limited size else unframed Frame)
written-within size true = limited-within size (nat_le size body_limit) refl
written-within size false = tt

extent_by-within : (method : List ℕ) (values : List (List ℕ)) → IsExtentWithin (extent_by method values)
extent_by-within method [] = missing-within (wants_length method)
extent_by-within method (digits ∷ []) = written-within (digits_value 10 digits) (is_size digits)
extent_by-within method (digits ∷ other ∷ others) = tt

-- What follows a head is within the limit.
pub extent-within : (head : RequestHead) → IsExtentWithin (extent head)
extent-within head = plain (length (header_values (codes "Transfer-Encoding") head) == 0)
  where
    plain : (test : Bool)
        → IsExtentWithin (if test then extent_by head.method (header_values (codes "Content-Length") head) else unframed Frame)
    plain true = extent_by-within head.method (header_values (codes "Content-Length") head)
    plain false = tt

-- A body that is framed is within the limit.
pub Frames-within : (bytes : List ℕ) (q : Framed) (rest : List ℕ) → Frames bytes q rest → IsWithinLimit q.body
Frames-within bytes q rest x = subst IsExtentWithin x.body (extent-within q.head)

-- ---- the line `Allow`

-- What is not refused allows no methods.
abbrev AllowsNone : List (List ℕ) → Asked → Type 0
AllowsNone methods (refused reply) = ⊤
AllowsNone methods (question about) = methods ≡ []
AllowsNone methods (change token mark wanted) = methods ≡ []

asked-allows : (q : Framed) → AllowsNone (allows_of q) (asked_of q)
asked-allows q = at_found (resource_found q.head.target)
  where
    tokened : (resource : Resource) (token : Option (List ℕ)) → AllowsNone [] (change_asked q resource token)
    tokened resource None = tt
    tokened resource (Some token) = refl

    asked : (resource : Resource) (about : Option Question) → AllowsNone [] (asked_or_changing q resource about)
    asked resource (Some about) = refl
    asked resource None = tokened resource (token_in (token_values q.head))

    by_method : (resource : Resource) (has : Bool)
        → AllowsNone (if has then [] else methods_of (route_of resource)) (if has then asked_at q resource else refused (asking_refusal Method))
    by_method resource true = asked resource (question_by q.head.method resource)
    by_method resource false = tt

    at_found : (resource : Option Resource) → AllowsNone (allowed_if q.head.method resource) (asked_if q resource)
    at_found None = tt
    at_found (Some resource) = by_method resource (has_method q.head.method (route_of resource))

-- A reply names no methods where the request allows none.
allows_in-none : (q : Framed) (reply : Reply) → allows_of q ≡ [] → allows_in q reply ≡ []
allows_in-none q reply none = either (reply.status == (asking_row Method).0)
  where
    either : (test : Bool) → (if test then allows_of q else []) ≡ []
    either true = none
    either false = refl

-- A reply to a question names no methods.
pub allows_in-question : (q : Framed) (about : Question) (reply : Reply) → asked_of q ≡ question about → allows_in q reply ≡ []
allows_in-question q about reply is = allows_in-none q reply (subst (AllowsNone (allows_of q)) is (asked-allows q))

-- Nor does one to a change.
pub allows_in-change : (q : Framed) (token mark : List ℕ) (wanted : Wanted) (reply : Reply) → asked_of q ≡ change token mark wanted
    → allows_in q reply ≡ []
allows_in-change q token mark wanted reply is = allows_in-none q reply (subst (AllowsNone (allows_of q)) is (asked-allows q))

-- What is refused names the methods that the request allows.
abbrev AllowsIn : List (List ℕ) → Asked → Type 0
AllowsIn methods (refused reply) = (if reply.status == (asking_row Method).0 then methods else []) ≡ methods
AllowsIn methods (question about) = ⊤
AllowsIn methods (change token mark wanted) = ⊤

asked-allows_in : (q : Framed) → AllowsIn (allows_of q) (asked_of q)
asked-allows_in q = at_found (resource_found q.head.target)
  where
    tokened : (resource : Resource) (token : Option (List ℕ)) → AllowsIn [] (change_asked q resource token)
    tokened resource None = refl
    tokened resource (Some token) = tt

    asked : (resource : Resource) (about : Option Question) → AllowsIn [] (asked_or_changing q resource about)
    asked resource (Some about) = tt
    asked resource None = tokened resource (token_in (token_values q.head))

    by_method : (resource : Resource) (has : Bool)
        → AllowsIn (if has then [] else methods_of (route_of resource)) (if has then asked_at q resource else refused (asking_refusal Method))
    by_method resource true = asked resource (question_by q.head.method resource)
    by_method resource false = refl

    at_found : (resource : Option Resource) → AllowsIn (allowed_if q.head.method resource) (asked_if q resource)
    at_found None = refl
    at_found (Some resource) = by_method resource (has_method q.head.method (route_of resource))

-- The reply to a request that is refused names the methods that the request allows.
pub allows_in-refused : (q : Framed) (reply : Reply) → asked_of q ≡ refused reply → allows_in q reply ≡ allows_of q
allows_in-refused q reply is = subst (AllowsIn (allows_of q)) is (asked-allows_in q)

-- The reply for want of memory names none.
pub allows_in-memory : (q : Framed) → allows_in q (refusal Memory) ≡ []
allows_in-memory q = refl
