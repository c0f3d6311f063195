-- What a target names, by what std's test of UTF-8 answers.
use Rattle.std.proofs.Common.{◌≡◌, ℕ, Bool, true, false, List, None, option_map, if◌then◌else◌, refl}
use Rattle.std.specs.Prelude.{IsUtf8}
use Rattle.std.specs.Str.{is_utf8}
use Rattle.std.proofs.lemmas.Str.{IsUtf8-from_is_utf8, is_utf8-from_IsUtf8}
use Rattle.http_routes.specs.Ids.{id_asked, id_text}
use Rattle.http_routes.specs.Resources.{resource_at, resource_found}
use Rattle.http_routes.specs.Routes.{route_found}

-- A text names what its route and its id say.
pub resource_found-text : (target : List ℕ) → IsUtf8 target
    → resource_found target ≡ option_map (resource_at (id_asked (id_text target))) (route_found target)
resource_found-text target text = rw (is_utf8-from_IsUtf8 target text) refl

by_test : (target : List ℕ) (test : Bool) → is_utf8 target ≡ test → ¬ (IsUtf8 target)
    → (if test then option_map (resource_at (id_asked (id_text target))) (route_found target) else None) ≡ None
by_test target true is other = absurd (other (IsUtf8-from_is_utf8 target is))
by_test target false is other = refl

-- What is no text names nothing.
pub resource_found-other : (target : List ℕ) → ¬ (IsUtf8 target) → resource_found target ≡ None
resource_found-other target other = by_test target (is_utf8 target) refl other
