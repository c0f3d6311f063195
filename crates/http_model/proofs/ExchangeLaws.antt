-- Exchanges that grow by one at their end.
use Rattle.std.proofs.Common.{◌≡◌, ℕ, List, [], ◌∷◌, ◌++◌, refl, sym, ap, ◌∙◌, append_assoc, append-nil}
use Rattle.std.proofs.lemmas.List.{map-append}
use Rattle.library_model.specs.Exchanges as model
use Rattle.http_model.specs.Exchanges.{Exchange, answered, answered_all, asked_all, requests_of, spelled_all, spelled_of}

-- The bytes of one more reply follow those of the replies before it.
pub spelled_all-push : (exchanges : List Exchange) (e : Exchange)
    → spelled_all (exchanges ++ e ∷ []) ≡ spelled_all exchanges ++ spelled_of e
spelled_all-push [] e = append-nil (spelled_of e)
spelled_all-push (first ∷ exchanges) e =
    ap (λ (bs : List ℕ). spelled_of first ++ bs) (spelled_all-push exchanges e)
    ∙ sym (append_assoc (spelled_of first) (spelled_all exchanges) (spelled_of e))

-- One more request follows those before it.
pub requests_of-push : (exchanges : List Exchange) (e : Exchange)
    → requests_of (exchanges ++ e ∷ []) ≡ requests_of exchanges ++ e.request ∷ []
requests_of-push exchanges e = map-append (λ (x : Exchange). x.request) exchanges (e ∷ [])

-- One more that was answered follows those before it.
pub answered_all-push : (exchanges : List Exchange) (e : Exchange)
    → answered_all (exchanges ++ e ∷ []) ≡ answered_all exchanges ++ answered e ∷ []
answered_all-push exchanges e = map-append answered exchanges (e ∷ [])

-- What exchanges answered is what their requests ask.
pub answered_all-asked : (exchanges : List Exchange) → model.requests_of (answered_all exchanges) ≡ asked_all (requests_of exchanges)
answered_all-asked [] = refl
answered_all-asked (e ∷ exchanges) = ap (λ asked. (answered e).request ∷ asked) (answered_all-asked exchanges)
