use Rattle.std.proofs.Common.{◌≡◌, List, ℕ, true, false, sym, subst}
use Rattle.std.specs.Str.{bytes_eq}
use Rattle.kept_replies.proofs.Finding.{found_there, not_there, past_last}
use Rattle.kept_replies.proofs.replies.find_reply.Goals as goal

pub returns-then-eq : goal.returns-then-eq
returns-then-eq c =
    let there = c.in-Some.ensures.lookup in
    let token = c.args.token.now in
    let same : bytes_eq c.in-Some.kept.now.token token ≡ true =
    subst (λ (t : List ℕ). bytes_eq t token ≡ true) c.as_str.ensures (sym c.if-eq.ensures) in
    found_there token c.args.replies.now c.place_of_token-place.result c.in-Some.kept.now c.place_of_token-place.ensures there.3.0 there.1
    same

pub returns-else-eq : goal.returns-else-eq
returns-else-eq c =
    let there = c.in-Some.ensures.lookup in
    let token = c.args.token.now in
    let differs : bytes_eq c.in-Some.kept.now.token token ≡ false =
    subst (λ (t : List ℕ). bytes_eq t token ≡ false) c.as_str.ensures (sym c.if-eq.ensures) in
    not_there token c.args.replies.now c.place_of_token-place.result c.in-Some.kept.now c.requires c.place_of_token-place.ensures there.3.0
    there.1 differs

pub returns-in-None : goal.returns-in-None
returns-in-None c =
    past_last c.args.token.now c.args.replies.now c.place_of_token-place.result c.place_of_token-place.ensures c.in-None.ensures.lookup.3
