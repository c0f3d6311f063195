-- Kept replies found by their tokens.
use Rattle.std.proofs.Common.{◌≡◌, ◌≢◌, ◌<◌, ◌≤◌, ℕ, zero, suc, Bool, true, false, cond, true≢false, None, Some, List, [], ◌∷◌, map, length, refl, sym, ap, ◌∙◌, subst, arith, inl, inr, Ordering, Less, Equal, Greater}
use Rattle.std.proofs.Math.ListN.{get_or}
use Rattle.std.proofs.lemmas.Bool.Decides.{leb_tells, eqb_tells}
use Rattle.std.proofs.lemmas.List.Elements.{at_read}
use Rattle.std.specs.Cmp.Lexicographic.{slice_cmp, bytes_decides, texts_ties}
use Rattle.std.specs.List.{find}
use Rattle.std.specs.Option.{option_map}
use Rattle.std.specs.Ordering.{nat_cmp, is_lt, is_eq}
use Rattle.std.specs.Str.{bytes_eq}
use Rattle.keeper_store.specs.declared.row_types.ReplyRow.{ReplyRow}
use Rattle.keeper_store.specs.Puts.{Ascends}
use Rattle.keeper_store.proofs.Putting.{before_less, Ascends-at}
use Rattle.library_model.specs.Replies.{json}
use Rattle.kept_replies.specs.declared.replies.KeptReply.{KeptReply}
use Rattle.kept_replies.specs.Rows.{kept_of}
use Rattle.kept_replies.specs.Orders.{kept_less, kept_in_order}
use Rattle.kept_replies.specs.Seeing.{IsPlaceOfToken}

-- ---- in the order of tokens

-- a kept reply under this token
abbrev kept_to : List ℕ → KeptReply
kept_to token = record { token = token; mark = []; reply = json 0 [] }

-- Replies with lesser tokens stand in front.
pub lesser_in_front : (token : List ℕ) (ks : List KeptReply) → Ascends kept_less ks → (i j : ℕ) (d : KeptReply) → i ≤ j → j < length ks
    → is_lt (slice_cmp nat_cmp (get_or ks j d).token token) ≡ true → is_lt (slice_cmp nat_cmp (get_or ks i d).token token) ≡ true
lesser_in_front token ks rise i j d at_most within below =
    before_less kept_less kept_in_order (kept_to token) ks rise i j d at_most within below

-- what is less is not equal
less_differs : (o : Ordering) → is_lt o ≡ true → is_eq o ≡ false
less_differs Less is = refl
less_differs Equal is = absurd (true≢false (sym is))
less_differs Greater is = absurd (true≢false (sym is))

-- a lesser token is another one
lesser_is_other : (a b : List ℕ) → is_lt (slice_cmp nat_cmp a b) ≡ true → bytes_eq a b ≡ false
lesser_is_other a b less = texts_ties a b ∙ less_differs (slice_cmp nat_cmp a b) less

-- Texts that cannot be one are not tested as one.
pub refuted : (a b : List ℕ) → a ≢ b → bytes_eq a b ≡ false
refuted a b never = by_test (bytes_eq a b) refl
  where
    by_test : (same : Bool) → bytes_eq a b ≡ same → same ≡ false
    by_test true is = absurd (never ((bytes_decides a b).0 is))
    by_test false is = refl

-- where the reply at the place of a token has another one, each reply has
none_has : (token : List ℕ) (ks : List KeptReply) (place : ℕ) (kept : KeptReply) → Ascends kept_less ks → IsPlaceOfToken token ks place
    → place < length ks → kept ≡ get_or ks place kept → bytes_eq kept.token token ≡ false
    → (k : ℕ) (d : KeptReply) → k < length ks → bytes_eq (get_or ks k d).token token ≡ false
none_has token ks place kept rise at inside is differs k d within = elim (leb_tells place k) [
  | inr h ↦ lesser_is_other (get_or ks k d).token token (at.before k d h.1)
  | inl h ↦ elim (eqb_tells place k) [
    | inl e ↦
        subst (λ (n : ℕ). bytes_eq (get_or ks n d).token token ≡ false) e.1
        (at_read ks (λ (r : KeptReply). bytes_eq r.token token ≡ false) place kept inside is differs d)
    | inr e ↦ refuted (get_or ks k d).token token
        (λ same.
        let up : kept_less (get_or ks place d) (get_or ks k d) ≡ true =
        Ascends-at kept_less ks rise place k d (omega (arith, e.1, h.1)) within in
        let below : is_lt (slice_cmp nat_cmp (get_or ks place d).token token) ≡ true =
        subst (λ (t : List ℕ). is_lt (slice_cmp nat_cmp (get_or ks place d).token t) ≡ true) same up in
        true≢false (sym below ∙ at.behind place d (omega arith) inside))
  ]
]

-- ---- found

-- a token that no reply has is not found
none_found : (token : List ℕ) (ks : List KeptReply)
    → ((k : ℕ) (d : KeptReply) → k < length ks → bytes_eq (get_or ks k d).token token ≡ false)
    → None ≡ find (λ (k : KeptReply). bytes_eq k.token token) ks
none_found token [] none = refl
none_found token (x ∷ xs) none =
    let first : bytes_eq x.token token ≡ false = none zero x (omega arith) in
    rw first (none_found token xs (λ k d within. none (suc k) d (omega (arith, within))))

-- the first reply with a token is found
first_found : (token : List ℕ) (ks : List KeptReply) (place : ℕ) (kept : KeptReply)
    → ((k : ℕ) (d : KeptReply) → k < place → bytes_eq (get_or ks k d).token token ≡ false)
    → place < length ks → kept ≡ get_or ks place kept → bytes_eq kept.token token ≡ true
    → Some kept ≡ find (λ (k : KeptReply). bytes_eq k.token token) ks
first_found token [] place kept before inside is same = absurd (omega (arith, inside))
first_found token (x ∷ xs) zero kept before inside is same =
    let this : bytes_eq x.token token ≡ true = subst (λ (k : KeptReply). bytes_eq k.token token ≡ true) is same in
    rw this (ap Some is)
first_found token (x ∷ xs) (suc place) kept before inside is same =
    let first : bytes_eq x.token token ≡ false = before zero x (omega arith) in
    rw first
    (first_found token xs place kept (λ k d here. before (suc k) d (omega (arith, here))) (omega (arith, inside)) is same)

-- The reply at the place of a token is found, where it has it.
pub found_there : (token : List ℕ) (ks : List KeptReply) (place : ℕ) (kept : KeptReply) → IsPlaceOfToken token ks place
    → place < length ks → kept ≡ get_or ks place kept → bytes_eq kept.token token ≡ true
    → Some kept ≡ find (λ (k : KeptReply). bytes_eq k.token token) ks
found_there token ks place kept at inside is same =
    first_found token ks place kept (λ k d here. lesser_is_other (get_or ks k d).token token (at.before k d here)) inside is same

-- Where it has another one, nothing is found.
pub not_there : (token : List ℕ) (ks : List KeptReply) (place : ℕ) (kept : KeptReply) → Ascends kept_less ks → IsPlaceOfToken token ks place
    → place < length ks → kept ≡ get_or ks place kept → bytes_eq kept.token token ≡ false
    → None ≡ find (λ (k : KeptReply). bytes_eq k.token token) ks
not_there token ks place kept rise at inside is differs =
    none_found token ks (none_has token ks place kept rise at inside is differs)

-- Nor where the place is past the last.
pub past_last : (token : List ℕ) (ks : List KeptReply) (place : ℕ) → IsPlaceOfToken token ks place → length ks ≤ place
    → None ≡ find (λ (k : KeptReply). bytes_eq k.token token) ks
past_last token ks place at past =
    none_found token ks
    (λ k d within. lesser_is_other (get_or ks k d).token token (at.before k d (omega (arith, within, past))))

-- ---- among rows

-- What is found among the replies of rows is the reply of the row that is found.
pub find_kept : (token : List ℕ) (rows : List ReplyRow) → find (λ (k : KeptReply). bytes_eq k.token token) (map kept_of rows)
    ≡ option_map kept_of (find (λ (row : ReplyRow). bytes_eq row.token token) rows)
find_kept token [] = refl
find_kept token (r ∷ rows) = cases (find_kept token rows) (bytes_eq r.token token)
  where
    cases : find (λ (k : KeptReply). bytes_eq k.token token) (map kept_of rows)
        ≡ option_map kept_of (find (λ (row : ReplyRow). bytes_eq row.token token) rows) → (here : Bool)
        → cond here (Some (kept_of r)) (find (λ (k : KeptReply). bytes_eq k.token token) (map kept_of rows))
        ≡ option_map kept_of (cond here (Some r) (find (λ (row : ReplyRow). bytes_eq row.token token) rows))
    cases rest true = refl
    cases rest false = rest
