-- One more sample fed.
use Rattle.std.proofs.Common.{◌≡◌, ◌<◌, ◌+◌, ◌∙◌, ℕ, ℤ, pos, List, [], ◌∷◌, ◌++◌, map, reverse, length, get_or, take, set, append_assoc, ap, sym, subst}
use Rattle.std.proofs.lemmas.List.{reverse-append, take_more, take_more_set}
use Rattle.sound_model.specs.Weighted.{Section, shelf, high_pass, back, outputs, entering, leaving, weighted, next_output}
use Rattle.k_filter.specs.declared.sections.Recent.{Recent}
use Rattle.k_filter.specs.declared.filters.Filter.{Filter}
use Rattle.k_filter.specs.Fed.{Keeps, WasFed, entered}

-- a sample more enters as the newest
pub entered-push : (depth : ℕ) (sample : ℤ) (fed : List ℤ) → entered depth (fed ++ sample ∷ []) ≡ entering depth sample ∷ entered depth fed
entered-push depth sample fed = ap (map (entering depth)) (reverse-append fed (sample ∷ []))

pub Keeps-then : (recent new : Recent) (x : ℤ) (xs : List ℤ) → new.last ≡ x → new.before ≡ recent.last → Keeps recent xs → Keeps new (x ∷ xs)
Keeps-then recent new x xs last before keeps = record { last = last; before = before ∙ keeps.last }

-- the next output of a section, from what is kept
pub next_output-kept : (s : Section) (inputs outs : Recent) (x : ℤ) (xs us : List ℤ) → Keeps inputs xs → Keeps outs us
    → next_output s x inputs.last inputs.before outs.last outs.before ≡ next_output s x (back xs 0) (back xs 1) (back us 0) (back us 1)
next_output-kept s inputs outs x xs us kept_in kept_out =
    ap (λ (z : ℤ). next_output s x z inputs.before outs.last outs.before) kept_in.last
    ∙ ap (λ (z : ℤ). next_output s x (back xs 0) z outs.last outs.before) kept_in.before
    ∙ ap (λ (z : ℤ). next_output s x (back xs 0) (back xs 1) z outs.before) kept_out.last
    ∙ ap (λ (z : ℤ). next_output s x (back xs 0) (back xs 1) (back us 0) z) kept_out.before

-- what is kept of each list after one more sample
pub kept_after : (inputs shelved passed inputs' shelved' passed' : Recent) (depth : ℕ) (sample : ℤ) (fed : List ℤ) (x u v : ℤ)
    → x ≡ entering depth sample
    → Keeps inputs (entered depth fed) → Keeps shelved (outputs shelf (entered depth fed)) → Keeps passed (outputs high_pass (outputs shelf (entered depth fed)))
    → u ≡ next_output shelf x inputs.last inputs.before shelved.last shelved.before
    → v ≡ next_output high_pass u shelved.last shelved.before passed.last passed.before
    → inputs'.last ≡ x → inputs'.before ≡ inputs.last
    → shelved'.last ≡ u → shelved'.before ≡ shelved.last
    → passed'.last ≡ v → passed'.before ≡ passed.last
    → Keeps inputs' (entered depth (fed ++ sample ∷ []))
    × Keeps shelved' (outputs shelf (entered depth (fed ++ sample ∷ [])))
    × Keeps passed' (outputs high_pass (outputs shelf (entered depth (fed ++ sample ∷ []))))
kept_after inputs shelved passed inputs' shelved' passed' depth sample fed x u v is_x kept_in kept_shelved kept_passed is_u is_v in_last in_before s_last s_before p_last p_before =
    let xs = entered depth fed in
    let us = outputs shelf xs in
    let vs = outputs high_pass us in
    let e = entering depth sample in
    let first = next_output shelf e (back xs 0) (back xs 1) (back us 0) (back us 1) in
    let u_is : u ≡ first =
    is_u ∙ ap (λ (z : ℤ). next_output shelf z inputs.last inputs.before shelved.last shelved.before) is_x
    ∙ next_output-kept shelf inputs shelved e xs us kept_in kept_shelved in
    let v_is : v ≡ next_output high_pass first (back us 0) (back us 1) (back vs 0) (back vs 1) =
    is_v ∙ ap (λ (z : ℤ). next_output high_pass z shelved.last shelved.before passed.last passed.before) u_is
    ∙ next_output-kept high_pass shelved passed first us vs kept_shelved kept_passed in
    let P : List ℤ → Type 0 = λ es. Keeps inputs' es × Keeps shelved' (outputs shelf es) × Keeps passed' (outputs high_pass (outputs shelf es)) in
    subst P (sym (entered-push depth sample fed)) (
      Keeps-then inputs inputs' e xs (in_last ∙ is_x) in_before kept_in,
      Keeps-then shelved shelved' first us (s_last ∙ u_is) s_before kept_shelved,
      Keeps-then passed passed' _ vs (p_last ∙ v_is) p_before kept_passed,
    )

-- the weighted list of one more sample
pub weighted-push : (depth : ℕ) (fed : List ℤ) (sample last : ℤ) → last ≡ back (outputs high_pass (outputs shelf (entered depth (fed ++ sample ∷ [])))) 0
    → weighted depth (fed ++ sample ∷ []) ≡ weighted depth fed ++ leaving last ∷ []
weighted-push depth fed sample last is_last =
    let xs = entered depth fed in
    let us = outputs shelf xs in
    let vs = outputs high_pass us in
    let e = entering depth sample in
    let pushed = entered-push depth sample fed in
    let newest = ap (λ (es : List ℤ). back (outputs high_pass (outputs shelf es)) 0) pushed in
    ap (λ (es : List ℤ). reverse (map leaving (outputs high_pass (outputs shelf es)))) pushed
    ∙ reverse-append (leaving (back (outputs high_pass (outputs shelf (e ∷ xs))) 0) ∷ []) (map leaving vs)
    ∙ ap (λ (z : ℤ). reverse (map leaving vs) ++ leaving z ∷ []) (sym (is_last ∙ newest))

-- one more sample of a piece, after what was fed before it
taken_more : (fed xs : List ℤ) (i : ℕ) (x : ℤ) → i < length xs → get_or xs i (pos 0) ≡ x → fed ++ take (i + 1) xs ≡ (fed ++ take i xs) ++ x ∷ []
taken_more fed xs i x inside is_x =
    ap (λ (ys : List ℤ). fed ++ ys) (take_more xs i (pos 0) inside ∙ ap (λ (z : ℤ). take i xs ++ z ∷ []) is_x)
    ∙ sym (append_assoc fed (take i xs) (x ∷ []))

pub WasFed-more : (filter : Filter) (depth : ℕ) (fed xs : List ℤ) (i : ℕ) (x : ℤ) → i < length xs → get_or xs i (pos 0) ≡ x
    → WasFed filter depth ((fed ++ take i xs) ++ x ∷ []) → WasFed filter depth (fed ++ take (i + 1) xs)
WasFed-more filter depth fed xs i x inside is_x was =
    let P : List ℤ → Type 0 = λ ys. WasFed filter depth ys in
    subst P (sym (taken_more fed xs i x inside is_x)) was

pub weighted-more : (depth : ℕ) (fed xs out : List ℤ) (i : ℕ) (x last w : ℤ) → i < length xs → i < length out → get_or xs i (pos 0) ≡ x
    → last ≡ back (outputs high_pass (outputs shelf (entered depth ((fed ++ take i xs) ++ x ∷ [])))) 0 → w ≡ leaving last
    → weighted depth (fed ++ take i xs) ≡ weighted depth fed ++ take i out
    → weighted depth (fed ++ take (i + 1) xs) ≡ weighted depth fed ++ take (i + 1) (set out i w)
weighted-more depth fed xs out i x last w inside inside_out is_x is_last is_w so_far =
    ap (weighted depth) (taken_more fed xs i x inside is_x) ∙ weighted-push depth (fed ++ take i xs) x last is_last
    ∙ ap (λ (ws : List ℤ). ws ++ leaving last ∷ []) so_far ∙ append_assoc (weighted depth fed) (take i out) (leaving last ∷ [])
    ∙ ap (λ (z : ℤ). weighted depth fed ++ (take i out ++ z ∷ [])) (sym is_w)
    ∙ ap (λ (ws : List ℤ). weighted depth fed ++ ws) (sym (take_more_set out i w inside_out))
