-- Places of a content, and what stands there.
use Rattle.std.proofs.Common.{◌≡◌, ◌≤◌, ◌<◌, ◌+◌, ◌-◌, ℕ, Bool, List, length, take, drop, length-drop, Result, Ok, Err, ap, ◌∙◌, arith}
use Rattle.std.specs.Prelude.{nat_le}
use Rattle.std.proofs.lemmas.Bool.{le-leb, lt-leb}
use Rattle.std.proofs.lemmas.List.{drop-drop}
use Rattle.file_model.specs.declared.comment_rules.CommentBreak.{CommentBreak}
use Rattle.file_model.specs.declared.comment_rules.CommentRule.{CommentRule}
use Rattle.file_model.specs.Comments.{breaks_before, count_at, text_at}
use Rattle.file_model.specs.Outcomes.{◌>>=◌, holds}
use Rattle.vorbis_comment.specs.Spans.{text_in}

-- what breaks before the bytes from a place on breaks at that place
pub breaks_here : (content : List ℕ) (rule : CommentRule) (at : ℕ) → at ≤ length content
    → record { rule = rule; place = at } ≡ breaks_before content rule (drop at content)
breaks_here content rule at inside =
    let rest = length-drop at content in
    let here : at ≡ length content - length (drop at content) = omega (arith, rest, inside) in
    ap (told rule) here
  where
    told : CommentRule → ℕ → CommentBreak
    told rule place = record { rule = rule; place = place }

-- the text of so many bytes, and what is behind it
abbrev text_of : ℕ → List ℕ → Result (List ℕ × List ℕ) CommentBreak
text_of count rest = Ok (take count rest, drop count rest)

-- what stands behind a length
abbrev counted : CommentBreak → ℕ → List ℕ → Result (List ℕ × List ℕ) CommentBreak
counted found count rest = holds (nat_le count (length rest)) found >>= λ _. text_of count rest

behind_count : (found : CommentBreak) (bytes : List ℕ) (count : ℕ) (rest : List ℕ) → count_at found bytes ≡ Ok (count, rest)
    → text_at found bytes ≡ counted found count rest
unfolding text_at
behind_count found bytes count rest is = ap (λ (r : Result (ℕ × List ℕ) CommentBreak). r >>= λ count. counted found count.0 count.1) is

-- a text that passes the end
pub text_cut : (content : List ℕ) (at count : ℕ) (found : CommentBreak) → count_at found (drop at content) ≡ Ok (count, drop 4 (drop at content))
    → length content - (at + 4) < count → text_at found (drop at content) ≡ Err found
text_cut content at count found is less =
    let rest = drop 4 (drop at content) in
    let left = length-drop at content in
    let behind = length-drop 4 (drop at content) in
    let short : length rest < count = omega (arith, left, behind, less) in
    behind_count found (drop at content) count rest is
    ∙ ap (λ (b : Bool). holds b found >>= λ _. text_of count rest) (lt-leb count (length rest) short)

-- as much of a content from a place on
text_from : (content : List ℕ) (start count : ℕ)
    → text_of count (drop start content) ≡ Ok (text_in content (record { start = start; end = start + count }), drop (start + count) content)
text_from content start count =
    let size : count ≡ start + count - start = omega arith in
    ap (λ (n : ℕ). Ok (take n (drop start content), drop count (drop start content))) size
    ∙ ap (λ (xs : List ℕ). Ok (take (start + count - start) (drop start content), xs)) (drop-drop count start content)

-- a text that does not
pub text_there : (content : List ℕ) (at count : ℕ) (found : CommentBreak) → count_at found (drop at content) ≡ Ok (count, drop 4 (drop at content))
    → count ≤ length content - (at + 4)
    → text_at found (drop at content)
    ≡ Ok (text_in content (record { start = at + 4; end = at + 4 + count }), drop (at + 4 + count) content)
text_there content at count found is enough =
    let left = length-drop at content in
    let behind = length-drop 4 (drop at content) in
    let within : count ≤ length (drop 4 (drop at content)) = omega (arith, left, behind, enough) in
    behind_count found (drop at content) count (drop 4 (drop at content)) is
    ∙ ap (λ (b : Bool). holds b found >>= λ _. text_of count (drop 4 (drop at content))) (le-leb count (length (drop 4 (drop at content))) within)
    ∙ ap (text_of count) (drop-drop 4 at content) ∙ text_from content (at + 4) count
