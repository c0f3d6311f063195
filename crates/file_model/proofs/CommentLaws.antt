-- A block of comments is broken within its content.
use Rattle.std.proofs.Common.{◌≡◌, ◌≤◌, ℕ, zero, suc, Bool, true, false, List, length, Result, Ok, Err, arith}
use Rattle.std.specs.Prelude.{◌==◌, nat_le, IfErr}
use Rattle.std.proofs.lemmas.Result.{IfErr-at_err}
use Rattle.file_model.specs.declared.comment_rules.CommentBreak.{CommentBreak}
use Rattle.file_model.specs.declared.comment_rules.CommentRule.{CommentRule}
use Rattle.file_model.specs.declared.comment_rules.CommentRule.TheVariants.{CutVendor, CutComment, BytesLeft}
use Rattle.file_model.specs.Comments.{breaks_before, count_at, text_at, entry_at, comments_at}
use Rattle.file_model.specs.Outcomes.{◌>>=◌, holds, times_at}

-- what holds of each fault of two readings holds of a fault of the one behind the other
bind_faults : {A B E : Type 0} (Fact : E → Type 0) (read : Result A E) (next : A → Result B E) → IfErr read Fact
    → ((value : A) → IfErr (next value) Fact) → IfErr (read >>= next) Fact
bind_faults Fact (Ok value) next first keeps = keeps value
bind_faults Fact (Err fault) next first keeps = first

holds_fault : {E : Type 0} (Fact : E → Type 0) (fact : Bool) (fault : E) → Fact fault → IfErr (holds fact fault) Fact
holds_fault Fact true fault so = tt
holds_fault Fact false fault so = so

times_faults : {A B E : Type 0} (Fact : E → Type 0) (read : B → Result (A × B) E) → ((rest : B) → IfErr (read rest) Fact)
    → (count : ℕ) (rest : B) → IfErr (times_at read count rest) Fact
unfolding times_at
times_faults Fact read each zero rest = tt
times_faults Fact read each (suc count) rest =
    bind_faults Fact (read rest) _ (each rest) (λ value.
    bind_faults Fact (times_at read count value.1) _ (times_faults Fact read each count value.1) (λ more. tt))

-- the place is none behind the content
abbrev IsInside : List ℕ → CommentBreak → Type 0
IsInside content found = found.place ≤ length content

count_faults : (content : List ℕ) (found : CommentBreak) (bytes : List ℕ) → IsInside content found → IfErr (count_at found bytes) (IsInside content)
unfolding count_at
count_faults content found bytes so =
    bind_faults (IsInside content) (holds (nat_le 4 (length bytes)) found) _ (holds_fault (IsInside content) _ found so) (λ _. tt)

text_faults : (content : List ℕ) (found : CommentBreak) (bytes : List ℕ) → IsInside content found → IfErr (text_at found bytes) (IsInside content)
unfolding text_at
text_faults content found bytes so =
    bind_faults (IsInside content) (count_at found bytes) _ (count_faults content found bytes so) (λ count.
    bind_faults (IsInside content) (holds (nat_le count.0 (length count.1)) found) _ (holds_fault (IsInside content) _ found so) (λ _. tt))

before_is_inside : (content : List ℕ) (rule : CommentRule) (rest : List ℕ) → IsInside content (breaks_before content rule rest)
before_is_inside content rule rest = omega arith

faults_inside : (content : List ℕ) → IfErr (comments_at content) (IsInside content)
unfolding comments_at
faults_inside content =
    let Inside = IsInside content in
    bind_faults Inside (text_at (breaks_before content CutVendor content) content) _
    (text_faults content _ content (before_is_inside content CutVendor content)) (λ vendor.
    bind_faults Inside (count_at (breaks_before content CutComment vendor.1) vendor.1) _
    (count_faults content _ vendor.1 (before_is_inside content CutComment vendor.1)) (λ count.
    bind_faults Inside (times_at (entry_at content) count.0 count.1) _
    (times_faults Inside (entry_at content) (λ rest. text_faults content _ rest (before_is_inside content CutComment rest)) count.0 count.1) (λ entries.
    bind_faults Inside (holds (length entries.1 == 0) (breaks_before content BytesLeft entries.1)) _
    (holds_fault Inside _ _ (before_is_inside content BytesLeft entries.1)) (λ _. tt))))

-- a block is broken within its content, or at its end
pub breaks_inside : (content : List ℕ) (found : CommentBreak) → comments_at content ≡ Err found → found.place ≤ length content
breaks_inside content found is = IfErr-at_err (IsInside content) is (faults_inside content)
