-- A whole block, from its parts.
use Rattle.std.proofs.Common.{◌≡◌, ◌<◌, ◌+◌, ◌-◌, ℕ, Bool, List, [], ◌∷◌, ◌++◌, length, drop, map, Result, Ok, Err, refl, ap, sym, ◌∙◌, subst}
use Rattle.std.specs.Prelude.{◌==◌}
use Rattle.std.proofs.lemmas.Bool.{ne_eqb}
use Rattle.std.proofs.lemmas.List.{drop-drop, map-append}
use Rattle.lib_base.specs.declared.files.Span.{Span}
use Rattle.lib_base.specs.declared.outcomes.Refused.{Refused}
use Rattle.lib_base.specs.declared.outcomes.Refused.TheVariants.{Broken, Memory}
use Rattle.file_model.specs.declared.comment_rules.CommentBreak.{CommentBreak}
use Rattle.file_model.specs.declared.comment_rules.CommentRule.TheVariants.{BytesLeft}
use Rattle.file_model.specs.Comments.{Comments, breaks_before, entry_at, comments_at}
use Rattle.file_model.specs.Outcomes.{◌>>=◌, holds, times_at}
use Rattle.vorbis_comment.specs.Answers.{RefusesBy, Refuses, IsRefusalOf}
use Rattle.vorbis_comment.specs.Heads.{vendor_at, entries_count_at, head_at}
use Rattle.vorbis_comment.specs.Spans.{text_in}
use Rattle.vorbis_comment.proofs.Times.{with_front, times_step}

-- a rule and its place are told
pub refuses_by : {Y : Type 0} (refused : Refused) (found : CommentBreak) (read : Result Y CommentBreak) → RefusesBy refused found
    → read ≡ Err found → Refuses refused read
refuses_by refused found read is broken = subst (λ (r : Refused). Refuses r read) (sym is) (found, broken, refl)

-- a reading in two steps, and what is read of its value
in_steps : {A B C E : Type 0} (read : Result A E) (f : A → Result B E) (g : B → Result C E) (h : A → Result C E)
    → ((value : A) → (f value >>= g) ≡ h value) → ((read >>= f) >>= g) ≡ (read >>= h)
in_steps (Ok value) f g h same = same value
in_steps (Err fault) f g h same = refl

-- vendor and comments, where nothing is left over
abbrev closed : List ℕ → List ℕ → List (List ℕ) × List ℕ → Result Comments CommentBreak
closed content vendor entries =
    holds (length entries.1 == 0) (breaks_before content BytesLeft entries.1) >>= λ _. Ok (record { vendor = vendor; entries = entries.0 })

-- the comments behind a head
abbrev behind_head : List ℕ → (List ℕ × ℕ) × List ℕ → Result Comments CommentBreak
behind_head content head = times_at (entry_at content) head.0.1 head.1 >>= closed content head.0.0

by_head : (content : List ℕ) → comments_at content ≡ (head_at content >>= behind_head content)
unfolding comments_at head_at
by_head content = sym (in_steps (vendor_at content) _ _ _ (λ vendor. in_steps (entries_count_at content vendor.1) _ _ _ (λ count. refl)))

pub head_fails : (content : List ℕ) (found : CommentBreak) → head_at content ≡ Err found → comments_at content ≡ Err found
head_fails content found is = by_head content ∙ ap (λ (r : Result ((List ℕ × ℕ) × List ℕ) CommentBreak). r >>= behind_head content) is

head_there : (content vendor : List ℕ) (count : ℕ) (rest : List ℕ) → head_at content ≡ Ok ((vendor, count), rest)
    → comments_at content ≡ (times_at (entry_at content) count rest >>= closed content vendor)
head_there content vendor count rest is =
    by_head content ∙ ap (λ (r : Result ((List ℕ × ℕ) × List ℕ) CommentBreak). r >>= behind_head content) is

entries_fail : (content vendor : List ℕ) (count : ℕ) (rest : List ℕ) (found : CommentBreak) → head_at content ≡ Ok ((vendor, count), rest)
    → times_at (entry_at content) count rest ≡ Err found → comments_at content ≡ Err found
entries_fail content vendor count rest found is fails =
    head_there content vendor count rest is ∙ ap (λ (r : Result (List (List ℕ) × List ℕ) CommentBreak). r >>= closed content vendor) fails

-- the refusal of comments is that of the block
pub entries_refused : (content vendor : List ℕ) (count : ℕ) (rest : List ℕ) (refused : Refused) → head_at content ≡ Ok ((vendor, count), rest)
    → Refuses refused (times_at (entry_at content) count rest) → IsRefusalOf content refused
entries_refused content vendor count rest (Broken fault) is (found, fails, told) =
    (found, entries_fail content vendor count rest found is fails, told)
entries_refused content vendor count rest Memory is refuses = tt

entries_there : (content vendor : List ℕ) (count : ℕ) (rest : List ℕ) (entries : List (List ℕ)) (more : List ℕ)
    → head_at content ≡ Ok ((vendor, count), rest) → times_at (entry_at content) count rest ≡ Ok (entries, more)
    → comments_at content ≡ closed content vendor (entries, more)
entries_there content vendor count rest entries more is are =
    head_there content vendor count rest is ∙ ap (λ (r : Result (List (List ℕ) × List ℕ) CommentBreak). r >>= closed content vendor) are

-- one comment more
pub entries_step : (content : List ℕ) (items more : List Span) (span : Span) (index count end : ℕ) (total : Result (List (List ℕ) × List ℕ) CommentBreak)
    → more ≡ items ++ span ∷ [] → index < count → entry_at content (drop end content) ≡ Ok (text_in content span, drop span.end content)
    → with_front (map (text_in content) items) (times_at (entry_at content) (count - index) (drop end content)) ≡ total
    → with_front (map (text_in content) more) (times_at (entry_at content) (count - (index + 1)) (drop span.end content)) ≡ total
entries_step content items more span index count end total pushed before is goes =
    let rest = times_at (entry_at content) (count - (index + 1)) (drop span.end content) in
    ap (λ (xs : List (List ℕ)). with_front xs rest) (ap (map (text_in content)) pushed ∙ map-append (text_in content) items (span ∷ []))
    ∙ times_step (entry_at content) (map (text_in content) items) index count (text_in content span) (drop end content) (drop span.end content) total
    before is goes

-- bytes are left over
pub left_over : (content vendor : List ℕ) (count : ℕ) (rest : List ℕ) (entries : List (List ℕ)) (more : List ℕ)
    → head_at content ≡ Ok ((vendor, count), rest) → times_at (entry_at content) count rest ≡ Ok (entries, more)
    → (length more ≡ 0 → ⊥) → comments_at content ≡ Err (breaks_before content BytesLeft more)
left_over content vendor count rest entries more is are some =
    entries_there content vendor count rest entries more is are
    ∙ ap (λ (b : Bool). holds b (breaks_before content BytesLeft more) >>= λ _. Ok (record { vendor = vendor; entries = entries }))
    (ne_eqb (length more) 0 some)

-- none is
pub all_read : (content vendor : List ℕ) (count : ℕ) (rest : List ℕ) (entries : List (List ℕ)) (more : List ℕ)
    → head_at content ≡ Ok ((vendor, count), rest) → times_at (entry_at content) count rest ≡ Ok (entries, more)
    → length more ≡ 0 → comments_at content ≡ Ok (record { vendor = vendor; entries = entries })
all_read content vendor count rest entries more is are none =
    entries_there content vendor count rest entries more is are
    ∙ ap (λ (n : ℕ). holds (n == 0) (breaks_before content BytesLeft more) >>= λ _. Ok (record { vendor = vendor; entries = entries })) none

-- the vendor and the count
pub head_read : (content vendor : List ℕ) (end count : ℕ) → vendor_at content ≡ Ok (vendor, drop end content)
    → entries_count_at content (drop end content) ≡ Ok (count, drop 4 (drop end content))
    → head_at content ≡ Ok ((vendor, count), drop (end + 4) content)
unfolding head_at
head_read content vendor end count is counts =
    ap (λ (r : Result (List ℕ × List ℕ) CommentBreak). r >>= λ vendor. entries_count_at content vendor.1 >>= λ count. Ok ((vendor.0, count.0), count.1)) is
    ∙ ap (λ (r : Result (ℕ × List ℕ) CommentBreak). r >>= λ count. Ok ((vendor, count.0), count.1)) counts
    ∙ ap (λ (xs : List ℕ). Ok ((vendor, count), xs)) (drop-drop 4 end content)
