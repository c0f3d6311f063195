-- Bytes read as one thing, whatever they are.
use Rattle.std.proofs.Common.{◌≡◌, inl, inr, ℕ, List, Option, None, Some, Result, Ok, Err, ap, sym, ◌∙◌}
use Rattle.lib_base.specs.Kinds.{kind_named}
use Rattle.lib_base.specs.declared.files.Kind.{Kind}
use Rattle.lib_base.specs.declared.files.Kind.TheVariants.{Wave, Flac}
use Rattle.lib_base.specs.declared.outcomes.Rule.{Rule}
use Rattle.file_model.specs.declared.comment_rules.CommentBreak.{CommentBreak}
use Rattle.file_model.specs.declared.flac_fields.TheConstants.{BLOCKS_AT}
use Rattle.file_model.specs.Comments.{Comments, comment_rule_of}
use Rattle.file_model.specs.Files.{comments_in, IsFlacWith, BreaksInComments, ReadsWithComments, ReadsAs, Reads}
use Rattle.file_model.specs.FlacFile.{IsFlac}
use Rattle.file_model.specs.Pcm.{Pcm}
use Rattle.file_model.specs.Reading.{Reading, accepted, broken}
use Rattle.file_model.proofs.FlacLaws.{one_blocks, IsFlac_unique, IsFlac_breaks_nothing, ReadsAsFlac_unique}
use Rattle.file_model.proofs.Readings.{ReadsAsWave_unique}

is_flac : (bytes : List ℕ) (sound : Pcm) (comments : Result (Option Comments) CommentBreak) → IsFlacWith bytes sound comments → IsFlac bytes sound
is_flac bytes sound comments h = (h.blocks, h.info, h.frames, h.reads)

-- a file's comments read in one way
one_comments : (bytes : List ℕ) (sound sound' : Pcm) (comments others : Result (Option Comments) CommentBreak)
    → IsFlacWith bytes sound comments → IsFlacWith bytes sound' others → comments ≡ others
one_comments bytes sound sound' comments others h k =
    let same = one_blocks bytes h.blocks k.blocks h.info k.info h.frames k.frames sound sound' h.reads k.reads in
    sym h.comments_are ∙ ap (comments_in BLOCKS_AT) same ∙ k.comments_are

-- right comments break nothing
none_broken : (bytes : List ℕ) (sound : Pcm) (comments : Option Comments) (rule : Rule) (place : ℕ)
    → IsFlacWith bytes sound (Ok comments) → BreaksInComments bytes rule place → ⊥
none_broken bytes sound comments rule place h (sound', found, k, _, _) =
    let same = one_comments bytes sound sound' (Ok comments) (Err found) h k in cc

-- comments that are broken are so by one rule at one place
one_break : (bytes : List ℕ) (rule other : Rule) (place there : ℕ) → BreaksInComments bytes rule place → BreaksInComments bytes other there
    → broken rule place ≡ broken other there
one_break bytes rule other place there (sound, found, h, rule_is, place_is) (sound', found', k, other_is, there_is) =
    let outcomes = one_comments bytes sound sound' (Err found) (Err found') h k in
    let same : found ≡ found' = cc in
    ap (λ (r : Rule). broken r place) (rule_is ∙ ap (λ (f : CommentBreak). comment_rule_of f.rule) same ∙ sym other_is)
    ∙ ap (broken other) (place_is ∙ ap (λ (f : CommentBreak). f.place) same ∙ sym there_is)

-- a FLAC file with its comments reads as one thing
ReadsWithComments_unique : (bytes : List ℕ) (one other : Reading) → ReadsWithComments bytes one → ReadsWithComments bytes other → one ≡ other
ReadsWithComments_unique bytes (accepted one) (accepted other) h k =
    ap accepted (IsFlac_unique bytes one other (is_flac bytes one (Ok h.0) h.1) (is_flac bytes other (Ok k.0) k.1))
ReadsWithComments_unique bytes (accepted sound) (broken rule place) h (inl k) =
    absurd (IsFlac_breaks_nothing bytes sound k.0 place (is_flac bytes sound (Ok h.0) h.1) k.2)
ReadsWithComments_unique bytes (accepted sound) (broken rule place) h (inr k) = absurd (none_broken bytes sound h.0 rule place h.1 k)
ReadsWithComments_unique bytes (broken rule place) (accepted sound) (inl h) k =
    absurd (IsFlac_breaks_nothing bytes sound h.0 place (is_flac bytes sound (Ok k.0) k.1) h.2)
ReadsWithComments_unique bytes (broken rule place) (accepted sound) (inr h) k = absurd (none_broken bytes sound k.0 rule place k.1 h)
ReadsWithComments_unique bytes (broken rule place) (broken other there) (inl h) (inl k) =
    ReadsAsFlac_unique bytes (broken rule place) (broken other there) h k
ReadsWithComments_unique bytes (broken rule place) (broken other there) (inl h) (inr k) =
    absurd (IsFlac_breaks_nothing bytes k.0 h.0 place (is_flac bytes k.0 (Err k.1) k.2) h.2)
ReadsWithComments_unique bytes (broken rule place) (broken other there) (inr h) (inl k) =
    absurd (IsFlac_breaks_nothing bytes h.0 k.0 there (is_flac bytes h.0 (Err h.1) h.2) k.2)
ReadsWithComments_unique bytes (broken rule place) (broken other there) (inr h) (inr k) = one_break bytes rule other place there h k

of_kind : (kind : Option Kind) (bytes : List ℕ) (one other : Reading) → ReadsAs kind bytes one → ReadsAs kind bytes other → one ≡ other
of_kind (Some Wave) bytes one other h k = ReadsAsWave_unique bytes one other h k
of_kind (Some Flac) bytes one other h k = ReadsWithComments_unique bytes one other h k
of_kind None bytes one other h k = h ∙ sym k

-- bytes have at most one reading
pub Reads_unique : (bytes : List ℕ) (one other : Reading) → Reads bytes one → Reads bytes other → one ≡ other
Reads_unique bytes one other h k = of_kind (kind_named bytes) bytes one other h k
