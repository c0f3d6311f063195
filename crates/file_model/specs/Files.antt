-- What any bytes read as: a wave, or a FLAC file with a right block of comments.
use Rattle.std.specs.Prelude.{◌≡◌, ◌⊎◌, ◌+◌, ◌==◌, ℕ, if◌then◌else◌, List, [], ◌∷◌, length, Option, None, Some, Result, Ok, Err}
use Rattle.lib_base.specs.Kinds.{kind_named}
use Rattle.lib_base.specs.declared.files.Kind.{Kind}
use Rattle.lib_base.specs.declared.files.Kind.TheVariants.{Wave, Flac}
use Rattle.lib_base.specs.declared.outcomes.Rule.{Rule}
use Rattle.lib_base.specs.declared.outcomes.Rule.TheVariants.{K}
use Rattle.file_model.specs.declared.comment_rules.CommentBreak.{CommentBreak}
use Rattle.file_model.specs.declared.comment_rules.KindRule.{KindRule}
use Rattle.file_model.specs.declared.comment_rules.KindRule.TheVariants.{OtherKind}
use Rattle.file_model.specs.declared.flac_fields.TheConstants.{BLOCKS_AT, BLOCK_HEAD_BYTES, COMMENTS}
use Rattle.file_model.specs.declared.flac_info.Info.{Info}
use Rattle.file_model.specs.Comments.{Comments, comment_rule_of, comments_at}
use Rattle.file_model.specs.FlacFile.{FlacBlock, IsFlacOf}
use Rattle.file_model.specs.FlacFrame.{FlacFrame}
use Rattle.file_model.specs.Pcm.{Pcm}
use Rattle.file_model.specs.Reading.{Reading, accepted, broken, ReadsAsWave, ReadsAsFlac}

-- the number of a rule over all formats
abbrev pub kind_number_of : KindRule → ℕ
kind_number_of OtherKind = 1

-- the rule by family and number
abbrev pub kind_rule_of : KindRule → Rule
kind_rule_of rule = K (kind_number_of rule)

-- comments of a file, whose content begins at this place
abbrev pub in_file : ℕ → Result Comments CommentBreak → Result (Option Comments) CommentBreak
in_file start (Ok comments) = Ok (Some comments)
in_file start (Err found) = Err (record { rule = found.rule; place = start + found.place })

-- The comments in blocks, of which the first has its head here, if there are any; or the rule that
-- they break, and its place in the file.
abbrev pub comments_in : ℕ → List FlacBlock → Result (Option Comments) CommentBreak
comments_in head [] = Ok None
comments_in head (block ∷ blocks) =
    if block.kind == COMMENTS then in_file (head + BLOCK_HEAD_BYTES) (comments_at block.content)
    else comments_in (head + BLOCK_HEAD_BYTES + length block.content) blocks

-- the bytes are a FLAC file of this sound, and its comments read so
pub record IsFlacWith (bytes : List ℕ) (sound : Pcm) (comments : Result (Option Comments) CommentBreak) : Type 0 where
  pub blocks : List FlacBlock
  pub info : Info
  pub frames : List FlacFrame
  pub reads : IsFlacOf bytes blocks info frames sound
  pub comments_are : comments_in BLOCKS_AT blocks ≡ comments

-- a FLAC file whose comments break the rule at the place
abbrev pub BreaksInComments : List ℕ → Rule → ℕ → Type 0
BreaksInComments bytes rule place =
    (sound : Pcm) × (found : CommentBreak) × IsFlacWith bytes sound (Err found) × (rule ≡ comment_rule_of found.rule) × (place ≡ found.place)

-- A FLAC file with right comments, or with none, is accepted. Anything else is broken: as a FLAC
-- file, or else by its comments.
abbrev pub ReadsWithComments : List ℕ → Reading → Type 0
ReadsWithComments bytes (accepted sound) = (comments : Option Comments) × IsFlacWith bytes sound (Ok comments)
ReadsWithComments bytes (broken rule place) = ReadsAsFlac bytes (broken rule place) ⊎ BreaksInComments bytes rule place

-- bytes of a kind read as such a file, and bytes of none are broken at their start
abbrev pub ReadsAs : Option Kind → List ℕ → Reading → Type 0
ReadsAs (Some Wave) bytes reading = ReadsAsWave bytes reading
ReadsAs (Some Flac) bytes reading = ReadsWithComments bytes reading
ReadsAs None bytes reading = reading ≡ broken (kind_rule_of OtherKind) 0

-- what the library reads: a file of the kind that the bytes name
abbrev pub Reads : List ℕ → Reading → Type 0
Reads bytes reading = ReadsAs (kind_named bytes) bytes reading
