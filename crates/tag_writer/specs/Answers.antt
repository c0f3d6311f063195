-- What accepting a file answers.
use Rattle.std.specs.Prelude.{◌≡◌, ◌≤◌, ◌+◌, ◌-◌, ℕ, List, length, ⊤, Option, Some, Ok, Err}
use Rattle.lib_base.specs.Kinds.{kind_named}
use Rattle.lib_base.specs.Sounds.{part}
use Rattle.lib_base.specs.declared.files.Kind.TheVariants.{Wave as WaveKind, Flac as FlacKind}
use Rattle.lib_base.specs.declared.files.Span.{Span}
use Rattle.lib_base.specs.declared.outcomes.Refused.{Refused}
use Rattle.lib_base.specs.declared.outcomes.Refused.TheVariants.{Broken, Memory}
use Rattle.file_model.specs.declared.comment_rules.CommentBreak.{CommentBreak}
use Rattle.file_model.specs.declared.flac_fields.TheConstants.{BLOCKS_AT}
use Rattle.file_model.specs.Comments.{Comments, comment_rule_of, comments_at}
use Rattle.file_model.specs.Files.{in_file, comments_in, ReadsWithComments, Reads}
use Rattle.file_model.specs.FlacFile.{FlacBlock}
use Rattle.file_model.specs.Reading.{broken}
use Rattle.wave_chunks.specs.Answers.{IsReadOf as IsWaveRead}
use Rattle.flac_stream.specs.Shape.{Shape as FlacShape, IsReadOf}
use Rattle.tag_writer.specs.declared.files.Accepted.{Accepted}
use Rattle.tag_writer.specs.declared.files.Accepted.TheVariants.{Wave, Flac}

-- the file is what reading the bytes as FLAC gives, and its comments are right, or there are none
pub record IsFlacRead (bytes : List ℕ) (file : FlacShape) : Type 0 where
  pub read : IsReadOf bytes file
  pub comments : Option Comments
  pub right : comments_in BLOCKS_AT read.blocks ≡ Ok comments

-- the bytes name this kind of file, and reading them as such gives this
abbrev pub IsAcceptedOf : List ℕ → Accepted → Type 0
IsAcceptedOf bytes (Wave wave) = (kind_named bytes ≡ Some WaveKind) × IsWaveRead bytes wave
IsAcceptedOf bytes (Flac file) = (kind_named bytes ≡ Some FlacKind) × IsFlacRead bytes file

-- The refusal is that of these bytes: they read as broken by its rule, at its place. Want of memory says nothing of them.
abbrev pub IsRefusalOf : List ℕ → Refused → Type 0
IsRefusalOf bytes (Broken fault) = Reads bytes (broken fault.rule fault.place)
IsRefusalOf bytes Memory = ⊤

-- the same of bytes that are read as FLAC
abbrev pub IsFlacRefusalOf : List ℕ → Refused → Type 0
IsFlacRefusalOf bytes (Broken fault) = ReadsWithComments bytes (broken fault.rule fault.place)
IsFlacRefusalOf bytes Memory = ⊤

-- ---- the comments of a file

-- the comments in blocks are those of the content that lies in this span
pub record IsCommentsSpan (bytes : List ℕ) (blocks : List FlacBlock) (span : Span) : Type 0 where
  pub reads : comments_in BLOCKS_AT blocks ≡ in_file span.start (comments_at (part bytes span.start (span.end - span.start)))
  pub ordered : span.start ≤ span.end
  pub inside : span.end ≤ length bytes

-- the content is one of comments
abbrev pub AreComments : List ℕ → Type 0
AreComments content = (comments : Comments) × (comments_at content ≡ Ok comments)

-- the refusal is that of a content which begins at this place of a file
abbrev pub IsRefusalAt : List ℕ → ℕ → Refused → Type 0
IsRefusalAt content start (Broken fault) =
    (found : CommentBreak) × (comments_at content ≡ Err found)
    × (fault ≡ record { rule = comment_rule_of found.rule; place = start + found.place })
IsRefusalAt content start Memory = ⊤
