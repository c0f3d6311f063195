-- What is known of a `fmt ` content on the way through it.
use Rattle.std.specs.Prelude.{◌≡◌, ◌≤◌, ◌⊎◌, ℕ, List, [], ◌∷◌, length, drop, codes}
use Rattle.lib_base.specs.Sounds.{part}
use Rattle.lib_base.specs.declared.limits.TheConstants.{MOST_CHANNELS}
use Rattle.file_model.specs.declared.wave_fields.TheConstants.{CHUNKS_AT, FORMAT_BYTES, EXTENSIBLE_BYTES, SUBFORMAT_AT, PCM_TAG, EXTENSIBLE_TAG, PCM_SUBFORMAT}
use Rattle.file_model.specs.Format.{tag_of, IsFormat, channels_of, depth_of, align_of}
use Rattle.file_model.specs.Chunks.{Chunk, Placed, Begins, named}
use Rattle.wave_chunks.specs.declared.format.Format.{Format}

-- it is as long as the form that its tag names
pub record IsLongEnough (content : List ℕ) : Type 0 where
  pub long : FORMAT_BYTES ≤ length content
  pub extensible : tag_of content ≡ EXTENSIBLE_TAG → EXTENSIBLE_BYTES ≤ length content

-- its form is PCM
abbrev pub IsPcm : List ℕ → Type 0
IsPcm content =
    (tag_of content ≡ PCM_TAG)
    ⊎ ((tag_of content ≡ EXTENSIBLE_TAG) × (EXTENSIBLE_BYTES ≤ length content) × (part content SUBFORMAT_AT 16 ≡ PCM_SUBFORMAT))

-- the file's one `fmt ` chunk says this format
pub record SaysFormat (bytes : List ℕ) (format : Format) : Type 0 where
  pub chunks : List Chunk
  pub whole : Begins (drop CHUNKS_AT bytes) chunks []
  pub placed : Placed
  pub one : named (codes "fmt ") chunks ≡ placed ∷ []
  pub is_format : IsFormat placed.content (channels_of placed.content) (depth_of placed.content)
  pub some : 1 ≤ channels_of placed.content
  pub few : channels_of placed.content ≤ MOST_CHANNELS
  pub channels : format.channels ≡ channels_of placed.content
  pub depth : format.depth ≡ depth_of placed.content
  pub align : format.align ≡ align_of placed.content
