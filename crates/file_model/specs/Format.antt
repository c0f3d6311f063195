-- The content of a `fmt ` chunk: PCM at 48,000 Hz, with 16 or 24 bits a sample and 1 to 6 channels.
-- After the Multimedia Programming Interface and Data Specifications 1.0, EBU Tech 3285, and WAVEFORMATEXTENSIBLE of Microsoft.
use Rattle.std.specs.Prelude.{◌≡◌, ◌≢◌, ◌⊎◌, ◌*◌, ◌/◌, ◌<◌, ◌≤◌, ℕ, List, length}
use Rattle.lib_base.specs.Sounds.{part}
use Rattle.lib_base.specs.declared.limits.TheConstants.{SAMPLE_RATE, MOST_CHANNELS}
use Rattle.file_model.specs.declared.wave_fields.TheConstants.{FORMAT_BYTES, EXTENSIBLE_BYTES, TAG_AT, CHANNELS_AT, RATE_AT, ALIGN_AT, DEPTH_AT, SUBFORMAT_AT, PCM_TAG, EXTENSIBLE_TAG, PCM_SUBFORMAT}
use Rattle.file_model.specs.Chunks.{short_at, number_at}

-- the form of the samples
abbrev pub tag_of : List ℕ → ℕ
tag_of content = short_at content TAG_AT

-- how many channels
abbrev pub channels_of : List ℕ → ℕ
channels_of content = short_at content CHANNELS_AT

-- how many frames a second
abbrev pub rate_of : List ℕ → ℕ
rate_of content = number_at content RATE_AT

-- how many bytes a frame takes
abbrev pub align_of : List ℕ → ℕ
align_of content = short_at content ALIGN_AT

-- how many bits a sample
abbrev pub depth_of : List ℕ → ℕ
depth_of content = short_at content DEPTH_AT

-- the content says so many channels, and bits a sample
pub record IsFormat (content : List ℕ) (channels depth : ℕ) : Type 0 where
  pub long : FORMAT_BYTES ≤ length content
  pub pcm : (tag_of content ≡ PCM_TAG)
      ⊎ ((tag_of content ≡ EXTENSIBLE_TAG) × (EXTENSIBLE_BYTES ≤ length content) × (part content SUBFORMAT_AT 16 ≡ PCM_SUBFORMAT))
  pub channels_field : channels_of content ≡ channels
  pub rate_field : rate_of content ≡ SAMPLE_RATE
  pub depth_field : depth_of content ≡ depth
  pub depth_known : (depth ≡ 16) ⊎ (depth ≡ 24)
  pub align_field : align_of content ≡ channels * depth / 8

-- the content ends before the form that its tag names
abbrev pub IsShortFormat : List ℕ → Type 0
IsShortFormat content = (length content < FORMAT_BYTES) ⊎ ((length content < EXTENSIBLE_BYTES) × (tag_of content ≡ EXTENSIBLE_TAG))

-- it names another form than PCM
abbrev pub IsOtherFormat : List ℕ → Type 0
IsOtherFormat content =
    ((tag_of content ≢ PCM_TAG) × (tag_of content ≢ EXTENSIBLE_TAG))
    ⊎ ((tag_of content ≡ EXTENSIBLE_TAG) × (part content SUBFORMAT_AT 16 ≢ PCM_SUBFORMAT))

-- it names no channel, or more than six
abbrev pub HasOtherChannels : List ℕ → Type 0
HasOtherChannels content = (channels_of content < 1) ⊎ (MOST_CHANNELS < channels_of content)

-- it names another rate than 48,000 Hz
abbrev pub HasOtherRate : List ℕ → Type 0
HasOtherRate content = rate_of content ≢ SAMPLE_RATE

-- it names another depth than 16 or 24 bits
abbrev pub HasOtherDepth : List ℕ → Type 0
HasOtherDepth content = (depth_of content ≢ 16) × (depth_of content ≢ 24)

-- its frames take another number of bytes than their samples
abbrev pub HasOtherAlign : List ℕ → Type 0
HasOtherAlign content = align_of content ≢ channels_of content * depth_of content / 8
