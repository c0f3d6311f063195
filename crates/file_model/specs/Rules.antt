-- The rules of a wave file: of each its number, its fact, and the place where the fact is seen.
use Rattle.std.specs.Prelude.{◌≡◌, ◌≢◌, ◌⊎◌, ◌+◌, ◌-◌, ◌%◌, ◌<◌, ℕ, List, [], ◌∷◌, length, drop, codes, Some}
use Rattle.lib_base.specs.Sounds.{part}
use Rattle.lib_base.specs.declared.outcomes.Rule.{Rule}
use Rattle.lib_base.specs.declared.outcomes.Rule.TheVariants.{V}
use Rattle.file_model.specs.declared.wave_rules.WaveRule.{WaveRule}
use Rattle.file_model.specs.declared.wave_rules.WaveRule.TheVariants.{NoRiff, OtherForm, OtherSize, CutChunk, RepeatedChunk, NoFormat, ShortFormat, OtherFormat, OtherChannels, OtherRate, OtherDepth, OtherAlign, NoData, PartFrame, ShortBext}
use Rattle.file_model.specs.declared.wave_fields.TheConstants.{SIZE_AT, FORM_AT, CHUNKS_AT, CHUNK_HEAD_BYTES, TAG_AT, CHANNELS_AT, RATE_AT, ALIGN_AT, DEPTH_AT, BEXT_BYTES}
use Rattle.file_model.specs.Chunks.{Chunk, Placed, Begins, IsCut, named, first_repeat, number_at}
use Rattle.file_model.specs.Format.{IsShortFormat, IsOtherFormat, HasOtherChannels, HasOtherRate, HasOtherDepth, HasOtherAlign, align_of}
use Rattle.file_model.specs.Wave.{IsNear}

-- the number of a rule
abbrev pub number_of : WaveRule → ℕ
number_of NoRiff = 1
number_of OtherForm = 2
number_of OtherSize = 3
number_of CutChunk = 4
number_of RepeatedChunk = 5
number_of NoFormat = 6
number_of ShortFormat = 7
number_of OtherFormat = 8
number_of OtherChannels = 9
number_of OtherRate = 10
number_of OtherDepth = 11
number_of OtherAlign = 12
number_of NoData = 13
number_of PartFrame = 14
number_of ShortBext = 15

-- the rule by family and number
abbrev pub rule_of : WaveRule → Rule
rule_of rule = V (number_of rule)

-- no room for a chunk, or others than `RIFF` at the start
abbrev pub IsNoRiff : List ℕ → ℕ → Type 0
IsNoRiff bytes place = ((length bytes < CHUNKS_AT) ⊎ (part bytes 0 4 ≢ codes "RIFF")) × (place ≡ 0)

-- others than `WAVE` where the form stands
abbrev pub IsOtherForm : List ℕ → ℕ → Type 0
IsOtherForm bytes place = (part bytes FORM_AT 4 ≢ codes "WAVE") × (place ≡ FORM_AT)

-- the size field is more than 1 off
abbrev pub HasOtherSize : List ℕ → ℕ → Type 0
HasOtherSize bytes place = (¬ IsNear (number_at bytes SIZE_AT) (length bytes)) × (place ≡ SIZE_AT)

-- behind whole chunks comes, at this place, a chunk that passes the end
abbrev pub IsCutAt : List ℕ → ℕ → Type 0
IsCutAt bytes place =
    (before : List Chunk) × (rest : List ℕ) × Begins (drop CHUNKS_AT bytes) before rest × (0 < length rest) × IsCut rest
    × (place ≡ length bytes - length rest)

-- no chunk of this name; seen at the file's end
abbrev pub Lacks : List ℕ → List Chunk → ℕ → ℕ → Type 0
Lacks name chunks end place = (named name chunks ≡ []) × (place ≡ end)

-- the one `fmt ` chunk is wrong in this way, so many bytes after the start of its content
abbrev pub FormatIs : (List ℕ → Type 0) → ℕ → List Chunk → ℕ → Type 0
FormatIs Wrong offset chunks place =
    (format : Placed) × (named (codes "fmt ") chunks ≡ format ∷ []) × Wrong format.content × (place ≡ format.head + CHUNK_HEAD_BYTES + offset)

-- the one `data` chunk, at this place, holds no whole number of frames
abbrev pub HasPartFrame : List Chunk → ℕ → Type 0
HasPartFrame chunks place =
    (format : Placed) × (samples : Placed) × (named (codes "fmt ") chunks ≡ format ∷ []) × (named (codes "data") chunks ≡ samples ∷ [])
    × (length samples.content % align_of format.content ≢ 0) × (place ≡ samples.head)

-- the one `bext` chunk, at this place, is too short
abbrev pub HasShortBext : List Chunk → ℕ → Type 0
HasShortBext chunks place =
    (bext : Placed) × (named (codes "bext") chunks ≡ bext ∷ []) × (length bext.content < BEXT_BYTES) × (place ≡ bext.head)

-- from the first head to the end are whole chunks, of which this holds
abbrev pub OfChunks : List ℕ → (List Chunk → Type 0) → Type 0
OfChunks bytes Fact = (chunks : List Chunk) × Begins (drop CHUNKS_AT bytes) chunks [] × Fact chunks

-- the bytes break the rule at this place
abbrev pub Breaks : List ℕ → WaveRule → ℕ → Type 0
Breaks bytes NoRiff place = IsNoRiff bytes place
Breaks bytes OtherForm place = IsOtherForm bytes place
Breaks bytes OtherSize place = HasOtherSize bytes place
Breaks bytes CutChunk place = IsCutAt bytes place
Breaks bytes RepeatedChunk place = OfChunks bytes (λ chunks. first_repeat chunks ≡ Some place)
Breaks bytes NoFormat place = OfChunks bytes (λ chunks. Lacks (codes "fmt ") chunks (length bytes) place)
Breaks bytes ShortFormat place = OfChunks bytes (λ chunks. FormatIs IsShortFormat TAG_AT chunks place)
Breaks bytes OtherFormat place = OfChunks bytes (λ chunks. FormatIs IsOtherFormat TAG_AT chunks place)
Breaks bytes OtherChannels place = OfChunks bytes (λ chunks. FormatIs HasOtherChannels CHANNELS_AT chunks place)
Breaks bytes OtherRate place = OfChunks bytes (λ chunks. FormatIs HasOtherRate RATE_AT chunks place)
Breaks bytes OtherDepth place = OfChunks bytes (λ chunks. FormatIs HasOtherDepth DEPTH_AT chunks place)
Breaks bytes OtherAlign place = OfChunks bytes (λ chunks. FormatIs HasOtherAlign ALIGN_AT chunks place)
Breaks bytes NoData place = OfChunks bytes (λ chunks. Lacks (codes "data") chunks (length bytes) place)
Breaks bytes PartFrame place = OfChunks bytes (λ chunks. HasPartFrame chunks place)
Breaks bytes ShortBext place = OfChunks bytes (λ chunks. HasShortBext chunks place)

-- no rule of a lower number is broken, at any place
abbrev pub BreaksNoneBelow : List ℕ → WaveRule → Type 0
BreaksNoneBelow bytes rule = (lower : WaveRule) (place : ℕ) → number_of lower < number_of rule → ¬ Breaks bytes lower place
