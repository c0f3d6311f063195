-- The places of fields, from the widths that the standards give, and the numbers in them.
use Rattle.std.proofs.Common.{◌≡◌, ◌+◌, [], ◌∷◌, ◌++◌, refl}
use Rattle.lib_base.specs.declared.limits.TheConstants.{SAMPLE_RATE}
use Rattle.file_model.specs.declared.wave_fields.TheConstants.{SIZE_AT, FORM_AT, CHUNKS_AT, LENGTH_AT, CHUNK_HEAD_BYTES, FORMAT_BYTES, EXTENSIBLE_BYTES, CHANNELS_AT, RATE_AT, ALIGN_AT, DEPTH_AT, SUBFORMAT_AT, EXTENSIBLE_TAG, PCM_SUBFORMAT, BEXT_BYTES}
use Rattle.file_model.specs.Chunks.{two_bytes, four_bytes}

-- `RIFF`, a size and `WAVE`, four bytes each, stand before the chunks
pub of_riff : (SIZE_AT ≡ 4) × (FORM_AT ≡ 4 + 4) × (CHUNKS_AT ≡ 4 + 4 + 4)
of_riff = (refl, refl, refl)

-- a chunk begins with a name and a length, four bytes each
pub of_chunk : (LENGTH_AT ≡ 4) × (CHUNK_HEAD_BYTES ≡ 4 + 4)
of_chunk = (refl, refl)

-- tag 2, channels 2, rate 4, byte rate 4, bytes of a frame 2, bits of a sample 2
pub of_format : (CHANNELS_AT ≡ 2) × (RATE_AT ≡ 2 + 2) × (ALIGN_AT ≡ 2 + 2 + 4 + 4) × (DEPTH_AT ≡ 2 + 2 + 4 + 4 + 2) × (FORMAT_BYTES ≡ 2 + 2 + 4 + 4 + 2 + 2)
of_format = (refl, refl, refl, refl, refl)

-- then extension size 2, valid bits 2, channel mask 4, subformat 16
pub of_extensible : (SUBFORMAT_AT ≡ FORMAT_BYTES + 2 + 2 + 4) × (EXTENSIBLE_BYTES ≡ FORMAT_BYTES + 2 + 2 + 4 + 16)
of_extensible = (refl, refl)

-- KSDATAFORMAT_SUBTYPE_PCM is 00000001-0000-0010-8000-00AA00389B71
pub of_subformat : PCM_SUBFORMAT ≡ four_bytes 1 ++ (two_bytes 0 ++ (two_bytes 16 ++ (128 ∷ 0 ∷ 0 ∷ 170 ∷ 0 ∷ 56 ∷ 155 ∷ 113 ∷ [])))
of_subformat = refl

-- the bytes of the extensible tag, and of the rate
pub of_numbers : (two_bytes EXTENSIBLE_TAG ≡ 254 ∷ 255 ∷ []) × (four_bytes SAMPLE_RATE ≡ 128 ∷ 187 ∷ 0 ∷ 0 ∷ [])
of_numbers = (refl, refl)

-- description 256, originator 32, its reference 32, date 10, time 8, time reference 8, version 2, UMID 64, five levels 2 each, reserved 180
pub of_bext : BEXT_BYTES ≡ 256 + 32 + 32 + 10 + 8 + 8 + 2 + 64 + 2 + 2 + 2 + 2 + 2 + 180
of_bext = refl
