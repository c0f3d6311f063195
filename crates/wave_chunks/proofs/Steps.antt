-- From one rule to the next.
use Rattle.std.proofs.Common.{◌≡◌, ◌≢◌, ◌≤◌, ◌<◌, ◌+◌, ◌*◌, ◌/◌, ◌⊎◌, ◌↔◌, inl, inr, ℕ, Bool, true, false, IsTrue, List, length, drop, refl, subst, ap, ◌∙◌, sym, arith}
use Rattle.std.specs.Prelude.{codes}
use Rattle.std.specs.Int.{abs_diff}
use Rattle.lib_base.specs.Sounds.{part}
use Rattle.lib_base.specs.declared.limits.TheConstants.{MOST_CHANNELS}
use Rattle.file_model.specs.declared.wave_fields.TheConstants.{SIZE_AT, FORM_AT, CHUNKS_AT}
use Rattle.file_model.specs.declared.wave_rules.WaveRule.TheVariants.{NoRiff, OtherForm, OtherSize, CutChunk}
use Rattle.file_model.specs.Chunks.{Placed, named, number_at}
use Rattle.file_model.specs.Rules.{OfChunks, FormatIs, IsNoRiff, IsOtherForm, HasOtherSize, BreaksNoneBelow}
use Rattle.file_model.specs.Wave.{IsNear}
use Rattle.file_model.proofs.Readings.{none_below_first, none_below_next}
use Rattle.file_model.proofs.Spellings.{chunks_unique}
use Rattle.file_model.proofs.Waves.{one_placed}
use Rattle.file_model.specs.Format.{IsShortFormat, IsOtherFormat, HasOtherChannels, HasOtherDepth, HasOtherAlign, channels_of, depth_of, align_of}
use Rattle.wave_chunks.specs.Answers.{IsFormatContent}
use Rattle.wave_chunks.specs.Formats.{IsLongEnough, IsPcm}

-- a wrong content breaks its rule
pub format_broken : (bytes content : List ℕ) (at : ℕ) (Wrong : List ℕ → Type 0) (offset place : ℕ) → IsFormatContent bytes content at → Wrong content
    → place ≡ at + offset → OfChunks bytes (λ chunks. FormatIs Wrong offset chunks place)
format_broken bytes content at Wrong offset place is wrong at_place =
    (is.chunks, is.whole, (is.format, is.one, subst Wrong is.content_is wrong, at_place ∙ ap (λ (n : ℕ). n + offset) is.at_is))

-- a right one does not, at any place
pub format_right : (bytes content : List ℕ) (at : ℕ) (Wrong : List ℕ → Type 0) (offset : ℕ) → IsFormatContent bytes content at → (Wrong content → ⊥)
    → (place : ℕ) → OfChunks bytes (λ chunks. FormatIs Wrong offset chunks place) → ⊥
format_right bytes content at Wrong offset is right place broken =
    let same : broken.0 ≡ is.chunks = chunks_unique broken.0 is.chunks (drop CHUNKS_AT bytes) broken.1 is.whole in
    let found = broken.2 in
    let format : found.0 ≡ is.format = one_placed _ _ _ (ap (named (codes "fmt ")) (sym same) ∙ found.1) is.one in
    right (subst Wrong (ap (λ (p : Placed). p.content) format ∙ sym is.content_is) found.2)

pub not_short : (content : List ℕ) → IsLongEnough content → IsShortFormat content → ⊥
not_short content long (inl short) = let least = long.long in omega (arith, least, short)
not_short content long (inr short) = let least = long.extensible short.1 in let most = short.0 in omega (arith, least, most)

pub not_other : (content : List ℕ) → IsPcm content → IsOtherFormat content → ⊥
not_other content (inl plain) (inl other) = other.0 plain
not_other content (inr extensible) (inl other) = other.1 extensible.0
not_other content (inl plain) (inr other) = let tag = other.0 in omega (arith, plain, tag)
not_other content (inr extensible) (inr other) = other.1 extensible.2

pub not_other_channels : (content : List ℕ) → 1 ≤ channels_of content → channels_of content ≤ MOST_CHANNELS → HasOtherChannels content → ⊥
not_other_channels content some few (inl none) = omega (arith, some, none)
not_other_channels content some few (inr many) = omega (arith, few, many)

pub not_other_depth : (content : List ℕ) → (depth_of content ≡ 16) ⊎ (depth_of content ≡ 24) → HasOtherDepth content → ⊥
not_other_depth content (inl sixteen) other = other.0 sixteen
not_other_depth content (inr more) other = other.1 more

pub other_align : (content : List ℕ) (align channels depth : ℕ) → align ≡ align_of content → channels ≡ channels_of content → depth ≡ depth_of content
    → align ≢ channels * depth / 8 → HasOtherAlign content
other_align content align channels depth is_align is_channels is_depth differs same =
    differs
    (is_align ∙ same ∙ ap (λ (n : ℕ). n * depth_of content / 8) (sym is_channels) ∙ ap (λ (n : ℕ). channels * n / 8) (sym is_depth))

-- ---- the bytes before the chunks

pub none_below_other_form : (bytes : List ℕ) → CHUNKS_AT ≤ length bytes → part bytes 0 4 ≡ codes "RIFF" → BreaksNoneBelow bytes OtherForm
none_below_other_form bytes long riff =
    none_below_next bytes NoRiff OtherForm refl (none_below_first bytes)
    (λ (place : ℕ) (broken : IsNoRiff bytes place). elim broken.0 [ inl short ↦ omega (arith, long, short) | inr other ↦ other riff ])

pub none_below_other_size : (bytes : List ℕ) → CHUNKS_AT ≤ length bytes → part bytes 0 4 ≡ codes "RIFF" → part bytes FORM_AT 4 ≡ codes "WAVE" → BreaksNoneBelow bytes OtherSize
none_below_other_size bytes long riff form =
    none_below_next bytes OtherForm OtherSize refl (none_below_other_form bytes long riff) (λ (place : ℕ) (broken : IsOtherForm bytes place). broken.0 form)

pub none_below_cut_chunk : (bytes : List ℕ) → CHUNKS_AT ≤ length bytes → part bytes 0 4 ≡ codes "RIFF" → part bytes FORM_AT 4 ≡ codes "WAVE"
    → IsNear (number_at bytes SIZE_AT) (length bytes) → BreaksNoneBelow bytes CutChunk
none_below_cut_chunk bytes long riff form near =
    none_below_next bytes OtherSize CutChunk refl (none_below_other_size bytes long riff form) (λ (place : ℕ) (broken : HasOtherSize bytes place). broken.0 near)

-- what a test of a part told
pub part_there : (bytes wanted slice : List ℕ) (at : ℕ) (answer : Bool) → slice ≡ wanted → (IsTrue answer ↔ (part bytes at (length slice) ≡ slice)) → answer ≡ true
    → part bytes at (length wanted) ≡ wanted
part_there bytes wanted slice at answer is tells holds = subst (λ (xs : List ℕ). part bytes at (length xs) ≡ xs) is (tells.0 holds)

pub part_other : (bytes wanted slice : List ℕ) (at : ℕ) (answer : Bool) → slice ≡ wanted → (IsTrue answer ↔ (part bytes at (length slice) ≡ slice)) → answer ≡ false
    → part bytes at (length wanted) ≢ wanted
part_other bytes wanted slice at answer is tells fails same =
    both answer fails (tells.1 (subst (λ (xs : List ℕ). part bytes at (length xs) ≡ xs) (sym is) same))
  where
    both : (test : Bool) → test ≡ false → test ≡ true → ⊥
    both test h k = cc

-- a difference of more than 1
pub not_near : (size counted whole apart : ℕ) → counted ≡ size → apart ≡ abs_diff (counted + 8) whole → 1 < apart → IsNear size whole → ⊥
not_near size counted whole apart is is_apart far near =
    let below = near.0 in let above = near.1 in omega (arith, is, is_apart, far, below, above)
