-- A file reads as one thing.
use Rattle.lib_base.specs.Sounds.{part}
use Rattle.file_model.specs.declared.wave_fields.TheConstants.{SIZE_AT, FORM_AT, CHUNKS_AT, TAG_AT, CHANNELS_AT, RATE_AT, ALIGN_AT, DEPTH_AT}
use Rattle.file_model.specs.Wave.{IsNear}
use Rattle.std.proofs.Common.{◌≡◌, ◌≢◌, ◌<◌, ◌+◌, ◌-◌, ◌⊎◌, inl, inr, ℕ, List, [], ◌∷◌, get_or, length, drop, refl, ap, ◌∙◌, sym, subst, arith}
use Rattle.std.specs.Prelude.{codes, Option, Some}
use Rattle.std.proofs.lemmas.Bool.{cases_lt}
use Rattle.lib_base.specs.declared.outcomes.Rule.{Rule}
use Rattle.file_model.specs.declared.wave_rules.WaveRule.{WaveRule}
use Rattle.file_model.specs.declared.wave_rules.WaveRule.TheVariants.{NoRiff, OtherForm, OtherSize, CutChunk, RepeatedChunk, NoFormat, ShortFormat, OtherFormat, OtherChannels, OtherRate, OtherDepth, OtherAlign, NoData, PartFrame, ShortBext}
use Rattle.file_model.specs.Chunks.{Chunk, Placed, named, first_repeat, number_at}
use Rattle.file_model.specs.Format.{IsShortFormat, IsOtherFormat, HasOtherChannels, HasOtherRate, HasOtherDepth, HasOtherAlign}
use Rattle.file_model.specs.Reading.{Reading, accepted, broken, ReadsAsWave, IsBroken}
use Rattle.file_model.specs.Rules.{rule_of, number_of, IsCutAt, Lacks, OfChunks, FormatIs, HasPartFrame, HasShortBext, Breaks, BreaksNoneBelow}
use Rattle.file_model.proofs.Spellings.{Begins_unique, chunks_unique}
use Rattle.file_model.proofs.Waves.{IsWave_unique, one_placed, breaks_nothing}

-- a fact holds at one place at most
abbrev OnePlace : (ℕ → Type 0) → Type 0
OnePlace Fact = (p q : ℕ) → Fact p → Fact q → p ≡ q

one_fixed : (Fact : Type 0) (at : ℕ) → OnePlace (λ place. Fact × (place ≡ at))
one_fixed Fact at p q h k = h.1 ∙ sym k.1

one_some : (found : Option ℕ) → OnePlace (λ place. found ≡ Some place)
one_some found p q h k = cc

one_cut : (bytes : List ℕ) → OnePlace (IsCutAt bytes)
one_cut bytes p q h k =
    let rests = (Begins_unique h.0 k.0 (drop CHUNKS_AT bytes) h.1 k.1 h.4 k.4 h.2 k.2).1 in
    h.5 ∙ ap (λ (rest : List ℕ). length bytes - length rest) rests ∙ sym k.5

one_format : (Wrong : List ℕ → Type 0) (offset : ℕ) (chunks : List Chunk) → OnePlace (FormatIs Wrong offset chunks)
one_format Wrong offset chunks p q h k =
    h.3 ∙ ap (λ (format : Placed). format.head + 8 + offset) (one_placed _ h.0 k.0 h.1 k.1) ∙ sym k.3

one_part_frame : (chunks : List Chunk) → OnePlace (HasPartFrame chunks)
one_part_frame chunks p q h k = h.5 ∙ ap (λ (samples : Placed). samples.head) (one_placed _ h.1 k.1 h.3 k.3) ∙ sym k.5

one_short_bext : (chunks : List Chunk) → OnePlace (HasShortBext chunks)
one_short_bext chunks p q h k = h.3 ∙ ap (λ (bext : Placed). bext.head) (one_placed _ h.0 k.0 h.1 k.1) ∙ sym k.3

-- a file has one list of chunks, so what holds of them at one place holds of it at one
one_of_chunks : (bytes : List ℕ) (Fact : List Chunk → ℕ → Type 0) → ((chunks : List Chunk) → OnePlace (Fact chunks))
    → OnePlace (λ place. OfChunks bytes (λ chunks. Fact chunks place))
one_of_chunks bytes Fact one p q h k =
    one h.0 p q h.2 (subst (λ (chunks : List Chunk). Fact chunks q) (chunks_unique k.0 h.0 (drop CHUNKS_AT bytes) k.1 h.1) k.2)

one_wrong : (bytes : List ℕ) (Wrong : List ℕ → Type 0) (offset : ℕ) → OnePlace (λ place. OfChunks bytes (λ chunks. FormatIs Wrong offset chunks place))
one_wrong bytes Wrong offset = one_of_chunks bytes (FormatIs Wrong offset) (one_format Wrong offset)

one_lacking : (bytes name : List ℕ) → OnePlace (λ place. OfChunks bytes (λ chunks. Lacks name chunks (length bytes) place))
one_lacking bytes name = one_of_chunks bytes (λ chunks. Lacks name chunks (length bytes)) (λ chunks. one_fixed (named name chunks ≡ []) (length bytes))

-- a rule is broken at one place at most
pub one_place : (bytes : List ℕ) (rule : WaveRule) → OnePlace (Breaks bytes rule)
one_place bytes NoRiff = one_fixed ((length bytes < CHUNKS_AT) ⊎ (part bytes 0 4 ≢ codes "RIFF")) 0
one_place bytes OtherForm = one_fixed (part bytes FORM_AT 4 ≢ codes "WAVE") FORM_AT
one_place bytes OtherSize = one_fixed (¬ IsNear (number_at bytes SIZE_AT) (length bytes)) SIZE_AT
one_place bytes CutChunk = one_cut bytes
one_place bytes RepeatedChunk = one_of_chunks bytes (λ chunks place. first_repeat chunks ≡ Some place) (λ chunks. one_some (first_repeat chunks))
one_place bytes NoFormat = one_lacking bytes (codes "fmt ")
one_place bytes ShortFormat = one_wrong bytes IsShortFormat TAG_AT
one_place bytes OtherFormat = one_wrong bytes IsOtherFormat TAG_AT
one_place bytes OtherChannels = one_wrong bytes HasOtherChannels CHANNELS_AT
one_place bytes OtherRate = one_wrong bytes HasOtherRate RATE_AT
one_place bytes OtherDepth = one_wrong bytes HasOtherDepth DEPTH_AT
one_place bytes OtherAlign = one_wrong bytes HasOtherAlign ALIGN_AT
one_place bytes NoData = one_lacking bytes (codes "data")
one_place bytes PartFrame = one_of_chunks bytes HasPartFrame one_part_frame
one_place bytes ShortBext = one_of_chunks bytes HasShortBext one_short_bext

-- ---- rules and their numbers

-- the rules in the order of their numbers
in_order : List WaveRule
in_order =
    NoRiff ∷ OtherForm ∷ OtherSize ∷ CutChunk ∷ RepeatedChunk ∷ NoFormat ∷ ShortFormat ∷ OtherFormat ∷ OtherChannels ∷ OtherRate ∷ OtherDepth
    ∷ OtherAlign ∷ NoData ∷ PartFrame ∷ ShortBext ∷ []

-- the rule of a number
rule_at : ℕ → WaveRule
rule_at number = get_or in_order (number - 1) NoRiff

rule_at-number_of : (rule : WaveRule) → rule_at (number_of rule) ≡ rule
unfolding in_order rule_at
rule_at-number_of NoRiff = refl
rule_at-number_of OtherForm = refl
rule_at-number_of OtherSize = refl
rule_at-number_of CutChunk = refl
rule_at-number_of RepeatedChunk = refl
rule_at-number_of NoFormat = refl
rule_at-number_of ShortFormat = refl
rule_at-number_of OtherFormat = refl
rule_at-number_of OtherChannels = refl
rule_at-number_of OtherRate = refl
rule_at-number_of OtherDepth = refl
rule_at-number_of OtherAlign = refl
rule_at-number_of NoData = refl
rule_at-number_of PartFrame = refl
rule_at-number_of ShortBext = refl

-- no two rules have one number
pub same_rule : (one other : WaveRule) → number_of one ≡ number_of other → one ≡ other
same_rule one other same = sym (rule_at-number_of one) ∙ ap rule_at same ∙ rule_at-number_of other

-- numbers begin at 1
from_1 : (rule : WaveRule) → number_of rule < 1 → ⊥
unfolding in_order rule_at
from_1 rule below =
    let none : number_of rule ≡ 0 = omega (arith, below) in
    let first : rule ≡ NoRiff = sym (rule_at-number_of rule) ∙ ap rule_at none in
    let one : number_of rule ≡ 1 = ap number_of first in omega (arith, none, one)

-- bytes that are broken are so by one rule at one place
pub IsBroken_unique : (bytes : List ℕ) (one other : WaveRule) (p q : ℕ) → IsBroken bytes one p → IsBroken bytes other q → (one ≡ other) × (p ≡ q)
IsBroken_unique bytes one other p q first again =
    elim (cases_lt (number_of one) (number_of other)) [
      | inl lower ↦ absurd (again.lowest one p lower first.breaks)
      | inr from ↦ elim (cases_lt (number_of other) (number_of one)) [
        | inl lower ↦ absurd (first.lowest other q lower again.breaks)
        | inr also ↦
            let same : one ≡ other = same_rule one other (omega (arith, from, also)) in
            (same, one_place bytes other p q (subst (λ (rule : WaveRule). Breaks bytes rule p) same first.breaks) again.breaks)
      ]
    ]

pub ReadsAsWave_unique : (bytes : List ℕ) (r q : Reading) → ReadsAsWave bytes r → ReadsAsWave bytes q → r ≡ q
ReadsAsWave_unique bytes (accepted xs) (accepted ys) h k = ap accepted (IsWave_unique bytes xs ys h k)
ReadsAsWave_unique bytes (accepted xs) (broken rule place) h k = absurd (k.2.no_wave xs h)
ReadsAsWave_unique bytes (broken rule place) (accepted ys) h k = absurd (h.2.no_wave ys k)
ReadsAsWave_unique bytes (broken rule place) (broken rule' place') h k =
    let same = IsBroken_unique bytes h.0 k.0 place place' h.2 k.2 in
    let same_rule : rule ≡ rule' = h.1 ∙ ap rule_of same.0 ∙ sym k.1 in
    ap (λ (r : Rule). broken r place) same_rule ∙ ap (broken rule') same.1

-- ---- the rules in turn

pub IsBroken-from : (bytes : List ℕ) (rule : WaveRule) (place : ℕ) → BreaksNoneBelow bytes rule → Breaks bytes rule place → IsBroken bytes rule place
IsBroken-from bytes rule place lower breaks = record {
  no_wave = λ sound wave. breaks_nothing bytes wave.0 sound rule place wave.1 breaks;
  breaks = breaks;
  lowest = lower;
}

pub none_below_first : (bytes : List ℕ) → BreaksNoneBelow bytes NoRiff
none_below_first bytes lower place below = absurd (from_1 lower below)

pub none_below_next : (bytes : List ℕ) (rule next : WaveRule) → number_of next ≡ number_of rule + 1 → BreaksNoneBelow bytes rule
    → ((place : ℕ) → Breaks bytes rule place → ⊥) → BreaksNoneBelow bytes next
none_below_next bytes rule next is lower right other place below breaks =
    elim (cases_lt (number_of other) (number_of rule)) [
      | inl less ↦ lower other place less breaks
      | inr from ↦
          let same : other ≡ rule = same_rule other rule (omega (arith, is, below, from)) in
          right place (subst (λ (r : WaveRule). Breaks bytes r place) same breaks)
    ]
