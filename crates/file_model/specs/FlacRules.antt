-- The rules of a FLAC file: of each its number.
use Rattle.std.specs.Prelude.{ℕ}
use Rattle.lib_base.specs.declared.outcomes.Rule.{Rule}
use Rattle.lib_base.specs.declared.outcomes.Rule.TheVariants.{F}
use Rattle.file_model.specs.declared.bits.BitFault.{BitFault}
use Rattle.file_model.specs.declared.bits.BitFault.TheVariants.{Cut, BadNumber}
use Rattle.file_model.specs.declared.flac_rules.FlacRule.{FlacRule}
use Rattle.file_model.specs.declared.flac_rules.FlacRule.TheVariants.{NoFlac, CutBlock, InvalidBlock, NoStreaminfo, RepeatedBlock, OtherRate, OtherChannels, OtherDepth, LostSync, ReservedBlockSize, ForbiddenRate, ReservedChannels, ReservedDepth, ReservedBit, OtherCodedNumber, FrameRate, FrameChannels, FrameDepth, HeaderCheck, SubframeBit, ReservedSubframe, WastedBits, PredictorOrder, ForbiddenPrecision, NegativeShift, OtherPartitions, OutOfRange, FrameCheck, CutFrame, OtherTotal, OtherMd5, TooManySamples}

-- the number of a rule
abbrev pub flac_number_of : FlacRule → ℕ
flac_number_of NoFlac = 1
flac_number_of CutBlock = 2
flac_number_of InvalidBlock = 3
flac_number_of NoStreaminfo = 4
flac_number_of RepeatedBlock = 5
flac_number_of OtherRate = 6
flac_number_of OtherChannels = 7
flac_number_of OtherDepth = 8
flac_number_of LostSync = 9
flac_number_of ReservedBlockSize = 10
flac_number_of ForbiddenRate = 11
flac_number_of ReservedChannels = 12
flac_number_of ReservedDepth = 13
flac_number_of ReservedBit = 14
flac_number_of OtherCodedNumber = 15
flac_number_of FrameRate = 16
flac_number_of FrameChannels = 17
flac_number_of FrameDepth = 18
flac_number_of HeaderCheck = 19
flac_number_of SubframeBit = 20
flac_number_of ReservedSubframe = 21
flac_number_of WastedBits = 22
flac_number_of PredictorOrder = 23
flac_number_of ForbiddenPrecision = 24
flac_number_of NegativeShift = 25
flac_number_of OtherPartitions = 26
flac_number_of OutOfRange = 27
flac_number_of FrameCheck = 28
flac_number_of CutFrame = 29
flac_number_of OtherTotal = 30
flac_number_of OtherMd5 = 31
flac_number_of TooManySamples = 32

-- the rule by family and number
abbrev pub flac_rule_of : FlacRule → Rule
flac_rule_of rule = F (flac_number_of rule)

-- the rule that a field of a frame breaks where it is cut, or no coded number
abbrev pub rule_of_fault : BitFault → FlacRule
rule_of_fault Cut = CutFrame
rule_of_fault BadNumber = OtherCodedNumber
