-- The quotient, the one and the low bits of a window.
use Rattle.std.proofs.Common.{refl}
use Rattle.std.specs.Int.{w64, leading_zeros}
use Rattle.file_model.proofs.OutcomesLemmas.{gives_same}
use Rattle.bit_codec.specs.Reader.{left}
use Rattle.bit_codec.proofs.ReaderLemmas.{stands, low_bits, rice_answer, rice_by_parts_is}
use Rattle.bit_codec.proofs.reader.BitReader.rice.Goals as goal

pub rice_value-requires-clause-one : goal.rice_value-requires-clause-one
rice_value-requires-clause-one c =
    (low_bits (left c.args.self.now) c.args.self.now.bit c.in-Some.window (leading_zeros w64 c.in-Some.window) c.args.low c.in-Some.ensures refl c.if-width-self-le64.true).one

pub rice_value-requires-clause-no_more : goal.rice_value-requires-clause-no_more
rice_value-requires-clause-no_more c =
    (low_bits (left c.args.self.now) c.args.self.now.bit c.in-Some.window (leading_zeros w64 c.in-Some.window) c.args.low c.in-Some.ensures refl c.if-width-self-le64.true).no_more

pub returns-then-width-self-le64-clause-gives : goal.returns-then-width-self-le64-clause-gives
returns-then-width-self-le64-clause-gives c =
    rice_answer (left c.args.self.now) (left c.skip.new.self) c.args.self.now.bit c.in-Some.window (leading_zeros w64 c.in-Some.window) c.args.low c.rice_value.result
    c.in-Some.ensures refl c.if-width-self-le64.true c.requires c.rice_value.ensures c.skip.ensures.rest

pub returns-then-width-self-le64-clause-moved : goal.returns-then-width-self-le64-clause-moved
returns-then-width-self-le64-clause-moved c = stands _

pub returns-clause-gives : goal.returns-clause-gives
returns-clause-gives c = gives_same _ c.long_rice.result _ _ (rice_by_parts_is c.args.low (left c.args.self.now)) c.long_rice.ensures.gives

pub returns-clause-moved : goal.returns-clause-moved
returns-clause-moved c = stands _
