-- The highest bits of a window are the next ones.
use Rattle.std.proofs.Common.{arith}
use Rattle.file_model.proofs.FieldsLemmas.{field_below, field_small}
use Rattle.bit_codec.specs.Reader.{left}
use Rattle.bit_codec.proofs.ReaderLemmas.{stands, take_in_window, field_fits}
use Rattle.bit_codec.proofs.reader.BitReader.take.Goals as goal

pub overflow_cast-result : goal.overflow_cast-result
overflow_cast-result c =
    let is = take_in_window (left c.args.self.now) (left c.skip.new.self) c.args.self.now.bit c.in-Some.window c.args.count c.highest.result
    c.in-Some.ensures c.requires c.highest.ensures c.skip.ensures.rest in
    let fits = field_fits (left c.args.self.now) (left c.skip.new.self) c.args.count c.highest.result is c.requires in
    omega arith

pub returns-in-Some-clause-gives : goal.returns-in-Some-clause-gives
returns-in-Some-clause-gives c =
    take_in_window (left c.args.self.now) (left c.skip.new.self) c.args.self.now.bit c.in-Some.window c.args.count c.highest.result
    c.in-Some.ensures c.requires c.highest.ensures c.skip.ensures.rest

pub returns-in-Some-clause-small : goal.returns-in-Some-clause-small
returns-in-Some-clause-small c =
    field_below c.args.count c.highest.result (left c.args.self.now) (left c.skip.new.self)
    (take_in_window (left c.args.self.now) (left c.skip.new.self) c.args.self.now.bit c.in-Some.window c.args.count c.highest.result
    c.in-Some.ensures c.requires c.highest.ensures c.skip.ensures.rest)

pub returns-in-Some-clause-moved : goal.returns-in-Some-clause-moved
returns-in-Some-clause-moved c = stands _

pub returns-in-None-clause-small : goal.returns-in-None-clause-small
returns-in-None-clause-small c = field_small c.args.count c.take_bit_by_bit.result _ (left c.args.self.now) c.take_bit_by_bit.ensures.gives

pub returns-in-None-clause-moved : goal.returns-in-None-clause-moved
returns-in-None-clause-moved c = stands _
