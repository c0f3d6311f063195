use Rattle.std.proofs.Common.{arith}
use Rattle.bit_codec.specs.Reader.{left}
use Rattle.file_model.specs.Fields.{unary_at}
use Rattle.flac_frames.specs.Subframes.{coding_as}
use Rattle.flac_frames.proofs.Residuals.{held_parts, unary_shorter}
use Rattle.flac_frames.proofs.Subframes.{few_wasted, all_wasted, some_wasted_cut}
use Rattle.flac_frames.proofs.subframe.read_some_wasted.Goals as goal

pub returns-in-Ok-clause-gives : goal.returns-in-Ok-clause-gives
returns-in-Ok-clause-gives c =
    all_wasted c.args.depth (coding_as c.args.coding) (left c.args.reader.now) c.in-Ok.less _ c.in-Ok.ensures.gives (omega arith)

pub returns-in-Ok-2-clause-gives : goal.returns-in-Ok-2-clause-gives
returns-in-Ok-2-clause-gives c =
    few_wasted c.args.depth (coding_as c.args.coding) (left c.args.reader.now) c.in-Ok.less (left c.unary.new.self) (omega arith) c.in-Ok.ensures.gives (omega arith)

pub returns-in-Ok-2-clause-later : goal.returns-in-Ok-2-clause-later
returns-in-Ok-2-clause-later c =
    let parts = held_parts (unary_at (left c.args.reader.now)) c.in-Ok.less (left c.unary.new.self) c.in-Ok.ensures.gives in
    unary_shorter (left c.args.reader.now) parts.0 (left c.unary.new.self) parts.1

pub returns-in-Err-clause-gives : goal.returns-in-Err-clause-gives
returns-in-Err-clause-gives c =
    some_wasted_cut c.args.depth (coding_as c.args.coding) (left c.args.reader.now) c.in-Err.fault c.into.result c.in-Err.ensures.gives c.into.ensures
