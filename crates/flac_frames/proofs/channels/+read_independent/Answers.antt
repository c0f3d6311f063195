use Rattle.std.proofs.Common.{length, arith}
use Rattle.bit_codec.specs.Reader.{left}
use Rattle.flac_frames.proofs.Sounds.{one_then, one_refused, others_refused}
use Rattle.flac_frames.proofs.channels.+read_independent.Goals as goal

-- the first channel breaks a rule
pub returns-in-Err-clause-comes : goal.returns-in-Err-clause-comes
returns-in-Err-clause-comes t c =
    one_refused c.args.block (length c.split_at_mut-first.result.0.now) c.args.channels c.args.depth (left c.args.reader.now) c.in-Err.rule (omega arith)
    (omega arith) c.in-Err.ensures.comes

-- the first one and the others are read
pub returns-in-Ok-read_independent-clause-comes : goal.returns-in-Ok-read_independent-clause-comes
returns-in-Ok-read_independent-clause-comes t c =
    one_then c.args.block (length c.split_at_mut-first.result.0.now) c.args.channels c.args.depth (left c.args.reader.now) (left c.read_channel.new.reader)
    (left c.read_independent.new.reader) c.read_channel.new.out c.read_independent.new.cells (omega arith) (omega arith) (omega arith)
    c.in-Ok.ensures.comes c.in-Ok-read_independent.ensures.comes

-- one of the others breaks a rule
pub returns-in-Err-read_independent-clause-comes : goal.returns-in-Err-read_independent-clause-comes
returns-in-Err-read_independent-clause-comes t c =
    others_refused c.args.block (length c.split_at_mut-first.result.0.now) c.args.channels c.args.depth (left c.args.reader.now) (left c.read_channel.new.reader)
    c.read_channel.new.out c.in-Err-read_independent.rule (omega arith) (omega arith) c.in-Ok.ensures.comes c.in-Err-read_independent.ensures.comes
