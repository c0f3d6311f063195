use Rattle.std.proofs.Common.{length, arith}
use Rattle.bit_codec.specs.Reader.{left}
use Rattle.flac_frames.proofs.Sounds.{pair_at, pair_refused}
use Rattle.flac_frames.proofs.channels.read_pair_at.Goals as goal

pub returns-in-Ok-clause-comes : goal.returns-in-Ok-clause-comes
returns-in-Ok-clause-comes c = λ channels.
    pair_at c.args.block (length c.split_at_mut-first.result.0.now) channels c.args.depth c.args.kind (left c.args.reader.now) (left c.read_pair.new.reader)
    c.read_pair.new.first c.read_pair.new.second _ (omega arith) (omega arith) (omega arith) (c.in-Ok.ensures.comes channels)

pub returns-in-Err-clause-comes : goal.returns-in-Err-clause-comes
returns-in-Err-clause-comes c = λ channels.
    pair_refused c.args.block (length c.split_at_mut-first.result.0.now) channels c.args.depth c.args.kind (left c.args.reader.now) c.in-Err.rule (omega arith)
    (c.in-Err.ensures.comes channels)
