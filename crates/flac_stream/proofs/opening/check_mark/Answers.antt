use Rattle.std.specs.Prelude.{codes}
use Rattle.flac_stream.proofs.Openings.{no_mark, short_of_mark, mark_there, mark_other}
use Rattle.flac_stream.proofs.opening.check_mark.Goals as goal

pub returns-then-bytes-lt-BLOCKS_AT-clause-err : goal.returns-then-bytes-lt-BLOCKS_AT-clause-err
returns-then-bytes-lt-BLOCKS_AT-clause-err c =
    c.refused.ensures c.args.bytes.now (no_mark c.args.bytes.now (short_of_mark c.args.bytes.now c.if-bytes-lt-BLOCKS_AT.true))

pub returns-then-not-begins_with-clause-err : goal.returns-then-not-begins_with-clause-err
returns-then-not-begins_with-clause-err c =
    c.refused-then-not-begins_with.ensures c.args.bytes.now
    (no_mark c.args.bytes.now (mark_other c.args.bytes.now (codes "fLaC") _ _ c.as_slice.ensures c.begins_with.ensures c.if-not-begins_with.true))

pub returns-clause-marked : goal.returns-clause-marked
returns-clause-marked c = mark_there c.args.bytes.now (codes "fLaC") _ _ c.as_slice.ensures c.begins_with.ensures c.if-not-begins_with.false
