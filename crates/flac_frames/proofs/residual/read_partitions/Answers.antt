-- One partition more, one that breaks a rule, or no more to read.
use Rattle.std.proofs.Common.{◌∙◌, rules, arith}
use Rattle.bit_codec.specs.Reader.{left}
use Rattle.flac_frames.proofs.Times.{partitions_step, partitions_fails, partitions_done}
use Rattle.flac_frames.proofs.residual.read_partitions.Goals as goal

pub loop-index-preserved : goal.loop-index-preserved
loop-index-preserved c = record {
  goes =
      partitions_step c.args.parameter_bits c.args.size c.args.many c.loop-index.index c.loop-index.out c.read_partition_at.new.out
      (left c.loop-index.reader) (left c.read_partition_at.new.reader) _ (omega arith) c.in-Ok.ensures.before c.in-Ok.ensures.gives c.loop-index.invariant.goes;
  later = search rules;
  whole = c.in-Ok.ensures.whole ∙ c.loop-index.invariant.whole;
}

pub returns-in-Err-clause-gives : goal.returns-in-Err-clause-gives
returns-in-Err-clause-gives c =
    partitions_fails c.args.parameter_bits c.args.size c.args.many c.loop-index.index _ (left c.loop-index.reader) c.in-Err.rule _ (omega arith)
    c.in-Err.ensures.gives c.loop-index.invariant.goes

pub returns-clause-gives : goal.returns-clause-gives
returns-clause-gives c =
    partitions_done c.args.parameter_bits c.args.size c.args.many c.loop-index.index c.loop-index.out (left c.loop-index.reader) _ (omega arith)
    (omega arith) c.loop-index.invariant.goes
