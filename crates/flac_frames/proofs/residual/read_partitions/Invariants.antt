use Rattle.std.proofs.Common.{◌≡◌, ◌≤◌, ◌-◌, ◌*◌, length, take}
use Rattle.bit_codec.specs.Reader.{left, source}
use Rattle.file_model.specs.Subframe.{partitions_at}
use Rattle.flac_frames.proofs.Times.{with_front}
use Rattle.flac_frames.proofs.residual.read_partitions.Given as goal

-- the residuals so far, and the partitions that are still to come
abbrev pub invariant-loop-index : goal.invariant-loop-index
invariant-loop-index l = record {
  goes :
      with_front (take (l.index * l.size) l.out) (partitions_at l.parameter_bits l.size (l.many - l.index) (left l.reader))
      ≡ partitions_at l.parameter_bits l.size l.many (left l.fn.reader);
  later : length (left l.reader) ≤ length (left l.fn.reader);
  whole : source l.reader ≡ source l.fn.reader;
}
