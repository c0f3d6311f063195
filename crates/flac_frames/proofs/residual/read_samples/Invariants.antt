use Rattle.std.proofs.Common.{◌≡◌, ◌≤◌, ◌-◌, length, take}
use Rattle.bit_codec.specs.Reader.{left, source}
use Rattle.file_model.specs.Subframe.{samples_at}
use Rattle.flac_frames.proofs.Times.{with_front}
use Rattle.flac_frames.proofs.residual.read_samples.Given as goal

-- the samples so far, and those that are still to come
abbrev pub invariant-loop-place : goal.invariant-loop-place
invariant-loop-place l = record {
  goes :
      with_front (take l.place l.out) (samples_at l.depth (length l.initial.out - l.place) (left l.reader))
      ≡ samples_at l.depth (length l.initial.out) (left l.fn.reader);
  later : length (left l.reader) ≤ length (left l.fn.reader);
  whole : source l.reader ≡ source l.fn.reader;
}
