use Rattle.std.proofs.Common.{◌≡◌, ◌≤◌, ◌-◌, length}
use Rattle.lib_base.specs.declared.limits.TheConstants.{MOST_SAMPLES}
use Rattle.flac_stream.specs.Hearing.{HaveHeard}
use Rattle.flac_stream.proofs.frames.read_frames.Given as goal

abbrev pub invariant-frames : goal.invariant-frames
invariant-frames l = record {
  heard : HaveHeard l.info l.bytes l.start l.at l.heard;
  read : l.heard.count ≤ MOST_SAMPLES;
  room : length l.scratch.cells ≡ length l.fn.scratch.cells;
}

abbrev pub decreases-frames : goal.decreases-frames
decreases-frames l = length l.bytes - l.at
