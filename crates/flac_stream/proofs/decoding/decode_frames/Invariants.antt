use Rattle.std.proofs.Common.{◌≡◌, ◌≤◌, ◌-◌, Vec, Global, length, map}
use Rattle.std.specs.Prelude.{ℤ}
use Rattle.lib_base.specs.declared.limits.TheConstants.{MOST_SAMPLES}
use Rattle.flac_stream.specs.Hearing.{AreDecoded}
use Rattle.flac_stream.proofs.decoding.decode_frames.Given as goal

abbrev pub invariant-frames : goal.invariant-frames
invariant-frames l = record {
  decoded : AreDecoded l.info l.bytes l.start l.at l.heard (map (λ (v : Vec ℤ Global). v.items) l.lists.items);
  read : l.heard.count ≤ MOST_SAMPLES;
  room : length l.scratch.cells ≡ length l.fn.scratch.cells;
}

abbrev pub decreases-frames : goal.decreases-frames
decreases-frames l = length l.bytes - l.at
