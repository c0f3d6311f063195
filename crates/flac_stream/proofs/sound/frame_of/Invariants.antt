use Rattle.std.proofs.Common.{◌≤◌, ◌<◌, ◌-◌, length}
use Rattle.flac_stream.specs.Sounding.{samples_before}
use Rattle.flac_stream.proofs.sound.frame_of.Given as goal

abbrev pub invariant-loop-high : goal.invariant-loop-high
invariant-loop-high l = record {
  order : l.low < l.high;
  inside : l.high ≤ length l.file.places;
  behind : samples_before l.file l.low ≤ l.sample;
  before : l.sample < samples_before l.file l.high;
}

abbrev pub decreases-loop-high : goal.decreases-loop-high
decreases-loop-high l = l.high - l.low
