use Rattle.std.proofs.Common.{◌≡◌, ◌≤◌, ◌+◌, ◌-◌, List, ◌++◌, take, drop, length}
use Rattle.std.specs.Prelude.{ℤ}
use Rattle.gate_blocks.specs.Meters.{WasFed}
use Rattle.gate_blocks.proofs.meters.SegmentMeter.feed.Given as goal

abbrev pub invariant-loop-rest : goal.invariant-loop-rest
invariant-loop-rest l = record {
  still : l.rest ≡ drop (length l.filtered - length l.rest) l.filtered;
  fewer : length l.rest ≤ length l.filtered;
  count : l.self.count + length l.rest ≡ l.initial.self.count + length l.filtered;
  frames : l.self.frames ≡ l.initial.self.frames;
  fed : (xs : List ℤ) → WasFed l.initial.self xs → WasFed l.self (xs ++ take (length l.filtered - length l.rest) l.filtered);
}

abbrev pub decreases-loop-rest : goal.decreases-loop-rest
decreases-loop-rest l = length l.rest
