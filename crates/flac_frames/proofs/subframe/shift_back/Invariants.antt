use Rattle.std.proofs.Common.{◌≡◌, ◌^◌, ◌++◌, take, drop}
use Rattle.std.specs.Prelude.{ℤ, pos, ◌*ℤ◌, map, All}
use Rattle.lib_base.specs.Sounds.{IsSample}
use Rattle.flac_frames.proofs.subframe.shift_back.Given as goal

-- the samples before the place have their wasted bits
abbrev pub invariant-loop-place : goal.invariant-loop-place
invariant-loop-place l = record {
  shifted : l.out ≡ map (λ (s : ℤ). s *ℤ pos (2 ^ l.wasted)) (take l.place l.initial.out) ++ drop l.place l.initial.out;
}
