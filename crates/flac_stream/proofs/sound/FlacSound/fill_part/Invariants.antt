use Rattle.std.proofs.Common.{◌≡◌, ◌≤◌, ◌<◌, ◌+◌, ◌-◌, length, take}
use Rattle.lib_base.specs.Sounds.{part, samples_of}
use Rattle.flac_stream.specs.Sounding.{samples_before}
use Rattle.flac_stream.proofs.sound.FlacSound.fill_part.Given as goal

-- where more is asked for, the frame has its first sample
abbrev pub invariant-frames : goal.invariant-frames
invariant-frames l = record {
  written : take l.done l.out ≡ part (samples_of l.self.held.0 l.index) l.start l.done;
  within : l.done ≤ length l.out;
  there : l.done < length l.out → l.frame < length l.self.file.now.places;
  behind : l.done < length l.out → samples_before l.self.file.now l.frame ≤ l.start + l.done;
  before : l.done < length l.out → l.start + l.done ≤ samples_before l.self.file.now (l.frame + 1);
  long : length l.out ≡ length l.fn.out;
  room : length l.scratch.cells ≡ length l.fn.scratch.cells;
}

abbrev pub decreases-frames : goal.decreases-frames
decreases-frames l = length l.self.file.now.places - l.frame
