use Rattle.std.proofs.Common.{◌≡◌, length, take}
use Rattle.file_model.specs.Channels.{channel_samples}
use Rattle.wave_chunks.specs.Held.{samples_held}
use Rattle.wave_chunks.proofs.wave_sounds.fill_24.Given as goal

abbrev pub invariant-loop-i : goal.invariant-loop-i
invariant-loop-i l = record {
  long : length l.out ≡ length l.fn.out;
  filled : take l.i l.out ≡ channel_samples l.step l.first l.i (samples_held 24 l.bytes);
}
