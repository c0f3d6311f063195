use Rattle.std.proofs.Common.{◌≡◌, take}
use Rattle.sound_model.specs.Loudness.{greatest}
use Rattle.album_merge.proofs.summaries.greatest.Given as goal

abbrev pub invariant-loop-energy : goal.invariant-loop-energy
invariant-loop-energy l = l.most ≡ greatest (take l.energy-index l.energies)
