use Rattle.std.proofs.Common.{sym}
use Rattle.file_model.proofs.Interleaving.{length-first_channels}
use Rattle.wave_chunks.specs.Held.{samples_held}
use Rattle.wave_chunks.proofs.wave_sounds.WaveSoundSound.channels.Goals as goal

pub returns : goal.returns
returns c =
    let s = c.args.self.now in sym (length-first_channels s.channels s.channels s.frames (samples_held s.depth s.content.now))
