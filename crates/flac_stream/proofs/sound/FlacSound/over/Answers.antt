use Rattle.std.proofs.Common.{refl}
use Rattle.flac_stream.specs.Sounding.{HasLists}
use Rattle.flac_stream.proofs.Sounding.{are_frames, is_sound, lists_kept}
use Rattle.flac_stream.proofs.sound.FlacSound.over.Goals as goal

pub invariant_of-result : goal.invariant_of-result
invariant_of-result c =
    let read = c.requires in
    let held : HasLists c.args.bytes.now = (read.sound.lists, ∣ (read.sound, (read.blocks, c.args.file.now.info, read.frames, read.reads), refl) ∣₁) in
    record {
      held = held;
      frames = are_frames c.args.bytes.now c.args.file.now read;
      sound = is_sound c.args.bytes.now c.args.file.now read;
    }

pub returns-clause-lists : goal.returns-clause-lists
returns-clause-lists c = λ sound flac. search (lists_kept, flac)
