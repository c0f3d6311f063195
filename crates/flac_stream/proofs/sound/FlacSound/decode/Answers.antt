use Rattle.std.proofs.Common.{Ok, drop, sym, subst, arith}
use Rattle.file_model.specs.declared.flac_info.Info.{Info}
use Rattle.file_model.specs.FlacFrame.{Frame}
use Rattle.flac_frames.specs.Frames.{HasBlock}
use Rattle.flac_stream.proofs.Sounding.{in_cells, is_there}
use Rattle.flac_stream.proofs.sound.FlacSound.decode.Goals as goal

-- a frame that was read before is read again
pub unreachable-requires : goal.unreachable-requires
unreachable-requires c =
    let s = c.args.self.now in
    let place = c.place_of-place.result in
    let here = s.frames.stand c.args.frame place c.requires.frame c.place_of-place.ensures.is in
    is_there s.bytes.now s.file.now s.held.0 c.args.frame place here
    (λ frame stands. c.in-None.ensures.frame frame
    (subst (λ (i : Info). Frame i (drop place.at s.bytes.now) (Ok frame)) (sym c.info-info.ensures) stands))

pub returns-clause-cells : goal.returns-clause-cells
returns-clause-cells c =
    let s = c.args.self.now in
    let place = c.place_of-place.result in
    let here = s.frames.stand c.args.frame place c.requires.frame c.place_of-place.ensures.is in
    let block = c.in-Some.block in
    in_cells s.bytes.now s.file.now s.held.0 c.args.frame c.args.index block place c.read_one_channel.new.scratch.cells here c.requires.channel (omega arith)
    c.in-Some.ensures.block (subst (λ (i : Info). HasBlock i (drop place.at s.bytes.now) block) c.info-info.ensures c.in-Some.ensures.headed)
    (λ frame stands. c.in-Some.ensures.frame frame
    (subst (λ (i : Info). Frame i (drop place.at s.bytes.now) (Ok frame)) (sym c.info-info.ensures) stands))

pub read_one_channel-requires-clause-place : goal.read_one_channel-requires-clause-place
read_one_channel-requires-clause-place c = (c.args.self.now.frames.stand c.args.frame c.place_of-place.result c.requires.frame c.place_of-place.ensures.is).inside
