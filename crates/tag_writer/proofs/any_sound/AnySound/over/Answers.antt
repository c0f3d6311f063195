use Rattle.std.proofs.Common.{◌∙◌}
use Rattle.tag_writer.proofs.Listening.{wave_there, wave_reads, wave_depth, wave_frames, flac_there, flac_reads, flac_depth, flac_frames}
use Rattle.tag_writer.proofs.any_sound.AnySound.over.Goals as goal

pub returns-in-Wave-clause-lists : goal.returns-in-Wave-clause-lists
returns-in-Wave-clause-lists c sound reads =
    c.over.ensures.lists sound
    (wave_reads c.args.bytes.now c.in-Wave.wave sound (wave_there c.args.bytes.now c.args.accepted.now c.in-Wave.wave c.in-Wave.is c.requires) reads)

pub returns-in-Wave-clause-depth : goal.returns-in-Wave-clause-depth
returns-in-Wave-clause-depth c sound reads =
    c.over.ensures.depth
    ∙ wave_depth c.args.bytes.now c.in-Wave.wave sound (wave_there c.args.bytes.now c.args.accepted.now c.in-Wave.wave c.in-Wave.is c.requires) reads

pub returns-in-Wave-clause-frames : goal.returns-in-Wave-clause-frames
returns-in-Wave-clause-frames c sound reads =
    c.over.ensures.frames
    ∙ wave_frames c.args.bytes.now c.in-Wave.wave sound (wave_there c.args.bytes.now c.args.accepted.now c.in-Wave.wave c.in-Wave.is c.requires) reads

pub returns-in-Flac-clause-lists : goal.returns-in-Flac-clause-lists
returns-in-Flac-clause-lists c sound reads =
    c.over-in-Flac.ensures.lists sound
    (flac_reads c.args.bytes.now c.in-Flac.file sound (flac_there c.args.bytes.now c.args.accepted.now c.in-Flac.file c.in-Flac.is c.requires) reads)

pub returns-in-Flac-clause-depth : goal.returns-in-Flac-clause-depth
returns-in-Flac-clause-depth c sound reads =
    c.over-in-Flac.ensures.depth
    ∙ flac_depth c.args.bytes.now c.in-Flac.file sound (flac_there c.args.bytes.now c.args.accepted.now c.in-Flac.file c.in-Flac.is c.requires) reads

pub returns-in-Flac-clause-frames : goal.returns-in-Flac-clause-frames
returns-in-Flac-clause-frames c sound reads =
    c.over-in-Flac.ensures.frames
    ∙ flac_frames c.args.bytes.now c.in-Flac.file sound (flac_there c.args.bytes.now c.args.accepted.now c.in-Flac.file c.in-Flac.is c.requires) reads
