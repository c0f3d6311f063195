use Rattle.std.proofs.Common.{◌<◌, arith}
use Rattle.bit_codec.specs.Reader.{left}
use Rattle.flac_frames.proofs.Ones.{each_own, one_of_pair}
use Rattle.flac_frames.proofs.Stereos.{of_pair}
use Rattle.flac_frames.proofs.one_channel.read_one.Goals as goal

pub returns-in-None : goal.returns-in-None
returns-in-None c = λ lists rest sound.
    let header = c.args.header.now in
    let info = c.args.info.now in
    c.read_own_at.ensures info.channels lists rest c.requires.index
    (each_own header.block info.channels info.depth header.stereo (left c.args.reader.now) lists rest c.in-None.is sound)

pub returns-in-Some : goal.returns-in-Some
returns-in-Some c = λ lists rest sound.
    let header = c.args.header.now in
    let info = c.args.info.now in
    let two = of_pair header.stereo c.in-Some.kind c.in-Some.is c.requires.pair in
    let index = c.requires.index in
    let less : c.args.index < 2 = omega (arith, two, index) in
    one_of_pair c.read_pair_at.result header.block info.channels info.depth c.args.index header.stereo c.in-Some.kind (left c.args.reader.now)
    (left c.read_pair_at.new.reader) c.read_pair_at.new.cells lists rest c.in-Some.is less (c.read_pair_at.ensures.comes info.channels) sound
