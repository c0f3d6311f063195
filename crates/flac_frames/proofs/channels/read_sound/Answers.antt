use Rattle.std.proofs.Common.{◌≤◌, ◌*◌, ℕ, length, subst}
use Rattle.bit_codec.specs.Reader.{left}
use Rattle.flac_frames.proofs.Sounds.{alone, paired}
use Rattle.flac_frames.proofs.Stereos.{of_pair}
use Rattle.flac_frames.proofs.channels.read_sound.Goals as goal

pub returns-in-None-clause-comes : goal.returns-in-None-clause-comes
returns-in-None-clause-comes c =
    alone c.read_independent.result c.args.header.now.block c.args.info.now.channels c.args.info.now.depth c.args.header.now.stereo (left c.args.reader.now)
    (left c.read_independent.new.reader) c.read_independent.new.cells c.in-None.is c.read_independent.ensures.comes

-- a pair is all of the file's channels
pub read_pair_at-requires-clause-room : goal.read_pair_at-requires-clause-room
read_pair_at-requires-clause-room c =
    subst (λ (n : ℕ). n * c.args.header.now.block ≤ length c.args.cells.now)
    (of_pair c.args.header.now.stereo c.in-Some.kind c.in-Some.is c.requires.pair) c.requires.room

pub returns-in-Some-clause-comes : goal.returns-in-Some-clause-comes
returns-in-Some-clause-comes c =
    paired c.read_pair_at.result c.args.header.now.block c.args.info.now.channels c.args.info.now.depth c.args.header.now.stereo c.in-Some.kind
    (left c.args.reader.now) (left c.read_pair_at.new.reader) c.read_pair_at.new.cells c.in-Some.is
    (of_pair c.args.header.now.stereo c.in-Some.kind c.in-Some.is c.requires.pair) (c.read_pair_at.ensures.comes c.args.info.now.channels)
