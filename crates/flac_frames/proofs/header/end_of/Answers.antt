use Rattle.std.proofs.Common.{◌≡◌, ◌%◌}
use Rattle.bit_codec.specs.Reader.{place}
use Rattle.flac_frames.proofs.Places.{StandsBehind, stands_behind}
use Rattle.flac_frames.proofs.header.end_of.Goals as goal

pub byte-requires : goal.byte-requires
byte-requires c =
    (stands_behind c.args.bytes.now c.args.at c.args.reader.now c.requires.of_bytes c.requires.place c.requires.whole).whole
