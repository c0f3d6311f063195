use Rattle.std.proofs.Common.{◌≡◌, ◌≤◌, ◌+◌, ◌-◌, length, length-drop, drop, arith}
use Rattle.std.proofs.lemmas.Grind.{common_steps}
use Rattle.bit_codec.specs.Reader.{left}
use Rattle.file_model.specs.FlacHeader.{bytes_before}
use Rattle.flac_frames.specs.Frames.{check_at}
use Rattle.flac_frames.proofs.Frames.{two_more}
use Rattle.flac_frames.proofs.frame.read_check.Goals as goal

pub returns-clause-gives : goal.returns-clause-gives
unfolding check_at
returns-clause-gives c =
    let bytes = drop c.args.at c.args.bytes.now in
    let more = two_more bytes c.in_ok-check.check (left c.args.reader.now) (left c.take.new.self) c.requires.whole c.in_ok-check.ensures.gives in
    let before = c.end_of-end.ensures.before in
    let long : c.end_of-end.result + 2 - c.args.at ≡ bytes_before bytes (left c.take.new.self) = omega (arith, more.0, before) in
    grind (arith, common_steps, long, before)

pub returns-clause-next : goal.returns-clause-next
returns-clause-next c =
    let bytes = drop c.args.at c.args.bytes.now in
    let more = two_more bytes c.in_ok-check.check (left c.args.reader.now) (left c.take.new.self) c.requires.whole c.in_ok-check.ensures.gives in
    let before = c.end_of-end.ensures.before in
    let size = length-drop c.args.at c.args.bytes.now in
    let place = c.requires.place in
    (omega (arith, before), omega (arith, before, more.1, size, place))
