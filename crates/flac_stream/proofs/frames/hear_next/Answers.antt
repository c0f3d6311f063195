use Rattle.std.proofs.Common.{◌≡◌, ◌≤◌, ◌*◌, ℕ, arith}
use Rattle.std.proofs.lemmas.Nat.{mul-le}
use Rattle.flac_stream.proofs.Framing.{frame_refused, hears_more}
use Rattle.flac_stream.proofs.frames.hear_next.Goals as goal

-- a block fits
fits : (channels block before cells : ℕ) → block ≤ 65536 → channels * 65536 ≤ before → cells ≡ before → channels * block ≤ cells
fits channels block before cells most room same =
    let itself : channels ≤ channels = omega arith in
    let more = mul-le channels block channels 65536 itself most in omega (arith, more, room, same)

pub returns-in-Err-clause-err : goal.returns-in-Err-clause-err
returns-in-Err-clause-err c = λ start started h.
    let met = c.in-Err.ensures.frame in
    frame_refused c.args.info.now c.args.bytes.now start c.args.at _ _ _ c.in-Err.broken started h c.requires.place met.0 met.1 met.2

pub returns-in-Ok-add-clause-heard : goal.returns-in-Ok-add-clause-heard
returns-in-Ok-add-clause-heard c =
    hears_more c.args.info.now c.args.bytes.now c.args.at c.args.heard.now c.add.new.self c.read_next.new.scratch.cells c.in-Ok.end c.requires.some
    (fits c.args.info.now.channels c.in-Ok.end.block _ _ c.in-Ok.ensures.block.1 c.requires.room c.in-Ok.ensures.room)
    c.in-Ok.ensures.frame c.in-Ok.ensures.next.0 c.in-Ok.ensures.next.1
    c.in-Ok-add.ensures.fed c.in-Ok-add.ensures.count c.in-Ok-add.ensures.places
