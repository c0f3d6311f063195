use Rattle.std.proofs.Common.{◌+◌, ◌≤◌, arith}
use Rattle.std.proofs.lemmas.Nat.{mul-le}
use Rattle.flac_stream.proofs.frames.is_too_much.Goals as goal

pub overflow_mul-total : goal.overflow_mul-total
overflow_mul-total c =
    let few : c.from.result ≤ 6 = omega arith in
    let most : c.args.before + c.from-2.result ≤ 134283264 = omega arith in
    let whole = mul-le c.from.result (c.args.before + c.from-2.result) 6 134283264 few most in omega (arith, whole)
