-- Both parts are short.
use Rattle.std.proofs.Common.{◌≡◌, ◌*◌, ◌/◌, ◌-◌, ◌^◌, ℕ, ap, arith}
use Rattle.std.proofs.Math.Nat.{mod-le}
use Rattle.bit_codec.proofs.ReaderLemmas.{rice_below}
use Rattle.bit_codec.proofs.windows.rice_value.Goals as goal

pub overflow_add-result : goal.overflow_add-result
overflow_add-result c =
    let product : c.from.result * 2 ^ c.args.low ≡ c.args.quotient * 2 ^ c.args.low = ap (λ (n : ℕ). n * 2 ^ c.args.low) c.from.ensures in
    let high = mod-le (c.from.result * 2 ^ c.args.low) 18446744073709551616 in
    let below = rice_below c.args.quotient c.args.low (c.args.window / 2 ^ (63 - c.args.quotient - c.args.low)) (omega arith) c.requires.few c.requires.no_more in
    omega arith
