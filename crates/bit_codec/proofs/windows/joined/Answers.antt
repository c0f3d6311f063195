-- The quotient has room above the low bits, so nothing of it is lost.
use Rattle.std.proofs.Common.{arith}
use Rattle.bit_codec.proofs.ReaderLemmas.{joined_below}
use Rattle.bit_codec.proofs.windows.joined.Goals as goal

pub overflow_add-result : goal.overflow_add-result
overflow_add-result c =
    let below = joined_below c.args.quotient c.args.low c.args.rest c.requires.few c.requires.small (omega arith) in omega arith

pub returns-else-quotient-low : goal.returns-else-quotient-low
returns-else-quotient-low c =
    let below = joined_below c.args.quotient c.args.low c.args.rest c.requires.few c.requires.small (omega arith) in omega arith
