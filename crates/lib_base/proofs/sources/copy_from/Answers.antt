use Rattle.std.proofs.Common.{arith, drop, ◌≡◌, ◌≤◌, length, take, ap, ◌∙◌}
use Rattle.lib_base.proofs.Writing.{take-copied}
use Rattle.lib_base.proofs.sources.copy_from.Goals as goal

pub returns-clause-moves : goal.returns-clause-moves
returns-clause-moves c =
    let rest : c.split_at.result.1.now ≡ drop c.args.at c.args.bytes.now =
    c.split_at.ensures.back ∙ ap (drop c.args.at) c.as_slice.ensures in
    let fits : c.min-count.result ≤ length (drop c.args.at c.args.bytes.now) = omega (arith, ap length rest) in
    take-copied c.args.bytes.now c.copy_from_slice.new.self (drop c.min-count.result c.args.into.now) c.args.at
    c.min-count.result (c.copy_from_slice.ensures.after ∙ ap (take c.min-count.result) rest) fits
