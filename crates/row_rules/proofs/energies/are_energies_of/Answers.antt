use Rattle.std.proofs.Common.{◌≡◌, ◌%◌, length, arith}
use Rattle.std.proofs.lemmas.Bool.Decides.{nat_tests}
use Rattle.row_rules.proofs.EnergyTests.{counted}
use Rattle.row_rules.proofs.energies.are_energies_of.Goals as goal

pub returns : goal.returns
returns c =
    let none : length c.as_chunks.result.1.now ≡ 0 = grind (arith, nat_tests) in
    let whole : length c.args.bytes.now % 11 ≡ 0 = grind arith in
    counted c.args.frames c.args.bytes.now c.as_chunks.result.0.now c.as_chunks.ensures.front whole (cc)
