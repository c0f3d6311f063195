use Rattle.std.proofs.Common.{FitsSigned, w32, pos, ◌+ℤ◌, arith, rules}
use Rattle.std.proofs.lemmas.Int.{to_z-of_z}
use Rattle.sound_model.specs.Levels.{hundredths}
use Rattle.db_table.proofs.levels.hundredths.Goals as goal

pub returns-clause-value : goal.returns-clause-value
unfolding hundredths
returns-clause-value c =
    let fits : FitsSigned w32 (c.args.level +ℤ pos 1) = search rules in
    grind (arith, to_z-of_z)
