use Rattle.std.proofs.Common.{◌≡◌, ◌∙◌, arith}
use Rattle.sound_model.specs.Texts.{millionths}
use Rattle.db_table.proofs.Digits.{peak_from_pieces}
use Rattle.db_table.proofs.texts.peak_text.Goals as goal

pub returns : goal.returns
unfolding millionths
returns c =
    let parts : c.div_ceil-millionths.result ≡ millionths c.args.peak =
    let value = c.div_ceil-millionths.ensures in let same = c.from.ensures in omega (arith, value, same) in
    c.of.ensures ∙ (rw c.laid_out.ensures at c.in_ok-text.ensures.ok) ∙ peak_from_pieces c.args.peak c.div_ceil-millionths.result parts
