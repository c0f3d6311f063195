use Rattle.std.proofs.Common.{◌≡◌, ap, ◌∙◌, w32, unsigned_abs}
use Rattle.std.proofs.lemmas.Int.{to_z-of_z}
use Rattle.std.specs.Int.{is_negative}
use Rattle.sound_model.specs.Texts.{sign_text}
use Rattle.db_table.proofs.Digits.{sign_of_negative, sign_of_other, decimal_from_pieces}
use Rattle.db_table.proofs.texts.decimal_text.Goals as goal
use Rattle.db_table.proofs.texts.decimal_text.Goals.{then-is_negative, else-is_negative}

pub returns : goal.returns
returns c =
    let value = to_z-of_z w32 c.args.value c.ranges.value in
    let answer : c.is_negative.result ≡ is_negative c.args.value = c.is_negative.ensures ∙ ap is_negative value in
    let sign : c.if-is_negative.sign.now ≡ sign_text c.args.value =
    elim c.if-is_negative.branch [
      | then-is_negative w ↦ ap (λ s. s.now) w.sign-is ∙ sign_of_negative c.args.value c.is_negative.result answer w.if-is_negative.true
      | else-is_negative w ↦ ap (λ s. s.now) w.sign-is ∙ sign_of_other c.args.value c.is_negative.result answer w.if-is_negative.false
    ] in
    c.of.ensures ∙ (rw c.laid_out.ensures at c.in_ok-text.ensures.ok)
    ∙ decimal_from_pieces c.args.value c.if-is_negative.sign.now c.unsigned_abs-size.result sign
    (c.unsigned_abs-size.ensures.value ∙ ap unsigned_abs value)
