use Rattle.std.proofs.Common.{◌^◌, ◌-◌, ◌≤◌, rules, arith}
use Rattle.std.proofs.Math.Nat.{pow-le-pow_right}
use Rattle.http_model.specs.declared.limits.TheConstants.{MOST_SIZE_DIGITS}
use Rattle.http_inbox.proofs.extents.size_of.Goals as goal

pub overflow_mul-number : goal.overflow_mul-number
overflow_mul-number c =
    let most : 10 ^ c.digits.digit-index ≤ 10 ^ (MOST_SIZE_DIGITS - 1) =
    pow-le-pow_right (omega arith) (let place : c.digits.digit-index ≤ MOST_SIZE_DIGITS - 1 = omega arith in place) in
    search rules

pub overflow_add-number : goal.overflow_add-number
overflow_add-number c =
    let most : 10 ^ c.digits.digit-index ≤ 10 ^ (MOST_SIZE_DIGITS - 1) =
    pow-le-pow_right (omega arith) (let place : c.digits.digit-index ≤ MOST_SIZE_DIGITS - 1 = omega arith in place) in
    search rules
