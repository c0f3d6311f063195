-- Ways out of deciding.
use Rattle.std.proofs.Common.{◌≡◌, ◌∙◌, ◌≤◌, ◌<◌, ℕ, true, false, List, nat_le, nat_lt, Result, arith, sym, subst}
use Rattle.std.specs.Prelude.{IfOk}
use Rattle.std.proofs.lemmas.Bool.Decides.{nat_tests}
use Rattle.std.proofs.lemmas.Result.{IfOk-weaker}
use Rattle.lib_base.specs.declared.outcomes.Memory.{Memory}
use Rattle.lib_base.specs.declared.limits.TheConstants.{NUMBERS_END}
use Rattle.library_model.specs.Asked.{change, command}
use Rattle.library_model.specs.Machine.{Decides, stays}
use Rattle.library_model.specs.State.{State}
use Rattle.library_model.specs.declared.messages.Command.{Command}
use Rattle.library_model.specs.declared.messages.Reply.{Reply}
use Rattle.catalogue_core.specs.Kept.{HoldsAgain, numbers_of, released_of}
use Rattle.catalogue_core.specs.Plans.{DecidedFrom, Leaves}
use Rattle.catalogue_core.specs.declared.libraries.Library.{Library}
use Rattle.catalogue_core.specs.declared.plans.Decision.{Decision}
use Rattle.catalogue_core.specs.declared.plans.Decision.TheVariants.{Refused}

-- A refusal that the machine decides on is what is decided.
pub refuses : (r : Result Decision Memory) (s : State) (token mark : List ℕ) (wanted : Command) (reply : Reply) → IfOk r (λ made. made ≡ Refused reply)
    → Decides s (change token mark (command wanted)) (stays reply) → IfOk r (DecidedFrom s token mark wanted)
refuses r s token mark wanted reply is decides =
    IfOk-weaker r (λ made. made ≡ Refused reply) (DecidedFrom s token mark wanted)
    (λ made same. subst (DecidedFrom s token mark wanted) (sym same) decides) is

-- no number is left
pub at_end : (n : ℕ) → NUMBERS_END ≤ n → nat_le NUMBERS_END n ≡ true
at_end n ends = grind (arith, nat_tests, ends)

-- one is left
pub not_at_end : (n : ℕ) → n < NUMBERS_END → nat_le NUMBERS_END n ≡ false
not_at_end n left = grind (arith, nat_tests, left)

-- What leaves the library after it is held again leaves it.
pub leaves_after : (library held decided : Library) (r : Result Decision Memory) → HoldsAgain library held → numbers_of held ≡ numbers_of library
    → released_of held ≡ released_of library → Leaves held decided r → Leaves library decided r
leaves_after library held decided r again numbers released leaves = record {
  held = λ t holds. leaves.held t (again t holds);
  numbers = leaves.numbers ∙ numbers;
  released = leaves.released ∙ released;
  room = leaves.room;
  own = leaves.own;
}

-- what is not above 0 is 0
pub none_above : (n : ℕ) → nat_lt 0 n ≡ false → n ≡ 0
none_above n none = grind (arith, nat_tests, none)
