use Rattle.std.proofs.Common.{◌*◌, ◌≤◌, ◌^◌, arith}
use Rattle.std.proofs.Math.Nat.{mul-le-mul_left}
use Rattle.sound_model.proofs.LevelTable.{first_entry, later_places_pass}
use Rattle.db_table.proofs.levels.greatest_place.Goals as goal

pub loop-high-init : goal.loop-high-init
loop-high-init c =
    let more : 10 ^ 9 * c.args.b ≤ 10 ^ 9 * c.args.a = mul-le-mul_left (10 ^ 9) c.requires.ordered in
    record {
      in_order = omega arith;
      is_place = omega arith;
      reached = rw first_entry (omega arith);
      passed = λ k after within. absurd (omega arith);
    }

pub loop-high-preserved : goal.loop-high-preserved
loop-high-preserved c = record {
  in_order = omega arith;
  is_place = omega arith;
  reached = c.loop-high.invariant.reached;
  passed = later_places_pass _ _ _ (rw (c.from.ensures, c.entry.ensures.value) at c.if-from-b.false);
}
