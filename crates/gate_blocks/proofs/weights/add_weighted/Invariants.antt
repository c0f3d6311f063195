use Rattle.std.proofs.Common.{◌≡◌, ◌≤◌, ◌<◌, ◌+◌, ◌*◌, ℕ, get_or}
use Rattle.gate_blocks.proofs.weights.add_weighted.Given as goal

abbrev pub invariant-loop-place : goal.invariant-loop-place
invariant-loop-place l = record {
  added : (j : ℕ) → j < l.place → get_or l.total j 0 ≡ get_or l.initial.total j 0 + l.weight * get_or l.one j 0;
  kept : (j : ℕ) → l.place ≤ j → get_or l.total j 0 ≡ get_or l.initial.total j 0;
}
