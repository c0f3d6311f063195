use Rattle.std.proofs.Common.{◌≡◌, [], Vec, Global, map, replicate}
use Rattle.std.specs.Prelude.{ℤ}
use Rattle.flac_stream.proofs.decoding.empty_lists.Given as goal

abbrev pub invariant-loop : goal.invariant-loop
invariant-loop l = map (λ (v : Vec ℤ Global). v.items) l.lists.items ≡ replicate l.counter []
