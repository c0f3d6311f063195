use Rattle.std.proofs.Common.{◌≡◌, ◌≤◌, ◌+◌, ◌-◌, ℕ}
use Rattle.library_model.specs.State.{State}
use Rattle.catalogue_core.specs.Kept.{Keeps}
use Rattle.library_http.specs.Turns.{Passed, SoFar}
use Rattle.library_http.specs.World.{KeepsFaults, world}
use Rattle.library_http.proofs.serving.serve.Given as goal

abbrev pub invariant-requests : goal.invariant-requests
invariant-requests g l =
    (l.answered ≤ l.fn.requests)
    × ((start : State) → Keeps l.fn.library start → (more : ℕ) → l.answered + more ≡ l.fn.requests
    → SoFar l.fn.requests more start l.answered l.inbox (g.S.Source.shown l.fn.source) (g.S.Source.shown l.source)
    (g.K.Sink.shown l.fn.sink) (g.K.Sink.shown l.sink)
    (world l.fn.library (g.D.Keeper.shown l.fn.keeper) (g.V.Vault.shown l.fn.vault))
    (world l.library (g.D.Keeper.shown l.keeper) (g.V.Vault.shown l.vault)))
    × ((g.S.Source.shown l.fn.source).faults ≤ (g.S.Source.shown l.source).faults)
    × ((g.K.Sink.shown l.fn.sink).faults ≤ (g.K.Sink.shown l.sink).faults)
    × KeepsFaults (world l.fn.library (g.D.Keeper.shown l.fn.keeper) (g.V.Vault.shown l.fn.vault))
    (world l.library (g.D.Keeper.shown l.keeper) (g.V.Vault.shown l.vault))
    × ((more : ℕ) → l.answered + more ≡ l.fn.requests
    → Passed l.fn.requests more l.answered l.inbox (g.S.Source.shown l.fn.source) (g.S.Source.shown l.source))

abbrev pub decreases-requests : goal.decreases-requests
decreases-requests g l = l.fn.requests - l.answered
