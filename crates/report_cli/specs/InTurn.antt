-- The requests of connections that were served one after another, as one list.
use Rattle.std.specs.Prelude.{ℕ, List, [], ◌∷◌, ◌++◌}
use Rattle.library_model.specs.Exchanges.{Exchange}
use Rattle.library_model.specs.State.{State}
use Rattle.http_model.specs.Exchanges.{answered_all}
use Rattle.library_http.specs.World.{World}
use Rattle.report_cli.specs.Connections.{Connection, ServeInTurn}

-- the exchanges of all of them, those of one connection behind those of the one before it
abbrev pub exchanges_in : (requests : ℕ) (s : State) (connections : List Connection) (last : State) (before now : World)
    → ServeInTurn requests s connections last before now → List Exchange
exchanges_in requests s [] last before now served = []
exchanges_in requests s (c ∷ cs) last before now served =
    answered_all served.1.exchanges ++ exchanges_in requests served.1.made.last cs last served.0 now served.2

-- the takes that these took out
abbrev pub released_in : (requests : ℕ) (s : State) (connections : List Connection) (last : State) (before now : World)
    → ServeInTurn requests s connections last before now → List ℕ
released_in requests s [] last before now served = []
released_in requests s (c ∷ cs) last before now served =
    served.1.made.released ++ released_in requests served.1.made.last cs last served.0 now served.2
