-- Connections that are served one after another are answered as one list of requests, so an accepted token acts once over all of them.
use Rattle.std.proofs.Common.{ℕ, List, [], ◌∷◌, refl}
use Rattle.library_model.specs.Exchanges.{Answers}
use Rattle.library_model.specs.Repeats.{ChangesOnce}
use Rattle.library_model.specs.State.{State}
use Rattle.library_model.proofs.ActsOnce.{accepted_once}
use Rattle.library_model.proofs.Joining.{Answers-join}
use Rattle.http_model.specs.Exchanges.{answered_all}
use Rattle.library_http.specs.World.{World}
use Rattle.report_cli.specs.Connections.{Connection, ServeInTurn}
use Rattle.report_cli.specs.InTurn.{exchanges_in, released_in}

-- The requests of all the connections are answered from the first state to the last.
pub in_turn_answers : (requests : ℕ) (s : State) (connections : List Connection) (last : State) (before now : World)
    (served : ServeInTurn requests s connections last before now)
    → Answers s (exchanges_in requests s connections last before now served) last
    (released_in requests s connections last before now served)
in_turn_answers requests s [] last before now served = (served.0, refl)
in_turn_answers requests s (c ∷ cs) last before now served =
    let made = served.1.made in
    Answers-join s made.last last (answered_all served.1.exchanges) (exchanges_in requests made.last cs last served.0 now served.2)
    made.released (released_in requests made.last cs last served.0 now served.2) made.answers
    (in_turn_answers requests made.last cs last served.0 now served.2)

-- So of all requests with one token, whichever connections bring them, one at most changes the library.
pub in_turn_once : (requests : ℕ) (s : State) (connections : List Connection) (last : State) (before now : World)
    (served : ServeInTurn requests s connections last before now) (token : List ℕ)
    → ChangesOnce token s (exchanges_in requests s connections last before now served) last
    (released_in requests s connections last before now served) (in_turn_answers requests s connections last before now served)
in_turn_once requests s connections last before now served token =
    accepted_once s (exchanges_in requests s connections last before now served) last
    (released_in requests s connections last before now served) token
    (in_turn_answers requests s connections last before now served)
