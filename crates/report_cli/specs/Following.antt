-- Runs of the program that follow one another.
use Rattle.std.specs.Prelude.{◌≡◌, ℕ, List, [], ◌∷◌, ◌++◌, Some, ⊤}
use Rattle.keeper_store.specs.declared.contents.Tables.{Tables}
use Rattle.library_model.specs.Exchanges.{Exchange}
use Rattle.library_model.specs.Stands.{tables_of}
use Rattle.library_model.specs.State.{State}
use Rattle.http_model.specs.Exchanges.{answered_all}
use Rattle.catalogue_core.specs.declared.libraries.Library.{Library}
use Rattle.library_http.specs.Sessions.{Session}
use Rattle.report_cli.specs.Connections.{ServeInTurn}
use Rattle.report_cli.specs.InTurn.{exchanges_in}
use Rattle.report_cli.specs.Running.{Course, answered, served, Runs}
use Rattle.report_cli.specs.Seen.{Seen, Leaves, world_of}

-- a run: its words, how far it came, what was seen before and after it, and its status
pub record Run : Type 0 where
  pub words : List (List ℕ)
  pub course : Course
  pub before : Seen
  pub now : Seen
  pub status : ℕ

-- The runs were made one after another, the first over these tables, and each other over those that the one before it left. The keeper
-- told them.
abbrev pub FollowOn : Tables → List Run → Type 0
FollowOn t [] = ⊤
FollowOn t (r ∷ rs) =
    Runs r.course r.words r.before r.now r.status × (r.before.keeper.tables ≡ Some t)
    × (next : Tables) × (r.now.keeper.tables ≡ Some next) × FollowOn next rs

-- A run that came so far made these exchanges from a state, and they led to that one: those of its session, or of its connections in
-- turn, over what its opening left, and none where it came to no command.
abbrev pub Makes : Course → Seen → Seen → State → List Exchange → State → Type 0
Makes (answered how count) before now s exchanges last =
    (requests : ℕ) × (opened : Seen) × Leaves before opened × (opened.sink ≡ before.sink) × (library : Library) × (library_now : Library)
    × (session : Session requests s how count opened.source now.source opened.sink now.sink (world_of library opened)
    (world_of library_now now)) × (exchanges ≡ answered_all session.exchanges) × (last ≡ session.made.last)
Makes (served end connections) before now s exchanges last =
    (requests : ℕ) × (opened : Seen) × Leaves before opened × (library : Library) × (library_now : Library)
    × (in_turn : ServeInTurn requests s connections last (world_of library opened) (world_of library_now now))
    × (exchanges ≡ exchanges_in requests s connections last (world_of library opened) (world_of library_now now) in_turn)
Makes _ before now s exchanges last = (exchanges ≡ []) × (last ≡ s)

-- The runs made these exchanges, each its own from the state that those of the runs before it led to, whose tables the keeper told then.
abbrev pub MakeInTurn : List Run → State → List Exchange → State → Type 0
MakeInTurn [] s exchanges last = (exchanges ≡ []) × (last ≡ s)
MakeInTurn (r ∷ rs) s exchanges last =
    (own : List Exchange) × (later : List Exchange) × (mid : State) × Makes r.course r.before r.now s own mid
    × (r.now.keeper.tables ≡ Some (tables_of mid)) × MakeInTurn rs mid later last × (exchanges ≡ own ++ later)
