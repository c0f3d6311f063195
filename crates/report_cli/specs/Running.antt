-- What a run of the program does.
use Rattle.std.specs.Prelude.{◌≡◌, ◌≤◌, ◌⊎◌, ℕ, List, [], ◌∷◌, ◌++◌, Option, None, Some, IfSome, IsSome}
use Rattle.std.specs.List.{AllByRecursion}
use Rattle.lib_base.specs.Faults.{Rose, CountsFault}
use Rattle.cli_words.specs.Commands.{command_of}
use Rattle.cli_words.specs.declared.commands.Command.{Command}
use Rattle.cli_words.specs.declared.commands.Command.TheVariants as command
use Rattle.keeper_store.specs.declared.contents.Tables.{Tables}
use Rattle.library_model.specs.declared.bad_rows.BadRow.{BadRow}
use Rattle.library_model.specs.RowRules.{IsFirstBad}
use Rattle.library_model.specs.Stands.{IsValid, tables_of}
use Rattle.library_model.specs.State.{State}
use Rattle.http_model.specs.Requests.{Framed, End, ended, unframeable, turns, AreRequests}
use Rattle.catalogue_core.specs.declared.libraries.Library.{Library}
use Rattle.catalogue_core.specs.declared.libraries.OpenRefusal.{OpenRefusal}
use Rattle.catalogue_core.specs.declared.libraries.OpenRefusal.TheVariants as refusal
use Rattle.catalogue_core.specs.Opening.{IsOpened}
use Rattle.library_http.specs.declared.serving.How.{How}
use Rattle.library_http.specs.Framings.{IsFramed}
use Rattle.library_http.specs.Sessions.{Session}
use Rattle.report_cli.specs.declared.statuses.Status.{Status}
use Rattle.report_cli.specs.declared.statuses.Status.TheVariants as status
use Rattle.report_cli.specs.Connections.{Connection, ServeFrom, HandsBack, EndsWith, EndsByBytes, FramedOf}
use Rattle.report_cli.specs.Lines.{usage_line, bad_row_line, Prints, IsBrokenOff}
use Rattle.report_cli.specs.Seen.{Seen, world_of, Leaves}
use Rattle.report_cli.specs.Statuses.{code, status_of}

-- ---- the commands

-- A session of at most so many requests over a library ran, and ended so, with so many requests answered whole. It ran from each valid
-- state that has these tables; there is one at most, if the blobs are told too. What it framed is so whatever the tables are.
pub record SessionRan (requests : ℕ) (how : How) (answered : ℕ) (tables : Tables) (library : Library) (before now : Seen) : Type 0 where
  pub library_now : Library
  pub session : (s : State) → IsValid s → tables ≡ tables_of s → Session requests s how answered before.source now.source
      before.sink now.sink (world_of library before) (world_of library_now now)
  pub framed : IsFramed how requests answered before.source now.source
  pub door : now.door ≡ before.door

-- These connections were served over a library, of so many that were to be, with at most so many requests each, and it ended so. They
-- were served from each valid state that has these tables. What their sessions framed, and so how they ended, is so whatever the tables
-- are.
pub record ServingRan (count requests : ℕ) (end : Status) (connections : List Connection) (tables : Tables) (library : Library)
    (before now : Seen) : Type 0 where
  pub library_now : Library
  pub serves : (s : State) → IsValid s → tables ≡ tables_of s
      → ServeFrom requests s connections (world_of library before) (world_of library_now now)
  pub framed : AllByRecursion (FramedOf requests) connections
  pub ends : AllByRecursion (EndsByBytes requests) connections
  pub door : HandsBack connections before.door now.door
  pub lines : EndsWith end count connections before.sink.written now.sink.written
  pub source : now.source ≡ before.source

-- The command was carried out over a library, with that status.
abbrev pub CarriesOut : Command → Status → Tables → Library → Seen → Seen → Type 0
CarriesOut (command.Session workers requests) end tables library before now =
    (how : How) × (answered : ℕ) × SessionRan requests how answered tables library before now × (end ≡ status_of how)
CarriesOut (command.Serve count workers requests) end tables library before now =
    (connections : List Connection) × ServingRan count requests end connections tables library before now

-- The library of the keeper's tables was opened, of which no row breaks a rule, and then a command ran over it.
pub record Opened (Ran : Tables → Library → Seen → Seen → Type 0) (before now : Seen) : Type 0 where
  pub opened : Seen
  pub opens : Leaves before opened
  pub unwritten : opened.sink ≡ before.sink
  pub library : Library
  pub is_opened : IsOpened before.keeper.tables library
  pub ran : Ran is_opened.tables library opened now

-- ---- a run

-- how far a run comes
pub data Course : Type 0 where
  -- no memory was found to read the words
  unread : Course
  -- the words are no command
  not_a_command : Course
  -- the library was not opened
  not_opened : OpenRefusal → Course
  -- a session ended so, with so many requests answered whole
  answered : How → ℕ → Course
  -- serving ended so, with these connections served
  served : Status → List Connection → Course

-- the words are a command
abbrev pub IsCommand : List (List ℕ) → Type 0
IsCommand words = IsSome (command_of words)

-- What a run over these words does that comes so far and ends with status n.
abbrev pub Runs : Course → List (List ℕ) → Seen → Seen → ℕ → Type 0
Runs unread words before now n = Leaves before now × (now.sink ≡ before.sink) × (n ≡ code status.Memory)
Runs not_a_command words before now n =
    (command_of words ≡ None) × Leaves before now × Prints usage_line status.Usage before.sink now.sink n
Runs (not_opened refusal.KeeperFault) words before now n =
    IsCommand words × Leaves before now × (now.sink ≡ before.sink) × (n ≡ code status.KeeperFault)
Runs (not_opened refusal.Memory) words before now n =
    IsCommand words × Leaves before now × (now.sink ≡ before.sink) × (n ≡ code status.Memory)
Runs (not_opened (refusal.BadRow bad)) words before now n =
    IsCommand words × Leaves before now × IfSome before.keeper.tables (λ t. IsFirstBad t (Some bad))
    × Prints (bad_row_line bad) status.BadRow before.sink now.sink n
Runs (answered how count) words before now n =
    (workers : ℕ) × (requests : ℕ) × (command_of words ≡ Some (command.Session workers requests))
    × Opened (SessionRan requests how count) before now × (n ≡ code (status_of how))
Runs (served end connections) words before now n =
    (count : ℕ) × (workers : ℕ) × (requests : ℕ) × (command_of words ≡ Some (command.Serve count workers requests))
    × Opened (ServingRan count requests end connections) before now × (n ≡ code end)

-- ---- the causes of statuses

-- the status of a run whose input ends so
abbrev pub status_at : End → Status
status_at ended = status.Ended
status_at (unframeable refusal) = status.Unframeable
status_at turns = status.Turns

-- a row of the tables breaks a rule
abbrev pub HasBadRow : Tables → Type 0
HasBadRow tables = (bad : BadRow) × IsFirstBad tables (Some bad)

-- the status is that of the end of the input, of whose requests so many are answered at most
abbrev pub IsOfEnd : ℕ → List ℕ → ℕ → Type 0
IsOfEnd requests input n = (asked : List Framed) × (end : End) × AreRequests requests input asked end × (n ≡ code (status_at end))

-- The status of a command over tables of which no row breaks a rule: that of the end of the input for a session, and 0 for serving.
abbrev pub IsFixedOver : Command → Option (List ℕ) → ℕ → Type 0
IsFixedOver (command.Session workers requests) left n = IfSome left (λ input. IsOfEnd requests input n)
IsFixedOver (command.Serve count workers requests) left n = n ≡ code status.Ended

-- The status that words, an input and tables fix: that of words that are no command, that of tables with a row that breaks a rule, or
-- that of the command.
abbrev pub IsFixed : Option Command → Option (List ℕ) → Option Tables → ℕ → Type 0
IsFixed None left told n = n ≡ code status.Usage
IsFixed (Some command) left told n =
    IfSome told (λ t. (HasBadRow t × (n ≡ code status.BadRow)) ⊎ (IsFirstBad t None × IsFixedOver command left n))

-- the command is a session, in whose input a byte is left behind as many requests as it may answer
abbrev pub HasFurther : Command → Option (List ℕ) → Type 0
HasFurther (command.Session workers requests) left =
    IfSome left (λ input. (asked : List Framed) × AreRequests requests input asked turns)
HasFurther (command.Serve count workers requests) left = ⊥

-- The causes of the statuses. No count of faults falls, and the status of a fault of source, sink, keeper or door means that its count
-- rose. The status of words that are no command is theirs alone, and that of a bad row such tables' alone; those words and tables have
-- no other status, but where the run broke off, or the keeper failed. Only a session whose input goes on has the status of a further
-- request. Where none of these counts rose, the status is the one that words, input and tables fix, or memory was wanting.
pub record Causes (words : List (List ℕ)) (before now : Seen) (n : ℕ) : Type 0 where
  pub of_source : CountsFault (n ≡ code status.SourceFault) before.source.faults now.source.faults
  pub of_sink : CountsFault (n ≡ code status.SinkFault) before.sink.faults now.sink.faults
  pub of_keeper : CountsFault (n ≡ code status.KeeperFault) before.keeper.faults now.keeper.faults
  pub of_vault : before.vault.faults ≤ now.vault.faults
  pub of_door : CountsFault (n ≡ code status.DoorFault) before.door.faults now.door.faults
  pub usage_cause : n ≡ code status.Usage → command_of words ≡ None
  pub usage : command_of words ≡ None → (n ≡ code status.Usage) ⊎ IsBrokenOff n
  pub bad_row_cause : n ≡ code status.BadRow → IfSome before.keeper.tables HasBadRow
  pub bad_row : IsCommand words → IfSome before.keeper.tables (λ t. HasBadRow t
      → (n ≡ code status.BadRow) ⊎ ((n ≡ code status.KeeperFault) ⊎ IsBrokenOff n))
  pub turns_cause : n ≡ code status.Turns → (command : Command) × (command_of words ≡ Some command) × HasFurther command before.source.left
  pub complete : ¬ Rose before.source.faults now.source.faults → ¬ Rose before.sink.faults now.sink.faults
      → ¬ Rose before.keeper.faults now.keeper.faults → ¬ Rose before.door.faults now.door.faults
      → (n ≡ code status.Memory) ⊎ IsFixed (command_of words) before.source.left before.keeper.tables n
