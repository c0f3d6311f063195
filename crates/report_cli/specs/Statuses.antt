-- The exit statuses as numbers.
use Rattle.std.specs.Prelude.{ℕ, ⊤}
use Rattle.library_http.specs.declared.serving.How.{How}
use Rattle.library_http.specs.declared.serving.How.TheVariants as how
use Rattle.report_cli.specs.declared.statuses.Status.{Status}
use Rattle.report_cli.specs.declared.statuses.Status.TheVariants.{Ended, Usage, Unframeable, SourceFault, SinkFault, Memory, KeeperFault, BadRow, Turns, DoorFault}

-- the number of a status
abbrev pub code : Status → ℕ
code Ended = 0
code Usage = 1
code Unframeable = 2
code SourceFault = 3
code SinkFault = 4
code Memory = 5
code KeeperFault = 6
code BadRow = 7
code Turns = 8
code DoorFault = 10

-- the status of a run whose session ended so
abbrev pub status_of : How → Status
status_of how.Ended = Ended
status_of how.Unframeable = Unframeable
status_of how.Turns = Turns
status_of how.SourceFault = SourceFault
status_of how.SinkFault = SinkFault
status_of how.Memory = Memory

-- a status of a command that was carried out
abbrev pub IsOfCommand : Status → Type 0
IsOfCommand Usage = ⊥
IsOfCommand KeeperFault = ⊥
IsOfCommand BadRow = ⊥
IsOfCommand _ = ⊤
