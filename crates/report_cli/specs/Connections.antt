-- What serving connections does, one after another.
use Rattle.std.specs.Prelude.{◌≡◌, ◌<◌, ◌≤◌, ◌+◌, ◌⊎◌, ℕ, false, List, [], ◌∷◌, ◌++◌, length, map, sum_by, Option, Some, None, Result, Ok, Err, IfSome, ⊤}
use Rattle.std.specs.List.{AllByRecursion}
use Rattle.std.specs.Io.KnownBytes.{Appends}
use Rattle.lib_base.specs.Doors.{DoorView}
use Rattle.lib_base.specs.Sources.{SourceView}
use Rattle.lib_base.specs.Writes.{AppendsPart, SinkView}
use Rattle.keeper_store.specs.Goes.{Goes}
use Rattle.library_model.specs.State.{State}
use Rattle.http_model.specs.declared.refusals.FramingRefusal.{FramingRefusal}
use Rattle.http_model.specs.Refusals.{framing_refusal}
use Rattle.http_model.specs.Requests.{Framed, End, ended, turns, unframeable, RequestsOf}
use Rattle.catalogue_core.specs.Kept.{Keeps}
use Rattle.library_http.specs.declared.serving.How.{How}
use Rattle.library_http.specs.declared.serving.How.TheVariants as how
use Rattle.library_http.specs.Acts.{Leads}
use Rattle.library_http.specs.Framings.{IsFramed}
use Rattle.library_http.specs.Sessions.{Session, AppendsInPart}
use Rattle.library_http.specs.World.{World, KeepsFaults, RoseBy}
use Rattle.report_cli.specs.declared.statuses.Status.{Status}
use Rattle.report_cli.specs.declared.statuses.Status.TheVariants.{Ended, SinkFault, Memory, DoorFault}
use Rattle.report_cli.specs.Lines.{end_line, end_word}

-- A connection that was served: what its halves told when it was let in, and when it was handed back, how its session ended, and how
-- many requests that answered.
pub record Connection : Type 0 where
  pub source : SourceView
  pub source_now : SourceView
  pub sink : SinkView
  pub sink_now : SinkView
  pub how : How
  pub answered : ℕ

-- ---- the library

-- the session of a connection, of at most so many requests, from a state
abbrev pub SessionOf : ℕ → State → Connection → World → World → Type 0
SessionOf requests s c before now =
    Session requests s c.how c.answered c.source c.source_now c.sink c.sink_now before now

-- The connections were served in order, each from the state and the world that the one before it left.
abbrev pub ServeInTurn : ℕ → State → List Connection → State → World → World → Type 0
ServeInTurn requests s [] last before now = (last ≡ s) × (now ≡ before)
ServeInTurn requests s (c ∷ cs) last before now =
    (mid : World) × (session : SessionOf requests s c before mid) × ServeInTurn requests session.made.last cs last mid now

-- The connections were served in order from a state, up to one that the library keeps, and of which the tables and the files are, where
-- they were those of the first.
pub record ServeFrom (requests : ℕ) (s : State) (connections : List Connection) (before now : World) : Type 0 where
  pub last : State
  pub in_turn : ServeInTurn requests s connections last before now
  pub leads : Leads s last before now

-- ---- the door

-- known connections lose those at their front, which are what the sources of these held
abbrev pub LosesAll : List Connection → List (List ℕ) → List (List ℕ) → Type 0
LosesAll connections old new =
    (inputs : List (List ℕ)) × (map (λ (c : Connection). c.source.left) connections ≡ map Some inputs) × (old ≡ inputs ++ new)

-- what is known of ended connections grows by what the sinks of these held in the end
abbrev pub GainsAll : List Connection → List (List ℕ) → List (List ℕ) → Type 0
GainsAll connections old new =
    (outputs : List (List ℕ)) × (map (λ (c : Connection). c.sink_now.written) connections ≡ map Some outputs) × (new ≡ old ++ outputs)

-- nothing was written when the connection was let in
abbrev pub BeginsEmpty : Connection → Type 0
BeginsEmpty c = IfSome c.sink.written (λ bytes. bytes ≡ [])

-- one where a connection ended by a fault of its source
abbrev pub fault_of_source : How → ℕ
fault_of_source how.SourceFault = 1
fault_of_source _ = 0

-- one where it ended by a fault of its sink
abbrev pub fault_of_sink : How → ℕ
fault_of_sink how.SinkFault = 1
fault_of_sink _ = 0

abbrev pub source_fault : Connection → ℕ
source_fault c = fault_of_source c.how

abbrev pub sink_fault : Connection → ℕ
sink_fault c = fault_of_sink c.how

-- The door let these connections in, one after another, and each was handed back, so that none is out. As many of its sources as ended
-- by a fault of theirs are counted, or more, and so of its sinks.
pub record HandsBack (connections : List Connection) (old new : DoorView) : Type 0 where
  pub none_out : new.is_out ≡ false
  pub waiting : Goes (LosesAll connections) old.waiting new.waiting
  pub ended : Goes (GainsAll connections) old.ended new.ended
  pub fresh : AllByRecursion BeginsEmpty connections
  pub later : old.faults ≤ new.faults
  pub failed_sources : RoseBy (sum_by source_fault connections) old.failed_sources new.failed_sources
  pub failed_sinks : RoseBy (sum_by sink_fault connections) old.failed_sinks new.failed_sinks

-- ---- the lines

-- the line of a connection of that number
abbrev pub line_of : ℕ → Connection → List ℕ
line_of number c = end_line number (end_word c.how) c.answered

-- the lines of connections, numbered from there
abbrev pub lines_from : ℕ → List Connection → List ℕ
lines_from number [] = []
lines_from number (c ∷ cs) = line_of number c ++ lines_from (number + 1) cs

-- The lines of all but the last connection were written, and a part of that one's line.
abbrev pub LastInPart : List Connection → Option (List ℕ) → Option (List ℕ) → Type 0
LastInPart connections old new =
    (others : List Connection) × (last : Connection) × (connections ≡ others ++ last ∷ [])
    × AppendsInPart (lines_from 1 others) (line_of (length others + 1) last) old new

-- Which lines were written by the serving of so many connections, which ended with that status: all, or those of the connections that
-- the door let in before it failed, or memory was wanting; or the last of them was written in part.
abbrev pub EndsWith : Status → ℕ → List Connection → Option (List ℕ) → Option (List ℕ) → Type 0
EndsWith Ended count connections old new = (length connections ≡ count) × Appends old new (lines_from 1 connections)
EndsWith DoorFault count connections old new = (length connections < count) × Appends old new (lines_from 1 connections)
EndsWith SinkFault count connections old new = (length connections ≤ count) × LastInPart connections old new
EndsWith Memory count connections old new =
    ((length connections < count) × Appends old new (lines_from 1 connections))
    ⊎ ((length connections ≤ count) × LastInPart connections old new)
EndsWith _ count connections old new = ⊥

-- ---- the ends by the bytes

-- a connection that ended so, for no fault and no want of memory, has requests that end so
abbrev pub IsEnd : How → End → Type 0
IsEnd how.Ended end = end ≡ ended
IsEnd how.Turns end = end ≡ turns
IsEnd how.Unframeable end = (cause : FramingRefusal) × (end ≡ unframeable (framing_refusal cause))
IsEnd how.SourceFault end = ⊤
IsEnd how.SinkFault end = ⊤
IsEnd how.Memory end = ⊤

-- the connection ended as the requests of the bytes do that its source held, of which so many are answered at most
abbrev pub EndsByBytes : ℕ → Connection → Type 0
EndsByBytes requests c =
    IfSome c.source.left (λ input. (asked : List Framed) (end : End) → RequestsOf requests input asked end → IsEnd c.how end)

-- what the session of a connection, of at most so many requests, framed of what its source held
abbrev pub FramedOf : ℕ → Connection → Type 0
FramedOf requests c = IsFramed c.how requests c.answered c.source c.source_now

-- ---- what serving does

-- Serving these connections does this from each state that the library keeps, and frames this whatever it keeps.
pub record Serves (requests : ℕ) (connections : List Connection) (door_before door_now : DoorView) (before now : World) : Type 0 where
  pub from : (s : State) → Keeps before.library s → ServeFrom requests s connections before now
  pub framed : AllByRecursion (FramedOf requests) connections
  pub door : HandsBack connections door_before door_now
  pub faults : KeepsFaults before now

-- what a turn wrote that served these connections, one or none, by how it ended
abbrev pub TurnWrites : ℕ → Result (Unit {0}) Status → List Connection → Option (List ℕ) → Option (List ℕ) → Type 0
TurnWrites number (Ok done) connections old new =
    (c : Connection) × (connections ≡ c ∷ []) × Appends old new (line_of number c)
TurnWrites number (Err SinkFault) connections old new =
    (c : Connection) × (connections ≡ c ∷ []) × AppendsPart old new (line_of number c)
TurnWrites number (Err DoorFault) connections old new = (connections ≡ []) × (new ≡ old)
TurnWrites number (Err Memory) connections old new =
    ((connections ≡ []) × (new ≡ old))
    ⊎ ((c : Connection) × (connections ≡ c ∷ []) × AppendsPart old new (line_of number c))
TurnWrites number (Err _) connections old new = ⊥
