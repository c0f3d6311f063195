-- What one turn of serving does.
use Rattle.std.specs.Prelude.{◌≡◌, ◌≢◌, ◌⊎◌, ◌+◌, ℕ, suc, Bool, true, false, List, [], ◌++◌, length, Option, Some, None, Result, Ok, Err, ⊤}
use Rattle.std.specs.Io.KnownBytes.{Appends, Consumes, IsAtEnd}
use Rattle.httparse.specs.Grammar.{RequestHead}
use Rattle.lib_base.specs.Sources.{SourceView}
use Rattle.lib_base.specs.Writes.{AppendsPart, SinkView}
use Rattle.lib_base.specs.declared.outcomes.Outside.{Outside}
use Rattle.lib_base.specs.declared.outcomes.Outside.TheVariants as outside
use Rattle.library_model.specs.declared.messages.Reply.{Reply}
use Rattle.library_model.specs.declared.refusals.Refusal.TheVariants as cause
use Rattle.library_model.specs.Replies.{refusal}
use Rattle.library_model.specs.State.{State}
use Rattle.http_model.specs.Asking.{asked_of}
use Rattle.http_model.specs.declared.refusals.FramingRefusal.{FramingRefusal}
use Rattle.http_model.specs.declared.refusals.FramingRefusal.TheVariants.{Frame}
use Rattle.http_model.specs.Exchanges.{spelled_to, ending}
use Rattle.http_model.specs.Refusals.{framing_refusal}
use Rattle.http_model.specs.Requests as model
use Rattle.http_model.specs.Requests.{Framed, Frames, IsUnframeable, closes, unframeable}
use Rattle.http_inbox.specs.Inboxes.{Covers}
use Rattle.keeper_store.specs.Keepers.{KeeperView}
use Rattle.keeper_store.specs.Vaults.{VaultView}
use Rattle.catalogue_core.specs.declared.libraries.Library.{Library}
use Rattle.catalogue_core.specs.declared.prepared.Prepared.{Prepared}
use Rattle.catalogue_core.specs.Committing.{Commits}
use Rattle.catalogue_core.specs.Kept.{Keeps}
use Rattle.catalogue_core.specs.Sweeping.{Sweeps}
use Rattle.library_http.specs.declared.serving.How.{How}
use Rattle.library_http.specs.declared.serving.How.TheVariants as how
use Rattle.library_http.specs.declared.serving.Turn.{Turn}
use Rattle.library_http.specs.declared.serving.Turn.TheVariants.{Answered, Closed, Stopped}
use Rattle.library_http.specs.Acts.{Acts}
use Rattle.library_http.specs.Framings.{AllStay}
use Rattle.library_http.specs.Sessions.{Serves, Session}
use Rattle.library_http.specs.World.{World}

-- the reply, or that to want of memory
abbrev pub reply_given : Option Reply → Reply
reply_given (Some reply) = reply
reply_given None = refusal cause.Memory

-- a request was answered from s, and its reply was written
pub record Replied (s : State) (q : Framed) (sink_before sink_now : SinkView) (before now : World) : Type 0 where
  pub reply : Reply
  pub acts : Acts s (asked_of q) reply before now
  pub written : Appends sink_before.written sink_now.written (spelled_to q reply)

-- a request was answered from s, and a part of its reply was written
pub record PartlyReplied (s : State) (q : Framed) (sink_before sink_now : SinkView) (before now : World) : Type 0 where
  pub reply : Reply
  pub acts : Acts s (asked_of q) reply before now
  pub written : AppendsPart sink_before.written sink_now.written (spelled_to q reply)

-- what writing a reply, after which the session closes or not, makes of the turn
abbrev pub turn_of : Bool → Result (Unit {0}) Outside → Turn
turn_of false (Ok done) = Answered
turn_of true (Ok done) = Closed
turn_of shuts (Err outside.Failed) = Stopped how.SinkFault
turn_of shuts (Err outside.Memory) = Stopped how.Memory

-- a turn that stopped for a fault of the sink or for want of memory broke off in its reply
abbrev pub StopsIn : How → State → Framed → SinkView → SinkView → World → World → Type 0
StopsIn how.SinkFault s q sink_before sink_now before now = PartlyReplied s q sink_before sink_now before now
StopsIn how.Memory s q sink_before sink_now before now = PartlyReplied s q sink_before sink_now before now
StopsIn how.Ended s q sink_before sink_now before now = ⊥
StopsIn how.Unframeable s q sink_before sink_now before now = ⊥
StopsIn how.Turns s q sink_before sink_now before now = ⊥
StopsIn how.SourceFault s q sink_before sink_now before now = ⊥

-- what a turn does with a request that was framed
abbrev pub TurnsOn : Turn → State → Framed → SinkView → SinkView → World → World → Type 0
TurnsOn Answered s q sink_before sink_now before now = (closes q.head ≡ false) × Replied s q sink_before sink_now before now
TurnsOn Closed s q sink_before sink_now before now = (closes q.head ≡ true) × Replied s q sink_before sink_now before now
TurnsOn (Stopped end) s q sink_before sink_now before now = StopsIn end s q sink_before sink_now before now

-- A request was framed: it begins the bytes that were held, and were taken behind them, however they go on, and what is held now follows
-- it.
pub record Finds (held held_now : List ℕ) (source_before source_now : SourceView) : Type 0 where
  pub taken : List ℕ
  pub content : Consumes source_before.left source_now.left taken
  pub framed : Framed
  pub frames : (more : List ℕ) → Frames ((held ++ taken) ++ more) framed (held_now ++ more)

-- ---- what is found, whatever the library holds

-- what a turn found, that stopped so, of what was held and taken: nothing, what can't be framed, nothing or what can't be framed as it is,
-- or anything
abbrev pub FindsNone : How → Option (List ℕ) → List ℕ → Type 0
FindsNone how.Ended left bytes = (bytes ≡ []) × IsAtEnd left
FindsNone how.Unframeable left bytes = (cause : FramingRefusal) × Covers left bytes (λ b. IsUnframeable b cause)
FindsNone how.Turns left bytes = ⊥
FindsNone how.SourceFault left bytes = (bytes ≡ []) ⊎ IsUnframeable bytes Frame
FindsNone how.SinkFault left bytes = ⊤
FindsNone how.Memory left bytes = ⊤

-- what was found where as many requests were answered as may be: nothing, a byte more, or nothing before a fault
abbrev pub FindsAtLimit : How → Option (List ℕ) → List ℕ → Type 0
FindsAtLimit how.Ended left bytes = (bytes ≡ []) × IsAtEnd left
FindsAtLimit how.Unframeable left bytes = ⊥
FindsAtLimit how.Turns left bytes = bytes ≢ []
FindsAtLimit how.SourceFault left bytes = bytes ≡ []
FindsAtLimit how.SinkFault left bytes = ⊥
FindsAtLimit how.Memory left bytes = ⊥

-- Bytes were taken behind those that were held, and this was found of them.
pub record TakesFinding (held : List ℕ) (source_before source_now : SourceView) (Found : Option (List ℕ) → List ℕ → Type 0) : Type 0 where
  pub taken : List ℕ
  pub content : Consumes source_before.left source_now.left taken
  pub found : Found source_now.left (held ++ taken)

-- whether the request closes that a turn framed and answered
abbrev pub ClosesAs : Turn → RequestHead → Type 0
ClosesAs Answered head = closes head ≡ false
ClosesAs Closed head = closes head ≡ true
ClosesAs (Stopped how.SinkFault) head = ⊤
ClosesAs (Stopped how.Memory) head = ⊤
ClosesAs (Stopped _) head = ⊥

-- what a turn finds: a request that stays, one that closes, or what stops it
abbrev pub TurnFinds : Turn → (held held_now : List ℕ) → SourceView → SourceView → Type 0
TurnFinds Answered held held_now source_before source_now =
    (finds : Finds held held_now source_before source_now) × (closes finds.framed.head ≡ false)
TurnFinds Closed held held_now source_before source_now =
    (finds : Finds held held_now source_before source_now) × (closes finds.framed.head ≡ true)
TurnFinds (Stopped end) held held_now source_before source_now = TakesFinding held source_before source_now (FindsNone end)

-- Of what was taken these requests were passed, none of which closes, and what is held is behind them. Of the most that are answered, so
-- many more are.
pub record Passed (most more answered : ℕ) (held : List ℕ) (source_before source_now : SourceView) : Type 0 where
  pub taken : List ℕ
  pub content : Consumes source_before.left source_now.left taken
  pub requests : List Framed
  pub counted : answered ≡ length requests
  pub stay : AllStay requests
  pub so_far : model.SoFar most more taken held requests

-- ---- what is done

-- A request was framed, which does not close, and it was answered from s, and its reply was written.
pub record GoesOn (s : State) (held held_now : List ℕ) (source_before source_now : SourceView) (sink_before sink_now : SinkView)
    (before now : World) : Type 0 where
  pub finds : Finds held held_now source_before source_now
  pub stays : closes finds.framed.head ≡ false
  pub replied : Replied s finds.framed sink_before sink_now before now

-- What a turn does from s: it goes on, or it ends serving, whatever number of turns is left behind it.
abbrev pub TurnDoes : Turn → State → (held held_now : List ℕ) → SourceView → SourceView → SinkView → SinkView → World → World → Type 0
TurnDoes Answered s held held_now source_before source_now sink_before sink_now before now =
    GoesOn s held held_now source_before source_now sink_before sink_now before now
TurnDoes Closed s held held_now source_before source_now sink_before sink_now before now =
    (more : ℕ) → Serves held (suc more) s how.Ended 1 source_before source_now sink_before sink_now before now
TurnDoes (Stopped end) s held held_now source_before source_now sink_before sink_now before now =
    (more : ℕ) → Serves held (suc more) s end 0 source_before source_now sink_before sink_now before now

-- What was served, followed by any serving of at most so many requests more over what is held and left, is a whole session: so it is
-- from a state that the library keeps.
pub record SoFar (most more : ℕ) (start : State) (answered : ℕ) (held : List ℕ) (source_before source_now : SourceView)
    (sink_before sink_now : SinkView) (before now : World) : Type 0 where
  pub state : State
  pub keeps : Keeps now.library state
  pub goes : (end : How) (count : ℕ) (source_end : SourceView) (sink_end : SinkView) (at_end : World)
      → Serves held more state end count source_now source_end sink_now sink_end now at_end
      → Session most start end (answered + count) source_before source_end sink_before sink_end before at_end

-- what writing the refusal that ends a session does, which ends so
abbrev pub RefusesBy : How → FramingRefusal → SinkView → SinkView → Type 0
RefusesBy how.Unframeable refusal sink_before sink_now = Appends sink_before.written sink_now.written (ending (unframeable (framing_refusal refusal)))
RefusesBy how.SinkFault refusal sink_before sink_now = AppendsPart sink_before.written sink_now.written (ending (unframeable (framing_refusal refusal)))
RefusesBy how.Memory refusal sink_before sink_now = AppendsPart sink_before.written sink_now.written (ending (unframeable (framing_refusal refusal)))
RefusesBy how.Ended refusal sink_before sink_now = ⊥
RefusesBy how.Turns refusal sink_before sink_now = ⊥
RefusesBy how.SourceFault refusal sink_before sink_now = ⊥

-- the methods that a reply names: none for want of memory
abbrev pub allowed_in : Option Reply → List (List ℕ) → List (List ℕ)
allowed_in (Some reply) methods = methods
allowed_in None methods = []

-- A prepared change was committed, and what it released was swept.
pub record Settled (p : Prepared) (library settled : Library) (keeper_before keeper_now : KeeperView) (vault_before vault_now : VaultView)
    (reply : Reply) : Type 0 where
  pub committed : Library
  pub commits : Commits p library committed keeper_before keeper_now reply
  pub sweeps : Sweeps committed settled vault_before vault_now
