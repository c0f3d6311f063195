-- What a session does.
use Rattle.std.specs.Prelude.{◌≡◌, ◌≢◌, ◌⊎◌, ℕ, true, false, List, [], ◌∷◌, ◌++◌, length, Option}
use Rattle.std.specs.List.{AllByRecursion}
use Rattle.std.specs.Io.KnownBytes.{Appends, Consumes}
use Rattle.lib_base.specs.Faults.{CountsFault}
use Rattle.lib_base.specs.Sources.{SourceView}
use Rattle.lib_base.specs.Writes.{SinkView}
use Rattle.keeper_store.specs.Goes.{Goes}
use Rattle.library_model.specs.Asked.{Asked, spares_vault}
use Rattle.library_model.specs.Exchanges as machine
use Rattle.library_model.specs.Exchanges.{Answers}
use Rattle.library_model.specs.InOrder.{Differ}
use Rattle.library_model.specs.Machine.{has_take}
use Rattle.library_model.specs.State.{State}
use Rattle.http_model.specs.declared.refusals.FramingRefusal.{FramingRefusal}
use Rattle.http_model.specs.Exchanges as wire
use Rattle.http_model.specs.Exchanges.{Exchange, answered_all, spelled_of, spelled_all, ending, output}
use Rattle.http_model.specs.Refusals.{framing_refusal}
use Rattle.http_model.specs.Requests.{AreRequests, IsFront, End, ended, turns, unframeable}
use Rattle.http_inbox.specs.Inboxes.{Covers}
use Rattle.library_http.specs.declared.serving.How.{How}
use Rattle.library_http.specs.declared.serving.How.TheVariants.{Ended, Turns, Unframeable, SourceFault, SinkFault, Memory}
use Rattle.library_http.specs.Acts.{ActInTurn, Counts, Leads, OldKeysKept}
use Rattle.library_http.specs.Framings.{AreCutShort}
use Rattle.library_http.specs.World.{World, KeepsFaults}

-- ---- what was done to the library

-- No take is released twice, and no recording has one.
pub record AreReleased (last : State) (takes : List ℕ) : Type 0 where
  pub differ : Differ takes
  pub gone : AllByRecursion (λ take. has_take take last.recordings ≡ false) takes

-- The exchanges were made, each from the state that the one before left, from `start` to the last state, which the library keeps, and
-- which tables and files are those of where they were those of `start`. The released takes are those that the requests took out. Each
-- reply `Vault` and each released key that holds something is one by which the vault's count rose; each reply `Keeper` one by which the
-- keeper's did. The keys of takes that were given before, and are not released, hold what they held. Where all requests spare the vault,
-- it was not called.
pub record Made (start : State) (exchanges : List machine.Exchange) (before now : World) : Type 0 where
  pub last : State
  pub released : List ℕ
  pub answers : Answers start exchanges last released
  pub leads : Leads start last before now
  pub takes : AreReleased last released
  pub counts : Counts exchanges released before now
  pub keys : Goes (OldKeysKept start.next_take released) before.vault.blobs now.vault.blobs
  pub calls : AllByRecursion (λ (asked : Asked). spares_vault asked ≡ true) (machine.requests_of exchanges)
      → now.vault.calls ≡ before.vault.calls
  pub in_turn : ActInTurn start exchanges last before now

-- ---- the ends

-- a text was written in part, after others
abbrev pub AppendsInPart : List ℕ → List ℕ → Option (List ℕ) → Option (List ℕ) → Type 0
AppendsInPart others text old new =
    (part : List ℕ) × (unwritten : List ℕ) × (text ≡ part ++ unwritten) × (unwritten ≢ []) × Appends old new (others ++ part)

-- All the requests of the input were answered, which ends so. Their replies were written, and then what that end has.
pub record Whole (most : ℕ) (end : End) (answered : ℕ) (left : Option (List ℕ)) (input : List ℕ) (exchanges : List Exchange)
    (old new : Option (List ℕ)) : Type 0 where
  pub requests : Covers left input (λ bytes. AreRequests most bytes (wire.requests_of exchanges) end)
  pub counted : answered ≡ length exchanges
  pub written : Appends old new (output exchanges end)

-- The bytes that were taken make these requests, none of which closes, as far as they reach. The replies to them were written.
pub record CutShort (most answered : ℕ) (input : List ℕ) (exchanges : List Exchange) (old new : Option (List ℕ)) : Type 0 where
  pub requests : AreCutShort most input (wire.requests_of exchanges)
  pub counted : answered ≡ length exchanges
  pub written : Appends old new (spelled_all exchanges)

-- The requests at the front of the input were answered, and a part of the reply to the last was written.
pub record BreaksOff (most answered : ℕ) (left : Option (List ℕ)) (input : List ℕ) (exchanges : List Exchange)
    (old new : Option (List ℕ)) : Type 0 where
  pub whole : List Exchange
  pub last : Exchange
  pub are : exchanges ≡ whole ++ last ∷ []
  pub requests : Covers left input (λ bytes. IsFront most bytes (wire.requests_of exchanges))
  pub counted : answered ≡ length whole
  pub written : AppendsInPart (spelled_all whole) (spelled_of last) old new

-- All the requests of the input were answered, and a part of the refusal that ends it was written.
pub record BreaksOffAtEnd (most answered : ℕ) (left : Option (List ℕ)) (input : List ℕ) (exchanges : List Exchange)
    (old new : Option (List ℕ)) : Type 0 where
  pub cause : FramingRefusal
  pub requests : Covers left input (λ bytes. AreRequests most bytes (wire.requests_of exchanges) (unframeable (framing_refusal cause)))
  pub counted : answered ≡ length exchanges
  pub written : AppendsInPart (spelled_all exchanges) (ending (unframeable (framing_refusal cause))) old new

-- The requests at the front of the input were answered, and their replies were written. No memory was found to read on.
pub record Unread (most answered : ℕ) (left : Option (List ℕ)) (input : List ℕ) (exchanges : List Exchange)
    (old new : Option (List ℕ)) : Type 0 where
  pub requests : Covers left input (λ bytes. IsFront most bytes (wire.requests_of exchanges))
  pub counted : answered ≡ length exchanges
  pub written : Appends old new (spelled_all exchanges)

-- How so many requests answered whole, and the exchanges that were made, stand to the input, of which that is left, and to the output,
-- which was old and is new, by how a session of so many requests at most ended.
abbrev pub EndsAs : How → (most answered : ℕ) → Option (List ℕ) → List ℕ → List Exchange → Option (List ℕ) → Option (List ℕ) → Type 0
EndsAs Ended most answered left input exchanges old new = Whole most ended answered left input exchanges old new
EndsAs Turns most answered left input exchanges old new = Whole most turns answered left input exchanges old new
EndsAs Unframeable most answered left input exchanges old new =
    (cause : FramingRefusal) × Whole most (unframeable (framing_refusal cause)) answered left input exchanges old new
EndsAs SourceFault most answered left input exchanges old new = CutShort most answered input exchanges old new
EndsAs SinkFault most answered left input exchanges old new =
    BreaksOff most answered left input exchanges old new ⊎ BreaksOffAtEnd most answered left input exchanges old new
EndsAs Memory most answered left input exchanges old new =
    BreaksOff most answered left input exchanges old new
    ⊎ (BreaksOffAtEnd most answered left input exchanges old new ⊎ Unread most answered left input exchanges old new)

-- the status that would tell of a file that is not the one that was kept (RFC 9110 section 15.6.1)
abbrev pub damaged_status : ℕ
damaged_status = 500

-- What serving at most so many requests does that ends so, over bytes that were held, and what was taken from the source behind them. No
-- reply tells of a damaged file.
pub record Serves (held : List ℕ) (most : ℕ) (start : State) (how : How) (answered : ℕ) (source_before source_now : SourceView)
    (sink_before sink_now : SinkView) (before now : World) : Type 0 where
  pub taken : List ℕ
  pub content : Consumes source_before.left source_now.left taken
  pub exchanges : List Exchange
  pub made : Made start (answered_all exchanges) before now
  pub undamaged : AllByRecursion (λ (e : Exchange). e.reply.status ≢ damaged_status) exchanges
  pub ends : EndsAs how most answered source_now.left (held ++ taken) exchanges sink_before.written sink_now.written

-- What a session of at most so many requests does that ends so: its input is what was taken from the source.
abbrev pub Session : (most : ℕ) → State → How → (answered : ℕ) → SourceView → SourceView → SinkView → SinkView → World → World → Type 0
Session most start how answered source_before source_now sink_before sink_now before now =
    Serves [] most start how answered source_before source_now sink_before sink_now before now

-- What a session does to the counts of faults, which ends so: none falls, that of the source rose where it ended by the source's fault,
-- and that of the sink where it ended by the sink's.
pub record CountsFaults (how : How) (source_before source_now : SourceView) (sink_before sink_now : SinkView) (before now : World)
    : Type 0 where
  pub of_source : CountsFault (how ≡ SourceFault) source_before.faults source_now.faults
  pub of_sink : CountsFault (how ≡ SinkFault) sink_before.faults sink_now.faults
  pub others : KeepsFaults before now
