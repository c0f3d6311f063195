-- Which requests a session framed, whatever the library holds.
use Rattle.std.specs.Prelude.{◌≡◌, ◌⊎◌, ℕ, false, List, length, Option}
use Rattle.std.specs.List.{AllByRecursion}
use Rattle.std.specs.Io.KnownBytes.{Consumes}
use Rattle.lib_base.specs.Sources.{SourceView}
use Rattle.http_model.specs.declared.refusals.FramingRefusal.{FramingRefusal}
use Rattle.http_model.specs.declared.refusals.FramingRefusal.TheVariants.{Frame}
use Rattle.http_model.specs.Refusals.{framing_refusal}
use Rattle.http_model.specs.Requests.{AreRequests, IsFront, End, Framed, closes, ended, turns, unframeable}
use Rattle.http_inbox.specs.Inboxes.{Covers}
use Rattle.library_http.specs.declared.serving.How.{How}
use Rattle.library_http.specs.declared.serving.How.TheVariants.{Ended, Turns, Unframeable, SourceFault, SinkFault, Memory}

-- none of these requests closes
abbrev pub AllStay : List Framed → Type 0
AllStay requests = AllByRecursion (λ (q : Framed). closes q.head ≡ false) requests

-- The bytes, as they stand, are these requests, none of which closes, with nothing behind them or what is no whole request as yet.
pub record AreCutShort (most : ℕ) (bytes : List ℕ) (requests : List Framed) : Type 0 where
  pub end : End
  pub are : AreRequests most bytes requests end
  pub stay : AllStay requests
  pub cut : (end ≡ ended) ⊎ (end ≡ unframeable (framing_refusal Frame))

-- How the requests that were answered whole stand to the bytes that were taken, of which so many are answered at most, by how the session
-- ended: they are all that the input makes, which ends so; or, after a fault of the source, all that the bytes make which were taken; or,
-- after a fault of the sink or for want of memory, the first of the input.
abbrev pub FramesAs : How → (most : ℕ) → Option (List ℕ) → List ℕ → List Framed → Type 0
FramesAs Ended most left taken requests = Covers left taken (λ bytes. AreRequests most bytes requests ended)
FramesAs Turns most left taken requests = Covers left taken (λ bytes. AreRequests most bytes requests turns)
FramesAs Unframeable most left taken requests =
    (cause : FramingRefusal) × Covers left taken (λ bytes. AreRequests most bytes requests (unframeable (framing_refusal cause)))
FramesAs SourceFault most left taken requests = AreCutShort most taken requests
FramesAs SinkFault most left taken requests = Covers left taken (λ bytes. IsFront most bytes requests)
FramesAs Memory most left taken requests = Covers left taken (λ bytes. IsFront most bytes requests)

-- What a session of at most so many requests took from its source, that ended so, and the requests that it answered whole, so many.
pub record IsFramed (how : How) (most answered : ℕ) (source_before source_now : SourceView) : Type 0 where
  pub taken : List ℕ
  pub content : Consumes source_before.left source_now.left taken
  pub requests : List Framed
  pub counted : answered ≡ length requests
  pub ends : FramesAs how most source_now.left taken requests
