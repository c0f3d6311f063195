-- What is found where the next request is looked for.
use Rattle.std.specs.Prelude.{◌≡◌, ◌⊎◌, ◌+◌, ℕ, List, [], ◌++◌, length, drop, Option}
use Rattle.std.specs.Io.KnownBytes.{Consumes, IsAtEnd}
use Rattle.httparse.specs.Grammar.{RequestHead}
use Rattle.lib_base.specs.Faults.{CountsFault}
use Rattle.lib_base.specs.Sources.{SourceView}
use Rattle.http_model.specs.declared.refusals.FramingRefusal.TheVariants.{Frame}
use Rattle.http_model.specs.Requests as model
use Rattle.http_model.specs.Requests.{Frames, IsUnframeable}
use Rattle.http_inbox.specs.Heads.{IsHeadingOf}
use Rattle.http_inbox.specs.Inboxes.{Covers}
use Rattle.http_inbox.specs.declared.requests.Request.{Request}
use Rattle.http_inbox.specs.declared.requests.Next.{Next}
use Rattle.http_inbox.specs.declared.requests.Next.TheVariants.{Ended, Framed, Refused, Fault, Memory}

-- the framed request of that head
abbrev pub framed : RequestHead → Request → model.Framed
framed head request = record { head = head; body = request.body }

-- what an inbox holds behind a request that begins there
abbrev pub behind : List ℕ → Request → List ℕ
behind inbox request = drop (request.heading.len + length request.body) inbox

-- The bytes begin with that request however they go on. Its head lies in the inbox, which holds all that was taken and is
-- no part of it.
pub record BeginsWith (bytes inbox : List ℕ) (request : Request) : Type 0 where
  pub head : RequestHead
  pub lies : IsHeadingOf inbox request.heading head
  pub frames : (more : List ℕ)
      → Frames (bytes ++ more) (framed head request) (behind inbox request ++ more)

-- What is found of these bytes, of which the inbox holds the front. A fault comes where they are none, or can't be framed as
-- they are. Want of memory leaves them all in the inbox.
abbrev pub FindsNext : Option (List ℕ) → List ℕ → List ℕ → Next → Type 0
FindsNext left bytes inbox Ended = (bytes ≡ []) × IsAtEnd left
FindsNext left bytes inbox (Framed request) = BeginsWith bytes inbox request
FindsNext left bytes inbox (Refused cause) = Covers left bytes (λ b. IsUnframeable b cause)
FindsNext left bytes inbox Fault = (bytes ≡ []) ⊎ IsUnframeable bytes Frame
FindsNext left bytes inbox Memory = bytes ≡ inbox

-- The next request was looked for in what the inbox held and in what was taken from the source.
pub record ReadsNext (old new : SourceView) (before now : List ℕ) (next : Next) : Type 0 where
  pub taken : List ℕ
  pub content : Consumes old.left new.left taken
  pub found : FindsNext new.left (before ++ taken) now next
  pub faults : CountsFault (next ≡ Fault) old.faults new.faults
