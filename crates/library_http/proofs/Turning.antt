-- What one turn of serving does, by what was found where the next request was looked for.
use Rattle.std.proofs.Common.{◌≡◌, ◌≢◌, ◌<◌, ℕ, suc, List, [], ◌++◌, length, take, Ok, Err, refl, sym, ap, ◌∙◌, subst, append-nil}
use Rattle.std.proofs.KnownBytes.{Consumes-kept, Consumes-nil}
use Rattle.std.proofs.lemmas.List.{length-take-le}
use Rattle.lib_base.specs.Sources.{Reads, SourceView}
use Rattle.lib_base.specs.Writes.{SinkView}
use Rattle.library_model.specs.Stands.{IsWithinLimit}
use Rattle.library_model.specs.State.{State}
use Rattle.http_model.specs.declared.refusals.FramingRefusal.{FramingRefusal}
use Rattle.http_model.specs.Requests.{Frames}
use Rattle.http_model.proofs.AskingLaws.{Frames-within}
use Rattle.http_inbox.specs.declared.requests.Next.TheVariants as next
use Rattle.http_inbox.specs.declared.requests.Request.{Request}
use Rattle.http_inbox.specs.Nexts.{BeginsWith, ReadsNext, behind, framed}
use Rattle.catalogue_core.specs.Kept.{Keeps}
use Rattle.library_http.specs.declared.serving.How.{How}
use Rattle.library_http.specs.declared.serving.How.TheVariants as how
use Rattle.library_http.specs.declared.serving.Turn.{Turn}
use Rattle.library_http.specs.declared.serving.Turn.TheVariants.{Answered, Closed, Stopped}
use Rattle.library_http.specs.Sessions.{Serves}
use Rattle.library_http.specs.Turns.{Finds, FindsAtLimit, RefusesBy, TakesFinding, TurnDoes, TurnsOn}
use Rattle.library_http.specs.World.{World}
use Rattle.library_http.proofs.Served.{Serves-broke, Serves-closed, Serves-ended, Serves-fault, Serves-fault_behind, Serves-refused, Serves-turns, Serves-unread}

-- a body that was framed is within the limit
pub BeginsWith-within : (bytes inbox : List ℕ) (request : Request) → BeginsWith bytes inbox request → IsWithinLimit request.body
BeginsWith-within bytes inbox request begins =
    Frames-within (bytes ++ []) (framed begins.head request) (behind inbox request ++ []) (begins.frames [])

-- what was found where a request was read
abbrev pub found : (held inbox held_now : List ℕ) (request : Request) (source0 source1 : SourceView)
    → (reads : ReadsNext source0 source1 held inbox (next.Framed request)) → held_now ≡ behind inbox request → Finds held held_now source0 source1
found held inbox held_now request source0 source1 reads passed = record {
  taken = reads.taken;
  content = reads.content;
  framed = framed reads.found.head request;
  frames = λ more. subst (λ (rest : List ℕ). Frames ((held ++ reads.taken) ++ more) (framed reads.found.head request) (rest ++ more)) (sym passed)
      (reads.found.frames more);
}

-- A request was read, and then answered.
pub TurnDoes-framed : (turn : Turn) (s : State) (held inbox held_now : List ℕ) (request : Request) (source0 source1 : SourceView)
    (sink0 sink1 : SinkView) (w0 w1 : World) → Keeps w0.library s
    → (reads : ReadsNext source0 source1 held inbox (next.Framed request)) → held_now ≡ behind inbox request
    → TurnsOn turn s (framed reads.found.head request) sink0 sink1 w0 w1
    → TurnDoes turn s held held_now source0 source1 sink0 sink1 w0 w1
TurnDoes-framed Answered s held inbox held_now request source0 source1 sink0 sink1 w0 w1 keeps reads passed turns =
    record { finds = found held inbox held_now request source0 source1 reads passed; stays = turns.0; replied = turns.1 }
TurnDoes-framed Closed s held inbox held_now request source0 source1 sink0 sink1 w0 w1 keeps reads passed turns = λ more.
    Serves-closed s more held held_now source0 source1 sink0 sink1 w0 w1 keeps (found held inbox held_now request source0 source1 reads passed)
    turns.0 turns.1
TurnDoes-framed (Stopped end) s held inbox held_now request source0 source1 sink0 sink1 w0 w1 keeps reads passed turns = λ more.
    Serves-broke s more end held held_now source0 source1 sink0 sink1 w0 w1 keeps (found held inbox held_now request source0 source1 reads passed)
    turns

-- No request was read, and the turn ends serving.
pub TurnDoes-ended : (s : State) (held inbox held_now : List ℕ) (source0 source1 : SourceView) (sink : SinkView) (w : World) → Keeps w.library s
    → ReadsNext source0 source1 held inbox next.Ended → TurnDoes (Stopped how.Ended) s held held_now source0 source1 sink sink w w
TurnDoes-ended s held inbox held_now source0 source1 sink w keeps reads = λ more.
    Serves-ended s (suc more) held reads.taken source0 source1 sink w keeps reads.content reads.found.0 reads.found.1

pub TurnDoes-refused : (s : State) (held inbox held_now : List ℕ) (cause : FramingRefusal) (end : How) (source0 source1 : SourceView)
    (sink0 sink1 : SinkView) (w : World) → Keeps w.library s → ReadsNext source0 source1 held inbox (next.Refused cause)
    → RefusesBy end cause sink0 sink1 → TurnDoes (Stopped end) s held held_now source0 source1 sink0 sink1 w w
TurnDoes-refused s held inbox held_now cause end source0 source1 sink0 sink1 w keeps reads refuses = λ more.
    Serves-refused s more end cause held reads.taken source0 source1 sink0 sink1 w keeps reads.content reads.found refuses

pub TurnDoes-fault : (s : State) (held inbox held_now : List ℕ) (source0 source1 : SourceView) (sink : SinkView) (w : World) → Keeps w.library s
    → ReadsNext source0 source1 held inbox next.Fault → TurnDoes (Stopped how.SourceFault) s held held_now source0 source1 sink sink w w
TurnDoes-fault s held inbox held_now source0 source1 sink w keeps reads = λ more.
    Serves-fault s more held reads.taken source0 source1 sink w keeps reads.content reads.found

pub TurnDoes-unread : (s : State) (held inbox held_now : List ℕ) (source0 source1 : SourceView) (sink : SinkView) (w : World) → Keeps w.library s
    → ReadsNext source0 source1 held inbox next.Memory → TurnDoes (Stopped how.Memory) s held held_now source0 source1 sink sink w w
TurnDoes-unread s held inbox held_now source0 source1 sink w keeps reads = λ more.
    Serves-unread s (suc more) held reads.taken source0 source1 sink w keeps reads.content

-- ---- where as many requests were answered as may be

-- Bytes are held.
pub TakesFinding-held : (held : List ℕ) (source : SourceView) → held ≢ [] → TakesFinding held source source (FindsAtLimit how.Turns)
TakesFinding-held held source some =
    record { taken = []; content = Consumes-nil source.left; found = λ none. some (sym (append-nil held) ∙ none) }

-- None are held, and one byte was looked for.
pub TakesFinding-looked : {E : Type 0} (held into : List ℕ) (n : ℕ) (source0 source1 : SourceView) → held ≡ []
    → Reads {E = E} source0 source1 into (Ok n) → n ≢ 0 → TakesFinding held source0 source1 (FindsAtLimit how.Turns)
TakesFinding-looked {E} held into n source0 source1 empty reads some =
    record { taken = take n into; content = reads.content.0; found = λ none. taken_some (length-of none) }
  where
    length-of : held ++ take n into ≡ [] → length (take n into) ≡ 0
    length-of none = ap length (subst (λ (bytes : List ℕ). bytes ++ take n into ≡ []) empty none)

    taken_some : length (take n into) ≢ 0
    taken_some none = some (sym (length-take-le n into reads.within.0) ∙ none)

pub TakesFinding-looked_end : {E : Type 0} (held into : List ℕ) (source0 source1 : SourceView) → held ≡ []
    → Reads {E = E} source0 source1 into (Ok 0) → 0 < length into → TakesFinding held source0 source1 (FindsAtLimit how.Ended)
TakesFinding-looked_end {E} held into source0 source1 empty reads some =
    record { taken = []; content = reads.content.0; found = (append-nil held ∙ empty, reads.content.1 refl some) }

pub TakesFinding-looked_fault : {E : Type 0} (held into : List ℕ) (e : E) (source0 source1 : SourceView) → held ≡ []
    → Reads {E = E} source0 source1 into (Err e) → TakesFinding held source0 source1 (FindsAtLimit how.SourceFault)
TakesFinding-looked_fault {E} held into e source0 source1 empty reads = record {
  taken = [];
  content = Consumes-kept source0.left source0.left source1.left [] (Consumes-nil source0.left) reads.content;
  found = append-nil held ∙ empty;
}

-- Serving ends as what was found says.
pub Serves-limit : (end : How) (s : State) (held : List ℕ) (source0 source1 : SourceView) (sink : SinkView) (w : World) → Keeps w.library s
    → TakesFinding held source0 source1 (FindsAtLimit end) → Serves held 0 s end 0 source0 source1 sink sink w w
Serves-limit how.Ended s held source0 source1 sink w keeps takes =
    Serves-ended s 0 held takes.taken source0 source1 sink w keeps takes.content takes.found.0 takes.found.1
Serves-limit how.Turns s held source0 source1 sink w keeps takes =
    Serves-turns s held takes.taken source0 source1 sink w keeps takes.content takes.found
Serves-limit how.SourceFault s held source0 source1 sink w keeps takes =
    Serves-fault_behind s held takes.taken source0 source1 sink w keeps takes.content takes.found
Serves-limit how.Unframeable s held source0 source1 sink w keeps takes = absurd takes.found
Serves-limit how.SinkFault s held source0 source1 sink w keeps takes = absurd takes.found
Serves-limit how.Memory s held source0 source1 sink w keeps takes = absurd takes.found
