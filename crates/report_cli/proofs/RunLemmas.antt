-- Lemmas on runs.
use Rattle.std.proofs.Common.{◌≡◌, ◌≢◌, ◌≤◌, ◌⊎◌, ℕ, List, [], ◌∷◌, inl, inr, Option, None, Some, IfSome, IsSome, refl, sym, ap, ◌∙◌, arith, Err, subst}
use Rattle.std.specs.List.{AllByRecursion}
use Rattle.std.specs.Io.KnownBytes.{Consumes}
use Rattle.cli_words.specs.Commands.{command_of}
use Rattle.cli_words.specs.declared.commands.Command.{Command}
use Rattle.cli_words.specs.declared.commands.Command.TheVariants as command
use Rattle.lib_base.specs.Sources.{SourceView}
use Rattle.lib_base.specs.Writes.{SinkView}
use Rattle.keeper_store.specs.Goes.{Goes}
use Rattle.keeper_store.specs.declared.contents.Tables.{Tables}
use Rattle.library_model.specs.declared.bad_rows.BadRow.{BadRow}
use Rattle.library_model.specs.RowRules.{IsFirstBad, IsFirstWithout}
use Rattle.library_model.specs.Stands.{IsValid, tables_of}
use Rattle.library_model.specs.State.{State}
use Rattle.http_model.specs.Refusals.{framing_refusal}
use Rattle.http_model.specs.Requests.{Framed, End, ended, turns, unframeable, AreRequests, RequestsOf}
use Rattle.http_inbox.proofs.CoversLaws.{Covers-told}
use Rattle.catalogue_core.specs.declared.libraries.Library.{Library}
use Rattle.catalogue_core.specs.declared.libraries.OpenRefusal.{OpenRefusal}
use Rattle.catalogue_core.specs.declared.libraries.OpenRefusal.TheVariants as refusal
use Rattle.catalogue_core.specs.Kept.{Holds, Keeps}
use Rattle.catalogue_core.specs.Opening.{IsOpened, OpensOver}
use Rattle.library_http.specs.declared.serving.How.{How}
use Rattle.library_http.specs.declared.serving.How.TheVariants as how
use Rattle.library_http.specs.Framings.{FramesAs, IsFramed}
use Rattle.report_cli.specs.declared.statuses.Status.{Status}
use Rattle.report_cli.specs.declared.statuses.Status.TheVariants as status
use Rattle.report_cli.specs.Connections.{Connection, EndsWith, EndsByBytes, FramedOf, IsEnd}
use Rattle.report_cli.specs.Lines.{Prints, IsBrokenOff, usage_line, bad_row_line}
use Rattle.report_cli.specs.Running.{Course, unread, not_a_command, not_opened, answered, served, Runs, CarriesOut, Opened, SessionRan, IsCommand, HasFurther, IsFixed, IsFixedOver, IsOfEnd, HasBadRow, status_at}
use Rattle.report_cli.specs.Seen.{Seen}
use Rattle.report_cli.specs.Statuses.{code, status_of}

-- ---- opening

-- an opened library keeps each valid state that has its tables
pub keeps_opened : (told : Option Tables) (library : Library) (opened : IsOpened told library) (s : State) → IsValid s
    → opened.tables ≡ tables_of s → Keeps library s
keeps_opened told library opened s valid rows = record { valid = valid; rows = subst (Holds library) rows opened.holds }

-- rows of which each has a fact have none without it
none_without : {A : Type 0} (Fact : A → Type 0) (told : A → BadRow) (rows : List A) (bad : BadRow) → AllByRecursion Fact rows
    → IsFirstWithout Fact told rows bad → ⊥
none_without Fact told [] bad all first = first
none_without Fact told (row ∷ rows) bad all (inl here) = here.0 all.0
none_without Fact told (row ∷ rows) bad all (inr later) = none_without Fact told rows bad all.1 later.1

-- tables of which no row breaks a rule have no bad row
none_bad : (t : Tables) → IsFirstBad t None → HasBadRow t → ⊥
none_bad t none (bad, inl is) = absurd (cc (is, none.rows))
none_bad t none (bad, inr (rows, inl albums)) = none_without _ _ t.albums bad none.albums albums
none_bad t none (bad, inr (rows, inr recordings)) = none_without _ _ t.recordings bad none.recordings recordings.1

-- what is told stays
pub tables_stay : (told : Option Tables) → Goes (λ old new. new ≡ old) told told
tables_stay None = tt
tables_stay (Some t) = refl

-- the row that opening refused is the first that breaks a rule
pub bad_opened : (told : Option Tables) (why : OpenRefusal) (bad : BadRow) → why ≡ refusal.BadRow bad → OpensOver told (Err why)
    → IfSome told (λ t. IsFirstBad t (Some bad))
bad_opened told why bad is opens = let P : OpenRefusal → Type 0 = λ e. OpensOver told (Err e) in subst P is opens

-- such tables have a bad row
pub has_bad_row : (told : Option Tables) (bad : BadRow) → IfSome told (λ t. IsFirstBad t (Some bad)) → IfSome told HasBadRow
has_bad_row None bad first = tt
has_bad_row (Some t) bad first = (bad, first)

-- a fact of any tables, where they are told
for_told : (told : Option Tables) (P : Tables → Type 0) → ((t : Tables) → P t) → IfSome told P
for_told None P h = tt
for_told (Some t) P h = h t

-- a fact of the loaded tables is one of those that are told
of_loaded : (told : Option Tables) (P : Tables → Type 0) (tables : Tables) → IfSome told (λ t. t ≡ tables) → P tables → IfSome told P
of_loaded None P tables loaded h = tt
of_loaded (Some t) P tables loaded h = subst P (sym loaded) h

-- ---- a command

-- A command that was carried out over an opened library is how far the run came.
pub carried : (done : Command) (words : List (List ℕ)) (before now : Seen) (end : Status) → command_of words ≡ Some done
    → Opened (CarriesOut done end) before now → (course : Course) × Runs course words before now (code end)
carried (command.Session workers requests) words before now end is opened =
    let did = opened.ran in (
      answered did.0 did.1,
      (
        workers,
        requests,
        is,
        record {
          opened = opened.opened;
          opens = opened.opens;
          unwritten = opened.unwritten;
          library = opened.library;
          is_opened = opened.is_opened;
          ran = did.2;
        },
        ap code did.3,
      ),
    )
carried (command.Serve count workers requests) words before now end is opened =
    let did = opened.ran in (
      served end did.0,
      (
        count,
        workers,
        requests,
        is,
        record {
          opened = opened.opened;
          opens = opened.opens;
          unwritten = opened.unwritten;
          library = opened.library;
          is_opened = opened.is_opened;
          ran = did.1;
        },
        refl,
      ),
    )

-- ---- ends by the bytes

-- a fact of bytes that are told
for_left : (left : Option (List ℕ)) (P : List ℕ → Type 0) → ((input : List ℕ) → left ≡ Some input → P input) → IfSome left P
for_left None P h = tt
for_left (Some input) P h = h input refl

-- the end of a session is that of the requests in what its source held
end_told : (h : How) (n : ℕ) (before left : Option (List ℕ)) (input taken : List ℕ) (requests : List Framed) → before ≡ Some input
    → Consumes before left taken → FramesAs h n left taken requests → (asked : List Framed) (end : End) → RequestsOf n input asked end
    → IsEnd h end
end_told how.Ended n before left input taken requests told content ends asked end are =
    ((Covers-told before left input taken (λ b. AreRequests n b requests ended) told content ends).only asked end are).1
end_told how.Turns n before left input taken requests told content ends asked end are =
    ((Covers-told before left input taken (λ b. AreRequests n b requests turns) told content ends).only asked end are).1
end_told how.Unframeable n before left input taken requests told content (cause, ends) asked end are = (
  cause,
  ((Covers-told before left input taken (λ b. AreRequests n b requests (unframeable (framing_refusal cause))) told content ends).only asked end
      are).1,
)
end_told how.SourceFault n before left input taken requests told content ends asked end are = tt
end_told how.SinkFault n before left input taken requests told content ends asked end are = tt
end_told how.Memory n before left input taken requests told content ends asked end are = tt

-- a connection ended as the requests of its bytes do
by_bytes : (n : ℕ) (c : Connection) → FramedOf n c → EndsByBytes n c
by_bytes n c framed =
    for_left c.source.left _ (λ input told. end_told c.how n c.source.left c.source_now.left input framed.taken framed.requests told
    framed.content framed.ends)

-- Connections ended so.
pub all_by_bytes : (n : ℕ) (cs : List Connection) → AllByRecursion (FramedOf n) cs → AllByRecursion (EndsByBytes n) cs
all_by_bytes n [] framed = tt
all_by_bytes n (c ∷ cs) framed = (by_bytes n c framed.0, all_by_bytes n cs framed.1)

-- ---- the status that is fixed

-- a line that was printed fixes the status, where the sink counted no fault
printed_status : (line : List ℕ) (meant : Status) (sink0 sink1 : SinkView) (n : ℕ) → Prints line meant sink0 sink1 n
    → n ≢ code status.SinkFault → (n ≡ code status.Memory) ⊎ (n ≡ code meant)
printed_status line meant sink0 sink1 n (inl whole) sink = inr whole.0
printed_status line meant sink0 sink1 n (inr (broken, part)) sink = elim broken [ inl fault ↦ absurd (sink fault) | inr memory ↦ inl memory ]

-- the status of a session, by how it ended
ended_status : (h : How) (n : ℕ) (before left : Option (List ℕ)) (input taken : List ℕ) (requests : List Framed) (m : ℕ)
    → m ≡ code (status_of h) → m ≢ code status.SourceFault → m ≢ code status.SinkFault → m ≢ code status.Memory → before ≡ Some input
    → Consumes before left taken → FramesAs h n left taken requests → IsOfEnd n input m
ended_status how.Ended n before left input taken requests m is source sink memory told content ends =
    (requests, ended, Covers-told before left input taken (λ b. AreRequests n b requests ended) told content ends, is)
ended_status how.Turns n before left input taken requests m is source sink memory told content ends =
    (requests, turns, Covers-told before left input taken (λ b. AreRequests n b requests turns) told content ends, is)
ended_status how.Unframeable n before left input taken requests m is source sink memory told content (cause, ends) = (
  requests,
  unframeable (framing_refusal cause),
  Covers-told before left input taken (λ b. AreRequests n b requests (unframeable (framing_refusal cause))) told content ends,
  is,
)
ended_status how.SourceFault n before left input taken requests m is source sink memory told content ends = absurd (source is)
ended_status how.SinkFault n before left input taken requests m is source sink memory told content ends = absurd (sink is)
ended_status how.Memory n before left input taken requests m is source sink memory told content ends = absurd (memory is)

-- the status of a session that ran, where memory was not wanting
session_status : (n : ℕ) (h : How) (count m : ℕ) (workers : ℕ) (before now : SourceView) → IsFramed h n count before now
    → m ≡ code (status_of h) → m ≢ code status.SourceFault → m ≢ code status.SinkFault → m ≢ code status.Memory
    → IsFixedOver (command.Session workers n) before.left m
session_status n h count m workers before now framed is source sink memory =
    for_left before.left _ (λ input told.
    ended_status h n before.left now.left input framed.taken framed.requests m is source sink memory told framed.content framed.ends)

-- memory was wanting, or not
wanting : (h : How) (m : ℕ) (P : Type 0) → m ≡ code (status_of h) → (m ≢ code status.Memory → P) → (m ≡ code status.Memory) ⊎ P
wanting how.Memory m P is h = inl is
wanting how.Ended m P is h = inr (h (λ e. omega (arith, is, e)))
wanting how.Unframeable m P is h = inr (h (λ e. omega (arith, is, e)))
wanting how.Turns m P is h = inr (h (λ e. omega (arith, is, e)))
wanting how.SourceFault m P is h = inr (h (λ e. omega (arith, is, e)))
wanting how.SinkFault m P is h = inr (h (λ e. omega (arith, is, e)))

-- the status of serving that ended so
serving_status : (end : Status) (count : ℕ) (connections : List Connection) (old new : Option (List ℕ)) (m : ℕ)
    → EndsWith end count connections old new → m ≡ code end → m ≢ code status.SinkFault → m ≢ code status.DoorFault
    → (m ≡ code status.Memory) ⊎ (m ≡ code status.Ended)
serving_status status.Ended count connections old new m ends is sink door = inr is
serving_status status.Memory count connections old new m ends is sink door = inl is
serving_status status.SinkFault count connections old new m ends is sink door = absurd (sink is)
serving_status status.DoorFault count connections old new m ends is sink door = absurd (door is)
serving_status status.Usage count connections old new m ends is sink door = absurd ends
serving_status status.Unframeable count connections old new m ends is sink door = absurd ends
serving_status status.SourceFault count connections old new m ends is sink door = absurd ends
serving_status status.KeeperFault count connections old new m ends is sink door = absurd ends
serving_status status.BadRow count connections old new m ends is sink door = absurd ends
serving_status status.Turns count connections old new m ends is sink door = absurd ends

-- a bad row fixes the status of every command
bad_row_fixes : (o : Option Command) (left : Option (List ℕ)) (told : Option Tables) (m : ℕ) (bad : BadRow) → IsSome o
    → IfSome told (λ t. IsFirstBad t (Some bad)) → m ≡ code status.BadRow → IsFixed o left told m
bad_row_fixes None left told m bad some first is = absurd (cc some)
bad_row_fixes (Some done) left None m bad some first is = tt
bad_row_fixes (Some done) left (Some t) m bad some first is = inl ((bad, first), is)

-- Where no count rose, the status is the one that is fixed, or memory was wanting.
pub fixed_status : (course : Course) (words : List (List ℕ)) (before now : Seen) (m : ℕ) → Runs course words before now m
    → m ≢ code status.SourceFault → m ≢ code status.SinkFault → m ≢ code status.KeeperFault → m ≢ code status.DoorFault
    → (m ≡ code status.Memory) ⊎ IsFixed (command_of words) before.source.left before.keeper.tables m
fixed_status unread words before now m runs source sink keeper door = inl runs.2
fixed_status not_a_command words before now m runs source sink keeper door =
    elim (printed_status usage_line status.Usage before.sink now.sink m runs.2 sink) [
      | inl memory ↦ inl memory
      | inr printed ↦ inr (subst (λ o. IsFixed o before.source.left before.keeper.tables m) (sym runs.0) printed)
    ]
fixed_status (not_opened refusal.KeeperFault) words before now m runs source sink keeper door = absurd (keeper runs.3)
fixed_status (not_opened refusal.Memory) words before now m runs source sink keeper door = inl runs.3
fixed_status (not_opened (refusal.BadRow bad)) words before now m runs source sink keeper door =
    elim (printed_status (bad_row_line bad) status.BadRow before.sink now.sink m runs.3 sink) [
      | inl memory ↦ inl memory
      | inr printed ↦ inr (bad_row_fixes (command_of words) before.source.left before.keeper.tables m bad runs.0 runs.2 printed)
    ]
fixed_status (answered h count) words before now m (workers, n, is, opened, end) source sink keeper door =
    wanting h m _ end (λ memory.
    let same = ap (λ (v : _). v.left) opened.opens.source in
    let fixed = session_status n h count m workers opened.opened.source now.source opened.ran.framed end source sink memory in
    let at_first = subst (λ l. IsFixedOver (command.Session workers n) l m) same fixed in
    subst (λ o. IsFixed o before.source.left before.keeper.tables m) (sym is)
    (of_loaded before.keeper.tables _ opened.is_opened.tables opened.is_opened.loaded (inr (opened.is_opened.unbroken, at_first))))
fixed_status (served end connections) words before now m (count, workers, n, is, opened, end_is) source sink keeper door =
    elim (serving_status end count connections opened.opened.sink.written now.sink.written m opened.ran.lines end_is sink door) [
      | inl memory ↦ inl memory
      | inr done ↦ inr (subst (λ o. IsFixed o before.source.left before.keeper.tables m) (sym is)
          (of_loaded before.keeper.tables _ opened.is_opened.tables opened.is_opened.loaded (inr (opened.is_opened.unbroken, done))))
    ]

-- ---- the causes

-- where no row of the loaded tables breaks a rule, none of those that are told does
over_unbroken : (told : Option Tables) (P : Type 0) (tables : Tables) → IfSome told (λ t. t ≡ tables) → IsFirstBad tables None
    → IfSome told (λ t. HasBadRow t → P)
over_unbroken told P tables loaded none = of_loaded told (λ t. HasBadRow t → P) tables loaded (λ bad. absurd (none_bad tables none bad))

-- what the status may be where a row of the tables breaks a rule
pub bad_row_status : (course : Course) (words : List (List ℕ)) (before now : Seen) (n : ℕ) → Runs course words before now n → IsCommand words
    → IfSome before.keeper.tables (λ t. HasBadRow t → (n ≡ code status.BadRow) ⊎ ((n ≡ code status.KeeperFault) ⊎ IsBrokenOff n))
bad_row_status unread words before now n runs is = for_told before.keeper.tables _ (λ t h. inr (inr (inr runs.2)))
bad_row_status not_a_command words before now n runs is = absurd (cc (subst IsSome runs.0 is))
bad_row_status (not_opened refusal.KeeperFault) words before now n runs is = for_told before.keeper.tables _ (λ t h. inr (inl runs.3))
bad_row_status (not_opened refusal.Memory) words before now n runs is = for_told before.keeper.tables _ (λ t h. inr (inr (inr runs.3)))
bad_row_status (not_opened (refusal.BadRow bad)) words before now n runs is =
    for_told before.keeper.tables _ (λ t h. printed (bad_row_line bad) before.sink now.sink runs.3)
  where
    printed : (line : List ℕ) (sink_before sink_now : SinkView) → Prints line status.BadRow sink_before sink_now n
        → (n ≡ code status.BadRow) ⊎ ((n ≡ code status.KeeperFault) ⊎ IsBrokenOff n)
    printed line sink_before sink_now (inl whole) = inl whole.0
    printed line sink_before sink_now (inr broken) = inr (inr broken.0)
bad_row_status (answered h count) words before now n (workers, requests, done, opened, end) is =
    over_unbroken before.keeper.tables _ opened.is_opened.tables opened.is_opened.loaded opened.is_opened.unbroken
bad_row_status (served end connections) words before now n (count, workers, requests, done, opened, end_is) is =
    over_unbroken before.keeper.tables _ opened.is_opened.tables opened.is_opened.loaded opened.is_opened.unbroken

-- a line that was printed leaves no status of a further request
unturned : (line : List ℕ) (meant : Status) (sink0 sink1 : SinkView) (n : ℕ) → Prints line meant sink0 sink1 n → n ≡ code status.Turns
    → code meant ≢ code status.Turns → ⊥
unturned line meant sink0 sink1 n (inl whole) is other = other (sym whole.0 ∙ is)
unturned line meant sink0 sink1 n (inr (inl fault, part)) is other = absurd (omega (arith, fault, is))
unturned line meant sink0 sink1 n (inr (inr memory, part)) is other = absurd (omega (arith, memory, is))

-- serving doesn't end with that status
serving_unturned : (end : Status) (count : ℕ) (connections : List Connection) (old new : Option (List ℕ)) (n : ℕ)
    → EndsWith end count connections old new → n ≡ code end → n ≡ code status.Turns → ⊥
serving_unturned status.Ended count connections old new n ends end is = absurd (omega (arith, end, is))
serving_unturned status.Memory count connections old new n ends end is = absurd (omega (arith, end, is))
serving_unturned status.SinkFault count connections old new n ends end is = absurd (omega (arith, end, is))
serving_unturned status.DoorFault count connections old new n ends end is = absurd (omega (arith, end, is))
serving_unturned status.Usage count connections old new n ends end is = absurd ends
serving_unturned status.Unframeable count connections old new n ends end is = absurd ends
serving_unturned status.SourceFault count connections old new n ends end is = absurd ends
serving_unturned status.KeeperFault count connections old new n ends end is = absurd ends
serving_unturned status.BadRow count connections old new n ends end is = absurd ends
serving_unturned status.Turns count connections old new n ends end is = absurd ends

-- a session that ended with a request left has one left in its input
turned : (h : How) (n count : ℕ) (workers : ℕ) (before now : SourceView) → IsFramed h n count before now
    → code (status_of h) ≡ code status.Turns → HasFurther (command.Session workers n) before.left
turned how.Turns n count workers before now framed is =
    for_left before.left _ (λ input told. (
      framed.requests,
      Covers-told before.left now.left input framed.taken (λ b. AreRequests n b framed.requests turns) told framed.content
          framed.ends,
    ))
turned how.Ended n count workers before now framed is = absurd (omega (arith, is))
turned how.Unframeable n count workers before now framed is = absurd (omega (arith, is))
turned how.SourceFault n count workers before now framed is = absurd (omega (arith, is))
turned how.SinkFault n count workers before now framed is = absurd (omega (arith, is))
turned how.Memory n count workers before now framed is = absurd (omega (arith, is))

-- Only a session whose input goes on has the status of a further request.
pub turns_of_session : (course : Course) (words : List (List ℕ)) (before now : Seen) (n : ℕ) → Runs course words before now n
    → n ≡ code status.Turns → (done : Command) × (command_of words ≡ Some done) × HasFurther done before.source.left
turns_of_session unread words before now n runs is = absurd (omega (arith, runs.2, is))
turns_of_session not_a_command words before now n runs is =
    absurd (unturned usage_line status.Usage before.sink now.sink n runs.2 is (λ e. omega (arith, e)))
turns_of_session (not_opened refusal.KeeperFault) words before now n runs is = absurd (omega (arith, runs.3, is))
turns_of_session (not_opened refusal.Memory) words before now n runs is = absurd (omega (arith, runs.3, is))
turns_of_session (not_opened (refusal.BadRow bad)) words before now n runs is =
    absurd (unturned (bad_row_line bad) status.BadRow before.sink now.sink n runs.3 is (λ e. omega (arith, e)))
turns_of_session (answered h count) words before now n (workers, requests, done, opened, end) is =
    let same = ap (λ (v : SourceView). v.left) opened.opens.source in (
      command.Session workers requests,
      done,
      subst (HasFurther (command.Session workers requests)) same
          (turned h requests count workers opened.opened.source now.source opened.ran.framed (sym end ∙ is)),
    )
turns_of_session (served end connections) words before now n (count, workers, requests, done, opened, end_is) is =
    absurd (serving_unturned end count connections opened.opened.sink.written now.sink.written n opened.ran.lines end_is is)

-- Words, an input and tables fix one status.
pub IsFixed-unique : (o : Option Command) (input : List ℕ) (t : Tables) (m n : ℕ) → IsFixed o (Some input) (Some t) m
    → IsFixed o (Some input) (Some t) n → m ≡ n
IsFixed-unique None input t m n x y = x ∙ sym y
IsFixed-unique (Some done) input t m n (inl x) (inl y) = x.1 ∙ sym y.1
IsFixed-unique (Some done) input t m n (inl x) (inr y) = absurd (none_bad t y.0 x.0)
IsFixed-unique (Some done) input t m n (inr x) (inl y) = absurd (none_bad t x.0 y.0)
IsFixed-unique (Some (command.Serve count workers requests)) input t m n (inr x) (inr y) = x.1 ∙ sym y.1
IsFixed-unique (Some (command.Session workers requests)) input t m n (inr x) (inr y) =
    let one : IsOfEnd requests input m = x.1 in
    let other : IsOfEnd requests input n = y.1 in
    let same = other.2.only one.0 one.1 one.2.are in
    one.3 ∙ ap (λ (e : End). code (status_at e)) same.1 ∙ sym other.3
