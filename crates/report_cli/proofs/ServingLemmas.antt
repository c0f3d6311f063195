-- Lemmas on connections that are served one after another.
use Rattle.std.proofs.Common.{◌≡◌, ◌≢◌, ◌≤◌, ◌<◌, ◌+◌, ◌-◌, ◌^◌, ◌⊎◌, ℕ, min, List, [], ◌∷◌, ◌++◌, length, map, Option, None, Some, IfSome, inl, inr, zero, suc, false, refl, sym, ap, ◌∙◌, subst, arith, rules, append_assoc, append-nil, length-append, Result, Ok, Err}
use Rattle.std.specs.Prelude.{sum_by}
use Rattle.std.specs.List.{AllByRecursion}
use Rattle.std.specs.Io.KnownBytes.{Appends}
use Rattle.std.proofs.lemmas.List.{map-append}
use Rattle.std.proofs.lemmas.List.Sums.{sum_by-append}
use Rattle.lib_base.specs.Doors.{DoorView, GivesFirst, GivesEmpty, KeepsLists, AppendsOne, EndsConnection, count_with}
use Rattle.lib_base.specs.Faults.{Rose}
use Rattle.lib_base.specs.Sources.{SourceView}
use Rattle.lib_base.specs.Writes.{AppendsPart, SinkView}
use Rattle.keeper_store.specs.Goes.{Goes}
use Rattle.library_model.specs.State.{State}
use Rattle.catalogue_core.specs.Kept.{Keeps}
use Rattle.library_http.specs.declared.serving.How.{How}
use Rattle.library_http.specs.declared.serving.How.TheVariants as how
use Rattle.library_http.specs.Acts.{Leads}
use Rattle.library_http.specs.Sessions.{AppendsInPart, CountsFaults}
use Rattle.library_http.specs.World.{World, KeepsFaults, RoseBy}
use Rattle.report_cli.specs.declared.statuses.Status.{Status}
use Rattle.report_cli.specs.declared.statuses.Status.TheVariants as status
use Rattle.report_cli.specs.Connections.{Connection, SessionOf, ServeInTurn, ServeFrom, Serves, FramedOf, HandsBack, LosesAll, GainsAll, BeginsEmpty, fault_of_source, fault_of_sink, source_fault, sink_fault, lines_from, line_of, LastInPart, EndsWith, TurnWrites}

-- ---- what is told

-- two steps of what is told are one
goes_on : {A : Type 0} (P Q R : A → A → Type 0) → ((a b c : A) → P a b → Q b c → R a c) → (x y z : Option A) → Goes P x y → Goes Q y z
    → Goes R x z
goes_on P Q R both None y z p q = tt
goes_on P Q R both (Some a) None z p q = absurd p
goes_on P Q R both (Some a) (Some b) None p q = absurd q
goes_on P Q R both (Some a) (Some b) (Some c) p q = both a b c p q

-- so of bytes that are appended
pub append_twice : (x y z : Option (List ℕ)) (front back : List ℕ) → Appends x y front → Appends y z back → Appends x z (front ++ back)
append_twice None y z front back p q = tt
append_twice (Some a) None z front back p q = absurd p
append_twice (Some a) (Some b) None front back p q = absurd q
append_twice (Some a) (Some b) (Some c) front back p q = q ∙ ap (λ t. t ++ back) p ∙ append_assoc a front back

-- and of bytes of which the last are a part
pub append_part : (x y z : Option (List ℕ)) (front back : List ℕ) → Appends x y front → AppendsPart y z back → AppendsInPart front back x z
append_part x y z front back p (part, rest, is, more, q) = (part, rest, is, more, append_twice x y z front part p q)

-- nothing is appended
pub append_none : (x : Option (List ℕ)) → Appends x x []
append_none None = tt
append_none (Some a) = sym (append-nil a)

-- ---- the door

loses_both : (cs ds : List Connection) (x y z : List (List ℕ)) → LosesAll cs x y → LosesAll ds y z → LosesAll (cs ++ ds) x z
loses_both cs ds x y z (is, told, lost) (js, told_too, lost_too) =
    let left : Connection → Option (List ℕ) = λ c. c.source.left in (
      is ++ js,
      map-append left cs ds ∙ ap (λ l. l ++ map left ds) told ∙ ap (λ l. map Some is ++ l) told_too ∙ sym (map-append Some is js),
      lost ∙ ap (λ l. is ++ l) lost_too ∙ sym (append_assoc is js z),
    )

gains_both : (cs ds : List Connection) (x y z : List (List ℕ)) → GainsAll cs x y → GainsAll ds y z → GainsAll (cs ++ ds) x z
gains_both cs ds x y z (os, told, gained) (ps, told_too, gained_too) =
    let written : Connection → Option (List ℕ) = λ c. c.sink_now.written in (
      os ++ ps,
      map-append written cs ds ∙ ap (λ l. l ++ map written ds) told ∙ ap (λ l. map Some os ++ l) told_too ∙ sym (map-append Some os ps),
      gained_too ∙ ap (λ l. l ++ ps) gained ∙ append_assoc x os ps,
    )

all_both : {A : Type 0} (P : A → Type 0) (xs ys : List A) → AllByRecursion P xs → AllByRecursion P ys → AllByRecursion P (xs ++ ys)
all_both P [] ys p q = q
all_both P (x ∷ xs) ys p q = (p.0, all_both P xs ys p.1 q)

rose_both : (m n a b c : ℕ) → RoseBy m a b → RoseBy n b c → RoseBy (m + n) a c
rose_both m n a b c p q = omega arith

hands_both : (cs ds : List Connection) (d0 d1 d2 : DoorView) → HandsBack cs d0 d1 → HandsBack ds d1 d2 → HandsBack (cs ++ ds) d0 d2
hands_both cs ds d0 d1 d2 p q = record {
  none_out = q.none_out;
  waiting = goes_on (LosesAll cs) (LosesAll ds) (LosesAll (cs ++ ds)) (loses_both cs ds) d0.waiting d1.waiting d2.waiting p.waiting q.waiting;
  ended = goes_on (GainsAll cs) (GainsAll ds) (GainsAll (cs ++ ds)) (gains_both cs ds) d0.ended d1.ended d2.ended p.ended q.ended;
  fresh = all_both BeginsEmpty cs ds p.fresh q.fresh;
  later = omega (arith, p.later, q.later);
  failed_sources = subst (λ n. RoseBy n d0.failed_sources d2.failed_sources) (sym (sum_by-append source_fault cs ds))
      (rose_both _ _ _ _ _ p.failed_sources q.failed_sources);
  failed_sinks = subst (λ n. RoseBy n d0.failed_sinks d2.failed_sinks) (sym (sum_by-append sink_fault cs ds))
      (rose_both _ _ _ _ _ p.failed_sinks q.failed_sinks);
}

-- a door that lets none in
pub hands_none : (d : DoorView) → d.is_out ≡ false → HandsBack [] d d
hands_none d none = record {
  none_out = none;
  waiting = lost d.waiting;
  ended = gained d.ended;
  fresh = tt;
  later = omega arith;
  failed_sources = omega arith;
  failed_sinks = omega arith;
}
  where
    lost : (told : Option (List (List ℕ))) → Goes (LosesAll []) told told
    lost None = tt
    lost (Some xs) = ([], refl, refl)

    gained : (told : Option (List (List ℕ))) → Goes (GainsAll []) told told
    gained None = tt
    gained (Some xs) = ([], refl, sym (append-nil xs))

-- ---- the library

leads_both : (s t u : State) (w0 w1 w2 : World) → Leads s t w0 w1 → Leads t u w1 w2 → Leads s u w0 w2
leads_both s t u w0 w1 w2 p q = record {
  keeps = q.keeps;
  rows = goes_on _ _ _ (λ a b c f g h. g (f h)) w0.keeper.tables w1.keeper.tables w2.keeper.tables p.rows q.rows;
  files = goes_on _ _ _ (λ a b c f g h. g (f h)) w0.vault.blobs w1.vault.blobs w2.vault.blobs p.files q.files;
}

turns_both : (n : ℕ) (s t u : State) (cs ds : List Connection) (w0 w1 w2 : World) → ServeInTurn n s cs t w0 w1 → ServeInTurn n t ds u w1 w2
    → ServeInTurn n s (cs ++ ds) u w0 w2
turns_both n s t u [] ds w0 w1 w2 p q =
    subst (λ (w : World). ServeInTurn n s ds u w w2) p.1 (subst (λ (x : State). ServeInTurn n x ds u w1 w2) p.0 q)
turns_both n s t u (c ∷ cs) ds w0 w1 w2 (mid, session, rest) q =
    (mid, session, turns_both n session.made.last t u cs ds mid w1 w2 rest q)

-- Two servings, one after another, are one.
pub serves_both : (n : ℕ) (cs ds : List Connection) (d0 d1 d2 : DoorView) (w0 w1 w2 : World) → Serves n cs d0 d1 w0 w1
    → Serves n ds d1 d2 w1 w2 → Serves n (cs ++ ds) d0 d2 w0 w2
serves_both n cs ds d0 d1 d2 w0 w1 w2 p q = record {
  from = λ s keeps.
      let first = p.from s keeps in
      let second = q.from first.last first.leads.keeps in
      record {
        last = second.last;
        in_turn = turns_both n s first.last second.last cs ds w0 w1 w2 first.in_turn second.in_turn;
        leads = leads_both s first.last second.last w0 w1 w2 first.leads second.leads;
      };
  framed = all_both (FramedOf n) cs ds p.framed q.framed;
  door = hands_both cs ds d0 d1 d2 p.door q.door;
  faults = record {
    of_keeper = omega (arith, p.faults.of_keeper, q.faults.of_keeper);
    of_vault = omega (arith, p.faults.of_vault, q.faults.of_vault);
  };
}

-- ---- one connection

-- the first of the known connections was let in, and the others stay
let_in : (waiting given now : Option (List (List ℕ))) (left : Option (List ℕ)) → GivesFirst waiting given left → KeepsLists given now
    → Goes (λ old new. (inputs : List (List ℕ)) × (left ∷ [] ≡ map Some inputs) × (old ≡ inputs ++ new)) waiting now
let_in None given now left first kept = tt
let_in (Some xs) None now left first kept = absurd first
let_in (Some xs) (Some ys) now None first kept = absurd first
let_in (Some xs) (Some ys) None (Some bytes) first kept = absurd kept
let_in (Some xs) (Some ys) (Some zs) (Some bytes) first kept = (bytes ∷ [], refl, first ∙ ap (λ l. bytes ∷ l) (sym kept))

-- what a connection wrote was added to what ended ones did
kept_back : (ended given now : Option (List (List ℕ))) (written : Option (List ℕ)) → KeepsLists ended given → AppendsOne given now written
    → Goes (λ old new. (outputs : List (List ℕ)) × (written ∷ [] ≡ map Some outputs) × (new ≡ old ++ outputs)) ended now
kept_back None given now written kept added = tt
kept_back (Some xs) None now written kept added = absurd kept
kept_back (Some xs) (Some ys) None written kept added = absurd added
kept_back (Some xs) (Some ys) (Some zs) None kept added = absurd added
kept_back (Some xs) (Some ys) (Some zs) (Some bytes) kept added = (bytes ∷ [], refl, added ∙ ap (λ l. l ++ bytes ∷ []) kept)

-- a sink that the door gives is empty
given_empty : (ended : Option (List (List ℕ))) (written : Option (List ℕ)) → GivesEmpty ended written → IfSome written (λ bytes. bytes ≡ [])
given_empty ended None empty = tt
given_empty ended (Some bytes) empty = empty

-- a half whose count rose from nothing is counted
counted : (failed now : ℕ) (faults : ℕ) → Rose 0 faults → now ≡ count_with failed faults → RoseBy 1 failed now
counted failed now zero rose is = absurd (omega (arith, rose))
counted failed now (suc faults) rose is = omega (arith, is)

-- no count of failed halves falls
uncounted : (failed now faults : ℕ) → now ≡ count_with failed faults → RoseBy 0 failed now
uncounted failed now zero is = omega (arith, is)
uncounted failed now (suc faults) is = omega (arith, is)

-- the sources that ended by a fault are counted
source_counted : (h : How) (failed now faults : ℕ) → (h ≡ how.SourceFault → Rose 0 faults) → now ≡ count_with failed faults
    → RoseBy (0 + fault_of_source h) failed now
source_counted how.SourceFault failed now faults rose is = counted failed now faults (rose refl) is
source_counted how.Ended failed now faults rose is = uncounted failed now faults is
source_counted how.Unframeable failed now faults rose is = uncounted failed now faults is
source_counted how.Turns failed now faults rose is = uncounted failed now faults is
source_counted how.SinkFault failed now faults rose is = uncounted failed now faults is
source_counted how.Memory failed now faults rose is = uncounted failed now faults is

-- and so are the sinks
sink_counted : (h : How) (failed now faults : ℕ) → (h ≡ how.SinkFault → Rose 0 faults) → now ≡ count_with failed faults
    → RoseBy (0 + fault_of_sink h) failed now
sink_counted how.SinkFault failed now faults rose is = counted failed now faults (rose refl) is
sink_counted how.Ended failed now faults rose is = uncounted failed now faults is
sink_counted how.Unframeable failed now faults rose is = uncounted failed now faults is
sink_counted how.Turns failed now faults rose is = uncounted failed now faults is
sink_counted how.SourceFault failed now faults rose is = uncounted failed now faults is
sink_counted how.Memory failed now faults rose is = uncounted failed now faults is

-- what the door gave for a connection, seen by its halves
pub record Given (source : SourceView) (sink : SinkView) (old new : DoorView) : Type 0 where
  pub first : GivesFirst old.waiting new.waiting source.left
  pub empty : GivesEmpty old.ended sink.written
  pub sound_source : source.faults ≡ 0
  pub sound_sink : sink.faults ≡ 0
  pub ended : KeepsLists old.ended new.ended
  pub later : old.faults ≤ new.faults
  pub failed_sources : new.failed_sources ≡ old.failed_sources
  pub failed_sinks : new.failed_sinks ≡ old.failed_sinks

-- the door that gave a connection and took it back
handed : (c : Connection) (d0 d1 d2 : DoorView) (w0 w1 : World) → Given c.source c.sink d0 d1 → EndsConnection c.source_now c.sink_now d1 d2
    → CountsFaults c.how c.source c.source_now c.sink c.sink_now w0 w1 → HandsBack (c ∷ []) d0 d2
handed c d0 d1 d2 w0 w1 given ends counts = record {
  none_out = ends.out;
  waiting = let_in d0.waiting d1.waiting d2.waiting c.source.left given.first ends.waiting;
  ended = kept_back d0.ended d1.ended d2.ended c.sink_now.written given.ended ends.ended;
  fresh = (given_empty d0.ended c.sink.written given.empty, tt);
  later = omega (arith, given.later, ends.later);
  failed_sources = source_counted c.how d0.failed_sources d2.failed_sources c.source_now.faults
      (λ is. subst (λ n. Rose n c.source_now.faults) given.sound_source (counts.of_source.cause is))
      (ends.failed_sources ∙ ap (λ n. count_with n c.source_now.faults) given.failed_sources);
  failed_sinks = sink_counted c.how d0.failed_sinks d2.failed_sinks c.sink_now.faults
      (λ is. subst (λ n. Rose n c.sink_now.faults) given.sound_sink (counts.of_sink.cause is))
      (ends.failed_sinks ∙ ap (λ n. count_with n c.sink_now.faults) given.failed_sinks);
}

-- A connection that the door gave and took back, over whose halves a session ran, was served.
pub one_served : (n : ℕ) (c : Connection) (d0 d1 d2 : DoorView) (w0 w1 : World) → Given c.source c.sink d0 d1
    → EndsConnection c.source_now c.sink_now d1 d2 → CountsFaults c.how c.source c.source_now c.sink c.sink_now w0 w1
    → ((s : State) → Keeps w0.library s → SessionOf n s c w0 w1) → FramedOf n c → Serves n (c ∷ []) d0 d2 w0 w1
one_served n c d0 d1 d2 w0 w1 given ends counts session framed = record {
  from = λ s keeps.
      let ran = session s keeps in
      record { last = ran.made.last; in_turn = (w1, ran, (refl, refl)); leads = ran.made.leads };
  framed = (framed, tt);
  door = handed c d0 d1 d2 w0 w1 given ends counts;
  faults = counts.others;
}

-- ---- none

stays : {A : Type 0} (P : A → Type 0) (told : Option A) → Goes (λ old new. P old → P new) told told
stays P None = tt
stays P (Some a) = λ h. h

-- Where none was served, the library is as it was.
pub none_served : (n : ℕ) (d0 d1 : DoorView) (w : World) → HandsBack [] d0 d1 → Serves n [] d0 d1 w w
none_served n d0 d1 w hands = record {
  from = λ s keeps. record {
    last = s;
    in_turn = (refl, refl);
    leads = record { keeps = keeps; rows = stays _ w.keeper.tables; files = stays _ w.vault.blobs };
  };
  framed = tt;
  door = hands;
  faults = record { of_keeper = omega arith; of_vault = omega arith };
}

-- lists that stay lose none, and gain none
lost_none : (old new : Option (List (List ℕ))) → KeepsLists old new → Goes (LosesAll []) old new
lost_none None new kept = tt
lost_none (Some xs) None kept = absurd kept
lost_none (Some xs) (Some ys) kept = ([], refl, sym kept)

gained_none : (old new : Option (List (List ℕ))) → KeepsLists old new → Goes (GainsAll []) old new
gained_none None new kept = tt
gained_none (Some xs) None kept = absurd kept
gained_none (Some xs) (Some ys) kept = ([], refl, kept ∙ sym (append-nil xs))

-- A door that let none in.
pub refused_none : (d0 d1 : DoorView) → d1.is_out ≡ false → KeepsLists d0.waiting d1.waiting → KeepsLists d0.ended d1.ended
    → d0.faults ≤ d1.faults → d1.failed_sources ≡ d0.failed_sources → d1.failed_sinks ≡ d0.failed_sinks → HandsBack [] d0 d1
refused_none d0 d1 none waiting ended later sources sinks = record {
  none_out = none;
  waiting = lost_none d0.waiting d1.waiting waiting;
  ended = gained_none d0.ended d1.ended ended;
  fresh = tt;
  later = later;
  failed_sources = omega (arith, sources);
  failed_sinks = omega (arith, sinks);
}

-- ---- the lines

-- one more line
lines_more : (number : ℕ) (cs : List Connection) (c : Connection)
    → lines_from number (cs ++ c ∷ []) ≡ lines_from number cs ++ line_of (number + length cs) c
lines_more number [] c = append-nil (line_of number c) ∙ ap (λ n. line_of n c) (omega arith)
lines_more number (x ∷ cs) c =
    let next : number + 1 + length cs ≡ number + length (x ∷ cs) = omega arith in
    ap (λ l. line_of number x ++ l) (lines_more (number + 1) cs c ∙ ap (λ n. lines_from (number + 1) cs ++ line_of n c) next)
    ∙ sym (append_assoc (line_of number x) (lines_from (number + 1) cs) (line_of (number + length (x ∷ cs)) c))

-- what serving has done before a turn, of connections of which so many were served
pub record SoFar (n served : ℕ) (connections : List Connection) (sink_before sink_now : Option (List ℕ)) (d0 d1 : DoorView) (w0 w1 : World)
    : Type 0 where
  pub counted : length connections ≡ served
  pub serves : Serves n connections d0 d1 w0 w1
  pub written : Appends sink_before sink_now (lines_from 1 connections)

-- Nothing was served yet.
pub start : (n : ℕ) (sink : Option (List ℕ)) (d : DoorView) (w : World) → d.is_out ≡ false → SoFar n 0 [] sink sink d d w w
start n sink d w none = record {
  counted = refl;
  serves = none_served n d d w (hands_none d none);
  written = append_none sink;
}

-- what is served by a turn that goes on
pub turn_on : (n served : ℕ) (cs ds : List Connection) (k0 k1 k2 : Option (List ℕ)) (d0 d1 d2 : DoorView) (w0 w1 w2 : World)
    → SoFar n served cs k0 k1 d0 d1 w0 w1 → Serves n ds d1 d2 w1 w2 → TurnWrites (served + 1) (Ok tt) ds k1 k2
    → SoFar n (served + 1) (cs ++ ds) k0 k2 d0 d2 w0 w2
turn_on n served cs ds k0 k1 k2 d0 d1 d2 w0 w1 w2 so_far serves (c, is, wrote) = record {
  counted = ap (λ l. length (cs ++ l)) is ∙ length-append cs (c ∷ []) ∙ ap (λ m. m + 1) so_far.counted;
  serves = serves_both n cs ds d0 d1 d2 w0 w1 w2 so_far.serves serves;
  written = subst (λ l. Appends k0 k2 l) (sym (line_added served cs ds c so_far.counted is))
      (append_twice k0 k1 k2 (lines_from 1 cs) (line_of (served + 1) c) so_far.written wrote);
}
  where
    line_added : (m : ℕ) (xs ys : List Connection) (y : Connection) → length xs ≡ m → ys ≡ y ∷ []
        → lines_from 1 (xs ++ ys) ≡ lines_from 1 xs ++ line_of (m + 1) y
    line_added m xs ys y many same =
        ap (λ l. lines_from 1 (xs ++ l)) same ∙ lines_more 1 xs y ∙ ap (λ k. lines_from 1 xs ++ line_of k y) (omega (arith, many))

-- no connection came
none_more : (n served count : ℕ) (cs ds : List Connection) (k0 k1 k2 : Option (List ℕ)) (d0 d1 : DoorView) (w0 w1 : World)
    → served < count → SoFar n served cs k0 k1 d0 d1 w0 w1 → (ds ≡ []) × (k2 ≡ k1)
    → (length (cs ++ ds) < count) × Appends k0 k2 (lines_from 1 (cs ++ ds))
none_more n served count cs ds k0 k1 k2 d0 d1 w0 w1 more so_far (none, same) =
    let whole : cs ++ ds ≡ cs = ap (λ l. cs ++ l) none ∙ append-nil cs in (
      omega (arith, ap length whole, so_far.counted, more),
      subst (λ k. Appends k0 k (lines_from 1 (cs ++ ds))) (sym same)
          (subst (λ l. Appends k0 k1 (lines_from 1 l)) (sym whole) so_far.written),
    )

-- a connection came, and its line was written in part
last_part : (n served count : ℕ) (cs ds : List Connection) (k0 k1 k2 : Option (List ℕ)) (d0 d1 : DoorView) (w0 w1 : World)
    → served < count → SoFar n served cs k0 k1 d0 d1 w0 w1
    → ((c : Connection) × (ds ≡ c ∷ []) × AppendsPart k1 k2 (line_of (served + 1) c))
    → (length (cs ++ ds) ≤ count) × LastInPart (cs ++ ds) k0 k2
last_part n served count cs ds k0 k1 k2 d0 d1 w0 w1 more so_far (c, is, part) =
    let many : length (cs ++ ds) ≡ length cs + 1 = ap (λ l. length (cs ++ l)) is ∙ length-append cs (c ∷ []) in
    let own : AppendsPart k1 k2 (line_of (length cs + 1) c) = subst (λ m. AppendsPart k1 k2 (line_of (m + 1) c)) (sym so_far.counted) part in (
      omega (arith, many, so_far.counted, more),
      (cs, c, ap (λ l. cs ++ l) is, append_part k0 k1 k2 (lines_from 1 cs) (line_of (length cs + 1) c) so_far.written own),
    )

-- what is served where a turn stops
pub turn_stops : (status : Status) (n served count : ℕ) (cs ds : List Connection) (k0 k1 k2 : Option (List ℕ)) (d0 d1 : DoorView)
    (w0 w1 : World) → served < count → SoFar n served cs k0 k1 d0 d1 w0 w1 → TurnWrites (served + 1) (Err status) ds k1 k2
    → EndsWith status count (cs ++ ds) k0 k2
turn_stops status.DoorFault n served count cs ds k0 k1 k2 d0 d1 w0 w1 more so_far wrote =
    none_more n served count cs ds k0 k1 k2 d0 d1 w0 w1 more so_far wrote
turn_stops status.SinkFault n served count cs ds k0 k1 k2 d0 d1 w0 w1 more so_far wrote =
    last_part n served count cs ds k0 k1 k2 d0 d1 w0 w1 more so_far wrote
turn_stops status.Memory n served count cs ds k0 k1 k2 d0 d1 w0 w1 more so_far wrote = elim wrote [
  | inl none ↦ inl (none_more n served count cs ds k0 k1 k2 d0 d1 w0 w1 more so_far none)
  | inr part ↦ inr (last_part n served count cs ds k0 k1 k2 d0 d1 w0 w1 more so_far part)
]
turn_stops status.Ended n served count cs ds k0 k1 k2 d0 d1 w0 w1 more so_far wrote = absurd wrote
turn_stops status.Usage n served count cs ds k0 k1 k2 d0 d1 w0 w1 more so_far wrote = absurd wrote
turn_stops status.Unframeable n served count cs ds k0 k1 k2 d0 d1 w0 w1 more so_far wrote = absurd wrote
turn_stops status.SourceFault n served count cs ds k0 k1 k2 d0 d1 w0 w1 more so_far wrote = absurd wrote
turn_stops status.KeeperFault n served count cs ds k0 k1 k2 d0 d1 w0 w1 more so_far wrote = absurd wrote
turn_stops status.BadRow n served count cs ds k0 k1 k2 d0 d1 w0 w1 more so_far wrote = absurd wrote
turn_stops status.Turns n served count cs ds k0 k1 k2 d0 d1 w0 w1 more so_far wrote = absurd wrote
