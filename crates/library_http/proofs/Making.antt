-- Exchanges made in turn, one in front of others.
use Rattle.std.proofs.Common.{◌≡◌, ◌≢◌, ◌≤◌, ◌<◌, ℕ, ◌+◌, true, Option, None, Some, List, [], ◌∷◌, ◌++◌, refl, sym, ap, ◌∙◌, arith}
use Rattle.std.specs.List.{AllByRecursion}
use Rattle.keeper_store.specs.Blobs.{Blobs}
use Rattle.keeper_store.specs.Goes.{Goes}
use Rattle.keeper_store.specs.declared.contents.Tables.{Tables}
use Rattle.library_model.specs.declared.messages.Reply.{Reply}
use Rattle.library_model.specs.declared.refusals.Refusal.TheVariants.{Vault, Keeper}
use Rattle.library_model.specs.Asked.{Asked}
use Rattle.library_model.specs.Exchanges.{Exchange, exchange, counted, count_status}
use Rattle.library_model.specs.InOrder.{Differ}
use Rattle.library_model.specs.Machine.{has_take, taken_out}
use Rattle.library_model.specs.Refusals.{status_of}
use Rattle.library_model.specs.Stands.{tables_of, HoldsFiles}
use Rattle.library_model.specs.State.{State}
use Rattle.library_model.proofs.Imports.{AllByRecursion-weaker}
use Rattle.library_model.proofs.TakesOut.{Answer-StepsTakes, taken_out-had, has_take-given}
use Rattle.catalogue_core.specs.Kept.{Keeps}
use Rattle.library_http.specs.Acts.{Acts, Counts, Leads, OldKeysKept, OtherKeysKept, count_held}
use Rattle.library_http.specs.Sessions.{Made}
use Rattle.library_http.specs.World.{World, RoseBy}
use Rattle.library_http.proofs.Goings.{Goes-then, Goes-same, Goes-weaker, RoseBy-none, count_held-append, count_held-same}
use Rattle.library_http.proofs.Releases.{Answers-Known, AreReleased-none, AreReleased-cons}

-- ---- the library's way from state to state

-- The library goes from one state to another, and from that to a third.
Leads-then : (s t u : State) (w0 w1 w2 : World) → Leads s t w0 w1 → Leads t u w1 w2 → Leads s u w0 w2
Leads-then s t u w0 w1 w2 first next = record {
  keeps = next.keeps;
  rows = Goes-then {A = Tables}
      (λ old new. old ≡ tables_of s → new ≡ tables_of t)
      (λ old new. old ≡ tables_of t → new ≡ tables_of u)
      (λ old new. old ≡ tables_of s → new ≡ tables_of u)
      (λ x y z p q h. q (p h)) w0.keeper.tables w1.keeper.tables w2.keeper.tables first.rows next.rows;
  files = Goes-then {A = Blobs}
      (λ old new. HoldsFiles old s.recordings → HoldsFiles new t.recordings)
      (λ old new. HoldsFiles old t.recordings → HoldsFiles new u.recordings)
      (λ old new. HoldsFiles old s.recordings → HoldsFiles new u.recordings)
      (λ x y z p q h. q (p h)) w0.vault.blobs w1.vault.blobs w2.vault.blobs first.files next.files;
}

-- The library that keeps a state stays there.
pub Leads-same : (s : State) (w : World) → Keeps w.library s → Leads s s w w
Leads-same s w keeps = record {
  keeps = keeps;
  rows = Goes-same {A = Tables} (λ old new. old ≡ tables_of s → new ≡ tables_of s) (λ x h. h) w.keeper.tables;
  files = Goes-same {A = Blobs} (λ old new. HoldsFiles old s.recordings → HoldsFiles new s.recordings) (λ x h. h) w.vault.blobs;
}

-- ---- keys of the vault

-- keys that a turn leaves, and the turns behind it too
old_keys_then : (s next : State) (later : List ℕ) (a b c : Blobs) → s.next_take ≤ next.next_take
    → OtherKeysKept s.next_take (taken_out s next) a b → OldKeysKept next.next_take later b c
    → OldKeysKept s.next_take (taken_out s next ++ later) a c
old_keys_then s next later a b c rises first behind key below apart =
    let parts = all_split (λ take. key ≢ take) (taken_out s next) later apart in
    behind key (omega (arith, rises, below)) parts.1 ∙ first key (λ same. absurd (omega (arith, below, same))) parts.0
  where
    all_split : (P : ℕ → Type 0) (xs ys : List ℕ) → AllByRecursion P (xs ++ ys) → AllByRecursion P xs × AllByRecursion P ys
    all_split P [] ys p = (tt, p)
    all_split P (x ∷ xs) ys p = let rest = all_split P xs ys p.1 in ((p.0, rest.0), rest.1)

-- the keys that a turn released hold what they held after it
released_stay : (s next : State) (later : List ℕ) (b c : Blobs) → AllByRecursion (λ key. key < next.next_take) (taken_out s next) → Differ (taken_out s next ++ later)
    → OldKeysKept next.next_take later b c → AllByRecursion (λ key. c key ≡ b key) (taken_out s next)
released_stay s next later b c given differ behind = by_list (taken_out s next) given differ
  where
    apart_of : (key : ℕ) (xs ys : List ℕ) → AllByRecursion (λ (other : ℕ). other ≢ key) (xs ++ ys) → AllByRecursion (λ take. key ≢ take) ys
    apart_of key [] ys apart = AllByRecursion-weaker (λ (other : ℕ). other ≢ key) (λ take. key ≢ take) ys (λ take not same. not (sym same)) apart
    apart_of key (x ∷ xs) ys apart = apart_of key xs ys apart.1

    by_list : (keys : List ℕ) → AllByRecursion (λ key. key < next.next_take) keys → Differ (keys ++ later)
        → AllByRecursion (λ key. c key ≡ b key) keys
    by_list [] below differ = tt
    by_list (key ∷ keys) below differ =
        (behind key below.0 (apart_of key keys later differ.0), by_list keys below.1 differ.1)

-- ---- counts of faults

-- The faults of an exchange and those of the exchanges behind it, with the released keys that are left.
Counts-then : (e : Exchange) (exchanges : List Exchange) (released later : List ℕ) (w0 w1 w2 : World) → Counts (e ∷ []) released w0 w1
    → Counts exchanges later w1 w2
    → Goes (λ old new. AllByRecursion (λ key. new key ≡ old key) released) w1.vault.blobs w2.vault.blobs
    → Counts (e ∷ exchanges) (released ++ later) w0 w2
Counts-then e exchanges released later w0 w1 w2 first next stay = record {
  vault = RoseBy-cons (counted (status_of Vault) e.reply) (count_status (status_of Vault) exchanges)
      w0.vault.faults w1.vault.faults w2.vault.faults first.vault next.vault;
  left = by_told (counted (status_of Vault) e.reply) (count_status (status_of Vault) exchanges)
      w0.vault.faults w1.vault.faults w2.vault.faults w0.vault.blobs w1.vault.blobs w2.vault.blobs first.left next.left stay;
  keeper = RoseBy-cons (counted (status_of Keeper) e.reply) (count_status (status_of Keeper) exchanges)
      w0.keeper.faults w1.keeper.faults w2.keeper.faults first.keeper next.keeper;
} where
  RoseBy-cons : (a b x y z : ℕ) → RoseBy (a + 0) x y → RoseBy b y z → RoseBy (a + b) x z
  RoseBy-cons a b x y z p q = omega arith

  sums : (a b c d n x y z : ℕ) → n ≡ c + d → RoseBy (a + 0 + c) x y → RoseBy (b + d) y z → RoseBy (a + b + n) x z
  sums a b c d n x y z is p q = omega arith

  by_told : (m n x y z : ℕ) (a b c : Option Blobs) → Goes (λ _ blobs. RoseBy (m + 0 + count_held blobs released) x y) a b
      → Goes (λ _ blobs. RoseBy (n + count_held blobs later) y z) b c
      → Goes (λ old new. AllByRecursion (λ key. new key ≡ old key) released) b c
      → Goes (λ _ blobs. RoseBy (m + n + count_held blobs (released ++ later)) x z) a c
  by_told m n x y z None b c p q same = tt
  by_told m n x y z (Some before) None c p q same = absurd p
  by_told m n x y z (Some before) (Some mid) None p q same = absurd q
  by_told m n x y z (Some before) (Some mid) (Some now) p q same =
      sums m n (count_held mid released) (count_held now later) (count_held now (released ++ later)) x y z
      (count_held-append now released later ∙ ap (λ k. k + count_held now later) (count_held-same mid now released same)) p q

-- No exchange, and no fault.
Counts-none : (w : World) → Counts [] [] w w
Counts-none w = record {
  vault = RoseBy-none 0 w.vault.faults w.vault.faults refl (omega arith);
  left = Goes-same (λ _ blobs. RoseBy (0 + count_held blobs []) w.vault.faults w.vault.faults)
      (λ blobs. RoseBy-none 0 w.vault.faults w.vault.faults refl (omega arith)) w.vault.blobs;
  keeper = RoseBy-none 0 w.keeper.faults w.keeper.faults refl (omega arith);
}

-- ---- what was made

-- Nothing was made.
pub Made-none : (s : State) (w : World) → Keeps w.library s → Made s [] w w
Made-none s w keeps = record {
  last = s;
  released = [];
  answers = (refl, refl);
  leads = Leads-same s w keeps;
  takes = AreReleased-none s;
  counts = Counts-none w;
  keys = Goes-same (OldKeysKept s.next_take []) (λ blobs key below apart. refl) w.vault.blobs;
  calls = λ all. refl;
  in_turn = (refl, refl);
}

-- A request was answered, and then others were.
pub Made-cons : (s : State) (asked : Asked) (reply : Reply) (exchanges : List Exchange) (w0 w1 w2 : World) → Keeps w0.library s
    → (acts : Acts s asked reply w0 w1) → Made acts.next exchanges w1 w2 → Made s (exchange asked reply ∷ exchanges) w0 w2
Made-cons s asked reply exchanges w0 w1 w2 keeps acts made =
    let next = acts.next in
    let steps = Answer-StepsTakes s asked reply next acts.answers in
    let rises = steps.rises in
    let takes = AreReleased-cons s next made.last made.released keeps.valid steps
    (Answers-Known next made.last exchanges made.released made.answers) made.takes in
    let below : AllByRecursion (λ key. key < next.next_take) (taken_out s next) =
    AllByRecursion-weaker (λ take. has_take take s.recordings ≡ true) (λ key. key < next.next_take) (taken_out s next)
    (λ take had. let given = has_take-given s take keeps.valid had in omega (arith, given, rises)) (taken_out-had s next) in
    record {
      last = made.last;
      released = taken_out s next ++ made.released;
      answers = (next, made.released, acts.answers, made.answers, refl);
      leads = Leads-then s next made.last w0 w1 w2 acts.leads made.leads;
      takes = takes;
      counts = Counts-then (exchange asked reply) exchanges (taken_out s next) made.released w0 w1 w2 acts.counts made.counts
          (Goes-weaker (OldKeysKept next.next_take made.released) (λ old new. AllByRecursion (λ key. new key ≡ old key) (taken_out s next))
          (λ b c kept. released_stay s next made.released b c below takes.differ kept) w1.vault.blobs w2.vault.blobs made.keys);
      keys = Goes-then (OtherKeysKept s.next_take (taken_out s next)) (OldKeysKept next.next_take made.released)
          (OldKeysKept s.next_take (taken_out s next ++ made.released))
          (λ a b c first behind. old_keys_then s next made.released a b c rises first behind)
          w0.vault.blobs w1.vault.blobs w2.vault.blobs acts.keys made.keys;
      calls = λ all. made.calls all.1 ∙ acts.calls all.0;
      in_turn = (w1, acts, made.in_turn);
    }
