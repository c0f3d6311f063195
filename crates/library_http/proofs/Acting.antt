-- What one request does to the world: one that changes nothing, one that is staged, committed and swept.
use Rattle.std.proofs.Common.{◌≡◌, ◌≢◌, ◌≤◌, ◌<◌, ◌+◌, ◌==◌, ◌||◌, not, ℕ, Bool, true, false, List, [], ◌∷◌, Option, None, Some, refl, sym, ap, ◌∙◌, subst, true≢false, ◌⊎◌, arith, if◌then◌else◌, inl, inr, Result}
use Rattle.std.specs.List.{AllByRecursion}
use Rattle.std.proofs.lemmas.Bool.Decides.{nat_tests}
use Rattle.lib_base.specs.declared.outcomes.Memory.{Memory}
use Rattle.lib_base.specs.Faults.{Rose}
use Rattle.keeper_store.specs.Blobs.{Blobs, OthersKept}
use Rattle.keeper_store.specs.Changes.{changed_all}
use Rattle.keeper_store.specs.declared.contents.NextNumbers.{NextNumbers}
use Rattle.keeper_store.specs.Goes.{Goes, RoseByOne, RoseByOneAtMost}
use Rattle.keeper_store.specs.Keepers.{KeeperView}
use Rattle.keeper_store.specs.Vaults.{VaultView}
use Rattle.library_model.specs.declared.messages.Command.{Command}
use Rattle.library_model.specs.declared.messages.Reply.{Reply}
use Rattle.library_model.specs.declared.refusals.Refusal.TheVariants as cause
use Rattle.library_model.specs.Asked.{Asked, change, command, puts_file, spares_vault, takes_file}
use Rattle.library_model.specs.Exchanges.{counted}
use Rattle.library_model.specs.Granted.{IsGrantable}
use Rattle.library_model.specs.InOrder.{IsKeptStatus}
use Rattle.library_model.specs.Machine.{Answer, AnswersBy, Decides, Way, accepts, stays, as_decided, without_memory, vault_failed, keeper_failed, has_take, kept_reply, kept_under, taken_out}
use Rattle.library_model.specs.Refusals.{status_of}
use Rattle.library_model.specs.Replies.{refusal}
use Rattle.library_model.specs.Stands.{AsksWithin, HoldsFiles, HoldsFileOf, IsValid, tables_of}
use Rattle.library_model.specs.State.{Kept, Recording, State}
use Rattle.library_model.proofs.Accepting.{accepted-IsKeptStep}
use Rattle.library_model.proofs.ActsOnce.{accepted_kept}
use Rattle.library_model.proofs.Granting.{Decides-granted}
use Rattle.library_model.proofs.Imports.{AllByRecursion-weaker, HoldsFiles-kept}
use Rattle.library_model.proofs.Statuses.{Decides-IsBelow, RefusesBelow}
use Rattle.library_model.proofs.TakesOut.{taken_out-gone, taken_out-same, taken_out-spared}
use Rattle.library_model.proofs.ValidSteps.{accepted-HoldsFiles, accepted-IsValid}
use Rattle.catalogue_core.specs.declared.libraries.Library.{Library}
use Rattle.catalogue_core.specs.declared.prepared.Prepared.{Prepared}
use Rattle.catalogue_core.specs.declared.prepared.Staged.{Staged}
use Rattle.catalogue_core.specs.Causes.{IsGranted}
use Rattle.catalogue_core.specs.Committing.{Commits, IsLeft, IsMade}
use Rattle.catalogue_core.specs.Kept.{Holds, HoldsAgain, Keeps, numbers_of, takes_of}
use Rattle.catalogue_core.specs.Staging.{Prepares, Stages}
use Rattle.catalogue_core.specs.Sweeping.{Clears, Sweeps}
use Rattle.library_http.specs.Acts.{Acts, IsFaultless, Leads, OtherKeysKept, count_held, held, server_fault}
use Rattle.library_http.specs.World.{World, world, RoseBy}
use Rattle.library_http.proofs.Goings.{Goes-same, Goes-then, Goes-weaker, Goes-both, RoseBy-none, RoseBy-one}

-- ---- statuses that count

-- a reply of another status doesn't count
pub counted-other : (reply : Reply) (status : ℕ) → reply.status ≢ status → counted status reply + 0 ≡ 0
counted-other reply status differs = grind (arith, nat_tests)

-- a reply of that status counts once
counted-same : (reply : Reply) (status : ℕ) → reply.status ≡ status → counted status reply + 0 ≡ 1
counted-same reply status same = grind (arith, nat_tests)

-- a test of numbers that holds says that they are equal
tested : (m n : ℕ) → (m == n) ≡ true → m ≡ n
tested m n h = grind (arith, nat_tests)

-- a count rises by one where a test holds, and else it only goes on
rose_as : (b : Bool) (before now : ℕ) → (b ≡ true → Rose before now) → before ≤ now → RoseBy ((if b then 1 else 0) + 0) before now
rose_as true before now rose later = let h : Rose before now = rose refl in omega arith
rose_as false before now rose later = omega arith

-- what a request's reply counts, where the vault's count goes on, and the keeper's
pub record CountsOne (reply : Reply) (before now : World) : Type 0 where
  pub vault : RoseBy (counted (status_of cause.Vault) reply + 0) before.vault.faults now.vault.faults
  pub keeper : RoseBy (counted (status_of cause.Keeper) reply + 0) before.keeper.faults now.keeper.faults

-- a reply that is neither `Vault` nor `Keeper` counts no fault
pub CountsOne-neither : (reply : Reply) (w0 w1 : World) → reply.status ≢ status_of cause.Vault → reply.status ≢ status_of cause.Keeper
    → w0.vault.faults ≤ w1.vault.faults → w0.keeper.faults ≤ w1.keeper.faults → CountsOne reply w0 w1
CountsOne-neither reply w0 w1 vault keeper vault_later keeper_later = record {
  vault = RoseBy-none _ _ _ (counted-other reply (status_of cause.Vault) vault) vault_later;
  keeper = RoseBy-none _ _ _ (counted-other reply (status_of cause.Keeper) keeper) keeper_later;
}

-- a reply that is `Vault` only where the vault's count rose, and never `Keeper`
pub CountsOne-vault : (reply : Reply) (w0 w1 : World) → (reply.status ≡ status_of cause.Vault → Rose w0.vault.faults w1.vault.faults)
    → reply.status ≢ status_of cause.Keeper → w0.vault.faults ≤ w1.vault.faults → w0.keeper.faults ≤ w1.keeper.faults → CountsOne reply w0 w1
CountsOne-vault reply w0 w1 rose keeper vault_later keeper_later = record {
  vault = rose_as (reply.status == status_of cause.Vault) w0.vault.faults w1.vault.faults
      (λ h. rose (tested reply.status (status_of cause.Vault) h)) vault_later;
  keeper = RoseBy-none _ _ _ (counted-other reply (status_of cause.Keeper) keeper) keeper_later;
}

-- the reply `Keeper`, where the keeper's count rose
pub CountsOne-keeper : (w0 w1 : World) → w0.vault.faults ≤ w1.vault.faults → Rose w0.keeper.faults w1.keeper.faults
    → CountsOne (refusal cause.Keeper) w0 w1
CountsOne-keeper w0 w1 vault_later rose = record {
  vault = RoseBy-none _ _ _ (counted-other (refusal cause.Keeper) (status_of cause.Vault) (omega arith)) vault_later;
  keeper = RoseBy-one _ _ _ (omega (arith, counted-same (refusal cause.Keeper) (status_of cause.Keeper) refl)) rose;
}

-- ---- a request's acts

-- without a fault that was counted, an answer is the one that is decided, or memory was wanting
settled_without_faults : (s : State) (asked : Asked) (reply : Reply) (next : State) (w0 w1 : World)
    → Answer s asked reply next → CountsOne reply w0 w1 → ¬ Rose w0.vault.faults w1.vault.faults
    → ¬ Rose w0.keeper.faults w1.keeper.faults → IsFaultless s asked reply next
settled_without_faults s asked reply next w0 w1 answer counts vault keeper = by_way answer.way answer.answers
  where
    by_way : (way : Way) → AnswersBy way s asked reply next → IsFaultless s asked reply next
    by_way (as_decided verdict) answers = inl (verdict, answers)
    by_way without_memory answers = inr answers
    by_way (vault_failed verdict) answers =
        let counted : counted (status_of cause.Vault) reply + 0 ≡ 1 =
        counted-same reply (status_of cause.Vault) (ap (λ (r : Reply). r.status) answers.3) in
        absurd (vault (subst (λ (n : ℕ). RoseBy n w0.vault.faults w1.vault.faults) counted counts.vault))
    by_way (keeper_failed verdict) answers =
        let counted : counted (status_of cause.Keeper) reply + 0 ≡ 1 =
        counted-same reply (status_of cause.Keeper) (ap (λ (r : Reply). r.status) answers.2) in
        absurd (keeper (subst (λ (n : ℕ). RoseBy n w0.keeper.faults w1.keeper.faults) counted counts.keeper))

-- what nothing refuses is granted then, or memory was wanting
faultless_grants : (s : State) (asked : Asked) (reply : Reply) (next : State) → IsFaultless s asked reply next → IsGrantable s asked
    → IsKeptStatus reply.status ⊎ (reply ≡ refusal cause.Memory)
faultless_grants s asked reply next (inl (verdict, answers)) may =
    inl (subst (λ (r : Reply). IsKeptStatus r.status) (sym answers.1) (Decides-granted s asked verdict may answers.0))
faultless_grants s asked reply next (inr answers) may = inr answers.0

-- ---- requests that change nothing

-- The library keeps what it kept, and the vault changed under the next take alone: the state stays.
Leads-kept : (s : State) (w0 w1 : World) → Keeps w0.library s → HoldsAgain w0.library w1.library
    → Goes (OthersKept s.next_take) w0.vault.blobs w1.vault.blobs
    → Goes (λ old new. new ≡ old) w0.keeper.tables w1.keeper.tables
    → Leads s s w0 w1
Leads-kept s w0 w1 keeps again others tables = record {
  keeps = record { valid = keeps.valid; rows = again (tables_of s) keeps.rows };
  rows = Goes-weaker _ _ (λ old new same is. same ∙ is) w0.keeper.tables w1.keeper.tables tables;
  files = Goes-weaker _ _ (λ old new kept held. HoldsFiles-kept s old new keeps.valid held kept) w0.vault.blobs w1.vault.blobs others;
}

-- no key is left where none is released
none_left : (s : State) (reply : Reply) (w0 w1 : World) → CountsOne reply w0 w1 → Goes (OthersKept s.next_take) w0.vault.blobs w1.vault.blobs
    → Goes (λ _ blobs. RoseBy (counted (status_of cause.Vault) reply + 0 + count_held blobs (taken_out s s)) w0.vault.faults w1.vault.faults)
    w0.vault.blobs w1.vault.blobs
none_left s reply w0 w1 counts others =
    Goes-weaker (OthersKept s.next_take)
    (λ _ blobs. RoseBy (counted (status_of cause.Vault) reply + 0 + count_held blobs (taken_out s s)) w0.vault.faults w1.vault.faults)
    (λ old new kept.
    let none : count_held new (taken_out s s) ≡ 0 = ap (count_held new) (taken_out-same s) in
    by_sum (counted (status_of cause.Vault) reply + 0) (count_held new (taken_out s s)) w0.vault.faults w1.vault.faults none counts.vault)
    w0.vault.blobs w1.vault.blobs others
  where
    by_sum : (m n x y : ℕ) → n ≡ 0 → RoseBy m x y → RoseBy (m + n) x y
    by_sum m n x y none rose = omega arith

-- what a request that leaves the state did to keeper and vault: nothing, where its reply tells of no server's fault
pub record Touches (reply : Reply) (before now : World) : Type 0 where
  pub applies : RoseByOneAtMost before.keeper.applies now.keeper.applies
  pub neither : reply.status < server_fault → (now.keeper ≡ before.keeper) × (now.vault ≡ before.vault)

-- a reply of a server's fault may follow an apply, and calls of the vault
Touches-fault : (reply : Reply) (w0 w1 : World) → server_fault ≤ reply.status → RoseByOneAtMost w0.keeper.applies w1.keeper.applies
    → Touches reply w0 w1
Touches-fault reply w0 w1 fault once = record { applies = once; neither = λ below. absurd (omega (arith, fault, below)) }

-- Such a request acts.
pub Acts-kept : (s : State) (asked : Asked) (reply : Reply) (w0 w1 : World) → Keeps w0.library s → Answer s asked reply s
    → HoldsAgain w0.library w1.library → Goes (OthersKept s.next_take) w0.vault.blobs w1.vault.blobs
    → Goes (λ old new. new ≡ old) w0.keeper.tables w1.keeper.tables → CountsOne reply w0 w1
    → (spares_vault asked ≡ true → w1.vault.calls ≡ w0.vault.calls) → Touches reply w0 w1 → Acts s asked reply w0 w1
Acts-kept s asked reply w0 w1 keeps answer again others tables counts calls touches = record {
  next = s;
  answers = answer;
  leads = Leads-kept s w0 w1 keeps again others tables;
  counts = record { vault = counts.vault; left = none_left s reply w0 w1 counts others; keeper = counts.keeper };
  calls = calls;
  keys = Goes-weaker (OthersKept s.next_take) (OtherKeysKept s.next_take (taken_out s s))
      (λ old new kept key apart differs. kept key apart) w0.vault.blobs w1.vault.blobs others;
  applies = touches.applies;
  applied = λ differs. absurd (differs refl);
  untouched = λ _ below. touches.neither below;
  complete = settled_without_faults s asked reply s w0 w1 answer counts;
  granted = λ vault keeper may. faultless_grants s asked reply s (settled_without_faults s asked reply s w0 w1 answer counts vault keeper) may;
}

-- One that touches nothing at all.
pub Acts-same : (s : State) (asked : Asked) (reply : Reply) (w : World) → Keeps w.library s → Answer s asked reply s
    → reply.status ≢ status_of cause.Vault → reply.status ≢ status_of cause.Keeper → Acts s asked reply w w
Acts-same s asked reply w keeps answer vault keeper =
    Acts-kept s asked reply w w keeps answer (λ t holds. holds)
    (Goes-same (OthersKept s.next_take) (λ blobs other apart. refl) w.vault.blobs)
    (Goes-same (λ t u. u ≡ t) (λ t. refl) w.keeper.tables)
    (CountsOne-neither reply w w vault keeper (omega arith) (omega arith)) (λ spares. refl)
    (record { applies = (omega arith, omega arith); neither = λ below. (refl, refl) })

-- Want of memory, with nothing touched.
pub Acts-unread : (s : State) (asked : Asked) (w : World) → Keeps w.library s → Acts s asked (refusal cause.Memory) w w
Acts-unread s asked w keeps =
    Acts-same s asked (refusal cause.Memory) w keeps (record { way = without_memory; answers = (refl, refl) }) (omega arith) (omega arith)

-- A reply that is decided and leaves the state.
pub Acts-decided : (s : State) (asked : Asked) (reply : Reply) (w : World) → Keeps w.library s → RefusesBelow asked
    → Decides s asked (stays reply) → Acts s asked reply w w
Acts-decided s asked reply w keeps of_asked decides =
    let below = Decides-IsBelow s asked (stays reply) keeps.valid of_asked decides in
    Acts-same s asked reply w keeps (record { way = as_decided (stays reply); answers = (decides, refl, refl) })
    (λ is. absurd (omega (arith, below, is))) (λ is. absurd (omega (arith, below, is)))

-- ---- what was swept

-- one key that holds something counts one at most
held_small : (o : Option (List ℕ)) → held o ≤ 1
held_small None = omega arith
held_small (Some bytes) = omega arith

-- A sweep leaves every key but the released one.
swept_keys : (released : Option ℕ) (v0 v1 : VaultView) → Clears released v0 v1
    → Goes (λ old new. (key : ℕ) → AllByRecursion (λ take. key ≢ take) (takes_of released) → new key ≡ old key) v0.blobs v1.blobs
swept_keys None v0 v1 clears =
    subst (λ (v : VaultView). Goes (λ old new. (key : ℕ) → AllByRecursion (λ take. key ≢ take) [] → new key ≡ old key) v0.blobs v.blobs) (sym clears)
    (Goes-same (λ old new. (key : ℕ) → AllByRecursion (λ take. key ≢ take) [] → new key ≡ old key) (λ blobs key apart. refl) v0.blobs)
swept_keys (Some take) v0 v1 clears =
    Goes-weaker (OthersKept take) (λ old new. (key : ℕ) → AllByRecursion (λ take. key ≢ take) (take ∷ []) → new key ≡ old key)
    (λ old new kept key apart. kept key apart.0) v0.blobs v1.blobs clears.1

-- The released key holds nothing, or the vault's count rose.
swept_left : (released : Option ℕ) (v0 v1 : VaultView) → Clears released v0 v1 → v0.faults ≤ v1.faults
    → Goes (λ _ blobs. RoseBy (count_held blobs (takes_of released)) v0.faults v1.faults) v0.blobs v1.blobs
swept_left None v0 v1 clears later =
    Goes-weaker (λ old new. (key : ℕ) → AllByRecursion (λ take. key ≢ take) [] → new key ≡ old key) (λ _ blobs. RoseBy 0 v0.faults v1.faults)
    (λ old new kept. RoseBy-none 0 v0.faults v1.faults refl later) v0.blobs v1.blobs (swept_keys None v0 v1 clears)
swept_left (Some take) v0 v1 (inl cleared, others) later =
    Goes-weaker (λ _ blobs. blobs take ≡ None) (λ _ blobs. RoseBy (count_held blobs (take ∷ [])) v0.faults v1.faults)
    (λ old new none. RoseBy-none (count_held new (take ∷ [])) v0.faults v1.faults (ap (λ (o : Option (List ℕ)). held o + 0) none) later)
    v0.blobs v1.blobs cleared
swept_left (Some take) v0 v1 (inr rose, others) later =
    Goes-weaker (OthersKept take) (λ _ blobs. RoseBy (count_held blobs (take ∷ [])) v0.faults v1.faults)
    (λ old new kept. let small = held_small (new take) in RoseBy-one (count_held new (take ∷ [])) v0.faults v1.faults (omega (arith, small)) rose)
    v0.blobs v1.blobs others

-- of two tests that do not hold together neither holds
or_left : (a b : Bool) → (a || b) ≡ false → a ≡ false
or_left false b none = refl
or_left true b none = none

or_right : (a b : Bool) → (a || b) ≡ false → b ≡ false
or_right false b none = none
or_right true b none = absurd (true≢false none)

-- numbers that test as apart are
tested_apart : (m n : ℕ) → (m == n) ≡ false → m ≢ n
tested_apart m n is same = grind (arith, nat_tests)

-- files stay where no recording has a take that is released
files_behind : (old new : Blobs) (recordings : List Recording) (released : List ℕ)
    → AllByRecursion (λ take. has_take take recordings ≡ false) released
    → ((key : ℕ) → AllByRecursion (λ take. key ≢ take) released → new key ≡ old key)
    → HoldsFiles old recordings → HoldsFiles new recordings
files_behind old new [] released gone kept holds = tt
files_behind old new (r ∷ recordings) released gone kept holds =
    let apart : AllByRecursion (λ take. r.take ≢ take) released =
    AllByRecursion-weaker (λ take. has_take take (r ∷ recordings) ≡ false) (λ take. r.take ≢ take) released
    (λ take none. tested_apart r.take take (or_left (r.take == take) (has_take take recordings) none)) gone in
    let rest : AllByRecursion (λ take. has_take take recordings ≡ false) released =
    AllByRecursion-weaker (λ take. has_take take (r ∷ recordings) ≡ false) (λ take. has_take take recordings ≡ false) released
    (λ take none. or_right (r.take == take) (has_take take recordings) none) gone in
    (kept r.take apart ∙ holds.0, files_behind old new recordings released rest kept holds.1)

-- ---- changes that were staged

-- the keys of the state's next take are those of the library's
pub others_of : (s : State) (library : Library) (blobs0 blobs1 : Option Blobs) → Keeps library s
    → Goes (OthersKept (numbers_of library).take) blobs0 blobs1 → Goes (OthersKept s.next_take) blobs0 blobs1
others_of s library blobs0 blobs1 keeps others =
    subst (λ (take : ℕ). Goes (OthersKept take) blobs0 blobs1) (ap (λ (n : NextNumbers). n.take) keeps.rows.numbers) others

-- a command that spares the vault puts no file and takes none out
spares : (puts takes : Bool) → not (puts || takes) ≡ true → (puts ≡ false) × (takes ≡ false)
spares true takes is = absurd (true≢false (sym is))
spares false true is = absurd (true≢false (sym is))
spares false false is = (refl, refl)

-- What staging gave, which changed nothing, acts with its reply.
pub Acts-staged : (s : State) (token mark : List ℕ) (wanted : Command) (reply : Reply) (r : Result Staged Memory) (lib0 lib1 : Library)
    (keeper : KeeperView) (v0 v1 : VaultView) → Keeps lib0 s → Stages wanted lib0 lib1 v0 v1 r → (puts_file wanted ≡ false → v1 ≡ v0)
    → Answer s (change token mark (command wanted)) reply s → CountsOne reply (world lib0 keeper v0) (world lib1 keeper v1)
    → (reply.status < server_fault → v1 ≡ v0)
    → Acts s (change token mark (command wanted)) reply (world lib0 keeper v0) (world lib1 keeper v1)
Acts-staged s token mark wanted reply r lib0 lib1 keeper v0 v1 keeps stages spared answer counts untouched =
    Acts-kept s (change token mark (command wanted)) reply (world lib0 keeper v0) (world lib1 keeper v1) keeps answer stages.held
    (others_of s lib0 v0.blobs v1.blobs keeps stages.others) (Goes-same (λ t u. u ≡ t) (λ t. refl) keeper.tables) counts
    (λ is. ap (λ (v : VaultView). v.calls) (spared (spares (puts_file wanted) (takes_file wanted) is).0))
    (record { applies = (omega arith, omega arith); neither = λ below. (refl, untouched below) })

-- a count that rose by one rose by one at most
at_most : (before now : ℕ) → RoseByOne before now → RoseByOneAtMost before now
at_most before now rose = (rose.later, omega (arith, rose.counted))

-- A change that was staged and then was not made leaves the state.
Acts-left : (s : State) (token mark : List ℕ) (wanted : Command) (reply : Reply) (r : Result Staged Memory) (lib0 lib1 lib2 lib3 : Library)
    (k0 k2 : KeeperView) (v0 v1 v3 : VaultView) → Keeps lib0 s → Stages wanted lib0 lib1 v0 v1 r → (puts_file wanted ≡ false → v1 ≡ v0)
    → IsLeft lib1 lib2 k0 k2 → Sweeps lib2 lib3 v1 v3 → Answer s (change token mark (command wanted)) reply s
    → CountsOne reply (world lib0 k0 v0) (world lib3 k2 v1) → server_fault ≤ reply.status → RoseByOne k0.applies k2.applies
    → Acts s (change token mark (command wanted)) reply (world lib0 k0 v0) (world lib3 k2 v3)
Acts-left s token mark wanted reply r lib0 lib1 lib2 lib3 k0 k2 v0 v1 v3 keeps stages spared left sweeps answer counts fault once =
    let none : v3 ≡ v1 = subst (λ (o : Option ℕ). Clears o v1 v3) left.released sweeps.clears in
    subst (λ (v : VaultView). Acts s (change token mark (command wanted)) reply (world lib0 k0 v0) (world lib3 k2 v)) (sym none)
    (Acts-kept s (change token mark (command wanted)) reply (world lib0 k0 v0) (world lib3 k2 v1) keeps answer
    (λ t holds. sweeps.held t (left.holds t (stages.held t holds)))
    (others_of s lib0 v0.blobs v1.blobs keeps stages.others) left.tables counts
    (λ is. ap (λ (v : VaultView). v.calls) (spared (spares (puts_file wanted) (takes_file wanted) is).0))
    (Touches-fault reply (world lib0 k0 v0) (world lib3 k2 v1) fault (at_most k0.applies k2.applies once)))

-- ---- changes that were made

-- a change that is accepted leads to another state, in which its reply is kept
accepted_moves : (s : State) (token mark : List ℕ) (wanted : Command) (reply : Reply) (next : State)
    → Decides s (change token mark (command wanted)) (accepts reply next) → next ≢ s
accepted_moves s token mark wanted reply next decides same =
    let step = accepted-IsKeptStep s token mark (command wanted) reply next decides in
    let kept : kept_under token next.replies ≡ Some (kept_reply token mark reply) =
    accepted_kept s token mark (command wanted) reply next decides in
    let none : (◌≡◌ {A = Option Kept} (Some (kept_reply token mark reply)) None) =
    sym kept ∙ ap (λ (t : State). kept_under token t.replies) same ∙ step.2.fresh in
    cc none

-- the library keeps the state that a change leads to
made_keeps : (s : State) (asked : Asked) (p : Prepared) (reply : Reply) (lib0 lib1 lib2 lib3 : Library) (k0 k2 : KeeperView)
    → Keeps lib0 s → AsksWithin asked → HoldsAgain lib0 lib1 → (prepares : Prepares s asked p) → IsMade p lib1 lib2 k0 k2 reply
    → HoldsAgain lib2 lib3 → Keeps lib3 prepares.next
made_keeps s asked p reply lib0 lib1 lib2 lib3 k0 k2 keeps within staged prepares made swept = record {
  valid = accepted-IsValid s asked p.reply prepares.next keeps.valid within prepares.decides;
  rows = swept (tables_of prepares.next)
      (subst (Holds lib2) prepares.rows (made.holds (tables_of s) (staged (tables_of s) keeps.rows) prepares.fits));
}

-- the files are those of that state
made_files : (s : State) (token mark : List ℕ) (wanted : Command) (p : Prepared) (next : State) (v0 v1 v3 : VaultView) → IsValid s
    → Decides s (change token mark (command wanted)) (accepts p.reply next) → taken_out s next ≡ takes_of p.released
    → Goes (OthersKept s.next_take) v0.blobs v1.blobs → Goes (λ _ blobs. HoldsFileOf wanted s.next_take blobs) v0.blobs v1.blobs
    → Clears p.released v1 v3
    → Goes (λ old new. HoldsFiles old s.recordings → HoldsFiles new next.recordings) v0.blobs v3.blobs
made_files s token mark wanted p next v0 v1 v3 valid decides out others put clears =
    Goes-then (λ old new. OthersKept s.next_take old new × HoldsFileOf wanted s.next_take new)
    (λ old new. (key : ℕ) → AllByRecursion (λ take. key ≢ take) (takes_of p.released) → new key ≡ old key)
    (λ old new. HoldsFiles old s.recordings → HoldsFiles new next.recordings)
    (λ a b c staged swept holds.
    files_behind b c next.recordings (takes_of p.released)
    (subst (λ (takes : List ℕ). AllByRecursion (λ take. has_take take next.recordings ≡ false) takes) out (taken_out-gone s next)) swept
    (accepted-HoldsFiles s token mark (command wanted) p.reply next a b valid decides holds staged.0 staged.1))
    v0.blobs v1.blobs v3.blobs
    (Goes-both (OthersKept s.next_take) (λ _ blobs. HoldsFileOf wanted s.next_take blobs)
    (λ old new. OthersKept s.next_take old new × HoldsFileOf wanted s.next_take new) (λ old new kept holds. (kept, holds)) v0.blobs v1.blobs others put)
    (swept_keys p.released v1 v3 clears)

-- what is left under the released key was counted
made_left : (s next : State) (reply : Reply) (released : Option ℕ) (v0 v1 v3 : VaultView) → taken_out s next ≡ takes_of released
    → RoseBy (counted (status_of cause.Vault) reply + 0) v0.faults v1.faults → Goes (OthersKept s.next_take) v0.blobs v1.blobs
    → Clears released v1 v3 → v1.faults ≤ v3.faults
    → Goes (λ _ blobs. RoseBy (counted (status_of cause.Vault) reply + 0 + count_held blobs (taken_out s next)) v0.faults v3.faults) v0.blobs v3.blobs
made_left s next reply released v0 v1 v3 out rose others clears later =
    subst (λ (takes : List ℕ). Goes (λ _ blobs. RoseBy (counted (status_of cause.Vault) reply + 0 + count_held blobs takes) v0.faults v3.faults)
    v0.blobs v3.blobs) (sym out)
    (Goes-then (OthersKept s.next_take) (λ _ blobs. RoseBy (count_held blobs (takes_of released)) v1.faults v3.faults)
    (λ _ blobs. RoseBy (counted (status_of cause.Vault) reply + 0 + count_held blobs (takes_of released)) v0.faults v3.faults)
    (λ a b c kept left. by_sum (counted (status_of cause.Vault) reply + 0) (count_held c (takes_of released)) v0.faults v1.faults v3.faults rose left)
    v0.blobs v1.blobs v3.blobs others (swept_left released v1 v3 clears later))
  where
    by_sum : (m n x y z : ℕ) → RoseBy m x y → RoseBy n y z → RoseBy (m + n) x z
    by_sum m n x y z first next = omega arith

-- a count that rose by so many goes on
grows : (n x y z : ℕ) → RoseBy n x y → y ≤ z → RoseBy n x z
grows n x y z rose later = omega arith

-- a reply of 200 or 201 counts no fault
CountsOne-granted : (reply : Reply) (w0 w1 : World) → IsGranted reply.status → w0.vault.faults ≤ w1.vault.faults
    → w0.keeper.faults ≤ w1.keeper.faults → CountsOne reply w0 w1
CountsOne-granted reply w0 w1 granted vault_later keeper_later =
    let most = granted.1 in
    CountsOne-neither reply w0 w1 (λ is. absurd (omega (arith, most, is))) (λ is. absurd (omega (arith, most, is))) vault_later keeper_later

-- a change that neither puts a file nor takes one out makes no call of the vault
made_calls : (s : State) (token mark : List ℕ) (wanted : Command) (p : Prepared) (next : State) (v0 v1 v3 : VaultView) → IsValid s
    → Decides s (change token mark (command wanted)) (accepts p.reply next) → taken_out s next ≡ takes_of p.released
    → (puts_file wanted ≡ false) × (takes_file wanted ≡ false) → (puts_file wanted ≡ false → v1 ≡ v0) → Clears p.released v1 v3
    → v3.calls ≡ v0.calls
made_calls s token mark wanted p next v0 v1 v3 valid decides out is spared clears =
    let none : takes_of p.released ≡ [] = sym out ∙ taken_out-spared s token mark wanted p.reply next valid is.1 decides in
    ap (λ (v : VaultView). v.calls) (unswept p.released none clears ∙ spared is.0)
  where
    unswept : (released : Option ℕ) → takes_of released ≡ [] → Clears released v1 v3 → v3 ≡ v1
    unswept None none clears = clears
    unswept (Some take) none clears = absurd (cc none)

-- A change that was staged, made and swept acts as its verdict says.
Acts-made : (s : State) (token mark : List ℕ) (wanted : Command) (p : Prepared) (reply : Reply) (r : Result Staged Memory)
    (lib0 lib1 lib2 lib3 : Library) (k0 k2 : KeeperView) (v0 v1 v3 : VaultView) → Keeps lib0 s → AsksWithin (change token mark (command wanted))
    → Stages wanted lib0 lib1 v0 v1 r → (puts_file wanted ≡ false → v1 ≡ v0)
    → Goes (λ _ blobs. HoldsFileOf wanted (numbers_of lib0).take blobs) v0.blobs v1.blobs
    → Prepares s (change token mark (command wanted)) p → IsGranted p.reply.status → IsMade p lib1 lib2 k0 k2 reply → k0.faults ≤ k2.faults
    → RoseByOne k0.applies k2.applies → Sweeps lib2 lib3 v1 v3
    → Acts s (change token mark (command wanted)) reply (world lib0 k0 v0) (world lib3 k2 v3)
Acts-made s token mark wanted p reply r lib0 lib1 lib2 lib3 k0 k2 v0 v1 v3 keeps within stages spared put prepares granted made later once sweeps =
    let asked : Asked = change token mark (command wanted) in
    let next = prepares.next in
    let clears : Clears p.released v1 v3 = subst (λ (o : Option ℕ). Clears o v1 v3) made.released sweeps.clears in
    let others = others_of s lib0 v0.blobs v1.blobs keeps stages.others in
    let holds : Goes (λ _ blobs. HoldsFileOf wanted s.next_take blobs) v0.blobs v1.blobs =
    subst (λ (take : ℕ). Goes (λ _ blobs. HoldsFileOf wanted take blobs) v0.blobs v1.blobs) (ap (λ (n : NextNumbers). n.take) keeps.rows.numbers) put in
    let counts = CountsOne-granted reply (world lib0 k0 v0) (world lib3 k2 v1) (subst (λ (q : Reply). IsGranted q.status) (sym made.reply_is) granted)
    stages.later later in
    let swept_later = sweeps.later in
    let staged_later = stages.later in
    record {
      next = next;
      answers = record { way = as_decided (accepts p.reply next); answers = (prepares.decides, made.reply_is, refl) };
      leads = record {
        keeps = made_keeps s asked p reply lib0 lib1 lib2 lib3 k0 k2 keeps within stages.held prepares made sweeps.held;
        rows = Goes-weaker _ _ (λ old new changed_is old_is. changed_is ∙ ap (changed_all p.batch.changes) old_is ∙ prepares.rows)
            k0.tables k2.tables made.tables;
        files = made_files s token mark wanted p next v0 v1 v3 keeps.valid prepares.decides prepares.released_is others holds clears;
      };
      counts = record {
        vault = grows (counted (status_of cause.Vault) reply + 0) v0.faults v1.faults v3.faults counts.vault swept_later;
        left = made_left s next reply p.released v0 v1 v3 prepares.released_is counts.vault others clears swept_later;
        keeper = counts.keeper;
      };
      calls = λ is. made_calls s token mark wanted p next v0 v1 v3 keeps.valid prepares.decides prepares.released_is
          (spares (puts_file wanted) (takes_file wanted) is) spared clears;
      keys = Goes-then (OthersKept s.next_take)
          (λ old new. (key : ℕ) → AllByRecursion (λ take. key ≢ take) (takes_of p.released) → new key ≡ old key)
          (OtherKeysKept s.next_take (taken_out s next))
          (λ a b c kept swept key apart differs.
          swept key (subst (λ (takes : List ℕ). AllByRecursion (λ take. key ≢ take) takes) prepares.released_is differs) ∙ kept key apart)
          v0.blobs v1.blobs v3.blobs others (swept_keys p.released v1 v3 clears);
      applies = at_most k0.applies k2.applies once;
      applied = λ _. once;
      untouched = λ same _. absurd (accepted_moves s token mark wanted p.reply next prepares.decides same);
      complete = λ _ _. inl (accepts p.reply next, (prepares.decides, made.reply_is, refl));
      granted = λ _ _ may. faultless_grants s asked reply next (inl (accepts p.reply next, (prepares.decides, made.reply_is, refl))) may;
    }

-- A change that was staged, and committed and swept, acts.
pub Acts-settled : (s : State) (token mark : List ℕ) (wanted : Command) (p : Prepared) (reply : Reply) (r : Result Staged Memory)
    (lib0 lib1 lib2 lib3 : Library) (k0 k2 : KeeperView) (v0 v1 v3 : VaultView) → Keeps lib0 s → AsksWithin (change token mark (command wanted))
    → Stages wanted lib0 lib1 v0 v1 r → (puts_file wanted ≡ false → v1 ≡ v0)
    → Goes (λ _ blobs. HoldsFileOf wanted (numbers_of lib0).take blobs) v0.blobs v1.blobs
    → Prepares s (change token mark (command wanted)) p → IsGranted p.reply.status → Commits p lib1 lib2 k0 k2 reply → Sweeps lib2 lib3 v1 v3
    → Acts s (change token mark (command wanted)) reply (world lib0 k0 v0) (world lib3 k2 v3)
Acts-settled s token mark wanted p reply r lib0 lib1 lib2 lib3 k0 k2 v0 v1 v3 keeps within stages spared put prepares granted commits sweeps =
    let asked : Asked = change token mark (command wanted) in
    let later = commits.later in
    elim (commits.settles) [
      | inl made ↦ Acts-made s token mark wanted p reply r lib0 lib1 lib2 lib3 k0 k2 v0 v1 v3 keeps within stages spared put prepares granted made
          later commits.applies sweeps
      | inr other ↦ elim other [
        | inl failed ↦
            subst (λ (q : Reply). Acts s asked q (world lib0 k0 v0) (world lib3 k2 v3)) (sym failed.1)
            (Acts-left s token mark wanted (refusal cause.Keeper) r lib0 lib1 lib2 lib3 k0 k2 v0 v1 v3 keeps stages spared failed.0 sweeps
            (record { way = keeper_failed (accepts p.reply prepares.next); answers = (prepares.decides, tt, refl, refl) })
            (CountsOne-keeper (world lib0 k0 v0) (world lib3 k2 v1) stages.later failed.2) (omega arith) commits.applies)
        | inr wanting ↦
            subst (λ (q : Reply). Acts s asked q (world lib0 k0 v0) (world lib3 k2 v3)) (sym wanting.1)
            (Acts-left s token mark wanted (refusal cause.Memory) r lib0 lib1 lib2 lib3 k0 k2 v0 v1 v3 keeps stages spared wanting.0 sweeps
            (record { way = without_memory; answers = (refl, refl) })
            (CountsOne-neither (refusal cause.Memory) (world lib0 k0 v0) (world lib3 k2 v1) (omega arith) (omega arith) stages.later later)
            (omega arith) commits.applies)
      ]
    ]
