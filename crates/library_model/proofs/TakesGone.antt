-- The takes that each command takes out.
use Rattle.std.proofs.Common.{◌≡◌, ◌≢◌, ◌==◌, ◌∙◌, ℕ, Bool, true, false, Option, Some, List, [], ◌∷◌, refl, sym, ap, subst, arith}
use Rattle.std.specs.List.{AllByRecursion}
use Rattle.keeper_store.specs.Puts.{put}
use Rattle.library_model.specs.InOrder.{IsGiven}
use Rattle.library_model.specs.Machine.{has_take, recording_of, regrouped, removing}
use Rattle.library_model.specs.Stands.{IsValid}
use Rattle.library_model.specs.State.{Recording, State, recording_before}
use Rattle.library_model.proofs.Imports.{AllByRecursion-both, AllByRecursion-weaker, given_of}
use Rattle.library_model.proofs.Members.{only_found}
use Rattle.library_model.proofs.Numbers.{test_differs, test_is}
use Rattle.library_model.proofs.RowsPut.{recordings_rise, takes_of_others}
use Rattle.library_model.proofs.Taking.{gone, gone_none, gone_one, no_take, put_keeps_takes, put_others, put_own_take, without_keeps_takes, without_others}

-- no recording has the next id
pub ids_below : (s : State) → IsValid s → AllByRecursion (λ (q : Recording). q.id ≢ s.next_recording) s.recordings
ids_below s valid =
    AllByRecursion-weaker (λ (q : Recording). IsGiven s.next_recording q.id) (λ (q : Recording). q.id ≢ s.next_recording) s.recordings
    (λ q given same. omega (arith, given.1, same)) (given_of s valid).0

-- An import takes none out.
pub import_takes : (s : State) (new : Recording) → IsValid s → new.id ≡ s.next_recording
    → gone s.recordings (put recording_before new s.recordings) ≡ []
import_takes s new valid is =
    gone_none s.recordings (put recording_before new s.recordings)
    (AllByRecursion-both (λ (q : Recording). q.id ≢ s.next_recording)
    (λ (q : Recording). q.id ≢ new.id → has_take q.take (put recording_before new s.recordings) ≡ true)
    (λ (q : Recording). has_take q.take (put recording_before new s.recordings) ≡ true) s.recordings
    (λ q apart left. left (λ same. apart (same ∙ is))) (ids_below s valid) (put_keeps_takes new s.recordings))

-- Nor does a recording that comes into another album.
pub regroup_takes : (s : State) (id : ℕ) (album : Option ℕ) (r : Recording) → IsValid s → recording_of id s.recordings ≡ Some r
    → gone s.recordings (put recording_before (regrouped r album) s.recordings) ≡ []
regroup_takes s id album r valid found =
    gone_none s.recordings us
    (AllByRecursion-both (λ (q : Recording). q.id ≡ r.id → q ≡ r) (λ (q : Recording). q.id ≢ r.id → has_take q.take us ≡ true)
    (λ (q : Recording). has_take q.take us ≡ true) s.recordings (λ q one left. by_id q one left (q.id == r.id) refl)
    (only_found id s.recordings r (recordings_rise s valid) found) (put_keeps_takes (regrouped r album) s.recordings))
  where
    us : List Recording
    us = put recording_before (regrouped r album) s.recordings

    by_id : (q : Recording) → (q.id ≡ r.id → q ≡ r) → (q.id ≢ r.id → has_take q.take us ≡ true) → (same : Bool) → (q.id == r.id) ≡ same
        → has_take q.take us ≡ true
    by_id q one left true is =
        ap (λ (x : Recording). has_take x.take us) (one (test_is q.id r.id is)) ∙ put_own_take (regrouped r album) s.recordings
    by_id q one left false is = left (test_differs q.id r.id is)

-- A new take of a recording takes out its old one.
pub retake_takes : (s : State) (id : ℕ) (r new : Recording) → IsValid s → recording_of id s.recordings ≡ Some r → new.id ≡ r.id → new.take ≢ r.take
    → gone s.recordings (put recording_before new s.recordings) ≡ r.take ∷ []
retake_takes s id r new valid found same differs =
    gone_one id s.recordings (put recording_before new s.recordings) r (recordings_rise s valid) found
    (subst (λ (n : ℕ). AllByRecursion (λ (q : Recording). q.id ≢ n → has_take q.take (put recording_before new s.recordings) ≡ true) s.recordings)
    same (put_keeps_takes new s.recordings))
    (no_take r.take (put recording_before new s.recordings)
    (put_others (λ (q : Recording). q.id) (λ (q : Recording). q.take ≢ r.take) new s.recordings (recordings_rise s valid) differs
    (subst (λ (n : ℕ). AllByRecursion (λ (q : Recording). q.id ≢ n → q.take ≢ r.take) s.recordings) (sym same)
    (takes_of_others s id r valid found))))

-- A recording that is removed takes out its own.
pub remove_takes : (s : State) (id : ℕ) (r : Recording) → IsValid s → recording_of id s.recordings ≡ Some r
    → gone s.recordings (removing s r).recordings ≡ r.take ∷ []
remove_takes s id r valid found =
    gone_one id s.recordings (removing s r).recordings r (recordings_rise s valid) found (without_keeps_takes r.id s.recordings)
    (no_take r.take (removing s r).recordings
    (without_others (λ (q : Recording). q.id) (λ (q : Recording). q.take ≢ r.take) r.id s.recordings (takes_of_others s id r valid found)))
