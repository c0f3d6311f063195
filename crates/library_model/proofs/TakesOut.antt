-- What a step does to takes: which it takes out, and which it leaves.
use Rattle.std.proofs.Common.{◌≡◌, ◌≢◌, ◌≤◌, ◌<◌, ◌==◌, ◌||◌, ◌⊎◌, not, inl, inr, true≢false, ℕ, Bool, true, false, cond, Some, List, [], ◌∷◌, map, filter, refl, sym, ap, ◌∙◌, subst, arith}
use Rattle.std.specs.List.{AllByRecursion}
use Rattle.std.proofs.lemmas.Bool.Decides.{nat_tests}
use Rattle.keeper_store.specs.Puts.{put, without}
use Rattle.library_model.specs.declared.messages.Command.{Command}
use Rattle.library_model.specs.declared.messages.Command.TheVariants.{NewAlbum, Import, Retake, Regroup, RemoveRecording, RemoveAlbum}
use Rattle.library_model.specs.declared.messages.Reply.{Reply}
use Rattle.library_model.specs.Asked.{Asked, change, command, question, refused, takes_file}
use Rattle.library_model.specs.InOrder.{Differ, IsGiven}
use Rattle.library_model.specs.Machine.{Answer, AnswersBy, Decides, Verdict, Way, accepts, as_decided, has_take, keeper_failed, new_recording, recording_of, regrouped, retaken, state_after, stays, taken_out, vault_failed, without_memory}
use Rattle.library_model.specs.Stands.{IsValid}
use Rattle.library_model.specs.State.{Recording, State, recording_before}
use Rattle.library_model.proofs.Accepting.{accepted-IsKeptStep}
use Rattle.library_model.proofs.Imports.{AllByRecursion-weaker, given_of}
use Rattle.library_model.proofs.Numbers.{or_right, test_is}
use Rattle.library_model.proofs.Steps.{MakesState, accepted_made}
use Rattle.library_model.proofs.Taking.{gone_none, own_takes}
use Rattle.library_model.proofs.TakesGone.{import_takes, regroup_takes}
use Rattle.library_model.proofs.ValidRows.{takes_of_rows}

-- ---- recordings that have a take

-- one of two tests that hold together holds
or_split : (x y : Bool) → (x || y) ≡ true → (x ≡ true) ⊎ (y ≡ true)
or_split true y is = inl refl
or_split false y is = inr is

or_left : (x y : Bool) → x ≡ true → (x || y) ≡ true
or_left x y is = ap (λ (b : Bool). b || y) is

-- what has the take in front of others, or among them
in_front : (take : ℕ) (q : Recording) (rs : List Recording) → has_take take (q ∷ rs) ≡ true → (q.take ≡ take) ⊎ (has_take take rs ≡ true)
in_front take q rs has =
    elim (or_split (q.take == take) (has_take take rs) has) [
      | inl is ↦ inl (test_is q.take take is)
      | inr is ↦ inr is
    ]

-- a put recording has the take, or one of the others has it
has_take-put : (take : ℕ) (r : Recording) (rs : List Recording) → has_take take (put recording_before r rs) ≡ true
    → (r.take ≡ take) ⊎ (has_take take rs ≡ true)
has_take-put take r [] has = in_front take r [] has
has_take-put take r (q ∷ rs) has = by_order (recording_before q r) (recording_before r q) has (has_take-put take r rs)
  where
    by_order : (less more : Bool)
        → has_take take (cond less (q ∷ put recording_before r rs) (cond more (r ∷ q ∷ rs) (r ∷ rs))) ≡ true
        → (has_take take (put recording_before r rs) ≡ true → (r.take ≡ take) ⊎ (has_take take rs ≡ true))
        → (r.take ≡ take) ⊎ (has_take take (q ∷ rs) ≡ true)
    by_order true more has rest =
        elim (or_split (q.take == take) (has_take take (put recording_before r rs)) has) [
          | inl is ↦ inr (or_left (q.take == take) (has_take take rs) is)
          | inr is ↦ elim (rest is) [
            | inl own ↦ inl own
            | inr other ↦ inr (or_right (q.take == take) (has_take take rs) other)
          ]
        ]
    by_order false true has rest = in_front take r (q ∷ rs) has
    by_order false false has rest =
        elim (in_front take r rs has) [
          | inl own ↦ inl own
          | inr other ↦ inr (or_right (q.take == take) (has_take take rs) other)
        ]

-- one of those that were there has the take that one of those that are left has
has_take-without : (take id : ℕ) (rs : List Recording) → has_take take (without (λ (q : Recording). q.id) id rs) ≡ true
    → has_take take rs ≡ true
has_take-without take id [] has = has
has_take-without take id (q ∷ rs) has = by_id (q.id == id) has (has_take-without take id rs)
  where
    by_id : (same : Bool) → has_take take (cond (not same) (q ∷ without (λ (r : Recording). r.id) id rs) (without (λ (r : Recording). r.id) id rs)) ≡ true
        → (has_take take (without (λ (r : Recording). r.id) id rs) ≡ true → has_take take rs ≡ true) → has_take take (q ∷ rs) ≡ true
    by_id true has rest = or_right (q.take == take) (has_take take rs) (rest has)
    by_id false has rest =
        elim (or_split (q.take == take) (has_take take (without (λ (r : Recording). r.id) id rs)) has) [
          | inl is ↦ or_left (q.take == take) (has_take take rs) is
          | inr is ↦ or_right (q.take == take) (has_take take rs) (rest is)
        ]

-- a recording that was found has its take
found_take : (id : ℕ) (rs : List Recording) (r : Recording) → recording_of id rs ≡ Some r → has_take r.take rs ≡ true
found_take id [] r is = absurd (cc is)
found_take id (q ∷ rs) r is = by_id (q.id == id) is (found_take id rs r)
  where
    by_id : (same : Bool) → cond same (Some q) (recording_of id rs) ≡ Some r
        → (recording_of id rs ≡ Some r → has_take r.take rs ≡ true) → has_take r.take (q ∷ rs) ≡ true
    by_id true is rest =
        let one : q ≡ r = cc is in
        subst (λ (x : Recording). has_take x.take (q ∷ rs) ≡ true) one (or_left (q.take == q.take) (has_take q.take rs) (grind (arith, nat_tests)))
    by_id false is rest = or_right (q.take == r.take) (has_take r.take rs) (rest is)

-- ---- takes before a step and after it

-- The counter of takes does not fall, and what has a take afterwards had it before, or it was still to be given.
pub record StepsTakes (s next : State) : Type 0 where
  pub rises : s.next_take ≤ next.next_take
  pub takes : (take : ℕ) → has_take take next.recordings ≡ true → (has_take take s.recordings ≡ true) ⊎ (s.next_take ≤ take)

-- a recording that is put brings its own take
steps_put : (s : State) (r : Recording) (take : ℕ) → (has_take r.take s.recordings ≡ true) ⊎ (s.next_take ≤ r.take)
    → has_take take (put recording_before r s.recordings) ≡ true → (has_take take s.recordings ≡ true) ⊎ (s.next_take ≤ take)
steps_put s r take own has =
    elim (has_take-put take r s.recordings has) [
      | inl is ↦ subst (λ (n : ℕ). (has_take n s.recordings ≡ true) ⊎ (s.next_take ≤ n)) is own
      | inr other ↦ inl other
    ]

-- So it is of the state that a command makes.
made_steps : (s : State) (wanted : Command) (next : State) → MakesState s wanted next → StepsTakes s next
made_steps s (NewAlbum name) next is =
    subst (StepsTakes s) (sym is.1) (record { rises = omega arith; takes = λ take has. inl has })
made_steps s (Import album name file) next (sound, summary, there, finds, room, left, is) =
    let new = new_recording s album name file sound summary in
    subst (StepsTakes s) (sym is) (record { rises = omega arith; takes = λ take has. steps_put s new take (inr (omega arith)) has })
made_steps s (Retake id file) next (sound, summary, r, found, finds, left, is) =
    let new = retaken s r file sound summary in
    subst (StepsTakes s) (sym is) (record { rises = omega arith; takes = λ take has. steps_put s new take (inr (omega arith)) has })
made_steps s (Regroup id album) next (r, found, there, room, is) =
    subst (StepsTakes s) (sym is) (record {
      rises = omega arith;
      takes = λ take has. steps_put s (regrouped r album) take (inl (found_take id s.recordings r found)) has;
    })
made_steps s (RemoveRecording id) next (r, found, is) =
    subst (StepsTakes s) (sym is) (record {
      rises = omega arith;
      takes = λ take has. inl (has_take-without take r.id s.recordings has);
    })
made_steps s (RemoveAlbum id) next (there, empty, is) =
    subst (StepsTakes s) (sym is) (record { rises = omega arith; takes = λ take has. inl has })

-- a state that stays
steps_same : (s : State) → StepsTakes s s
steps_same s = record { rises = omega arith; takes = λ take has. inl has }

-- a state with other albums and kept replies has the same takes
steps_like : (s next after : State) → after.next_take ≡ next.next_take → after.recordings ≡ next.recordings → StepsTakes s next
    → StepsTakes s after
steps_like s next after take recordings steps = record {
  rises = subst (λ (n : ℕ). s.next_take ≤ n) (sym take) steps.rises;
  takes = λ number has. steps.takes number (subst (λ (rs : List Recording). has_take number rs ≡ true) recordings has);
}

-- So it is of a verdict.
decided_steps : (s : State) (asked : Asked) (verdict : Verdict) → Decides s asked verdict → StepsTakes s (state_after s verdict)
decided_steps s asked (stays reply) decides = steps_same s
decided_steps s (refused other) (accepts reply next) decides = absurd (cc decides)
decided_steps s (question about) (accepts reply next) decides = absurd (cc decides)
decided_steps s (change token mark wanted) (accepts reply next) decides =
    let step = (accepted-IsKeptStep s token mark wanted reply next decides).2 in
    let is = accepted_made s (accepted-IsKeptStep s token mark wanted reply next decides).0 reply step.made step.decides in
    steps_like s is.next next
    (ap (λ (t : State). t.next_take) step.next_is ∙ ap (λ (t : State). t.next_take) is.after_is)
    (ap (λ (t : State). t.recordings) step.next_is ∙ ap (λ (t : State). t.recordings) is.after_is)
    (made_steps s (accepted-IsKeptStep s token mark wanted reply next decides).0 is.next is.makes_state)

-- So it is of each answer.
pub Answer-StepsTakes : (s : State) (asked : Asked) (reply : Reply) (next : State) → Answer s asked reply next → StepsTakes s next
Answer-StepsTakes s asked reply next answer = by_way answer.way answer.answers
  where
    stayed : next ≡ s → StepsTakes s next
    stayed is = subst (StepsTakes s) (sym is) (steps_same s)

    by_way : (way : Way) → AnswersBy way s asked reply next → StepsTakes s next
    by_way (as_decided verdict) answers = subst (StepsTakes s) (sym answers.2) (decided_steps s asked verdict answers.0)
    by_way without_memory answers = stayed answers.1
    by_way (vault_failed verdict) answers = stayed answers.4
    by_way (keeper_failed verdict) answers = stayed answers.3

-- ---- what is taken out

-- the recordings' takes
abbrev takes_of : List Recording → List ℕ
takes_of recordings = map (λ (r : Recording). r.take) recordings

-- of each of a list that a test keeps
kept_have : (P : ℕ → Type 0) (test : ℕ → Bool) (takes : List ℕ) → AllByRecursion P takes → AllByRecursion P (filter test takes)
kept_have P test [] all = tt
kept_have P test (take ∷ takes) all = by_test (test take) (kept_have P test takes all.1)
  where
    by_test : (b : Bool) → AllByRecursion P (filter test takes) → AllByRecursion P (cond b (take ∷ filter test takes) (filter test takes))
    by_test true rest = (all.0, rest)
    by_test false rest = rest

-- each recording has its take
each_has : (rs : List Recording) → AllByRecursion (λ (take : ℕ). has_take take rs ≡ true) (takes_of rs)
each_has [] = tt
each_has (r ∷ rs) = (
  or_left (r.take == r.take) (has_take r.take rs) (grind (arith, nat_tests)),
  AllByRecursion-weaker (λ (take : ℕ). has_take take rs ≡ true) (λ (take : ℕ). has_take take (r ∷ rs) ≡ true) (takes_of rs)
      (λ take has. or_right (r.take == take) (has_take take rs) has) (each_has rs),
)

-- of those that a test leaves out
left_out : (test : ℕ → Bool) (takes : List ℕ) → AllByRecursion (λ take. test take ≡ false) (filter (λ take. not (test take)) takes)
left_out test [] = tt
left_out test (take ∷ takes) = by_test (test take) refl (left_out test takes)
  where
    by_test : (b : Bool) → test take ≡ b → AllByRecursion (λ take. test take ≡ false) (filter (λ take. not (test take)) takes)
        → AllByRecursion (λ take. test take ≡ false) (cond (not b) (take ∷ filter (λ take. not (test take)) takes) (filter (λ take. not (test take)) takes))
    by_test true is rest = rest
    by_test false is rest = (is, rest)

-- What is taken out was there.
pub taken_out-had : (s next : State) → AllByRecursion (λ take. has_take take s.recordings ≡ true) (taken_out s next)
taken_out-had s next =
    kept_have (λ take. has_take take s.recordings ≡ true) (λ take. not (has_take take next.recordings)) (takes_of s.recordings)
    (each_has s.recordings)

-- It is there no more.
pub taken_out-gone : (s next : State) → AllByRecursion (λ take. has_take take next.recordings ≡ false) (taken_out s next)
taken_out-gone s next = left_out (λ take. has_take take next.recordings) (takes_of s.recordings)

-- numbers that differ do so where some are left out
kept_differ : (test : ℕ → Bool) (takes : List ℕ) → Differ takes → Differ (filter test takes)
kept_differ test [] differ = tt
kept_differ test (take ∷ takes) differ = by_test (test take) (kept_differ test takes differ.1)
  where
    by_test : (b : Bool) → Differ (filter test takes) → Differ (cond b (take ∷ filter test takes) (filter test takes))
    by_test true rest = (kept_have (λ (later : ℕ). later ≢ take) test takes differ.0, rest)
    by_test false rest = rest

-- No take is taken out twice.
pub taken_out-Differ : (s next : State) → IsValid s → Differ (taken_out s next)
taken_out-Differ s next valid =
    kept_differ (λ take. not (has_take take next.recordings)) (takes_of s.recordings)
    (subst Differ (takes_of_rows s.recordings) valid.rows.takes_differ)

-- Nothing is taken out where a state stays.
pub taken_out-same : (s : State) → taken_out s s ≡ []
taken_out-same s = gone_none s.recordings s.recordings (own_takes s.recordings)

-- A take that a recording of a valid state has was given.
pub has_take-given : (s : State) (take : ℕ) → IsValid s → has_take take s.recordings ≡ true → take < s.next_take
has_take-given s take valid has = by_list s.recordings (given_of s valid).1 has
  where
    by_list : (rs : List Recording) → AllByRecursion (λ (r : Recording). IsGiven s.next_take r.take) rs → has_take take rs ≡ true
        → take < s.next_take
    by_list [] given has = absurd (true≢false (sym has))
    by_list (r ∷ rs) given has =
        elim (in_front take r rs has) [
          | inl is ↦ subst (λ (n : ℕ). n < s.next_take) is given.0.1
          | inr other ↦ by_list rs given.1 other
        ]

-- ---- commands that take out nothing

-- A command that takes out no file makes a state that has all the takes.
made_spares : (s : State) (wanted : Command) (next : State) → IsValid s → takes_file wanted ≡ false → MakesState s wanted next
    → taken_out s next ≡ []
made_spares s (NewAlbum name) next valid none is = subst (λ (t : State). taken_out s t ≡ []) (sym is.1) (taken_out-same s)
made_spares s (Import album name file) next valid none (sound, summary, there, finds, room, left, is) =
    subst (λ (t : State). taken_out s t ≡ []) (sym is) (import_takes s (new_recording s album name file sound summary) valid refl)
made_spares s (Retake id file) next valid none is = absurd (true≢false none)
made_spares s (Regroup id album) next valid none (r, found, there, room, is) =
    subst (λ (t : State). taken_out s t ≡ []) (sym is) (regroup_takes s id album r valid found)
made_spares s (RemoveRecording id) next valid none is = absurd (true≢false none)
made_spares s (RemoveAlbum id) next valid none (there, empty, is) =
    subst (λ (t : State). taken_out s t ≡ []) (sym is) (taken_out-same s)

-- A change that takes out no file takes out nothing.
pub taken_out-spared : (s : State) (token mark : List ℕ) (wanted : Command) (reply : Reply) (next : State) → IsValid s
    → takes_file wanted ≡ false → Decides s (change token mark (command wanted)) (accepts reply next) → taken_out s next ≡ []
taken_out-spared s token mark wanted reply next valid none decides =
    let (asked, is, step) = accepted-IsKeptStep s token mark (command wanted) reply next decides in
    let same : asked ≡ wanted = cc is in
    let made = accepted_made s asked reply step.made step.decides in
    let spares : taken_out s made.next ≡ [] =
    made_spares s asked made.next valid (ap takes_file same ∙ none) made.makes_state in
    subst (λ (rs : List Recording). filter (λ take. not (has_take take rs)) (takes_of s.recordings) ≡ [])
    (sym (ap (λ (t : State). t.recordings) step.next_is ∙ ap (λ (t : State). t.recordings) made.after_is)) spares
