use Rattle.std.proofs.Common.{◌≡◌, ◌<◌, ◌≤◌, ◌^◌, ◌∙◌, ℕ, List, filter, length, sym, subst, arith}
use Rattle.std.specs.Prelude.{All}
use Rattle.std.proofs.lemmas.List.Elements.{All-filter}
use Rattle.sound_model.specs.Ranges.{is_window_audible}
use Rattle.loudness_range.proofs.Sums.{sum_of_few, length-filter-le}
use Rattle.loudness_range.proofs.gates.gated_windows.Goals as goal
use Rattle.loudness_range.proofs.gates.gated_windows.Goals.{After-deref}

-- what passed the first gate
audible : (c : After-deref) → c.deref.result.now ≡ filter is_window_audible c.args.windows.now
audible c = c.deref.ensures.value ∙ c.in_ok-audible.ensures

few : (c : After-deref) → length c.deref.result.now ≤ 2 ^ 25
few c =
    let Few : List ℕ → Type 0 = λ xs. length xs ≤ 2 ^ 25 in
    subst Few (sym (audible c)) (let within = length-filter-le is_window_audible c.args.windows.now in omega arith)

small : (c : After-deref) → All (λ (z : ℕ). z < 2 ^ 87) c.deref.result.now
small c =
    let Small : List ℕ → Type 0 = λ xs. All (λ (z : ℕ). z < 2 ^ 87) xs in
    subst Small (sym (audible c)) (All-filter is_window_audible (λ (z : ℕ). z < 2 ^ 87) c.args.windows.now c.requires.small)

pub near_windows-requires-clause-few : goal.near_windows-requires-clause-few
near_windows-requires-clause-few c = few c

pub near_windows-requires-clause-small : goal.near_windows-requires-clause-small
near_windows-requires-clause-small c = small c

pub near_windows-requires-clause-total : goal.near_windows-requires-clause-total
near_windows-requires-clause-total c = sum_of_few c.deref.result.now (few c) (small c)
