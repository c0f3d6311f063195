use Rattle.std.proofs.Common.{◌≡◌, ◌<◌, ◌^◌, ℕ, map, get_or, refl, ap, sym, subst, ◌∙◌, zero-add}
use Rattle.std.specs.List.{range_with_len}
use Rattle.std.proofs.lemmas.List.FromFn.{get_or-map-range_with_len}
use Rattle.sound_model.specs.Levels.{entry}
use Rattle.sound_model.proofs.LevelTable.{entry_below}
use Rattle.db_table.specs.declared.table.TheConstants.{RATIOS}
use Rattle.db_table.proofs.table.entry.Goals as goal

-- the stored ratios are those of the places
stored : RATIOS ≡ map entry (range_with_len 0 2000)
unfolding entry
stored = refl

ratio_at : (place : ℕ) → place < 2000 → get_or RATIOS place 0 ≡ entry place
ratio_at place within =
    ap (λ ratios. get_or ratios place 0) stored
    ∙ get_or-map-range_with_len entry 0 2000 place place 0 within (zero-add place)

pub returns-clause-value : goal.returns-clause-value
returns-clause-value c = ratio_at c.args.place c.requires

pub returns-clause-bound : goal.returns-clause-bound
returns-clause-bound c =
    let Below : ℕ → Type 0 = λ ratio. ratio < 10 ^ 10 in
    subst Below (sym (ratio_at c.args.place c.requires)) (entry_below c.args.place c.requires)
