use Rattle.std.proofs.Common.{rules, arith, ◌≡◌, ◌≢◌, sym, subst, ◌∙◌}
use Rattle.keeper_store.specs.Puts.{IsPlaceOfNumber}
use Rattle.keeper_store.proofs.Dropping.{without-at, without-missing_at, without-missing_past}
use Rattle.keeper_store.proofs.drops.drop_by_halving.Goals as goal
use Rattle.keeper_store.proofs.drops.drop_by_halving.Goals.{else-place-len-via-then-place-len+else-number, else-place-len-via-else-place-len}

pub returns-then-number-clause-items : goal.returns-then-number-clause-items
returns-then-number-clause-items g c =
    let number = g.R.Numbered.number_of in
    let rows = c.args.rows.now.items in
    let place = c.place_of_number-place.result in
    let at : IsPlaceOfNumber number c.args.number rows place =
    subst (λ xs. IsPlaceOfNumber number c.args.number xs place) c.as_slice.ensures.value c.place_of_number-place.ensures in
    let there = c.index.result.now in
    let same : number there ≡ c.args.number = search rules in
    c.remove.ensures.items
    ∙ sym (without-at g.R.Ranked.less number g.met.R.Numbered.by_number c.args.number rows place there c.requires at (omega arith) c.index.ensures same)

pub returns-else-place-len-clause-items : goal.returns-else-place-len-clause-items
returns-else-place-len-clause-items g c =
    let number = g.R.Numbered.number_of in
    let n = c.args.number in
    let rows = c.args.rows.now.items in
    let place = c.place_of_number-place.result in
    let at : IsPlaceOfNumber number n rows place =
    subst (λ xs. IsPlaceOfNumber number n xs place) c.as_slice.ensures.value c.place_of_number-place.ensures in
    elim c.else-place-len.branch [
      | else-place-len-via-then-place-len+else-number w ↦
          let inside = w.if-place-len.true in
          let read = w.number.ensures in
          let apart = w.if-number.false in
          let differs : number w.index.result.now ≢ n = omega (arith, read, apart) in
          sym (without-missing_at g.R.Ranked.less number g.met.R.Numbered.by_number n rows place w.index.result.now c.requires at
          (omega (arith, inside)) w.index.ensures differs)
      | else-place-len-via-else-place-len w ↦
          let past = w.if-place-len.false in
          sym (without-missing_past number n rows place at (omega (arith, past)))
    ]
