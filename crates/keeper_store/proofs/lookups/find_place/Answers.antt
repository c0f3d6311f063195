use Rattle.std.proofs.Common.{rules, arith, ◌≢◌}
use Rattle.keeper_store.proofs.Finding.{none_at, none_past}
use Rattle.keeper_store.proofs.lookups.find_place.Goals as goal
use Rattle.keeper_store.proofs.lookups.find_place.Goals.{else-place-rows-via-then-place-rows+else-number, else-place-rows-via-else-place-rows}

pub returns-clause-missing : goal.returns-clause-missing
returns-clause-missing g c =
    let number = g.R.Numbered.number_of in
    let n = c.args.number in
    let rows = c.args.rows.now in
    let place = c.place_of_number-place.result in
    elim c.else-place-rows.branch [
      | else-place-rows-via-then-place-rows+else-number w ↦
          let inside = w.if-place-rows.true in
          let read = w.number.ensures in
          let apart = w.if-number.false in
          let differs : number w.index-rows-place.result ≢ n = omega (arith, read, apart) in
          none_at g.R.Ranked.less number g.met.R.Numbered.by_number n rows place w.index-rows-place.result c.requires
          c.place_of_number-place.ensures (omega (arith, inside)) w.index-rows-place.is differs
      | else-place-rows-via-else-place-rows w ↦
          let past = w.if-place-rows.false in
          none_past number n rows place c.place_of_number-place.ensures (omega (arith, past))
    ]
