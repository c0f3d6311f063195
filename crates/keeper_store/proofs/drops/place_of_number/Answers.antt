use Rattle.std.proofs.Common.{rules, arith, nat_lt}
use Rattle.std.proofs.lemmas.Bool.Decides.{nat_tests}
use Rattle.std.proofs.lemmas.List.Sorted.{IsPartitionPoint-from_clause}
use Rattle.keeper_store.proofs.Dropping.{lesser_in_front}
use Rattle.keeper_store.proofs.drops.place_of_number.Goals as goal

pub returns : goal.returns
returns g c =
    let number = g.R.Numbered.number_of in
    let n = c.args.number in
    let rows = c.args.rows.now in
    let place = c.partition_point.result in
    let point =
    IsPartitionPoint-from_clause (λ row. nat_lt (number row) n) rows place c.partition_point.ensures.partitioned
    (lesser_in_front g.R.Ranked.less number g.met.R.Numbered.by_number n rows c.requires) (λ a r q k. search rules) in
    record {
      within = c.partition_point.ensures.bound;
      before = λ k d here. let below = point.0 k d (omega arith) here in grind (arith, nat_tests, below);
      behind = λ k d here within. let above = point.1 k d here within in grind (arith, nat_tests, above);
    }
