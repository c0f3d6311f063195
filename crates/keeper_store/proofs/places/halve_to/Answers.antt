use Rattle.std.proofs.Common.{rules, arith}
use Rattle.std.proofs.lemmas.List.Sorted.{IsPartitionPoint-from_clause}
use Rattle.keeper_store.proofs.Putting.{before_less, put-behind}
use Rattle.keeper_store.proofs.places.halve_to.Goals as goal

pub returns : goal.returns
returns g c =
    let less = g.R.Ranked.less in
    let row = c.args.row.now in
    let rows = c.args.rows.now in
    let parted = before_less less g.met.R.Ranked.order row rows c.requires in
    let point =
    IsPartitionPoint-from_clause (λ y. less y row) rows c.partition_point.result c.partition_point.ensures.partitioned parted
    (λ a r q k. search rules) in
    record {
      within = c.partition_point.ensures.bound;
      splits = put-behind less row rows c.partition_point.result c.partition_point.ensures.bound (λ k d here. point.0 k d (omega arith) here);
      stops = λ d here. point.1 c.partition_point.result d (omega arith) here;
    }
