use Rattle.std.proofs.Common.{Bool, nat_lt, arith, rules}
use Rattle.std.proofs.lemmas.Bool.Decides.{nat_tests}
use Rattle.std.proofs.lemmas.List.Sorted.{IsPartitionPoint-from_clause, IsPartitionedBy-ltb}
use Rattle.album_merge.specs.declared.members.Member.{Member}
use Rattle.album_merge.specs.Members.{member_id}
use Rattle.album_merge.proofs.members.place_of.Goals as goal
use Rattle.album_merge.proofs.Placing.{IsNonDecreasingBy-from_AscendBy}

pub returns : goal.returns
returns c =
    let members = c.args.members.now in
    let lesser : Member → Bool = λ m. nat_lt m.id c.args.id in
    let split = IsPartitionPoint-from_clause lesser members c.partition_point.result c.partition_point.ensures.partitioned
    (IsPartitionedBy-ltb member_id members c.args.id (IsNonDecreasingBy-from_AscendBy member_id members c.requires)) (λ a r q k. search rules) in
    record {
      inside = c.partition_point.ensures.bound;
      below = λ k d less. let test = split.0 k d (omega arith) less in grind (arith, nat_tests, test);
      above = λ k d more within. let test = split.1 k d more within in grind (arith, nat_tests, test);
    }
