use Rattle.std.proofs.Common.{rules, arith}
use Rattle.std.specs.Cmp.Lexicographic.{slice_cmp}
use Rattle.std.specs.Ordering.{nat_cmp, is_lt}
use Rattle.std.proofs.lemmas.List.Sorted.{IsPartitionPoint-from_clause}
use Rattle.kept_replies.specs.declared.replies.KeptReply.{KeptReply}
use Rattle.kept_replies.proofs.Finding.{lesser_in_front}
use Rattle.kept_replies.proofs.replies.place_of_token.Goals as goal

pub returns : goal.returns
returns c =
    let token = c.args.token.now in
    let replies = c.args.replies.now in
    let point =
    IsPartitionPoint-from_clause (λ (kept : KeptReply). is_lt (slice_cmp nat_cmp kept.token token)) replies c.partition_point.result
    c.partition_point.ensures.partitioned (lesser_in_front token replies c.requires) (λ a r q k. search rules) in
    record {
      within = c.partition_point.ensures.bound;
      before = λ k d here. point.0 k d (omega arith) here;
      behind = λ k d here within. point.1 k d here within;
    }
