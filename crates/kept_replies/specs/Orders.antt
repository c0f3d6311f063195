-- The order of kept replies: that of the bytes of their tokens.
use Rattle.std.specs.Prelude.{ℕ, Bool, List, []}
use Rattle.std.specs.Cmp.Lexicographic.{slice_cmp}
use Rattle.std.specs.Ordering.{nat_cmp, is_lt}
use Rattle.keeper_store.specs.Orders.{replies_in_order}
use Rattle.keeper_store.specs.Puts.{IsOrder}
use Rattle.keeper_store.specs.declared.row_types.ReplyRow.{ReplyRow}
use Rattle.kept_replies.specs.declared.replies.KeptReply.{KeptReply}

abbrev pub kept_less : KeptReply → KeptReply → Bool
kept_less a b = is_lt (slice_cmp nat_cmp a.token b.token)

-- a row of that token
abbrev row_under : List ℕ → ReplyRow
row_under token = record { token = token; mark = []; status = 0; body = [] }

pub kept_in_order : IsOrder kept_less
kept_in_order = record {
  chain = λ a b c. replies_in_order.chain (row_under a.token) (row_under b.token) (row_under c.token);
  level = λ a b c. replies_in_order.level (row_under a.token) (row_under b.token) (row_under c.token);
}
