-- Kept replies of rows.
use Rattle.std.proofs.Common.{◌≡◌, ℕ, true, Option, None, Some, List, [], ◌∷◌, map, refl, sym, ap, ◌∙◌}
use Rattle.std.specs.List.{AllByRecursion, find}
use Rattle.std.specs.Option.{option_map}
use Rattle.std.specs.Str.{bytes_eq}
use Rattle.keeper_store.specs.declared.row_types.ReplyRow.{ReplyRow}
use Rattle.keeper_store.specs.Puts.{Ascends, put, reply_less}
use Rattle.keeper_store.proofs.Putting.{map-put}
use Rattle.kept_replies.specs.declared.replies.KeptReply.{KeptReply}
use Rattle.kept_replies.specs.declared.keeping.KeptReplies.{KeptReplies}
use Rattle.kept_replies.specs.Holding.{Holds, IsFresh}
use Rattle.kept_replies.specs.Orders.{kept_less}
use Rattle.kept_replies.specs.Rows.{kept_of}
use Rattle.kept_replies.proofs.Finding.{find_kept}

-- what comes before all rows comes before all their replies
all_kept : (row : ReplyRow) (rows : List ReplyRow) → AllByRecursion (λ (r : ReplyRow). reply_less row r ≡ true) rows
    → AllByRecursion (λ (k : KeptReply). kept_less (kept_of row) k ≡ true) (map kept_of rows)
all_kept row [] all = tt
all_kept row (r ∷ rows) all = (all.0, all_kept row rows all.1)

-- The replies of rows that ascend do.
pub Ascends-kept : (rows : List ReplyRow) → Ascends reply_less rows → Ascends kept_less (map kept_of rows)
Ascends-kept [] rise = tt
Ascends-kept (r ∷ rows) rise = (all_kept r rows rise.0, Ascends-kept rows rise.1)

-- A reply put among those of rows is one of the rows with its own among them.
pub put_kept : (row : ReplyRow) (rows : List ReplyRow) (old new : List KeptReply) → old ≡ map kept_of rows
    → new ≡ put kept_less (kept_of row) old → new ≡ map kept_of (put reply_less row rows)
put_kept row rows old new holds is =
    is ∙ ap (put kept_less (kept_of row)) holds ∙ sym (map-put reply_less kept_less kept_of (λ a b. refl) row rows)

-- What is found among the replies of rows is that of the row that is found.
pub find_held : (token : List ℕ) (replies : List KeptReply) (rows : List ReplyRow) → replies ≡ map kept_of rows
    → find (λ (k : KeptReply). bytes_eq k.token token) replies
    ≡ option_map kept_of (find (λ (row : ReplyRow). bytes_eq row.token token) rows)
find_held token replies rows holds =
    ap (find (λ (k : KeptReply). bytes_eq k.token token)) holds ∙ find_kept token rows

-- Where nothing is kept under a token, no row has it.
pub fresh_held : (token : List ℕ) (kept : KeptReplies) (rows : List ReplyRow) → Holds kept rows → IsFresh kept token
    → find (λ (row : ReplyRow). bytes_eq row.token token) rows ≡ None
fresh_held token kept rows holds fresh =
    none (find (λ (row : ReplyRow). bytes_eq row.token token) rows) (sym (find_held token kept.replies.items rows holds) ∙ fresh)
  where
    none : (found : Option ReplyRow) → option_map kept_of found ≡ None → found ≡ None
    none None is = refl
    none (Some row) is = absurd (cc is)

-- Where no row has the token, nothing is kept under it.
pub held_fresh : (token : List ℕ) (kept : KeptReplies) (rows : List ReplyRow) → Holds kept rows
    → find (λ (row : ReplyRow). bytes_eq row.token token) rows ≡ None → IsFresh kept token
held_fresh token kept rows holds none = find_held token kept.replies.items rows holds ∙ ap (option_map kept_of) none
