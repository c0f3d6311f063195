-- What kept replies hold.
use Rattle.std.specs.Prelude.{◌≡◌, ◌≤◌, ◌+◌, ℕ, None, List, map, vec_len, vec_capacity}
use Rattle.std.specs.List.{find}
use Rattle.std.specs.Str.{bytes_eq}
use Rattle.keeper_store.specs.declared.row_types.ReplyRow.{ReplyRow}
use Rattle.kept_replies.specs.declared.keeping.KeptReplies.{KeptReplies}
use Rattle.kept_replies.specs.declared.replies.KeptReply.{KeptReply}
use Rattle.kept_replies.specs.Rows.{kept_of}

-- they are the replies of these rows
abbrev pub Holds : KeptReplies → List ReplyRow → Type 0
Holds kept rows = kept.replies.items ≡ map kept_of rows

-- there is room for so many replies more
abbrev pub HasRoom : KeptReplies → ℕ → Type 0
HasRoom kept more = vec_len kept.replies + more ≤ vec_capacity kept.replies

-- nothing is kept under the token
abbrev pub IsFresh : KeptReplies → List ℕ → Type 0
IsFresh kept token = find (λ (k : KeptReply). bytes_eq k.token token) kept.replies.items ≡ None
