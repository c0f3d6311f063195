-- What a request sees of the replies that are kept.
use Rattle.std.specs.Prelude.{◌≡◌, ◌≢◌, ◌≤◌, ◌<◌, ℕ, true, false, List, length, slice_index_or, Option, None, Some, ⊤}
use Rattle.std.specs.Cmp.Lexicographic.{slice_cmp}
use Rattle.std.specs.Ordering.{nat_cmp, is_lt}
use Rattle.keeper_store.specs.declared.row_types.ReplyRow.{ReplyRow}
use Rattle.library_model.specs.Replies.{json}
use Rattle.kept_replies.specs.declared.replies.KeptReply.{KeptReply}
use Rattle.kept_replies.specs.declared.replies.Seen.{Seen}
use Rattle.kept_replies.specs.declared.replies.Seen.TheVariants.{Fresh, Kept, Other}

-- A request with that mark sees the row kept under its token, or that there is none: its own reply where the marks are equal, and
-- else that the token is another request's.
abbrev pub SeenAs : Option ReplyRow → List ℕ → Seen → Type 0
SeenAs None mark Fresh = ⊤
SeenAs None mark (Kept reply) = ⊥
SeenAs None mark Other = ⊥
SeenAs (Some row) mark Fresh = ⊥
SeenAs (Some row) mark (Kept reply) = (row.mark ≡ mark) × (reply.now ≡ json row.status row.body)
SeenAs (Some row) mark Other = row.mark ≢ mark

-- P, where the request sees that nothing is kept
abbrev pub IfFresh : Seen → Type 0 → Type 0
IfFresh Fresh P = P
IfFresh (Kept reply) P = ⊤
IfFresh Other P = ⊤

-- the replies before the place have lesser tokens, those from there on have not
pub record IsPlaceOfToken (token : List ℕ) (replies : List KeptReply) (place : ℕ) : Type 0 where
  pub within : place ≤ length replies
  pub before : (k : ℕ) (d : KeptReply) → k < place → is_lt (slice_cmp nat_cmp (slice_index_or replies k d).token token) ≡ true
  pub behind : (k : ℕ) (d : KeptReply) → place ≤ k → k < length replies
      → is_lt (slice_cmp nat_cmp (slice_index_or replies k d).token token) ≡ false
