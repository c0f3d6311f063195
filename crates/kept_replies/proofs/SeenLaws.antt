-- What is seen of what was found under a token.
use Rattle.std.proofs.Common.{◌≡◌, ◌≢◌, ℕ, Option, None, Some, List, sym, Bor, ap, ◌∙◌}
use Rattle.std.specs.Option.{option_map}
use Rattle.keeper_store.specs.declared.row_types.ReplyRow.{ReplyRow}
use Rattle.library_model.specs.declared.messages.Reply.{Reply}
use Rattle.kept_replies.specs.declared.replies.KeptReply.{KeptReply}
use Rattle.kept_replies.specs.declared.replies.Seen.TheVariants.{Fresh, Kept, Other}
use Rattle.kept_replies.specs.Rows.{kept_of}
use Rattle.kept_replies.specs.Seeing.{SeenAs}

-- A token under which nothing is kept is fresh.
pub fresh-SeenAs : (row : Option ReplyRow) (mark : List ℕ) → None ≡ option_map kept_of row → SeenAs row mark Fresh
fresh-SeenAs None mark is = tt
fresh-SeenAs (Some row) mark is = absurd (cc is)

-- A request with the mark of the kept reply sees it.
pub kept-SeenAs : (row : Option ReplyRow) (kept : KeptReply) (mark : List ℕ) (reply : Bor Reply)
    → Some kept ≡ option_map kept_of row → kept.mark ≡ mark → reply.now ≡ kept.reply → SeenAs row mark (Kept reply)
kept-SeenAs None kept mark reply is same said = absurd (cc is)
kept-SeenAs (Some row) kept mark reply is same said =
    let one : kept ≡ kept_of row = cc is in
    (sym (ap (λ (k : KeptReply). k.mark) one) ∙ same, said ∙ ap (λ (k : KeptReply). k.reply) one)

-- One with another mark sees that the token is another's.
pub other-SeenAs : (row : Option ReplyRow) (kept : KeptReply) (mark : List ℕ) → Some kept ≡ option_map kept_of row → kept.mark ≢ mark
    → SeenAs row mark Other
other-SeenAs None kept mark is differs = absurd (cc is)
other-SeenAs (Some row) kept mark is differs =
    let one : kept ≡ kept_of row = cc is in λ same. differs (ap (λ (k : KeptReply). k.mark) one ∙ same)
