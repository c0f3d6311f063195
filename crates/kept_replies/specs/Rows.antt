-- Rows of kept replies.
use Rattle.keeper_store.specs.declared.row_types.ReplyRow.{ReplyRow}
use Rattle.library_model.specs.Replies.{json}
use Rattle.kept_replies.specs.declared.replies.KeptReply.{KeptReply}

-- the kept reply of a row: each reply that is kept is JSON
abbrev pub kept_of : ReplyRow → KeptReply
kept_of row = record { token = row.token; mark = row.mark; reply = json row.status row.body }
