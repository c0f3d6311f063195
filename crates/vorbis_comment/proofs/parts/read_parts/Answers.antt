use Rattle.std.proofs.Common.{length-drop, ap, sym, ◌∙◌, arith, Result, Err}
use Rattle.file_model.specs.declared.comment_rules.CommentBreak.{CommentBreak}
use Rattle.file_model.specs.declared.comment_rules.CommentRule.TheVariants.{BytesLeft}
use Rattle.file_model.specs.Comments.{Comments}
use Rattle.vorbis_comment.proofs.Places.{breaks_here}
use Rattle.vorbis_comment.proofs.Wholes.{refuses_by, head_fails, entries_refused, left_over, all_read}
use Rattle.vorbis_comment.proofs.parts.read_parts.Goals as goal

pub returns-in-Err-clause-err : goal.returns-in-Err-clause-err
returns-in-Err-clause-err c =
    refuses_by c.refused.result c.in-Err.found _ c.refused.ensures (head_fails c.args.content.now c.in-Err.found c.in-Err.ensures.gives)

pub returns-in-Err-read_entries-clause-err : goal.returns-in-Err-read_entries-clause-err
returns-in-Err-read_entries-clause-err c =
    entries_refused c.args.content.now _ c.in-Ok.head.count _ c.in-Err-read_entries.refused c.in-Ok.ensures.gives c.in-Err-read_entries.ensures.err

pub returns-then-entries-content-clause-err : goal.returns-then-entries-content-clause-err
returns-then-entries-content-clause-err c =
    let entries = c.in-Ok-read_entries.entries in
    let rest = length-drop entries.end c.args.content.now in
    let inside = c.in-Ok-read_entries.ensures.inside in
    let more = c.if-entries-content.true in
    refuses_by c.refused-then-entries-content.result _ _ c.refused-then-entries-content.ensures
    (left_over c.args.content.now _ c.in-Ok.head.count _ _ _ c.in-Ok.ensures.gives c.in-Ok-read_entries.ensures.ok
    (λ none. omega (arith, rest, more, none))
    ∙ ap broken (sym (breaks_here c.args.content.now BytesLeft entries.end inside)))
  where
    broken : CommentBreak → Result Comments CommentBreak
    broken found = Err found

pub returns-clause-ok : goal.returns-clause-ok
returns-clause-ok c =
    let rest = length-drop c.in-Ok-read_entries.entries.end c.args.content.now in
    let past = c.if-entries-content.false in
    all_read c.args.content.now _ c.in-Ok.head.count _ _ _ c.in-Ok.ensures.gives c.in-Ok-read_entries.ensures.ok (omega (arith, rest, past))
