use Rattle.tag_writer.proofs.Refusals.{comments_right, comments_refused}
use Rattle.tag_writer.proofs.comments.check_comments.Goals as goal

pub content_of-requires-clause-ordered : goal.content_of-requires-clause-ordered
content_of-requires-clause-ordered c = (c.in-Some.ensures c.requires).ordered

pub content_of-requires-clause-inside : goal.content_of-requires-clause-inside
content_of-requires-clause-inside c = (c.in-Some.ensures c.requires).inside

pub check_content-requires : goal.check_content-requires
check_content-requires c = c.content_of.ensures.short

pub returns-in-Ok-clause-ok : goal.returns-in-Ok-clause-ok
returns-in-Ok-clause-ok c =
    comments_right c.args.bytes.now c.args.file.now c.in-Some.span c.content_of.result.now c.requires (c.in-Some.ensures c.requires) c.content_of.ensures.content
    c.in-Ok.ensures.ok

pub returns-in-Err-clause-err : goal.returns-in-Err-clause-err
returns-in-Err-clause-err c =
    comments_refused c.args.bytes.now c.args.file.now c.in-Some.span c.content_of.result.now c.in-Err.refused c.requires (c.in-Some.ensures c.requires)
    c.content_of.ensures.content c.in-Err.ensures.err
