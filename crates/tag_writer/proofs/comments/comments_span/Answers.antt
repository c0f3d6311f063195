use Rattle.std.proofs.Common.{sym, ◌∙◌}
use Rattle.tag_writer.proofs.Contents.{no_comments, index_inside, span_found}
use Rattle.tag_writer.proofs.comments.comments_span.Goals as goal

pub returns-in-None : goal.returns-in-None
returns-in-None c read = no_comments c.args.bytes.now c.args.file.now read (sym c.comments.ensures ∙ c.in-None.is)

pub content_span-requires : goal.content_span-requires
content_span-requires c = index_inside c.args.bytes.now c.args.file.now c.in-Some.index c.requires (sym c.comments.ensures ∙ c.in-Some.is)

pub returns-in-Some : goal.returns-in-Some
returns-in-Some c read =
    span_found c.args.bytes.now c.args.file.now c.in-Some.index c.content_span.result (sym c.comments.ensures ∙ c.in-Some.is) c.content_span.ensures read
