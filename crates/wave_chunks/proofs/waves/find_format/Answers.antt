use Rattle.std.proofs.Common.{subst}
use Rattle.std.specs.Prelude.{codes}
use Rattle.wave_chunks.specs.Spans.{AtMostOne}
use Rattle.wave_chunks.proofs.Locating.{lies, format_content, none_below_short_format, says_result}
use Rattle.wave_chunks.proofs.waves.find_format.Goals as goal

pub content_of-requires-clause-ordered : goal.content_of-requires-clause-ordered
content_of-requires-clause-ordered c =
    (lies c.args.bytes.now (codes "fmt ") c.in-Some.span (subst (AtMostOne c.args.bytes.now (codes "fmt ")) c.in-Some.is c.requires.found)).ordered

pub content_of-requires-clause-inside : goal.content_of-requires-clause-inside
content_of-requires-clause-inside c =
    (lies c.args.bytes.now (codes "fmt ") c.in-Some.span (subst (AtMostOne c.args.bytes.now (codes "fmt ")) c.in-Some.is c.requires.found)).inside

pub read_format-requires-clause-is_content : goal.read_format-requires-clause-is_content
read_format-requires-clause-is_content c =
    format_content c.args.bytes.now c.in-Some.span c.content_of.result.now (subst (AtMostOne c.args.bytes.now (codes "fmt ")) c.in-Some.is c.requires.found)
    c.content_of.ensures.content

pub read_format-requires-clause-lower : goal.read_format-requires-clause-lower
read_format-requires-clause-lower c =
    none_below_short_format c.args.bytes.now c.in-Some.span (subst (AtMostOne c.args.bytes.now (codes "fmt ")) c.in-Some.is c.requires.found) c.requires.lower

pub returns-clause-format : goal.returns-clause-format
returns-clause-format c =
    says_result c.args.bytes.now c.content_of.result.now c.in-Some.span.start c.read_format.result
    (format_content c.args.bytes.now c.in-Some.span c.content_of.result.now (subst (AtMostOne c.args.bytes.now (codes "fmt ")) c.in-Some.is c.requires.found)
    c.content_of.ensures.content)
    c.read_format.ensures.format c.read_format.ensures.some c.read_format.ensures.few c.read_format.ensures.channels c.read_format.ensures.depth
    c.read_format.ensures.align
