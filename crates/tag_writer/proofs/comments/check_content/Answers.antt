use Rattle.std.proofs.Common.{arith}
use Rattle.tag_writer.proofs.Refusals.{refused_inside}
use Rattle.tag_writer.proofs.comments.check_content.Goals as goal

pub overflow_add-result : goal.overflow_add-result
overflow_add-result c =
    let inside = refused_inside c.args.content.now c.in-Err-Broken.field-0 c.in-Err-Broken.broken c.in-Err-Broken.field-0-is c.in-Err-Broken.ensures.err in
    let short = c.requires in
    record { fits = omega (arith, inside, short) }
