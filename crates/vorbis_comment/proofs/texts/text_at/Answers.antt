use Rattle.vorbis_comment.proofs.Places.{text_cut, text_there}
use Rattle.vorbis_comment.proofs.texts.text_at.Goals as goal

pub returns-then-content-start-clause-gives : goal.returns-then-content-start-clause-gives
returns-then-content-start-clause-gives c =
    text_cut c.args.content.now c.args.at c.in_ok-count.field-0 c.args.found c.in_ok-count.ensures.gives c.if-content-start.true

pub returns-clause-gives : goal.returns-clause-gives
returns-clause-gives c =
    text_there c.args.content.now c.args.at c.in_ok-count.field-0 c.args.found c.in_ok-count.ensures.gives c.if-content-start.false
