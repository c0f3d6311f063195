use Rattle.flac_stream.proofs.Openings.{opening_is, info_refused}
use Rattle.flac_stream.proofs.opening.read_opening.Goals as goal

pub info_content-requires : goal.info_content-requires
info_content-requires c = c.in_ok-blocks.ensures.ok.info.inside

pub returns-in-Ok-clause-ok : goal.returns-in-Ok-clause-ok
returns-in-Ok-clause-ok c =
    opening_is c.args.bytes.now c.info_content.result.now c.in-Ok.info _ _ _ c.in_ok-blocks.ensures.ok c.info_content.ensures.value c.in-Ok.ensures

pub returns-in-Err-clause-err : goal.returns-in-Err-clause-err
returns-in-Err-clause-err c =
    c.refused.ensures c.args.bytes.now
    (info_refused c.args.bytes.now c.info_content.result.now c.in-Err.rule c.place_in.result _ _ _ c.in_ok-blocks.ensures.ok
    c.info_content.ensures.value c.in-Err.ensures c.place_in.ensures)
