use Rattle.flac_stream.proofs.Endings.{end_refused, file_read}
use Rattle.flac_stream.proofs.files.close.Goals as goal

pub returns-in-Ok-clause-ok : goal.returns-in-Ok-clause-ok
returns-in-Ok-clause-ok c =
    let heard = c.requires.heard in
    file_read c.args.bytes.now c.args.opening.info _ _ _ _ _ _ c.requires.opened heard (c.in-Ok.ensures heard.frames heard.count_is heard.fed)

pub returns-in-Err-clause-err : goal.returns-in-Err-clause-err
returns-in-Err-clause-err c =
    let heard = c.requires.heard in
    end_refused c.args.bytes.now c.args.opening.info _ _ _ _ _ _ c.in-Err.broken c.requires.opened heard
    (c.in-Err.ensures heard.frames heard.count_is heard.fed)
