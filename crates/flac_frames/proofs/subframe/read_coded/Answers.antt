use Rattle.bit_codec.specs.Reader.{left}
use Rattle.flac_frames.specs.Subframes.{coded_by}
use Rattle.flac_frames.proofs.Spelling.{content_refused, coded_comes}
use Rattle.flac_frames.proofs.Subframes.{on_ok}
use Rattle.flac_frames.proofs.subframe.read_coded.Goals as goal

pub returns-in-Ok-clause-comes : goal.returns-in-Ok-clause-comes
returns-in-Ok-clause-comes c =
    coded_comes c.restore_all.result c.args.depth _ (coded_by c.in-Ok.predictor c.read_content.new.out c.args.wasted) (left c.read_content.new.reader)
    c.restore_all.new.out (c.in-Ok.ensures.gives c.args.wasted) c.restore_all.ensures.comes

pub returns-in-Err-clause-comes : goal.returns-in-Err-clause-comes
returns-in-Err-clause-comes c = content_refused c.args.depth _ c.in-Err.rule (c.in-Err.ensures.gives c.args.wasted)

pub returns-in-Ok-clause-later : goal.returns-in-Ok-clause-later
returns-in-Ok-clause-later c = on_ok c.restore_all.result c.in-Ok.ensures.later
