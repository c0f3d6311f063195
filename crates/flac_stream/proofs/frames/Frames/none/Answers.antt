use Rattle.std.proofs.Common.{rules}
use Rattle.flac_stream.proofs.Framing.{none_heard}
use Rattle.flac_stream.proofs.frames.Frames.none.Goals as goal

pub returns-clause-heard : goal.returns-clause-heard
returns-clause-heard c = λ bytes start inside. none_heard c.args.info.now bytes start _ _ (search rules) inside c.new-digest.ensures
