use Rattle.file_model.proofs.Readings.{IsBroken-from}
use Rattle.wave_chunks.proofs.broken.Goals as goal

pub returns : goal.returns
returns c = λ bytes lower breaks. (c.args.rule, c.rule.ensures, IsBroken-from bytes c.args.rule c.args.place lower breaks)
