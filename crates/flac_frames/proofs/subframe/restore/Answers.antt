use Rattle.std.proofs.Common.{Ok, sym, subst}
use Rattle.file_model.proofs.Predictions.{Spells-plain}
use Rattle.flac_frames.specs.declared.subframe.Predictor.{Predictor}
use Rattle.flac_frames.specs.Subframes.{IsReady, Restores}
use Rattle.flac_frames.proofs.subframe.restore.Goals as goal

-- numbers that are samples spell themselves
pub returns-in-Plain : goal.returns-in-Plain
returns-in-Plain c =
    subst (λ (p : Predictor). Restores p c.args.depth c.args.out.now (Ok c.args.out.now)) (sym c.in-Plain.is)
    (Spells-plain c.args.depth c.args.out.now
    (subst (λ (p : Predictor). IsReady c.args.depth p c.args.out.now) c.in-Plain.is c.requires.ready))
