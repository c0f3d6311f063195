use Rattle.std.proofs.Common.{List, Bool, ◌∙◌, sym, ap}
use Rattle.file_model.specs.Subframe.{Coded}
use Rattle.flac_frames.proofs.Residuals.{ok_is}
use Rattle.flac_frames.proofs.subframe.skip_coded.Goals as goal

pub returns-in-Ok : goal.returns-in-Ok
returns-in-Ok c = λ coded rest is. ap (λ (read : Coded × List Bool). read.1) (ok_is _ _ (sym (c.in-Ok.ensures.gives c.args.wasted) ∙ is))

pub returns-in-Err : goal.returns-in-Err
returns-in-Err c = λ coded rest is. (let outcomes = sym (c.in-Err.ensures.gives c.args.wasted) ∙ is in cc)
