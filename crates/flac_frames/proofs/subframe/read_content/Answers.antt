use Rattle.std.proofs.Common.{sym, subst, rules, w32, FitsSigned}
use Rattle.std.specs.Prelude.{All}
use Rattle.std.proofs.lemmas.Int.{to_z-of_z}
use Rattle.std.proofs.lemmas.List.Elements.{All-replicate}
use Rattle.lib_base.specs.Sounds.{IsSample}
use Rattle.flac_frames.proofs.Subframes.{samples_within, signed_field_within}
use Rattle.flac_frames.proofs.subframe.read_content.Goals as goal

-- samples that were read as they are
pub returns-in_ok-sample-in-Constant-clause-ready : goal.returns-in_ok-sample-in-Constant-clause-ready
returns-in_ok-sample-in-Constant-clause-ready c =
    let sample = c.in_ok-sample-in-Constant.sample in
    let fits : FitsSigned w32 sample = search rules in
    let is = simp to_z-of_z at c.fill.ensures in
    subst (All (IsSample c.args.depth)) (sym is)
    (All-replicate (IsSample c.args.depth) _ sample (signed_field_within c.args.depth _ sample _ c.in_ok-sample-in-Constant.ensures.gives))

pub returns-in_ok-read_samples-in-Verbatim-clause-ready : goal.returns-in_ok-read_samples-in-Verbatim-clause-ready
returns-in_ok-read_samples-in-Verbatim-clause-ready c =
    samples_within c.args.depth _ _ c.read_samples.new.out _ c.in_ok-read_samples-in-Verbatim.ensures.gives
