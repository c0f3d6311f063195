use Rattle.std.proofs.Common.{◌∙◌, ap, sym}
use Rattle.file_model.specs.declared.flac_rules.FlacRule.TheVariants.{OtherTotal, OtherMd5}
use Rattle.file_model.specs.FlacFile.{breaks_at, is_total}
use Rattle.flac_stream.proofs.Endings.{other_total, other_md5, both_met}
use Rattle.flac_stream.proofs.ending.check_end.Goals as goal

pub returns-then-not-is_total : goal.returns-then-not-is_total
returns-then-not-is_total c = λ frames count fed. (
  breaks_at OtherTotal 13,
  other_total c.args.info.now frames (ap (is_total c.args.info.now.total) count ∙ sym c.is_total.ensures ∙ c.if-not-is_total.true),
  c.breaks.ensures,
)

pub returns-then-not-meets : goal.returns-then-not-meets
returns-then-not-meets c = λ frames count fed. (
  breaks_at OtherMd5 18,
  other_md5 c.args.info.now frames (ap (is_total c.args.info.now.total) count ∙ sym c.is_total.ensures ∙ c.if-not-is_total.false)
      (sym (c.meets.ensures _ fed) ∙ c.if-not-meets.true),
  c.breaks-then-not-meets.ensures,
)

pub returns : goal.returns
returns c = λ frames count fed.
    both_met c.args.info.now frames (ap (is_total c.args.info.now.total) count ∙ sym c.is_total.ensures ∙ c.if-not-is_total.false)
    (sym (c.meets.ensures _ fed) ∙ c.if-not-meets.false)
