use Rattle.std.proofs.Common.{refl, ◌∙◌}
use Rattle.std.specs.Prelude.{codes}
use Rattle.file_model.specs.declared.wave_fields.TheConstants.{FORM_AT}
use Rattle.wave_chunks.proofs.Steps.{none_below_other_form, none_below_other_size, part_there, part_other, not_near}
use Rattle.wave_chunks.proofs.waves.check_head.Goals as goal

pub returns-then-not-has_part-2-clause-err : goal.returns-then-not-has_part-2-clause-err
returns-then-not-has_part-2-clause-err c =
    let bytes = c.args.bytes.now in
    c.broken-then-not-has_part-2.ensures bytes
    (none_below_other_form bytes c.if-bytes-lt-CHUNKS_AT.false (part_there bytes (codes "RIFF") _ 0 _ c.as_slice.ensures c.has_part.ensures c.if-not-has_part.false))
    (part_other bytes (codes "WAVE") _ FORM_AT _ c.as_slice-2.ensures c.has_part-2.ensures c.if-not-has_part-2.true, refl)

pub returns-then-abs_diff-gt1-clause-err : goal.returns-then-abs_diff-gt1-clause-err
returns-then-abs_diff-gt1-clause-err c =
    let bytes = c.args.bytes.now in
    c.broken-then-abs_diff-gt1.ensures bytes
    (none_below_other_size bytes c.if-bytes-lt-CHUNKS_AT.false (part_there bytes (codes "RIFF") _ 0 _ c.as_slice.ensures c.has_part.ensures c.if-not-has_part.false)
    (part_there bytes (codes "WAVE") _ FORM_AT _ c.as_slice-2.ensures c.has_part-2.ensures c.if-not-has_part-2.false))
    (not_near _ _ _ _ (c.from.ensures ∙ c.number_at.ensures) c.abs_diff.ensures c.if-abs_diff-gt1.true, refl)
