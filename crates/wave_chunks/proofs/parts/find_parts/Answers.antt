use Rattle.std.proofs.Common.{◌≡◌, ◌∙◌, sym}
use Rattle.std.specs.Prelude.{None}
use Rattle.file_model.specs.Chunks.{first_repeat}
use Rattle.wave_chunks.proofs.Parting.{repeat_of, joined, format_part, samples_part, bext_part, none_below_no_format}
use Rattle.wave_chunks.proofs.parts.find_parts.Goals as goal

none_repeats : (c : goal.In_default) → first_repeat c.requires.chunks.chunks ≡ None
none_repeats c =
    sym (repeat_of c.args.bytes.now c.args.chunks.now c.requires.chunks _ _ _ c.named-format.ensures.second c.named-samples.ensures.second c.named-bext.ensures.second)
    ∙ sym (joined _ _ _ _ _ _ _ _ c.earlier.ensures c.earlier-repeats.ensures c.head_of-3.ensures c.head_of.ensures c.head_of-2.ensures)
    ∙ c.in_default.is

pub returns-in-Some-clause-err : goal.returns-in-Some-clause-err
returns-in-Some-clause-err c =
    c.broken.ensures c.args.bytes.now c.requires.lower (
      c.requires.chunks.chunks,
      c.requires.chunks.whole,
      sym (repeat_of c.args.bytes.now c.args.chunks.now c.requires.chunks _ _ _ c.named-format.ensures.second c.named-samples.ensures.second c.named-bext.ensures.second)
          ∙ sym (joined _ _ _ _ _ _ _ _ c.earlier.ensures c.earlier-repeats.ensures c.head_of-3.ensures c.head_of.ensures c.head_of-2.ensures)
          ∙ c.in-Some.is,
    )

pub returns-clause-format : goal.returns-clause-format
returns-clause-format c = format_part c.args.bytes.now c.args.chunks.now c.requires.chunks c.named-format.result.first c.named-format.ensures.first (none_repeats c)

pub returns-clause-samples : goal.returns-clause-samples
returns-clause-samples c = samples_part c.args.bytes.now c.args.chunks.now c.requires.chunks c.named-samples.result.first c.named-samples.ensures.first (none_repeats c)

pub returns-clause-bext : goal.returns-clause-bext
returns-clause-bext c = bext_part c.args.bytes.now c.args.chunks.now c.requires.chunks c.named-bext.result.first c.named-bext.ensures.first (none_repeats c)

pub returns-clause-passed : goal.returns-clause-passed
returns-clause-passed c = none_below_no_format c.args.bytes.now c.args.chunks.now c.requires.chunks (none_repeats c) c.requires.lower
