use Rattle.std.proofs.Common.{[]}
use Rattle.std.specs.Prelude.{filter}
use Rattle.sound_model.specs.Loudness.{is_audible, gated}
use Rattle.gate_blocks.proofs.levels.loudness.Goals as goal

pub returns-clause-value : goal.returns-clause-value
returns-clause-value c =
    let blocks = c.args.blocks.now in
    let audible = c.add_audible.ensures.tally [] c.new-audible.ensures in
    c.tally_level.ensures.value (gated blocks) (c.add_near.ensures.tally (filter is_audible blocks) [] audible c.new-near.ensures)
