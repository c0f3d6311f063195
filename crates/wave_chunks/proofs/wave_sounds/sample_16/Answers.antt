use Rattle.std.proofs.Common.{◌∙◌, rules}
use Rattle.std.specs.Int.{w16, w32}
use Rattle.std.proofs.lemmas.Int.{to_z-of_z}
use Rattle.wave_chunks.proofs.Holding.{sample_of_two}
use Rattle.wave_chunks.proofs.wave_sounds.sample_16.Goals as goal

pub returns : goal.returns
returns c =
    to_z-of_z w32 c.from.result (record { sfits = c.from.type_inv }) ∙ c.from.ensures
    ∙ to_z-of_z w16 c.from_le_bytes.result (record { sfits = c.from_le_bytes.type_inv }) ∙ c.from_le_bytes.ensures
    ∙ sample_of_two c.args.bytes (search rules)
