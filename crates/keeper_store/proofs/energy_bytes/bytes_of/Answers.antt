use Rattle.std.proofs.Common.{◌≡◌, ◌∙◌, ap, length, arith}
use Rattle.std.proofs.lemmas.List.{take_all}
use Rattle.keeper_store.specs.EnergyBytes.{row_bytes, energies_in}
use Rattle.keeper_store.proofs.EnergyRows.{length-row_bytes, energies_in-row_bytes, row_grows}
use Rattle.keeper_store.proofs.energy_bytes.bytes_of.Goals as goal
use Rattle.keeper_store.proofs.energy_bytes.bytes_of.Goals.{After-of}

pub loop-energy-preserved : goal.loop-energy-preserved
loop-energy-preserved c =
    row_grows c.args.energies.now c.loop-energy.energy-index c.loop-energy.bytes.items _ c.split_at.result.1.now c.to_be_bytes.result
    c.loop-energy-test.true c.loop-energy.invariant c.in_ok-extend_from_slice.ensures.items c.split_at.ensures.back c.to_be_bytes.ensures

bytes_are : (c : After-of) → c.of.result ≡ row_bytes c.args.energies.now
bytes_are c =
    c.of.ensures ∙ c.loop-energy.invariant
    ∙ ap row_bytes (take_all c.loop-energy.energy-index c.args.energies.now c.loop-energy-test.false)

pub returns-clause-whole : goal.returns-clause-whole
returns-clause-whole c =
    let count = ap length (bytes_are c) in
    omega (arith, count, length-row_bytes c.args.energies.now)

pub returns-clause-read_back : goal.returns-clause-read_back
returns-clause-read_back c = ap energies_in (bytes_are c) ∙ energies_in-row_bytes c.args.energies.now c.requires
