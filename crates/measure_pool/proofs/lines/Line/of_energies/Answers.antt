use Rattle.measure_pool.proofs.lines.Line.of_energies.Goals as goal

pub returns-clause-fed : goal.returns-clause-fed
returns-clause-fed c = λ depth. record { filter = c.new-2.ensures depth; meter = c.in_ok-meter.ensures.fed; peak = tt }
