use Rattle.bench_flac.proofs.prediction.fixed.Goals as goal

pub fixed_round-requires-clause-warm_up : goal.fixed_round-requires-clause-warm_up
fixed_round-requires-clause-warm_up c = rw c.as_slice.ensures.value c.in_ok-coded.ensures.warm_up
