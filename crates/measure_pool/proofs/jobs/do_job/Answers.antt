use Rattle.measure_pool.proofs.jobs.do_job.Goals as goal

pub go_over-requires-clause-unfed : goal.go_over-requires-clause-unfed
go_over-requires-clause-unfed g c κs within = c.in_ok-line-in-Whole.ensures.fed (g.S.Sound.depth c.args.sound.now)

pub go_over-requires-in-Segments-clause-unfed : goal.go_over-requires-in-Segments-clause-unfed
go_over-requires-in-Segments-clause-unfed g c κs within = c.in_ok-line-in-Segments.ensures.fed (g.S.Sound.depth c.args.sound.now)
