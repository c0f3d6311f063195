use Rattle.catalogue_core.proofs.resumming.resum_without.Goals as goal

pub returns-clause-row : goal.returns-clause-row
returns-clause-row g c = rw c.in-Some.is (λ t next holds it. c.resummed.ensures t next (c.summary_without-levels.ensures.held t holds) (record {
  there = it.1;
  some = c.summary_without-levels.ensures.some t holds it.1;
  sums = c.summary_without-levels.ensures.summary t next holds it.0;
}))
