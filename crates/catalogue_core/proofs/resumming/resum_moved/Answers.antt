use Rattle.catalogue_core.proofs.resumming.resum_moved.Goals as goal

pub returns-clause-row : goal.returns-clause-row
returns-clause-row g c = rw c.in-Some.is (λ t next holds it. c.resummed.ensures t next (c.summary_with_moved-levels.ensures.held t holds) (record {
  there = it.1.there;
  some = c.summary_with_moved-levels.ensures.some t next holds it.0 it.1;
  sums = c.summary_with_moved-levels.ensures.summary t next holds it.0;
}))
