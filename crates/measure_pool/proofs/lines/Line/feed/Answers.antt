use Rattle.std.proofs.Common.{List, subst, sym}
use Rattle.std.specs.Prelude.{ℤ}
use Rattle.gate_blocks.specs.Meters.{WasFed}
use Rattle.sound_model.specs.Weighted.{weighted}
use Rattle.measure_pool.proofs.lines.Line.feed.Goals as goal

pub returns-clause-fed : goal.returns-clause-fed
returns-clause-fed c = λ fed was. record {
  filter = c.feed.ensures.state fed was.filter;
  meter =
      let OfValues : List ℤ → Type 0 = λ values. WasFed c.feed-2.new.self values in
      subst OfValues (sym (c.feed.ensures.value fed was.filter)) (c.feed-2.ensures.fed (weighted c.args.depth fed) was.meter);
  peak = c.fed_further-self.ensures.fed fed was.peak;
}
