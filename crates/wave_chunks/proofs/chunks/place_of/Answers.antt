use Rattle.std.proofs.Common.{◌∙◌, sym}
use Rattle.wave_chunks.proofs.Naming.{named_here, named_elsewhere}
use Rattle.wave_chunks.proofs.chunks.place_of.Goals as goal

pub returns-then-eq : goal.returns-then-eq
returns-then-eq c = record {
  inside = c.loop-place-test.true;
  found = λ other.
      sym c.loop-place.invariant
      ∙ named_here c.args.name c.args.chunks.now c.loop-place.place _ c.loop-place-test.true (sym c.eq.ensures ∙ c.if-eq.true) other;
}

pub loop-place-preserved : goal.loop-place-preserved
loop-place-preserved c =
    sym (named_elsewhere c.args.name c.args.chunks.now c.loop-place.place _ c.loop-place-test.true (sym c.eq.ensures ∙ c.if-eq.false))
    ∙ c.loop-place.invariant
