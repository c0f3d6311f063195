use Rattle.std.proofs.Common.{subst, sym, arith}
use Rattle.std.specs.Prelude.{codes}
use Rattle.wave_chunks.specs.Spans.{AtMostOne, HasRightBext}
use Rattle.wave_chunks.proofs.Locating.{long_bext}
use Rattle.wave_chunks.proofs.waves.check_bext.Goals as goal

pub returns-clause-right : goal.returns-clause-right
returns-clause-right c =
    let size = c.length_of.ensures in
    let enough = c.if-length_of-lt-BEXT_BYTES.false in
    subst (HasRightBext c.args.bytes.now) (sym c.in-Some.is)
    (long_bext c.args.bytes.now c.in-Some.span (subst (AtMostOne c.args.bytes.now (codes "bext")) c.in-Some.is c.requires.found) (omega (arith, size, enough)))
