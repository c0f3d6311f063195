use Rattle.std.proofs.Common.{◌≡◌, ◌∙◌, ℕ, length, refl, subst, arith}
use Rattle.flac_stream.specs.Hearing.{HaveHeard}
use Rattle.flac_stream.proofs.frames.read_frames.Goals as goal

pub frames-init : goal.frames-init
frames-init c = record {
  heard = (c.none-heard.ensures.heard c.args.bytes.now c.args.start c.requires.place).0;
  read = (let none = c.none-heard.ensures.none in omega (arith, none));
  room = refl;
}

pub frames-preserved : goal.frames-preserved
frames-preserved c = record {
  heard = (c.in-Ok.ensures.heard c.args.start c.frames.invariant.heard).0;
  read = c.in-Ok.ensures.read;
  room = c.in-Ok.ensures.room ∙ c.frames.invariant.room;
}

pub returns-in-Err-clause-err : goal.returns-in-Err-clause-err
returns-in-Err-clause-err c = c.in-Err.ensures.err c.args.start c.requires.started c.frames.invariant.heard

pub returns-clause-ok : goal.returns-clause-ok
returns-clause-ok c =
    let inside = c.frames.invariant.heard.inside in
    subst (λ (n : ℕ). HaveHeard c.args.info.now c.args.bytes.now c.args.start n c.frames.heard)
    (let ends : c.frames.at ≡ length c.args.bytes.now = omega (arith, inside) in ends)
    c.frames.invariant.heard
