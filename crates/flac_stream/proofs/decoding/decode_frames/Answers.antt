use Rattle.std.proofs.Common.{◌≡◌, ◌≤◌, ◌*◌, ◌∙◌, ℕ, length, refl, sym, subst, arith}
use Rattle.flac_stream.specs.Hearing.{AreDecoded}
use Rattle.flac_stream.proofs.Listing.{items_of, as_many, decoded_none, decoded_more}
use Rattle.flac_stream.proofs.decoding.decode_frames.Goals as goal

pub frames-init : goal.frames-init
frames-init c = record {
  decoded =
      decoded_none c.args.info.now c.args.bytes.now c.args.start c.none-heard.result c.in_ok-lists.lists.items
      (c.none-heard.ensures.heard c.args.bytes.now c.args.start c.requires.place) c.in_ok-lists.ensures;
  read = (let none = c.none-heard.ensures.none in omega (arith, none));
  room = refl;
}

pub returns-in-Err-clause-err : goal.returns-in-Err-clause-err
returns-in-Err-clause-err c = c.in-Err.ensures.err c.args.start c.requires.started c.frames.invariant.decoded.frames_are

pub add_frame-requires : goal.add_frame-requires
add_frame-requires c =
    subst (λ (n : ℕ). n * c.in-Ok.end.block ≤ length c.hear_next.new.scratch.cells)
    (sym (as_many c.args.info.now c.args.bytes.now c.args.start c.frames.at c.frames.heard c.frames.lists.items c.frames.invariant.decoded))
    c.in-Ok.ensures.fits

pub frames-preserved : goal.frames-preserved
frames-preserved c = record {
  decoded =
      decoded_more c.args.info.now c.args.bytes.now c.args.start c.frames.at c.frames.heard c.hear_next.new.heard c.frames.lists.items
      c.add_frame.new.lists.items c.hear_next.new.scratch.cells c.in-Ok.end c.frames.invariant.decoded c.in-Ok.ensures.heard c.in-Ok-add_frame.ensures;
  read = c.in-Ok.ensures.read;
  room = c.in-Ok.ensures.room ∙ c.frames.invariant.room;
}

pub returns-clause-ok : goal.returns-clause-ok
returns-clause-ok c =
    let inside = c.frames.invariant.decoded.frames_are.inside in
    subst (λ (n : ℕ). AreDecoded c.args.info.now c.args.bytes.now c.args.start n c.frames.heard (items_of c.frames.lists.items))
    (let ends : c.frames.at ≡ length c.args.bytes.now = omega (arith, inside) in ends)
    c.frames.invariant.decoded
