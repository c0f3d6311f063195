use Rattle.std.proofs.Common.{◌≤◌, ◌-◌, List, ◌++◌, take, length, ap, ◌∙◌, subst, append_assoc, arith}
use Rattle.std.specs.Prelude.{ℤ}
use Rattle.gate_blocks.specs.Meters.{WasFed}
use Rattle.gate_blocks.proofs.Segmenting.{rest_moves, taken_moves}
use Rattle.gate_blocks.proofs.meters.SegmentMeter.feed.Goals as goal

pub loop-rest-preserved : goal.loop-rest-preserved
loop-rest-preserved c =
    let all = c.args.filtered.now in
    let rest = c.loop-rest.rest.now in
    let piece = c.split_at.result.0.now in
    let later = c.split_at.result.1.now in
    let now = c.loop-rest.invariant in
    let count : c.min-count.result ≤ length rest = omega (arith, c.min-count.ensures) in
    let moved = taken_moves all rest piece later c.min-count.result now.still now.fewer c.split_at.ensures.front c.split_at.ensures.back count in
    record {
      still = rest_moves all rest piece later c.min-count.result now.still now.fewer c.split_at.ensures.front c.split_at.ensures.back count;
      fewer = omega (arith, c.split_at.ensures.back_len);
      count = omega (arith, c.take_piece.ensures.count, c.split_at.ensures.back_len, c.split_at.ensures.front_len);
      frames = c.take_piece.ensures.frames ∙ now.frames;
      fed = λ xs was.
          let Fed : List ℤ → Type 0 = λ ys. WasFed c.take_piece.new.self ys in
          let taken = take (length all - length rest) all in
          subst Fed (append_assoc xs taken piece ∙ ap (λ (ys : List ℤ). xs ++ ys) moved)
          (c.take_piece.ensures.fed (xs ++ taken) (now.fed xs was));
    }
