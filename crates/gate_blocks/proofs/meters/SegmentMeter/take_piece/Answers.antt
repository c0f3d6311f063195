use Rattle.std.proofs.Common.{◌≡◌, ◌+◌, ℕ, List, [], ◌∷◌, ◌++◌, length, ap, ◌∙◌, refl, arith}
use Rattle.std.proofs.lemmas.List.{length_push}
use Rattle.std.specs.Prelude.{sum_by}
use Rattle.sound_model.specs.Segments.{square}
use Rattle.gate_blocks.specs.Meters.{Meter}
use Rattle.gate_blocks.proofs.Segmenting.{fed_within, fed_ending}
use Rattle.gate_blocks.proofs.meters.SegmentMeter.take_piece.Goals as goal

pub returns-then-self-eq-SEGMENT_FRAMES-clause-fed : goal.returns-then-self-eq-SEGMENT_FRAMES-clause-fed
returns-then-self-eq-SEGMENT_FRAMES-clause-fed c =
    λ xs was.
    let old = c.args.self.now in
    let inside = c.self.inside in
    let counts = ap (λ (m : Meter). m.count) c.self.view_is in
    let lists = ap (λ (m : Meter). m.energies) c.self.view_is in
    let sums = ap (λ (m : Meter). m.after) c.self.view_is in
    let last : inside.after + c.squares_of.result ≡ old.after + sum_by square c.args.piece.now = omega (arith, sums, c.squares_of.ensures.value) in
    let grown = ap length c.append.ensures.items ∙ length_push inside.energies.items (inside.after + c.squares_of.result) in
    fed_ending old _ xs c.args.piece.now was (omega (arith, counts)) (omega (arith, counts, grown))
    (c.append.ensures.items ∙ ap (λ (front : List ℕ). front ++ (inside.after + c.squares_of.result) ∷ []) lists
    ∙ ap (λ n. old.energies ++ n ∷ []) last)
    refl

pub returns-else-self-eq-SEGMENT_FRAMES-clause-fed : goal.returns-else-self-eq-SEGMENT_FRAMES-clause-fed
returns-else-self-eq-SEGMENT_FRAMES-clause-fed c =
    λ xs was.
    let counts = ap (λ (m : Meter). m.count) c.self.view_is in
    let lists = ap (λ (m : Meter). m.energies) c.self.view_is in
    let sums = ap (λ (m : Meter). m.after) c.self.view_is in
    fed_within c.args.self.now _ xs c.args.piece.now was (omega (arith, counts)) (omega (arith, counts)) lists
    (omega (arith, sums, c.squares_of.ensures.value))
