-- Segments of lists that grow.
use Rattle.std.proofs.Common.{◌≡◌, ◌≤◌, ◌<◌, ◌+◌, ◌-◌, ◌*◌, ◌/◌, ◌%◌, ℕ, zero, suc, List, [], ◌∷◌, ◌++◌, length, take, drop, length-drop, length-append, refl, sym, ap, ◌∙◌, arith}
use Rattle.std.specs.Prelude.{ℤ, sum_by}
use Rattle.std.proofs.Math.Seq.{take-add}
use Rattle.std.proofs.lemmas.List.{take-append-le, drop-append-le, drop-drop, take_all, drop_all}
use Rattle.std.proofs.lemmas.List.Sums.{sum_by-append}
use Rattle.lib_base.specs.Sounds.{part}
use Rattle.lib_base.specs.declared.limits.TheConstants.{SEGMENT_FRAMES}
use Rattle.gate_blocks.specs.Meters.{Meter, WasFed}
use Rattle.sound_model.specs.Segments.{segments_of, first_segments, segment_energy, square}

-- a part that lies in the first of two lists
part-append : (xs ys : List ℤ) (start count : ℕ) → start + count ≤ length xs → part (xs ++ ys) start count ≡ part xs start count
part-append xs ys start count inside =
    let begins : start ≤ length xs = omega arith in
    let left = length-drop start xs in
    ap (take count) (drop-append-le start xs ys begins) ∙ take-append-le count (drop start xs) ys (omega (arith, left))

-- whole segments stay when more values follow
first_segments-append : (n : ℕ) (xs ys : List ℤ) → SEGMENT_FRAMES * n ≤ length xs → first_segments n (xs ++ ys) ≡ first_segments n xs
first_segments-append zero xs ys whole = refl
first_segments-append (suc n) xs ys whole =
    let before = first_segments-append n xs ys (omega arith) in
    let last = ap (sum_by square) (part-append xs ys (SEGMENT_FRAMES * n) SEGMENT_FRAMES (omega arith)) in
    ap (λ (front : List ℕ). front ++ segment_energy (xs ++ ys) n ∷ []) before ∙ ap (λ e. first_segments n xs ++ e ∷ []) last

-- what is after whole segments grows with the list
after-append : (n : ℕ) (xs ys : List ℤ) → SEGMENT_FRAMES * n ≤ length xs
    → sum_by square (drop (SEGMENT_FRAMES * n) (xs ++ ys)) ≡ sum_by square (drop (SEGMENT_FRAMES * n) xs) + sum_by square ys
after-append n xs ys whole =
    ap (sum_by square) (drop-append-le (SEGMENT_FRAMES * n) xs ys whole) ∙ sum_by-append square (drop (SEGMENT_FRAMES * n) xs) ys

-- values that end within a segment leave the segments and add to what is after them
pub segments_within : (xs ys : List ℤ) → length xs % SEGMENT_FRAMES + length ys < SEGMENT_FRAMES → segments_of (xs ++ ys) ≡ segments_of xs
segments_within xs ys short =
    let both = length-append xs ys in
    let same : length (xs ++ ys) / SEGMENT_FRAMES ≡ length xs / SEGMENT_FRAMES = omega (arith, both, short) in
    ap (λ n. first_segments n (xs ++ ys)) same ∙ first_segments-append (length xs / SEGMENT_FRAMES) xs ys (omega arith)

pub after_within : (xs ys : List ℤ) → length xs % SEGMENT_FRAMES + length ys < SEGMENT_FRAMES
    → sum_by square (drop (SEGMENT_FRAMES * (length (xs ++ ys) / SEGMENT_FRAMES)) (xs ++ ys))
    ≡ sum_by square (drop (SEGMENT_FRAMES * (length xs / SEGMENT_FRAMES)) xs) + sum_by square ys
after_within xs ys short =
    let both = length-append xs ys in
    let same : length (xs ++ ys) / SEGMENT_FRAMES ≡ length xs / SEGMENT_FRAMES = omega (arith, both, short) in
    ap (λ n. sum_by square (drop (SEGMENT_FRAMES * n) (xs ++ ys))) same ∙ after-append (length xs / SEGMENT_FRAMES) xs ys (omega arith)

-- values that end a segment add it, and nothing is after it
pub segments_ending : (xs ys : List ℤ) → length xs % SEGMENT_FRAMES + length ys ≡ SEGMENT_FRAMES
    → segments_of (xs ++ ys) ≡ segments_of xs ++ (sum_by square (drop (SEGMENT_FRAMES * (length xs / SEGMENT_FRAMES)) xs) + sum_by square ys) ∷ []
segments_ending xs ys ends =
    let n = length xs / SEGMENT_FRAMES in
    let both = length-append xs ys in
    let counted : length (xs ++ ys) / SEGMENT_FRAMES ≡ suc n = omega (arith, both, ends) in
    let left = length-drop (SEGMENT_FRAMES * n) (xs ++ ys) in
    let last : segment_energy (xs ++ ys) n ≡ sum_by square (drop (SEGMENT_FRAMES * n) xs) + sum_by square ys =
    ap (sum_by square) (take_all SEGMENT_FRAMES (drop (SEGMENT_FRAMES * n) (xs ++ ys)) (omega (arith, left, both, ends))) ∙ after-append n xs ys (omega arith) in
    ap (λ m. first_segments m (xs ++ ys)) counted
    ∙ ap (λ (front : List ℕ). front ++ segment_energy (xs ++ ys) n ∷ []) (first_segments-append n xs ys (omega arith))
    ∙ ap (λ e. segments_of xs ++ e ∷ []) last

pub after_ending : (xs ys : List ℤ) → length xs % SEGMENT_FRAMES + length ys ≡ SEGMENT_FRAMES
    → sum_by square (drop (SEGMENT_FRAMES * (length (xs ++ ys) / SEGMENT_FRAMES)) (xs ++ ys)) ≡ 0
after_ending xs ys ends =
    let both = length-append xs ys in
    ap (sum_by square) (drop_all (SEGMENT_FRAMES * (length (xs ++ ys) / SEGMENT_FRAMES)) (xs ++ ys) (omega (arith, both, ends)))

-- a meter that takes values which end within a segment
pub fed_within : (old new : Meter) (xs ys : List ℤ) → WasFed old xs → old.count % SEGMENT_FRAMES + length ys < SEGMENT_FRAMES
    → new.count ≡ old.count + length ys → new.energies ≡ old.energies → new.after ≡ old.after + sum_by square ys → WasFed new (xs ++ ys)
fed_within old new xs ys was short count energies after =
    let before = was.count in
    let within : length xs % SEGMENT_FRAMES + length ys < SEGMENT_FRAMES = omega (arith, before, short) in
    record {
      count = omega (arith, count, before, length-append xs ys);
      energies = energies ∙ was.energies ∙ sym (segments_within xs ys within);
      after = after ∙ ap (λ sum. sum + sum_by square ys) was.after ∙ sym (after_within xs ys within);
    }

-- a meter that takes values which end a segment
pub fed_ending : (old new : Meter) (xs ys : List ℤ) → WasFed old xs → old.count % SEGMENT_FRAMES + length ys ≡ SEGMENT_FRAMES
    → new.count ≡ old.count + length ys → new.energies ≡ old.energies ++ (old.after + sum_by square ys) ∷ [] → new.after ≡ 0
    → WasFed new (xs ++ ys)
fed_ending old new xs ys was ends count energies after =
    let before = was.count in
    let ending : length xs % SEGMENT_FRAMES + length ys ≡ SEGMENT_FRAMES = omega (arith, before, ends) in
    record {
      count = omega (arith, count, before, length-append xs ys);
      energies =
          energies ∙ ap (λ (front : List ℕ). front ++ (old.after + sum_by square ys) ∷ []) was.energies
          ∙ ap (λ sum. segments_of xs ++ (sum + sum_by square ys) ∷ []) was.after ∙ sym (segments_ending xs ys ending);
      after = after ∙ sym (after_ending xs ys ending);
    }

-- a piece of the rest of a list, and what is left then
pub rest_moves : (all rest piece later : List ℤ) (count : ℕ) → rest ≡ drop (length all - length rest) all → length rest ≤ length all
    → piece ≡ take count rest → later ≡ drop count rest → count ≤ length rest → later ≡ drop (length all - length later) all
rest_moves all rest piece later count still fewer is_piece is_later inside =
    let left : length later ≡ length rest - count = ap length is_later ∙ length-drop count rest in
    let moved : (length all - length rest) + count ≡ length all - length later = omega (arith, left) in
    is_later ∙ ap (drop count) still ∙ drop-drop count (length all - length rest) all ∙ ap (λ n. drop n all) moved

pub taken_moves : (all rest piece later : List ℤ) (count : ℕ) → rest ≡ drop (length all - length rest) all → length rest ≤ length all
    → piece ≡ take count rest → later ≡ drop count rest → count ≤ length rest
    → take (length all - length rest) all ++ piece ≡ take (length all - length later) all
taken_moves all rest piece later count still fewer is_piece is_later inside =
    let left : length later ≡ length rest - count = ap length is_later ∙ length-drop count rest in
    let moved : (length all - length rest) + count ≡ length all - length later = omega (arith, left) in
    ap (λ (p : List ℤ). take (length all - length rest) all ++ p) (is_piece ∙ ap (take count) still)
    ∙ sym (take-add (length all - length rest) count all) ∙ ap (λ n. take n all) moved
