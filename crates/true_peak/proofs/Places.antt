-- The samples before one place and before the next.
use Rattle.std.proofs.Common.{◌≡◌, ◌≤◌, ◌<◌, ◌+◌, ◌-◌, ◌∙◌, ℕ, zero, suc, ℤ, pos, List, [], ◌∷◌, ◌++◌, length, get_or, take, drop, map, max, replicate, Bool, cond, inl, inr, refl, ap, sym, add-one, lit<, arith}
use Rattle.std.proofs.Math.Dec.{leb, leb-zero, leb-suc-suc}
use Rattle.std.proofs.lemmas.Bool.Decides.{leb_tells}
use Rattle.std.proofs.lemmas.Int.{ints}
use Rattle.std.proofs.lemmas.List.{get_or_past, get_or_append_left, get_or-drop}
use Rattle.std.specs.List.{AllByRecursion}
use Rattle.sound_model.specs.Peaks.{scaled, sample_before, peak_at, peak_from, peak_over}
use Rattle.true_peak.specs.Windows.{dot, history_at, size_after}

-- the value at a place is made of the sample there and those before it
pub peak_at_history : (depth : ℕ) (samples : List ℤ) (place : ℕ) → peak_at depth samples place ≡ size_after (sample_before depth samples place 0) (history_at depth samples place)
unfolding dot
peak_at_history depth samples place = refl

-- one place on, everything is one further before
sample_before-suc : (depth : ℕ) (samples : List ℤ) (place count : ℕ) → sample_before depth samples (place + 1) (count + 1) ≡ sample_before depth samples place count
sample_before-suc depth samples place count =
    let test : leb (count + 1) (place + 1) ≡ leb count place =
    ap (λ (n : ℕ). leb n (place + 1)) (add-one count) ∙ ap (λ (n : ℕ). leb (suc count) n) (add-one place) ∙ leb-suc-suc count place in
    let less : (place + 1) - (count + 1) ≡ place - count = omega arith in
    ap (λ (b : Bool). cond b (scaled depth (get_or samples ((place + 1) - (count + 1)) (pos 0))) (pos 0)) test
    ∙ ap (λ (n : ℕ). cond (leb count place) (scaled depth (get_or samples n (pos 0))) (pos 0)) less

shift : (depth : ℕ) (samples : List ℤ) (place : ℕ) (counts : List ℕ)
    → map (λ (k : ℕ). sample_before depth samples (place + 1) (k + 1)) counts ≡ map (λ (k : ℕ). sample_before depth samples place k) counts
shift depth samples place [] = refl
shift depth samples place (k ∷ counts) =
    ap (λ (z : ℤ). z ∷ map (λ (k : ℕ). sample_before depth samples (place + 1) (k + 1)) counts) (sample_before-suc depth samples place k)
    ∙ ap (λ (zs : List ℤ). sample_before depth samples place k ∷ zs) (shift depth samples place counts)

-- the history before the next place
pub history_at-next : (depth : ℕ) (samples : List ℤ) (place : ℕ)
    → history_at depth samples (place + 1) ≡ sample_before depth samples place 0 ∷ take 10 (history_at depth samples place)
history_at-next depth samples place = shift depth samples place (0 ∷ 1 ∷ 2 ∷ 3 ∷ 4 ∷ 5 ∷ 6 ∷ 7 ∷ 8 ∷ 9 ∷ 10 ∷ [])

-- the sample at a place
pub sample_at : (depth : ℕ) (samples : List ℤ) (place : ℕ) → sample_before depth samples place 0 ≡ scaled depth (get_or samples place (pos 0))
sample_at depth samples place =
    let none : place - 0 ≡ place = omega arith in
    ap (λ (b : Bool). cond b (scaled depth (get_or samples (place - 0) (pos 0))) (pos 0)) (leb-zero place)
    ∙ ap (λ (n : ℕ). scaled depth (get_or samples n (pos 0))) none

scaled-zero : (depth : ℕ) → scaled depth (pos 0) ≡ pos 0
unfolding scaled
scaled-zero depth = omega (arith, ints)

-- past the end there is silence
pub sample_past : (depth : ℕ) (samples : List ℤ) (place : ℕ) → length samples ≤ place → sample_before depth samples place 0 ≡ pos 0
sample_past depth samples place past =
    sample_at depth samples place ∙ ap (scaled depth) (get_or_past samples place (pos 0) past) ∙ scaled-zero depth

-- before the first place there is silence
pub history_at-zero : (depth : ℕ) (samples : List ℤ) → history_at depth samples 0 ≡ replicate 11 (pos 0)
history_at-zero depth samples = refl

-- what comes later changes nothing before it
prefix : (depth : ℕ) (samples more : List ℤ) (place count : ℕ) → place < length samples + count
    → sample_before depth (samples ++ more) place count ≡ sample_before depth samples place count
prefix depth samples more place count inside =
    elim (leb_tells count place) [
      | inl w ↦
          let at : place - count < length samples = omega (arith, w.1, inside) in
          ap (λ (b : Bool). cond b (scaled depth (get_or (samples ++ more) (place - count) (pos 0))) (pos 0)) w.0
          ∙ ap (scaled depth) (get_or_append_left samples more (pos 0) (place - count) at)
          ∙ sym (ap (λ (b : Bool). cond b (scaled depth (get_or samples (place - count) (pos 0))) (pos 0)) w.0)
      | inr w ↦
          ap (λ (b : Bool). cond b (scaled depth (get_or (samples ++ more) (place - count) (pos 0))) (pos 0)) w.0
          ∙ sym (ap (λ (b : Bool). cond b (scaled depth (get_or samples (place - count) (pos 0))) (pos 0)) w.0)
    ]

prefixes : (depth : ℕ) (samples more : List ℤ) (place : ℕ) (counts : List ℕ) → place ≤ length samples
    → map (λ (k : ℕ). sample_before depth (samples ++ more) place (k + 1)) counts ≡ map (λ (k : ℕ). sample_before depth samples place (k + 1)) counts
prefixes depth samples more place [] inside = refl
prefixes depth samples more place (k ∷ counts) inside =
    ap (λ (z : ℤ). z ∷ map (λ (k : ℕ). sample_before depth (samples ++ more) place (k + 1)) counts)
    (prefix depth samples more place (k + 1) (omega (arith, inside)))
    ∙ ap (λ (zs : List ℤ). sample_before depth samples place (k + 1) ∷ zs) (prefixes depth samples more place counts inside)

pub history_at-append : (depth : ℕ) (samples more : List ℤ) (place : ℕ) → place ≤ length samples
    → history_at depth (samples ++ more) place ≡ history_at depth samples place
history_at-append depth samples more place inside =
    prefixes depth samples more place (0 ∷ 1 ∷ 2 ∷ 3 ∷ 4 ∷ 5 ∷ 6 ∷ 7 ∷ 8 ∷ 9 ∷ 10 ∷ []) inside

peak_at-append : (depth : ℕ) (samples more : List ℤ) (place : ℕ) → place < length samples → peak_at depth (samples ++ more) place ≡ peak_at depth samples place
peak_at-append depth samples more place inside =
    peak_at_history depth (samples ++ more) place
    ∙ ap (λ (z : ℤ). size_after z (history_at depth (samples ++ more) place)) (prefix depth samples more place 0 (omega (arith, inside)))
    ∙ ap (λ (zs : List ℤ). size_after (sample_before depth samples place 0) zs) (history_at-append depth samples more place (omega (arith, inside)))
    ∙ sym (peak_at_history depth samples place)

peak_from-append : (depth : ℕ) (samples more : List ℤ) (first count : ℕ) → first + count ≤ length samples
    → peak_from depth (samples ++ more) first count ≡ peak_from depth samples first count
peak_from-append depth samples more first zero inside = refl
peak_from-append depth samples more first (suc count) inside =
    ap (λ (n : ℕ). max n (peak_at depth (samples ++ more) (first + count))) (peak_from-append depth samples more first count (omega (arith, inside)))
    ∙ ap (λ (n : ℕ). max (peak_from depth samples first count) n) (peak_at-append depth samples more (first + count) (omega (arith, inside)))

pub peak_over-append : (depth : ℕ) (samples more : List ℤ) (first place : ℕ) → first ≤ place → place ≤ length samples
    → peak_over depth (samples ++ more) first place ≡ peak_over depth samples first place
peak_over-append depth samples more first place order inside = peak_from-append depth samples more first (place - first) (omega (arith, order, inside))

-- one more place
pub peak_over-next : (depth : ℕ) (samples : List ℤ) (first place : ℕ) → first ≤ place
    → peak_over depth samples first (place + 1) ≡ max (peak_over depth samples first place) (peak_at depth samples place)
peak_over-next depth samples first place order =
    let count : (place + 1) - first ≡ suc (place - first) = omega (arith, order) in
    let last : first + (place - first) ≡ place = omega (arith, order) in
    ap (λ (n : ℕ). peak_from depth samples first n) count
    ∙ ap (λ (n : ℕ). max (peak_from depth samples first (place - first)) (peak_at depth samples n)) last

pub peak_over-none : (depth : ℕ) (samples : List ℤ) (place : ℕ) → peak_over depth samples place place ≡ 0
peak_over-none depth samples place =
    let none : place - place ≡ 0 = omega arith in ap (λ (n : ℕ). peak_from depth samples place n) none

-- the history before a place is that in the list from eleven places before it on
dropped-at : (depth : ℕ) (samples : List ℤ) (start place count : ℕ) → start ≡ place - 11 → count < 11
    → sample_before depth (drop start samples) (place - start) (count + 1) ≡ sample_before depth samples place (count + 1)
dropped-at depth samples start place count is_start reach =
    let there = scaled depth (get_or (drop start samples) ((place - start) - (count + 1)) (pos 0)) in
    let here = scaled depth (get_or samples (place - (count + 1)) (pos 0)) in
    elim (leb_tells (count + 1) place) [
      | inl w ↦
          elim (leb_tells (count + 1) (place - start)) [
            | inl v ↦
                let same : start + ((place - start) - (count + 1)) ≡ place - (count + 1) = omega (arith, is_start, reach, w.1, v.1) in
                ap (λ (b : Bool). cond b there (pos 0)) v.0
                ∙ ap (scaled depth) (get_or-drop start samples ((place - start) - (count + 1)) (pos 0) ∙ ap (λ (n : ℕ). get_or samples n (pos 0)) same)
                ∙ sym (ap (λ (b : Bool). cond b here (pos 0)) w.0)
            | inr v ↦ absurd (omega (arith, is_start, reach, w.1, v.1))
          ]
      | inr w ↦
          elim (leb_tells (count + 1) (place - start)) [
            | inl v ↦ absurd (omega (arith, is_start, reach, w.1, v.1))
            | inr v ↦ ap (λ (b : Bool). cond b there (pos 0)) v.0 ∙ sym (ap (λ (b : Bool). cond b here (pos 0)) w.0)
          ]
    ]

dropped : (depth : ℕ) (samples : List ℤ) (start place : ℕ) (counts : List ℕ) → start ≡ place - 11 → AllByRecursion (λ k. k < 11) counts
    → map (λ (k : ℕ). sample_before depth (drop start samples) (place - start) (k + 1)) counts ≡ map (λ (k : ℕ). sample_before depth samples place (k + 1)) counts
dropped depth samples start place [] is_start reach = refl
dropped depth samples start place (k ∷ counts) is_start reach =
    ap (λ (z : ℤ). z ∷ map (λ (k : ℕ). sample_before depth (drop start samples) (place - start) (k + 1)) counts) (dropped-at depth samples start place k is_start reach.0)
    ∙ ap (λ (zs : List ℤ). sample_before depth samples place (k + 1) ∷ zs) (dropped depth samples start place counts is_start reach.1)

pub history_at-drop : (depth : ℕ) (samples : List ℤ) (start place : ℕ) → start ≡ place - 11
    → history_at depth (drop start samples) (place - start) ≡ history_at depth samples place
history_at-drop depth samples start place is_start =
    dropped depth samples start place (0 ∷ 1 ∷ 2 ∷ 3 ∷ 4 ∷ 5 ∷ 6 ∷ 7 ∷ 8 ∷ 9 ∷ 10 ∷ []) is_start
    (lit< tt, (lit< tt, (lit< tt, (lit< tt, (lit< tt, (lit< tt, (lit< tt, (lit< tt, (lit< tt, (lit< tt, (lit< tt, tt)))))))))))
