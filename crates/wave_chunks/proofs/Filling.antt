-- Samples of a channel, taken out of a wave's bytes one after another.
use Rattle.std.proofs.Common.{◌≡◌, ◌<◌, ◌≤◌, ◌+◌, ◌*◌, ℕ, suc, List, [], ◌∷◌, ◌++◌, length, get_or, set, take, drop, map, ap, ◌∙◌, sym, arith, length-take, length-drop}
use Rattle.std.specs.Prelude.{ℤ, pos}
use Rattle.std.proofs.lemmas.List.{get_or-map, get_or-take, get_or-drop, ext_get_or, take_more_set}
use Rattle.lib_base.specs.Sounds.{part}
use Rattle.file_model.specs.Channels.{channel_samples, first_channels}
use Rattle.file_model.specs.Samples.{sample_in}
use Rattle.file_model.proofs.Interleaving.{channel_samples-get_or, length-channel_samples, first_channels-get_or, place_before}

-- one sample more
pub filled_more : (depth step first i : ℕ) (cells : List (List ℕ)) (out : List ℤ) (cell : List ℕ) (sample : ℤ) → i < length out
    → step * i + first < length cells → cell ≡ get_or cells (step * i + first) [] → sample ≡ sample_in depth cell
    → take i out ≡ channel_samples step first i (map (sample_in depth) cells)
    → take (i + 1) (set out i sample) ≡ channel_samples step first (i + 1) (map (sample_in depth) cells)
filled_more depth step first i cells out cell sample inside within cell_is is so_far =
    let ys = map (sample_in depth) cells in
    take_more_set out i sample inside ∙ ap (λ (front : List ℤ). front ++ sample ∷ []) so_far
    ∙ ap (λ (x : ℤ). channel_samples step first i ys ++ x ∷ [])
    (is ∙ ap (sample_in depth) cell_is ∙ sym (get_or-map (sample_in depth) cells (step * i + first) [] (pos 0) within))
    ∙ ap (λ (n : ℕ). channel_samples step first n ys) (let next : suc i ≡ i + 1 = omega arith in next)

part-samples : (k c n start count : ℕ) (ys : List ℤ) → start + count ≤ n
    → part (channel_samples k c n ys) start count ≡ channel_samples k (k * start + c) count ys
part-samples k c n start count ys inside =
    let xs = channel_samples k c n ys in
    let whole = length-channel_samples k c n ys in
    let long = length-channel_samples k (k * start + c) count ys in
    let rest = length-drop start xs in
    let taken = length-take count (drop start xs) in
    ext_get_or (pos 0) (part xs start count) (channel_samples k (k * start + c) count ys) (omega (arith, whole, long, rest, taken, inside))
    (λ j below.
    let before : j < count = omega (arith, below, whole, rest, taken, inside) in
    let within : start + j < n = omega (arith, before, inside) in
    let place : k * (start + j) + c ≡ k * j + (k * start + c) = omega arith in
    get_or-take count (drop start xs) j (pos 0) before ∙ get_or-drop start xs j (pos 0)
    ∙ channel_samples-get_or k c n (start + j) ys within ∙ ap (λ (m : ℕ). get_or ys m (pos 0)) place
    ∙ sym (channel_samples-get_or k (k * start + c) count j ys before))

-- a part of a channel is made of the samples from its first one on
pub part-channel : (k c n start count : ℕ) (ys : List ℤ) → c < k → start + count ≤ n
    → part (get_or (first_channels k k n ys) c []) start count ≡ channel_samples k (k * start + c) count ys
part-channel k c n start count ys channel inside =
    ap (λ (xs : List ℤ). part xs start count) (first_channels-get_or k k n c ys channel) ∙ part-samples k c n start count ys inside

-- a sample of that part stands among all
pub place_inside : (k n start count c i whole : ℕ) → whole ≡ k * n → start + count ≤ n → c < k → i < count → k * i + (k * start + c) < whole
place_inside k n start count c i whole is inside channel below =
    let before : start + i < n = omega (arith, inside, below) in
    let at = place_before k n (start + i) c whole is before channel in
    let place : k * (start + i) + c ≡ k * i + (k * start + c) = omega arith in
    omega (arith, at, place)
