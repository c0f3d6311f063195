-- Channels out of samples that stand frame by frame, and back.
use Rattle.std.proofs.Common.{◌≡◌, ◌<◌, ◌≤◌, ◌+◌, ◌-◌, ◌*◌, ℕ, zero, suc, List, [], ◌∷◌, ◌++◌, take, drop, length, get_or, length-append, length-drop, take-add, add-one, inl, inr, refl, ap, ◌∙◌, sym, arith}
use Rattle.std.specs.Prelude.{ℤ, pos, All}
use Rattle.std.proofs.lemmas.Bool.{cases_lt}
use Rattle.std.proofs.lemmas.Nat.{mul-add-lt}
use Rattle.std.proofs.lemmas.List.{length-map, length_push, get_or_append_left, get_or_push, get_or-append_right, get_or-map, get_or-drop, take_more, take_all, map_push}
use Rattle.std.proofs.lemmas.List.Elements.{All-nil, All-push, All-get_or}
use Rattle.file_model.specs.Channels.{channel_samples, first_channels}
use Rattle.file_model.specs.Pcm.{frame_at, interleaved}

pub length-channel_samples : (k c n : ℕ) (ys : List ℤ) → length (channel_samples k c n ys) ≡ n
length-channel_samples k c zero ys = refl
length-channel_samples k c (suc n) ys =
    let rest = length-channel_samples k c n ys in
    let more = length_push (channel_samples k c n ys) (get_or ys (k * n + c) (pos 0)) in omega (arith, rest, more)

pub length-first_channels : (count k n : ℕ) (ys : List ℤ) → length (first_channels count k n ys) ≡ count
length-first_channels zero k n ys = refl
length-first_channels (suc c) k n ys =
    let rest = length-first_channels c k n ys in
    let more = length_push (first_channels c k n ys) (channel_samples k c n ys) in omega (arith, rest, more)

pub length-interleaved : (n : ℕ) (lists : List (List ℤ)) → length (interleaved n lists) ≡ length lists * n
length-interleaved zero lists = omega arith
length-interleaved (suc n) lists =
    let rest = length-interleaved n lists in
    let both = length-append (interleaved n lists) (frame_at lists n) in
    let last = length-map lists (λ (samples : List ℤ). get_or samples n (pos 0)) in omega (arith, rest, both, last)

frame_at-get_or : (lists : List (List ℤ)) (t c : ℕ) → c < length lists → get_or (frame_at lists t) c (pos 0) ≡ get_or (get_or lists c []) t (pos 0)
frame_at-get_or lists t c below = get_or-map (λ (samples : List ℤ). get_or samples t (pos 0)) lists c [] (pos 0) below

pub place_before : (k n t c whole : ℕ) → whole ≡ k * n → t < n → c < k → k * t + c < whole
place_before k n t c whole is before below = let inside = mul-add-lt t k c n before below in omega (arith, inside, is)

last_place : (k n t : ℕ) → t < n + 1 → n ≤ t → k * t ≡ k * n
last_place k n t before from = ap (λ (m : ℕ). k * m) (let same : t ≡ n = omega arith in same)

-- the sample of channel c in frame t
pub interleaved-get_or : (n t c : ℕ) (lists : List (List ℤ)) → t < n → c < length lists
    → get_or (interleaved n lists) (length lists * t + c) (pos 0) ≡ get_or (get_or lists c []) t (pos 0)
interleaved-get_or zero t c lists before below = absurd (omega (arith, before))
interleaved-get_or (suc n) t c lists before below =
    elim (cases_lt t n) [
      | inl earlier ↦
          get_or_append_left (interleaved n lists) (frame_at lists n) (pos 0) (length lists * t + c)
          (place_before (length lists) n t c _ (length-interleaved n lists) earlier below)
          ∙ interleaved-get_or n t c lists earlier below
      | inr from ↦
          let whole = length-interleaved n lists in
          let same = last_place (length lists) n t (omega (arith, before)) from in
          let last : t ≡ n = omega (arith, before, from) in
          let place : length lists * t + c - length lists * n ≡ c = omega (arith, same) in
          get_or-append_right (interleaved n lists) (frame_at lists n) (length lists * n) (length lists * t + c) (pos 0) whole (omega (arith, same))
          ∙ ap (λ (m : ℕ). get_or (frame_at lists n) m (pos 0)) place
          ∙ frame_at-get_or lists n c below ∙ ap (λ (m : ℕ). get_or (get_or lists c []) m (pos 0)) (sym last)
    ]

-- a channel of interleaved samples, as far as a place
channel_samples-interleaved : (m n c : ℕ) (lists : List (List ℤ)) → m ≤ n → c < length lists → length (get_or lists c []) ≡ n
    → channel_samples (length lists) c m (interleaved n lists) ≡ take m (get_or lists c [])
channel_samples-interleaved zero n c lists within below whole = refl
channel_samples-interleaved (suc m) n c lists within below whole =
    ap (λ (front : List ℤ). front ++ get_or (interleaved n lists) (length lists * m + c) (pos 0) ∷ [])
    (channel_samples-interleaved m n c lists (omega (arith, within)) below whole)
    ∙ ap (λ (x : ℤ). take m (get_or lists c []) ++ x ∷ []) (interleaved-get_or n m c lists (omega (arith, within)) below)
    ∙ sym (rw add-one at (take_more (get_or lists c []) m (pos 0) (omega (arith, within, whole))))

first_channels-interleaved : (count n : ℕ) (lists : List (List ℤ)) → count ≤ length lists → All (λ xs. length xs ≡ n) lists
    → first_channels count (length lists) n (interleaved n lists) ≡ take count lists
first_channels-interleaved zero n lists within equal = refl
first_channels-interleaved (suc c) n lists within equal =
    let below : c < length lists = omega (arith, within) in
    let whole : length (get_or lists c []) ≡ n = All-get_or (λ (xs : List ℤ). length xs ≡ n) lists c [] below equal in
    ap (λ (front : List (List ℤ)). front ++ channel_samples (length lists) c n (interleaved n lists) ∷ [])
    (first_channels-interleaved c n lists (omega (arith, within)) equal)
    ∙ ap (λ (xs : List ℤ). take c lists ++ xs ∷ [])
    (channel_samples-interleaved n n c lists (omega arith) below whole ∙ take_all n (get_or lists c []) (omega (arith, whole)))
    ∙ sym (rw add-one at (take_more lists c [] below))

-- the channels of interleaved samples are those that were interleaved
pub channels-interleaved : (n : ℕ) (lists : List (List ℤ)) → All (λ xs. length xs ≡ n) lists
    → first_channels (length lists) (length lists) n (interleaved n lists) ≡ lists
channels-interleaved n lists equal =
    first_channels-interleaved (length lists) n lists (omega arith) equal ∙ take_all (length lists) lists (omega arith)

-- a sample of a channel, by its place
pub channel_samples-get_or : (k c n t : ℕ) (ys : List ℤ) → t < n → get_or (channel_samples k c n ys) t (pos 0) ≡ get_or ys (k * t + c) (pos 0)
channel_samples-get_or k c zero t ys before = absurd (omega (arith, before))
channel_samples-get_or k c (suc n) t ys before =
    let whole = length-channel_samples k c n ys in
    elim (cases_lt t n) [
      | inl earlier ↦
          get_or_append_left (channel_samples k c n ys) (get_or ys (k * n + c) (pos 0) ∷ []) (pos 0) t (omega (arith, whole, earlier))
          ∙ channel_samples-get_or k c n t ys earlier
      | inr from ↦
          let last : t ≡ n = omega (arith, before, from) in
          get_or_push (channel_samples k c n ys) (get_or ys (k * n + c) (pos 0)) (pos 0) t (omega (arith, whole, last))
          ∙ ap (λ (m : ℕ). get_or ys (k * m + c) (pos 0)) (sym last)
    ]

-- a frame of the first channels is a part of the samples
frame_at-first_channels : (count k n t : ℕ) (ys : List ℤ) → count ≤ k → t < n → length ys ≡ k * n
    → frame_at (first_channels count k n ys) t ≡ take count (drop (k * t) ys)
frame_at-first_channels zero k n t ys within before whole = refl
frame_at-first_channels (suc c) k n t ys within before whole =
    let left = length-drop (k * t) ys in
    let inside = place_before k n t c (length ys) whole before (omega (arith, within)) in
    map_push (λ (samples : List ℤ). get_or samples t (pos 0)) (first_channels c k n ys) (channel_samples k c n ys)
    ∙ ap (λ (front : List ℤ). front ++ get_or (channel_samples k c n ys) t (pos 0) ∷ [])
    (frame_at-first_channels c k n t ys (omega (arith, within)) before whole)
    ∙ ap (λ (x : ℤ). take c (drop (k * t) ys) ++ x ∷ [])
    (channel_samples-get_or k c n t ys before ∙ sym (get_or-drop (k * t) ys c (pos 0)))
    ∙ sym (rw add-one at (take_more (drop (k * t) ys) c (pos 0) (omega (arith, left, inside))))

interleaved-first_channels : (m k n : ℕ) (ys : List ℤ) → m ≤ n → length ys ≡ k * n
    → interleaved m (first_channels k k n ys) ≡ take (k * m) ys
interleaved-first_channels zero k n ys within whole = ap (λ (count : ℕ). take count ys) (let none : 0 ≡ k * 0 = omega arith in none)
interleaved-first_channels (suc m) k n ys within whole =
    ap (λ (front : List ℤ). front ++ frame_at (first_channels k k n ys) m) (interleaved-first_channels m k n ys (omega (arith, within)) whole)
    ∙ ap (λ (frame : List ℤ). take (k * m) ys ++ frame) (frame_at-first_channels k k n m ys (omega arith) (omega (arith, within)) whole)
    ∙ sym (take-add (k * m) k ys) ∙ ap (λ (count : ℕ). take count ys) (let next : k * m + k ≡ k * suc m = omega arith in next)

-- samples are what their channels give, interleaved
pub interleaved-channels : (k n : ℕ) (ys : List ℤ) → length ys ≡ k * n → interleaved n (first_channels k k n ys) ≡ ys
interleaved-channels k n ys whole =
    interleaved-first_channels n k n ys (omega arith) whole ∙ take_all (k * n) ys (omega (arith, whole))

-- each channel has as many samples as there are frames
pub equal-first_channels : (count k n : ℕ) (ys : List ℤ) → All (λ xs. length xs ≡ n) (first_channels count k n ys)
equal-first_channels zero k n ys = All-nil (λ (xs : List ℤ). length xs ≡ n)
equal-first_channels (suc c) k n ys =
    All-push (λ (xs : List ℤ). length xs ≡ n) (first_channels c k n ys) (channel_samples k c n ys)
    (equal-first_channels c k n ys) (length-channel_samples k c n ys)

-- a channel among the first ones
pub first_channels-get_or : (count k n c : ℕ) (ys : List ℤ) → c < count → get_or (first_channels count k n ys) c [] ≡ channel_samples k c n ys
first_channels-get_or zero k n c ys below = absurd (omega (arith, below))
first_channels-get_or (suc count) k n c ys below =
    let whole = length-first_channels count k n ys in
    elim (cases_lt c count) [
      | inl earlier ↦
          get_or_append_left (first_channels count k n ys) (channel_samples k count n ys ∷ []) [] c (omega (arith, whole, earlier))
          ∙ first_channels-get_or count k n c ys earlier
      | inr from ↦
          let last : c ≡ count = omega (arith, below, from) in
          get_or_push (first_channels count k n ys) (channel_samples k count n ys) [] c (omega (arith, whole, last))
          ∙ ap (λ (m : ℕ). channel_samples k m n ys) (sym last)
    ]

-- what holds of all samples holds of those of a channel
pub All-channel_samples : (P : ℤ → Type 0) (k c m n : ℕ) (ys : List ℤ) → m ≤ n → c < k → length ys ≡ k * n → All P ys
    → All P (channel_samples k c m ys)
All-channel_samples P k c zero n ys within below whole all = All-nil P
All-channel_samples P k c (suc m) n ys within below whole all =
    All-push P (channel_samples k c m ys) (get_or ys (k * m + c) (pos 0))
    (All-channel_samples P k c m n ys (omega (arith, within)) below whole all)
    (All-get_or P ys (k * m + c) (pos 0) (place_before k n m c (length ys) whole (omega (arith, within)) below) all)

pub All-first_channels : (P : ℤ → Type 0) (count k n : ℕ) (ys : List ℤ) → count ≤ k → length ys ≡ k * n → All P ys
    → All (λ xs. All P xs) (first_channels count k n ys)
All-first_channels P zero k n ys within whole all = All-nil (λ (xs : List ℤ). All P xs)
All-first_channels P (suc c) k n ys within whole all =
    All-push (λ (xs : List ℤ). All P xs) (first_channels c k n ys) (channel_samples k c n ys)
    (All-first_channels P c k n ys (omega (arith, within)) whole all)
    (All-channel_samples P k c n n ys (omega arith) (omega (arith, within)) whole all)
