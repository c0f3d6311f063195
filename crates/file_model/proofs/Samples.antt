-- The samples that bytes hold, read back.
use Rattle.std.proofs.Common.{◌≡◌, ◌<◌, ◌≤◌, ◌^◌, ◌+◌, ◌-◌, ◌*◌, ◌/◌, ◌%◌, ◌⊎◌, inl, inr, ℕ, zero, suc, Bool, cond, List, [], ◌∷◌, ◌++◌, length, get_or, take, drop, length-append, length-take, length-drop, refl, ap, ◌∙◌, sym, subst, arith}
use Rattle.std.specs.Prelude.{ℤ, pos, negsuc, All, flat_map}
use Rattle.std.proofs.lemmas.Int.{ints}
use Rattle.std.proofs.lemmas.Bool.{cases_lt, lt-ltb, le-ltb}
use Rattle.std.proofs.lemmas.List.{take_at, drop_at, get_or-drop, take-append-drop, nil_from_length}
use Rattle.std.proofs.lemmas.List.Elements.{All-head, All-tail, All-nil, All-cons, All-append, All-map, All-get_or, All-from_get_or}
use Rattle.lib_base.specs.Sounds.{IsSample}
use Rattle.file_model.specs.Pcm.{frame_at, interleaved}
use Rattle.file_model.specs.Samples.{signed, sample_in, samples_in}
use Rattle.file_model.specs.Wave.{sample_bytes}

-- the depths of a wave
abbrev pub IsDepth : ℕ → Type 0
IsDepth depth = (depth ≡ 16) ⊎ (depth ≡ 24)

pub signed_low : (depth n : ℕ) → n < 2 ^ (depth - 1) → signed depth n ≡ pos n
signed_low depth n low = ap (λ (b : Bool). cond b (pos n) (negsuc (2 ^ depth - suc n))) (lt-ltb n (2 ^ (depth - 1)) low)

pub signed_high : (depth n : ℕ) → 2 ^ (depth - 1) ≤ n → signed depth n ≡ negsuc (2 ^ depth - suc n)
signed_high depth n high = ap (λ (b : Bool). cond b (pos n) (negsuc (2 ^ depth - suc n))) (le-ltb n (2 ^ (depth - 1)) high)

-- a negative number, from its two's complement
signed_of : (depth n k : ℕ) → suc k ≤ 2 ^ (depth - 1) → 2 ^ (depth - 1) + 2 ^ (depth - 1) ≡ 2 ^ depth → n ≡ 2 ^ depth - suc k → signed depth n ≡ negsuc k
signed_of depth n k within doubles is =
    signed_high depth n (omega (arith, within, doubles, is))
    ∙ ap negsuc (let back : 2 ^ depth - suc n ≡ k = omega (arith, within, doubles, is) in back)

two_low : (n : ℕ) → n < 2 ^ 15 → n % 256 + 256 * (n / 256 % 256 + 256 * 0) ≡ n
two_low n below = omega (arith, below)

two_high : (k : ℕ) → k < 2 ^ 15 → (4294967296 - suc k) % 256 + 256 * ((4294967296 - suc k) / 256 % 256 + 256 * 0) ≡ 65536 - suc k
two_high k below = omega (arith, below)

three_low : (n : ℕ) → n < 2 ^ 23 → n % 256 + 256 * (n / 256 % 256 + 256 * (n / 65536 % 256 + 256 * 0)) ≡ n
three_low n below = omega (arith, below)

three_high : (k : ℕ) → k < 2 ^ 23 → (4294967296 - suc k) % 256 + 256 * ((4294967296 - suc k) / 256 % 256 + 256 * ((4294967296 - suc k) / 65536 % 256 + 256 * 0)) ≡ 16777216 - suc k
three_high k below = omega (arith, below)

read_16 : (x : ℤ) → IsSample 16 x → sample_in 16 (sample_bytes 16 x) ≡ x
read_16 (pos n) within =
    let below : n < 2 ^ 15 = omega (arith, ints, within.1) in
    ap (signed 16) (two_low n below) ∙ signed_low 16 n below
read_16 (negsuc k) within =
    let below : k < 2 ^ 15 = omega (arith, ints, within.0) in
    signed_of 16 _ k (omega (arith, below)) refl (two_high k below)

read_24 : (x : ℤ) → IsSample 24 x → sample_in 24 (sample_bytes 24 x) ≡ x
read_24 (pos n) within =
    let below : n < 2 ^ 23 = omega (arith, ints, within.1) in
    ap (signed 24) (three_low n below) ∙ signed_low 24 n below
read_24 (negsuc k) within =
    let below : k < 2 ^ 23 = omega (arith, ints, within.0) in
    signed_of 24 _ k (omega (arith, below)) refl (three_high k below)

-- a sample is read back from its bytes
pub read_sample : (depth : ℕ) (x : ℤ) → IsDepth depth → IsSample depth x → sample_in depth (sample_bytes depth x) ≡ x
read_sample depth x (inl sixteen) within =
    subst (λ (d : ℕ). IsSample d x → sample_in d (sample_bytes d x) ≡ x) (sym sixteen) (read_16 x) within
read_sample depth x (inr more) within =
    subst (λ (d : ℕ). IsSample d x → sample_in d (sample_bytes d x) ≡ x) (sym more) (read_24 x) within

length-sample_bytes : (depth : ℕ) (x : ℤ) → IsDepth depth → length (sample_bytes depth x) ≡ depth / 8
length-sample_bytes depth x (inl sixteen) = subst (λ (d : ℕ). length (sample_bytes d x) ≡ d / 8) (sym sixteen) refl
length-sample_bytes depth x (inr more) = subst (λ (d : ℕ). length (sample_bytes d x) ≡ d / 8) (sym more) refl

pub length-samples_in : (depth count : ℕ) (bytes : List ℕ) → length (samples_in depth count bytes) ≡ count
length-samples_in depth zero bytes = refl
length-samples_in depth (suc count) bytes = let rest = length-samples_in depth count (drop (depth / 8) bytes) in omega (arith, rest)

-- samples are read back from their bytes
pub samples_in-bytes : (depth : ℕ) (xs : List ℤ) → IsDepth depth → All (IsSample depth) xs
    → samples_in depth (length xs) (flat_map (sample_bytes depth) xs) ≡ xs
samples_in-bytes depth [] is h = refl
samples_in-bytes depth (x ∷ xs) is h =
    let more = flat_map (sample_bytes depth) xs in
    let size = length-sample_bytes depth x is in
    ap (λ (cell : List ℕ). sample_in depth cell ∷ samples_in depth (length xs) (drop (depth / 8) (sample_bytes depth x ++ more)))
    (take_at (sample_bytes depth x) more (depth / 8) size)
    ∙ ap (λ (rest : List ℕ). sample_in depth (sample_bytes depth x) ∷ samples_in depth (length xs) rest)
    (drop_at (sample_bytes depth x) more (depth / 8) size)
    ∙ ap (λ (y : ℤ). y ∷ samples_in depth (length xs) more) (read_sample depth x is (All-head (IsSample depth) x xs h))
    ∙ ap (λ (ys : List ℤ). x ∷ ys) (samples_in-bytes depth xs is (All-tail (IsSample depth) x xs h))

pub length-bytes : (depth : ℕ) (xs : List ℤ) → IsDepth depth → length (flat_map (sample_bytes depth) xs) ≡ depth / 8 * length xs
length-bytes depth [] is = omega arith
length-bytes depth (x ∷ xs) is =
    let first = length-sample_bytes depth x is in
    let rest = length-bytes depth xs is in
    let both = length-append (sample_bytes depth x) (flat_map (sample_bytes depth) xs) in omega (arith, first, rest, both)

-- each element is a byte
abbrev pub AreBytes : List ℕ → Type 0
AreBytes bytes = (i : ℕ) → get_or bytes i 0 < 256

two_cells : (a b c d : ℕ) → a ≡ c → b ≡ d → a ∷ b ∷ [] ≡ c ∷ d ∷ []
two_cells a b c d h k = cc

three_cells : (a b c d e f : ℕ) → a ≡ d → b ≡ e → c ≡ f → a ∷ b ∷ c ∷ [] ≡ d ∷ e ∷ f ∷ []
three_cells a b c d e f h k l = cc

-- what reading some bytes gives: a sample of the depth, whose bytes they are
pub record GivesSample (depth : ℕ) (cell : List ℕ) (x : ℤ) : Type 0 where
  pub written : sample_bytes depth x ≡ cell
  pub is_sample : IsSample depth x

low_16 : (a b n : ℕ) → a < 256 → b < 256 → n ≡ a + 256 * (b + 256 * 0) → n < 2 ^ 15 → GivesSample 16 (a ∷ b ∷ []) (pos n)
low_16 a b n first second is low = record {
  written = two_cells _ _ _ _ (omega (arith, first, second, is)) (omega (arith, first, second, is));
  is_sample = (omega (arith, ints, low), omega (arith, ints, low));
}

high_16 : (a b n : ℕ) → a < 256 → b < 256 → n ≡ a + 256 * (b + 256 * 0) → 2 ^ 15 ≤ n → GivesSample 16 (a ∷ b ∷ []) (negsuc (65536 - suc n))
high_16 a b n first second is high =
    let complement : 4294967296 - suc (65536 - suc n) ≡ 4294901760 + n = omega (arith, first, second, is) in
    record {
      written = two_cells _ _ _ _ (omega (arith, first, second, is, complement)) (omega (arith, first, second, is, complement));
      is_sample = (omega (arith, ints, high, first, second, is), omega (arith, ints, high));
    }

low_24 : (a b c n : ℕ) → a < 256 → b < 256 → c < 256 → n ≡ a + 256 * (b + 256 * (c + 256 * 0)) → n < 2 ^ 23 → GivesSample 24 (a ∷ b ∷ c ∷ []) (pos n)
low_24 a b c n first second third is low = record {
  written = three_cells _ _ _ _ _ _ (omega (arith, first, second, third, is)) (omega (arith, first, second, third, is)) (omega (arith, first, second, third, is));
  is_sample = (omega (arith, ints, low), omega (arith, ints, low));
}

high_24 : (a b c n : ℕ) → a < 256 → b < 256 → c < 256 → n ≡ a + 256 * (b + 256 * (c + 256 * 0)) → 2 ^ 23 ≤ n → GivesSample 24 (a ∷ b ∷ c ∷ []) (negsuc (16777216 - suc n))
high_24 a b c n first second third is high =
    let complement : 4294967296 - suc (16777216 - suc n) ≡ 4278190080 + n = omega (arith, first, second, third, is) in
    record {
      written = three_cells _ _ _ _ _ _ (omega (arith, first, second, third, is, complement)) (omega (arith, first, second, third, is, complement)) (omega (arith, first, second, third, is, complement));
      is_sample = (omega (arith, ints, high, first, second, third, is), omega (arith, ints, high));
    }

gives_16 : (cell : List ℕ) → length cell ≡ 2 → AreBytes cell → GivesSample 16 cell (sample_in 16 cell)
gives_16 (a ∷ b ∷ []) two are =
    let n : ℕ = a + 256 * (b + 256 * 0) in
    elim (cases_lt n (2 ^ 15)) [
      | inl low ↦ subst (GivesSample 16 (a ∷ b ∷ [])) (sym (signed_low 16 n low)) (low_16 a b n (are 0) (are 1) refl low)
      | inr high ↦ subst (GivesSample 16 (a ∷ b ∷ [])) (sym (signed_high 16 n high)) (high_16 a b n (are 0) (are 1) refl high)
    ]
gives_16 [] two are = absurd (omega (arith, two))
gives_16 (a ∷ []) two are = absurd (omega (arith, two))
gives_16 (a ∷ b ∷ c ∷ more) two are = absurd (omega (arith, two))

gives_24 : (cell : List ℕ) → length cell ≡ 3 → AreBytes cell → GivesSample 24 cell (sample_in 24 cell)
gives_24 (a ∷ b ∷ c ∷ []) three are =
    let n : ℕ = a + 256 * (b + 256 * (c + 256 * 0)) in
    elim (cases_lt n (2 ^ 23)) [
      | inl low ↦ subst (GivesSample 24 (a ∷ b ∷ c ∷ [])) (sym (signed_low 24 n low)) (low_24 a b c n (are 0) (are 1) (are 2) refl low)
      | inr high ↦ subst (GivesSample 24 (a ∷ b ∷ c ∷ [])) (sym (signed_high 24 n high)) (high_24 a b c n (are 0) (are 1) (are 2) refl high)
    ]
gives_24 [] three are = absurd (omega (arith, three))
gives_24 (a ∷ []) three are = absurd (omega (arith, three))
gives_24 (a ∷ b ∷ []) three are = absurd (omega (arith, three))
gives_24 (a ∷ b ∷ c ∷ d ∷ more) three are = absurd (omega (arith, three))

pub gives_sample : (depth : ℕ) (cell : List ℕ) → IsDepth depth → length cell ≡ depth / 8 → AreBytes cell → GivesSample depth cell (sample_in depth cell)
gives_sample depth cell (inl sixteen) size are =
    subst (λ (d : ℕ). length cell ≡ d / 8 → GivesSample d cell (sample_in d cell)) (sym sixteen) (λ two. gives_16 cell two are) size
gives_sample depth cell (inr more) size are =
    subst (λ (d : ℕ). length cell ≡ d / 8 → GivesSample d cell (sample_in d cell)) (sym more) (λ three. gives_24 cell three are) size

pub AreBytes-drop : (n : ℕ) (bytes : List ℕ) → AreBytes bytes → AreBytes (drop n bytes)
AreBytes-drop n bytes are i = rw (get_or-drop n bytes i 0) (are (n + i))

pub AreBytes-take : (n : ℕ) (bytes : List ℕ) → AreBytes bytes → AreBytes (take n bytes)
AreBytes-take zero bytes are i = omega arith
AreBytes-take (suc n) [] are i = omega arith
AreBytes-take (suc n) (b ∷ bytes) are zero = are 0
AreBytes-take (suc n) (b ∷ bytes) are (suc i) = AreBytes-take n bytes (λ j. are (suc j)) i

first_cell : (size count : ℕ) (bytes : List ℕ) → length bytes ≡ size * suc count → length (take size bytes) ≡ size
first_cell size count bytes whole = length-take size bytes ∙ omega (arith, whole)

other_cells : (size count : ℕ) (bytes : List ℕ) → length bytes ≡ size * suc count → length (drop size bytes) ≡ size * count
other_cells size count bytes whole = length-drop size bytes ∙ omega (arith, whole)

-- bytes are those of the samples in them
pub bytes-samples_in : (depth count : ℕ) (bytes : List ℕ) → IsDepth depth → length bytes ≡ depth / 8 * count → AreBytes bytes
    → flat_map (sample_bytes depth) (samples_in depth count bytes) ≡ bytes
bytes-samples_in depth zero bytes is whole are = sym (nil_from_length bytes (omega (arith, whole)))
bytes-samples_in depth (suc count) bytes is whole are =
    let size : ℕ = depth / 8 in
    let first = gives_sample depth (take size bytes) is (first_cell size count bytes whole) (AreBytes-take size bytes are) in
    let rest = bytes-samples_in depth count (drop size bytes) is (other_cells size count bytes whole) (AreBytes-drop size bytes are) in
    ap (λ (front : List ℕ). front ++ flat_map (sample_bytes depth) (samples_in depth count (drop size bytes))) first.written
    ∙ ap (λ (back : List ℕ). take size bytes ++ back) rest ∙ take-append-drop size bytes

pub All-samples_in : (depth count : ℕ) (bytes : List ℕ) → IsDepth depth → length bytes ≡ depth / 8 * count → AreBytes bytes
    → All (IsSample depth) (samples_in depth count bytes)
All-samples_in depth zero bytes is whole are = All-nil (IsSample depth)
All-samples_in depth (suc count) bytes is whole are =
    let size : ℕ = depth / 8 in
    let first = gives_sample depth (take size bytes) is (first_cell size count bytes whole) (AreBytes-take size bytes are) in
    All-cons (IsSample depth) _ _ first.is_sample
    (All-samples_in depth count (drop size bytes) is (other_cells size count bytes whole) (AreBytes-drop size bytes are))

-- samples with the same bytes are the same
pub same_samples : (depth : ℕ) (xs ys : List ℤ) → IsDepth depth → All (IsSample depth) xs → All (IsSample depth) ys
    → flat_map (sample_bytes depth) xs ≡ flat_map (sample_bytes depth) ys → length xs ≡ length ys → xs ≡ ys
same_samples depth xs ys is of_xs of_ys same count =
    sym (samples_in-bytes depth xs is of_xs)
    ∙ ap (λ (bytes : List ℕ). samples_in depth (length xs) bytes) same
    ∙ ap (λ (n : ℕ). samples_in depth n (flat_map (sample_bytes depth) ys)) count
    ∙ samples_in-bytes depth ys is of_ys

-- what holds of the samples of each channel holds of them frame by frame
pub All-interleaved : (P : ℤ → Type 0) (m n : ℕ) (lists : List (List ℤ)) → m ≤ n → All (λ xs. length xs ≡ n) lists
    → All (λ xs. All P xs) lists → All P (interleaved m lists)
All-interleaved P zero n lists within equal all = All-nil P
All-interleaved P (suc m) n lists within equal all =
    let frame : All P (frame_at lists m) =
    All-map P (λ (xs : List ℤ). get_or xs m (pos 0)) lists
    (All-from_get_or (λ (xs : List ℤ). P (get_or xs m (pos 0))) lists []
    (λ i below.
    let whole : length (get_or lists i []) ≡ n = All-get_or (λ (xs : List ℤ). length xs ≡ n) lists i [] below equal in
    All-get_or P (get_or lists i []) m (pos 0) (omega (arith, whole, within)) (All-get_or (λ (xs : List ℤ). All P xs) lists i [] below all)))
    in
    All-append P (interleaved m lists) (frame_at lists m) (All-interleaved P m n lists (omega (arith, within)) equal all) frame
