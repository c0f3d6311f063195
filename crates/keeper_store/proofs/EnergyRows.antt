-- Energies written in 11 bytes each, and read back.
use Rattle.std.proofs.Common.{◌≡◌, ◌≤◌, ◌<◌, ◌+◌, ◌*◌, ◌/◌, ◌%◌, ◌^◌, ℕ, zero, suc, List, [], ◌∷◌, ◌++◌, length, take, drop, map, fold, length-append, refl, sym, ap, ◌∙◌, arith}
use Rattle.std.specs.Int.{w128, to_be_bytes, bytes_high_first, byte_at}
use Rattle.std.specs.Simd.{first_chunks}
use Rattle.std.proofs.Math.Arith.{mod-mul}
use Rattle.std.proofs.Math.Nat.{pow-succ', one-le-pow}
use Rattle.std.proofs.Math.ListN.{get_or}
use Rattle.std.proofs.lemmas.List.{take_at, drop_at, take_more, flat_map_more}
use Rattle.std.proofs.lemmas.List.Elements.{All-head, All-tail}
use Rattle.lib_base.specs.declared.limits.TheConstants.{GREATEST_ENERGY}
use Rattle.keeper_store.specs.EnergyBytes.{energy_bytes, row_bytes, spelled, energies_in, AreEnergies, HasTooGreat}

length-bytes_high_first : (k n : ℕ) → length (bytes_high_first k n) ≡ k
length-bytes_high_first zero n = refl
length-bytes_high_first (suc k) n = ap suc (length-bytes_high_first k n)

-- byte k above the lowest k bytes
byte_at-mod : (k n : ℕ) → byte_at k n * 256 ^ k + n % 256 ^ k ≡ n % (256 * 256 ^ k)
byte_at-mod zero n = omega arith
byte_at-mod (suc k) n = sym (mod-mul n {m = 256} {c = 256 ^ suc k} (omega arith) (one-le-pow (suc k) 256 (omega arith)))

-- a digit after a number that was spelled before it, with what follows
spelled-digit : (before digit power rest whole : ℕ) → digit * power + rest ≡ whole → (256 * before + digit) * power + rest ≡ before * (256 * power) + whole
spelled-digit before digit power rest whole is = omega (arith, is)

-- what the lowest k bytes spell after a number that was spelled before them
fold-bytes_high_first : (k n before : ℕ) → fold (λ m b. 256 * m + b) before (bytes_high_first k n) ≡ before * 256 ^ k + n % 256 ^ k
fold-bytes_high_first zero n before = omega arith
fold-bytes_high_first (suc k) n before =
    rw (pow-succ' 256 k)
    (fold-bytes_high_first k n (256 * before + byte_at k n)
    ∙ spelled-digit before (byte_at k n) (256 ^ k) (n % 256 ^ k) (n % (256 * 256 ^ k)) (byte_at-mod k n))

spelled-energy_bytes : (e : ℕ) → e ≤ GREATEST_ENERGY → spelled (energy_bytes e) ≡ e
spelled-energy_bytes e within = fold-bytes_high_first 11 e 0 ∙ omega (arith, within)

-- a row has 11 bytes for each energy
pub length-row_bytes : (es : List ℕ) → length (row_bytes es) ≡ 11 * length es
length-row_bytes [] = refl
length-row_bytes (e ∷ es) =
    let rest = length-row_bytes es in
    omega (arith, length-append (energy_bytes e) (row_bytes es), length-bytes_high_first 11 e, rest)

chunks-row_bytes : (es : List ℕ) → AreEnergies es → map spelled (first_chunks 11 (length es) (row_bytes es)) ≡ es
chunks-row_bytes [] within = refl
chunks-row_bytes (e ∷ es) within =
    let Within : ℕ → Type 0 = λ x. x ≤ GREATEST_ENERGY in
    let count = length-bytes_high_first 11 e in
    let first : spelled (take 11 (row_bytes (e ∷ es))) ≡ e =
    ap spelled (take_at (energy_bytes e) (row_bytes es) 11 count) ∙ spelled-energy_bytes e (All-head Within e es within) in
    let rest : map spelled (first_chunks 11 (length es) (drop 11 (row_bytes (e ∷ es)))) ≡ es =
    ap (λ (bytes : List ℕ). map spelled (first_chunks 11 (length es) bytes)) (drop_at (energy_bytes e) (row_bytes es) 11 count)
    ∙ chunks-row_bytes es (All-tail Within e es within) in
    ap (λ x. x ∷ map spelled (first_chunks 11 (length es) (drop 11 (row_bytes (e ∷ es))))) first ∙ ap (λ (xs : List ℕ). e ∷ xs) rest

-- the energies of a row are read back
pub energies_in-row_bytes : (es : List ℕ) → AreEnergies es → energies_in (row_bytes es) ≡ es
energies_in-row_bytes es within =
    let count : length (row_bytes es) / 11 ≡ length es = omega (arith, length-row_bytes es) in
    ap (λ n. map spelled (first_chunks 11 n (row_bytes es))) count ∙ chunks-row_bytes es within

-- a row with the bytes of one energy more: the last 11 of its 16 bytes
pub row_grows : (es : List ℕ) (i : ℕ) (old new piece whole : List ℕ) → i < length es → old ≡ row_bytes (take i es) → new ≡ old ++ piece
    → piece ≡ drop 5 whole → whole ≡ to_be_bytes w128 (get_or es i 0) → new ≡ row_bytes (take (i + 1) es)
row_grows es i old new piece whole inside so_far grown is_piece is_whole =
    let row = row_bytes (take i es) in
    grown ∙ ap (λ (front : List ℕ). front ++ piece) so_far
    ∙ ap (λ (back : List ℕ). row ++ back) (is_piece ∙ ap (drop 5) is_whole)
    ∙ flat_map_more energy_bytes [] (take i es) (get_or es i 0)
    ∙ sym (ap row_bytes (take_more es i 0 inside))

-- where each is within the bound, none is too great
pub none_too_great : (es : List ℕ) → AreEnergies es → HasTooGreat es → ⊥
none_too_great es within (k, e, inside, is, over) =
    let fits = within k e inside in
    omega (arith, is, over, fits)
