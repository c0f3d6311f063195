-- The digest of samples, sample by sample.
use Rattle.std.proofs.Common.{◌≡◌, ◌≤◌, ◌<◌, ◌+◌, ◌*◌, ℕ, zero, suc, Bool, true, false, not, List, [], ◌∷◌, ◌++◌, length, take, drop, get_or, length-drop, append_assoc, append-nil, refl, ap, sym, ◌∙◌, subst, arith}
use Rattle.std.specs.Prelude.{◌||◌, ◌&&◌, nat_eq, ℤ, pos}
use Rattle.std.specs.Cmp.Lexicographic.{pointwise}
use Rattle.std.specs.List.{flat_map, list_all}
use Rattle.std.proofs.lemmas.Bool.{ne_eqb}
use Rattle.std.proofs.lemmas.Nat.{mul-le}
use Rattle.std.proofs.lemmas.List.{take_more, take_all, map_push, length-take-le, at_drop_more, at_drop_all, get_or_read}
use Rattle.std.proofs.lemmas.List.Concat.{flat_map-append}
use Rattle.md5.specs.Md5.{md5}
use Rattle.lib_base.specs.Sounds.{part}
use Rattle.file_model.specs.Pcm.{frame_at, interleaved}
use Rattle.flac_stream.specs.declared.digest.SoundDigest.{SoundDigest}
use Rattle.flac_stream.specs.Frames.{WasFed}

-- what is gathered grows
pub gathered_more : (held piece now message more : List ℕ) → held ++ piece ≡ message → now ≡ piece ++ more → held ++ now ≡ message ++ more
gathered_more held piece now message more is grown =
    ap (λ (xs : List ℕ). held ++ xs) grown ∙ sym (append_assoc held piece more) ∙ ap (λ (xs : List ℕ). xs ++ more) is

-- all that is gathered is held
pub gathered_none : (held piece now message : List ℕ) → held ++ piece ≡ message → now ≡ [] → (held ++ piece) ++ now ≡ message
gathered_none held piece now message is none = ap (λ (xs : List ℕ). (held ++ piece) ++ xs) none ∙ append-nil (held ++ piece) ∙ is

-- a message with more parts
pub parts_more : (f : ℤ → List ℕ) (message : List ℕ) (xs ys : List ℤ)
    → (message ++ flat_map f xs) ++ flat_map f ys ≡ message ++ flat_map f (xs ++ ys)
parts_more f message xs ys = append_assoc message (flat_map f xs) (flat_map f ys) ∙ ap (λ (zs : List ℕ). message ++ zs) (sym (flat_map-append f xs ys))

-- one frame of samples more
pub row_more : (f : ℤ → List ℕ) (message : List ℕ) (place : ℕ) (lists : List (List ℤ))
    → (message ++ flat_map f (interleaved place lists)) ++ flat_map f (frame_at lists place) ≡ message ++ flat_map f (interleaved (place + 1) lists)
row_more f message place lists =
    parts_more f message (interleaved place lists) (frame_at lists place)
    ∙ ap (λ (n : ℕ). message ++ flat_map f (interleaved n lists)) (let next : suc place ≡ place + 1 = omega arith in next)

-- the first channels at a place, one channel more
frame_more : (lists : List (List ℤ)) (channel place : ℕ) → channel < length lists
    → frame_at (take (channel + 1) lists) place ≡ frame_at (take channel lists) place ++ get_or (get_or lists channel []) place (pos 0) ∷ []
frame_more lists channel place below =
    ap (λ (xs : List (List ℤ)). frame_at xs place) (take_more lists channel [] below)
    ∙ map_push (λ (samples : List ℤ). get_or samples place (pos 0)) (take channel lists) (get_or lists channel [])

-- one sample more
pub sample_more : (f : ℤ → List ℕ) (message : List ℕ) (channel place : ℕ) (lists : List (List ℤ)) (sample : ℤ) → channel < length lists
    → sample ≡ get_or (get_or lists channel []) place (pos 0)
    → (message ++ flat_map f (frame_at (take channel lists) place)) ++ f sample ≡ message ++ flat_map f (frame_at (take (channel + 1) lists) place)
sample_more f message channel place lists sample below is =
    ap (λ (s : ℤ). (message ++ flat_map f (frame_at (take channel lists) place)) ++ f s) is
    ∙ ap (λ (zs : List ℕ). (message ++ flat_map f (frame_at (take channel lists) place)) ++ zs)
    (sym (append-nil (f (get_or (get_or lists channel []) place (pos 0)))))
    ∙ parts_more f message (frame_at (take channel lists) place) (get_or (get_or lists channel []) place (pos 0) ∷ [])
    ∙ ap (λ (xs : List ℤ). message ++ flat_map f xs) (sym (frame_more lists channel place below))

-- all channels
pub frame_all : (f : ℤ → List ℕ) (message : List ℕ) (count place : ℕ) (lists : List (List ℤ)) → length lists ≤ count
    → message ++ flat_map f (frame_at (take count lists) place) ≡ message ++ flat_map f (frame_at lists place)
frame_all f message count place lists all =
    ap (λ (xs : List (List ℤ)). message ++ flat_map f (frame_at xs place)) (take_all count lists all)

-- room for one of the channels
pub room_for : (channel channels block size : ℕ) → channel < channels → channels * block ≤ size → (channel + 1) * block ≤ size
room_for channel channels block size less room =
    let next : channel + 1 ≤ channels = omega (arith, less) in
    let same : block ≤ block = omega arith in
    let more = mul-le (channel + 1) block channels block next same in omega (arith, more, room)

-- no digest is asked for, or the one that was computed is as it is wanted
pub met_unasked : (asked is_zero same : Bool) → asked ≡ not is_zero → asked ≡ false → true ≡ (is_zero || same)
met_unasked asked true same is out = refl
met_unasked asked false same is out = let both = sym is ∙ out in absurd cc

pub met_asked : (asked is_zero same : Bool) → asked ≡ not is_zero → asked ≡ true → same ≡ (is_zero || same)
met_asked asked true same is in_use = let both = sym is ∙ in_use in absurd cc
met_asked asked false same is in_use = refl

-- where no digest is asked for, all samples are fed
pub unasked : (asked : Bool) (digest : SoundDigest) (message other : List ℕ) → WasFed asked digest message → digest.is_asked ≡ false → WasFed asked digest other
unasked asked digest message other fed out = record {
  asked_is = fed.asked_is;
  holds = λ in_use. let both = sym out ∙ fed.asked_is ∙ in_use in absurd cc;
}

-- ---- zeros

pub zero_more : (xs : List ℕ) (i : ℕ) → i < length xs → get_or xs i 0 ≡ 0 → list_all (nat_eq 0) (drop i xs) ≡ list_all (nat_eq 0) (drop (i + 1) xs)
zero_more xs i below is =
    at_drop_more (list_all (nat_eq 0)) xs i 0 below ∙ ap (λ (n : ℕ). nat_eq 0 n && list_all (nat_eq 0) (drop (i + 1) xs)) is

other_first : (n : ℕ) (rest : Bool) → (n ≡ 0 → ⊥) → (nat_eq 0 n && rest) ≡ false
other_first n rest other = ap (λ (b : Bool). b && rest) (ne_eqb 0 n (λ same. other (sym same)))

pub zero_not : (xs : List ℕ) (i : ℕ) → i < length xs → (get_or xs i 0 ≡ 0 → ⊥) → list_all (nat_eq 0) (drop i xs) ≡ false
zero_not xs i below other =
    at_drop_more (list_all (nat_eq 0)) xs i 0 below ∙ other_first (get_or xs i 0) (list_all (nat_eq 0) (drop (i + 1) xs)) other

pub zero_all : (xs : List ℕ) (i : ℕ) → length xs ≤ i → list_all (nat_eq 0) (drop i xs) ≡ true
zero_all xs i all = at_drop_all (list_all (nat_eq 0)) xs i all

-- ---- a sample

pub sample_there : (cells samples : List ℤ) (place : ℕ) (sample : ℤ) → place < length cells → sample ≡ get_or cells place sample → cells ≡ samples
    → sample ≡ get_or samples place (pos 0)
sample_there cells samples place sample below read same =
    get_or_read cells place sample below read (pos 0) ∙ ap (λ (xs : List ℤ). get_or xs place (pos 0)) same

-- a channel is as long as its block
pub cells_long : (index block : ℕ) (cells channel : List ℤ) → (index + 1) * block ≤ length cells → channel ≡ part cells (index * block) block → length channel ≡ block
cells_long index block cells channel room is =
    let left = length-drop (index * block) cells in
    let next : (index + 1) * block ≡ index * block + block = omega arith in
    ap length is ∙ length-take-le block (drop (index * block) cells) (omega (arith, left, next, room))
