-- Channels, one after another in the cells.
use Rattle.std.proofs.Common.{◌≡◌, ◌≤◌, ◌<◌, ◌+◌, ◌-◌, ◌*◌, inl, inr, ℕ, zero, suc, List, [], ◌∷◌, ◌++◌, Bool, length, take, drop, Option, Result, Ok, Err, refl, ap, sym, ◌∙◌, subst, arith}
use Rattle.std.specs.Prelude.{ℤ, replicate, None, Some}
use Rattle.std.specs.Simd.{first_chunks}
use Rattle.std.proofs.lemmas.List.{drop-drop, take_at, drop_at}
use Rattle.lib_base.specs.Sounds.{part, samples_of}
use Rattle.file_model.specs.declared.flac_rules.FlacRule.{FlacRule}
use Rattle.file_model.specs.declared.flac_rules.FlacRule.TheVariants.{OutOfRange}
use Rattle.file_model.specs.declared.pairs.Stereo.{Stereo}
use Rattle.file_model.specs.FlacFrame.{Channels, IsPairOf}
use Rattle.file_model.specs.Pairs.{first_depth, second_depth, SpellsPair}
use Rattle.file_model.specs.Subframe.{Channel}
use Rattle.flac_frames.specs.Answers.{Comes}
use Rattle.flac_frames.specs.Frames.{Sound}

-- the start of a channel
pub start_fits : (channel block whole : ℕ) → (channel + 1) * block ≤ whole → (channel * block ≤ whole) × (channel * block + block ≤ whole)
start_fits channel block whole fits =
    let next : (channel + 1) * block ≡ channel * block + block = omega arith in (omega (arith, next, fits), omega (arith, next, fits))

-- a channel by its place
pub channel_at : (block channels channel : ℕ) (cells : List ℤ) → channel < channels
    → samples_of (first_chunks block channels cells) channel ≡ part cells (channel * block) block
channel_at block zero channel cells less = absurd (omega (arith, less))
channel_at block (suc channels) zero cells less = ap (λ (n : ℕ). part cells n block) (let none : 0 ≡ 0 * block = omega arith in none)
channel_at block (suc channels) (suc channel) cells less =
    channel_at block channels channel (drop block cells) (omega (arith, less))
    ∙ ap (take block) (drop-drop (channel * block) block cells
    ∙ ap (λ (n : ℕ). drop n cells) (let same : block + channel * block ≡ suc channel * block = omega arith in same))

-- ---- one channel after another

still : (channels depth : ℕ) → 1 ≤ channels → replicate channels depth ≡ depth ∷ replicate (channels - 1) depth
still channels depth some = ap (λ (n : ℕ). replicate n depth) (let more : channels ≡ suc (channels - 1) = omega (arith, some) in more)

chunked : (block channels : ℕ) (cells : List ℤ) → 1 ≤ channels → first_chunks block channels cells ≡ take block cells ∷ first_chunks block (channels - 1) (drop block cells)
chunked block channels cells some = ap (λ (n : ℕ). first_chunks block n cells) (let more : channels ≡ suc (channels - 1) = omega (arith, some) in more)

-- none is to be read
pub no_channel : (block channels depth : ℕ) (bits : List Bool) (cells : List ℤ) → channels ≡ 0
    → Channels block (replicate channels depth) bits (Ok (first_chunks block channels cells, bits))
no_channel block channels depth bits cells none =
    subst (λ (n : ℕ). Channels block (replicate n depth) bits (Ok (first_chunks block n cells, bits))) (sym none) refl

-- the first one, and the others
pub one_then : (block size channels depth : ℕ) (bits next rest : List Bool) (xs others : List ℤ) → 1 ≤ channels → size ≡ block → length xs ≡ block
    → Channel size depth bits (Ok (xs, next)) → Channels block (replicate (channels - 1) depth) next (Ok (first_chunks block (channels - 1) others, rest))
    → Channels block (replicate channels depth) bits (Ok (first_chunks block channels (xs ++ others), rest))
one_then block size channels depth bits next rest xs others some same long one more =
    let lists : first_chunks block channels (xs ++ others) ≡ xs ∷ first_chunks block (channels - 1) others =
    chunked block channels (xs ++ others) some
    ∙ ap (λ (ys : List ℤ). ys ∷ first_chunks block (channels - 1) (drop block (xs ++ others))) (take_at xs others block long)
    ∙ ap (λ (ys : List ℤ). xs ∷ first_chunks block (channels - 1) ys) (drop_at xs others block long) in
    let here : Channel block depth bits (Ok (xs, next)) = subst (λ (n : ℕ). Channel n depth bits (Ok (xs, next))) same one in
    let all : Channels block (depth ∷ replicate (channels - 1) depth) bits (Ok (xs ∷ first_chunks block (channels - 1) others, rest)) =
    inl ((xs, next), here, inl ((first_chunks block (channels - 1) others, rest), more, refl)) in
    subst (λ (depths : List ℕ). Channels block depths bits (Ok (first_chunks block channels (xs ++ others), rest))) (sym (still channels depth some))
    (subst (λ (lists : List (List ℤ)). Channels block (depth ∷ replicate (channels - 1) depth) bits (Ok (lists, rest))) (sym lists) all)

-- the first one breaks a rule
pub one_refused : (block size channels depth : ℕ) (bits : List Bool) (rule : FlacRule) → 1 ≤ channels → size ≡ block → Channel size depth bits (Err rule)
    → Channels block (replicate channels depth) bits (Err rule)
one_refused block size channels depth bits rule some same one =
    subst (λ (depths : List ℕ). Channels block depths bits (Err rule)) (sym (still channels depth some))
    (inr (rule, subst (λ (n : ℕ). Channel n depth bits (Err rule)) same one, refl))

-- one of the others does
pub others_refused : (block size channels depth : ℕ) (bits next : List Bool) (xs : List ℤ) (rule : FlacRule) → 1 ≤ channels → size ≡ block
    → Channel size depth bits (Ok (xs, next)) → Channels block (replicate (channels - 1) depth) next (Err rule)
    → Channels block (replicate channels depth) bits (Err rule)
others_refused block size channels depth bits next xs rule some same one more =
    subst (λ (depths : List ℕ). Channels block depths bits (Err rule)) (sym (still channels depth some))
    (inl ((xs, next), subst (λ (n : ℕ). Channel n depth bits (Ok (xs, next))) same one, inr (rule, more, refl)))

-- the channels as they stand are those of the sound
pub as_they_stand : (block channels depth : ℕ) (bits : List Bool) (out : Result (List (List ℤ) × List Bool) FlacRule)
    → Channels block (replicate channels depth) bits out → Sound block channels depth None bits out
as_they_stand block channels depth bits (Ok lists) comes = inl (lists, comes, inl (lists.0, refl, refl))
as_they_stand block channels depth bits (Err rule) comes = inr (rule, comes, refl)

-- ---- pairs

-- the first channel breaks a rule
pub first_refused : (block channels depth : ℕ) (kind : Stereo) (bits : List Bool) (rule : FlacRule) → Channel block (first_depth kind depth) bits (Err rule)
    → Sound block channels depth (Some kind) bits (Err rule)
first_refused block channels depth kind bits rule one = inr (rule, inr (rule, one, refl), refl)

-- the second does
pub second_refused : (block channels depth : ℕ) (kind : Stereo) (bits next : List Bool) (xs : List ℤ) (rule : FlacRule)
    → Channel block (first_depth kind depth) bits (Ok (xs, next)) → Channel block (second_depth kind depth) next (Err rule)
    → Sound block channels depth (Some kind) bits (Err rule)
second_refused block channels depth kind bits next xs rule one two = inr (rule, inl ((xs, next), one, inr (rule, inr (rule, two, refl), refl)), refl)

both : (block depth more : ℕ) (bits next rest : List Bool) (xs ys : List ℤ) → Channel block depth bits (Ok (xs, next)) → Channel block more next (Ok (ys, rest))
    → Channels block (depth ∷ more ∷ []) bits (Ok (xs ∷ ys ∷ [], rest))
both block depth more bits next rest xs ys one two = inl ((xs, next), one, inl ((ys ∷ [], rest), inl ((ys, rest), two, inl (([], rest), refl, refl)), refl))

-- they spell left and right
pub pair_spelled : (block channels depth : ℕ) (kind : Stereo) (bits next rest : List Bool) (xs ys left right : List ℤ)
    → Channel block (first_depth kind depth) bits (Ok (xs, next)) → Channel block (second_depth kind depth) next (Ok (ys, rest))
    → SpellsPair kind depth left right xs ys → Sound block channels depth (Some kind) bits (Ok (left ∷ right ∷ [], rest))
pair_spelled block channels depth kind bits next rest xs ys left right one two spells =
    inl (
      (xs ∷ ys ∷ [], rest),
      both block (first_depth kind depth) (second_depth kind depth) bits next rest xs ys one two,
      inl (left ∷ right ∷ [], (left, right, refl, spells), refl),
    )

-- they spell none
pub none_paired : (block channels depth : ℕ) (kind : Stereo) (bits next rest : List Bool) (xs ys : List ℤ)
    → Channel block (first_depth kind depth) bits (Ok (xs, next)) → Channel block (second_depth kind depth) next (Ok (ys, rest))
    → ((left right : List ℤ) → ¬ SpellsPair kind depth left right xs ys) → Sound block channels depth (Some kind) bits (Err OutOfRange)
none_paired block channels depth kind bits next rest xs ys one two none =
    let no_lists : (lists : List (List ℤ)) → ¬ IsPairOf kind depth xs ys lists = λ lists is. none is.0 is.1 is.3 in
    inl (
      (xs ∷ ys ∷ [], rest),
      both block (first_depth kind depth) (second_depth kind depth) bits next rest xs ys one two,
      inr (OutOfRange, (no_lists, refl), refl),
    )

-- two channels at the start of the cells
pub two_chunks : (block : ℕ) (first second back : List ℤ) → length first ≡ block → length second ≡ block
    → first_chunks block 2 (first ++ (second ++ back)) ≡ first ∷ second ∷ []
two_chunks block first second back one two =
    ap (λ (xs : List ℤ). xs ∷ take block (drop block (first ++ (second ++ back))) ∷ []) (take_at first (second ++ back) block one)
    ∙ ap (λ (xs : List ℤ). first ∷ take block xs ∷ []) (drop_at first (second ++ back) block one)
    ∙ ap (λ (xs : List ℤ). first ∷ xs ∷ []) (take_at second back block two)

-- ---- the channels of a frame, however they are coded

pub alone : {X : Type 0} (result : Result X FlacRule) (block channels depth : ℕ) (stereo : Option Stereo) (bits rest : List Bool) (cells : List ℤ)
    → stereo ≡ None → Comes (λ (_ : X). (first_chunks block channels cells, rest)) (Channels block (replicate channels depth) bits) result
    → Comes (λ (_ : X). (first_chunks block channels cells, rest)) (Sound block channels depth stereo bits) result
alone (Ok value) block channels depth stereo bits rest cells none comes =
    subst (λ (s : Option Stereo). Sound block channels depth s bits (Ok (first_chunks block channels cells, rest))) (sym none)
    (as_they_stand block channels depth bits (Ok (first_chunks block channels cells, rest)) comes)
alone (Err rule) block channels depth stereo bits rest cells none comes =
    subst (λ (s : Option Stereo). Sound block channels depth s bits (Err rule)) (sym none) (as_they_stand block channels depth bits (Err rule) comes)

pub paired : {X : Type 0} (result : Result X FlacRule) (block channels depth : ℕ) (stereo : Option Stereo) (kind : Stereo) (bits rest : List Bool) (cells : List ℤ)
    → stereo ≡ Some kind → channels ≡ 2 → Comes (λ (_ : X). (first_chunks block 2 cells, rest)) (Sound block channels depth (Some kind) bits) result
    → Comes (λ (_ : X). (first_chunks block channels cells, rest)) (Sound block channels depth stereo bits) result
paired (Ok value) block channels depth stereo kind bits rest cells some two comes =
    subst (λ (s : Option Stereo). Sound block channels depth s bits (Ok (first_chunks block channels cells, rest))) (sym some)
    (subst (λ (n : ℕ). Sound block channels depth (Some kind) bits (Ok (first_chunks block n cells, rest))) (sym two) comes)
paired (Err rule) block channels depth stereo kind bits rest cells some two comes =
    subst (λ (s : Option Stereo). Sound block channels depth s bits (Err rule)) (sym some) comes

-- a pair at the start of the cells
pub pair_at : (block size channels depth : ℕ) (kind : Stereo) (bits rest : List Bool) (first second back : List ℤ) → size ≡ block → length first ≡ block
    → length second ≡ block → Sound size channels depth (Some kind) bits (Ok (first ∷ second ∷ [], rest))
    → Sound block channels depth (Some kind) bits (Ok (first_chunks block 2 (first ++ (second ++ back)), rest))
pair_at block size channels depth kind bits rest first second back same one two sound =
    subst (λ (lists : List (List ℤ)). Sound block channels depth (Some kind) bits (Ok (lists, rest))) (sym (two_chunks block first second back one two))
    (subst (λ (n : ℕ). Sound n channels depth (Some kind) bits (Ok (first ∷ second ∷ [], rest))) same sound)

pub pair_refused : (block size channels depth : ℕ) (kind : Stereo) (bits : List Bool) (rule : FlacRule) → size ≡ block
    → Sound size channels depth (Some kind) bits (Err rule) → Sound block channels depth (Some kind) bits (Err rule)
pair_refused block size channels depth kind bits rule same sound = subst (λ (n : ℕ). Sound n channels depth (Some kind) bits (Err rule)) same sound

-- a channel by other names of its block and depth
pub channel_as : (block size depth bits_each : ℕ) (bits : List Bool) (out : Result (List ℤ × List Bool) FlacRule) → size ≡ block → bits_each ≡ depth
    → Channel size bits_each bits out → Channel block depth bits out
channel_as block size depth bits_each bits out same is comes =
    subst (λ (n : ℕ). Channel n depth bits out) same (subst (λ (d : ℕ). Channel size d bits out) is comes)
