-- One channel of a frame that is known to be whole.
use Rattle.std.proofs.Common.{◌≡◌, ◌≤◌, ◌<◌, ◌+◌, ◌-◌, ◌*◌, inl, inr, ℕ, zero, suc, List, [], ◌∷◌, ◌++◌, Bool, length, take, drop, Option, Result, Ok, Err, refl, ap, sym, ◌∙◌, subst, arith}
use Rattle.std.specs.Prelude.{ℤ, replicate, None, Some, IsOkAnd}
use Rattle.std.specs.Simd.{first_chunks}
use Rattle.std.proofs.lemmas.List.{take_at, drop_at}
use Rattle.lib_base.specs.Sounds.{part, samples_of}
use Rattle.file_model.specs.declared.flac_info.Info.{Info}
use Rattle.file_model.specs.declared.flac_rules.FlacRule.{FlacRule}
use Rattle.file_model.specs.declared.pairs.Stereo.{Stereo}
use Rattle.file_model.specs.Bits.{bits}
use Rattle.file_model.specs.FlacFrame.{FlacFrame, depths_of, Channels, Sounding, Body, Frame}
use Rattle.file_model.specs.FlacHeader.{FlacHeader, header_at}
use Rattle.file_model.specs.Outcomes.{◌>>=◌}
use Rattle.file_model.specs.Subframe.{Coding, Coded, subframe_head_at, content_at, subframe_at, Channel}
use Rattle.file_model.proofs.FrameLaws.{Channel_decides, Channels_decides, Sounding_decides}
use Rattle.file_model.proofs.OutcomesLemmas.{HoldsOnce, is_decides, then_decides}
use Rattle.flac_frames.specs.Answers.{Comes}
use Rattle.flac_frames.specs.Frames.{Sound}
use Rattle.flac_frames.proofs.Residuals.{ok_is}
use Rattle.flac_frames.proofs.Sounds.{channel_at}
use Rattle.flac_frames.proofs.Wholes.{both_give}

-- ---- a channel that is skipped

-- behind the head of a subframe comes what it codes
pub coded_behind : (block depth wasted : ℕ) (coding : Coding) (start next : List Bool) (coded : Coded) (rest : List Bool)
    → subframe_head_at block depth start ≡ Ok ((coding, wasted), next) → subframe_at block depth start ≡ Ok (coded, rest)
    → content_at coding block (depth - wasted) wasted next ≡ Ok (coded, rest)
unfolding subframe_at
coded_behind block depth wasted coding start next coded rest head is =
    let parts = both_give (subframe_head_at block depth start) _ (coded, rest) is in
    let same : parts.0 ≡ ((coding, wasted), next) = ok_is _ _ (sym parts.1 ∙ head) in
    subst (λ (h : (Coding × ℕ) × List Bool). content_at h.0.0 block (depth - h.0.1) h.0.1 h.1 ≡ Ok (coded, rest)) same parts.2

-- where a subframe is coded its head is no fault
pub head_is_whole : (block depth : ℕ) (start : List Bool) (rule : FlacRule) (coded : Coded) (rest : List Bool)
    → subframe_head_at block depth start ≡ Err rule → subframe_at block depth start ≡ Ok (coded, rest) → ⊥
unfolding subframe_at
head_is_whole block depth start rule coded rest head is =
    let parts = both_give (subframe_head_at block depth start) _ (coded, rest) is in
    let outcomes = sym parts.1 ∙ head in cc

-- ---- a channel that stands on its own

-- it is the first one
pub own_first : {X : Type 0} (result : Result X FlacRule) (xs : List ℤ) (next : List Bool) (block depth channels index : ℕ) (start : List Bool)
    (lists : List (List ℤ)) (rest : List Bool) → index ≡ 0 → index < channels → Comes (λ (_ : X). (xs, next)) (Channel block depth start) result
    → Channels block (replicate channels depth) start (Ok (lists, rest)) → IsOkAnd result (λ _. xs ≡ samples_of lists index)
own_first result xs next block depth zero index start lists rest none less comes are = absurd (omega (arith, less))
own_first (Ok value) xs next block depth (suc channels) index start lists rest none less comes (inl (first, one, inl (others, more, out))) =
    let outcomes = Channel_decides block depth start (Ok (xs, next)) (Ok first) comes one in
    let same : xs ≡ first.0 = ap (λ (read : List ℤ × List Bool). read.0) (ok_is _ _ outcomes) in
    let all : lists ≡ first.0 ∷ others.0 = ap (λ (read : List (List ℤ) × List Bool). read.0) (ok_is _ _ out) in
    same ∙ sym (ap (λ (xss : List (List ℤ)). samples_of xss index) all ∙ ap (samples_of (first.0 ∷ others.0)) none)
own_first (Err rule) xs next block depth (suc channels) index start lists rest none less comes (inl (first, one, inl (others, more, out))) =
    let outcomes = Channel_decides block depth start (Err rule) (Ok first) comes one in absurd cc
own_first result xs next block depth (suc channels) index start lists rest none less comes (inl (first, one, inr (fault, more, out))) = absurd cc
own_first result xs next block depth (suc channels) index start lists rest none less comes (inr (fault, more, out)) = absurd cc

-- the first one, and the channel among the others
pub record IsBehind (block depth channels index : ℕ) (start : List Bool) (lists : List (List ℤ)) (rest : List Bool) : Type 0 where
  pub coded : Coded
  pub next : List Bool
  pub first : subframe_at block depth start ≡ Ok (coded, next)
  pub others : List (List ℤ)
  pub are : Channels block (replicate (channels - 1) depth) next (Ok (others, rest))
  pub less : index - 1 < channels - 1
  pub same : samples_of others (index - 1) ≡ samples_of lists index

channel_coded : (block depth : ℕ) (start : List Bool) (first : List ℤ × List Bool) → Channel block depth start (Ok first)
    → (coded : Coded) × (subframe_at block depth start ≡ Ok (coded, first.1))
channel_coded block depth start first (inl (coded, is, inl (samples, spelled, out))) =
    let same : first.1 ≡ coded.1 = ap (λ (read : List ℤ × List Bool). read.1) (ok_is _ _ out) in
    (coded.0, sym is ∙ ap (λ (b : List Bool). Ok (coded.0, b)) (sym same))
channel_coded block depth start first (inl (coded, is, inr (fault, none, out))) = absurd cc
channel_coded block depth start first (inr (fault, is, out)) = absurd cc

pub own_behind : (block depth channels index : ℕ) (start : List Bool) (lists : List (List ℤ)) (rest : List Bool) → ¬ (index ≡ 0) → index < channels
    → Channels block (replicate channels depth) start (Ok (lists, rest)) → IsBehind block depth channels index start lists rest
own_behind block depth zero index start lists rest some less are = absurd (omega (arith, less))
own_behind block depth (suc channels) zero start lists rest some less are = absurd (some refl)
own_behind block depth (suc channels) (suc index) start lists rest some less (inl (first, one, inl (others, more, out))) =
    let coded = channel_coded block depth start first one in
    let all : lists ≡ first.0 ∷ others.0 = ap (λ (read : List (List ℤ) × List Bool). read.0) (ok_is _ _ out) in
    let ends : rest ≡ others.1 = ap (λ (read : List (List ℤ) × List Bool). read.1) (ok_is _ _ out) in
    let fewer : channels ≡ suc channels - 1 = omega arith in
    let before : index ≡ suc index - 1 = omega arith in
    record {
      coded = coded.0;
      next = first.1;
      first = coded.1;
      others = others.0;
      are =
          subst (λ (b : List Bool). Channels block (replicate (suc channels - 1) depth) first.1 (Ok (others.0, b))) (sym ends)
          (subst (λ (n : ℕ). Channels block (replicate n depth) first.1 (Ok others)) fewer more);
      less = omega (arith, less);
      same = ap (samples_of others.0) (sym before) ∙ sym (ap (λ (xss : List (List ℤ)). samples_of xss (suc index)) all);
    }
own_behind block depth (suc channels) (suc index) start lists rest some less (inl (first, one, inr (fault, more, out))) = absurd cc
own_behind block depth (suc channels) (suc index) start lists rest some less (inr (fault, more, out)) = absurd cc

-- what holds of a value that came, another follows from
pub ok_and_then : {X E : Type 0} (result : Result X E) (P Q : Type 0) → (P → Q) → IsOkAnd result (λ _. P) → IsOkAnd result (λ _. Q)
ok_and_then (Ok value) P Q next p = next p
ok_and_then (Err fault) P Q next p = p

-- where it stands among all
pub own_there : (front own back : List ℤ) (start block : ℕ) → length front ≡ start → length own ≡ block → part (front ++ (own ++ back)) start block ≡ own
own_there front own back start block before long = ap (take block) (drop_at front (own ++ back) start before) ∙ take_at own back block long

-- ---- the channels of a sound

pub Sound_decides : (block channels depth : ℕ) (stereo : Option Stereo) (start : List Bool) → HoldsOnce (Sound block channels depth stereo start)
Sound_decides block channels depth stereo start =
    then_decides _ _ (Channels_decides block (depths_of channels depth stereo) start)
    (λ coded. then_decides _ _ (Sounding_decides stereo depth coded.0) (λ lists. is_decides _))

-- each channel stands on its own
pub each_own : (block channels depth : ℕ) (stereo : Option Stereo) (start : List Bool) (lists : List (List ℤ)) (rest : List Bool) → stereo ≡ None
    → Sound block channels depth stereo start (Ok (lists, rest)) → Channels block (replicate channels depth) start (Ok (lists, rest))
each_own block channels depth stereo start lists rest none sound =
    go (subst (λ (s : Option Stereo). Sound block channels depth s start (Ok (lists, rest))) none sound)
  where
    go : Sound block channels depth None start (Ok (lists, rest)) → Channels block (replicate channels depth) start (Ok (lists, rest))
    go (inl (coded, are, inl (sounding, is, out))) =
        let all : lists ≡ sounding = ap (λ (read : List (List ℤ) × List Bool). read.0) (ok_is _ _ out) in
        let ends : rest ≡ coded.1 = ap (λ (read : List (List ℤ) × List Bool). read.1) (ok_is _ _ out) in
        let same : lists ≡ coded.0 = all ∙ ok_is _ _ is in
        subst (λ (xss : List (List ℤ)). Channels block (replicate channels depth) start (Ok (xss, rest))) (sym same)
        (subst (λ (b : List Bool). Channels block (replicate channels depth) start (Ok (coded.0, b))) (sym ends) are)
    go (inl (coded, are, inr (fault, is, out))) = absurd cc
    go (inr (fault, are, out)) = absurd cc

-- two channels stand for left and right
pub one_of_pair : {X : Type 0} (result : Result X FlacRule) (block channels depth index : ℕ) (stereo : Option Stereo) (kind : Stereo) (start next : List Bool)
    (cells : List ℤ) (lists : List (List ℤ)) (rest : List Bool) → stereo ≡ Some kind → index < 2
    → Comes (λ (_ : X). (first_chunks block 2 cells, next)) (Sound block channels depth (Some kind) start) result
    → Sound block channels depth stereo start (Ok (lists, rest))
    → IsOkAnd result (λ _. part cells (index * block) block ≡ samples_of lists index)
one_of_pair (Ok value) block channels depth index stereo kind start next cells lists rest some less comes sound =
    let here = subst (λ (s : Option Stereo). Sound block channels depth s start (Ok (lists, rest))) some sound in
    let outcomes = Sound_decides block channels depth (Some kind) start (Ok (first_chunks block 2 cells, next)) (Ok (lists, rest)) comes here in
    let same : first_chunks block 2 cells ≡ lists = ap (λ (read : List (List ℤ) × List Bool). read.0) (ok_is _ _ outcomes) in
    sym (channel_at block 2 index cells less) ∙ ap (λ (xss : List (List ℤ)). samples_of xss index) same
one_of_pair (Err rule) block channels depth index stereo kind start next cells lists rest some less comes sound =
    let here = subst (λ (s : Option Stereo). Sound block channels depth s start (Ok (lists, rest))) some sound in
    let outcomes = Sound_decides block channels depth (Some kind) start (Err rule) (Ok (lists, rest)) comes here in absurd cc

-- ---- a frame

-- what follows a header begins with the channels of the sound
pub record HasSound (info : Info) (bytes : List ℕ) (header : FlacHeader) (frame : FlacFrame) : Type 0 where
  pub rest : List Bool
  pub sound : Sound header.block info.channels info.depth header.stereo (bits (drop header.length bytes)) (Ok (frame.lists, rest))

pub body_sound : (info : Info) (bytes : List ℕ) (header : FlacHeader) (frame : FlacFrame) → Body info bytes header (Ok frame)
    → HasSound info bytes header frame
body_sound info bytes header frame (inl (coded, channels, inl (lists, sounding, inl (end, footer, out)))) =
    let same : frame ≡ record { lists = lists; length = end } = ok_is _ _ out in
    record {
      rest = coded.1;
      sound = inl (coded, channels, inl (lists, sounding, ap (λ (f : FlacFrame). Ok (f.lists, coded.1)) same));
    }
body_sound info bytes header frame (inl (coded, channels, inl (lists, sounding, inr (fault, footer, out)))) = absurd cc
body_sound info bytes header frame (inl (coded, channels, inr (fault, sounding, out))) = absurd cc
body_sound info bytes header frame (inr (fault, channels, out)) = absurd cc

-- a frame is its header and what follows
pub frame_body : (info : Info) (bytes : List ℕ) (header : FlacHeader) (frame : FlacFrame) → header_at info bytes ≡ Ok header → Frame info bytes (Ok frame)
    → Body info bytes header (Ok frame)
frame_body info bytes header frame is (inl (other, is_other, body)) =
    subst (λ (h : FlacHeader). Body info bytes h (Ok frame)) (ok_is other header (is_other ∙ is)) body
frame_body info bytes header frame is (inr (fault, is_fault, out)) = absurd cc

-- where a header is refused there is no frame
pub no_frame : (info : Info) (bytes : List ℕ) (rule : FlacRule) (frame : FlacFrame) → header_at info bytes ≡ Err rule → Frame info bytes (Ok frame) → ⊥
no_frame info bytes rule frame is (inl (other, is_other, body)) = let outcomes = is_other ∙ is in cc
no_frame info bytes rule frame is (inr (fault, is_fault, out)) = cc
