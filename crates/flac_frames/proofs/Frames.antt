-- What comes of a frame, by its parts.
use Rattle.std.proofs.Common.{◌≡◌, ◌≤◌, ◌<◌, ◌+◌, ◌-◌, ◌*◌, ◌/◌, ◌%◌, inl, inr, ℕ, List, [], ◌∷◌, Bool, true, false, length, length-drop, take, drop, Option, Result, Ok, Err, refl, ap, sym, ◌∙◌, subst, arith}
use Rattle.std.specs.Prelude.{ℤ, IfOk}
use Rattle.std.proofs.lemmas.List.{drop-drop, take_at}
use Rattle.std.specs.List.{refill}
use Rattle.file_model.specs.declared.flac_info.Info.{Info}
use Rattle.file_model.specs.declared.flac_rules.FlacRule.{FlacRule}
use Rattle.file_model.specs.declared.flac_rules.FlacRule.TheVariants.{FrameCheck}
use Rattle.file_model.specs.Bits.{bits}
use Rattle.file_model.specs.Fields.{field, align_at}
use Rattle.file_model.specs.FlacHeader.{FlacHeader, bytes_before, header_at}
use Rattle.file_model.specs.FlacFrame.{FlacFrame, footer_at, Body, Frame}
use Rattle.file_model.specs.Outcomes.{◌>>=◌, holds}
use Rattle.file_model.proofs.BitsLemmas.{length-bits}
use Rattle.flac_frames.specs.declared.frame.FrameEnd.{FrameEnd}
use Rattle.flac_frames.specs.Answers.{Comes}
use Rattle.flac_frames.specs.Frames.{Sound, check_at, HasBlock}
use Rattle.flac_frames.specs.Headers.{TakesBytes}
use Rattle.flac_frames.proofs.Residuals.{ok_is}
use Rattle.flac_frames.proofs.Wholes.{field_shorter}

-- ---- the footer

-- behind zeros up to a whole byte there are whole bytes
pub align_whole : (all rest after : List Bool) (zeros : Bool) → length rest ≤ length all → length all % 8 ≡ 0 → (zeros, after) ≡ align_at rest → TakesBytes all after
unfolding align_at
align_whole all rest after zeros less even is =
    let size : length after ≡ length rest - length rest % 8 =
    ap (λ (p : Bool × List Bool). length p.1) is ∙ length-drop (length rest % 8) rest in
    (omega (arith, size, less), omega (arith, size, even))

pub bits_even : (bytes : List ℕ) → length (bits bytes) % 8 ≡ 0
bits_even bytes = let size = length-bits bytes in omega (arith, size)

pub footer_is : (bytes : List ℕ) (rest after : List Bool) (zeros : Bool) → (zeros, after) ≡ align_at rest
    → footer_at bytes rest ≡ (holds zeros FrameCheck >>= λ _. check_at bytes after)
unfolding footer_at check_at
footer_is bytes rest after zeros is = ap (λ (p : Bool × List Bool). holds p.0 FrameCheck >>= λ _. check_at bytes p.1) (sym is)

-- the zeros are zeros
pub footer_zeros : (bytes : List ℕ) (rest after : List Bool) (zeros : Bool) → (zeros, after) ≡ align_at rest → zeros ≡ true
    → check_at bytes after ≡ footer_at bytes rest
footer_zeros bytes rest after zeros is so =
    sym (footer_is bytes rest after zeros is ∙ ap (λ (b : Bool). holds b FrameCheck >>= λ _. check_at bytes after) so)

-- they are not
pub footer_ones : (bytes : List ℕ) (rest after : List Bool) (zeros : Bool) → (zeros, after) ≡ align_at rest → zeros ≡ false
    → footer_at bytes rest ≡ Err FrameCheck
footer_ones bytes rest after zeros is so =
    footer_is bytes rest after zeros is ∙ ap (λ (b : Bool). holds b FrameCheck >>= λ _. check_at bytes after) so

-- a check of two bytes more
pub two_more : (bytes : List ℕ) (value : ℕ) (before behind : List Bool) → TakesBytes (bits bytes) before → field 16 before ≡ Ok (value, behind)
    → (bytes_before bytes behind ≡ bytes_before bytes before + 2) × (bytes_before bytes before + 2 ≤ length bytes)
two_more bytes value before behind takes is =
    let long = length-bits bytes in
    let shorter = field_shorter 16 value before behind is in
    (omega (arith, takes.0, takes.1, shorter), omega (arith, takes.0, takes.1, shorter))

-- ---- what follows a header

-- a subframe or a pair breaks a rule
pub sound_refused : (info : Info) (bytes : List ℕ) (header : FlacHeader) (start : List Bool) (rule : FlacRule) → start ≡ bits (drop header.length bytes)
    → Sound header.block info.channels info.depth header.stereo start (Err rule) → Body info bytes header (Err rule)
sound_refused info bytes header start rule is sound =
    elim (subst (λ (b : List Bool). Sound header.block info.channels info.depth header.stereo b (Err rule)) is sound) [
      | inl read ↦
          elim read.2 [
            | inl done ↦ absurd (let never = done.2 in cc)
            | inr broken ↦ inl (read.0, read.1, inr (broken.0, broken.1, let same : rule ≡ broken.0 = (let never = broken.2 in cc) in ap Err same))
          ]
      | inr broken ↦ inr (broken.0, broken.1, let same : rule ≡ broken.0 = (let never = broken.2 in cc) in ap Err same)
    ]

-- the channels of a sound, and what follows them
abbrev Behind : Info → List ℕ → FlacHeader → List (List ℤ) → List Bool → Result FlacFrame FlacRule → Type 0
Behind info bytes header lists rest out =
    Sound header.block info.channels info.depth header.stereo (bits (drop header.length bytes)) (Ok (lists, rest)) → Body info bytes header out

-- the footer breaks a rule
pub footer_refused : (info : Info) (bytes : List ℕ) (header : FlacHeader) (start rest : List Bool) (lists : List (List ℤ)) (rule : FlacRule)
    → start ≡ bits (drop header.length bytes) → Sound header.block info.channels info.depth header.stereo start (Ok (lists, rest))
    → footer_at bytes rest ≡ Err rule → Body info bytes header (Err rule)
footer_refused info bytes header start rest lists rule is sound footer =
    elim (subst (λ (b : List Bool). Sound header.block info.channels info.depth header.stereo b (Ok (lists, rest))) is sound) [
      | inl read ↦
          elim read.2 [
            | inl done ↦
                let same : rest ≡ read.0.1 = ap (λ (p : List (List ℤ) × List Bool). p.1) (ok_is _ _ done.2) in
                inl (read.0, read.1, inl (done.0, done.1, inr (rule, sym (ap (footer_at bytes) (sym same) ∙ footer), refl)))
            | inr broken ↦ absurd (let never = broken.2 in cc)
          ]
      | inr broken ↦ absurd (let never = broken.2 in cc)
    ]

-- it is the footer
pub frame_ends : (info : Info) (bytes : List ℕ) (header : FlacHeader) (start rest : List Bool) (lists : List (List ℤ)) (end : ℕ)
    → start ≡ bits (drop header.length bytes) → Sound header.block info.channels info.depth header.stereo start (Ok (lists, rest))
    → footer_at bytes rest ≡ Ok end → Body info bytes header (Ok (record { lists = lists; length = end }))
frame_ends info bytes header start rest lists end is sound footer =
    elim (subst (λ (b : List Bool). Sound header.block info.channels info.depth header.stereo b (Ok (lists, rest))) is sound) [
      | inl read ↦
          elim read.2 [
            | inl done ↦
                let pair = ok_is _ _ done.2 in
                let same : rest ≡ read.0.1 = ap (λ (p : List (List ℤ) × List Bool). p.1) pair in
                let those : lists ≡ done.0 = ap (λ (p : List (List ℤ) × List Bool). p.0) pair in
                let frame : List (List ℤ) → Result FlacFrame FlacRule = λ xss. Ok (record { lists = xss; length = end }) in
                inl (read.0, read.1, inl (done.0, done.1, inl (end, sym (ap (footer_at bytes) (sym same) ∙ footer), ap frame those)))
            | inr broken ↦ absurd (let never = broken.2 in cc)
          ]
      | inr broken ↦ absurd (let never = broken.2 in cc)
    ]

-- ---- a header and what follows it

pub header_refused : (info : Info) (bytes : List ℕ) (rule : FlacRule) → header_at info bytes ≡ Err rule → Frame info bytes (Err rule)
header_refused info bytes rule is = inr (rule, sym is, refl)

pub header_then : (info : Info) (bytes : List ℕ) (header : FlacHeader) (out : Result FlacFrame FlacRule) → header_at info bytes ≡ Ok header
    → Body info bytes header out → Frame info bytes out
header_then info bytes header out is body = inl (header, sym is, body)

pub after_header : {X : Type 0} (result : Result X FlacRule) (view : X → FlacFrame) (info : Info) (bytes : List ℕ) (header : FlacHeader)
    → header_at info bytes ≡ Ok header → Comes view (Body info bytes header) result → Comes view (Frame info bytes) result
after_header (Ok value) view info bytes header is comes = header_then info bytes header (Ok (view value)) is comes
after_header (Err rule) view info bytes header is comes = header_then info bytes header (Err rule) is comes

-- what begins behind a header is no longer than what begins before it
pub start_is : (bytes : List ℕ) (at count : ℕ) (start : List Bool) → start ≡ bits (drop (at + count) bytes) → start ≡ bits (drop count (drop at bytes))
start_is bytes at count start is = is ∙ ap bits (sym (drop-drop count at bytes))

pub start_shorter : (bytes : List ℕ) (at count : ℕ) (start rest : List Bool) → start ≡ bits (drop (at + count) bytes) → length rest ≤ length start
    → length rest ≤ length (bits (drop at bytes))
start_shorter bytes at count start rest is less =
    let size = ap length is ∙ length-bits (drop (at + count) bytes) in
    let one = length-drop (at + count) bytes in
    let two = length-bits (drop at bytes) in
    let three = length-drop at bytes in omega (arith, size, one, two, three, less)

-- cells that were lent whole
pub refilled : (xs ws : List ℤ) → length ws ≡ length xs → refill (length xs) xs ws ≡ ws
refilled xs ws same = take_at ws (drop (length ws) xs) (length xs) same

-- a frame that came has the block of its header
pub has_block : (result : Result FrameEnd FlacRule) (info : Info) (bytes : List ℕ) (header : FlacHeader) → header_at info bytes ≡ Ok header
    → IfOk result (λ end. end.block ≡ header.block) → IfOk result (λ end. HasBlock info bytes end.block)
has_block (Ok end) info bytes header is same = (header, is, same)
has_block (Err rule) info bytes header is same = tt
