-- The samples of frames, one frame more.
use Rattle.std.proofs.Common.{◌≡◌, ◌≤◌, ◌<◌, ◌+◌, ◌-◌, ◌*◌, inl, inr, ℕ, zero, suc, List, [], ◌∷◌, ◌++◌, length, take, drop, get_or, length-append, length-drop, append_assoc, append-nil, refl, ap, sym, ◌∙◌, subst, arith}
use Rattle.std.specs.Prelude.{ℤ, pos}
use Rattle.std.specs.List.{flat_map, sum_by}
use Rattle.std.specs.Simd.{first_chunks}
use Rattle.std.proofs.lemmas.Nat.{mul-le}
use Rattle.std.proofs.lemmas.List.{length-take-le, take_more, map_push, get_or_append_left, get_or-append_right, length_push, take_all}
use Rattle.std.proofs.lemmas.List.Concat.{flat_map-append}
use Rattle.std.proofs.lemmas.List.Sums.{sum_by-append, sum_by_push}
use Rattle.lib_base.specs.Sounds.{part, samples_of}
use Rattle.file_model.specs.declared.flac_info.Info.{Info}
use Rattle.file_model.specs.FlacFile.{block_of, blocks_of, channel_in, channels_in, sound_in, bytes_of, whole_bytes}
use Rattle.file_model.specs.FlacFrame.{FlacFrame}
use Rattle.file_model.specs.Pcm.{frame_at, interleaved}
use Rattle.flac_frames.proofs.Sounds.{channel_at}
use Rattle.flac_stream.specs.Frames.{in_bytes, bytes_for, IsEven, AreEven}

-- ---- channels in the cells

pub length-first_chunks : (block channels : ℕ) (cells : List ℤ) → length (first_chunks block channels cells) ≡ channels
length-first_chunks block zero cells = refl
length-first_chunks block (suc channels) cells = ap suc (length-first_chunks block channels (drop block cells))

-- each channel has a block of samples
pub length-channel : (block channels channel : ℕ) (cells : List ℤ) → channel < channels → channels * block ≤ length cells
    → length (samples_of (first_chunks block channels cells) channel) ≡ block
length-channel block channels channel cells less room =
    let next : channel + 1 ≤ channels = omega (arith, less) in
    let same : block ≤ block = omega arith in
    let more = mul-le (channel + 1) block channels block next same in
    let left = length-drop (channel * block) cells in
    let apart : (channel + 1) * block ≡ channel * block + block = omega arith in
    ap length (channel_at block channels channel cells less)
    ∙ length-take-le block (drop (channel * block) cells) (omega (arith, left, more, apart, room))

-- ---- lists of frames

pub blocks_of-cons : (frame : FlacFrame) (frames : List FlacFrame) → blocks_of (frame ∷ frames) ≡ block_of frame + blocks_of frames
blocks_of-cons frame frames =
    sum_by-append block_of (frame ∷ []) frames
    ∙ ap (λ (n : ℕ). n + blocks_of frames) (let one : 0 + block_of frame ≡ block_of frame = omega arith in one)

pub AreEven-push : (channels : ℕ) (frames : List FlacFrame) (frame : FlacFrame) → AreEven channels frames → IsEven channels frame → AreEven channels (frames ++ frame ∷ [])
AreEven-push channels [] frame are is = (is, tt)
AreEven-push channels (x ∷ xs) frame are is = (are.0, AreEven-push channels xs frame are.1 is)

pub length-channel_in : (channels channel : ℕ) (frames : List FlacFrame) → AreEven channels frames → channel < channels
    → length (channel_in frames channel) ≡ blocks_of frames
length-channel_in channels channel [] are less = refl
length-channel_in channels channel (x ∷ xs) are less =
    length-append (samples_of x.lists channel) (channel_in xs channel)
    ∙ ap (λ (n : ℕ). n + length (channel_in xs channel)) (are.0 channel less)
    ∙ ap (λ (n : ℕ). block_of x + n) (length-channel_in channels channel xs are.1 less) ∙ sym (blocks_of-cons x xs)

pub channel_in-push : (frames : List FlacFrame) (frame : FlacFrame) (channel : ℕ)
    → channel_in (frames ++ frame ∷ []) channel ≡ channel_in frames channel ++ samples_of frame.lists channel
channel_in-push frames frame channel =
    flat_map-append (λ (f : FlacFrame). samples_of f.lists channel) frames (frame ∷ [])
    ∙ ap (λ (xs : List ℤ). channel_in frames channel ++ xs) (append-nil (samples_of frame.lists channel))

-- ---- a place in the sound

-- the samples at a place, one channel more
frame_at-more : (frames : List FlacFrame) (count place : ℕ)
    → frame_at (channels_in frames (suc count)) place ≡ frame_at (channels_in frames count) place ++ get_or (channel_in frames count) place (pos 0) ∷ []
frame_at-more frames count place = map_push (λ (samples : List ℤ). get_or samples place (pos 0)) (channels_in frames count) (channel_in frames count)

-- before the last frame it is as it was
frame_before : (channels count place : ℕ) (frames : List FlacFrame) (frame : FlacFrame) → AreEven channels frames → count ≤ channels
    → place < blocks_of frames → frame_at (channels_in (frames ++ frame ∷ []) count) place ≡ frame_at (channels_in frames count) place
frame_before channels zero place frames frame are few before = refl
frame_before channels (suc count) place frames frame are few before =
    let long = length-channel_in channels count frames are (omega (arith, few)) in
    frame_at-more (frames ++ frame ∷ []) count place
    ∙ ap (λ (xs : List ℤ). xs ++ get_or (channel_in (frames ++ frame ∷ []) count) place (pos 0) ∷ [])
    (frame_before channels count place frames frame are (omega (arith, few)) before)
    ∙ ap (λ (s : ℤ). frame_at (channels_in frames count) place ++ s ∷ [])
    (ap (λ (xs : List ℤ). get_or xs place (pos 0)) (channel_in-push frames frame count)
    ∙ get_or_append_left (channel_in frames count) (samples_of frame.lists count) (pos 0) place (omega (arith, long, before)))
    ∙ sym (frame_at-more frames count place)

-- in the last frame it is the frame's
frame_behind : (channels count place : ℕ) (frames : List FlacFrame) (frame : FlacFrame) → AreEven channels frames → count ≤ channels
    → channels ≡ length frame.lists
    → frame_at (channels_in (frames ++ frame ∷ []) count) (blocks_of frames + place) ≡ frame_at (take count frame.lists) place
frame_behind channels zero place frames frame are few all = refl
frame_behind channels (suc count) place frames frame are few all =
    let long = length-channel_in channels count frames are (omega (arith, few)) in
    let here : blocks_of frames + place - blocks_of frames ≡ place = omega arith in
    let behind : blocks_of frames ≤ blocks_of frames + place = omega arith in
    frame_at-more (frames ++ frame ∷ []) count (blocks_of frames + place)
    ∙ ap (λ (xs : List ℤ). xs ++ get_or (channel_in (frames ++ frame ∷ []) count) (blocks_of frames + place) (pos 0) ∷ [])
    (frame_behind channels count place frames frame are (omega (arith, few)) all)
    ∙ ap (λ (s : ℤ). frame_at (take count frame.lists) place ++ s ∷ [])
    (ap (λ (xs : List ℤ). get_or xs (blocks_of frames + place) (pos 0)) (channel_in-push frames frame count)
    ∙ get_or-append_right (channel_in frames count) (samples_of frame.lists count) (blocks_of frames) (blocks_of frames + place) (pos 0) long behind
    ∙ ap (λ (n : ℕ). get_or (samples_of frame.lists count) n (pos 0)) here)
    ∙ sym (map_push (λ (samples : List ℤ). get_or samples place (pos 0)) (take count frame.lists) (get_or frame.lists count []))
    ∙ ap (λ (xs : List (List ℤ)). frame_at xs place)
    (sym (take_more frame.lists count [] (omega (arith, few, all))) ∙ ap (λ (n : ℕ). take n frame.lists) (let next : count + 1 ≡ suc count = omega arith in next))

-- ---- the interleaved sound

interleaved_before : (channels count : ℕ) (frames : List FlacFrame) (frame : FlacFrame) → AreEven channels frames → count ≤ blocks_of frames
    → interleaved count (channels_in (frames ++ frame ∷ []) channels) ≡ interleaved count (channels_in frames channels)
interleaved_before channels zero frames frame are within = refl
interleaved_before channels (suc count) frames frame are within =
    ap (λ (xs : List ℤ). xs ++ frame_at (channels_in (frames ++ frame ∷ []) channels) count)
    (interleaved_before channels count frames frame are (omega (arith, within)))
    ∙ ap (λ (xs : List ℤ). interleaved count (channels_in frames channels) ++ xs)
    (frame_before channels channels count frames frame are (omega arith) (omega (arith, within)))

interleaved_behind : (channels count : ℕ) (frames : List FlacFrame) (frame : FlacFrame) → AreEven channels frames → channels ≡ length frame.lists
    → interleaved (blocks_of frames + count) (channels_in (frames ++ frame ∷ []) channels)
    ≡ interleaved (blocks_of frames) (channels_in frames channels) ++ interleaved count frame.lists
interleaved_behind channels zero frames frame are all =
    ap (λ (n : ℕ). interleaved n (channels_in (frames ++ frame ∷ []) channels)) (let none : blocks_of frames + 0 ≡ blocks_of frames = omega arith in none)
    ∙ interleaved_before channels (blocks_of frames) frames frame are (omega arith)
    ∙ sym (append-nil (interleaved (blocks_of frames) (channels_in frames channels)))
interleaved_behind channels (suc count) frames frame are all =
    let whole : take channels frame.lists ≡ frame.lists = take_all channels frame.lists (omega (arith, all)) in
    ap (λ (n : ℕ). interleaved n (channels_in (frames ++ frame ∷ []) channels))
    (let next : blocks_of frames + suc count ≡ suc (blocks_of frames + count) = omega arith in next)
    ∙ ap (λ (xs : List ℤ). xs ++ frame_at (channels_in (frames ++ frame ∷ []) channels) (blocks_of frames + count))
    (interleaved_behind channels count frames frame are all)
    ∙ ap (λ (xs : List ℤ). (interleaved (blocks_of frames) (channels_in frames channels) ++ interleaved count frame.lists) ++ xs)
    (frame_behind channels channels count frames frame are (omega arith) all ∙ ap (λ (xs : List (List ℤ)). frame_at xs count) whole)
    ∙ append_assoc (interleaved (blocks_of frames) (channels_in frames channels)) (interleaved count frame.lists) (frame_at frame.lists count)

-- what the MD5 is of, one frame more
pub bytes_of-push : (info : Info) (frames : List FlacFrame) (frame : FlacFrame) → AreEven info.channels frames → info.channels ≡ length frame.lists
    → bytes_of (sound_in info frames) ++ flat_map (in_bytes (bytes_for info.depth)) (interleaved (block_of frame) frame.lists)
    ≡ bytes_of (sound_in info (frames ++ frame ∷ []))
bytes_of-push info frames frame are all =
    sym (ap (λ (n : ℕ). flat_map (whole_bytes info.depth) (interleaved n (channels_in (frames ++ frame ∷ []) info.channels))) (sum_by_push block_of frames frame)
    ∙ ap (flat_map (whole_bytes info.depth)) (interleaved_behind info.channels (block_of frame) frames frame are all)
    ∙ flat_map-append (whole_bytes info.depth) (interleaved (blocks_of frames) (channels_in frames info.channels)) (interleaved (block_of frame) frame.lists))
