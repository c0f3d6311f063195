-- The lists of a sound's samples, one frame more, and at the end.
use Rattle.std.proofs.Common.{◌≡◌, ◌≤◌, ◌+◌, ℕ, zero, suc, List, [], ◌∷◌, ◌++◌, length, take, drop, get_or, map, replicate, Vec, Global, Ok, refl, ap, sym, ◌∙◌, subst, arith}
use Rattle.std.specs.Prelude.{ℤ, Option}
use Rattle.std.specs.Simd.{first_chunks}
use Rattle.std.proofs.lemmas.List.{take_more, take_all, length-map, length-take-le, replicate_more}
use Rattle.std.proofs.lemmas.List.Elements.{All-get_or}
use Rattle.lib_base.specs.Sounds.{samples_of}
use Rattle.file_model.specs.declared.flac_info.Info.{Info}
use Rattle.file_model.specs.FlacFile.{blocks_of, channel_in, channels_in, sound_in, sound_at, IsFlac}
use Rattle.file_model.specs.FlacFrame.{FlacFrame}
use Rattle.flac_frames.specs.declared.frame.FrameEnd.{FrameEnd}
use Rattle.flac_frames.specs.Frames.{frame_in}
use Rattle.flac_stream.specs.declared.blocks.Block.{Block as Stored}
use Rattle.flac_stream.specs.declared.frames.Frames.{Frames}
use Rattle.flac_stream.specs.Blocks.{IsOpening}
use Rattle.flac_stream.specs.Hearing.{HearNone, HearsMore, joined, AreDecoded}
use Rattle.flac_stream.proofs.Endings.{heard_whole}
use Rattle.flac_stream.proofs.FileSounds.{length-channels_in, IsFlac_sounds}
use Rattle.flac_stream.proofs.Hearing.{length-first_chunks, channel_in-push}

-- the lists of vectors
abbrev pub items_of : List (Vec ℤ Global) → List (List ℤ)
items_of vectors = map (λ (v : Vec ℤ Global). v.items) vectors

-- there are as many lists as channels
pub as_many : (info : Info) (bytes : List ℕ) (start at : ℕ) (heard : Frames) (vectors : List (Vec ℤ Global))
    → AreDecoded info bytes start at heard (items_of vectors) → length vectors ≡ info.channels
as_many info bytes start at heard vectors d =
    sym (length-map vectors (λ (v : Vec ℤ Global). v.items)) ∙ ap length d.lists_are ∙ length-channels_in d.frames_are.frames info.channels

-- ---- no frame yet

none_in : (channels : ℕ) → channels_in [] channels ≡ replicate channels []
none_in zero = refl
none_in (suc channels) =
    ap (λ (xs : List (List ℤ)). xs ++ [] ∷ []) (none_in channels) ∙ replicate_more channels []
    ∙ ap (λ (n : ℕ). replicate n []) (let next : channels + 1 ≡ suc channels = omega arith in next)

-- ---- one frame more

joined-push : (lists others : List (List ℤ)) (xs ys : List ℤ) → length lists ≡ length others
    → joined (lists ++ xs ∷ []) (others ++ ys ∷ []) ≡ joined lists others ++ (xs ++ ys) ∷ []
joined-push [] [] xs ys same = refl
joined-push [] (y ∷ others) xs ys same = absurd (omega (arith, same))
joined-push (x ∷ lists) [] xs ys same = absurd (omega (arith, same))
joined-push (x ∷ lists) (y ∷ others) xs ys same =
    ap (λ (rest : List (List ℤ)). (x ++ y) ∷ rest) (joined-push lists others xs ys (omega (arith, same)))

joined_first : (frames : List FlacFrame) (frame : FlacFrame) (count : ℕ) → count ≤ length frame.lists
    → joined (channels_in frames count) (take count frame.lists) ≡ channels_in (frames ++ frame ∷ []) count
joined_first frames frame zero few = refl
joined_first frames frame (suc count) few =
    ap (joined (channels_in frames (suc count)))
    (ap (λ (n : ℕ). take n frame.lists) (let next : suc count ≡ count + 1 = omega arith in next)
    ∙ take_more frame.lists count [] (omega (arith, few)))
    ∙ joined-push (channels_in frames count) (take count frame.lists) (channel_in frames count) (get_or frame.lists count [])
    (length-channels_in frames count ∙ sym (length-first (omega (arith, few))))
    ∙ ap (λ (lists : List (List ℤ)). lists ++ (channel_in frames count ++ get_or frame.lists count []) ∷ [])
    (joined_first frames frame count (omega (arith, few)))
    ∙ ap (λ (xs : List ℤ). channels_in (frames ++ frame ∷ []) count ++ xs ∷ []) (sym (channel_in-push frames frame count))
  where
    length-first : count ≤ length frame.lists → length (take count frame.lists) ≡ count
    length-first within = length-take-le count frame.lists within

pub decoded_none : (info : Info) (bytes : List ℕ) (start : ℕ) (heard : Frames) (vectors : List (Vec ℤ Global))
    → HearNone info bytes start heard → items_of vectors ≡ replicate info.channels [] → AreDecoded info bytes start start heard (items_of vectors)
decoded_none info bytes start heard vectors none are = record {
  frames_are = none.0;
  lists_are =
      are ∙ sym (none_in info.channels) ∙ ap (λ (frames : List FlacFrame). channels_in frames info.channels) (sym none.1);
}

-- the lists of a block's channels
abbrev pub chunks : ℕ → ℕ → List ℤ → List (List ℤ)
chunks block count cells = first_chunks block count cells

pub decoded_more : (info : Info) (bytes : List ℕ) (start at : ℕ) (old new : Frames) (vectors next : List (Vec ℤ Global)) (cells : List ℤ) (end : FrameEnd)
    → AreDecoded info bytes start at old (items_of vectors)
    → HearsMore info bytes at end.next (frame_in cells info.channels at end) old new
    → items_of next ≡ joined (items_of vectors) (chunks end.block (length vectors) cells)
    → AreDecoded info bytes start end.next new (items_of next)
decoded_more info bytes start at old new vectors next cells end d hears is =
    let more = hears start d.frames_are in
    let frame : FlacFrame = frame_in cells info.channels at end in
    let many = as_many info bytes start at old vectors d in
    let all = length-first_chunks end.block info.channels cells in
    record {
      frames_are = more.0;
      lists_are =
          is ∙ ap (λ (n : ℕ). joined (items_of vectors) (chunks end.block n cells)) many
          ∙ ap (λ (lists : List (List ℤ)). joined lists frame.lists) d.lists_are
          ∙ ap (joined (channels_in d.frames_are.frames info.channels)) (sym (take_all info.channels frame.lists (omega (arith, all))))
          ∙ joined_first d.frames_are.frames frame info.channels (omega (arith, all))
          ∙ ap (λ (frames : List FlacFrame). channels_in frames info.channels) (sym more.1);
    }

-- ---- the end

-- these lists are the sound of the file
pub decoded_is : (bytes : List ℕ) (info : Info) (spans : List Stored) (comments : Option ℕ) (start : ℕ) (heard : Frames) (lists : List (List ℤ))
    → IsOpening bytes info spans comments start → (d : AreDecoded info bytes start (length bytes) heard lists)
    → sound_at info d.frames_are.frames ≡ Ok (sound_in info d.frames_are.frames)
    → IsFlac bytes (record { depth = info.depth; frames = length (samples_of lists 0); lists = lists })
decoded_is bytes info spans comments start heard lists opening d met =
    let frames = d.frames_are.frames in
    let is_flac : IsFlac bytes (sound_in info frames) = (
      opening.opened.blocks,
      info,
      frames,
      record {
        frame_bytes = drop start bytes;
        head = opening.opened.head;
        says = opening.says;
        whole = heard_whole info bytes start frames d.frames_are.goes;
        sounds = met;
      },
    ) in
    let is_sound = IsFlac_sounds bytes (sound_in info frames) is_flac in
    let long = All-get_or (λ (xs : List ℤ). length xs ≡ blocks_of frames) (channels_in frames info.channels) 0 [] is_sound.has_channel is_sound.equal in
    subst (λ (xs : List (List ℤ)). IsFlac bytes (record { depth = info.depth; frames = length (samples_of xs 0); lists = xs })) (sym d.lists_are)
    (subst (λ (n : ℕ). IsFlac bytes (record { depth = info.depth; frames = n; lists = channels_in frames info.channels })) (sym long) is_flac)
