-- A file's frames, one after another.
use Rattle.std.proofs.Common.{◌≡◌, ◌≤◌, ◌<◌, ◌+◌, ◌-◌, ◌*◌, inl, inr, ℕ, Bool, true, false, List, [], ◌∷◌, ◌++◌, length, drop, length-drop, Result, Ok, Err, refl, ap, sym, ◌∙◌, subst, arith}
use Rattle.std.specs.Prelude.{ℤ}
use Rattle.std.specs.List.{flat_map, sum_by}
use Rattle.std.specs.Simd.{first_chunks}
use Rattle.std.proofs.lemmas.List.{drop-drop}
use Rattle.std.proofs.lemmas.List.Sums.{sum_by_push}
use Rattle.lib_base.specs.declared.outcomes.Broken.{Broken as Fault}
use Rattle.file_model.specs.declared.flac_info.Info.{Info}
use Rattle.file_model.specs.declared.flac_rules.FlacRule.{FlacRule}
use Rattle.file_model.specs.FlacFile.{block_of, blocks_of, NextFrame, FramesUpTo, sound_in, bytes_of}
use Rattle.file_model.specs.FlacFrame.{FlacFrame}
use Rattle.file_model.specs.Pcm.{interleaved}
use Rattle.file_model.specs.Reading.{ReadsAsFlac, broken}
use Rattle.file_model.proofs.FlacLaws.{FramesUpTo-push, blocks_behind}
use Rattle.flac_frames.specs.declared.frame.FrameEnd.{FrameEnd}
use Rattle.flac_frames.specs.Answers.{refusal_at}
use Rattle.flac_frames.specs.Frames.{frame_in}
use Rattle.flac_stream.specs.declared.digest.SoundDigest.{SoundDigest}
use Rattle.flac_stream.specs.declared.frames.FramePlace.{FramePlace}
use Rattle.flac_stream.specs.declared.frames.Frames.{Frames}
use Rattle.flac_stream.specs.Frames.{in_bytes, bytes_for, FedFrame, is_asked, WasFed, IsEven, AreEven, places_from, end_from, IsStarted, AreHeard}
use Rattle.flac_stream.specs.Hearing.{HearsMore}
use Rattle.flac_stream.proofs.Hearing.{length-first_chunks, length-channel, AreEven-push, bytes_of-push}

-- ---- places

places_from-push : (frames : List FlacFrame) (at before : ℕ) (frame : FlacFrame)
    → places_from at before (frames ++ frame ∷ [])
    ≡ places_from at before frames ++ record { at = end_from at frames; first = blocks_behind before frames } ∷ []
places_from-push [] at before frame = refl
places_from-push (x ∷ xs) at before frame =
    ap (λ (places : List FramePlace). record { at = at; first = before } ∷ places) (places_from-push xs (at + x.length) (before + block_of x) frame)

end_from-push : (frames : List FlacFrame) (at : ℕ) (frame : FlacFrame) → end_from at (frames ++ frame ∷ []) ≡ end_from at frames + frame.length
end_from-push [] at frame = refl
end_from-push (x ∷ xs) at frame = end_from-push xs (at + x.length) frame

abbrev place_of : ℕ → ℕ → FramePlace
place_of at before = record { at = at; first = before }

-- ---- none yet

pub none_heard : (info : Info) (bytes : List ℕ) (start : ℕ) (places : List FramePlace) (digest : SoundDigest) → places ≡ [] → start ≤ length bytes → WasFed (is_asked info.md5) digest []
    → (h : AreHeard info bytes start start 0 places digest) × (h.frames ≡ [])
none_heard info bytes start places digest none inside fed = (
  record {
    frames = [];
    goes = refl;
    count_is = refl;
    even = tt;
    places_are = none;
    end_is = refl;
    inside = inside;
    fed = fed;
  },
  refl,
)

-- ---- one frame more

pub heard_more : (info : Info) (bytes : List ℕ) (start at before : ℕ) (places : List FramePlace) (digest next : SoundDigest) (cells : List ℤ) (end : FrameEnd)
    (count : ℕ) (grown : List FramePlace)
    → (h : AreHeard info bytes start at before places digest) → 1 ≤ info.channels → info.channels * end.block ≤ length cells
    → NextFrame info before (drop at bytes) (Ok (frame_in cells info.channels at end)) → at < end.next → end.next ≤ length bytes
    → FedFrame (bytes_for info.depth) end.block info.channels cells digest next
    → count ≡ before + end.block → grown ≡ places ++ record { at = at; first = before } ∷ []
    → (more : AreHeard info bytes start end.next count grown next) × (more.frames ≡ h.frames ++ frame_in cells info.channels at end ∷ [])
heard_more info bytes start at before places digest next cells end count grown h some room comes moves inside feeds is_count is_grown =
    let frame : FlacFrame = frame_in cells info.channels at end in
    let block : block_of frame ≡ end.block = length-channel end.block info.channels 0 cells (omega (arith, some)) room in
    let all : info.channels ≡ length frame.lists = sym (length-first_chunks end.block info.channels cells) in
    let here : NextFrame info (blocks_of h.frames) (drop at bytes) (Ok frame) =
    subst (λ (n : ℕ). NextFrame info n (drop at bytes) (Ok frame)) (sym h.count_is) comes in
    let behind : drop frame.length (drop at bytes) ≡ drop end.next bytes =
    drop-drop (end.next - at) at bytes ∙ ap (λ (n : ℕ). drop n bytes) (let whole : at + (end.next - at) ≡ end.next = omega (arith, moves) in whole) in
    let fed = feeds (is_asked info.md5) (bytes_of (sound_in info h.frames)) h.fed in
    let is_block : bytes_of (sound_in info h.frames) ++ flat_map (in_bytes (bytes_for info.depth)) (interleaved end.block frame.lists)
    ≡ bytes_of (sound_in info h.frames) ++ flat_map (in_bytes (bytes_for info.depth)) (interleaved (block_of frame) frame.lists) =
    ap (λ (n : ℕ). bytes_of (sound_in info h.frames) ++ flat_map (in_bytes (bytes_for info.depth)) (interleaved n frame.lists)) (sym block) in (
      record {
        frames = h.frames ++ frame ∷ [];
        goes =
            subst (λ (xs : List ℕ). FramesUpTo info 0 (drop start bytes) (h.frames ++ frame ∷ []) xs) behind
            (FramesUpTo-push h.frames info 0 (drop start bytes) (drop at bytes) frame h.goes here);
        count_is =
            sum_by_push block_of h.frames frame ∙ ap (λ (n : ℕ). n + block_of frame) h.count_is ∙ ap (λ (n : ℕ). before + n) block ∙ sym is_count;
        even =
            AreEven-push info.channels h.frames frame h.even
            (λ channel less. length-channel end.block info.channels channel cells less room ∙ sym block);
        places_are =
            is_grown ∙ ap (λ (ps : List FramePlace). ps ++ place_of at before ∷ []) h.places_are
            ∙ ap (λ (n : ℕ). places_from start 0 h.frames ++ place_of n before ∷ []) (sym h.end_is)
            ∙ ap (λ (n : ℕ). places_from start 0 h.frames ++ place_of (end_from start h.frames) n ∷ []) (sym h.count_is)
            ∙ sym (places_from-push h.frames start 0 frame);
        end_is =
            end_from-push h.frames start frame ∙ ap (λ (n : ℕ). n + (end.next - at)) h.end_is
            ∙ (let whole : at + (end.next - at) ≡ end.next = omega (arith, moves) in whole);
        inside = inside;
        fed =
            subst (λ (m : List ℕ). WasFed (is_asked info.md5) next m) (is_block ∙ bytes_of-push info h.frames frame h.even all) fed;
      },
      refl,
    )

-- the same, of frames as they are kept
pub hears_more : (info : Info) (bytes : List ℕ) (at : ℕ) (old new : Frames) (cells : List ℤ) (end : FrameEnd)
    → 1 ≤ info.channels → info.channels * end.block ≤ length cells
    → NextFrame info old.count (drop at bytes) (Ok (frame_in cells info.channels at end)) → at < end.next → end.next ≤ length bytes
    → FedFrame (bytes_for info.depth) end.block info.channels cells old.digest new.digest
    → new.count ≡ old.count + end.block → new.places.items ≡ old.places.items ++ record { at = at; first = old.count } ∷ []
    → HearsMore info bytes at end.next (frame_in cells info.channels at end) old new
hears_more info bytes at old new cells end some room comes moves inside feeds is_count is_grown = λ start h.
    heard_more info bytes start at old.count old.places.items old.digest new.digest cells end new.count new.places.items h some room comes moves inside
    feeds is_count is_grown

-- ---- a frame that is refused

pub frame_refused : (info : Info) (bytes : List ℕ) (start at before : ℕ) (places : List FramePlace) (digest : SoundDigest) (fault : Fault)
    → IsStarted bytes info start → AreHeard info bytes start at before places digest → at < length bytes
    → (rule : FlacRule) → NextFrame info before (drop at bytes) (Err rule) → fault ≡ refusal_at at rule
    → ReadsAsFlac bytes (broken fault.rule fault.place)
frame_refused info bytes start at before places digest fault started h more rule breaks is =
    let left = length-drop at bytes in
    let there : fault.place ≡ at = ap (λ (f : Fault). f.place) is in (
      rule,
      ap (λ (f : Fault). f.rule) is,
      inr (inr (inr (inl (record {
        blocks = started.blocks;
        frame_bytes = drop start bytes;
        head = started.head;
        info = info;
        says = started.says;
        frames = h.frames;
        rest = drop at bytes;
        up_to_here = h.goes;
        some = omega (arith, left, more);
        breaks = subst (λ (n : ℕ). NextFrame info n (drop at bytes) (Err rule)) (sym h.count_is) breaks;
        place_is = omega (arith, left, there, more);
      })))),
    )
