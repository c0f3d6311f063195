-- A FLAC file reads as one thing: it has one sound, and breaks no rule; any other file breaks one
-- rule first, at one place.
use Rattle.std.proofs.Common.{◌≡◌, ◌<◌, ◌+◌, inl, inr, ℕ, Bool, true, false, List, [], ◌∷◌, ◌++◌, length, drop, append_assoc, append-nil, Result, Ok, Err, refl, ap, sym, ◌∙◌, subst, arith}
use Rattle.std.specs.Prelude.{fold, codes}
use Rattle.lib_base.specs.Sounds.{part}
use Rattle.lib_base.specs.declared.outcomes.Rule.{Rule}
use Rattle.file_model.specs.declared.flac_info.Info.{Info}
use Rattle.file_model.specs.declared.flac_rules.FlacRule.{FlacRule}
use Rattle.file_model.specs.declared.flac_rules.FlacRule.TheVariants.{CutFrame}
use Rattle.file_model.specs.Bits.{bits}
use Rattle.file_model.specs.Fields.{field}
use Rattle.file_model.specs.FlacBreaks.{IsNoFlac, FlacBreaks}
use Rattle.file_model.specs.FlacFile.{FlacBreak, FlacBlock, BlockRead, block_at, BlocksUpTo, AreBlocks, info_at, block_of, blocks_of, NextFrame, FramesUpTo, sound_at, first_content, IsFlacOf, IsFlac}
use Rattle.file_model.specs.FlacFrame.{FlacFrame}
use Rattle.file_model.specs.FlacHeader.{codes_at, header_at}
use Rattle.file_model.specs.FlacRules.{flac_rule_of}
use Rattle.file_model.specs.Outcomes.{Is, Then}
use Rattle.file_model.specs.Pcm.{Pcm}
use Rattle.file_model.specs.Reading.{Reading, accepted, broken, ReadsAsFlac}
use Rattle.file_model.proofs.FrameLaws.{Body_decides}
use Rattle.file_model.proofs.OutcomesLemmas.{HoldsOnce, is_decides, then_decides}

-- ---- blocks

-- the next block, where it goes on behind it
abbrev pub going_on : FlacBlock → List ℕ → Result BlockRead FlacRule
going_on block more = Ok (record { is_last = false; block = block; rest = more })

-- one block more
pub BlocksUpTo-push : (blocks before : List FlacBlock) (bytes rest : List ℕ) (block : FlacBlock) (more : List ℕ)
    → BlocksUpTo before bytes blocks rest → block_at (before ++ blocks) rest ≡ going_on block more
    → BlocksUpTo before bytes (blocks ++ block ∷ []) more
BlocksUpTo-push [] before bytes rest block more goes next =
    (more, ap (block_at before) goes ∙ ap (λ (b : List FlacBlock). block_at b rest) (sym (append-nil before)) ∙ next, refl)
BlocksUpTo-push (x ∷ xs) before bytes rest block more goes next = (
  goes.0,
  goes.1,
  BlocksUpTo-push xs (before ++ x ∷ []) goes.0 rest block more goes.2
      (ap (λ (b : List FlacBlock). block_at b rest) (append_assoc before (x ∷ []) xs) ∙ next),
)

-- a last block, or none
abbrev IsStop : Result BlockRead FlacRule → Type 0
IsStop (Ok read) = read.is_last ≡ true
IsStop (Err rule) = Unit {0}

goes_on : (block : FlacBlock) (more : List ℕ) (out : Result BlockRead FlacRule) → IsStop out → out ≡ going_on block more → ⊥
goes_on block more (Ok read) stop is =
    let same : read ≡ record { is_last = false; block = block; rest = more } = cc in
    let flag = sym stop ∙ ap (λ (r : BlockRead). r.is_last) same in cc
goes_on block more (Err rule) stop is = cc

-- behind these blocks no other one goes on: what stands at the rest is this
record StopsAt (bytes : List ℕ) (blocks : List FlacBlock) (rest : List ℕ) (out : Result BlockRead FlacRule) : Type 0 where
  up_to_here : BlocksUpTo [] bytes blocks rest
  gives : block_at blocks rest ≡ out
  stops : IsStop out

-- bytes begin with the same blocks, as far as they go on
BlocksUpTo_unique : (xs ys before : List FlacBlock) (bytes rest end : List ℕ) (out other : Result BlockRead FlacRule)
    → BlocksUpTo before bytes xs rest → block_at (before ++ xs) rest ≡ out → IsStop out
    → BlocksUpTo before bytes ys end → block_at (before ++ ys) end ≡ other → IsStop other
    → (xs ≡ ys) × (rest ≡ end)
BlocksUpTo_unique [] [] before bytes rest end out other h gives stop k gives' stop' = (refl, sym h ∙ k)
BlocksUpTo_unique [] (y ∷ ys) before bytes rest end out other h gives stop k gives' stop' =
    absurd (goes_on y k.0 out stop
    (sym gives ∙ ap (λ (b : List FlacBlock). block_at b rest) (append-nil before) ∙ ap (block_at before) (sym h) ∙ k.1))
BlocksUpTo_unique (x ∷ xs) [] before bytes rest end out other h gives stop k gives' stop' =
    absurd (goes_on x h.0 other stop'
    (sym gives' ∙ ap (λ (b : List FlacBlock). block_at b end) (append-nil before) ∙ ap (block_at before) (sym k) ∙ h.1))
BlocksUpTo_unique (x ∷ xs) (y ∷ ys) before bytes rest end out other h gives stop k gives' stop' =
    let outcomes : going_on x h.0 ≡ going_on y k.0 = sym h.1 ∙ k.1 in
    let same : record { is_last = false; block = x; rest = h.0 } ≡ record { is_last = false; block = y; rest = k.0 } = cc in
    let same_block : x ≡ y = ap (λ (r : BlockRead). r.block) same in
    let goes = subst (λ (r : BlockRead). BlocksUpTo (before ++ r.block ∷ []) r.rest ys end) (sym same) k.2 in
    let rests = BlocksUpTo_unique xs ys (before ++ x ∷ []) h.0 rest end out other
    h.2 (ap (λ (b : List FlacBlock). block_at b rest) (append_assoc before (x ∷ []) xs) ∙ gives) stop
    goes (ap (λ (b : List FlacBlock). block_at b end) (append_assoc before (x ∷ []) ys)
    ∙ ap (λ (b : FlacBlock). block_at (before ++ b ∷ ys) end) same_block ∙ gives') stop' in
    (ap (λ (b : FlacBlock). b ∷ xs) same_block ∙ ap (λ (bs : List FlacBlock). y ∷ bs) rests.0, rests.1)

record SameStop (blocks others : List FlacBlock) (rest end : List ℕ) (out other : Result BlockRead FlacRule) : Type 0 where
  same_blocks : blocks ≡ others
  same_rest : rest ≡ end
  same_outcome : out ≡ other

StopsAt_unique : (bytes : List ℕ) (blocks others : List FlacBlock) (rest end : List ℕ) (out other : Result BlockRead FlacRule)
    → StopsAt bytes blocks rest out → StopsAt bytes others end other → SameStop blocks others rest end out other
StopsAt_unique bytes blocks others rest end out other h k =
    let same = BlocksUpTo_unique blocks others [] bytes rest end out other h.up_to_here h.gives h.stops k.up_to_here k.gives k.stops in
    record {
      same_blocks = same.0;
      same_rest = same.1;
      same_outcome =
          sym h.gives ∙ ap (λ (b : List FlacBlock). block_at b rest) same.0 ∙ ap (block_at others) same.1 ∙ k.gives;
    }

-- behind whole blocks comes one that breaks a rule
record BlockBreaks (bytes : List ℕ) (found : FlacBreak) : Type 0 where
  before : List FlacBlock
  rest : List ℕ
  up_to_here : BlocksUpTo [] (drop 4 bytes) before rest
  breaks : block_at before rest ≡ Err found.rule
  place_is : found.place + length rest ≡ length bytes

-- the blocks and what is behind them, or the rule that one breaks
abbrev Blocks : List ℕ → Result (List FlacBlock × List ℕ) FlacBreak → Type 0
Blocks bytes (Ok opened) = AreBlocks (drop 4 bytes) opened.0 opened.1
Blocks bytes (Err found) = BlockBreaks bytes found

stops_whole : (bytes rest : List ℕ) (blocks : List FlacBlock) (h : AreBlocks bytes blocks rest)
    → StopsAt bytes h.before h.last_bytes (Ok (record { is_last = true; block = h.last; rest = rest }))
stops_whole bytes rest blocks h = record { up_to_here = h.up_to_last; gives = h.ends; stops = refl }

stops_broken : (bytes : List ℕ) (found : FlacBreak) (h : BlockBreaks bytes found) → StopsAt (drop 4 bytes) h.before h.rest (Err found.rule)
stops_broken bytes found h = record { up_to_here = h.up_to_here; gives = h.breaks; stops = tt }

same_break : (one other : FlacBreak) → one.rule ≡ other.rule → one.place ≡ other.place → one ≡ other
same_break one other rules places =
    ap (λ (r : FlacRule). record { rule = r; place = one.place }) rules ∙ ap (λ (p : ℕ). record { rule = other.rule; place = p }) places

-- a place is told by what is behind it
same_place : (p q whole : ℕ) (rest end : List ℕ) → rest ≡ end → p + length rest ≡ whole → q + length end ≡ whole → p ≡ q
same_place p q whole rest end same here there = let sizes = ap length same in omega (arith, sizes, here, there)

Blocks_decides : (bytes : List ℕ) → HoldsOnce (Blocks bytes)
Blocks_decides bytes (Ok (blocks, rest)) (Ok (others, end)) h k =
    let same = StopsAt_unique (drop 4 bytes) _ _ _ _ _ _ (stops_whole _ rest blocks h) (stops_whole _ end others k) in
    let outcomes = same.same_outcome in
    let reads : record { is_last = true; block = h.last; rest = rest } ≡ record { is_last = true; block = k.last; rest = end } = cc in
    let same_rest : rest ≡ end = ap (λ (r : BlockRead). r.rest) reads in
    let same_last : h.last ≡ k.last = ap (λ (r : BlockRead). r.block) reads in
    let same_blocks : blocks ≡ others =
    h.blocks_are ∙ ap (λ (b : List FlacBlock). b ++ h.last ∷ []) same.same_blocks
    ∙ ap (λ (b : FlacBlock). k.before ++ b ∷ []) same_last ∙ sym k.blocks_are in
    ap (λ (b : List FlacBlock). Ok (b, rest)) same_blocks ∙ ap (λ (r : List ℕ). Ok (others, r)) same_rest
Blocks_decides bytes (Ok (blocks, rest)) (Err found) h k =
    let same = (StopsAt_unique (drop 4 bytes) _ _ _ _ _ _ (stops_whole _ rest blocks h) (stops_broken bytes found k)).same_outcome in cc
Blocks_decides bytes (Err found) (Ok (others, end)) h k =
    let same = (StopsAt_unique (drop 4 bytes) _ _ _ _ _ _ (stops_broken bytes found h) (stops_whole _ end others k)).same_outcome in cc
Blocks_decides bytes (Err found) (Err other) h k =
    let same = StopsAt_unique (drop 4 bytes) _ _ _ _ _ _ (stops_broken bytes found h) (stops_broken bytes other k) in
    let outcomes = same.same_outcome in
    let rules : found.rule ≡ other.rule = cc in
    ap Err (same_break found other rules (same_place _ _ _ h.rest k.rest same.same_rest h.place_is k.place_is))

-- ---- frames

-- what stands next has at most one outcome: a frame, whose samples are one, or one rule
pub NextFrame_decides : (info : Info) (before : ℕ) (bytes : List ℕ) → HoldsOnce (NextFrame info before bytes)
NextFrame_decides info before bytes =
    then_decides _ _ (is_decides (header_at info bytes))
    (λ header. then_decides _ _ (is_decides _) (λ _. Body_decides info bytes header))

-- the samples of each channel behind frames, where there are so many before them
abbrev pub blocks_behind : ℕ → List FlacFrame → ℕ
blocks_behind before frames = fold (λ (n : ℕ) (frame : FlacFrame). n + block_of frame) before frames

-- one frame more
pub FramesUpTo-push : (frames : List FlacFrame) (info : Info) (before : ℕ) (bytes rest : List ℕ) (frame : FlacFrame)
    → FramesUpTo info before bytes frames rest → NextFrame info (blocks_behind before frames) rest (Ok frame)
    → FramesUpTo info before bytes (frames ++ frame ∷ []) (drop frame.length rest)
FramesUpTo-push [] info before bytes rest frame goes next =
    (subst (λ (xs : List ℕ). NextFrame info before xs (Ok frame)) (sym goes) next, ap (drop frame.length) goes)
FramesUpTo-push (x ∷ xs) info before bytes rest frame goes next =
    (goes.0, FramesUpTo-push xs info (before + block_of x) (drop x.length bytes) rest frame goes.1 next)

-- no frame stands next
abbrev NoFrame : Info → ℕ → List ℕ → Type 0
NoFrame info before bytes = (frame : FlacFrame) → NextFrame info before bytes (Ok frame) → ⊥

-- no bytes are no header
no_header : (info : Info) → header_at info [] ≡ Err CutFrame
unfolding bits field codes_at header_at
no_header info = refl

none_at_end : (info : Info) (before : ℕ) → NoFrame info before []
none_at_end info before frame (inl (header, is, next)) = let cut = no_header info in cc
none_at_end info before frame (inr (fault, is, out)) = cc

none_where_broken : (info : Info) (before : ℕ) (bytes : List ℕ) (rule : FlacRule) → NextFrame info before bytes (Err rule) → NoFrame info before bytes
none_where_broken info before bytes rule breaks frame next =
    let same = NextFrame_decides info before bytes (Err rule) (Ok frame) breaks next in cc

-- bytes begin with the same frames, as far as there are any
FramesUpTo_unique : (xs ys : List FlacFrame) (info : Info) (before : ℕ) (bytes rest end : List ℕ)
    → FramesUpTo info before bytes xs rest → NoFrame info (blocks_behind before xs) rest
    → FramesUpTo info before bytes ys end → NoFrame info (blocks_behind before ys) end
    → (xs ≡ ys) × (rest ≡ end)
FramesUpTo_unique [] [] info before bytes rest end h none k none' = (refl, sym h ∙ k)
FramesUpTo_unique [] (y ∷ ys) info before bytes rest end h none k none' =
    absurd (none y (subst (λ (xs : List ℕ). NextFrame info before xs (Ok y)) h k.0))
FramesUpTo_unique (x ∷ xs) [] info before bytes rest end h none k none' =
    absurd (none' x (subst (λ (xs : List ℕ). NextFrame info before xs (Ok x)) k h.0))
FramesUpTo_unique (x ∷ xs) (y ∷ ys) info before bytes rest end h none k none' =
    let outcomes = NextFrame_decides info before bytes (Ok x) (Ok y) h.0 k.0 in
    let same : x ≡ y = cc in
    let goes = subst (λ (f : FlacFrame). FramesUpTo info (before + block_of f) (drop f.length bytes) ys end) (sym same) k.1 in
    let none'' = subst (λ (f : FlacFrame). NoFrame info (blocks_behind (before + block_of f) ys) end) (sym same) none' in
    let rests = FramesUpTo_unique xs ys info (before + block_of x) (drop x.length bytes) rest end h.1 none goes none'' in
    (ap (λ (f : FlacFrame). f ∷ xs) same ∙ ap (λ (fs : List FlacFrame). y ∷ fs) rests.0, rests.1)

-- behind whole frames come bytes that break a rule
record FrameBreaks (info : Info) (bytes frame_bytes : List ℕ) (found : FlacBreak) : Type 0 where
  frames : List FlacFrame
  rest : List ℕ
  up_to_here : FramesUpTo info 0 frame_bytes frames rest
  some : 0 < length rest
  breaks : NextFrame info (blocks_of frames) rest (Err found.rule)
  place_is : found.place + length rest ≡ length bytes

-- the frames up to the end, or the rule that what stands for one breaks
abbrev Frames : Info → List ℕ → List ℕ → Result (List FlacFrame) FlacBreak → Type 0
Frames info bytes frame_bytes (Ok frames) = FramesUpTo info 0 frame_bytes frames []
Frames info bytes frame_bytes (Err found) = FrameBreaks info bytes frame_bytes found

Frames_decides : (info : Info) (bytes frame_bytes : List ℕ) → HoldsOnce (Frames info bytes frame_bytes)
Frames_decides info bytes frame_bytes (Ok frames) (Ok others) h k =
    ap Ok (FramesUpTo_unique frames others info 0 frame_bytes [] [] h (none_at_end info _) k (none_at_end info _)).0
Frames_decides info bytes frame_bytes (Ok frames) (Err found) h k =
    let same = FramesUpTo_unique frames k.frames info 0 frame_bytes [] k.rest h (none_at_end info _) k.up_to_here
    (none_where_broken info _ k.rest found.rule k.breaks) in
    let sizes = ap length same.1 in
    let some = k.some in absurd (omega (arith, sizes, some))
Frames_decides info bytes frame_bytes (Err found) (Ok others) h k =
    let same = FramesUpTo_unique h.frames others info 0 frame_bytes h.rest [] h.up_to_here
    (none_where_broken info _ h.rest found.rule h.breaks) k (none_at_end info _) in
    let sizes = ap length same.1 in
    let some = h.some in absurd (omega (arith, sizes, some))
Frames_decides info bytes frame_bytes (Err found) (Err other) h k =
    let same = FramesUpTo_unique h.frames k.frames info 0 frame_bytes h.rest k.rest
    h.up_to_here (none_where_broken info _ h.rest found.rule h.breaks)
    k.up_to_here (none_where_broken info _ k.rest other.rule k.breaks) in
    let there : NextFrame info (blocks_of k.frames) k.rest (Err found.rule) =
    subst (λ (xs : List ℕ). NextFrame info (blocks_of k.frames) xs (Err found.rule)) same.1
    (subst (λ (fs : List FlacFrame). NextFrame info (blocks_of fs) h.rest (Err found.rule)) same.0 h.breaks) in
    let outcomes = NextFrame_decides info (blocks_of k.frames) k.rest (Err found.rule) (Err other.rule) there k.breaks in
    let rules : found.rule ≡ other.rule = cc in
    ap Err (same_break found other rules (same_place _ _ _ h.rest k.rest same.1 h.place_is k.place_is))

-- ---- the file

-- the mark at the start, or the rule that it breaks
abbrev Mark : List ℕ → Result Bool FlacBreak → Type 0
Mark bytes (Ok fact) = (part bytes 0 4 ≡ codes "fLaC") × (fact ≡ true)
Mark bytes (Err found) = IsNoFlac bytes found.rule found.place

Mark_decides : (bytes : List ℕ) → HoldsOnce (Mark bytes)
Mark_decides bytes (Ok fact) (Ok other) h k = ap Ok (h.1 ∙ sym k.1)
Mark_decides bytes (Ok fact) (Err other) h k = absurd (k.other h.0)
Mark_decides bytes (Err found) (Ok fact) h k = absurd (h.other k.0)
Mark_decides bytes (Err found) (Err other) h k =
    ap Err (same_break found other (h.rule_is ∙ sym k.rule_is) (h.place_is ∙ sym k.place_is))

-- the parts of a file in turn: its sound, or the rule that is broken first, and where
abbrev Outcome : List ℕ → Result Pcm FlacBreak → Type 0
Outcome bytes =
    Then (Mark bytes) (λ fact.
    Then (Blocks bytes) (λ opened.
    Then (Is (info_at (first_content opened.0))) (λ info.
    Then (Frames info bytes opened.1) (λ frames. Is (sound_at info frames)))))

Outcome_decides : (bytes : List ℕ) → HoldsOnce (Outcome bytes)
Outcome_decides bytes =
    then_decides _ _ (Mark_decides bytes) (λ fact.
    then_decides _ _ (Blocks_decides bytes) (λ opened.
    then_decides _ _ (is_decides (info_at (first_content opened.0))) (λ info.
    then_decides _ _ (Frames_decides info bytes opened.1) (λ frames. is_decides (sound_at info frames)))))

accepts : (bytes : List ℕ) (blocks : List FlacBlock) (info : Info) (frames : List FlacFrame) (sound : Pcm)
    → IsFlacOf bytes blocks info frames sound → Outcome bytes (Ok sound)
accepts bytes blocks info frames sound h =
    inl (true, (h.head.marked, refl), inl ((blocks, h.frame_bytes), h.head.are_blocks, inl (info, sym h.says, inl (frames, h.whole, sym h.sounds))))

breaks : (bytes : List ℕ) (rule : FlacRule) (place : ℕ) → FlacBreaks bytes rule place → Outcome bytes (Err (record { rule = rule; place = place }))
breaks bytes rule place (inl h) = inr (record { rule = rule; place = place }, h, refl)
breaks bytes rule place (inr (inl h)) =
    inl (
      true,
      (h.marked, refl),
      inr (
        record { rule = rule; place = place },
        record { before = h.before; rest = h.rest; up_to_here = h.up_to_here; breaks = h.breaks; place_is = h.place_is },
        refl,
      ),
    )
breaks bytes rule place (inr (inr (inl h))) =
    inl (
      true,
      (h.head.marked, refl),
      inl (
        (h.blocks, h.rest),
        h.head.are_blocks,
        inr (record { rule = rule; place = place }, sym h.breaks, refl),
      ),
    )
breaks bytes rule place (inr (inr (inr (inl h)))) =
    inl (
      true,
      (h.head.marked, refl),
      inl (
        (h.blocks, h.frame_bytes),
        h.head.are_blocks,
        inl (
          h.info,
          sym h.says,
          inr (
            record { rule = rule; place = place },
            record { frames = h.frames; rest = h.rest; up_to_here = h.up_to_here; some = h.some; breaks = h.breaks; place_is = h.place_is },
            refl,
          ),
        ),
      ),
    )
breaks bytes rule place (inr (inr (inr (inr h)))) =
    inl (
      true,
      (h.head.marked, refl),
      inl (
        (h.blocks, h.frame_bytes),
        h.head.are_blocks,
        inl (
          h.info,
          sym h.says,
          inl (h.frames, h.whole, sym h.breaks),
        ),
      ),
    )

-- a FLAC file has one list of blocks
pub one_blocks : (bytes : List ℕ) (blocks others : List FlacBlock) (info info' : Info) (frames frames' : List FlacFrame) (sound sound' : Pcm)
    → IsFlacOf bytes blocks info frames sound → IsFlacOf bytes others info' frames' sound' → blocks ≡ others
one_blocks bytes blocks others info info' frames frames' sound sound' h k =
    let outcomes = Blocks_decides bytes (Ok (blocks, h.frame_bytes)) (Ok (others, k.frame_bytes)) h.head.are_blocks k.head.are_blocks in
    let same : (blocks, h.frame_bytes) ≡ (others, k.frame_bytes) = cc in
    ap (λ (opened : List FlacBlock × List ℕ). opened.0) same

-- a FLAC file has one sound
pub IsFlac_unique : (bytes : List ℕ) (one other : Pcm) → IsFlac bytes one → IsFlac bytes other → one ≡ other
IsFlac_unique bytes one other (blocks, info, frames, h) (blocks', info', frames', k) =
    let same = Outcome_decides bytes (Ok one) (Ok other) (accepts bytes blocks info frames one h) (accepts bytes blocks' info' frames' other k) in cc

-- and breaks no rule
pub IsFlac_breaks_nothing : (bytes : List ℕ) (sound : Pcm) (rule : FlacRule) (place : ℕ) → IsFlac bytes sound → FlacBreaks bytes rule place → ⊥
IsFlac_breaks_nothing bytes sound rule place (blocks, info, frames, h) k =
    let same = Outcome_decides bytes (Ok sound) (Err (record { rule = rule; place = place }))
    (accepts bytes blocks info frames sound h) (breaks bytes rule place k) in cc

-- bytes break one rule first, at one place
pub FlacBreaks_unique : (bytes : List ℕ) (rule other : FlacRule) (place there : ℕ) → FlacBreaks bytes rule place → FlacBreaks bytes other there
    → (rule ≡ other) × (place ≡ there)
FlacBreaks_unique bytes rule other place there h k =
    let outcomes = Outcome_decides bytes (Err (record { rule = rule; place = place })) (Err (record { rule = other; place = there }))
    (breaks bytes rule place h) (breaks bytes other there k) in
    let same : record { rule = rule; place = place } ≡ record { rule = other; place = there } = cc in
    (ap (λ (b : FlacBreak). b.rule) same, ap (λ (b : FlacBreak). b.place) same)

-- a file reads as one thing
pub ReadsAsFlac_unique : (bytes : List ℕ) (one other : Reading) → ReadsAsFlac bytes one → ReadsAsFlac bytes other → one ≡ other
ReadsAsFlac_unique bytes (accepted one) (accepted other) h k = ap accepted (IsFlac_unique bytes one other h k)
ReadsAsFlac_unique bytes (accepted sound) (broken rule place) h k = absurd (IsFlac_breaks_nothing bytes sound k.0 place h k.2)
ReadsAsFlac_unique bytes (broken rule place) (accepted sound) h k = absurd (IsFlac_breaks_nothing bytes sound h.0 place k h.2)
ReadsAsFlac_unique bytes (broken rule place) (broken other there) h k =
    let same = FlacBreaks_unique bytes h.0 k.0 place there h.2 k.2 in
    let rules : rule ≡ other = h.1 ∙ ap flac_rule_of same.0 ∙ sym k.1 in
    ap (λ (r : Rule). broken r place) rules ∙ ap (broken other) same.1
