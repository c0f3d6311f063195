-- A file's blocks, one after another.
use Rattle.std.proofs.Common.{◌≡◌, ◌≤◌, ◌+◌, inl, inr, ℕ, Bool, true, false, cond, not, List, [], ◌∷◌, ◌++◌, length, take, drop, length-take, length-drop, Option, None, Some, Result, Ok, Err, refl, ap, sym, ◌∙◌, arith}
use Rattle.std.specs.Prelude.{◌==◌, ◌&&◌, ◌||◌, nat_le, is_some, codes}
use Rattle.std.specs.List.{list_any}
use Rattle.std.proofs.lemmas.Bool.{eqb-true, ne_eqb}
use Rattle.std.proofs.lemmas.List.{drop-drop}
use Rattle.lib_base.specs.Sounds.{part}
use Rattle.file_model.specs.declared.flac_rules.FlacRule.{FlacRule}
use Rattle.file_model.specs.declared.flac_rules.FlacRule.TheVariants.{CutBlock, InvalidBlock, NoStreaminfo, RepeatedBlock}
use Rattle.file_model.specs.Bits.{bits}
use Rattle.file_model.specs.Fields.{field}
use Rattle.file_model.specs.FlacBreaks.{FlacBreaks}
use Rattle.file_model.specs.FlacFile.{FlacBlock, BlockRead, of_block, may_stand_first, is_repeat, block_at}
use Rattle.file_model.specs.Outcomes.{◌>>=◌, holds}
use Rattle.file_model.proofs.FlacLaws.{BlocksUpTo-push}
use Rattle.flac_stream.specs.declared.blocks.Block.{Block as Stored}
use Rattle.flac_stream.specs.Blocks.{BlockHead, head_at, found_by, may_stand, repeats, tested_at, stored, next_head, head_after, spans_from, comments_from, HasInfo, is_none, AreKept, Walked, Opens}

-- ---- one block

-- a reading in two steps, and what is read of its value
in_steps : {A B C E : Type 0} (read : Result A E) (f : A → Result B E) (g : B → Result C E) (h : A → Result C E)
    → ((value : A) → (f value >>= g) ≡ h value) → ((read >>= f) >>= g) ≡ (read >>= h)
in_steps (Ok value) f g h same = same value
in_steps (Err fault) f g h same = refl

-- the rules of a block, where it may stand and comes again
tests : Bool → Bool → Bool → ℕ → ℕ → List ℕ → Result BlockRead FlacRule
tests stands again is_last kind count bytes = do
  _ ← holds (nat_le (4 + count) (length bytes)) CutBlock
  _ ← holds (not (kind == 127)) InvalidBlock
  _ ← holds stands NoStreaminfo
  _ ← holds (not again) RepeatedBlock
  Ok (found_by (record { is_last = is_last; kind = kind; count = count }) bytes)

-- what is known of the blocks before one
pub record Knows (before : List FlacBlock) (first has : Bool) : Type 0 where
  pub none : first ≡ is_none before
  pub commented : has ≡ list_any (λ (b : FlacBlock). b.kind == 4) before
  pub opened : list_any (λ (b : FlacBlock). b.kind == 0) before ≡ not (is_none before)

stands_same : (before : List FlacBlock) (kind count : ℕ) → may_stand (is_none before) kind count ≡ may_stand_first before kind count
stands_same [] kind count = refl
stands_same (b ∷ bs) kind count = refl

again_by : (info comments found first has : Bool) → (info ≡ true → found ≡ not first) → (comments ≡ true → found ≡ has)
    → cond info (not first) (comments && has) ≡ ((info || comments) && found)
again_by true comments found first has h k = sym (h refl)
again_by false true found first has h k = sym (k refl)
again_by false false found first has h k = refl

again_same : (before : List FlacBlock) (first has : Bool) (kind : ℕ) → Knows before first has → repeats first has kind ≡ is_repeat before kind
again_same before first has kind known =
    again_by (kind == 0) (kind == 4) (list_any (λ (b : FlacBlock). b.kind == kind) before) first has
    (λ is. ap (λ (k : ℕ). list_any (λ (b : FlacBlock). b.kind == k) before) (eqb-true kind 0 is) ∙ known.opened ∙ ap not (sym known.none))
    (λ is. ap (λ (k : ℕ). list_any (λ (b : FlacBlock). b.kind == k) before) (eqb-true kind 4 is) ∙ sym known.commented)

-- the block is tested as the definition does
pub tested_is : (bytes : List ℕ) (before : List FlacBlock) (first has : Bool) → Knows before first has
    → tested_at first has bytes ≡ block_at before bytes
unfolding block_at tested_at head_at tests
tested_is bytes before first has known =
    in_steps (of_block (field 1 (bits bytes))) _ _ _ (λ last.
    in_steps (of_block (field 7 last.1)) _ _ _ (λ kind.
    in_steps (of_block (field 24 kind.1)) _ _ _ (λ count.
    ap (λ (s : Bool). tests s (repeats first has kind.0) (last.0 == 1) kind.0 count.0 bytes)
    (ap (λ (f : Bool). may_stand f kind.0 count.0) known.none ∙ stands_same before kind.0 count.0)
    ∙ ap (λ (a : Bool). tests (may_stand_first before kind.0 count.0) a (last.0 == 1) kind.0 count.0 bytes)
    (again_same before first has kind.0 known))))

-- ---- lists of blocks

comments_by : (here : Bool) (place : ℕ) (more : Option ℕ) (found : Bool) → is_some more ≡ found → is_some (cond here (Some place) more) ≡ (here || found)
comments_by true place more found is = refl
comments_by false place more found is = is

comments_any : (place : ℕ) (blocks : List FlacBlock) → is_some (comments_from place blocks) ≡ list_any (λ (b : FlacBlock). b.kind == 4) blocks
comments_any place [] = refl
comments_any place (b ∷ bs) = comments_by (b.kind == 4) place _ _ (comments_any (place + 1) bs)

neither : (one other : Bool) → (one || other) ≡ false → (one ≡ false) × (other ≡ false)
neither false other is = (refl, is)
neither true other is = absurd cc

comments_none : (place : ℕ) (blocks : List FlacBlock) (block : FlacBlock) → (block.kind == 4) ≡ false
    → comments_from place (blocks ++ block ∷ []) ≡ comments_from place blocks
comments_none place [] block other = ap (λ (t : Bool). cond t (Some place) None) other
comments_none place (b ∷ bs) block other = ap (cond (b.kind == 4) (Some place)) (comments_none (place + 1) bs block other)

comments_here : (place : ℕ) (blocks : List FlacBlock) (block : FlacBlock) → list_any (λ (b : FlacBlock). b.kind == 4) blocks ≡ false
    → (block.kind == 4) ≡ true → comments_from place (blocks ++ block ∷ []) ≡ Some (place + length blocks)
comments_here place [] block none is =
    ap (λ (t : Bool). cond t (Some place) None) is ∙ ap Some (let same : place ≡ place + 0 = omega arith in same)
comments_here place (b ∷ bs) block none is =
    let parts = neither (b.kind == 4) (list_any (λ (x : FlacBlock). x.kind == 4) bs) none in
    ap (λ (t : Bool). cond t (Some place) (comments_from (place + 1) (bs ++ block ∷ []))) parts.0
    ∙ comments_here (place + 1) bs block parts.1 is
    ∙ ap Some (let same : place + 1 + length bs ≡ place + length (b ∷ bs) = omega arith in same)

any_push : (p : FlacBlock → Bool) (blocks : List FlacBlock) (block : FlacBlock) → list_any p blocks ≡ true → list_any p (blocks ++ block ∷ []) ≡ true
any_push p [] block is = cc
any_push p (b ∷ bs) block is = any_step (p b) (list_any p bs) (list_any p (bs ++ block ∷ [])) is (any_push p bs block)
  where
    any_step : (here found more : Bool) → (here || found) ≡ true → (found ≡ true → more ≡ true) → (here || more) ≡ true
    any_step true found more is next = refl
    any_step false found more is next = next is

head_after-push : (head : ℕ) (blocks : List FlacBlock) (block : FlacBlock)
    → head_after head (blocks ++ block ∷ []) ≡ next_head (head_after head blocks) block
head_after-push head [] block = refl
head_after-push head (b ∷ bs) block = head_after-push (next_head head b) bs block

spans_from-push : (head : ℕ) (blocks : List FlacBlock) (block : FlacBlock)
    → spans_from head (blocks ++ block ∷ []) ≡ spans_from head blocks ++ stored (head_after head blocks) block ∷ []
spans_from-push head [] block = refl
spans_from-push head (b ∷ bs) block = ap (λ (rest : List Stored). stored head b ∷ rest) (spans_from-push (next_head head b) bs block)

length-spans_from : (head : ℕ) (blocks : List FlacBlock) → length (spans_from head blocks) ≡ length blocks
length-spans_from head [] = refl
length-spans_from head (b ∷ bs) = let more = length-spans_from (next_head head b) bs in omega (arith, more)

-- ---- the walk

pub walk_begins : (bytes : List ℕ) → 4 ≤ length bytes → Walked bytes 4 [] None
walk_begins bytes long = record {
  blocks = [];
  goes = refl;
  kept = record { spans_are = refl; comments_are = refl; end_is = refl; inside = long; info = λ is. cc };
}

none_by_length : (blocks : List FlacBlock) → (length blocks == 0) ≡ is_none blocks
none_by_length [] = refl
none_by_length (b ∷ bs) = ne_eqb (length (b ∷ bs)) 0 (λ is. omega (arith, is))

opened_by : (bytes : List ℕ) (blocks : List FlacBlock) → (is_none blocks ≡ false → HasInfo bytes blocks)
    → list_any (λ (b : FlacBlock). b.kind == 0) blocks ≡ not (is_none blocks)
opened_by bytes [] info = refl
opened_by bytes (b ∷ bs) info = (info refl).is_there

pub knows : (bytes : List ℕ) (at : ℕ) (spans : List Stored) (comments : Option ℕ) (w : Walked bytes at spans comments)
    → Knows w.blocks (length spans == 0) (is_some comments)
knows bytes at spans comments w = record {
  none =
      ap (λ (n : ℕ). n == 0) (ap length w.kept.spans_are ∙ length-spans_from 4 w.blocks) ∙ none_by_length w.blocks;
  commented = ap is_some w.kept.comments_are ∙ comments_any 0 w.blocks;
  opened = opened_by bytes w.blocks w.kept.info;
}

-- a rule of the next block is broken
pub walk_broken : (bytes : List ℕ) (at : ℕ) (spans : List Stored) (comments : Option ℕ) (rule : FlacRule) → part bytes 0 4 ≡ codes "fLaC"
    → Walked bytes at spans comments → tested_at (length spans == 0) (is_some comments) (drop at bytes) ≡ Err rule
    → FlacBreaks bytes rule at
walk_broken bytes at spans comments rule marked w is =
    inr (inl (record {
      marked = marked;
      before = w.blocks;
      rest = drop at bytes;
      up_to_here = w.goes;
      breaks = sym (tested_is (drop at bytes) w.blocks _ _ (knows bytes at spans comments w)) ∙ is;
      place_is = let long = length-drop at bytes in let inside = w.kept.inside in omega (arith, long, inside);
    }))

-- the same, of flags that say so
pub walk_broken_by : (bytes : List ℕ) (at : ℕ) (spans : List Stored) (comments : Option ℕ) (rule : FlacRule) (n : ℕ) (has : Bool)
    → part bytes 0 4 ≡ codes "fLaC" → n ≡ length spans → has ≡ is_some comments → Walked bytes at spans comments
    → tested_at (n == 0) has (drop at bytes) ≡ Err rule → FlacBreaks bytes rule at
walk_broken_by bytes at spans comments rule n has marked is_n is_has w is =
    walk_broken bytes at spans comments rule marked w
    (ap (λ (m : ℕ). tested_at (m == 0) (is_some comments) (drop at bytes)) (sym is_n)
    ∙ ap (λ (h : Bool). tested_at (n == 0) h (drop at bytes)) (sym is_has) ∙ is)

-- the block that a head tells, at a place
abbrev pub told_at : List ℕ → ℕ → BlockHead → FlacBlock
told_at bytes at head = record { kind = head.kind; content = part (drop at bytes) 4 head.count }

-- STREAMINFO is there, once the first block is
info_more : (bytes : List ℕ) (at : ℕ) (blocks : List FlacBlock) (head : BlockHead) → head_after 4 blocks ≡ at
    → (is_none blocks ≡ false → HasInfo bytes blocks) → may_stand (is_none blocks) head.kind head.count ≡ true
    → at + (4 + head.count) ≤ length bytes → HasInfo bytes (blocks ++ told_at bytes at head ∷ [])
info_more bytes at [] head end info stands inside =
    let parts = both (head.kind == 0) (head.count == 34) stands in
    let count = eqb-true head.count 34 parts.1 in
    record {
      is_there = ap (λ (t : Bool). t || false) parts.0;
      content =
          ap (λ (n : ℕ). part (drop at bytes) 4 n) count
          ∙ ap (λ (n : ℕ). part (drop n bytes) 4 34) (sym end) ∙ ap (take 34) (drop-drop 4 4 bytes);
      inside = omega (arith, inside, count, end);
    }
  where
    both : (one other : Bool) → (one && other) ≡ true → (one ≡ true) × (other ≡ true)
    both true other is = (refl, is)
    both false other is = absurd cc
info_more bytes at (b ∷ bs) head end info stands inside =
    let before = info refl in
    record {
      is_there = any_push (λ (x : FlacBlock). x.kind == 0) (b ∷ bs) (told_at bytes at head) before.is_there;
      content = before.content;
      inside = before.inside;
    }

-- no block of comments stands before another one
comments_more : (blocks : List FlacBlock) (comments : Option ℕ) (block : FlacBlock) (has first : Bool) (place : ℕ)
    → comments ≡ comments_from 0 blocks → has ≡ is_some comments → place ≡ length blocks → repeats first has block.kind ≡ false
    → cond (block.kind == 4) (Some place) comments ≡ comments_from 0 (blocks ++ block ∷ [])
comments_more blocks comments block has first place are is_has is_place once =
    by_kind (block.kind == 4) refl
  where
    none_before : (kind : ℕ) → kind ≡ 4 → repeats first has kind ≡ false → has ≡ false
    none_before kind is not_again = ap (λ (k : ℕ). repeats first has k) (sym is) ∙ not_again

    by_kind : (here : Bool) → (block.kind == 4) ≡ here → cond here (Some place) comments ≡ comments_from 0 (blocks ++ block ∷ [])
    by_kind true is =
        let fresh = none_before block.kind (eqb-true block.kind 4 is) once in
        ap Some is_place
        ∙ sym (comments_here 0 blocks block (sym (comments_any 0 blocks) ∙ ap is_some (sym are) ∙ sym is_has ∙ fresh) is
        ∙ ap Some (let same : 0 + length blocks ≡ length blocks = omega arith in same))
    by_kind false is = are ∙ sym (comments_none 0 blocks block is)

-- a block's head stands there
pub record Stands (bytes : List ℕ) (at : ℕ) (spans : List Stored) (comments : Option ℕ) (head : BlockHead) : Type 0 where
  pub tested : tested_at (length spans == 0) (is_some comments) (drop at bytes) ≡ Ok (found_by head (drop at bytes))
  pub inside : at + (4 + head.count) ≤ length bytes
  pub stands : may_stand (length spans == 0) head.kind head.count ≡ true
  pub once : repeats (length spans == 0) (is_some comments) head.kind ≡ false

-- the same, of flags that say so
pub stands_there : (bytes : List ℕ) (at : ℕ) (spans : List Stored) (comments : Option ℕ) (head : BlockHead) (n : ℕ) (has : Bool)
    → n ≡ length spans → has ≡ is_some comments → tested_at (n == 0) has (drop at bytes) ≡ Ok (found_by head (drop at bytes))
    → at + (4 + head.count) ≤ length bytes → may_stand (n == 0) head.kind head.count ≡ true → repeats (n == 0) has head.kind ≡ false
    → Stands bytes at spans comments head
stands_there bytes at spans comments head n has is_n is_has tested inside stands once = record {
  tested =
      ap (λ (m : ℕ). tested_at (m == 0) (is_some comments) (drop at bytes)) (sym is_n)
      ∙ ap (λ (h : Bool). tested_at (n == 0) h (drop at bytes)) (sym is_has) ∙ tested;
  inside = inside;
  stands = ap (λ (m : ℕ). may_stand (m == 0) head.kind head.count) (sym is_n) ∙ stands;
  once =
      ap (λ (m : ℕ). repeats (m == 0) (is_some comments) head.kind) (sym is_n)
      ∙ ap (λ (h : Bool). repeats (n == 0) h head.kind) (sym is_has) ∙ once;
}

-- one more span
pub record IsNext (at : ℕ) (head : BlockHead) (span : Stored) : Type 0 where
  pub kind : span.kind ≡ head.kind
  pub start : span.content.start ≡ at + 4
  pub end : span.content.end ≡ at + 4 + head.count

same_stored : (span : Stored) (at : ℕ) (block : FlacBlock) → span.kind ≡ block.kind → span.content.start ≡ at + 4
    → span.content.end ≡ at + 4 + length block.content → span ≡ stored at block
same_stored span at block kind start end =
    ap (λ (k : ℕ). record { kind = k; content = span.content }) kind
    ∙ ap (λ (s : ℕ). record { kind = block.kind; content = record { start = s; end = span.content.end } }) start
    ∙ ap (λ (e : ℕ). record { kind = block.kind; content = record { start = at + 4; end = e } }) end

length-told : (bytes : List ℕ) (at : ℕ) (head : BlockHead) → at + (4 + head.count) ≤ length bytes → length (told_at bytes at head).content ≡ head.count
length-told bytes at head inside =
    let long = length-drop at bytes in
    let left = length-drop 4 (drop at bytes) in
    length-take head.count (drop 4 (drop at bytes)) ∙ omega (arith, long, left, inside)

kept_more : (bytes : List ℕ) (at : ℕ) (spans : List Stored) (comments : Option ℕ) (head : BlockHead) (span : Stored)
    (w : Walked bytes at spans comments) → Stands bytes at spans comments head → IsNext at head span
    → AreKept bytes span.content.end (spans ++ span ∷ []) (cond (head.kind == 4) (Some (length spans)) comments)
    (w.blocks ++ told_at bytes at head ∷ [])
kept_more bytes at spans comments head span w is next =
    let block = told_at bytes at head in
    let long = length-told bytes at head is.inside in
    let known = knows bytes at spans comments w in
    let is_span : span ≡ stored at block =
    same_stored span at block next.kind next.start (next.end ∙ ap (λ (n : ℕ). at + 4 + n) (sym long)) in
    let end = next.end in
    let inside = is.inside in
    record {
      spans_are =
          ap (λ (s : List Stored). s ++ span ∷ []) w.kept.spans_are
          ∙ ap (λ (s : Stored). spans_from 4 w.blocks ++ s ∷ []) (is_span ∙ ap (λ (a : ℕ). stored a block) (sym w.kept.end_is))
          ∙ sym (spans_from-push 4 w.blocks block);
      comments_are =
          comments_more w.blocks comments block (is_some comments) (length spans == 0) (length spans) w.kept.comments_are refl
          (ap length w.kept.spans_are ∙ length-spans_from 4 w.blocks) is.once;
      end_is =
          head_after-push 4 w.blocks block ∙ ap (λ (a : ℕ). next_head a block) w.kept.end_is
          ∙ (let same : at + 4 + length block.content ≡ span.content.end = omega (arith, long, end) in same);
      inside = omega (arith, end, inside);
      info = λ _. info_more bytes at w.blocks head w.kept.end_is w.kept.info
          (ap (λ (f : Bool). may_stand f head.kind head.count) (sym known.none) ∙ is.stands) is.inside;
    }

-- what is behind the block
behind : (bytes : List ℕ) (at count end : ℕ) → end ≡ at + 4 + count → drop (4 + count) (drop at bytes) ≡ drop end bytes
behind bytes at count end is =
    drop-drop (4 + count) at bytes ∙ ap (λ (n : ℕ). drop n bytes) (let same : at + (4 + count) ≡ end = omega (arith, is) in same)

found_is : (bytes : List ℕ) (at : ℕ) (spans : List Stored) (comments : Option ℕ) (head : BlockHead) (span : Stored) (last : Bool)
    (w : Walked bytes at spans comments) → Stands bytes at spans comments head → IsNext at head span → head.is_last ≡ last
    → block_at w.blocks (drop at bytes) ≡ Ok (record { is_last = last; block = told_at bytes at head; rest = drop span.content.end bytes })
found_is bytes at spans comments head span last w is next flag =
    let block = told_at bytes at head in
    sym (tested_is (drop at bytes) w.blocks _ _ (knows bytes at spans comments w)) ∙ is.tested
    ∙ ap (λ (l : Bool). Ok (record { is_last = l; block = block; rest = drop (4 + head.count) (drop at bytes) })) flag
    ∙ ap (λ (r : List ℕ). Ok (record { is_last = last; block = block; rest = r })) (behind bytes at head.count span.content.end next.end)

-- a block that is not the last one
pub walk_more : (bytes : List ℕ) (at : ℕ) (spans : List Stored) (comments : Option ℕ) (head : BlockHead) (span : Stored)
    → Walked bytes at spans comments → Stands bytes at spans comments head → IsNext at head span → head.is_last ≡ false
    → Walked bytes span.content.end (spans ++ span ∷ []) (cond (head.kind == 4) (Some (length spans)) comments)
walk_more bytes at spans comments head span w is next flag = record {
  blocks = w.blocks ++ told_at bytes at head ∷ [];
  goes =
      BlocksUpTo-push w.blocks [] (drop 4 bytes) (drop at bytes) (told_at bytes at head) (drop span.content.end bytes) w.goes
      (found_is bytes at spans comments head span false w is next flag);
  kept = kept_more bytes at spans comments head span w is next;
}

-- the last block
pub walk_ends : (bytes : List ℕ) (at : ℕ) (spans : List Stored) (comments : Option ℕ) (head : BlockHead) (span : Stored)
    → part bytes 0 4 ≡ codes "fLaC" → Walked bytes at spans comments → Stands bytes at spans comments head → IsNext at head span
    → head.is_last ≡ true
    → Opens bytes (spans ++ span ∷ []) (cond (head.kind == 4) (Some (length spans)) comments) span.content.end
walk_ends bytes at spans comments head span marked w is next flag =
    let kept = kept_more bytes at spans comments head span w is next in
    record {
      blocks = w.blocks ++ told_at bytes at head ∷ [];
      head = record {
        marked = marked;
        are_blocks = record {
          before = w.blocks;
          last = told_at bytes at head;
          last_bytes = drop at bytes;
          up_to_last = w.goes;
          ends = found_is bytes at spans comments head span true w is next flag;
          blocks_are = refl;
        };
      };
      kept = kept;
      info = kept.info (not_none w.blocks (told_at bytes at head));
    }
  where
    not_none : (blocks : List FlacBlock) (block : FlacBlock) → is_none (blocks ++ block ∷ []) ≡ false
    not_none [] block = refl
    not_none (b ∷ bs) block = refl
