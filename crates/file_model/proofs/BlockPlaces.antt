-- Where the contents of a FLAC file's blocks lie.
use Rattle.std.proofs.Common.{◌≡◌, ◌≤◌, ◌+◌, ℕ, Bool, true, false, List, [], ◌∷◌, ◌++◌, length, take, drop, length-take, length-drop, Result, Ok, Err, refl, ap, sym, ◌∙◌, subst, arith, append_assoc}
use Rattle.std.specs.Prelude.{◌==◌, not, nat_le, ⊤, IfOk}
use Rattle.std.proofs.lemmas.Bool.{leb-true}
use Rattle.std.proofs.lemmas.List.{drop-drop}
use Rattle.std.proofs.lemmas.Result.{IfOk-at_ok}
use Rattle.lib_base.specs.Sounds.{part}
use Rattle.file_model.specs.declared.flac_rules.FlacRule.TheVariants.{CutBlock, InvalidBlock, NoStreaminfo, RepeatedBlock}
use Rattle.file_model.specs.Bits.{bits}
use Rattle.file_model.specs.Fields.{field}
use Rattle.file_model.specs.FlacFile.{FlacBlock, BlockRead, of_block, may_stand_first, is_repeat, block_at, BlocksUpTo, IsHead}
use Rattle.file_model.specs.Outcomes.{◌>>=◌, holds}

-- what holds of all that may come next holds of what is read
bind_keeps : {A B E : Type 0} (Fact : B → Type 0) (read : Result A E) (next : A → Result B E) → ((value : A) → IfOk (next value) Fact)
    → IfOk (read >>= next) Fact
bind_keeps Fact (Ok value) next keeps = keeps value
bind_keeps Fact (Err fault) next keeps = tt

-- the same behind a fact
holds_keeps : {B E : Type 0} (Fact : B → Type 0) (fact : Bool) (fault : E) (next : Bool → Result B E) → (fact ≡ true → IfOk (next true) Fact)
    → IfOk (holds fact fault >>= next) Fact
holds_keeps Fact true fault next keeps = keeps refl
holds_keeps Fact false fault next keeps = tt

-- ---- one block

-- the block's content lies behind its head, and what is behind it follows
record LiesFirst (bytes : List ℕ) (block : FlacBlock) (rest : List ℕ) : Type 0 where
  content : block.content ≡ part bytes 4 (length block.content)
  inside : 4 + length block.content ≤ length bytes
  rest_is : rest ≡ drop (4 + length block.content) bytes

by_count : (bytes : List ℕ) (count : ℕ) (block : FlacBlock) (rest : List ℕ) → 4 + count ≤ length bytes → block.content ≡ part bytes 4 count
    → rest ≡ drop (4 + count) bytes → LiesFirst bytes block rest
by_count bytes count block rest inside content rest_is =
    let left = length-drop 4 bytes in
    let taken = length-take count (drop 4 bytes) in
    let size = ap length content in
    let long : count ≡ length block.content = omega (arith, left, taken, size, inside) in
    record {
      content = content ∙ ap (λ (n : ℕ). part bytes 4 n) long;
      inside = omega (arith, inside, long);
      rest_is = rest_is ∙ ap (λ (n : ℕ). drop (4 + n) bytes) long;
    }

lies_read : (before : List FlacBlock) (bytes : List ℕ) → IfOk (block_at before bytes) (λ read. LiesFirst bytes read.block read.rest)
unfolding block_at
lies_read before bytes =
    let Lies : BlockRead → Type 0 = λ read. LiesFirst bytes read.block read.rest in
    bind_keeps Lies (of_block (field 1 (bits bytes))) _ (λ last.
    bind_keeps Lies (of_block (field 7 last.1)) _ (λ kind.
    bind_keeps Lies (of_block (field 24 kind.1)) _ (λ count.
    holds_keeps Lies (nat_le (4 + count.0) (length bytes)) CutBlock _ (λ whole.
    holds_keeps Lies (not (kind.0 == 127)) InvalidBlock _ (λ valid.
    holds_keeps Lies (may_stand_first before kind.0 count.0) NoStreaminfo _ (λ first.
    holds_keeps Lies (not (is_repeat before kind.0)) RepeatedBlock _ (λ once.
    by_count bytes count.0 (record { kind = kind.0; content = part bytes 4 count.0 }) (drop (4 + count.0) bytes)
    (leb-true (4 + count.0) (length bytes) whole) refl refl)))))))

lies_first : (before : List FlacBlock) (bytes : List ℕ) (is_last : Bool) (block : FlacBlock) (rest : List ℕ)
    → block_at before bytes ≡ Ok (record { is_last = is_last; block = block; rest = rest }) → LiesFirst bytes block rest
lies_first before bytes is_last block rest is = IfOk-at_ok (λ (read : BlockRead). LiesFirst bytes read.block read.rest) is (lies_read before bytes)

-- ---- blocks

-- Each block's content lies in the file, the first behind a head at this place.
abbrev pub LieFrom : List ℕ → ℕ → List FlacBlock → Type 0
LieFrom bytes head [] = ⊤
LieFrom bytes head (block ∷ blocks) =
    (block.content ≡ part bytes (head + 4) (length block.content)) × (head + 4 + length block.content ≤ length bytes)
    × LieFrom bytes (head + 4 + length block.content) blocks

-- a block at a place of a file
lies_here : (bytes : List ℕ) (head : ℕ) (block : FlacBlock) (rest : List ℕ) → head ≤ length bytes → LiesFirst (drop head bytes) block rest
    → (block.content ≡ part bytes (head + 4) (length block.content)) × (head + 4 + length block.content ≤ length bytes)
    × (rest ≡ drop (head + 4 + length block.content) bytes)
lies_here bytes head block rest inside lies =
    let left = length-drop head bytes in
    let within = lies.inside in
    let same : head + (4 + length block.content) ≡ head + 4 + length block.content = omega arith in (
      lies.content ∙ ap (take (length block.content)) (drop-drop 4 head bytes),
      omega (arith, left, within, inside),
      lies.rest_is ∙ drop-drop (4 + length block.content) head bytes ∙ ap (λ (n : ℕ). drop n bytes) same,
    )

lie_from : (blocks before : List FlacBlock) (bytes : List ℕ) (head : ℕ) (at rest : List ℕ) (last : FlacBlock) (more : List ℕ)
    → at ≡ drop head bytes → head ≤ length bytes → BlocksUpTo before at blocks rest
    → block_at (before ++ blocks) rest ≡ Ok (record { is_last = true; block = last; rest = more }) → LieFrom bytes head (blocks ++ last ∷ [])
lie_from [] before bytes head at rest last more is inside goes ends =
    let lies = lies_here bytes head last more inside
    (subst (λ (xs : List ℕ). LiesFirst xs last more) (sym goes ∙ is) (lies_first (before ++ []) rest true last more ends)) in
    (lies.0, lies.1, tt)
lie_from (x ∷ xs) before bytes head at rest last more is inside goes ends =
    let lies = lies_here bytes head x goes.0 inside (subst (λ (ys : List ℕ). LiesFirst ys x goes.0) is (lies_first before at false x goes.0 goes.1)) in (
      lies.0,
      lies.1,
      lie_from xs (before ++ x ∷ []) bytes (head + 4 + length x.content) goes.0 rest last more lies.2 lies.1 goes.2
          (ap (λ (b : List FlacBlock). block_at b rest) (append_assoc before (x ∷ []) xs) ∙ ends),
    )

-- the contents of a file's blocks lie in it
pub blocks_lie : (bytes : List ℕ) (blocks : List FlacBlock) (rest : List ℕ) → IsHead bytes blocks rest → LieFrom bytes 4 blocks
blocks_lie bytes blocks rest head =
    let size = ap length head.marked in
    let taken = length-take 4 bytes in
    let long : 4 ≤ length bytes = omega (arith, size, taken) in
    let are = head.are_blocks in
    subst (LieFrom bytes 4) (sym are.blocks_are)
    (lie_from are.before [] bytes 4 (drop 4 bytes) are.last_bytes are.last rest refl long are.up_to_last are.ends)
