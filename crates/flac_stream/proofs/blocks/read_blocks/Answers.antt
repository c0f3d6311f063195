use Rattle.std.proofs.Common.{rules, ◌≡◌, ◌++◌, ◌∙◌, ℕ, List, [], ◌∷◌, length, Option, Some, true, false, cond, ap, sym, subst}
use Rattle.std.specs.Prelude.{◌==◌}
use Rattle.flac_stream.specs.declared.blocks.Block.{Block}
use Rattle.flac_stream.specs.Blocks.{head_of, Walked, Opens}
use Rattle.flac_stream.proofs.Walking.{walk_broken_by, IsNext, stands_there, walk_more, walk_ends}
use Rattle.flac_stream.proofs.blocks.read_blocks.Goals as goal

pub returns-in-Err-clause-err : goal.returns-in-Err-clause-err
returns-in-Err-clause-err c =
    let count : c.len.result ≡ length c.heads.items.items = search rules in
    c.refused.ensures c.args.bytes.now
    (walk_broken_by c.args.bytes.now c.heads.at c.heads.items.items c.heads.comments c.in-Err.rule _ _ c.requires.marked count
    c.is_some.ensures c.heads.invariant c.in-Err.ensures.gives)

pub returns-then-head-clause-ok : goal.returns-then-head-clause-ok
returns-then-head-clause-ok c =
    let flag : c.in-Ok.head.is_last ≡ true = search rules in
    let count : c.len.result ≡ length c.heads.items.items = search rules in
    let place : c.len-in-heads.result ≡ length c.heads.items.items = search rules in
    let stands = stands_there c.args.bytes.now c.heads.at c.heads.items.items c.heads.comments (head_of c.in-Ok.head) _ _ count
    c.is_some.ensures c.in-Ok.ensures.gives c.in-Ok.ensures.inside c.in-Ok.ensures.stands c.in-Ok.ensures.once in
    let next : IsNext c.heads.at (head_of c.in-Ok.head) c.block_behind-block.result = record {
      kind = c.block_behind-block.ensures.kind;
      start = c.block_behind-block.ensures.start;
      end = c.block_behind-block.ensures.end;
    } in
    let comments = c.comments_with-comments.ensures
    ∙ ap (λ (n : ℕ). cond (c.in-Ok.head.kind == 4) (Some n) c.heads.comments) place in
    subst (λ (items : List Block). Opens c.args.bytes.now items c.comments_with-comments.result c.block_behind-block.result.content.end)
    (sym c.in_ok-push.ensures.items)
    (subst (λ (place : Option ℕ). Opens c.args.bytes.now (c.heads.items.items ++ c.block_behind-block.result ∷ []) place c.block_behind-block.result.content.end)
    (sym comments)
    (walk_ends c.args.bytes.now c.heads.at c.heads.items.items c.heads.comments (head_of c.in-Ok.head) c.block_behind-block.result
    c.requires.marked c.heads.invariant stands next flag))

pub heads-preserved : goal.heads-preserved
heads-preserved c =
    let flag : c.in-Ok.head.is_last ≡ false = search rules in
    let count : c.len.result ≡ length c.heads.items.items = search rules in
    let place : c.len-in-heads.result ≡ length c.heads.items.items = search rules in
    let stands = stands_there c.args.bytes.now c.heads.at c.heads.items.items c.heads.comments (head_of c.in-Ok.head) _ _ count
    c.is_some.ensures c.in-Ok.ensures.gives c.in-Ok.ensures.inside c.in-Ok.ensures.stands c.in-Ok.ensures.once in
    let next : IsNext c.heads.at (head_of c.in-Ok.head) c.block_behind-block.result = record {
      kind = c.block_behind-block.ensures.kind;
      start = c.block_behind-block.ensures.start;
      end = c.block_behind-block.ensures.end;
    } in
    let comments = c.comments_with-comments.ensures
    ∙ ap (λ (n : ℕ). cond (c.in-Ok.head.kind == 4) (Some n) c.heads.comments) place in
    subst (λ (items : List Block). Walked c.args.bytes.now c.block_behind-block.result.content.end items c.comments_with-comments.result)
    (sym c.in_ok-push.ensures.items)
    (subst (λ (place : Option ℕ). Walked c.args.bytes.now c.block_behind-block.result.content.end (c.heads.items.items ++ c.block_behind-block.result ∷ []) place)
    (sym comments)
    (walk_more c.args.bytes.now c.heads.at c.heads.items.items c.heads.comments (head_of c.in-Ok.head) c.block_behind-block.result
    c.heads.invariant stands next flag))
