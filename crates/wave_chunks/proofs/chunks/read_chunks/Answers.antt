use Rattle.std.proofs.Common.{sym, subst}
use Rattle.file_model.specs.declared.wave_fields.TheConstants.{CHUNKS_AT}
use Rattle.wave_chunks.proofs.Walking.{walk_begins, walk_more, walk_ends, walk_cut, none_below_repeated_chunk}
use Rattle.wave_chunks.specs.Spans.{Walked}
use Rattle.wave_chunks.proofs.chunks.read_chunks.Goals as goal

pub chunks-init : goal.chunks-init
chunks-init c = subst (Walked c.args.bytes.now CHUNKS_AT) (sym c.new-chunks.ensures.items) (walk_begins c.args.bytes.now c.requires.long)

pub chunks-preserved : goal.chunks-preserved
chunks-preserved c =
    subst (Walked c.args.bytes.now c.next_head-at.result) (sym c.in_ok-push.ensures.items)
    (walk_more c.args.bytes.now c.chunks.at c.next_head-at.result c.chunks.chunks.items c.in-Some.chunk (λ i. (c.type_inv.bytes i).fits)
    c.chunks.invariant c.chunks-test.true c.in-Some.ensures c.next_head-at.ensures)

pub returns-in_default-clause-err : goal.returns-in_default-clause-err
returns-in_default-clause-err c =
    c.broken.ensures c.args.bytes.now c.requires.lower
    (walk_cut c.args.bytes.now c.chunks.at c.chunks.chunks.items c.chunks.invariant c.chunks-test.true c.in_default.ensures)

pub returns-clause-ok : goal.returns-clause-ok
returns-clause-ok c = walk_ends c.args.bytes.now c.chunks.at c.chunks.chunks.items c.chunks.invariant c.chunks-test.false

pub returns-clause-passed : goal.returns-clause-passed
returns-clause-passed c =
    none_below_repeated_chunk c.args.bytes.now c.chunks.chunks.items
    (walk_ends c.args.bytes.now c.chunks.at c.chunks.chunks.items c.chunks.invariant c.chunks-test.false) c.requires.lower
