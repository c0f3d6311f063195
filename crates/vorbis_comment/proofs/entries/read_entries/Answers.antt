use Rattle.std.proofs.Common.{arith}
use Rattle.std.proofs.lemmas.List.Elements.{All-same, All-push}
use Rattle.file_model.specs.Comments.{entry_at}
use Rattle.vorbis_comment.specs.Spans.{IsWithin}
use Rattle.vorbis_comment.proofs.Times.{times_fails, times_done}
use Rattle.vorbis_comment.proofs.Wholes.{refuses_by, entries_step}
use Rattle.vorbis_comment.proofs.entries.read_entries.Goals as goal

pub returns-in-Err-clause-err : goal.returns-in-Err-clause-err
returns-in-Err-clause-err c =
    refuses_by c.refused.result c.in-Err.found _ c.refused.ensures
    (times_fails (entry_at c.args.content.now) _ c.loop-index.index c.args.count _ c.in-Err.found _ c.loop-index-test.true c.in-Err.ensures.gives
    c.loop-index.invariant.goes)

pub loop-index-preserved : goal.loop-index-preserved
loop-index-preserved c =
    let Within = IsWithin c.args.content.now in
    let items = c.loop-index.spans.items in
    record {
      goes =
          entries_step c.args.content.now items c.push.new.self.items c.in-Ok.span c.loop-index.index c.args.count c.loop-index.end _
          c.in_ok-push.ensures.items c.loop-index-test.true c.in-Ok.ensures.gives c.loop-index.invariant.goes;
      within =
          All-same Within _ _ c.in_ok-push.ensures.items (All-push Within items c.in-Ok.span c.loop-index.invariant.within c.in-Ok.ensures.within);
      inside = c.in-Ok.ensures.within.inside;
    }

pub returns-clause-ok : goal.returns-clause-ok
returns-clause-ok c =
    let past = c.loop-index-test.false in
    times_done (entry_at c.args.content.now) _ c.loop-index.index c.args.count _ _ (omega (arith, past)) c.loop-index.invariant.goes
