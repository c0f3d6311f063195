use Rattle.std.proofs.Common.{rules, ◌≡◌, false, arith}
use Rattle.std.proofs.Math.ListN.{get_or}
use Rattle.keeper_store.proofs.Putting.{put-over}
use Rattle.keeper_store.proofs.places.put_at.Goals as goal

pub returns-then-not-is_before-clause-items : goal.returns-then-not-is_before-clause-items
returns-then-not-is_before-clause-items g c =
    let less = g.R.Ranked.less in
    let rows = c.args.rows.now.items in
    let there = c.index.result.now in
    let at : there ≡ get_or rows c.args.place there = c.index.ensures in
    let stops : less (get_or rows c.args.place there) c.args.row ≡ false = c.requires.place.stops there (omega arith) in
    let below : less there c.args.row ≡ false = rw at stops in
    let above : less c.args.row there ≡ false = search rules in
    put-over less c.args.row there rows c.args.place (omega arith) at below above c.requires.place.splits
