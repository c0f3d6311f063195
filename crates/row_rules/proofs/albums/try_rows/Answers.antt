use Rattle.std.proofs.Common.{◌≡◌, ◌<◌, length, get_or, ◌∙◌, arith, rules}
use Rattle.row_rules.proofs.Trying.{IsAt, AlbumTried, album_found, album_passed, album_next}
use Rattle.row_rules.proofs.albums.try_rows.Goals as goal

pub returns-in-Some : goal.returns-in-Some
returns-in-Some c =
    let t = c.args.tables.now in
    let row = c.row-item.result in
    let at : IsAt t.albums c.loop-row.row-index row = record { inside = grind arith; row_is = cc } in
    let tried : AlbumTried t c.loop-row.row-index c.loop-row.before c.count_of-members.result row = record {
      at = at;
      before_is = c.loop-row.invariant.before;
      members_are = c.count_of-members.ensures ∙ c.requires row.id;
      none = c.loop-row.invariant.none;
    } in
    let is = album_found t _ _ _ row c.broken_rule.result c.in-Some.rule tried c.broken_rule.ensures c.in-Some.is in
    rw c.from.ensures is

pub loop-row-preserved : goal.loop-row-preserved
loop-row-preserved c =
    let t = c.args.tables.now in
    let row = c.row-item.result in
    let at : IsAt t.albums c.loop-row.row-index row = record { inside = grind arith; row_is = cc } in
    let tried : AlbumTried t c.loop-row.row-index c.loop-row.before c.count_of-members.result row = record {
      at = at;
      before_is = c.loop-row.invariant.before;
      members_are = c.count_of-members.ensures ∙ c.requires row.id;
      none = c.loop-row.invariant.none;
    } in
    record {
      before = album_next t c.loop-row.row-index row at;
      none = album_passed t _ _ _ row c.broken_rule.result tried c.broken_rule.ensures c.in_default.is;
    }
