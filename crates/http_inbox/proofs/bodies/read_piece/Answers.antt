use Rattle.std.proofs.Common.{◌≡◌, length, rules}
use Rattle.http_inbox.proofs.BodyLemmas.{drew_filled}
use Rattle.http_inbox.proofs.bodies.read_piece.Goals as goal

pub returns-clause-draws : goal.returns-clause-draws
returns-clause-draws g c =
    let done : c.len-done.result ≡ length c.args.body.now.items = search rules in
    drew_filled (g.S.Source.shown c.args.source.now) (g.S.Source.shown c.fill_behind-count.new.source)
    c.args.body.now.items c.args.zeros.now c.append.new.body.items c.fill_behind-count.new.body.items
    c.truncate.new.self.items c.len-done.result c.fill_behind-count.result.0 c.fill_behind-count.result.1
    done c.append.ensures.items c.fill_behind-count.ensures.length c.fill_behind-count.ensures.front
    c.fill_behind-count.ensures.fills c.truncate.ensures.items
