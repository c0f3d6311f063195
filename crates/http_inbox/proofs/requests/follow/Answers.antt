use Rattle.http_inbox.proofs.NextLemmas.{next_refused}
use Rattle.http_inbox.proofs.requests.follow.Goals as goal

pub returns-in-Refused : goal.returns-in-Refused
returns-in-Refused g c =
    next_refused (g.S.Source.shown c.args.source.now) c.args.held.now c.args.heading c.requires.0 c.in-Refused.cause
    c.requires.1 (c.in-Refused.ensures c.requires.0 c.requires.1)
