use Rattle.std.proofs.Common.{take}
use Rattle.http_inbox.proofs.NextLemmas.{next_whole, next_cut, next_broken, next_wanting}
use Rattle.http_inbox.proofs.requests.follow_body.Goals as goal

pub returns-in-Whole : goal.returns-in-Whole
returns-in-Whole g c =
    next_whole (g.S.Source.shown c.args.source.now) (g.S.Source.shown c.read_body.new.source) c.args.held.now
    c.split_at.result.1.now c.args.heading c.requires.0 c.args.size c.in-Whole.body c.requires.1 c.requires.2
    c.split_at.ensures.back c.in-Whole.ensures

pub returns-in-Cut : goal.returns-in-Cut
returns-in-Cut g c =
    next_cut (g.S.Source.shown c.args.source.now) (g.S.Source.shown c.read_body.new.source) c.args.held.now
    c.split_at.result.1.now c.args.heading c.requires.0 c.args.size c.requires.1 c.requires.2
    c.split_at.ensures.back c.in-Cut.ensures

pub returns-in-Fault : goal.returns-in-Fault
returns-in-Fault g c =
    next_broken (g.S.Source.shown c.args.source.now) (g.S.Source.shown c.read_body.new.source) c.args.held.now
    c.split_at.result.1.now c.args.heading c.requires.0 c.args.size c.requires.1 c.requires.2
    c.split_at.ensures.back c.in-Fault.ensures

pub returns-in-Memory : goal.returns-in-Memory
returns-in-Memory g c =
    next_wanting (g.S.Source.shown c.args.source.now) (g.S.Source.shown c.read_body.new.source)
    (take c.args.size c.split_at.result.1.now) c.args.held.now c.args.size c.in-Memory.ensures
