use Rattle.std.proofs.Common.{ℕ, List, subst}
use Rattle.http_inbox.specs.Nexts.{ReadsNext}
use Rattle.http_inbox.proofs.NextLemmas.{next_drawn, next_no_head, next_fault}
use Rattle.http_inbox.proofs.requests.next_request.Goals as goal

pub returns-in-Head : goal.returns-in-Head
returns-in-Head g c =
    let old = g.S.Source.shown c.args.source.now in
    let mid = g.S.Source.shown c.read_head.new.source in
    let new = g.S.Source.shown c.follow.new.source in
    next_drawn old mid new c.args.inbox.now c.read_head.new.self c.follow.result c.read_head.ensures.draws
    c.read_head.ensures.faults.later
    (subst (λ (bytes : List ℕ). ReadsNext mid new bytes bytes c.follow.result) c.bytes.ensures.value c.follow.ensures)

pub returns-in-NoHead : goal.returns-in-NoHead
returns-in-NoHead g c =
    next_no_head (g.S.Source.shown c.args.source.now) (g.S.Source.shown c.read_head.new.source) c.args.inbox.now
    c.read_head.new.self c.in-NoHead.ensures

pub returns-in-Fault : goal.returns-in-Fault
returns-in-Fault g c =
    next_fault (g.S.Source.shown c.args.source.now) (g.S.Source.shown c.read_head.new.source) c.args.inbox.now
    c.read_head.new.self c.in-Fault.ensures
