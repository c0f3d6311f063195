use Rattle.std.proofs.Common.{◌≡◌, ◌+◌, ◌∙◌, ℕ, Ok, List, length, take, sym, ap, subst, arith}
use Rattle.std.proofs.lemmas.List.{with_items_is}
use Rattle.lib_base.specs.declared.outcomes.Failed.{Failed}
use Rattle.http_inbox.specs.Inboxes.{DrawsPiece}
use Rattle.http_inbox.proofs.InboxLemmas.{drew_piece}
use Rattle.http_inbox.proofs.inbox.Inbox.draw.Goals as goal

pub returns-in-Ok : goal.returns-in-Ok
returns-in-Ok g c =
    let count = c.self.inside.count in
    let into = c.read_behind.new.into in
    let long : length into ≡ c.self.inside.room.len = omega (arith, c.in-Ok.ensures.length, c.as_mut_slice.ensures.len) in
    let drew = drew_piece (g.S.Source.shown c.args.source.now) (g.S.Source.shown c.read_behind.new.source) c.self.inside.room.items
    into count c.in-Ok.count (c.in-Ok.ensures.length ∙ ap length c.as_mut_slice.ensures.value)
    c.self.invariant.0 c.self.invariant.1 (c.in-Ok.ensures.front ∙ ap (take count) c.as_mut_slice.ensures.value)
    c.in-Ok.ensures.reads in
    subst (λ (items : List ℕ). DrawsPiece {E = Failed} (g.S.Source.shown c.args.source.now) (g.S.Source.shown c.read_behind.new.source)
    c.args.self.now (take (count + c.in-Ok.count) items) (Ok c.in-Ok.count)) (sym (with_items_is c.self.inside.room into long))
    (subst (λ (before : List ℕ). DrawsPiece {E = Failed} (g.S.Source.shown c.args.source.now) (g.S.Source.shown c.read_behind.new.source) before
    (take (count + c.in-Ok.count) into) (Ok c.in-Ok.count)) c.self.view_is drew)
