use Rattle.std.proofs.Common.{◌≢◌, ℕ, inr, List, [], ◌++◌, subst}
use Rattle.httparse.specs.Grammar.{RequestHead}
use Rattle.http_model.specs.Requests.{HasNoHead}
use Rattle.http_inbox.specs.Heads.{IsHeadingOf}
use Rattle.http_inbox.specs.declared.inbox.HeadRead.TheVariants.{Head, NoHead}
use Rattle.http_inbox.proofs.InboxLemmas.{tried_at_once}
use Rattle.http_inbox.proofs.inbox.Inbox.try_head.Goals as goal

pub returns-in-Head : goal.returns-in-Head
returns-in-Head g c =
    tried_at_once (g.S.Source.shown c.args.source.now) c.args.self.now (Head c.in-Head.heading)
    (subst (λ (bytes : List ℕ). (head : RequestHead) × IsHeadingOf bytes c.in-Head.heading head) c.bytes.ensures.value c.in-Head.ensures)
    (λ is. cc is) c.bytes.ensures.short

pub returns-in-Never : goal.returns-in-Never
returns-in-Never g c =
    let never = subst (λ (bytes : List ℕ). (bytes ≢ []) × ((more : List ℕ) → HasNoHead (bytes ++ more))) c.bytes.ensures.value
    c.in-Never.ensures in
    tried_at_once (g.S.Source.shown c.args.source.now) c.args.self.now NoHead (never.0, inr never.1) (λ is. cc is)
    c.bytes.ensures.short
