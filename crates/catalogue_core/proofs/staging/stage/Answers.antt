use Rattle.std.proofs.Common.{refl, subst}
use Rattle.keeper_store.specs.declared.contents.NextNumbers.{NextNumbers}
use Rattle.kept_replies.specs.Tokens.{text_of}
use Rattle.catalogue_core.specs.Requests.{asked_by}
use Rattle.catalogue_core.specs.Settling.{PutsFile}
use Rattle.catalogue_core.proofs.Decided.{own_settled, put_staged, room_staged, settled}
use Rattle.catalogue_core.proofs.Freshness.{fresh_under}
use Rattle.catalogue_core.proofs.staging.stage.Goals as goal

pub put_file-requires : goal.put_file-requires
put_file-requires g c =
    own_settled (text_of c.args.request.token) c.args.request.mark c.in_ok-decision.decision c.in_ok-staged.staged
    c.in_ok-decision.ensures.leaves.own c.in_ok-staged.ensures

pub returns-clause-staged : goal.returns-clause-staged
returns-clause-staged g c = λ s keeps.
    let request = c.args.request in
    let token = text_of request.token in
    let fresh = fresh_under c.args.library.now s token keeps c.requires.fresh in
    let decides = c.in_ok-decision.ensures.decides s token request.mark keeps fresh in
    let from = settled s token request.mark request.command c.in_ok-decision.decision c.in_ok-staged.staged decides c.in_ok-staged.ensures in
    put_staged s (asked_by request) request.command c.in_ok-staged.staged _ _ c.put_file.result refl from c.put_file.ensures.stays

pub returns-clause-stages : goal.returns-clause-stages
returns-clause-stages g c =
    let leaves = c.in_ok-decision.ensures.leaves in
    let request = c.args.request in
    let puts = subst (λ (n : NextNumbers). PutsFile request.command n.take (g.V.Vault.shown c.args.vault.now) (g.V.Vault.shown c.put_file.new.vault) c.put_file.result)
    leaves.numbers c.put_file.ensures.puts in
    record {
      held = leaves.held;
      released = leaves.released;
      fits = room_staged c.decide.new.library (text_of request.token) request.mark request.command c.in_ok-decision.decision c.in_ok-staged.staged _ _ c.put_file.result
          leaves.room c.in_ok-staged.ensures c.put_file.ensures.stays;
      others = puts.others;
      file = puts.file;
      later = puts.later;
      changes = puts.changes;
    }
