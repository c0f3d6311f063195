use Rattle.std.proofs.Common.{refl, ap, arith}
use Rattle.kept_replies.specs.Tokens.{text_of}
use Rattle.library_model.specs.declared.refusals.Refusal.TheVariants as cause
use Rattle.library_model.specs.Machine.{without_memory}
use Rattle.library_model.specs.Replies.{refusal}
use Rattle.library_http.specs.World.{world}
use Rattle.library_http.proofs.Acting.{Acts-settled, Acts-staged, CountsOne-neither, CountsOne-vault}
use Rattle.library_http.proofs.changing.make.Goals as goal

pub returns-in-Ok-Ready-clause-acts : goal.returns-in-Ok-Ready-clause-acts
returns-in-Ok-Ready-clause-acts g c = λ s keeps.
    let request = c.args.request in
    let staged = c.in-Ok-Ready.ensures in
    let prepares = rw c.in-Ok-Ready.field-0-is at (staged.staged s keeps) in
    let put = rw c.in-Ok-Ready.field-0-is at staged.stages.file in
    let granted = rw c.in-Ok-Ready.field-0-is at staged.causes in
    Acts-settled s (text_of request.token) request.mark request.command c.in-Ok-Ready.ready c.settle.result _ c.args.library.now
    c.stage.new.library c.settle.ensures.committed c.settle.new.library (g.D.Keeper.shown c.args.keeper.now) (g.D.Keeper.shown c.settle.new.keeper)
    (g.V.Vault.shown c.args.vault.now) (g.V.Vault.shown c.stage.new.vault) (g.V.Vault.shown c.settle.new.vault) keeps
    (request.token.form, c.requires.within) c.stage.ensures.stages (λ none. ap g.V.Vault.shown (c.stage.ensures.spared none)) put prepares granted
    c.settle.ensures.commits c.settle.ensures.sweeps

pub returns-in-Ok-Refused-clause-acts : goal.returns-in-Ok-Refused-clause-acts
returns-in-Ok-Refused-clause-acts g c = λ s keeps.
    let request = c.args.request in
    let keeper = g.D.Keeper.shown c.args.keeper.now in
    let answer = rw c.in-Ok-Refused.field-0-is at (c.in-Ok-Refused.ensures.staged s keeps) in
    let refuses = rw c.in-Ok-Refused.field-0-is at c.in-Ok-Refused.ensures.causes in
    let untouched = rw c.in-Ok-Refused.field-0-is at c.in-Ok-Refused.ensures.untouched in
    let w0 = world c.args.library.now keeper (g.V.Vault.shown c.args.vault.now) in
    let w1 = world c.stage.new.library keeper (g.V.Vault.shown c.stage.new.vault) in
    Acts-staged s (text_of request.token) request.mark request.command c.in-Ok-Refused.reply _ c.args.library.now c.stage.new.library keeper
    (g.V.Vault.shown c.args.vault.now) (g.V.Vault.shown c.stage.new.vault) keeps c.stage.ensures.stages
    (λ none. ap g.V.Vault.shown (c.stage.ensures.spared none)) answer
    (CountsOne-vault c.in-Ok-Refused.reply w0 w1 refuses.vault refuses.keeper c.stage.ensures.stages.later (omega arith))
    (λ below. ap g.V.Vault.shown (untouched (λ is. absurd (omega (arith, below, is)))))

pub returns-in-Err-clause-acts : goal.returns-in-Err-clause-acts
returns-in-Err-clause-acts g c = λ s keeps.
    let request = c.args.request in
    let keeper = g.D.Keeper.shown c.args.keeper.now in
    let w0 = world c.args.library.now keeper (g.V.Vault.shown c.args.vault.now) in
    let w1 = world c.stage.new.library keeper (g.V.Vault.shown c.stage.new.vault) in
    Acts-staged s (text_of request.token) request.mark request.command (refusal cause.Memory) _ c.args.library.now c.stage.new.library keeper
    (g.V.Vault.shown c.args.vault.now) (g.V.Vault.shown c.stage.new.vault) keeps c.stage.ensures.stages
    (λ none. ap g.V.Vault.shown (c.stage.ensures.spared none)) (record { way = without_memory; answers = (refl, refl) })
    (CountsOne-neither (refusal cause.Memory) w0 w1 (omega arith) (omega arith) c.stage.ensures.stages.later (omega arith))
    (λ below. absurd (omega (arith, below)))
