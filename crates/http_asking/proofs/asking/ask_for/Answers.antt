use Rattle.std.proofs.Common.{◌∙◌, ap, sym}
use Rattle.std.proofs.lemmas.Result.{IfOk-weaker}
use Rattle.http_routes.specs.Resources.{resource_found}
use Rattle.http_model.specs.Asking.{asked_if, allowed_if}
use Rattle.http_asking.proofs.asking.ask_for.Goals as goal

pub returns-in-Some-clause-says : goal.returns-in-Some-clause-says
returns-in-Some-clause-says c = IfOk-weaker c.ask_at.result _ _ (λ asking says q lies body.
    says q lies body
    ∙ ap (asked_if q) (sym c.in-Some.is ∙ (c.resource.ensures ∙ ap resource_found (c.of.ensures ∙ lies.target))))
    c.ask_at.ensures.says

pub returns-in-Some-clause-allows : goal.returns-in-Some-clause-allows
returns-in-Some-clause-allows c = IfOk-weaker c.ask_at.result _ _ (λ asking allows q lies.
    allows q lies
    ∙ ap (allowed_if q.head.method) (sym c.in-Some.is ∙ (c.resource.ensures ∙ ap resource_found (c.of.ensures ∙ lies.target))))
    c.ask_at.ensures.allows
