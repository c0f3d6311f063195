use Rattle.std.proofs.Common.{◌∙◌, sym, subst, ap}
use Rattle.std.specs.Prelude.{IsUtf8}
use Rattle.http_routes.specs.Resources.{resource_found}
use Rattle.http_routes.proofs.Texts.{resource_found-text, resource_found-other}
use Rattle.http_routes.proofs.routes.Paths.resource.Goals as goal

pub returns-in-Ok : goal.returns-in-Ok
returns-in-Ok c =
    let same = c.in-Ok.ensures.cases.0 in
    let text : IsUtf8 c.in-Ok.target.now = subst IsUtf8 (sym same) c.in-Ok.ensures.cases.1 in
    c.resource_in.ensures ∙ (sym (resource_found-text c.in-Ok.target.now text) ∙ ap resource_found same)

pub returns-in-Err : goal.returns-in-Err
returns-in-Err c = sym (resource_found-other c.args.target.now c.in-Err.ensures.cases.0)
