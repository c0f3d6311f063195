use Rattle.std.proofs.Common.{sym, ◌∙◌}
use Rattle.http_model.specs.Fields.{is_named}
use Rattle.http_inbox.proofs.FieldLemmas.{any_from-here, any_from-next}
use Rattle.http_inbox.proofs.heads.has_value.Goals as goal

pub returns-then-is_field : goal.returns-then-is_field
returns-then-is_field c =
    sym (c.headers.invariant
    ∙ any_from-here (is_named c.args.value.now) c.args.name.now c.args.bytes.now c.args.headers.now c.headers.header-index _
    c.headers-test.true (sym c.is_field.ensures ∙ c.if-is_field.true))

pub headers-preserved : goal.headers-preserved
headers-preserved c =
    c.headers.invariant
    ∙ any_from-next (is_named c.args.value.now) c.args.name.now c.args.bytes.now c.args.headers.now c.headers.header-index _
    c.headers-test.true (sym c.is_field.ensures ∙ c.if-is_field.false)
