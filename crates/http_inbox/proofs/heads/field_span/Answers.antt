use Rattle.std.proofs.Common.{sym, ap, ◌∙◌}
use Rattle.http_model.specs.Fields.{is_named}
use Rattle.http_inbox.proofs.FieldLemmas.{repeated, first_found, passed_over, values_from-named, values_from-other}
use Rattle.http_inbox.proofs.heads.field_span.Goals.{then-is_same+else-is_some, else-is_same}
use Rattle.http_inbox.proofs.heads.field_span.Goals as goal

pub returns-then-is_some : goal.returns-then-is_some
returns-then-is_some c =
    let named = values_from-named c.args.name.now c.args.bytes.now c.args.headers.now c.headers.header-index _ c.headers-test.true
    (sym (ap (is_named c.args.name.now) c.of.ensures) ∙ sym c.is_same.ensures ∙ c.if-is_same.true) in
    repeated c.args.bytes.now c.headers.found _ _ (sym c.is_some.ensures ∙ c.if-is_some.true) c.headers.invariant _ _ named

pub headers-preserved : goal.headers-preserved
headers-preserved c =
    elim c.if-is_same.branch [
      | then-is_same+else-is_some w ↦
          let named = values_from-named c.args.name.now c.args.bytes.now c.args.headers.now c.headers.header-index _ c.headers-test.true
          (sym (ap (is_named c.args.name.now) c.of.ensures) ∙ sym c.is_same.ensures ∙ w.if-is_same.true) in
          first_found c.args.bytes.now c.headers.found _ _ _ _ _ (sym w.is_some.ensures ∙ w.if-is_some.false) c.headers.invariant
          w.found-is (c.requires c.headers.header-index _ c.headers-test.true).1 named
      | else-is_same w ↦
          passed_over c.args.bytes.now c.headers.found _ _ _ _ c.headers.invariant w.found-is
          (values_from-other c.args.name.now c.args.bytes.now c.args.headers.now c.headers.header-index _ c.headers-test.true
          (sym (ap (is_named c.args.name.now) c.of.ensures) ∙ sym c.is_same.ensures ∙ w.if-is_same.false))
    ]
