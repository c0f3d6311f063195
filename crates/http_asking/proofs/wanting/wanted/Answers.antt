use Rattle.std.proofs.Common.{subst, sym}
use Rattle.std.proofs.lemmas.Result.{IfOk-weaker}
use Rattle.library_model.specs.Stands.{WantsWithin}
use Rattle.http_model.specs.Asking.{name_values}
use Rattle.http_model.proofs.AskingLaws.{wanted_at-within}
use Rattle.http_asking.proofs.wanting.wanted.Goals as goal

pub returns-clause-within : goal.returns-clause-within
returns-clause-within c = IfOk-weaker c.wanted_at.result _ _ (λ wanted says fits.
    subst WantsWithin (sym (says (name_values c.requires.0) (c.field_of.ensures (name_values c.requires.0) c.requires.1.values.name)))
    (wanted_at-within c.args.resource (name_values c.requires.0) c.args.body fits))
    c.wanted_at.ensures
