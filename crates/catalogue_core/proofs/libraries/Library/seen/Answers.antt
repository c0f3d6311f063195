use Rattle.kept_replies.specs.Tokens.{text_of}
use Rattle.library_model.specs.Stands.{tables_of}
use Rattle.catalogue_core.proofs.SeenLaws.{of_rows}
use Rattle.catalogue_core.proofs.libraries.Library.seen.Goals as goal

pub returns-clause-sees : goal.returns-clause-sees
returns-clause-sees c = λ s keeps.
    of_rows s (text_of c.args.token.now) c.args.mark.now c.seen.result (c.seen.ensures.sees (tables_of s) keeps.rows)
