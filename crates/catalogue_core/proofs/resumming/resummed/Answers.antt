use Rattle.std.proofs.Common.{◌≡◌, true, true≢false, Option, sym, subst}
use Rattle.std.specs.Prelude.{IfSome, is_some}
use Rattle.catalogue_rows.specs.Trying.{IsSumIn}
use Rattle.lib_base.specs.declared.files.Summary.{Summary}
use Rattle.catalogue_core.proofs.resumming.resummed.Goals as goal

pub returns-in-None : goal.returns-in-None
returns-in-None c = λ t next holds has.
    absurd (true≢false (sym (subst (λ (levels : Option Summary). is_some levels ≡ true) c.in-None.is has.some)))

pub returns-in-Some : goal.returns-in-Some
returns-in-Some c = λ t next holds has.
    c.row_with.ensures t next holds has.there
    (subst (λ (levels : Option Summary). IfSome levels (IsSumIn next c.args.album)) c.in-Some.is has.sums)
