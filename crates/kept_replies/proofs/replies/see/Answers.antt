use Rattle.std.proofs.Common.{Bor, Option, true≢false, refl, sym, ap, ◌∙◌}
use Rattle.std.specs.Cmp.Lexicographic.{bytes_decides}
use Rattle.std.specs.Option.{option_copied}
use Rattle.kept_replies.specs.declared.replies.KeptReply.{KeptReply}
use Rattle.kept_replies.proofs.SeenLaws.{fresh-SeenAs, kept-SeenAs, other-SeenAs}
use Rattle.kept_replies.proofs.replies.see.Goals as goal

pub returns-then-eq-clause-sees : goal.returns-then-eq-clause-sees
returns-then-eq-clause-sees c row is =
    let one = c.as_slice.result.now in
    let other = c.as_slice-in-Some.result.now in
    let found = sym (ap (λ (o : Option (Bor KeptReply)). option_copied o) c.in-Some.is) ∙ is in
    kept-SeenAs row c.in-Some.kept.now c.args.mark.now _ found
    (sym c.as_slice.ensures ∙ (bytes_decides one other).0 (sym c.if-eq.ensures) ∙ c.as_slice-in-Some.ensures) refl

pub returns-else-eq-clause-sees : goal.returns-else-eq-clause-sees
returns-else-eq-clause-sees c row is =
    let one = c.as_slice.result.now in
    let other = c.as_slice-in-Some.result.now in
    let found = sym (ap (λ (o : Option (Bor KeptReply)). option_copied o) c.in-Some.is) ∙ is in
    other-SeenAs row c.in-Some.kept.now c.args.mark.now found
    (λ same. true≢false (sym ((bytes_decides one other).1 (c.as_slice.ensures ∙ same ∙ sym c.as_slice-in-Some.ensures)) ∙ sym c.if-eq.ensures))

pub returns-in-None-clause-sees : goal.returns-in-None-clause-sees
returns-in-None-clause-sees c row is =
    fresh-SeenAs row c.args.mark.now (sym (ap (λ (o : Option (Bor KeptReply)). option_copied o) c.in-None.is) ∙ is)
