use Rattle.std.proofs.Common.{◌≡◌, ◌∙◌, ◌≤◌, refl, subst}
use Rattle.lib_base.specs.declared.limits.TheConstants.{NUMBERS_END}
use Rattle.keeper_store.specs.declared.contents.NextNumbers.{NextNumbers}
use Rattle.library_model.specs.Replies.{refusal}
use Rattle.library_model.specs.Stands.{tables_of}
use Rattle.library_model.specs.declared.messages.Command.TheVariants.{Retake}
use Rattle.library_model.specs.declared.refusals.Refusal.TheVariants.{Ids}
use Rattle.library_model.proofs.Refusing.{retake_ids}
use Rattle.catalogue_core.proofs.Exits.{at_end, leaves_after, refuses}
use Rattle.catalogue_core.proofs.Taken.{finds_take}
use Rattle.catalogue_core.proofs.retaking.retake_measured.Goals as goal

pub plan_retake-requires-clause-room : goal.plan_retake-requires-clause-room
plan_retake-requires-clause-room g c = c.reserve_in.ensures.kept.room 6 c.in_ok-reserve.ensures.room

pub returns-then-next_numbers-ge-NUMBERS_END-clause-decides : goal.returns-then-next_numbers-ge-NUMBERS_END-clause-decides
returns-then-next_numbers-ge-NUMBERS_END-clause-decides g c = λ s token mark holds open_ there take.
    let a = c.args in
    let ends = subst (λ (n : NextNumbers). NUMBERS_END ≤ n.take) (c.next_numbers.ensures ∙ holds.numbers) c.if-next_numbers-ge-NUMBERS_END.true in
    refuses c.refused.result s token mark (Retake a.id a.file.now) (refusal Ids) c.refused.ensures
    (retake_ids s token mark a.id a.old a.file.now take.sound a.tally.summary open_.fresh there (finds_take a.file.now a.measured.now a.tally take)
    (at_end s.next_take ends))

pub returns-clause-decides : goal.returns-clause-decides
returns-clause-decides g c = λ s token mark holds open_ there take.
    c.plan_retake.ensures.decides s token mark (c.reserve_in.ensures.held (tables_of s) (c.reserve.ensures.held (tables_of s) holds)) open_ there take

pub returns-clause-leaves : goal.returns-clause-leaves
returns-clause-leaves g c =
    leaves_after c.args.library.now _ c.plan_retake.new.library c.plan_retake.result
    (λ t holds. c.reserve_in.ensures.held t (c.reserve.ensures.held t holds)) (c.reserve_in.ensures.numbers ∙ c.reserve.ensures.numbers) refl
    c.plan_retake.ensures.leaves
