use Rattle.std.proofs.Common.{◌≡◌, ◌∙◌, refl, sym}
use Rattle.library_model.specs.Replies.{refusal}
use Rattle.library_model.specs.Stands.{tables_of}
use Rattle.library_model.specs.declared.messages.Command.TheVariants.{Regroup}
use Rattle.library_model.specs.declared.refusals.Refusal.TheVariants.{NoAlbum, NoRecording}
use Rattle.library_model.proofs.Refusing.{regroup_no_album, regroup_no_recording}
use Rattle.catalogue_core.proofs.Exits.{leaves_after, refuses}
use Rattle.catalogue_core.proofs.Regroups.{stay_decided}
use Rattle.catalogue_core.proofs.Rooms.{stay_room}
use Rattle.catalogue_core.proofs.regrouping.decide_regroup.Goals as goal

pub returns-in_default-clause-decides : goal.returns-in_default-clause-decides
returns-in_default-clause-decides g c = λ s token mark keeps fresh.
    refuses c.refused.result s token mark (Regroup c.args.id c.args.album) (refusal NoRecording) c.refused.ensures
    (regroup_no_recording s token mark c.args.id c.args.album fresh (sym (c.in_ok-old.ensures (tables_of s) keeps.rows) ∙ c.in_default.is))

pub returns-then-not-is_there-clause-decides : goal.returns-then-not-is_there-clause-decides
returns-then-not-is_there-clause-decides g c = λ s token mark keeps fresh.
    let there = sym (c.in_ok-old.ensures (tables_of s) keeps.rows) ∙ c.in-Some.is in
    refuses c.refused-then-not-is_there.result s token mark (Regroup c.args.id c.args.album) (refusal NoAlbum) c.refused-then-not-is_there.ensures
    (regroup_no_album s token mark c.args.id c.args.album c.in-Some.old fresh there (sym (c.if-not-is_there.ensures (tables_of s) keeps.rows)))

pub returns-then-is_same-clause-decides : goal.returns-then-is_same-clause-decides
returns-then-is_same-clause-decides g c = λ s token mark keeps fresh.
    let there = sym (c.in_ok-old.ensures (tables_of s) keeps.rows) ∙ c.in-Some.is in
    stay_decided s token mark c.args.id c.in-Some.old c.args.album c.in_ok-plan_same.field-0 (record { valid = keeps.valid; fresh = fresh }) there
    (c.if-is_same.ensures.same refl) c.in_ok-plan_same.ensures

pub returns-then-is_same-clause-leaves : goal.returns-then-is_same-clause-leaves
returns-then-is_same-clause-leaves g c = record {
  held = c.reserve.ensures.held;
  numbers = c.reserve.ensures.numbers;
  released = refl;
  room = stay_room c.reserve.new.self _ c.in_ok-plan_same.field-0 c.in_ok-reserve.ensures.room c.in_ok-plan_same.ensures;
  own = tt;
}

pub returns-clause-decides : goal.returns-clause-decides
returns-clause-decides g c = λ s token mark keeps fresh.
    let there = sym (c.in_ok-old.ensures (tables_of s) keeps.rows) ∙ c.in-Some.is in
    c.regroup_other.ensures.decides s token mark (c.reserve.ensures.held (tables_of s) keeps.rows) (record { valid = keeps.valid; fresh = fresh }) there
    (sym (c.if-not-is_there.ensures (tables_of s) keeps.rows))

pub returns-clause-leaves : goal.returns-clause-leaves
returns-clause-leaves g c =
    leaves_after c.args.library.now _ c.regroup_other.new.library c.regroup_other.result c.reserve.ensures.held c.reserve.ensures.numbers refl
    c.regroup_other.ensures.leaves
