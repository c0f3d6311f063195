use Rattle.std.proofs.Common.{◌≡◌, ◌∙◌, true, refl, sym}
use Rattle.library_model.specs.Replies.{refusal}
use Rattle.library_model.specs.Stands.{tables_of}
use Rattle.library_model.specs.declared.messages.Command.TheVariants.{Regroup}
use Rattle.library_model.specs.declared.refusals.Refusal.TheVariants.{AlbumFull}
use Rattle.library_model.proofs.Refusing.{regroup_full}
use Rattle.catalogue_core.proofs.Exits.{leaves_after, refuses}
use Rattle.catalogue_core.proofs.Regroups.{crowds_full}
use Rattle.catalogue_core.proofs.regrouping.regroup_other.Goals as goal

pub plan_regroup-requires-clause-room : goal.plan_regroup-requires-clause-room
plan_regroup-requires-clause-room g c = c.reserve_in.ensures.kept.room 6 c.requires.room

pub returns-then-is_full-clause-decides : goal.returns-then-is_full-clause-decides
returns-then-is_full-clause-decides g c = λ s token mark holds open_ there home.
    let a = c.args in
    let full = crowds_full (tables_of s) a.old.album a.album c.requires.other ∙ sym (c.if-is_full.ensures (tables_of s) holds home) in
    refuses c.refused.result s token mark (Regroup a.id a.album) (refusal AlbumFull) c.refused.ensures
    (regroup_full s token mark a.id a.album a.old open_.valid open_.fresh there home full)

pub returns-clause-decides : goal.returns-clause-decides
returns-clause-decides g c = λ s token mark holds open_ there home.
    let few = sym (c.if-is_full.ensures (tables_of s) holds home) in
    c.plan_regroup.ensures.decides s token mark (c.reserve_in.ensures.held (tables_of s) holds) open_ there home few

pub returns-clause-leaves : goal.returns-clause-leaves
returns-clause-leaves g c =
    leaves_after c.args.library.now _ c.plan_regroup.new.library c.plan_regroup.result c.reserve_in.ensures.held c.reserve_in.ensures.numbers refl
    c.plan_regroup.ensures.leaves
