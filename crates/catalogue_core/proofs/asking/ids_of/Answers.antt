use Rattle.std.proofs.Common.{◌≤◌, arith, length, ◌∙◌}
use Rattle.std.proofs.lemmas.List.{take_all}
use Rattle.album_merge.specs.Members.{ids_of}
use Rattle.catalogue_core.proofs.asking.ids_of.Goals as goal

pub returns : goal.returns
returns c =
    let ended : length (ids_of c.args.members.now) ≤ c.loop-place.place = grind arith in
    c.loop-place.invariant.taken ∙ take_all c.loop-place.place (ids_of c.args.members.now) ended
