use Rattle.std.proofs.Common.{rules, arith, ◌≡◌, false, length, nat_lt}
use Rattle.std.proofs.lemmas.Bool.Decides.{nat_tests}
use Rattle.lib_base.specs.declared.limits.TheConstants.{MOST_MEMBERS}
use Rattle.album_merge.specs.Members.{ids_of, without_recording}
use Rattle.catalogue_rows.proofs.Backed.{long_as}
use Rattle.catalogue_rows.proofs.members.put_over.Goals as goal

pub returns-else-has_place-clause-album : goal.returns-else-has_place-clause-album
returns-else-has_place-clause-album c recordings measured is stands few =
    let full : nat_lt (length (ids_of c.remove.new.self)) MOST_MEMBERS ≡ false = search rules in
    let long = long_as c.remove.new.self (without_recording c.args.id recordings) (c.remove.ensures.album recordings is) in
    absurd (grind (arith, nat_tests, full, long, few))
