use Rattle.std.proofs.Common.{rules, arith, ◌≡◌, false, length, nat_lt}
use Rattle.std.proofs.lemmas.Bool.Decides.{nat_tests}
use Rattle.lib_base.specs.declared.limits.TheConstants.{MOST_MEMBERS}
use Rattle.album_merge.specs.Members.{ids_of}
use Rattle.catalogue_rows.proofs.Backed.{long_as}
use Rattle.catalogue_rows.proofs.members.try_more.Goals as goal

pub returns-then-not-has_place-clause-some : goal.returns-then-not-has_place-clause-some
returns-then-not-has_place-clause-some g c recordings is few =
    let full : nat_lt (length (ids_of c.args.album.now)) MOST_MEMBERS ≡ false = search rules in
    let long = long_as c.args.album.now recordings is in
    absurd (grind (arith, nat_tests, full, long, few))
