use Rattle.std.proofs.Common.{◌≡◌, ◌≤◌, ◌-◌, length, take}
use Rattle.album_merge.specs.Members.{ids_of}
use Rattle.catalogue_core.proofs.asking.ids_of.Given as goal

-- the ids so far
abbrev pub invariant-loop-place : goal.invariant-loop-place
invariant-loop-place l = record {
  inside : l.place ≤ length (ids_of l.members);
  taken : l.ids.items ≡ take l.place (ids_of l.members);
}

abbrev pub decreases-loop-place : goal.decreases-loop-place
decreases-loop-place l = length (ids_of l.members) - l.place
