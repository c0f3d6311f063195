use Rattle.std.proofs.Common.{◌≤◌, ◌-◌, length, take}
use Rattle.catalogue_rows.specs.Opening.{IsBuilt}
use Rattle.catalogue_rows.proofs.building.build.Given as goal

abbrev pub invariant-loop-place : goal.invariant-loop-place
invariant-loop-place g l = record {
  inside : l.place ≤ length l.tables.recordings;
  built : IsBuilt l.tables (take l.place l.tables.recordings) l.built;
}

abbrev pub decreases-loop-place : goal.decreases-loop-place
decreases-loop-place g l = length l.tables.recordings - l.place
