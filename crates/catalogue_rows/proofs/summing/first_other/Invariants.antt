use Rattle.catalogue_rows.proofs.summing.first_other.Given as goal

abbrev pub ghosts-first_other_album : goal.ghosts-first_other_album
ghosts-first_other_album a = record { name = a.blank.name; parts = a.blank.parts }
