use Rattle.meter_tests.proofs.albums.albums_answer_after_changes.Given as goal

abbrev pub ghosts-change : goal.ghosts-change
ghosts-change g a = record { name = a.blank.name; parts = a.blank.parts }

abbrev pub ghosts-attempt : goal.ghosts-attempt
ghosts-attempt g a = record { name = a.blank.name; parts = a.blank.parts }

abbrev pub ghosts-range : goal.ghosts-range
ghosts-range g a = record { name = a.blank.name; parts = a.blank.parts }
