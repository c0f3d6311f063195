use Rattle.store_tests.proofs.rows.recordings_move_with_their_tallies.Given as goal

abbrev pub ghosts-move_all : goal.ghosts-move_all
ghosts-move_all g a = record { name = a.blank.name; parts = a.blank.parts }
