use Rattle.store_tests.proofs.libraries.reply_to.Given as goal

abbrev pub ghosts-make : goal.ghosts-make
ghosts-make g a = record { name = a.blank.name; parts = a.blank.parts }
