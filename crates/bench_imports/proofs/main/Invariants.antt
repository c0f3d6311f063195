use Rattle.bench_imports.proofs.main.Given as goal

abbrev pub ghosts-albums : goal.ghosts-albums
ghosts-albums g a = record { name = a.blank.name; parts = a.blank.parts }

abbrev pub ghosts-regroups : goal.ghosts-regroups
ghosts-regroups g a = record { name = a.blank.name; parts = a.blank.parts }

abbrev pub ghosts-imports : goal.ghosts-imports
ghosts-imports g a = record { name = a.blank.name; parts = a.blank.parts }
