use Rattle.container_tests.proofs.key_runs.run_counted.Given as goal

-- the ledger is the blank one
abbrev pub ghosts-run_over : goal.ghosts-run_over
ghosts-run_over g a = record { name = a.blank.name; parts = a.blank.parts }
