use Rattle.tests_service.proofs.lock_tests.the_row_of_a_clerk.Given as goal

abbrev pub ghosts-one_by_clerk-L-Ledger : goal.ghosts-one_by_clerk-L-Ledger
ghosts-one_by_clerk-L-Ledger g a = record { name = a.opening.blank.name; parts = a.opening.blank.parts }

abbrev pub ghosts-one_by_clerk-L-Naming : goal.ghosts-one_by_clerk-L-Naming
ghosts-one_by_clerk-L-Naming g a = record { book = a.opening.history.seen.book }

abbrev pub ghosts-one_by_clerk-L-LockName : goal.ghosts-one_by_clerk-L-LockName
ghosts-one_by_clerk-L-LockName g a = record { config = a.opening.config }
