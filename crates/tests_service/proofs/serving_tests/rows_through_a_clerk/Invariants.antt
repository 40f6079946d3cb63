use Rattle.tests_service.proofs.serving_tests.rows_through_a_clerk.Given as goal

abbrev pub ghosts-clerk_answers-L-Ledger : goal.ghosts-clerk_answers-L-Ledger
ghosts-clerk_answers-L-Ledger g a = record { name = a.opening.blank.name; parts = a.opening.blank.parts }

abbrev pub ghosts-clerk_answers-L-Naming : goal.ghosts-clerk_answers-L-Naming
ghosts-clerk_answers-L-Naming g a = record { book = a.opening.history.seen.book }

abbrev pub ghosts-clerk_answers-L-LockName : goal.ghosts-clerk_answers-L-LockName
ghosts-clerk_answers-L-LockName g a = record { config = a.opening.config }
