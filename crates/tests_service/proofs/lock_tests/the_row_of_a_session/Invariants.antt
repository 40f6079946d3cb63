use Rattle.tests_service.proofs.lock_tests.the_row_of_a_session.Given as goal

abbrev pub ghosts-one_session-L-Ledger : goal.ghosts-one_session-L-Ledger
ghosts-one_session-L-Ledger g a = record { name = a.opening.blank.name; parts = a.opening.blank.parts }

abbrev pub ghosts-one_session-L-Naming : goal.ghosts-one_session-L-Naming
ghosts-one_session-L-Naming g a = record { book = a.opening.history.seen.book }

abbrev pub ghosts-one_session-L-LockName : goal.ghosts-one_session-L-LockName
ghosts-one_session-L-LockName g a = record { config = a.opening.config }
