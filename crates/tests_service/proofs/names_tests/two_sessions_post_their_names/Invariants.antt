use Rattle.tests_service.proofs.names_tests.two_sessions_post_their_names.Given as goal

abbrev pub ghosts-two_sessions-L-Ledger : goal.ghosts-two_sessions-L-Ledger
ghosts-two_sessions-L-Ledger g a = record { name = a.opening.blank.name; parts = a.opening.blank.parts }

abbrev pub ghosts-two_sessions-L-Naming : goal.ghosts-two_sessions-L-Naming
ghosts-two_sessions-L-Naming g a = record { book = a.opening.history.seen.book }

abbrev pub ghosts-two_sessions-L-LockName : goal.ghosts-two_sessions-L-LockName
ghosts-two_sessions-L-LockName g a = record { config = a.opening.config }
