use Rattle.tests_service.proofs.server_tests.a_held_connection_holds_no_other.Given as goal

abbrev pub ghosts-held-L-Ledger : goal.ghosts-held-L-Ledger
ghosts-held-L-Ledger g a = record { name = a.opening.blank.name; parts = a.opening.blank.parts }

abbrev pub ghosts-held-L-Naming : goal.ghosts-held-L-Naming
ghosts-held-L-Naming g a = record { book = a.opening.history.seen.book }

abbrev pub ghosts-held-L-LockName : goal.ghosts-held-L-LockName
ghosts-held-L-LockName g a = record { config = a.opening.config }
