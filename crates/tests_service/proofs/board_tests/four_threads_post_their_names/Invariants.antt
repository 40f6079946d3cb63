use Rattle.tests_service.proofs.board_tests.four_threads_post_their_names.Given as goal

abbrev pub ghosts-four_post-L-Ledger : goal.ghosts-four_post-L-Ledger
ghosts-four_post-L-Ledger g a = record { name = a.opening.blank.name; parts = a.opening.blank.parts }

abbrev pub ghosts-four_post-L-Naming : goal.ghosts-four_post-L-Naming
ghosts-four_post-L-Naming g a = record { book = a.opening.history.seen.book }

abbrev pub ghosts-four_post-L-LockName : goal.ghosts-four_post-L-LockName
ghosts-four_post-L-LockName g a = record { config = a.opening.config }
