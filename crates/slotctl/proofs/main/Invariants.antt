use Rattle.slotctl.proofs.main.Given as goal

abbrev pub ghosts-serve-L-Ledger : goal.ghosts-serve-L-Ledger
ghosts-serve-L-Ledger g a = record { name = a.blank.name; parts = a.blank.parts }

abbrev pub ghosts-serve-L-Naming : goal.ghosts-serve-L-Naming
ghosts-serve-L-Naming g a = record { book = a.history.seen.book }

abbrev pub ghosts-serve-L-LockName : goal.ghosts-serve-L-LockName
ghosts-serve-L-LockName g a = record { config = a.plan.config }
