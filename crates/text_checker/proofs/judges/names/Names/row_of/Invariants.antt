use Rattle.std.proofs.Common.{◌≤◌, length, drop}
use Rattle.text_checker.proofs.judges_lemmas.Common.{RenameTerms, RenameObject, IsRowOf, turns_in, HoldsNames}
use Rattle.text_checker.proofs.judges.names.Names.row_of.Given as goal

-- the row says what the pairs from i on say
abbrev pub invariant-loop-i : goal.invariant-loop-i
invariant-loop-i l = record {
  inside : l.i ≤ length l.view;
  said : (terms : RenameTerms) (o : RenameObject) → HoldsNames terms l.self o → IsRowOf (turns_in l.self.participants) (length l.self.participants) (drop l.i l.view) l.row;
}

abbrev pub decreases-loop-i : goal.decreases-loop-i
decreases-loop-i l = l.i
