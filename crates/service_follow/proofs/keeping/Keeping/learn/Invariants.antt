use Rattle.std.proofs.Common.{◌≡◌, map, drop}
use Rattle.service_follow.specs.Kept.{kept_after_all, kept_behind}
use Rattle.service_follow.specs.Said.{said_by}
use Rattle.service_follow.proofs.keeping.Keeping.learn.Given as goal

-- the notes that are left lead to what all do
abbrev pub invariant-loop-note : goal.invariant-loop-note
invariant-loop-note l = record {
  entries : l.self.entries ≡ l.fn.self.entries;
  kept : kept_after_all l.token l.fn.self.entries l.self.kept.items (map said_by (drop l.note-index l.notes))
      ≡ kept_behind l.token l.fn.self.entries l.fn.self.kept.items (map said_by l.notes);
}
