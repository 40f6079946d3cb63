use Rattle.std.proofs.Common.{◌≡◌, take, vec_len, vec_capacity}
use Rattle.model_pool.specs.Roster.{AreIndexed, noted}
use Rattle.model_pool.proofs.roster.note_all.Given as goal

abbrev pub invariant-loop-entry : goal.invariant-loop-entry
invariant-loop-entry g l =
    AreIndexed l.heads.items l.links.items (noted (take l.entry-index l.entries)) × (vec_len l.heads ≡ vec_len l.fn.heads) × (vec_capacity l.links ≡ vec_capacity l.fn.links) × (vec_len l.links ≡ l.entry-index)
