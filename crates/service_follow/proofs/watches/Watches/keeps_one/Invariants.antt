use Rattle.std.proofs.Common.{◌≡◌, drop}
use Rattle.service_follow.specs.Watched.{keeps_one}
use Rattle.service_follow.proofs.watches.Watches.keeps_one.Given as goal

-- none of the watches so far is kept there
abbrev pub invariant-loop-watch : goal.invariant-loop-watch
invariant-loop-watch l = keeps_one l.token (drop l.watch-index l.self.watches.items) ≡ keeps_one l.token l.self.watches.items
