use Rattle.std.proofs.Common.{arith}
use Rattle.service_loop.proofs.feed.Feed.make_room.Goals as goal

pub returns-then-len-ge-MOST_CHANGES : goal.returns-then-len-ge-MOST_CHANGES
returns-then-len-ge-MOST_CHANGES c = (1024, grind (arith, c.if-len-ge-MOST_CHANGES.true, c.len.ensures, c.self.view_is), c.forget.ensures)
