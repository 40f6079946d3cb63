-- what a turn of a connection needs of the room that all share
use Rattle.std.specs.Prelude.{◌≡◌, [], length}
use Rattle.service_loop.specs.declared.shared.SharedBuffers.{SharedBuffers}

-- 64 KiB for what is read, and no reply left of another
abbrev pub AreShared : {A : Type 0} → SharedBuffers A → Type 0
AreShared room = (length room.chunk.items ≡ 65536) × (room.replies ≡ [])
