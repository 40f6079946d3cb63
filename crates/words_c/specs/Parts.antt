-- what a handle holds: a part in a pool, a line, a grid or names
use Rattle.words_c.specs.declared.part.Part.{Part}
use Rattle.words_c.specs.declared.part.Part.TheVariants.{Pool, Line, Grid, Names}
use Rattle.words_c.specs.declared.member.Member.{Member}
use Rattle.words_c.specs.declared.line_member.LineMember.{LineMember}
use Rattle.words_c.specs.declared.grid_member.GridMember.{GridMember}
use Rattle.words_c.specs.declared.names_member.NamesMember.{NamesMember}

-- it is a part in a pool, of which this holds
abbrev pub IsPoolAnd : (Member → Type 0) → Part → Type 0
IsPoolAnd P (Pool m) = P m
IsPoolAnd P (Line m) = ⊥
IsPoolAnd P (Grid m) = ⊥
IsPoolAnd P (Names m) = ⊥

-- it is a part in a line, of which this holds
abbrev pub IsLineAnd : (LineMember → Type 0) → Part → Type 0
IsLineAnd P (Pool m) = ⊥
IsLineAnd P (Line m) = P m
IsLineAnd P (Grid m) = ⊥
IsLineAnd P (Names m) = ⊥

-- it is a part in a grid, of which this holds
abbrev pub IsGridAnd : (GridMember → Type 0) → Part → Type 0
IsGridAnd P (Pool m) = ⊥
IsGridAnd P (Line m) = ⊥
IsGridAnd P (Grid m) = P m
IsGridAnd P (Names m) = ⊥

-- it is a part in names, of which this holds
abbrev pub IsNamesAnd : (NamesMember → Type 0) → Part → Type 0
IsNamesAnd P (Pool m) = ⊥
IsNamesAnd P (Line m) = ⊥
IsNamesAnd P (Grid m) = ⊥
IsNamesAnd P (Names m) = P m
