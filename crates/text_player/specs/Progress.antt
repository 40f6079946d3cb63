-- how far a run has read, byte by byte: the line so far, the requests, and whether `quit` was among them
use Rattle.std.specs.Prelude.{ℕ, ◌==◌, if◌then◌else◌, Bool, true, false, List, [], ◌∷◌, ◌++◌, Result, Ok}
use Rattle.model_asked.specs.declared.bad.Bad.{Bad}
use Rattle.model_asked.specs.declared.command.Command.{Command}
use Rattle.model_asked.specs.declared.command.Command.TheVariants as command
use Rattle.model_asked.specs.declared.kind.WorldKind.{WorldKind}
use Rattle.text_lines.specs.Meaning.{meaning}

pub record Progress : Type 0 where
  pub line : List ℕ
  pub asked : List (Result Command Bad)
  pub over : Bool

-- no byte was read
abbrev pub at_start : Progress
at_start = record { line = []; asked = []; over = false }

abbrev pub ends : Result Command Bad → Bool
ends (Ok command.Quit) = true
ends r = false

-- the same, with this line so far
abbrev pub with_line : Progress → List ℕ → Progress
with_line p line = record { line = line; asked = p.asked; over = p.over }

-- the line is whole, and this is its meaning
abbrev pub after_meaning : Progress → Result Command Bad → Progress
after_meaning p m = record { line = []; asked = p.asked ++ m ∷ []; over = ends m }

module _ (kind : WorldKind) where
  -- the line is whole
  abbrev pub after_line : Progress → Progress
  after_line p = after_meaning p (meaning kind p.line)

  -- one more byte
  abbrev pub after_byte : Progress → ℕ → Progress
  after_byte p b =
      if p.over then p
      else if b == 10 then after_line p
      else record { line = p.line ++ b ∷ []; asked = p.asked; over = p.over }

  -- some more bytes
  abbrev pub after_bytes : Progress → List ℕ → Progress
  after_bytes p [] = p
  after_bytes p (b ∷ bs) = after_bytes (after_byte p b) bs

  abbrev pub after_rest : Progress → List ℕ → Progress
  after_rest p [] = p
  after_rest p (b ∷ bs) = after_line p

  -- the end of the input. The bytes after the last LF, if there are any, are a line
  abbrev pub after_end : Progress → Progress
  after_end p = if p.over then p else after_rest p p.line
