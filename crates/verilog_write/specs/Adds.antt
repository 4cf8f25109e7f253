-- What a call has added to a text, by how the text stands before and after.
use Rattle.std.specs.Prelude.{ℕ, List, ◌++◌}
use Rattle.verilog_lex.specs.Lexeme.{Lexeme}
use Rattle.verilog_lex.specs.Spelling.{IsClosed, IsOpen}

-- to a closed text, which may be open then, as after a word
pub record AddsWord (old new : List ℕ) (ls : List Lexeme) : Type 0 where
  pub read : (before : List Lexeme) → IsClosed old before → IsOpen new (before ++ ls)

-- to any text, which is closed then, as after a symbol
pub record AddsMark (old new : List ℕ) (ls : List Lexeme) : Type 0 where
  pub read : (before : List Lexeme) → IsOpen old before → IsClosed new (before ++ ls)

-- to a closed text, which is closed then, as after a line
pub record AddsLine (old new : List ℕ) (ls : List Lexeme) : Type 0 where
  pub read : (before : List Lexeme) → IsClosed old before → IsClosed new (before ++ ls)
