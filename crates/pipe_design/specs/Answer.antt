-- What stands for the answer of a program after the last place, and the words of a frame that it may change.
use Rattle.std.specs.Prelude.{◌≡◌, ◌==◌, ◌/◌, ℕ, Bool, Option, List, All, Contains, map as map_list}
use Rattle.std.specs.List.{filter, list_any}
use Rattle.block_core.specs.declared.name.Name.{Name}
use Rattle.hazard_core.specs.cell_core.declared.program.FrameByte.{FrameByte}
use Rattle.hazard_core.specs.cell_core.Rows.{numbers}
use Rattle.hazard_core.specs.cell_core.Sites.{ProgramView}
use Rattle.overlay_net.specs.cell_nets.declared.operand.Operand.{Operand}
use Rattle.row_net.specs.Table.{Stands}
use Rattle.row_net.specs.declared.place_net.outputs.AnswerByte.{AnswerByte}
use Rattle.row_net.specs.declared.place_net.outputs.Outputs.{Outputs}
use Rattle.row_net.specs.PlaceNet.Exit.{byte_numbers}
use Rattle.pipe_net.specs.declared.parts.Part.{Part}
use Rattle.pipe_net.specs.Layout.{Table}

-- a byte of an answer and the operand that stands in a table for its cell
pub record IsByteIn (table : Table) (frame : List FrameByte) (x : AnswerByte (Name Part)) : Type 0 where
  pub byte : FrameByte
  pub changed : Contains frame byte
  pub at : byte.at ≡ x.at
  pub stands : Stands table byte.cell x.operand

-- what stands in a table for the answer of a program
pub record AreOutputs (p : ProgramView) (table : Table) (o : Outputs (Name Part)) : Type 0 where
  pub verdict : Stands table p.verdict o.verdict
  pub target : Stands table p.target o.target
  pub bytes : All (IsByteIn table p.frame) o.bytes.items
  pub numbers : byte_numbers o ≡ map_list (λ x. x.at) p.frame

-- whether a byte of a word may change
abbrev pub has_byte : List FrameByte → ℕ → Bool
has_byte frame word = list_any (λ n. n == word) (map_list (λ x. x.at / 8) frame)

-- the words of a frame of which a byte may change
abbrev pub changed_words : List FrameByte → List ℕ
changed_words frame = filter (has_byte frame) (numbers 0 32)
