-- The block that keeps the marks of the packet at a place.
use Rattle.std.specs.Prelude.{◌≡◌, true, false, ◌||◌, Option, List, [], ◌∷◌, length, map as map_list, IsTrue}
use Rattle.std.specs.List.{list_all}
use Rattle.block_core.specs.net_core.declared.tree.Word.{Word}
use Rattle.block_core.specs.net_core.Ports.{port_list}
use Rattle.block_core.specs.net_core.Value.{word, bit as bit_word, Env}
use Rattle.block_core.specs.net_core.Clock.{Stored, done}
use Rattle.block_core.specs.design_rules.FormedSyntax.{statement_spelled}
use Rattle.block_core.specs.ProductBlocks.Alone.{IsFree}
use Rattle.block_core.specs.declared.name.Name.{Name}
use Rattle.block_core.specs.Blocks.{BlockTree, registers_of, memories_of, first_of, Whole, Among}
use Rattle.block_core.specs.Parts.{Solve, Goes, Within}
use Rattle.block_core.specs.Order.{IsBefore, InOrder}
use Rattle.block_core.specs.Formed.{names_scope, block_registers, IsTypedBlock, StatementReads, IsThere}
use Rattle.overlay_net.specs.xdp_maps.declared.decl.MapDecl.{MapDecl}
use Rattle.overlay_net.specs.cell_core.Cells.{bit, on}
use Rattle.overlay_net.specs.cell_core.Sites.{ProgramView}
use Rattle.overlay_net.specs.hazard_core.StageValues.{StageValues}
use Rattle.overlay_net.specs.hazard_core.declared.change.Change.{Change}
use Rattle.overlay_net.specs.cell_nets.declared.operand.Operand.{Operand}
use Rattle.overlay_net.specs.cell_nets.Operands.{number_in, IsOperand, AreFit, AreDeclared, IsNetOf}
use Rattle.overlay_net.specs.cell_nets.Wires.{is_spelled}
use Rattle.overlay_net.specs.cell_nets.declared.operand_blocks.registers.Taken.{Taken}
use Rattle.read_net.specs.declared.mark_net.nets.MarkSite.{MarkSite}
use Rattle.read_net.specs.MarkNet.Sites.{outside, is_touched, ShowsMarkSite, ShowMarkSites}

-- ---- what a register takes: one bit
pub record IsBit {N : Type 0} (t : Taken N) : Type 0 where
  pub operand : IsOperand t.operand
  pub width : t.width ≡ 1

-- where packets move on it is the mark of the one that comes; else a mark that stood before, or that a change makes
pub record TakesMark {N : Type 0} (v : Env N) (p : ProgramView) (decls : List MapDecl) (advance : N) (m : MarkSite N) (o : Operand N) : Type 0 where
  pub moves : (v.net advance).value ≡ 1 → number_in v o ≡ bit (on (number_in v m.before))
  pub stays : (h : StageValues) (e : Option Change) → (v.net advance).value ≡ 0 → ShowsMarkSite v p decls h e m → number_in v o ≡ bit (on (number_in v m.was) || is_touched p decls h m.site e)

abbrev pub TakeMarks : {N : Type 0} → Env N → ProgramView → List MapDecl → N → List (MarkSite N) → List (Taken N) → Type 0
TakeMarks v p decls advance [] [] = Unit {0}
TakeMarks v p decls advance [] (t ∷ ts) = ⊥
TakeMarks v p decls advance (m ∷ ms) [] = ⊥
TakeMarks v p decls advance (m ∷ ms) (t ∷ ts) = TakesMark v p decls advance m t.operand × TakeMarks v p decls advance ms ts

-- ---- what the registers hold
abbrev pub unmarked : {N : Type 0} → MarkSite N → Word
unmarked m = word 1 0

abbrev pub mark_before : {N : Type 0} → Env N → MarkSite N → Word
mark_before v m = bit_word (on (number_in v m.before))

abbrev pub mark_behind : {N : Type 0} → Env N → ProgramView → List MapDecl → StageValues → Option Change → MarkSite N → Word
mark_behind v p decls h e m = bit_word (on (number_in v m.was) || is_touched p decls h m.site e)

abbrev pub with_words : List Word → Stored
with_words ws = record { registers = ws; memories = [] }

-- The block: a register of one bit for each site, which is 0 at first, that it is well typed, in order and spelled where the nets from outside are, and what
-- a clock does. Where packets move on the registers take the marks of the one that comes. Where they stay a mark stands that stood before, or that a change of
-- this clock makes, of whatever packet the operands show.
pub record IsMarks {P : Type 0} (p : ProgramView) (decls : List MapDecl) (part : P) (advance : Name P) (ms : List (MarkSite (Name P))) (b : BlockTree (Name P)) : Type 0 where
  pub registers : block_registers b ≡ map_list (λ m. 1) ms
  pub memories : b.memories ≡ []
  pub typed : (d : Whole P) → d.block part ≡ b → AreDeclared (names_scope d port_list) (outside advance ms) → IsTypedBlock d port_list b
  pub ordered : (d : Whole P) (before : List P) → ((n : Name P) → IsNetOf (outside advance ms) n → IsBefore d before part 0 n) → InOrder d before part 0 b.wires
  pub reads : (d : Whole P) → Among part d.parts → ((n : Name P) → IsNetOf (outside advance ms) n → IsThere d n) → StatementReads (IsThere d) b.statement
  pub within : Within (registers_of b) (memories_of b) b.statement
  pub wires_spelled : IsTrue (list_all is_spelled b.wires)
  pub spelled : IsTrue (statement_spelled b.statement)
  pub free : IsFree b
  pub goes : (v : Env (Name P)) → AreFit v (outside advance ms) → Solve v part 0 b.wires → Goes v b.wires
  pub first : first_of b ≡ with_words (map_list unmarked ms)
  pub moves :
      (v : Env (Name P)) (s : Stored) → AreFit v (outside advance ms) → Solve v part 0 b.wires → length s.registers ≡ length ms → s.memories ≡ [] → v.net advance ≡ bit_word true → done v b.statement s ≡ with_words (map_list (mark_before v) ms)
  pub stays :
      (v : Env (Name P)) (s : Stored) (h : StageValues) (e : Option Change) → AreFit v (outside advance ms) → Solve v part 0 b.wires → length s.registers ≡ length ms → s.memories ≡ [] → v.net advance ≡ bit_word false → ShowMarkSites v p decls h e ms
      → done v b.statement s ≡ with_words (map_list (mark_behind v p decls h e) ms)
