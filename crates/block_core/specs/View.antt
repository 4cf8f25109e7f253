-- What blocks in memory stand for.
use Rattle.std.specs.Prelude.{◌≡◌, ℕ, ◌+◌, List, map, get_or}
use Rattle.net_core.specs.declared.tree.Net.{Net}
use Rattle.net_core.specs.declared.tree.Net.TheVariants as net
use Rattle.net_core.specs.Nets.{StatementTree}
use Rattle.net_core.specs.View.{tree_of, right_of, statement_of}
use Rattle.block_core.specs.Rename.{rename_statement}
use Rattle.block_core.specs.declared.name.Name.{Name}
use Rattle.block_core.specs.declared.name.Name.TheVariants as name
use Rattle.block_core.specs.declared.block.BlockWire.{BlockWire}
use Rattle.block_core.specs.declared.block.Block.{Block}
use Rattle.block_core.specs.declared.block.Output.{Output}
use Rattle.block_core.specs.declared.block.Placed.{Placed}
use Rattle.block_core.specs.declared.starts.Section.{Section}
use Rattle.block_core.specs.declared.starts.Section.TheVariants.{Registers, Memories, Wires}
use Rattle.block_core.specs.declared.starts.Starts.{Starts}
use Rattle.block_core.specs.Blocks.{BlockTree, BlockWireTree, OutputTree, registers_of, memories_of, wires_of, running, Whole, Among}

abbrev pub block_wire_of : {N : Type 0} → BlockWire N → BlockWireTree N
block_wire_of w = record { width = w.width; right = right_of w.right }

abbrev pub block_of : {N : Type 0} → Block N → BlockTree N
block_of b = record { registers = b.registers.items; memories = b.memories.items; wires = map block_wire_of b.wires.items; statement = statement_of b.statement }

abbrev pub output_of : {N : Type 0} → Output N → OutputTree N
output_of o = record { port = o.port; value = tree_of o.value }

-- The parts in memory, each with its block, are those of a design.
pub record Makes {P : Type 0} (place : P → ℕ) (placed : List (Placed P)) (d : Whole P) : Type 0 where
  pub places : d.place ≡ place
  pub parts : d.parts ≡ map (λ m. m.part) placed
  pub blocks : (m : Placed P) → Among m placed → block_of m.block ≡ d.block m.part

-- ---- while a design is made
abbrev pub count_in : {N : Type 0} → Section → BlockTree N → ℕ
count_in Registers b = registers_of b
count_in Memories b = memories_of b
count_in Wires b = wires_of b

-- where the nets of each part begin, by its place
pub record StartsOf {P : Type 0} (placed : List (Placed P)) (s : Starts) : Type 0 where
  pub registers : s.registers.items ≡ running 0 (map (λ m. count_in Registers (block_of m.block)) placed)
  pub memories : s.memories.items ≡ running 0 (map (λ m. count_in Memories (block_of m.block)) placed)
  pub wires : s.wires.items ≡ running 0 (map (λ m. count_in Wires (block_of m.block)) placed)

-- a part's net as one of the design, by where each part begins
abbrev pub resolve_in : {P : Type 0} → (P → ℕ) → Starts → Name P → Net
resolve_in place s (name.Port i) = net.Port i
resolve_in place s (name.Register p i) = net.Register (get_or s.registers.items (place p) 0 + i)
resolve_in place s (name.Memory p i) = net.Memory (get_or s.memories.items (place p) 0 + i)
resolve_in place s (name.Wire p i) = net.Wire (get_or s.wires.items (place p) 0 + i)

-- the statement of a part, by where each part begins
abbrev pub linked_statement : {P : Type 0} → (P → ℕ) → Starts → Placed P → StatementTree Net
linked_statement place s m = rename_statement (resolve_in place s) (get_or s.registers.items (place m.part) 0) (get_or s.memories.items (place m.part) 0) (statement_of m.block.statement)
