-- The design that is made of blocks.
use Rattle.std.specs.Prelude.{ℕ, zero, suc, ◌+◌, List, [], ◌∷◌, ◌++◌, length, map, codes}
use Rattle.std.specs.Fmt.{decimal}
use Rattle.net_core.specs.declared.tree.Word.{Word}
use Rattle.net_core.specs.declared.tree.Net.{Net}
use Rattle.net_core.specs.declared.tree.Net.TheVariants as net
use Rattle.net_core.specs.declared.design.Declared.{Declared}
use Rattle.net_core.specs.declared.design.Declared.TheVariants as declared
use Rattle.net_core.specs.declared.design.Port.{Port}
use Rattle.net_core.specs.Nets.{StatementTree, WireTree, AssignTree, Netlist}
use Rattle.block_core.specs.declared.name.Name.{Name}
use Rattle.block_core.specs.declared.name.Name.TheVariants as name
use Rattle.block_core.specs.declared.block.BlockMemory.{BlockMemory}
use Rattle.block_core.specs.Rename.{rename, rename_right, rename_statement}
use Rattle.block_core.specs.Blocks.{BlockWireTree, OutputTree, registers_of, memories_of, wires_of, Whole, gather, start}

-- a part's net as one of the design
abbrev pub resolve : {P : Type 0} → Whole P → Name P → Net
resolve d (name.Port i) = net.Port i
resolve d (name.Register p i) = net.Register (start registers_of d p + i)
resolve d (name.Memory p i) = net.Memory (start memories_of d p + i)
resolve d (name.Wire p i) = net.Wire (start wires_of d p + i)

abbrev pub link_wire : {N : Type 0} → (N → Net) → BlockWireTree N → WireTree
link_wire f w = record { width = w.width; right = rename_right f w.right }

abbrev pub link_wires : {N : Type 0} → (N → Net) → List (BlockWireTree N) → List WireTree
link_wires f ws = map (link_wire f) ws

abbrev pub link_output : {N : Type 0} → (N → Net) → OutputTree N → AssignTree
link_output f o = record { port = o.port; value = rename f o.value }

abbrev pub link_statement : {P : Type 0} → Whole P → P → StatementTree Net
link_statement d p = rename_statement (resolve d) (start registers_of d p) (start memories_of d p) (d.block p).statement

abbrev pub all_registers : {P : Type 0} → Whole P → List P → List Word
all_registers d ps = gather (λ p. (d.block p).registers) ps

abbrev pub all_memories : {P : Type 0} → Whole P → List P → List BlockMemory
all_memories d ps = gather (λ p. (d.block p).memories) ps

abbrev pub all_wires : {P : Type 0} → Whole P → List P → List WireTree
all_wires d ps = gather (λ p. link_wires (resolve d) (d.block p).wires) ps

abbrev pub all_statements : {P : Type 0} → Whole P → List P → List (StatementTree Net)
all_statements d ps = map (link_statement d) ps

-- one integer, which fills every memory; the registers of all parts; their memories
abbrev pub declare_memory : BlockMemory → Declared
declare_memory m = declared.Memory m.index m.first 0

abbrev pub declare_register : Word → Declared
declare_register w = declared.Register w

abbrev pub all_declared : List Word → List BlockMemory → List Declared
all_declared rs ms = declared.Integer ∷ (map declare_register rs ++ map declare_memory ms)

-- a letter, an underscore and a number for each
abbrev pub numbered : List ℕ → ℕ → ℕ → List (List ℕ)
numbered letter at zero = []
numbered letter at (suc n) = (letter ++ decimal at) ∷ numbered letter (suc at) n

abbrev pub net_names : ℕ → ℕ → ℕ → List (List ℕ)
net_names registers memories wires = codes "i_0" ∷ (numbered (codes "r_") 0 registers ++ (numbered (codes "m_") 0 memories ++ numbered (codes "w_") 0 wires))

-- the names of ports, and after them those of numbered nets
abbrev pub numbered_names : {P : Type 0} → Whole P → List (List ℕ) → List (List ℕ)
numbered_names d port_names = port_names ++ net_names (length (all_registers d d.parts)) (length (all_memories d d.parts)) (length (all_wires d d.parts))

-- The design of the parts under these names of ports and nets: its integer, then section by section part after part.
abbrev pub link : {P : Type 0} → Whole P → List (List ℕ) → List Port → List (OutputTree (Name P)) → Netlist
link d names ports outputs = record {
  names = names;
  ports = ports;
  declared = all_declared (all_registers d d.parts) (all_memories d d.parts);
  wires = all_wires d d.parts;
  assigns = map (link_output (resolve d)) outputs;
  always = all_statements d d.parts;
}
