-- Where words stand, and what holds of a simulator between two clocks.
use Rattle.std.specs.Prelude.{◌≡◌, ℕ, suc, ◌+◌, ◌<◌, ◌≤◌, Option, Some, None, List, [], ◌∷◌, ◌++◌, length, drop, map, replicate, slice_set}
use Rattle.std.proofs.Common.{get_or}
use Rattle.net_core.specs.declared.ports.TheConstants.{PORT_COUNT}
use Rattle.net_core.specs.declared.tree.Word.{Word}
use Rattle.net_core.specs.declared.design.Declared.{Declared}
use Rattle.net_core.specs.Nets.{Netlist}
use Rattle.net_core.specs.Value.{word}
use Rattle.net_core.specs.Width.{IsTyped, register_widths, memory_widths}
use Rattle.net_core.specs.Clock.{Stored, first_words, first_memories, env_of, stopping, assigned, after}
use Rattle.net_core.specs.View.{netlist_of}
use Rattle.net_core.specs.Ports.{port_list, input_width}
use Rattle.clock_sim.specs.declared.builder.Operand.{Operand}
use Rattle.clock_sim.specs.declared.layout.Layout.{Layout}
use Rattle.clock_sim.specs.declared.clock.CompiledDesign.{CompiledDesign}
use Rattle.clock_sim.specs.declared.compile.Parts.{Parts}
use Rattle.clock_sim.specs.declared.operands.Operands.{Operands}
use Rattle.clock_sim.specs.declared.edge.Edge.{Edge}
use Rattle.clock_sim.specs.Ready.{IsStored}
use Rattle.clock_sim.specs.Flat.{Flat, Situation, numbers, Numbers, AreReading, AreFree, WriteFrom}
use Rattle.clock_sim.specs.Orders.{AreGroups}
use Rattle.clock_sim.specs.Edges.{sizes_of, AreDivisors, AreSlots, AreStores, Stops, Leads, IsShown}

-- operands of these widths, one after another
abbrev pub operands_from : ℕ → List ℕ → List Operand
operands_from at [] = []
operands_from at (w ∷ ws) = record { slot = at; width = w } ∷ operands_from (suc at) ws

-- `clk` and the outputs are not read, so they have no width
abbrev pub port_widths : List ℕ
port_widths = 0 ∷ map input_width (drop 1 port_list)

abbrev pub port_operands : List Operand
port_operands = operands_from 0 port_widths

-- what stands where for what is declared
pub record IsLayout (ds : List Declared) (l : Layout) : Type 0 where
  pub registers : l.registers.items ≡ operands_from PORT_COUNT (register_widths ds)
  pub memories : sizes_of l.memories.items ≡ memory_widths ds
  pub values : l.numbers.items ≡ numbers (first_words ds)
  pub contents : l.contents.items ≡ map numbers (first_memories ds)

abbrev pub slots_in : List Operand → List ℕ
slots_in ps = map (λ p. p.slot) ps

-- before any step, ports and registers have the first slots, and an edge leaves the registers as they are
pub record Begins (ds : List Declared) (n : Operands) (c : Flat) (e : Edge) : Type 0 where
  pub ports : n.ports.items ≡ port_operands
  pub registers : n.registers.items ≡ operands_from PORT_COUNT (register_widths ds)
  pub memories : sizes_of n.memories.items ≡ memory_widths ds
  pub wires : n.wires.items ≡ []
  pub steps : c.steps ≡ []
  pub slots : c.slots ≡ replicate (PORT_COUNT + length (register_widths ds)) None
  pub next : e.next.items ≡ slots_in n.registers.items
  pub stores : e.stores.items ≡ []

-- one more item
pub record AddsItem (d : Declared) (old new : Layout) : Type 0 where
  pub registers : new.registers.items ≡ old.registers.items ++ operands_from (PORT_COUNT + length old.registers.items) (register_widths (d ∷ []))
  pub memories : sizes_of new.memories.items ≡ sizes_of old.memories.items ++ memory_widths (d ∷ [])
  pub values : new.numbers.items ≡ old.numbers.items ++ numbers (first_words (d ∷ []))
  pub contents : new.contents.items ≡ old.contents.items ++ map numbers (first_memories (d ∷ []))

abbrev pub constants_in : List (Option ℕ) → List ℕ
constants_in [] = []
constants_in (None ∷ rest) = 0 ∷ constants_in rest
constants_in (Some n ∷ rest) = n ∷ constants_in rest

-- slots into which numbers were written, from one on
abbrev pub with_words : ℕ → List ℕ → List ℕ → List ℕ
with_words at [] slots = slots
with_words at (n ∷ ns) slots = with_words (suc at) ns (slice_set slots at n)

-- ---- what is stored
abbrev pub words_from : List ℕ → ℕ → List ℕ → List Word
words_from [] at slots = []
words_from (w ∷ ws) at slots = word w (get_or slots at 0) ∷ words_from ws (suc at) slots

abbrev pub cells_from : List (ℕ × ℕ) → List (List ℕ) → List (List Word)
cells_from [] contents = []
cells_from (w ∷ ws) [] = []
cells_from (w ∷ ws) (b ∷ contents) = map (λ n. word w.1 n) b ∷ cells_from ws contents

abbrev pub stored_in : List Declared → List ℕ → List (List ℕ) → Stored
stored_in ds slots contents = record { registers = words_from (register_widths ds) PORT_COUNT slots; memories = cells_from (memory_widths ds) contents }

abbrev pub stored_of : CompiledDesign → List ℕ → List (List ℕ) → Stored
stored_of p slots contents = stored_in p.design.declared.items slots contents

-- the slot of each port holds what it shows
abbrev pub ShowsPorts : List Declared → Flat → List ℕ → (ℕ → Situation → Word) → Type 0
ShowsPorts ds c shown at = (port : ℕ) → port < length shown → Numbers ds c (get_or shown port 0) (λ x. (at port x).value)

-- the steps of a compiled design, with the constants that stand in its slots
abbrev pub flat_with : CompiledDesign → List (Option ℕ) → Flat
flat_with p constants = record { steps = p.steps.items; slots = constants }

-- what a compiled design gives in every clock
pub record IsCompiled (p : CompiledDesign) (constants : List (Option ℕ)) : Type 0 where
  pub typed : IsTyped (netlist_of p.design)
  pub reading : AreReading (length constants) p.steps.items
  pub free : AreFree constants p.steps.items
  pub groups : AreGroups p.groups.items p.steps.items
  pub own : WriteFrom (PORT_COUNT + length (register_widths p.design.declared.items)) p.steps.items
  pub first : (k n : ℕ) → get_or constants k None ≡ Some n → PORT_COUNT + length (register_widths p.design.declared.items) ≤ k
  pub room : PORT_COUNT + length (register_widths p.design.declared.items) ≤ length constants
  pub divisors : AreDivisors p.divisors.items (length constants)
  pub shown : IsShown p.shown.items (length constants)
  pub next : AreSlots p.next.items (length constants)
  pub count : length p.next.items ≡ length (register_widths p.design.declared.items)
  pub stores : AreStores p.stores.items (length constants)
  pub stops : Stops p.design.declared.items (flat_with p constants) p.divisors.items (λ x. stopping (netlist_of p.design) x.ins x.stored)
  pub shows : ShowsPorts p.design.declared.items (flat_with p constants) p.shown.items (λ port x. assigned (env_of (netlist_of p.design) x.ins x.stored) (netlist_of p.design).assigns port)
  pub leads : Leads p.design.declared.items (flat_with p constants) p.next.items p.stores.items (λ x. after (netlist_of p.design) x.ins x.stored)

-- a simulator between two clocks, with so many words for the next registers
pub record IsReady (p : CompiledDesign) (slots : List ℕ) (contents : List (List ℕ)) (next : ℕ) : Type 0 where
  pub constants : List (Option ℕ)
  pub compiled : IsCompiled p constants
  pub count : length slots ≡ length constants
  pub kept : (k n : ℕ) → get_or constants k None ≡ Some n → get_or slots k 0 ≡ n
  pub stored : IsStored p.design.declared.items (stored_of p slots contents)
  pub contents_count : length contents ≡ length (memory_widths p.design.declared.items)
  pub next_count : next ≡ length p.next.items

-- what the steps of wires, outputs and always blocks give in every clock
pub record Compiles (d : Netlist) (c : Flat) (e : Edge) (parts : Parts) : Type 0 where
  pub own : WriteFrom (PORT_COUNT + length (register_widths d.declared)) c.steps
  pub first : (k n : ℕ) → get_or c.slots k None ≡ Some n → PORT_COUNT + length (register_widths d.declared) ≤ k
  pub room : PORT_COUNT + length (register_widths d.declared) ≤ length c.slots
  pub divisors : AreDivisors parts.divisors.items (length c.slots)
  pub shown : IsShown parts.shown.items (length c.slots)
  pub next : AreSlots e.next.items (length c.slots)
  pub count : length e.next.items ≡ length (register_widths d.declared)
  pub stores : AreStores e.stores.items (length c.slots)
  pub stops : Stops d.declared c parts.divisors.items (λ x. stopping d x.ins x.stored)
  pub shows : ShowsPorts d.declared c parts.shown.items (λ port x. assigned (env_of d x.ins x.stored) d.assigns port)
  pub leads : Leads d.declared c e.next.items e.stores.items (λ x. after d x.ins x.stored)
