-- What steps say of wires, outputs and the rising edge.
use Rattle.std.specs.Prelude.{◌≡◌, ℕ, suc, ⊤, ◌-◌, ◌<◌, ◌==◌, if◌then◌else◌, Bool, true, Option, Some, None, List, [], ◌∷◌, ◌++◌, length, slice_set, map}
use Rattle.std.proofs.Common.{get_or, ◌&&◌, not}
use Rattle.net_core.specs.declared.tree.Word.{Word}
use Rattle.net_core.specs.declared.tree.Net.{Net}
use Rattle.net_core.specs.declared.design.Declared.{Declared}
use Rattle.net_core.specs.declared.ports.TheConstants.{PORT_COUNT}
use Rattle.net_core.specs.Nets.{WireTree, AssignTree, StatementTree, StatementTrees, RightTree, RPlain, RQuotient, RRemainder, Netlist}
use Rattle.net_core.specs.Value.{nothing}
use Rattle.net_core.specs.Width.{port_width, register_widths, memory_widths, wire_widths, wires_typed, width_of, statement_typed}
use Rattle.net_core.specs.Clock.{Stored, with_wires, assigned, done, all_done, edge}
use Rattle.clock_sim.specs.declared.builder.Operand.{Operand}
use Rattle.clock_sim.specs.declared.operands.Operands.{Operands}
use Rattle.clock_sim.specs.declared.operands.Widths.{Widths}
use Rattle.clock_sim.specs.declared.edge.Store.{Store}
use Rattle.clock_sim.specs.declared.edge.Edge.{Edge}
use Rattle.clock_sim.specs.declared.wires.Divisor.{Divisor}
use Rattle.clock_sim.specs.Steps.{run}
use Rattle.clock_sim.specs.Flat.{Flat, Situation, IsFine, contents_of, Starts, Numbers, operand_in, no_operand, scope_of, env_at, Knows}

-- ---- wires
abbrev pub widths_at : List Operand → List ℕ
widths_at ps = map (λ p. p.width) ps

abbrev pub sizes_of : List Widths → List (ℕ × ℕ)
sizes_of ws = map (λ w. (w.index, w.word)) ws

-- ports, registers and memories have the widths of a design
pub record Matches (d : Netlist) (n : Operands) : Type 0 where
  pub ports : (k : ℕ) → (get_or n.ports.items k no_operand).width ≡ port_width d.ports k
  pub registers : widths_at n.registers.items ≡ register_widths d.declared
  pub memories : sizes_of n.memories.items ≡ memory_widths d.declared

-- these wires are well typed where those of the operands stand before
pub record AreTyped (n : Operands) (ws : List WireTree) : Type 0 where
  pub netlist : Netlist
  pub matches : Matches netlist n
  pub typed : wires_typed netlist (widths_at n.wires.items) ws ≡ true

-- what a right side divides by
abbrev pub divisor_in : RightTree Net → Option Net
divisor_in (RPlain e) = None
divisor_in (RQuotient a b) = Some b
divisor_in (RRemainder a b) = Some b

-- it can be read
abbrev pub IsDivided : Operands → Option Net → Type 0
IsDivided n None = ⊤
IsDivided n (Some b) = 0 < (operand_in n b).width

abbrev pub AreDivided : Operands → List WireTree → Type 0
AreDivided n [] = ⊤
AreDivided n (w ∷ ws) = IsDivided n (divisor_in w.right) × AreDivided n ws

-- only wires have come, of the widths of these
pub record AddsWires (old new : Operands) (ws : List WireTree) : Type 0 where
  pub ports : new.ports ≡ old.ports
  pub registers : new.registers ≡ old.registers
  pub memories : new.memories ≡ old.memories
  pub wires : widths_at new.wires.items ≡ wire_widths ws

-- the operands of all wires hold their words, in every clock
pub record AreKnown (old new : Flat) (before after : Operands) (ws : List WireTree) : Type 0 where
  pub knows : (ds : List Declared) → Knows ds old before (λ x. []) → Knows ds new after (λ x. with_wires x.ins x.stored [] ws)

abbrev pub first_zero : List Divisor → List ℕ → Option ℕ
first_zero [] slots = None
first_zero (d ∷ ds) slots = if get_or slots d.slot 0 == 0 then Some d.wire else first_zero ds slots

abbrev pub AreDivisors : List Divisor → ℕ → Type 0
AreDivisors [] count = ⊤
AreDivisors (d ∷ ds) count = (d.slot < count) × AreDivisors ds count

-- the first divisor that is zero is that of the wire where the clock stops
pub record Stops (ds : List Declared) (c : Flat) (divisors : List Divisor) (f : Situation → Option ℕ) : Type 0 where
  pub at : (x : Situation) (slots : List ℕ) → IsFine ds x → Starts c x slots → first_zero divisors (run (contents_of x.stored) c.steps slots) ≡ f x

abbrev pub divisors_at : Operands → ℕ → Option Net → List Divisor
divisors_at n at None = []
divisors_at n at (Some b) = record { wire = at; slot = (operand_in n b).slot } ∷ []

-- the divisors of these wires, the first of which has a number
abbrev pub divisors_from : Operands → ℕ → List WireTree → List Divisor
divisors_from n at [] = []
divisors_from n at (w ∷ ws) = divisors_at n at (divisor_in w.right) ++ divisors_from n (suc at) ws

-- ---- outputs
abbrev pub AreShown : Operands → List AssignTree → Type 0
AreShown n [] = ⊤
AreShown n (a ∷ rest) = (0 < width_of (scope_of n) a.value) × AreShown n rest

-- the slot holds what a port shows
pub record Shows (old new : Flat) (n : Operands) (assigns : List AssignTree) (port slot : ℕ) : Type 0 where
  pub shows : (ds : List Declared) (wires : Situation → List Word) → Knows ds old n wires → Numbers ds new slot (λ x. (assigned (env_at wires x) assigns port).value)

-- of each port
abbrev pub ShowsAll : Flat → Flat → Operands → List AssignTree → List ℕ → Type 0
ShowsAll old new n assigns slots = (port : ℕ) → port < length slots → Shows old new n assigns port (get_or slots port 0)

-- ---- the rising edge
-- the memories after these stores, one after another
abbrev pub applied : List ℕ → List Store → List (List ℕ) → List (List ℕ)
applied slots [] contents = contents
applied slots (s ∷ rest) contents =
    applied slots rest (if get_or slots s.guard 0 == 0 then contents else slice_set contents s.memory (slice_set (get_or contents s.memory []) (get_or slots s.at 0) (get_or slots s.word 0)))

abbrev pub AreSlots : List ℕ → ℕ → Type 0
AreSlots [] count = ⊤
AreSlots (k ∷ ks) count = (k < count) × AreSlots ks count

pub record IsStore (s : Store) (count : ℕ) : Type 0 where
  pub guard : s.guard < count
  pub at : s.at < count
  pub word : s.word < count

abbrev pub AreStores : List Store → ℕ → Type 0
AreStores [] count = ⊤
AreStores (s ∷ rest) count = IsStore s count × AreStores rest count

-- slots of words for each register, and stores from slots
pub record IsEdge (e : Edge) (n : Operands) (c : Flat) : Type 0 where
  pub count : length e.next.items ≡ length n.registers.items
  pub next : AreSlots e.next.items (length c.slots)
  pub stores : AreStores e.stores.items (length c.slots)

-- the slots of the registers' next words, and the stores, lead to this in every clock
pub record Leads (ds : List Declared) (c : Flat) (next : List ℕ) (stores : List Store) (f : Situation → Stored) : Type 0 where
  pub count : (x : Situation) → IsFine ds x → length (f x).registers ≡ length next
  pub registers : (r : ℕ) → r < length next → Numbers ds c (get_or next r 0) (λ x. (get_or (f x).registers r nothing).value)
  pub memories : (x : Situation) (slots : List ℕ) → IsFine ds x → Starts c x slots → applied (run (contents_of x.stored) c.steps slots) stores (contents_of x.stored) ≡ contents_of (f x)

-- a guard: none, or a slot that is not zero where it holds
abbrev pub IsGuard : Option ℕ → ℕ → Type 0
IsGuard None count = ⊤
IsGuard (Some g) count = g < count

pub record GuardsBy (ds : List Declared) (c : Flat) (slot : ℕ) (holds : Situation → Bool) : Type 0 where
  pub number : Situation → ℕ
  pub stands : Numbers ds c slot number
  pub tells : (x : Situation) → IsFine ds x → (number x == 0) ≡ not (holds x)

abbrev pub Guards : List Declared → Flat → Option ℕ → (Situation → Bool) → Type 0
Guards ds c None holds = (x : Situation) → IsFine ds x → holds x ≡ true
Guards ds c (Some g) holds = GuardsBy ds c g holds

-- the first number where the guard holds, else the second
pub record Picks (old new : Flat) (guard : Option ℕ) (first second slot : ℕ) : Type 0 where
  pub gives : (ds : List Declared) (holds : Situation → Bool) (f g : Situation → ℕ) → Guards ds old guard holds → Numbers ds old first f → Numbers ds old second g → Numbers ds new slot (λ x. if holds x then f x else g x)

-- a guard and a test
pub record GuardsBoth (old new : Flat) (guard : Option ℕ) (test slot : ℕ) : Type 0 where
  pub gives : (ds : List Declared) (holds : Situation → Bool) (f : Situation → ℕ) → Guards ds old guard holds → Numbers ds old test f → GuardsBy ds new slot (λ x. holds x && not (f x == 0))

pub record Opposes (old new : Flat) (test slot : ℕ) : Type 0 where
  pub gives : (ds : List Declared) (f : Situation → ℕ) → Numbers ds old test f → Numbers ds new slot (λ x. 1 - f x)

pub record GuardsAs (old new : Flat) (guard : Option ℕ) (slot : ℕ) : Type 0 where
  pub gives : (ds : List Declared) (holds : Situation → Bool) → Guards ds old guard holds → GuardsBy ds new slot holds

-- a statement, done where the guard holds
pub record ExecutesOne (old new : Flat) (n : Operands) (guard : Option ℕ) (a : StatementTree Net) (begun ended : Edge) : Type 0 where
  pub leads :
      (ds : List Declared) (wires : Situation → List Word) (holds : Situation → Bool) (f : Situation → Stored)
      → Knows ds old n wires → Guards ds old guard holds → Leads ds old begun.next.items begun.stores.items f → Leads ds new ended.next.items ended.stores.items (λ x. if holds x then done (env_at wires x) a (f x) else f x)

pub record ExecutesMore (old new : Flat) (n : Operands) (guard : Option ℕ) (a : StatementTrees Net) (begun ended : Edge) : Type 0 where
  pub leads :
      (ds : List Declared) (wires : Situation → List Word) (holds : Situation → Bool) (f : Situation → Stored)
      → Knows ds old n wires → Guards ds old guard holds → Leads ds old begun.next.items begun.stores.items f → Leads ds new ended.next.items ended.stores.items (λ x. if holds x then all_done (env_at wires x) a (f x) else f x)

abbrev pub AreStatements : Operands → List (StatementTree Net) → Type 0
AreStatements n [] = ⊤
AreStatements n (a ∷ rest) = (statement_typed (scope_of n) (widths_at n.registers.items) (sizes_of n.memories.items) a ≡ true) × AreStatements n rest

pub record ExecutesAll (old new : Flat) (n : Operands) (all : List (StatementTree Net)) (begun ended : Edge) : Type 0 where
  pub leads :
      (ds : List Declared) (wires : Situation → List Word) (f : Situation → Stored)
      → Knows ds old n wires → Leads ds old begun.next.items begun.stores.items f → Leads ds new ended.next.items ended.stores.items (λ x. edge (env_at wires x) all (f x))

abbrev pub taken : List ℕ → List ℕ → List ℕ
taken next slots = map (λ k. get_or slots k 0) next

-- ---- what a clock shows
-- the slot of each port
pub record IsShown (shown : List ℕ) (count : ℕ) : Type 0 where
  pub ports : length shown ≡ PORT_COUNT
  pub slots : AreSlots shown count

-- the number of a port
abbrev pub shown_in : List ℕ → List ℕ → ℕ → ℕ
shown_in shown slots port = get_or (taken shown slots) port 0
