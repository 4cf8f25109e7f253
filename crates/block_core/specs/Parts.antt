-- One clock of a linked design, part by part.
use Rattle.std.specs.Prelude.{◌≡◌, ℕ, suc, ◌<◌, ◌==◌, false, if◌then◌else◌, List, [], ◌∷◌, length, None}
use Rattle.std.proofs.Common.{get_or}
use Rattle.net_core.specs.declared.tree.Word.{Word}
use Rattle.net_core.specs.Nets.{StatementTree, SBlock, SIf, SIfElse, SSet, SStore, StatementTrees, SEnd, SThen, Netlist}
use Rattle.net_core.specs.Value.{nothing, Env, value, right_value, stops}
use Rattle.net_core.specs.Clock.{Stored, done, after, stopping, shown}
use Rattle.block_core.specs.declared.name.Name.{Name}
use Rattle.block_core.specs.declared.name.Name.TheVariants as name
use Rattle.block_core.specs.Blocks.{BlockTree, BlockWireTree, OutputTree, registers_of, memories_of, Whole, Among, gather}

-- what is stored, from what each part stores
abbrev pub stored_in : {P : Type 0} → List P → (P → Stored) → Stored
stored_in ps ss = record { registers = gather (λ p. (ss p).registers) ps; memories = gather (λ p. (ss p).memories) ps }

abbrev pub stored_of : {P : Type 0} → Whole P → (P → Stored) → Stored
stored_of d ss = stored_in d.parts ss

-- as many registers and memories as the block has
pub record IsSized {N : Type 0} (b : BlockTree N) (s : Stored) : Type 0 where
  pub registers : length s.registers ≡ registers_of b
  pub memories : length s.memories ≡ memories_of b

-- the wires of a part, from one on, have the values of their right sides
abbrev pub Solve : {P : Type 0} → Env (Name P) → P → ℕ → List (BlockWireTree (Name P)) → Type 0
Solve v p at [] = Unit {0}
Solve v p at (w ∷ ws) = (v.net (name.Wire p at) ≡ right_value v w.right) × Solve v p (suc at) ws

-- no divisor is zero
abbrev pub Goes : {N : Type 0} → Env N → List (BlockWireTree N) → Type 0
Goes v [] = Unit {0}
Goes v (w ∷ ws) = (stops v w.right ≡ false) × Goes v ws

-- The nets of a clock: ports, what is stored, as each part has it, and each wire by its own equation.
pub record Sees {P : Type 0} (d : Whole P) (ins : List Word) (ss : P → Stored) (v : Env (Name P)) : Type 0 where
  pub port : (i : ℕ) → v.net (name.Port i) ≡ get_or ins i nothing
  pub register : (p : P) (i : ℕ) → Among p d.parts → i < length (ss p).registers → v.net (name.Register p i) ≡ get_or (ss p).registers i nothing
  pub memory_word : (p : P) (i a : ℕ) → Among p d.parts → i < length (ss p).memories → v.memory_word (name.Memory p i) a ≡ get_or (get_or (ss p).memories i []) a nothing
  pub wires : (p : P) → Among p d.parts → Solve v p 0 (d.block p).wires

-- what a port shows
abbrev pub shown_by : {N : Type 0} → Env N → List (OutputTree N) → ℕ → Word
shown_by v [] port = nothing
shown_by v (o ∷ rest) port = if o.port == port then value v o.value else shown_by v rest port

-- One clock: every part sees what is stored and the equations of all wires, and does to its own what its statement does.
pub record ClockOfParts {P : Type 0} (d : Whole P) (n : Netlist) (outputs : List (OutputTree (Name P))) (ins : List Word) (ss : P → Stored) : Type 0 where
  pub env : Env (Name P)
  pub sees : Sees d ins ss env
  pub after : after n ins (stored_of d ss) ≡ stored_of d (λ p. done env (d.block p).statement (ss p))
  pub shown : (port : ℕ) → shown n ins (stored_of d ss) port ≡ shown_by env outputs port
  pub goes : ((p : P) → Among p d.parts → Goes env (d.block p).wires) → stopping n ins (stored_of d ss) ≡ None

-- what a statement sets is one of so many registers and memories
abbrev mutual
  pub Within : {N : Type 0} → ℕ → ℕ → StatementTree N → Type 0
  Within r m (SBlock more) = AllWithin r m more
  Within r m (SIf c a) = Within r m a
  Within r m (SIfElse c a b) = Within r m a × Within r m b
  Within r m (SSet k e) = k < r
  Within r m (SStore k i e) = k < m

  pub AllWithin : {N : Type 0} → ℕ → ℕ → StatementTrees N → Type 0
  AllWithin r m SEnd = Unit {0}
  AllWithin r m (SThen a more) = Within r m a × AllWithin r m more
