-- The parts of a map and their blocks.
use Rattle.std.specs.Prelude.{◌≡◌, List, [], ◌∷◌, IsTrue}
use Rattle.std.specs.List.{list_all}
use Rattle.net_core.specs.Ports.{port_list}
use Rattle.net_core.specs.Value.{Env}
use Rattle.net_core.specs.Clock.{Stored, done}
use Rattle.block_core.specs.design_rules.FormedSyntax.{right_spelled, statement_spelled}
use Rattle.block_core.specs.ProductBlocks.Alone.{IsFree}
use Rattle.block_core.specs.declared.name.Name.{Name}
use Rattle.block_core.specs.Blocks.{BlockTree, registers_of, memories_of, Whole, Among}
use Rattle.block_core.specs.Parts.{Solve, Within}
use Rattle.block_core.specs.Formed.{name_width}
use Rattle.block_core.specs.View.{block_of}
use Rattle.hash_net.specs.array_net.declared.block.MapNets.{MapNets}
use Rattle.commit_net.specs.declared.map_block.parts.MapParts.{MapParts}
use Rattle.commit_net.specs.declared.map_block.parts.MapBlocks.{MapBlocks}
use Rattle.commit_net.specs.declared.map_block.parts.ControlNets.{ControlNets}

-- the blocks, as trees, and the net of the slot that the operation writes that commits
pub record MapTrees (N : Type 0) : Type 0 where
  pub finds : BlockTree N
  pub fetches : BlockTree N
  pub asks : BlockTree N
  pub stores : BlockTree N
  pub slot : N

abbrev pub trees_of : {N : Type 0} → MapBlocks N → MapTrees N
trees_of b = record { finds = block_of b.finds; fetches = block_of b.fetches; asks = block_of b.asks; stores = block_of b.stores; slot = b.slot }

-- ---- all parts in their order
abbrev pub in_order : {P : Type 0} → MapParts P → List P
in_order ps = ps.finder ∷ ps.fetcher ∷ ps.asker ∷ ps.own ∷ []

-- this holds of each part and its block
abbrev pub Each : {P : Type 0} → (P → BlockTree (Name P) → Type 0) → MapParts P → MapTrees (Name P) → Type 0
Each q ps bs = q ps.finder bs.finds × q ps.fetcher bs.fetches × q ps.asker bs.asks × q ps.own bs.stores

-- a design has these parts, and they have these blocks
pub record AreParts {P : Type 0} (w : Whole P) (ps : MapParts P) (bs : MapTrees (Name P)) : Type 0 where
  pub among : Each (λ p b. Among p w.parts) ps bs
  pub blocks : Each (λ p b. w.block p ≡ b) ps bs

-- the wires of all of them have the values of their right sides
abbrev pub SolveAll : {P : Type 0} → Env (Name P) → MapParts P → MapTrees (Name P) → Type 0
SolveAll v ps bs = Each (λ p b. Solve v p 0 b.wires) ps bs

-- ---- what holds of a block's text, wherever it stands
pub record IsText {N : Type 0} (b : BlockTree N) : Type 0 where
  pub within : Within (registers_of b) (memories_of b) b.statement
  pub wires_spelled : IsTrue (list_all (λ w. right_spelled w.right) b.wires)
  pub spelled : IsTrue (statement_spelled b.statement)
  pub free : IsFree b

-- it stores nothing
pub record IsIdle {N : Type 0} (b : BlockTree N) : Type 0 where
  pub registers : b.registers ≡ []
  pub memories : b.memories ≡ []
  pub stays : (v : Env N) (s : Stored) → done v b.statement s ≡ s

-- ---- the nets of control
-- this holds of each of them
abbrev pub OfControl : {N : Type 0} → (N → Type 0) → ControlNets N → Type 0
OfControl q c = q c.commits × q c.writes × q c.idle

-- each has one bit
abbrev pub HaveOneBit : {P : Type 0} → Whole P → ControlNets (Name P) → Type 0
HaveOneBit w c = OfControl (λ n. name_width w port_list n ≡ 1) c

-- with the net of the slot
abbrev pub with_slot_net : {N : Type 0} → ControlNets N → N → MapNets N
with_slot_net c slot = record { commits = c.commits; slot = slot; writes = c.writes }
