-- What is said of the block that tells which places send back.
use Rattle.std.specs.Prelude.{◌≡◌, ℕ, suc, ◌≤◌, Bool, false, List, [], drop, replicate, IsTrue}
use Rattle.std.specs.List.{list_all}
use Rattle.std.proofs.Common.{get_or}
use Rattle.net_core.specs.Ports.{port_list}
use Rattle.net_core.specs.Value.{bit, Env}
use Rattle.net_core.specs.Clock.{Stored, done}
use Rattle.block_core.specs.design_rules.FormedSyntax.{statement_spelled}
use Rattle.block_core.specs.declared.name.Name.{Name}
use Rattle.block_core.specs.declared.name.Name.TheVariants as name
use Rattle.block_core.specs.Blocks.{BlockTree, Whole, Among}
use Rattle.block_core.specs.Parts.{Solve, Goes, Within}
use Rattle.block_core.specs.Order.{IsBefore, InOrder}
use Rattle.block_core.specs.Formed.{block_wires, name_width, IsTypedBlock, StatementReads, IsThere}
use Rattle.block_core.specs.BlockForms.WellFormed.{wire_spelled}
use Rattle.block_core.specs.ProductBlocks.Alone.{IsFree}
use Rattle.control_net.specs.declared.ring_net.shape.ControlShape.{ControlShape}
use Rattle.control_net.specs.declared.ring_net.names.Register.TheVariants.{Holds}
use Rattle.control_net.specs.RingNet.Names.{register_name}
use Rattle.control_net.specs.Names.{back_name}
use Rattle.control_net.specs.Control.{some_returns}

-- the net by which a place says that a packet there is to be sent back
abbrev pub reload_name : {P : Type 0} → List (Name P) → ℕ → Name P
reload_name reload k = get_or reload k (name.Port 0)

-- The block: wires alone, one for each place up to the commit place. It is well typed and in order where control has its places, and the nets of other parts
-- are there. A wire is 1 where its place or an older one sends back.
pub record IsReturns {P : Type 0} (c : ControlShape) (part control : P) (reload : List (Name P)) (b : BlockTree (Name P)) : Type 0 where
  pub registers : b.registers ≡ []
  pub memories : b.memories ≡ []
  pub wires : block_wires b ≡ replicate (suc c.commit) 1
  pub typed : (d : Whole P) → d.block part ≡ b → ((k : ℕ) → k ≤ c.commit → name_width d port_list (register_name control (Holds k)) ≡ 1) → ((k : ℕ) → k ≤ c.commit → name_width d port_list (reload_name reload k) ≡ 1) → IsTypedBlock d port_list b
  pub ordered : (d : Whole P) (before : List P) → Among control d.parts → ((k : ℕ) → k ≤ c.commit → IsBefore d before part 0 (reload_name reload k)) → InOrder d before part 0 b.wires
  pub reads : (d : Whole P) → StatementReads (IsThere d) b.statement
  pub within : Within 0 0 b.statement
  pub wires_spelled : IsTrue (list_all wire_spelled b.wires)
  pub statement_spelled : IsTrue (statement_spelled b.statement)
  pub free : IsFree b
  pub goes : (v : Env (Name P)) → Goes v b.wires
  pub stays : (v : Env (Name P)) (s : Stored) → done v b.statement s ≡ s
  pub shows : (v : Env (Name P)) (holds : List Bool) (must_reload : ℕ → Bool) → Solve v part 0 b.wires → ((k : ℕ) → k ≤ c.commit → v.net (register_name control (Holds k)) ≡ bit (get_or holds k false)) → ((k : ℕ) → k ≤ c.commit → v.net (reload_name reload k) ≡ bit (must_reload k))
      → (k : ℕ) → k ≤ c.commit → v.net (back_name c part k) ≡ bit (some_returns c must_reload k (drop k holds))
