-- The block that shows the slots of a hash.
use Rattle.std.specs.Prelude.{◌≡◌, ℕ, zero, suc, ◌+◌, ◌*◌, ◌/◌, ◌%◌, List, [], map as map_list, IsTrue}
use Rattle.std.specs.List.{list_all, range_with_len}
use Rattle.net_core.specs.Nets.{SBlock, SEnd}
use Rattle.net_core.specs.Ports.{port_list}
use Rattle.net_core.specs.Value.{Env}
use Rattle.net_core.specs.Clock.{Stored, done}
use Rattle.block_core.specs.design_rules.FormedSyntax.{right_spelled, statement_spelled}
use Rattle.block_core.specs.ProductBlocks.Alone.{IsFree}
use Rattle.block_core.specs.declared.name.Name.{Name}
use Rattle.block_core.specs.declared.name.Name.TheVariants as name
use Rattle.block_core.specs.Blocks.{BlockTree, BlockWireTree, Whole, Among}
use Rattle.block_core.specs.Parts.{Solve, Goes, Within}
use Rattle.block_core.specs.Order.{InOrder}
use Rattle.block_core.specs.Formed.{names_scope, block_memories, block_wires, IsTypedBlock, StatementReads, IsThere}
use Rattle.overlay_net.specs.xdp_maps.declared.decl.MapDecl.{MapDecl}
use Rattle.overlay_net.specs.hazard_core.declared.slot.Slot.{Slot}
use Rattle.overlay_net.specs.hazard_core.Commits.{word_count}
use Rattle.frame_net.specs.GatherNets.{constant, wire}
use Rattle.frame_net.specs.SourcesNets.{held}
use Rattle.array_net.specs.Words.{word_width}
use Rattle.hash_net.specs.HashNets.{hash_memories}
use Rattle.hash_net.specs.Hash.{StoresHash, SeesOwn}
use Rattle.cell_nets.specs.declared.operand.Operand.TheVariants.{Net}
use Rattle.cell_nets.specs.Operands.{AreDeclared}
use Rattle.hash_net.specs.SlotNet.Slots.{SlotOperands, operands_of, ShowSlots}

-- ---- its wires: for each slot one with its used bit, and after it the words of its key, as the memories of a hash have them
abbrev pub per_slot : MapDecl → ℕ
per_slot d = word_count d.key + 1

abbrev pub wire_count : MapDecl → ℕ
wire_count d = d.cap * per_slot d

abbrev pub shown_width : MapDecl → ℕ → ℕ
shown_width d zero = 1
shown_width d (suc w) = word_width d.key w

abbrev pub shown_widths : MapDecl → List ℕ
shown_widths d = map_list (λ i. shown_width d (i % per_slot d)) (range_with_len 0 (wire_count d))

abbrev pub shown_wire : {P : Type 0} → P → MapDecl → ℕ → ℕ → BlockWireTree (Name P)
shown_wire of d bits i = wire (shown_width d (i % per_slot d)) (held of (i % per_slot d) (constant bits (i / per_slot d)))

abbrev pub slots_block : {P : Type 0} → P → MapDecl → ℕ → BlockTree (Name P)
slots_block of d bits = record { registers = []; memories = []; wires = map_list (shown_wire of d bits) (range_with_len 0 (wire_count d)); statement = SBlock SEnd }

-- ---- what shows a slot: these wires
abbrev pub shown_slot : {P : Type 0} → P → MapDecl → ℕ → SlotOperands (Name P)
shown_slot part d n = record {
  used = Net (name.Wire part (n * per_slot d)) 1;
  key = map_list (λ w. Net (name.Wire part (n * per_slot d + 1 + w)) (word_width d.key w)) (range_with_len 0 (word_count d.key));
}

abbrev pub shown_slots : {P : Type 0} → P → MapDecl → List (SlotOperands (Name P))
shown_slots part d = map_list (shown_slot part d) (range_with_len 0 d.cap)

-- The block: wires alone, which show the slots of the hash of another part by their used bits and keys. It is well typed, in order and spelled
-- where that part has the memories of a hash.
pub record IsSlots {P : Type 0} (part of : P) (d : MapDecl) (bits : ℕ) (b : BlockTree (Name P)) : Type 0 where
  pub registers : b.registers ≡ []
  pub memories : b.memories ≡ []
  pub wires : block_wires b ≡ shown_widths d
  pub typed : (w : Whole P) → block_memories (w.block of) ≡ hash_memories bits d → IsTypedBlock w port_list b
  pub declared : (w : Whole P) → w.block part ≡ b → AreDeclared (names_scope w port_list) (operands_of (shown_slots part d))
  pub ordered : (w : Whole P) (before : List P) → Among of w.parts → InOrder w before part 0 b.wires
  pub reads : (w : Whole P) → StatementReads (IsThere w) b.statement
  pub within : Within 0 0 b.statement
  pub wires_spelled : IsTrue (list_all (λ w. right_spelled w.right) b.wires)
  pub spelled : IsTrue (statement_spelled b.statement)
  pub free : IsFree b
  pub goes : (v : Env (Name P)) → Goes v b.wires
  pub stays : (v : Env (Name P)) (s : Stored) → done v b.statement s ≡ s
  pub shows : (v : Env (Name P)) (s : Stored) (slots : List Slot) → Solve v part 0 b.wires → SeesOwn of v s → StoresHash d bits slots s → ShowSlots v d slots (shown_slots part d)
