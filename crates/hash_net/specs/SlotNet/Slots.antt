-- Operands that show the slots of a map, and those of a key.
use Rattle.std.specs.Prelude.{◌≡◌, ℕ, ◌<◌, ◌≤◌, true, All, List, [], ◌∷◌, length, map as map_list}
use Rattle.std.specs.List.{flat_map}
use Rattle.std.proofs.Common.{get_or}
use Rattle.net_core.specs.Value.{Env}
use Rattle.overlay_net.specs.xdp_maps.declared.decl.MapDecl.{MapDecl}
use Rattle.overlay_net.specs.xdp_maps.Contents.{IsBytes}
use Rattle.overlay_net.specs.cell_core.Cells.{bit}
use Rattle.overlay_net.specs.cell_core.Sites.{bytes_of}
use Rattle.overlay_net.specs.hazard_core.declared.slot.Slot.{Slot}
use Rattle.overlay_net.specs.hazard_core.Tables.{slot_at}
use Rattle.overlay_net.specs.hazard_core.Commits.{word_count, word_at}
use Rattle.cell_nets.specs.declared.operand.Operand.{Operand}
use Rattle.cell_nets.specs.declared.operand.Operand.TheVariants.{Known}
use Rattle.cell_nets.specs.Operands.{number_in, IsOperand}
use Rattle.hash_net.specs.declared.slot_net.slots.SlotNets.{SlotNets}

-- without the places in memory where they lie
pub record SlotOperands (N : Type 0) : Type 0 where
  pub used : Operand N
  pub key : List (Operand N)

abbrev pub slot_operands : {N : Type 0} → SlotNets N → SlotOperands N
slot_operands n = record { used = n.used; key = n.key.items }

abbrev pub slots_of : {N : Type 0} → List (SlotNets N) → List (SlotOperands N)
slots_of ns = map_list slot_operands ns

-- what stands for a slot past the last
abbrev pub slot_past : {N : Type 0} → SlotOperands N
slot_past = record { used = Known 0; key = [] }

-- those of a slot, and those of all slots
abbrev pub all_of : {N : Type 0} → SlotOperands N → List (Operand N)
all_of n = n.used ∷ n.key

abbrev pub operands_of : {N : Type 0} → List (SlotOperands N) → List (Operand N)
operands_of ns = flat_map all_of ns

-- operands of a slot whose key has so many bytes
pub record IsSlot {N : Type 0} (bytes : ℕ) (n : SlotOperands N) : Type 0 where
  pub operands : All IsOperand (all_of n)
  pub words : word_count bytes ≤ length n.key

-- they say whether the slot is used, and have the words of its key
pub record ShowsSlot {N : Type 0} (v : Env N) (d : MapDecl) (slot : Slot) (n : SlotOperands N) : Type 0 where
  pub used : number_in v n.used ≡ bit slot.used
  pub key : (w : ℕ) (a : Operand N) → w < word_count d.key → number_in v (get_or n.key w a) ≡ word_at slot.key w

-- the slots of a table, one after another
pub record ShowSlots {N : Type 0} (v : Env N) (d : MapDecl) (slots : List Slot) (ns : List (SlotOperands N)) : Type 0 where
  pub count : length slots ≡ length ns
  pub each : (n : ℕ) (a : SlotOperands N) → n < length ns → ShowsSlot v d (slot_at slots n) (get_or ns n a)

-- The words of operands are those of a key. Of a last word that is not whole the low bytes count alone.
abbrev pub HoldsKey : {N : Type 0} → Env N → MapDecl → List (Operand N) → List ℕ → Type 0
HoldsKey v d keys key = bytes_of d.key (map_list (number_in v) keys) ≡ key

-- used slots have keys of the declared length, as those of every table
abbrev pub HaveKeys : MapDecl → List Slot → Type 0
HaveKeys d slots = (n : ℕ) → n < length slots → (slot_at slots n).used ≡ true → IsBytes d.key (slot_at slots n).key
