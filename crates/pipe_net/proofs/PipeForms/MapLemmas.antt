-- What is shown of maps may be read: the slots of hashes, and how many are used.
use Rattle.std.specs.Prelude.{◌≡◌, ℕ, zero, suc, ◌+◌, ◌*◌, ◌<◌, ◌≤◌, All, List, [], ◌∷◌, length, map as map_list, Contains}
use Rattle.std.proofs.Common.{get_or, refl, sym, ap, ◌∙◌, subst, arith, inl, inr}
use Rattle.std.specs.List.{range_with_len}
use Rattle.std.proofs.lemmas.Bool.{cases_lt}
use Rattle.std.proofs.lemmas.List.{length-map}
use Rattle.std.proofs.lemmas.List.Elements.{All-contains, All-head, All-tail, Contains-append_cases}
use Rattle.block_core.specs.net_core.Ports.{port_list}
use Rattle.hazard_core.specs.xdp_maps.declared.decl.MapKind.{MapKind}
use Rattle.hazard_core.specs.xdp_maps.declared.decl.MapKind.TheVariants.{Hash, Array}
use Rattle.block_core.specs.declared.name.Name.{Name}
use Rattle.block_core.specs.declared.name.Name.TheVariants as name
use Rattle.block_core.specs.Blocks.{BlockTree, Whole, Among, wires_of}
use Rattle.block_core.specs.Formed.{names_scope, block_registers, block_memories, block_wires, block_wire_width, name_width}
use Rattle.turn_net.specs.cell_nets.declared.operand.Operand.{Operand}
use Rattle.turn_net.specs.cell_nets.declared.operand.Operand.TheVariants.{Known, Net, Part as Bits}
use Rattle.turn_net.specs.cell_nets.Operands.{IsOperand, IsDeclared}
use Rattle.read_net.specs.hash_net.Hash.{count_name}
use Rattle.read_net.specs.hash_net.HashNets.{hash_memories}
use Rattle.hazard_core.specs.Commits.{word_count}
use Rattle.read_net.specs.array_net.Words.{word_width}
use Rattle.read_net.specs.hash_net.SlotNet.Slots.{SlotOperands, IsSlot, all_of, slots_of, operands_of}
use Rattle.read_net.specs.hash_net.SlotNet.Shown.{shown_slot, shown_slots, per_slot}
use Rattle.read_net.specs.Sites.{slot_cells}
use Rattle.commit_net.specs.MapBlock.Parts.{AreParts as AreMapParts}
use Rattle.commit_net.specs.MapBlock.Stored.{first_value}
use Rattle.pipe_net.specs.declared.parts.Part.{Part}
use Rattle.pipe_net.specs.Parts as part
use Rattle.pipe_net.specs.Parts.{part_count}
use Rattle.pipe_net.specs.Layout.{Layout}
use Rattle.pipe_net.specs.PipeTurns.Maps.{decl_at}
use Rattle.pipe_net.specs.PipeMaps.Parts.{parts_at}
use Rattle.pipe_net.specs.PipeForms.Reading.{map_shown, map_shown_as}
use Rattle.pipe_net.specs.PipeForms.Parts.{AreParts}
use Rattle.pipe_net.proofs.PipeForms.EarlierLemmas.{earlier, IsReady, AreReady, among_earlier, ready_none, ready_cons}
use Rattle.pipe_net.proofs.PipeForms.HeldLemmas.{among}

-- a wire that has bits is one of its part
pub wire_within : (d : Whole Part) (p : Part) (i w : ℕ) → name_width d port_list (name.Wire p i) ≡ w → 0 < w → i < wires_of (d.block p)
wire_within d p i w e some = elim (cases_lt i (wires_of (d.block p))) [
  | inl lt ↦ lt
  | inr past ↦
      let count = length-map (d.block p).wires block_wire_width in
      let none : get_or (block_wires (d.block p)) i 0 ≡ 0 = get_or-past (block_wires (d.block p)) i 0 (omega (arith, past, count)) in
      absurd (omega (arith, some, e, none))
]
  where
    get_or-past : (xs : List ℕ) (i c : ℕ) → length xs ≤ i → get_or xs i c ≡ c
    get_or-past [] i c le = refl
    get_or-past (x ∷ xs) zero c le = absurd (omega (arith, le))
    get_or-past (x ∷ xs) (suc i) c le = get_or-past xs i c (omega (arith, le))

-- ---- operands that are wires of a part
abbrev IsWireOf : Part → Operand (Name Part) → Type 0
IsWireOf p (Known n) = Unit {0}
IsWireOf p (Net (name.Port i) w) = ⊥
IsWireOf p (Net (name.Register q i) w) = ⊥
IsWireOf p (Net (name.Memory q i) w) = ⊥
IsWireOf p (Net (name.Wire q i) w) = q ≡ p
IsWireOf p (Bits n of from w) = ⊥

abbrev AreWiresOf : Part → List (Operand (Name Part)) → Type 0
AreWiresOf p ins = (a : Operand (Name Part)) → Contains ins a → IsWireOf p a

keys_are_wires : (p : Part) (key at from count : ℕ) → AreWiresOf p (map_list (λ w. Net (name.Wire p (at + w)) (word_width key w)) (range_with_len from count))
keys_are_wires p key at from zero a (k, lt, e) = absurd (omega (arith, lt))
keys_are_wires p key at from (suc count) a (zero, lt, e) = subst (IsWireOf p) e refl
keys_are_wires p key at from (suc count) a (suc k, lt, e) = keys_are_wires p key at (from + 1) count a (k, omega (arith, lt), e)

slot_is_wires : (p : Part) (l : Layout) (m n : ℕ) → AreWiresOf p (all_of (shown_slot p (decl_at l m) n))
slot_is_wires p l m n a (zero, lt, e) = subst (IsWireOf p) e refl
slot_is_wires p l m n a (suc k, lt, e) = keys_are_wires p (decl_at l m).key (n * per_slot (decl_at l m) + 1) 0 (word_count (decl_at l m).key) a (k, omega (arith, lt), e)

-- ---- slots whose operands are wires of an earlier part, with bits, and declared
module _ (d : Whole Part) (k n : ℕ) (before : k < n) where
  wire_ready : (a : Operand (Name Part)) → IsWireOf (part.part k) a → IsOperand a → IsDeclared (names_scope d port_list) a → IsReady d n a
  wire_ready (Known c) w o e = tt
  wire_ready (Net (name.Port i) w) x o e = absurd x
  wire_ready (Net (name.Register q i) w) x o e = absurd x
  wire_ready (Net (name.Memory q i) w) x o e = absurd x
  wire_ready (Net (name.Wire q i) w) same o e =
      (inr (subst (λ r. Among r (earlier n)) (sym same) (among_earlier n k before), wire_within d q i w e o.some), e)
  wire_ready (Bits x of from w) h o e = absurd h

module _ (l : Layout) (d : Whole Part) (parts : AreParts l d) (m : ℕ) (there : m < length l.decls) where
  pub number_within : m < l.sizes.maps
  number_within = let e = parts.sized.maps in omega (arith, e, there)

  -- ---- the parts of the map
  pub of_map_there : (at : ℕ) → at < 6 → Among (part.of_map l.sizes m at) d.parts
  of_map_there at lt = let h = number_within in among l d parts _ (omega (arith, h, lt))

  pub map_parts : AreMapParts d (parts_at l m) (parts.maps.maps m there).trees
  map_parts = record {
    among = (of_map_there 0 (omega arith), of_map_there 1 (omega arith), of_map_there 2 (omega arith), of_map_there 3 (omega arith));
    blocks = (parts.maps.maps m there).blocks;
  }

  own_is : d.block (part.own l.sizes m) ≡ (parts.maps.maps m there).trees.stores
  own_is = (parts.maps.maps m there).blocks.3

  pub own_table : (decl_at l m).kind ≡ Hash → block_memories (d.block (part.own l.sizes m)) ≡ hash_memories (l.slot_bits m) (decl_at l m)
  own_table is = ap block_memories own_is ∙ (parts.maps.maps m there).map.formed.own.table is

  pub own_values : (j : ℕ) → j < word_count (decl_at l m).value → get_or (block_memories (d.block (part.own l.sizes m))) (first_value (decl_at l m) + j) (0, 0) ≡ (l.slot_bits m, word_width (decl_at l m).value j)
  own_values j lt = ap (λ (b : BlockTree (Name Part)). get_or (block_memories b) (first_value (decl_at l m) + j) (0, 0)) own_is ∙ (parts.maps.maps m there).map.formed.own.values j lt

  own_counter : (decl_at l m).kind ≡ Hash → block_registers (d.block (part.own l.sizes m)) ≡ (l.slot_bits m + 1) ∷ []
  own_counter is = ap block_registers own_is ∙ (parts.maps.maps m there).map.formed.own.counter is

  -- ---- what is shown of it
  module _ (n : ℕ) (late : 4 + l.sizes.commit + l.sizes.maps ≤ n) where
    slots_ready : (decl_at l m).kind ≡ Hash → AreReady d n (operands_of (shown_slots (part.slots l.sizes m) (decl_at l m)))
    slots_ready is a c =
        let of = parts.actions.writes m there in
        let h = number_within in
        let each : All (IsSlot (decl_at l m).key) (shown_slots (part.slots l.sizes m) (decl_at l m)) = subst (All (IsSlot (decl_at l m).key)) (of.map.slots is) (subst (λ e. All (IsSlot e.key) (slots_of (parts.actions.maps m).slots.now)) of.map.decl of.map.is.slots) in
        wire_ready d (4 + l.sizes.commit + m) n (omega (arith, h, late)) a (slots_are_wires 0 (decl_at l m).cap a c) (slots_are_operands (shown_slots (part.slots l.sizes m) (decl_at l m)) each a c) ((of.slots.hash is).declared d refl a c)
      where
        slots_are_wires : (from count : ℕ) → AreWiresOf (part.slots l.sizes m) (operands_of (map_list (shown_slot (part.slots l.sizes m) (decl_at l m)) (range_with_len from count)))
        slots_are_wires from zero a (k, lt, e) = absurd (omega (arith, lt))
        slots_are_wires from (suc count) a c = elim (Contains-append_cases (all_of (shown_slot (part.slots l.sizes m) (decl_at l m) from)) (operands_of (map_list (shown_slot (part.slots l.sizes m) (decl_at l m)) (range_with_len (from + 1) count))) a c) [
          | inl x ↦ slot_is_wires (part.slots l.sizes m) l m from a x
          | inr x ↦ slots_are_wires (from + 1) count a x
        ]

        slots_are_operands : (ss : List (SlotOperands (Name Part))) → All (IsSlot (decl_at l m).key) ss → (a : Operand (Name Part)) → Contains (operands_of ss) a → IsOperand a
        slots_are_operands [] h a (k, lt, e) = absurd (omega (arith, lt))
        slots_are_operands (s ∷ ss) h a c = elim (Contains-append_cases (all_of s) (operands_of ss) a c) [
          | inl x ↦ All-contains IsOperand (all_of s) a (All-head (IsSlot (decl_at l m).key) s ss h).operands x
          | inr x ↦ slots_are_operands ss (All-tail (IsSlot (decl_at l m).key) s ss h) a x
        ]

    shown_by : (kind : MapKind) → (decl_at l m).kind ≡ kind → AreReady d n (map_shown_as kind l m)
    shown_by Hash is = ready_cons d n (Net (count_name (part.own l.sizes m)) (l.slot_bits m + 1)) (operands_of (shown_slots (part.slots l.sizes m) (decl_at l m))) (of_map_there 3 (omega arith), ap (λ ws. get_or ws 0 0) (own_counter is)) (slots_ready is)
    shown_by Array is = ready_none d n

    pub map_shown_ready : AreReady d n (map_shown l m)
    map_shown_ready = shown_by (decl_at l m).kind refl

    -- so is what targets read of it
    cells_by : (kind : MapKind) → (decl_at l m).kind ≡ kind → AreReady d n (slot_cells (parts.actions.maps m))
    cells_by Hash is =
        let of = (parts.actions.writes m there).map in
        subst (λ u. AreReady d n (u ∷ operands_of (slots_of (parts.actions.maps m).slots.now))) (sym (of.used is))
        (subst (λ ss. AreReady d n (Net (count_name (part.own l.sizes m)) (l.slot_bits m + 1) ∷ operands_of ss)) (sym (of.slots is)) (shown_by Hash is))
    cells_by Array is =
        let of = (parts.actions.writes m there).map in
        subst (λ u. AreReady d n (u ∷ operands_of (slots_of (parts.actions.maps m).slots.now))) (sym (parts.uncounted m there is))
        (subst (λ ss. AreReady d n (Known 0 ∷ operands_of (slots_of ss))) (sym (of.none is)) (ready_cons d n (Known 0) [] tt (ready_none d n)))

    pub slot_cells_ready : AreReady d n (slot_cells (parts.actions.maps m))
    slot_cells_ready = cells_by (decl_at l m).kind refl
