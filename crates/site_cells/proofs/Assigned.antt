-- What is held where one register is given a value.
use Rattle.std.proofs.Common.{◌≡◌, ◌≢◌, ℕ, ◌≤◌, ◌==◌, if◌then◌else◌, Bool, true, false, Option, Some, None, List, length, get_or, map as map_list, set as set_list, slice_index, slice_set, refl, ◌∙◌, subst, arith}
use Rattle.std.proofs.lemmas.List.{get_or-set_same, get_or-set_other, length-map}
use Rattle.cell_core.specs.bpf_isa.declared.instruction.Insn.{Insn}
use Rattle.cell_core.specs.xdp_maps.declared.decl.MapDecl.{MapDecl}
use Rattle.cell_core.specs.xdp_machine.Values.{Value}
use Rattle.cell_core.specs.xdp_machine.Values as is
use Rattle.cell_core.specs.xdp_machine.State.{Machine, PacketIn, with_registers}
use Rattle.cell_core.specs.xdp_machine.Step.{assigned}
use Rattle.kind_core.specs.declared.kind.Kind.{Kind}
use Rattle.kind_core.specs.declared.kind.Kind.TheVariants.{Unset}
use Rattle.kind_core.specs.declared.kind.Kinds.{Kinds}
use Rattle.kind_core.specs.Kinds.{with_register}
use Rattle.operator_cells.specs.declared.held_cells.machine_cells.RegisterCells.{RegisterCells}
use Rattle.operator_cells.specs.HeldCells.RegisterCells.{PointerView, Holds, Counts, AreHeld, AreInside}

assigned_each : (P : Kind → ℕ → Value → Type 0) (ks : List Kind) (hs : List ℕ) (xs : List Value) (i c : ℕ) (k : Kind) (y : Value) → i ≤ 10 → length ks ≡ 11 → length hs ≡ 11 → length xs ≡ 11 → P k c y
    → ((r : ℕ) → r ≤ 10 → P (get_or ks r Unset) (slice_index hs r) (get_or xs r is.Unset))
    → (r : ℕ) → r ≤ 10 → P (get_or (set_list ks i k) r Unset) (slice_index (set_list hs i c) r) (get_or (set_list xs i y) r is.Unset)
assigned_each P ks hs xs i c k y l a b d one all r s = by (r == i) refl
  where
    by : (t : Bool) → (r == i) ≡ t → P (get_or (set_list ks i k) r Unset) (slice_index (set_list hs i c) r) (get_or (set_list xs i y) r is.Unset)
    by true q =
        let same : i ≡ r = grind arith in
        subst (λ (j : ℕ). P (get_or (set_list ks i k) j Unset) (slice_index (set_list hs i c) j) (get_or (set_list xs i y) j is.Unset)) same
        (rw (get_or-set_same ks i k Unset (omega (arith, l, a)), get_or-set_same hs i c 0 (omega (arith, l, b)), get_or-set_same xs i y is.Unset (omega (arith, l, d))) one)
    by false q =
        let other : r ≢ i = grind arith in
        rw (get_or-set_other ks i r k Unset other, get_or-set_other hs i r c 0 other, get_or-set_other xs i r y is.Unset other) (all r s)

pub assigned_inside : (decls : List MapDecl) (n : ℕ) (ps : List PointerView) (h : RegisterCells) (k : Kinds) (i c : ℕ) (x : Kind) → i ≤ 10 → length k.registers ≡ 11 → length h.registers ≡ 11 → AreInside decls n ps h k → Counts decls n ps x c
    → AreInside decls n ps (record h { registers = slice_set h.registers i c }) (with_register k i x)
assigned_inside decls n ps h k i c x l ks hs inside one = record {
  registers = assigned_each (λ a b y. Counts decls n ps a b) k.registers h.registers (map_list (λ a. is.Unset) k.registers) i c x is.Unset l ks hs (length-map k.registers (λ a. is.Unset) ∙ ks) one inside.registers;
  slots = inside.slots;
  window = inside.window;
  target = inside.target;
  offsets = inside.offsets;
}

pub assigned_held : (decls : List MapDecl) (packet : PacketIn) (v : ℕ → ℕ) (ps : List PointerView) (h : RegisterCells) (k : Kinds) (m : Machine) (i c : ℕ) (x : Kind) (y : Value) → i ≤ 10
    → length k.registers ≡ 11 → length h.registers ≡ 11 → length m.registers ≡ 11 → AreHeld decls packet v ps h k m → Holds decls v ps x c y
    → AreHeld decls packet v ps (record h { registers = slice_set h.registers i c }) (with_register k i x) (record m { registers = slice_set m.registers i y })
assigned_held decls packet v ps h k m i c x y l ks hs ms held one = record {
  registers = assigned_each (Holds decls v ps) k.registers h.registers m.registers i c x y l ks hs ms one held.registers;
  slots = held.slots;
  length_is = held.length_is;
  window = held.window;
  rest = held.rest;
  target = held.target;
  ifindex = held.ifindex;
  time = held.time;
}

-- a value that goes into the destination
pub assigned_is : (m n : Machine) (i : Insn) (v : Option Value) → with_registers m (assigned m.registers i v) ≡ Some n → (y : Value) × (v ≡ Some y) × (n ≡ record m { registers = slice_set m.registers i.dst y })
assigned_is m n i None e = absurd cc
assigned_is m n i (Some y) e = by (i.dst == 10) e
  where
    by : (t : Bool) → with_registers m (if t then None else Some (slice_set m.registers i.dst y)) ≡ Some n → (z : Value) × (Some y ≡ Some z) × (n ≡ record m { registers = slice_set m.registers i.dst z })
    by true f = absurd cc
    by false f = (y, refl, cc)
