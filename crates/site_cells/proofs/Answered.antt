-- What is held after a helper's answer, among more pointers.
use Rattle.std.proofs.Common.{◌≡◌, ℕ, zero, suc, ◌+◌, ◌<◌, ◌≤◌, pos, true, List, [], ◌∷◌, ◌++◌, length, length-append, drop, get_or, set as set_list, slice_index, slice_set, sym, ◌∙◌, ap, subst, arith}
use Rattle.std.proofs.lemmas.List.{get_or-set_same, get_or-set_other, get_or-drop}
use Rattle.cell_core.specs.xdp_maps.declared.decl.MapDecl.{MapDecl}
use Rattle.cell_core.specs.xdp_machine.Values.{Value}
use Rattle.cell_core.specs.xdp_machine.Values as is
use Rattle.cell_core.specs.xdp_machine.State.{Machine, PacketIn}
use Rattle.cell_core.specs.xdp_machine.Helpers as helpers
use Rattle.kind_core.specs.declared.number.Number.TheVariants.{Known, Between}
use Rattle.kind_core.specs.declared.kind.Kind.{Kind}
use Rattle.kind_core.specs.declared.kind.Kind.TheVariants.{Unset, Num, Var, Maybe, Entry}
use Rattle.kind_core.specs.declared.kind.Kinds.{Kinds}
use Rattle.kind_core.specs.Kinds.{answering}
use Rattle.operator_cells.specs.declared.held_cells.machine_cells.RegisterCells.{RegisterCells}
use Rattle.operator_cells.specs.HeldCells.RegisterCells.{PointerView, IsPointer, Holds, Counts, AreHeld, AreInside, entry_or_null, key_of}
use Rattle.operator_cells.proofs.HeldCells.PointerLaws.{pointer_later}
use Rattle.cell_core.specs.Cells.{on}
use Rattle.site_cells.proofs.Adding.{old_pointer}

-- ---- more pointers

pub counts_among : (decls : List MapDecl) (n m : ℕ) (ps more : List PointerView) (x : Kind) (c : ℕ) → n ≤ m → Counts decls n ps x c → Counts decls m (ps ++ more) x c
counts_among decls n m ps more (Num (Between lo hi)) c l h = omega (arith, l, h)
counts_among decls n m ps more (Num (Known a)) c l h = tt
counts_among decls n m ps more (Maybe q j) c l h =
    (omega (arith, h.0, length-append ps more), subst (IsPointer decls m q) (sym (old_pointer ps more c h.0)) (pointer_later decls n m q _ l h.1))
counts_among decls n m ps more (Entry q o) c l h =
    (omega (arith, h.0, length-append ps more), subst (IsPointer decls m q) (sym (old_pointer ps more c h.0)) (pointer_later decls n m q _ l h.1))
counts_among decls n m ps more (Var b f) c l h = h
counts_among decls n m ps more x c l h = tt

pub holds_among : (decls : List MapDecl) (n : ℕ) (v : ℕ → ℕ) (ps more : List PointerView) (x : Kind) (c : ℕ) (y : Value) → Counts decls n ps x c → Holds decls v ps x c y → Holds decls v (ps ++ more) x c y
holds_among decls n v ps more (Num (Between lo hi)) c y h e = e
holds_among decls n v ps more (Maybe q j) c y h e = e ∙ ap (entry_or_null decls v q) (sym (old_pointer ps more c h.0))
holds_among decls n v ps more (Entry q o) c y h e = subst (λ (p : PointerView). (on (v p.found) ≡ true) × (y ≡ is.Entry q (key_of decls v q p) (pos o))) (sym (old_pointer ps more c h.0)) e
holds_among decls n v ps more (Var b f) c y h e = e
holds_among decls n v ps more x c y h e = tt

pub inside_among : (decls : List MapDecl) (n m : ℕ) (ps more : List PointerView) (h : RegisterCells) (k : Kinds) → n ≤ m → AreInside decls n ps h k → AreInside decls m (ps ++ more) h k
inside_among decls n m ps more h k l i = record {
  registers = λ r s. counts_among decls n m ps more _ _ l (i.registers r s);
  slots = λ r s. counts_among decls n m ps more _ _ l (i.slots r s);
  window = λ j s. omega (arith, l, i.window j s);
  target = omega (arith, l, i.target);
  offsets = i.offsets;
}

pub held_among : (decls : List MapDecl) (packet : PacketIn) (n : ℕ) (v : ℕ → ℕ) (ps more : List PointerView) (h : RegisterCells) (k : Kinds) (m : Machine) → AreInside decls n ps h k → AreHeld decls packet v ps h k m
    → AreHeld decls packet v (ps ++ more) h k m
held_among decls packet n v ps more h k m i held = record {
  registers = λ r s. holds_among decls n v ps more _ _ _ (i.registers r s) (held.registers r s);
  slots = λ r s. holds_among decls n v ps more _ _ _ (i.slots r s) (held.slots r s);
  length_is = held.length_is;
  window = held.window;
  rest = held.rest;
  target = held.target;
  ifindex = held.ifindex;
  time = held.time;
}

-- ---- an answer

-- what holds of the answer, of nothing, and of each place from the sixth on, holds of all
answered : (P : Kind → ℕ → Value → Type 0) (ks : List Kind) (hs : List ℕ) (xs : List Value) (c : ℕ) (k : Kind) (y : Value) → 0 < length hs → P k c y → ((h : ℕ) (x : Value) → P Unset h x)
    → ((r : ℕ) → r ≤ 10 → P (get_or ks r Unset) (slice_index hs r) (get_or xs r is.Unset))
    → (r : ℕ) → r ≤ 10 → P (get_or (k ∷ Unset ∷ Unset ∷ Unset ∷ Unset ∷ Unset ∷ drop 6 ks) r Unset) (slice_index (set_list hs 0 c) r) (get_or (y ∷ is.Unset ∷ is.Unset ∷ is.Unset ∷ is.Unset ∷ is.Unset ∷ drop 6 xs) r is.Unset)
answered P ks hs xs c k y some one none all zero l = rw (get_or-set_same hs 0 c 0 some) one
answered P ks hs xs c k y some one none all (suc zero) l = none _ _
answered P ks hs xs c k y some one none all (suc (suc zero)) l = none _ _
answered P ks hs xs c k y some one none all (suc (suc (suc zero))) l = none _ _
answered P ks hs xs c k y some one none all (suc (suc (suc (suc zero)))) l = none _ _
answered P ks hs xs c k y some one none all (suc (suc (suc (suc (suc zero))))) l = none _ _
answered P ks hs xs c k y some one none all (suc (suc (suc (suc (suc (suc r)))))) l =
    let e : 6 + r ≡ suc (suc (suc (suc (suc (suc r))))) = omega arith in
    let h : slice_index (set_list hs 0 c) (suc (suc (suc (suc (suc (suc r)))))) ≡ slice_index hs (suc (suc (suc (suc (suc (suc r)))))) = get_or-set_other hs 0 (suc (suc (suc (suc (suc (suc r)))))) c 0 (λ q. absurd (omega (arith, q))) in
    rw (get_or-drop 6 ks r Unset ∙ ap (λ (j : ℕ). get_or ks j Unset) e, h, get_or-drop 6 xs r is.Unset ∙ ap (λ (j : ℕ). get_or xs j is.Unset) e) (all (suc (suc (suc (suc (suc (suc r)))))) l)

pub answered_inside : (decls : List MapDecl) (n : ℕ) (ps : List PointerView) (h : RegisterCells) (k : Kinds) (x : Kind) (c : ℕ) → length h.registers ≡ 11 → AreInside decls n ps h k → Counts decls n ps x c
    → AreInside decls n ps (record h { registers = slice_set h.registers 0 c }) (answering x k)
answered_inside decls n ps h k x c whole i one = record {
  registers = λ r l. answered (λ a b y. Counts decls n ps a b) k.registers h.registers [] c x is.Unset (omega (arith, whole)) one (λ a y. tt) i.registers r l;
  slots = i.slots;
  window = i.window;
  target = i.target;
  offsets = i.offsets;
}

pub answered_held : (decls : List MapDecl) (packet : PacketIn) (v : ℕ → ℕ) (ps : List PointerView) (h : RegisterCells) (k : Kinds) (m : Machine) (x : Kind) (c : ℕ) (y : Value) → length h.registers ≡ 11
    → AreHeld decls packet v ps h k m → Holds decls v ps x c y → AreHeld decls packet v ps (record h { registers = slice_set h.registers 0 c }) (answering x k) (helpers.answering y m)
answered_held decls packet v ps h k m x c y whole held one = record {
  registers = λ r l. answered (Holds decls v ps) k.registers h.registers m.registers c x y (omega (arith, whole)) one (λ a b. tt) held.registers r l;
  slots = held.slots;
  length_is = held.length_is;
  window = held.window;
  rest = held.rest;
  target = held.target;
  ifindex = held.ifindex;
  time = held.time;
}
