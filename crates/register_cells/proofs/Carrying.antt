-- A destination that is given a value carries what cells hold after the instruction.
use Rattle.std.proofs.Common.{IfOk, ◌≡◌, ◌≢◌, ℕ, ◌<◌, ◌≤◌, ◌==◌, if◌then◌else◌, Bool, true, false, Option, Some, None, Result, Ok, Err, List, [], length, get_or, set as set_list, slice_index, slice_set, refl, sym, ◌∙◌, ap, subst, arith}
use Rattle.std.proofs.lemmas.List.{get_or-set_same, get_or-set_other}
use Rattle.cell_core.specs.bpf_isa.declared.operation.Width.{Width}
use Rattle.cell_core.specs.bpf_isa.declared.operation.AluCode.{AluCode}
use Rattle.cell_core.specs.bpf_isa.declared.operation.Op.{Op}
use Rattle.cell_core.specs.bpf_isa.declared.operation.Op.TheVariants.{Alu, Neg, End, Swap, LoadImm, Load, LoadSigned}
use Rattle.cell_core.specs.bpf_isa.declared.instruction.Insn.{Insn}
use Rattle.cell_core.specs.xdp_maps.declared.decl.MapDecl.{MapDecl}
use Rattle.cell_core.specs.xdp_machine.Values.{Value, ◌>>=◌}
use Rattle.cell_core.specs.xdp_machine.Values as is
use Rattle.cell_core.specs.xdp_machine.State.{Machine, PacketIn, put, with_registers}
use Rattle.cell_core.specs.xdp_machine.Step.{effect}
use Rattle.kind_core.specs.declared.kind.Kind.{Kind}
use Rattle.xdp_state.specs.declared.refusal.Why.{Why}
use Rattle.kind_core.specs.declared.kind.Kind.TheVariants.{Unset, Num, Var, Maybe, Entry}
use Rattle.kind_core.specs.declared.number.Number.TheVariants.{Known, Between}
use Rattle.kind_core.specs.declared.kind.Kinds.{Kinds}
use Rattle.kind_core.specs.declared.kind.Offsets.{Offsets}
use Rattle.kind_core.specs.declared.kind.Offsets.TheVariants.{Fixed, Varying}
use Rattle.kind_core.specs.Kinds as kinds
use Rattle.kind_core.specs.Kinds.{with_register, with_slot}
use Rattle.kind_core.specs.Profile.{writes_destination}
use Rattle.kind_core.specs.Profile as profile
use Rattle.kind_core.specs.Tests.{passed}
use Rattle.kind_core.specs.Effects.{effect_of, effect_as, verdict}
use Rattle.kind_core.specs.Effects as effects
use Rattle.kind_core.specs.Edges.{transferred, changed_if}
use Rattle.cell_core.specs.Cells.{CellView}
use Rattle.operator_cells.specs.declared.held_cells.machine_cells.RegisterCells.{RegisterCells}
use Rattle.operator_cells.specs.HeldCells.RegisterCells.{PointerView, Holds, Counts, AreHeld, AreInside}
use Rattle.operator_cells.specs.HeldCells.Carrying.{Gives, Carries}
use Rattle.register_cells.specs.Giving.{given, given_kind}
use Rattle.kind_core.proofs.TestLaws.{bind_passed}
use Rattle.operator_cells.proofs.HeldCells.PointerLaws.{pointer_later}

pub counts_more : (decls : List MapDecl) (n m : ℕ) (ps : List PointerView) (x : Kind) (c : ℕ) → n ≤ m → Counts decls n ps x c → Counts decls m ps x c
counts_more decls n m ps (Num (Between lo hi)) c l h = omega (arith, l, h)
counts_more decls n m ps (Num (Known a)) c l h = tt
counts_more decls n m ps (Maybe q j) c l h = (h.0, pointer_later decls n m q _ l h.1)
counts_more decls n m ps (Entry q o) c l h = (h.0, pointer_later decls n m q _ l h.1)
counts_more decls n m ps (Var b f) c l h = h
counts_more decls n m ps x c l h = tt

pub inside_more : (decls : List MapDecl) (n m : ℕ) (ps : List PointerView) (h : RegisterCells) (k : Kinds) → n ≤ m → AreInside decls n ps h k → AreInside decls m ps h k
inside_more decls n m ps h k l i = record {
  registers = λ r s. counts_more decls n m ps _ _ l (i.registers r s);
  slots = λ r s. counts_more decls n m ps _ _ l (i.slots r s);
  window = λ j s. omega (arith, l, i.window j s);
  target = omega (arith, l, i.target);
  offsets = i.offsets;
}

-- what holds of each place of lists holds of each where one place of all is set
pub set_two : {A : Type 0} (P : A → ℕ → Type 0) (ks : List A) (hs : List ℕ) (d : A) (i n : ℕ) (k : A) (h : ℕ) → i < length ks → i < length hs
    → P k h → ((r : ℕ) → r < n → P (get_or ks r d) (slice_index hs r)) → (r : ℕ) → r < n → P (get_or (set_list ks i k) r d) (slice_index (set_list hs i h) r)
set_two P ks hs d i n k h a b one all r l = by (r == i) refl
  where
    by : (t : Bool) → (r == i) ≡ t → P (get_or (set_list ks i k) r d) (slice_index (set_list hs i h) r)
    by true q =
        let same : i ≡ r = grind arith in
        subst (λ (j : ℕ). P (get_or (set_list ks i k) j d) (slice_index (set_list hs i h) j)) same (rw (get_or-set_same ks i k d a, get_or-set_same hs i h 0 b) one)
    by false q =
        let other : r ≢ i = grind arith in
        rw (get_or-set_other ks i r k d other, get_or-set_other hs i r h 0 other) (all r l)

set_three : {A B : Type 0} (P : A → ℕ → B → Type 0) (ks : List A) (hs : List ℕ) (xs : List B) (d : A) (e : B) (i n : ℕ) (k : A) (h : ℕ) (x : B) → i < length ks → i < length hs → i < length xs
    → P k h x → ((r : ℕ) → r < n → P (get_or ks r d) (slice_index hs r) (get_or xs r e))
    → (r : ℕ) → r < n → P (get_or (set_list ks i k) r d) (slice_index (set_list hs i h) r) (get_or (set_list xs i x) r e)
set_three P ks hs xs d e i n k h x a b c one all r l = by (r == i) refl
  where
    by : (t : Bool) → (r == i) ≡ t → P (get_or (set_list ks i k) r d) (slice_index (set_list hs i h) r) (get_or (set_list xs i x) r e)
    by true q =
        let same : i ≡ r = grind arith in
        subst (λ (j : ℕ). P (get_or (set_list ks i k) j d) (slice_index (set_list hs i h) j) (get_or (set_list xs i x) j e)) same
        (rw (get_or-set_same ks i k d a, get_or-set_same hs i h 0 b, get_or-set_same xs i x e c) one)
    by false q =
        let other : r ≢ i = grind arith in
        rw (get_or-set_other ks i r k d other, get_or-set_other hs i r h 0 other, get_or-set_other xs i r x e other) (all r l)

-- an instruction that writes its destination puts there what it gives
put_is : (m n : Machine) (r : ℕ) (v : Option Value) → with_registers m (v >>= put m.registers r) ≡ Some n → (y : Value) × (v ≡ Some y) × (n ≡ record m { registers = slice_set m.registers r y })
put_is m n r None e = cc
put_is m n r (Some y) e = by (r == 10) e
  where
    by : (t : Bool) → with_registers m (if t then None else Some (slice_set m.registers r y)) ≡ Some n → (z : Value) × (Some y ≡ Some z) × (n ≡ record m { registers = slice_set m.registers r z })
    by true f = cc
    by false f = (y, refl, cc)

number_put : (m n : Machine) (r : ℕ) (x : Value) (f : ℕ → ℕ) → with_registers m (is.number_in x >>= (λ a. put m.registers r (is.Number (f a)))) ≡ Some n
    → (y : Value) × ((is.number_in x >>= (λ a. Some (is.Number (f a)))) ≡ Some y) × (n ≡ record m { registers = slice_set m.registers r y })
number_put m n r (is.Number a) f e = put_is m n r (Some (is.Number (f a))) e
number_put m n r x f e = cc

pub given_is : (refs : List ℕ) (m n : Machine) (i : Insn) (op : Op) → writes_destination op ≡ true → effect refs m i op ≡ Some n
    → (y : Value) × (given refs m i op ≡ Some y) × (n ≡ record m { registers = slice_set m.registers i.dst y })
given_is refs m n i (Alu w c s) t e = put_is m n i.dst _ e
given_is refs m n i (Neg w) t e = number_put m n i.dst _ _ e
given_is refs m n i (End s) t e = number_put m n i.dst _ _ e
given_is refs m n i Swap t e = number_put m n i.dst _ _ e
given_is refs m n i LoadImm t e = put_is m n i.dst _ e
given_is refs m n i (Load size) t e = put_is m n i.dst _ e
given_is refs m n i (LoadSigned size) t e = put_is m n i.dst _ e
given_is refs m n i op t e = absurd (cc)

pub passed_ok : (r : _) → verdict r ≡ passed → (e : _) × (r ≡ Ok e)
passed_ok (Ok e) h = (e, refl)
passed_ok (Err w) h = cc

-- where offsets do not vary a sum gives no base
based_none : (o : Offsets) (w : Width) (c : AluCode) (a b : Kind) → o ≡ Fixed → effects.based o w c a b ≡ None
based_none Fixed w c a b e = refl
based_none Varying w c a b e = absurd (cc)

assigned_kind : (is_ref : Bool) (decls : List MapDecl) (k : Kinds) (i : Insn) (op : Op) (node : ℕ) (e : _) → k.offsets ≡ Fixed → writes_destination op ≡ true → effect_as decls k i op ≡ Ok e
    → (x : Kind) × (given_kind is_ref decls k i op ≡ Ok x) × (changed_if node is_ref false k (Ok e) ≡ with_register k i.dst x)
assigned_kind is_ref decls k i (Alu w c s) node e fixed t h =
    let plain = rw (based_none k.offsets w c (kinds.register k i.dst) (effects.operand k i s) fixed) at h in
    let b = bind_passed (effects.alu decls k i (Alu w c s)) _ e plain in (b.0, b.1, sym (ap (changed_if node is_ref false k) b.2))
assigned_kind is_ref decls k i (Neg w) node e fixed t h = let b = bind_passed (effects.alu decls k i (Neg w)) _ e h in (b.0, b.1, sym (ap (changed_if node is_ref false k) b.2))
assigned_kind is_ref decls k i (End s) node e fixed t h = let b = bind_passed (effects.alu decls k i (End s)) _ e h in (b.0, b.1, sym (ap (changed_if node is_ref false k) b.2))
assigned_kind is_ref decls k i Swap node e fixed t h = let b = bind_passed (effects.alu decls k i Swap) _ e h in (b.0, b.1, sym (ap (changed_if node is_ref false k) b.2))
assigned_kind is_ref decls k i LoadImm node e fixed t h = (_, refl, sym (ap (changed_if node is_ref false k) h))
assigned_kind is_ref decls k i (Load size) node e fixed t h = let b = bind_passed (given_kind is_ref decls k i (Load size)) _ e h in (b.0, b.1, sym (ap (changed_if node is_ref false k) b.2))
assigned_kind is_ref decls k i (LoadSigned size) node e fixed t h = let b = bind_passed (given_kind is_ref decls k i (LoadSigned size)) _ e h in (b.0, b.1, sym (ap (changed_if node is_ref false k) b.2))
assigned_kind is_ref decls k i op node e fixed t h = absurd (cc)

pub kind_is : (is_ref : Bool) (decls : List MapDecl) (k : Kinds) (i : Insn) (node : ℕ) → k.offsets ≡ Fixed → writes_destination i.op ≡ true → verdict (effect_of decls k i) ≡ passed
    → (x : Kind) × (given_kind is_ref decls k i i.op ≡ Ok x) × (transferred decls k i node is_ref false ≡ with_register k i.dst x)
unfolding effect_of
kind_is is_ref decls k i node fixed t h =
    let e = passed_ok (effect_of decls k i) h in
    let b = bind_passed (profile.profiled i k) (λ u. effect_as decls k i i.op) e.0 e.1 in
    let a = assigned_kind is_ref decls k i i.op node e.0 fixed t b.2 in
    (a.0, a.1, ap (changed_if node is_ref false k) e.1 ∙ a.2)

-- cells of the values with one register changed
pub register_inside : (decls : List MapDecl) (n m : ℕ) (ps : List PointerView) (h : RegisterCells) (k : Kinds) (r c : ℕ) (x : Kind) → n ≤ m → r ≤ 10 → length k.registers ≡ 11 → length h.registers ≡ 11
    → AreInside decls n ps h k → Counts decls m ps x c → AreInside decls m ps (record h { registers = slice_set h.registers r c }) (with_register k r x)
register_inside decls n m ps h k r c x l dst ks hs inside counts = let all = inside_more decls n m ps h k l inside in record {
  registers = λ j s. set_two (Counts decls m ps) k.registers h.registers Unset r 11 x c (omega (arith, dst, ks)) (omega (arith, dst, hs)) counts (λ q t. all.registers q (omega (arith, t))) j (omega (arith, s));
  slots = all.slots;
  window = all.window;
  target = all.target;
  offsets = all.offsets;
}

pub register_held : (decls : List MapDecl) (packet : PacketIn) (v : ℕ → ℕ) (ps : List PointerView) (h : RegisterCells) (k : Kinds) (m : Machine) (r c : ℕ) (x : Kind) (y : Value) → r ≤ 10
    → length k.registers ≡ 11 → length h.registers ≡ 11 → length m.registers ≡ 11 → AreHeld decls packet v ps h k m → Holds decls v ps x c y
    → AreHeld decls packet v ps (record h { registers = slice_set h.registers r c }) (with_register k r x) (record m { registers = slice_set m.registers r y })
register_held decls packet v ps h k m r c x y dst ks hs ms held one = record {
  registers = λ j s. set_three (Holds decls v ps) k.registers h.registers m.registers Unset is.Unset r 11 x c y (omega (arith, dst, ks)) (omega (arith, dst, hs)) (omega (arith, dst, ms)) one
      (λ q t. held.registers q (omega (arith, t))) j (omega (arith, s));
  slots = held.slots;
  length_is = held.length_is;
  window = held.window;
  rest = held.rest;
  target = held.target;
  ifindex = held.ifindex;
  time = held.time;
}

-- and with one slot of the stack changed
pub slot_inside : (decls : List MapDecl) (n m : ℕ) (ps : List PointerView) (h : RegisterCells) (k : Kinds) (s c : ℕ) (x : Kind) → n ≤ m → s < 64 → length k.slots ≡ 64 → length h.slots ≡ 64
    → AreInside decls n ps h k → Counts decls m ps x c → AreInside decls m ps (record h { slots = slice_set h.slots s c }) (with_slot k s x)
slot_inside decls n m ps h k s c x l below ks hs inside counts = let all = inside_more decls n m ps h k l inside in record {
  registers = all.registers;
  slots = λ j t. set_two (Counts decls m ps) k.slots h.slots Unset s 64 x c (omega (arith, below, ks)) (omega (arith, below, hs)) counts (λ q u. all.slots q u) j t;
  window = all.window;
  target = all.target;
  offsets = all.offsets;
}

pub slot_held : (decls : List MapDecl) (packet : PacketIn) (v : ℕ → ℕ) (ps : List PointerView) (h : RegisterCells) (k : Kinds) (m : Machine) (s c : ℕ) (x : Kind) (y : Value) → s < 64
    → length k.slots ≡ 64 → length h.slots ≡ 64 → length m.stack ≡ 64 → AreHeld decls packet v ps h k m → Holds decls v ps x c y
    → AreHeld decls packet v ps (record h { slots = slice_set h.slots s c }) (with_slot k s x) (record m { stack = slice_set m.stack s y })
slot_held decls packet v ps h k m s c x y below ks hs ms held one = record {
  registers = held.registers;
  slots = λ j t. set_three (Holds decls v ps) k.slots h.slots m.stack Unset is.Unset s 64 x c y (omega (arith, below, ks)) (omega (arith, below, hs)) (omega (arith, below, ms)) one
      (λ q u. held.slots q u) j t;
  length_is = held.length_is;
  window = held.window;
  rest = held.rest;
  target = held.target;
  ifindex = held.ifindex;
  time = held.time;
}

pub carried : (decls : List MapDecl) (ps : List PointerView) (i : Insn) (node : ℕ) (is_ref : Bool) (k : Kinds) (h : RegisterCells) (old new : List CellView) (c : ℕ) (x : Kind)
    → writes_destination i.op ≡ true → i.dst ≤ 10 → length k.registers ≡ 11 → length h.registers ≡ 11 → AreInside decls (length old) ps h k
    → transferred decls k i node is_ref false ≡ with_register k i.dst x
    → ((refs : List ℕ) → Gives decls ps node k h old new x c (λ m. given refs m i i.op))
    → Carries decls ps i node is_ref false k h (record h { registers = slice_set h.registers i.dst c }) old new
carried decls ps i node is_ref k h old new c x writes dst ks hs inside after gives = record {
  grows = (gives []).grows;
  inside = rw after (register_inside decls (length old) (length new) ps h k i.dst c x (gives []).grows.longer dst ks hs inside (gives []).counts);
  holds = λ packet v m n refs run known at e.
      let y = given_is refs m n i i.op writes e in
      let ms : length m.registers ≡ 11 = sym known.stands.registers ∙ ks in
      rw (after, y.2) (register_held decls packet v ps h k m i.dst c x y.0 dst ks hs ms known.held ((gives refs).holds packet v m y.0 run known y.1));
}

pub carried_by : (decls : List MapDecl) (ps : List PointerView) (i : Insn) (node : ℕ) (is_ref : Bool) (k : Kinds) (h : RegisterCells) (old new : List CellView) (c : ℕ)
    → writes_destination i.op ≡ true → i.dst ≤ 10 → length k.registers ≡ 11 → length h.registers ≡ 11 → AreInside decls (length old) ps h k → verdict (effect_of decls k i) ≡ passed
    → ((refs : List ℕ) → IfOk (given_kind is_ref decls k i i.op) (λ x. Gives decls ps node k h old new x c (λ m. given refs m i i.op)))
    → Carries decls ps i node is_ref false k h (record h { registers = slice_set h.registers i.dst c }) old new
carried_by decls ps i node is_ref k h old new c writes dst ks hs inside allowed gives =
    let x = kind_is is_ref decls k i node inside.offsets writes allowed in
    carried decls ps i node is_ref k h old new c x.0 writes dst ks hs inside x.2
    (λ refs. subst (λ (r : Result Kind Why). IfOk r (λ y. Gives decls ps node k h old new y c (λ m. given refs m i i.op))) x.1 (gives refs))
