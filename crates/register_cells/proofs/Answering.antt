-- What a helper's answer carries.
use Rattle.std.proofs.Common.{◌≡◌, ℕ, zero, suc, ◌+◌, ◌^◌, ◌<◌, ◌≤◌, ◌==◌, ℤ, if◌then◌else◌, Bool, true, false, Some, None, Ok, List, [], ◌∷◌, length, drop, get_or, set as set_list, slice_index, slice_set, refl, sym, ◌∙◌, ap, subst, arith, Option}
use Rattle.std.specs.Prelude.{is_some}
use Rattle.std.proofs.lemmas.List.{get_or-set_same, get_or-set_other, get_or-drop}
use Rattle.std.proofs.lemmas.Bool.Decides.{nat_tests}
use Rattle.cell_core.specs.bpf_isa.declared.operation.Op.TheVariants.{Call}
use Rattle.cell_core.specs.bpf_isa.declared.instruction.Insn.{Insn}
use Rattle.cell_core.specs.bpf_isa.declared.helper.Helper.{Helper}
use Rattle.cell_core.specs.bpf_isa.declared.helper.Helper.TheVariants.{Lookup, Update, Delete, Time, Redirect}
use Rattle.cell_core.specs.bpf_isa.Helpers.{helper_of}
use Rattle.cell_core.specs.xdp_maps.declared.decl.MapDecl.{MapDecl}
use Rattle.cell_core.specs.xdp_machine.Values.{Value, ◌>>=◌}
use Rattle.cell_core.specs.xdp_machine.Values as is
use Rattle.cell_core.specs.xdp_machine.State.{Machine, PacketIn, register}
use Rattle.cell_core.specs.xdp_machine.Helpers as helpers
use Rattle.cell_core.specs.xdp_machine.Step.{effect}
use Rattle.kind_core.proofs.xdp_machine_laws.CallLaws.{helper_called}
use Rattle.kind_core.specs.declared.kind.Kind.{Kind}
use Rattle.kind_core.specs.declared.kind.Kind.TheVariants.{Unset, Num}
use Rattle.kind_core.specs.NumberBounds.{any_number}
use Rattle.kind_core.specs.declared.kind.Kinds.{Kinds}
use Rattle.kind_core.specs.Kinds.{answering}
use Rattle.kind_core.specs.declared.number.Number.{Number}
use Rattle.kind_core.specs.Kinds as kinds
use Rattle.kind_core.specs.Calls as calls
use Rattle.kind_core.specs.Profile as profile
use Rattle.kind_core.specs.Tests.{passed}
use Rattle.kind_core.specs.Calls.{called}
use Rattle.kind_core.specs.Effects.{effect_of, effect_as, verdict}
use Rattle.kind_core.specs.Edges.{transferred, changed_if}
use Rattle.cell_core.specs.Cells.{CellView, IsRun, bit, on}
use Rattle.operator_cells.specs.Making.{Grows}
use Rattle.operator_cells.specs.declared.held_cells.machine_cells.RegisterCells.{RegisterCells}
use Rattle.operator_cells.specs.HeldCells.RegisterCells.{PointerView, Holds, Counts, AreInside}
use Rattle.operator_cells.specs.HeldCells.Carrying.{IsKnown, Carries}
use Rattle.cell_core.specs.xdp_machine.Arithmetic.{low}
use Rattle.register_cells.proofs.Finding.{low_same}
use Rattle.operator_cells.specs.HeldCells.RegisterCells.{number_of}
use Rattle.register_cells.specs.Reading.{IsRead}
use Rattle.register_cells.specs.Plain.{asks_no_map}
use Rattle.register_cells.proofs.Known.{register_read}
use Rattle.kind_core.proofs.TestLaws.{bind_passed}
use Rattle.register_cells.proofs.Carrying.{inside_more, passed_ok}

-- the answer is in the first of three lists, the next five have nothing, and the others stay
pub answered_each : (P : Kind → ℕ → Value → Type 0) (ks : List Kind) (hs : List ℕ) (xs : List Value) (n c : ℕ) (k : Kind) (y : Value) → 0 < length hs → P k c y → ((h : ℕ) (x : Value) → P Unset h x)
    → ((r : ℕ) → r < n → P (get_or ks r Unset) (slice_index hs r) (get_or xs r is.Unset))
    → (r : ℕ) → r < n → P (get_or (k ∷ Unset ∷ Unset ∷ Unset ∷ Unset ∷ Unset ∷ drop 6 ks) r Unset) (slice_index (set_list hs 0 c) r) (get_or (y ∷ is.Unset ∷ is.Unset ∷ is.Unset ∷ is.Unset ∷ is.Unset ∷ drop 6 xs) r is.Unset)
answered_each P ks hs xs n c k y some one none all zero l = rw (get_or-set_same hs 0 c 0 some) one
answered_each P ks hs xs n c k y some one none all (suc zero) l = none _ _
answered_each P ks hs xs n c k y some one none all (suc (suc zero)) l = none _ _
answered_each P ks hs xs n c k y some one none all (suc (suc (suc zero))) l = none _ _
answered_each P ks hs xs n c k y some one none all (suc (suc (suc (suc zero)))) l = none _ _
answered_each P ks hs xs n c k y some one none all (suc (suc (suc (suc (suc zero))))) l = none _ _
answered_each P ks hs xs n c k y some one none all (suc (suc (suc (suc (suc (suc r)))))) l =
    let e : 6 + r ≡ suc (suc (suc (suc (suc (suc r))))) = omega arith in
    let h : slice_index (set_list hs 0 c) (suc (suc (suc (suc (suc (suc r)))))) ≡ slice_index hs (suc (suc (suc (suc (suc (suc r)))))) = get_or-set_other hs 0 (suc (suc (suc (suc (suc (suc r)))))) c 0 (λ q. absurd (omega (arith, q))) in
    rw (get_or-drop 6 ks r Unset ∙ ap (λ (j : ℕ). get_or ks j Unset) e, h, get_or-drop 6 xs r is.Unset ∙ ap (λ (j : ℕ). get_or xs j is.Unset) e) (all (suc (suc (suc (suc (suc (suc r)))))) l)

pub answer_carried : (decls : List MapDecl) (ps : List PointerView) (i : Insn) (node : ℕ) (is_ref : Bool) (k : Kinds) (h : RegisterCells) (old new : List CellView) (c t : ℕ) → Grows old new → c < length new → t < length new → length h.registers ≡ 11
    → AreInside decls (length old) ps h k → transferred decls k i node is_ref false ≡ answering (Num (any_number 64)) k
    → ((packet : PacketIn) (v : ℕ → ℕ) (m n : Machine) (refs : List ℕ) → IsRun packet new v → IsKnown decls packet v ps node k h m → effect refs m i i.op ≡ Some n
    → (y tg : ℕ) × (n ≡ helpers.answering (is.Number y) (record m { target = tg })) × (y ≡ v c) × (tg ≡ v t))
    → Carries decls ps i node is_ref false k h (record h { registers = slice_set h.registers 0 c; target = t }) old new
answer_carried decls ps i node is_ref k h old new c t grows there target hs inside after made =
    let all = inside_more decls (length old) (length new) ps h k grows.longer inside in record {
      grows = grows;
      inside = rw after (record {
        registers = λ r l. answered_each (λ a b y. Counts decls (length new) ps a b) k.registers h.registers [] 11 c (Num (any_number 64)) is.Unset (omega (arith, hs)) there (λ a x. tt) (λ q s. all.registers q (omega (arith, s))) r (omega (arith, l));
        slots = all.slots;
        window = all.window;
        target = target;
        offsets = all.offsets;
      });
      holds = λ packet v m n refs run known at e.
          let w = made packet v m n refs run known e in
          rw (after, w.2) (record {
            registers = λ r l. answered_each (Holds decls v ps) k.registers h.registers m.registers 11 c (Num (any_number 64)) (is.Number w.0) (omega (arith, hs)) (ap is.Number w.3) (λ a x. tt)
                (λ q s. known.held.registers q (omega (arith, s))) r (omega (arith, l));
            slots = known.held.slots;
            length_is = known.held.length_is;
            window = known.held.window;
            rest = known.held.rest;
            target = w.4;
            ifindex = known.held.ifindex;
            time = known.held.time;
          });
    }

-- the kinds after a helper that gives a number and changes no map
pub answer_is : (decls : List MapDecl) (k : Kinds) (i : Insn) (node : ℕ) (is_ref : Bool) (helper : Option Helper) → i.op ≡ Call → helper_of i.imm ≡ helper → ((e : _) → called decls k i.imm helper ≡ Ok e → changed_if node is_ref false k (Ok e) ≡ answering (Num (any_number 64)) k) → verdict (effect_of decls k i) ≡ passed
    → transferred decls k i node is_ref false ≡ answering (Num (any_number 64)) k
unfolding effect_of
answer_is decls k i node is_ref helper op same plain allowed =
    let e = passed_ok (effect_of decls k i) allowed in
    let b = bind_passed (profile.profiled i k) (λ u. effect_as decls k i i.op) e.0 e.1 in
    ap (changed_if node is_ref false k) e.1 ∙ plain e.0 (sym (ap (effect_as decls k i) op ∙ ap (called decls k i.imm) same) ∙ b.2)

pub time_answers : (decls : List MapDecl) (k : Kinds) (i : Insn) (node : ℕ) (is_ref : Bool) → i.op ≡ Call → helper_of i.imm ≡ Some Time → verdict (effect_of decls k i) ≡ passed → transferred decls k i node is_ref false ≡ answering (Num (any_number 64)) k
time_answers decls k i node is_ref op same allowed = answer_is decls k i node is_ref (Some Time) op same (λ e h. sym (ap (changed_if node is_ref false k) h)) allowed

-- a helper that asks no map is one of these two
pub no_map_known : (h : Option Helper) → asks_no_map h ≡ true → is_some h ≡ true
no_map_known (Some h) asks = refl
no_map_known None asks = absurd cc

pub redirect_alone : (h : Helper) → asks_no_map (Some h) ≡ true → (h ≡ Time → ⊥) → h ≡ Redirect
redirect_alone Lookup asks other = absurd cc
redirect_alone Update asks other = absurd cc
redirect_alone Delete asks other = absurd cc
redirect_alone Time asks other = absurd (other refl)
redirect_alone Redirect asks other = refl

pub time_is : (refs : List ℕ) (m n : Machine) (i : Insn) → i.op ≡ Call → helper_of i.imm ≡ Some Time → effect refs m i i.op ≡ Some n → n ≡ helpers.answering (is.Number m.time) m
time_is refs m n i op h e = let f : Some (helpers.answering (is.Number m.time) m) ≡ Some n = helper_called refs m n i (Some Time) op h e in cc

pub time_low : (t p c : ℕ) → t < 2 ^ 64 → t ≡ p → c ≡ low 64 p → t ≡ c
time_low t p c h e f = e ∙ sym (low_same 64 p (subst (λ (n : ℕ). n < 2 ^ 64) e h)) ∙ sym f

-- ---- redirects

plain_is : (x : Kind) (u : Unit {0}) → calls.plain x ≡ Ok u → (n : Number) × (x ≡ Num n)
plain_is (Num n) u e = (n, refl)
plain_is x u e = absurd cc

redirect_fits : (decls : List MapDecl) (k : Kinds) (id : ℤ) (node : ℕ) (is_ref : Bool) (e : _) → called decls k id (Some Redirect) ≡ Ok e
    → (changed_if node is_ref false k (Ok e) ≡ answering (Num (any_number 64)) k) × (a : Number) × (kinds.register k 1 ≡ Num a) × (b : Number) × (kinds.register k 2 ≡ Num b)
redirect_fits decls k id node is_ref e h =
    let one = bind_passed (calls.plain (kinds.register k 1)) _ e h in
    let two = bind_passed (calls.plain (kinds.register k 2)) _ e one.2 in
    let a = plain_is (kinds.register k 1) one.0 one.1 in
    let b = plain_is (kinds.register k 2) two.0 two.1 in
    (sym (ap (changed_if node is_ref false k) two.2), a.0, a.1, b.0, b.1)

pub redirect_answers : (decls : List MapDecl) (k : Kinds) (i : Insn) (node : ℕ) (is_ref : Bool) → i.op ≡ Call → helper_of i.imm ≡ Some Redirect → verdict (effect_of decls k i) ≡ passed
    → (transferred decls k i node is_ref false ≡ answering (Num (any_number 64)) k) × (a : Number) × (kinds.register k 1 ≡ Num a) × (b : Number) × (kinds.register k 2 ≡ Num b)
unfolding effect_of
redirect_answers decls k i node is_ref op same allowed =
    let e = passed_ok (effect_of decls k i) allowed in
    let b = bind_passed (profile.profiled i k) (λ u. effect_as decls k i i.op) e.0 e.1 in
    let f = redirect_fits decls k i.imm node is_ref e.0 (sym (ap (effect_as decls k i) op ∙ ap (called decls k i.imm) same) ∙ b.2) in
    (ap (changed_if node is_ref false k) e.1 ∙ f.0, f.1, f.2, f.3, f.4)

pub redirect_is : (refs : List ℕ) (m n : Machine) (i : Insn) (a b : ℕ) → i.op ≡ Call → helper_of i.imm ≡ Some Redirect → register m.registers 1 ≡ is.Number a → register m.registers 2 ≡ is.Number b → effect refs m i i.op ≡ Some n → n ≡ helpers.redirected a b m
redirect_is refs m n i a b op h one two e =
    let f : helpers.redirect m ≡ Some n = helper_called refs m n i (Some Redirect) op h e in
    let is_sent : helpers.redirect m ≡ Some (helpers.redirected a b m) =
    ap (λ (x : Value). is.number_in x >>= (λ i. is.number_in (register m.registers 2) >>= (λ j. Some (helpers.redirected i j m)))) one
    ∙ ap (λ (x : Value). is.number_in x >>= (λ j. Some (helpers.redirected a j m))) two in
    let g : Some (helpers.redirected a b m) ≡ Some n = sym is_sent ∙ f in cc

-- where the flags are 0 the interface is the target
pub redirected_is : (a b : ℕ) (m n : Machine) (flags interface old sent c t : ℕ) → n ≡ helpers.redirected a b m → b < 2 ^ 64 → flags ≡ b → interface ≡ a → m.target ≡ old → m.target < 2 ^ 32
    → sent ≡ bit (low 64 flags == 0) → c ≡ (if on sent then 4 else 0) → t ≡ low 32 (if on sent then interface else old)
    → (y tg : ℕ) × (n ≡ helpers.answering (is.Number y) (record m { target = tg })) × (y ≡ c) × (tg ≡ t)
redirected_is a zero m n flags interface old sent c t e h f g o l s p q =
    let one : sent ≡ 1 = s ∙ ap (λ (k : ℕ). bit (low 64 k == 0)) f in
    (4, low 32 a, e, sym (p ∙ ap (λ (k : ℕ). if on k then 4 else 0) one), sym (q ∙ ap (λ (k : ℕ). low 32 (if on k then interface else old)) one ∙ ap (low 32) g))
redirected_is a (suc b) m n flags interface old sent c t e h f g o l s p q =
    let some : (suc b == 0) ≡ false = grind (arith, nat_tests) in
    let none : sent ≡ 0 = s ∙ ap (λ (k : ℕ). bit (low 64 k == 0)) f ∙ ap (λ (k : ℕ). bit (k == 0)) (low_same 64 (suc b) h) ∙ ap bit some in (
      0,
      m.target,
      e,
      sym (p ∙ ap (λ (k : ℕ). if on k then 4 else 0) none),
      sym (q ∙ ap (λ (k : ℕ). low 32 (if on k then interface else old)) none ∙ ap (low 32) (sym o) ∙ low_same 32 m.target l),
    )

pub number_read : (decls : List MapDecl) (packet : PacketIn) (v : ℕ → ℕ) (ps : List PointerView) (node : ℕ) (k : Kinds) (h : RegisterCells) (m : Machine) (r : ℕ) (n : Number) → IsKnown decls packet v ps node k h m → r ≤ 10 → kinds.register k r ≡ Num n
    → (register m.registers r ≡ is.Number (number_of v n (slice_index h.registers r))) × (number_of v n (slice_index h.registers r) < 2 ^ 64)
number_read decls packet v ps node k h m r n known l e =
    subst (λ (x : Kind). IsRead decls packet v ps x (slice_index h.registers r) (register m.registers r)) e (register_read decls packet v ps node k h m r known l)
