-- Which places an instruction writes, and in which rows its edges leave.
use Rattle.std.proofs.Common.{◌≡◌, ℕ, ℤ, pos, negsuc, ◌+◌, ◌/◌, ◌%◌, ◌+ℤ◌, ◌≤◌, ◌==◌, nat_le, Bool, true, false, if◌then◌else◌, Option, Some, None, List, [], ◌∷◌, refl, ap, ◌∙◌, arith, subst, unsigned_abs}
use Rattle.std.specs.Prelude.{Result, Ok, Err}
use Rattle.std.specs.List.{list_any}
use Rattle.std.specs.Int.{w64, cast_unsigned}
use Rattle.std.proofs.Math.IntN.{+ℤ_assoc}
use Rattle.std.proofs.lemmas.Bool.{leb-true}
use Rattle.xdp_machine.specs.bpf_isa.declared.operation.Op.{Op}
use Rattle.xdp_machine.specs.bpf_isa.declared.operation.Op.TheVariants.{Alu, Neg, End, Swap, Ja, Jump, Call, Exit, LoadImm, Abs, Ind, Load, LoadSigned, StoreImm, Store, Atomic}
use Rattle.xdp_machine.specs.bpf_isa.declared.operation.Size.{Size}
use Rattle.xdp_machine.specs.bpf_isa.declared.instruction.Insn.{Insn}
use Rattle.xdp_machine.specs.bpf_isa.declared.helper.Helper.{Helper}
use Rattle.xdp_machine.specs.bpf_isa.declared.helper.Helper.TheVariants.{Lookup, Update, Delete, Time, Redirect}
use Rattle.xdp_machine.specs.bpf_isa.Helpers.{helper_of}
use Rattle.xdp_machine.specs.bpf_isa.Spelling.{IsInsn}
use Rattle.xdp_machine.specs.xdp_maps.declared.decl.MapDecl.{MapDecl}
use Rattle.xdp_machine.specs.Memory.{bytes_in}
use Rattle.xdp_machine.specs.Atomics.{fetches}
use Rattle.kind_core.specs.declared.kind.Kind.{Kind}
use Rattle.kind_core.specs.declared.kind.Kind.TheVariants as kind
use Rattle.kind_core.specs.declared.kind.Kinds.{Kinds}
use Rattle.xdp_state.specs.declared.refusal.Why.{Why}
use Rattle.kind_core.specs.Kinds.{register}
use Rattle.kind_core.specs.Tests.{◌>>=◌, passed, within, aligned}
use Rattle.kind_core.specs.Places.{accessed}
use Rattle.kind_core.specs.Access.{compares, stored}
use Rattle.kind_core.specs.Effects.{effect_of, effect_as, verdict, immediate}
use Rattle.kind_core.specs.Profile.{profiled}
use Rattle.kind_core.proofs.TestLaws.{bind_passed}
use Rattle.operator_cells.specs.row_rules.declared.place_rows.origin.Origin.{Origin}
use Rattle.operator_cells.specs.row_rules.declared.place_rows.span.Span.{Span}
use Rattle.operator_cells.specs.row_rules.PlaceRows.Locations.{first_pending, first_slot}
use Rattle.operator_cells.specs.row_rules.PlaceRows.Spans.{no_place, one, target, slots_of, bytes_of, region, is_in}
use Rattle.operator_cells.specs.row_rules.PlaceRows.Origins.{row_at}
use Rattle.operator_cells.specs.row_rules.PlaceRows.Calls.{call_writes}
use Rattle.operator_cells.specs.row_rules.PlaceRows.Writing.{writes_as}
use Rattle.operator_cells.proofs.row_rules_laws.PlaceRows.SpanLaws.{in_none, not_beyond, no_places}
use Rattle.operator_cells.specs.row_rules.NodeRows.Passing as graph
use Rattle.edge_cells.specs.NodeCells.Ends.{AreEnds}
use Rattle.operator_cells.specs.HeldCells.Rows as cells

-- ---- tests that pass
within_is : (z : ℤ) (n len a : ℕ) → within z n len ≡ Ok a → (z ≡ pos a) × (a + n ≤ len)
within_is (pos b) n len a h = by (nat_le (b + n) len) refl h
  where
    by : (t : Bool) → nat_le (b + n) len ≡ t → (if t then Ok b else Err Why.Offset) ≡ Ok a → (pos b ≡ pos a) × (a + n ≤ len)
    by true e g = let same : b ≡ a = cc in (ap pos same, omega (arith, leb-true (b + n) len e, same))
    by false e g = cc
within_is (negsuc b) n len a h = cc

abbrev Passes : {A : Type 0} → Result A Why → Type 0
Passes (Ok a) = Unit {0}
Passes (Err w) = ⊥

bind_first : {A B : Type 0} (r : Result A Why) (f : A → Result B Why) → Passes (r >>= f) → Passes r
bind_first (Ok a) f h = tt
bind_first (Err e) f h = absurd h

bind_next : {A B : Type 0} (r : Result A Why) (f : A → Result B Why) → Passes (r >>= f) → (a : A) × (r ≡ Ok a) × Passes (f a)
bind_next (Ok a) f h = (a, refl, h)
bind_next (Err e) f h = absurd h

allowed_is : (r : Result _ Why) → verdict r ≡ passed → Passes r
allowed_is (Ok e) h = tt
allowed_is (Err w) h = cc

effect_is : (decls : List MapDecl) (k : Kinds) (i : Insn) → verdict (effect_of decls k i) ≡ passed → Passes (effect_as decls k i i.op)
unfolding effect_of
effect_is decls k i h = (bind_next (profiled i k) (λ _. effect_as decls k i i.op) (allowed_is (effect_of decls k i) h)).2

-- ---- places
neither : (place : ℕ) (a b : Span) → is_in place a ≡ false → is_in place b ≡ false → list_any (is_in place) (a ∷ b ∷ []) ≡ false
neither place a b e f = rw (e, f) refl

first_alone : (place : ℕ) (a : Span) → is_in place a ≡ false → list_any (is_in place) (a ∷ no_place ∷ []) ≡ false
first_alone place a e = neither place a no_place e (in_none place)

not_register : (place r : ℕ) → first_pending ≤ place → r ≤ 10 → is_in place (one r) ≡ false
not_register place r far l = not_beyond place (one r) (omega (arith, far, l))

slots_end : (a n place : ℕ) → a + n ≤ 512 → first_pending ≤ place → first_slot + (a + n + 7) / 8 ≤ place
slots_end a n place l far = omega (arith, l, far)

module _ (decls : List MapDecl) (checked place : ℕ) (far : first_pending ≤ place) (size : Size) where
  region_inside : (x : Kind) (offset : ℤ) → Passes (accessed decls checked x offset size) → is_in place (region x offset (bytes_in size)) ≡ false
  region_inside (kind.Packet o) offset h =
      let x = bind_next (within (pos o +ℤ offset) (bytes_in size) 256) _ h in
      let y = within_is (pos o +ℤ offset) (bytes_in size) 256 x.0 x.1 in
      rw y.0 (not_beyond place (bytes_of x.0 (bytes_in size)) (omega (arith, far, y.1)))
  region_inside (kind.Var b f) offset h =
      let low = bind_next (within (pos b.bounds.low +ℤ (f +ℤ offset)) 0 256) _ h in
      let x = bind_next (within (pos b.bounds.high +ℤ (f +ℤ offset)) (bytes_in size) 256) _ low.2 in
      let y = within_is (pos b.bounds.high +ℤ (f +ℤ offset)) (bytes_in size) 256 x.0 x.1 in
      let at : (pos b.bounds.high +ℤ f) +ℤ offset ≡ pos x.0 = +ℤ_assoc (pos b.bounds.high) f offset ∙ y.0 in
      not_beyond place (region (kind.Var b f) offset (bytes_in size)) (omega (arith, far, y.1, ap unsigned_abs at))
  region_inside (kind.Stack o) offset h =
      let x = bind_next (aligned (o +ℤ offset +ℤ pos 512) (bytes_in size) 512) _ h in
      let w = bind_passed (within (o +ℤ offset +ℤ pos 512) (bytes_in size) 512) (λ a. if a % bytes_in size == 0 then Ok a else Err Why.Misaligned) x.0 x.1 in
      let y = within_is (o +ℤ offset +ℤ pos 512) (bytes_in size) 512 w.0 w.1 in
      rw y.0 (not_beyond place (slots_of w.0 (bytes_in size)) (slots_end w.0 (bytes_in size) place y.1 far))
  region_inside (kind.Num n) offset h = in_none place
  region_inside (kind.Maybe q n) offset h = in_none place
  region_inside (kind.Entry q o) offset h = in_none place
  region_inside kind.End offset h = in_none place
  region_inside kind.Ctx offset h = in_none place
  region_inside (kind.MapRef q) offset h = in_none place
  region_inside kind.Unset offset h = in_none place
  region_inside kind.Stale offset h = in_none place
  region_inside kind.Mixed offset h = in_none place

  stored_inside : (k : Kinds) (x : Kind) (offset : ℤ) (y : Kind) → k.checked ≡ checked → Passes (stored decls k x offset size y) → list_any (is_in place) (region x offset (bytes_in size) ∷ no_place ∷ []) ≡ false
  unfolding stored
  stored_inside k x offset y same h =
      first_alone place (region x offset (bytes_in size)) (region_inside x offset (subst (λ (n : ℕ). Passes (accessed decls n x offset size)) same (bind_first (accessed decls k.checked x offset size) _ h)))

-- what an allowed instruction writes stands before the places of what is pending
module _ (decls : List MapDecl) (k : Kinds) (i : Insn) (legal : IsInsn i) (place : ℕ) (far : first_pending ≤ place) where
  into : list_any (is_in place) (one i.dst ∷ no_place ∷ []) ≡ false
  into = first_alone place (one i.dst) (not_register place i.dst far legal.dst_register)

  answer : (h : Option Helper) → list_any (is_in place) (one 0 ∷ call_writes h ∷ []) ≡ false
  answer (Some Redirect) = neither place (one 0) target (not_register place 0 far (omega arith)) (not_beyond place target (omega (arith, far)))
  answer (Some Lookup) = neither place (one 0) no_place (not_register place 0 far (omega arith)) (in_none place)
  answer (Some Update) = neither place (one 0) no_place (not_register place 0 far (omega arith)) (in_none place)
  answer (Some Delete) = neither place (one 0) no_place (not_register place 0 far (omega arith)) (in_none place)
  answer (Some Time) = neither place (one 0) no_place (not_register place 0 far (omega arith)) (in_none place)
  answer None = neither place (one 0) no_place (not_register place 0 far (omega arith)) (in_none place)

  old : (a b : Bool) → list_any (is_in place) ((if a then one 0 else (if b then one i.src else no_place)) ∷ no_place ∷ []) ≡ false
  old true b = first_alone place (one 0) (not_register place 0 far (omega arith))
  old false true = first_alone place (one i.src) (not_register place i.src far legal.src_register)
  old false false = no_places place

  inside_as : (op : Op) → Passes (effect_as decls k i op) → list_any (is_in place) (writes_as k i op) ≡ false
  inside_as (Alu w c s) h = into
  inside_as (Neg w) h = into
  inside_as (End s) h = into
  inside_as Swap h = into
  inside_as (Ja w) h = no_places place
  inside_as (Jump w c s) h = no_places place
  inside_as Call h = answer (helper_of i.imm)
  inside_as Exit h = no_places place
  inside_as LoadImm h = into
  inside_as (Abs s) h = no_places place
  inside_as (Ind s) h = no_places place
  inside_as (Load s) h = into
  inside_as (LoadSigned s) h = into
  inside_as (StoreImm s) h = stored_inside decls k.checked place far s k (register k i.dst) i.offset (immediate i) refl h
  inside_as (Store s) h = stored_inside decls k.checked place far s k (register k i.dst) i.offset (register k i.src) refl h
  inside_as (Atomic s) h = old (compares i) (fetches (cast_unsigned w64 i.imm))

pub spans_inside : (decls : List MapDecl) (k : Kinds) (i : Insn) → IsInsn i → verdict (effect_of decls k i) ≡ passed → (place : ℕ) → first_pending ≤ place → list_any (is_in place) (writes_as k i i.op) ≡ false
spans_inside decls k i legal allowed place far = inside_as decls k i legal place far i.op (effect_is decls k i allowed)

-- an instruction that writes has no edge of a jump
pub not_taken : (k : Kinds) (i : Insn) (op : Op) (next jump : Option ℕ) (place : ℕ) → AreEnds k i op next jump → list_any (is_in place) (writes_as k i op) ≡ true → jump ≡ None
not_taken k i (Alu w c s) next jump place a h = a.1
not_taken k i (Neg w) next jump place a h = a.1
not_taken k i (End s) next jump place a h = a.1
not_taken k i Swap next jump place a h = a.1
not_taken k i (Ja w) next jump place a h = let n = no_places place in cc
not_taken k i (Jump w c s) next jump place a h = let n = no_places place in cc
not_taken k i Call next jump place a h = a.1
not_taken k i Exit next jump place a h = a.1
not_taken k i LoadImm next jump place a h = a.1
not_taken k i (Abs s) next jump place a h = a.1
not_taken k i (Ind s) next jump place a h = a.1
not_taken k i (Load s) next jump place a h = a.1
not_taken k i (LoadSigned s) next jump place a h = a.1
not_taken k i (StoreImm s) next jump place a h = a.1
not_taken k i (Store s) next jump place a h = a.1
not_taken k i (Atomic s) next jump place a h = a.1

-- ---- edges
pub leaving : (os : List (Option Origin)) (i : Insn) (op : Op) (a b : ℕ) (d : Option Bool) → a ≤ b → (cells.undecided_row (row_at os) i op a d ≤ graph.undecided_row os i op b d) × (b ≤ graph.undecided_row os i op b d)
leaving os i (Jump w c s) a b None h = (omega (arith, h), omega arith)
leaving os i (Jump w c s) a b (Some t) h = (h, omega arith)
leaving os i (Alu w c s) a b d h = (h, omega arith)
leaving os i (Neg w) a b d h = (h, omega arith)
leaving os i (End s) a b d h = (h, omega arith)
leaving os i Swap a b d h = (h, omega arith)
leaving os i (Ja w) a b d h = (h, omega arith)
leaving os i Call a b d h = (h, omega arith)
leaving os i Exit a b d h = (h, omega arith)
leaving os i LoadImm a b d h = (h, omega arith)
leaving os i (Abs s) a b d h = (h, omega arith)
leaving os i (Ind s) a b d h = (h, omega arith)
leaving os i (Load s) a b d h = (h, omega arith)
leaving os i (LoadSigned s) a b d h = (h, omega arith)
leaving os i (StoreImm s) a b d h = (h, omega arith)
leaving os i (Store s) a b d h = (h, omega arith)
leaving os i (Atomic s) a b d h = (h, omega arith)
