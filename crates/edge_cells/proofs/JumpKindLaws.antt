-- The kinds along the edges of a jump.
use Rattle.std.proofs.Common.{◌≡◌, ℕ, ℤ, pos, zero, suc, ◌-◌, ◌+ℤ◌, ◌==◌, ◌⊎◌, inl, inr, Bool, true, false, if◌then◌else◌, List, [], ◌∷◌, length, get_or, refl, ◌∙◌, sym, ap, subst}
use Rattle.std.specs.Prelude.{Option, Some, None, Ok, Err}
use Rattle.std.proofs.lemmas.Bool.{eqb-true}
use Rattle.xdp_machine.specs.bpf_isa.declared.operation.Width.{Width}
use Rattle.xdp_machine.specs.bpf_isa.declared.operation.Width.TheVariants.{Bits64}
use Rattle.xdp_machine.specs.bpf_isa.declared.operation.JumpCode.{JumpCode}
use Rattle.xdp_machine.specs.bpf_isa.declared.operation.JumpCode.TheVariants.{Jeq, Jne, Jgt, Jge, Jlt, Jle}
use Rattle.xdp_machine.specs.bpf_isa.declared.operation.Src.{Src}
use Rattle.xdp_machine.specs.bpf_isa.declared.operation.Src.TheVariants.{X}
use Rattle.xdp_machine.specs.bpf_isa.declared.operation.Op.{Op}
use Rattle.xdp_machine.specs.bpf_isa.declared.operation.Op.TheVariants.{Ja, Jump, Exit}
use Rattle.xdp_machine.specs.bpf_isa.declared.instruction.Insn.{Insn}
use Rattle.xdp_machine.specs.xdp_maps.declared.decl.MapDecl.{MapDecl}
use Rattle.kind_core.specs.declared.number.Number.{Number}
use Rattle.kind_core.specs.declared.number.Number.TheVariants.{Known, Between}
use Rattle.kind_core.specs.declared.kind.Kind.{Kind}
use Rattle.kind_core.specs.declared.kind.Kind.TheVariants.{Unset, Num, Packet, Var, End, Maybe, Entry}
use Rattle.kind_core.specs.declared.kind.Kinds.{Kinds}
use Rattle.kind_core.specs.declared.kind.Offsets.TheVariants.{Fixed}
use Rattle.kind_core.specs.declared.base.Base.{Base}
use Rattle.kind_core.specs.Tests.{◌>>=◌, Test}
use Rattle.kind_core.specs.Kinds.{register}
use Rattle.kind_core.specs.Profile.{profiled}
use Rattle.kind_core.specs.Effects.{effect_of, effect_as, operand}
use Rattle.kind_core.specs.Edges.{decided, decided_as, changed_if, transferred}
use Rattle.operator_cells.specs.HeldCells.Rows.{kind_by, kind_at}
use Rattle.edge_cells.specs.Testing.{is_equality, null_holds}
use Rattle.operator_cells.specs.row_rules.declared.place_rows.location.Location.{Location}
use Rattle.operator_cells.specs.row_rules.declared.place_rows.location.Location.TheVariants as location
use Rattle.operator_cells.specs.row_rules.PlaceRows.Locations.{location_at}

-- What an edge makes of a kind: what a lookup answered is null, or an entry if its node is one of these; from a base on more is checked.
pub data Along (Enter : ℕ → Type 0) : Kind → Kind → Type 0 where
  same : (k : Kind) → Along Enter k k
  null : (q n : ℕ) → Along Enter (Maybe q n) (Num (Known 0))
  entry : (q n : ℕ) → Enter n → Along Enter (Maybe q n) (Entry q 0)
  further : (b j : Base) (f : ℤ) → Along Enter (Var b f) (Var j f)

pub record IsEdge (Enter : ℕ → Type 0) (k j : Kinds) : Type 0 where
  pub registers : (r : ℕ) → Along Enter (get_or k.registers r Unset) (get_or j.registers r Unset)
  pub slots : (s : ℕ) → Along Enter (get_or k.slots s Unset) (get_or j.slots s Unset)
  pub register_count : length j.registers ≡ length k.registers
  pub slot_count : length j.slots ≡ length k.slots
  pub offsets : j.offsets ≡ k.offsets

pub along_at : {Enter : ℕ → Type 0} (k j : Kinds) (place : ℕ) → IsEdge Enter k j → Along Enter (kind_at k place) (kind_at j place)
along_at {Enter} k j place e = by (location_at place)
  where
    by : (l : Location) → Along Enter (kind_by k l) (kind_by j l)
    by (location.Register r) = e.registers r
    by (location.StackSlot s) = e.slots s
    by (location.PacketByte i) = same _
    by location.Target = same _
    by (location.PendingWrites q) = same _

-- on this edge of a test against null what the lookup of node n answered is an entry
pub record Enters (taken : Bool) (w : Width) (c : JumpCode) (a b : Kind) (n : ℕ) : Type 0 where
  pub map : ℕ
  pub wide : w ≡ Bits64
  pub equality : is_equality c ≡ true
  pub goes : null_holds c true ≡ taken
  pub sides : ((a ≡ Maybe map n) × (b ≡ Num (Known 0))) ⊎ ((a ≡ Num (Known 0)) × (b ≡ Maybe map n))

-- a jump on these two, and the kinds along an edge of it
abbrev pub two : Kind → Kind → Kinds
two a b = record { registers = a ∷ b ∷ []; slots = []; checked = 0; offsets = Fixed }

abbrev pub on_two : Insn
on_two = record { op = Exit; dst = 0; src = 1; offset = pos 0; imm = pos 0 }

abbrev along : ℕ → Bool → Kinds → Width → JumpCode → Kind → Kind → Kinds
along node taken k w c a b = changed_if node false taken k (effect_as [] (two a b) on_two (Jump w c X))

pub edge-any : {P : ℕ → Type 0} (k j : Kinds) → j.registers ≡ k.registers → j.slots ≡ k.slots → j.offsets ≡ k.offsets → IsEdge P k j
edge-any {P} k j e f g = record {
  registers = λ r. subst (λ (xs : List Kind). Along P (get_or k.registers r Unset) (get_or xs r Unset)) (sym e) (same (get_or k.registers r Unset));
  slots = λ s. subst (λ (xs : List Kind). Along P (get_or k.slots s Unset) (get_or xs s Unset)) (sym f) (same (get_or k.slots s Unset));
  register_count = ap length e;
  slot_count = ap length f;
  offsets = g;
}

-- kinds where the lookup of node n gave null, and where it gave an entry
abbrev only : List Kind → Kinds
only ks = record { registers = ks; slots = []; checked = 0; offsets = Fixed }

abbrev base_of : ℕ → Base
base_of n = record { node = n; bounds = record { low = 0; high = 0 }; checked = pos 0 }

abbrev nulled : ℕ → List Kind → List Kind
nulled n ks = (along 0 true (only ks) Bits64 Jeq (Maybe 0 n) (Num (Known zero))).registers

abbrev entered : ℕ → List Kind → List Kind
entered n ks = (along 0 false (only ks) Bits64 Jeq (Maybe 0 n) (Num (Known zero))).registers

null-if : {P : ℕ → Type 0} (t : Bool) (q m : ℕ) → Along P (Maybe q m) (if t then Num (Known 0) else Maybe q m)
null-if true q m = null q m
null-if false q m = same (Maybe q m)

entry-if : {P : ℕ → Type 0} (t : Bool) (q m n : ℕ) → (m == n) ≡ t → P n → Along P (Maybe q m) (if t then Entry q 0 else Maybe q m)
entry-if {P} true q m n e p = entry q m (subst P (sym (eqb-true m n e)) p)
entry-if false q m n e p = same (Maybe q m)

null-one : {P : ℕ → Type 0} (n : ℕ) (x : Kind) → Along P x (get_or (nulled n (x ∷ [])) 0 Unset)
null-one n (Maybe q m) = null-if (m == n) q m
null-one n x = same x

entry-one : {P : ℕ → Type 0} (n : ℕ) (x : Kind) → P n → Along P x (get_or (entered n (x ∷ [])) 0 Unset)
entry-one n (Maybe q m) p = entry-if (m == n) q m n refl p
entry-one n x p = same x

at_nulled : {P : ℕ → Type 0} (n : ℕ) (ks : List Kind) (i : ℕ) → Along P (get_or ks i Unset) (get_or (nulled n ks) i Unset)
at_nulled n [] i = same Unset
at_nulled n (x ∷ ks) zero = null-one n x
at_nulled n (x ∷ ks) (suc i) = at_nulled n ks i

at_entered : {P : ℕ → Type 0} (n : ℕ) (ks : List Kind) (i : ℕ) → P n → Along P (get_or ks i Unset) (get_or (entered n ks) i Unset)
at_entered n [] i p = same Unset
at_entered n (x ∷ ks) zero p = entry-one n x p
at_entered n (x ∷ ks) (suc i) p = at_entered n ks i p

nulled_length : (n : ℕ) (ks : List Kind) → length (nulled n ks) ≡ length ks
nulled_length n [] = refl
nulled_length n (x ∷ ks) = ap suc (nulled_length n ks)

entered_length : (n : ℕ) (ks : List Kind) → length (entered n ks) ≡ length ks
entered_length n [] = refl
entered_length n (x ∷ ks) = ap suc (entered_length n ks)

null-edge : {P : ℕ → Type 0} (k : Kinds) (n : ℕ) → IsEdge P k (along 0 true k Bits64 Jeq (Maybe 0 n) (Num (Known zero)))
null-edge k n = record { registers = at_nulled n k.registers; slots = at_nulled n k.slots; register_count = nulled_length n k.registers; slot_count = nulled_length n k.slots; offsets = refl }

entry-edge : {P : ℕ → Type 0} (k : Kinds) (n : ℕ) → P n → IsEdge P k (along 0 false k Bits64 Jeq (Maybe 0 n) (Num (Known zero)))
entry-edge k n p = record { registers = λ i. at_entered n k.registers i p; slots = λ i. at_entered n k.slots i p; register_count = entered_length n k.registers; slot_count = entered_length n k.slots; offsets = refl }

-- ---- the conditions

edge-numbers : (node : ℕ) (taken : Bool) (k : Kinds) (w : Width) (c : JumpCode) (x y : Number) → IsEdge (Enters taken w c (Num x) (Num y)) k (along node taken k w c (Num x) (Num y))
edge-numbers node taken k w c (Known x) (Known y) = edge-any k _ refl refl refl
edge-numbers node taken k w c (Known x) (Between lo hi) = edge-any k _ refl refl refl
edge-numbers node taken k w c (Between lo hi) (Known y) = edge-any k _ refl refl refl
edge-numbers node taken k w c (Between lo hi) (Between l h) = edge-any k _ refl refl refl

-- what a lookup answered against a number, on either side
edge-null : (node : ℕ) (taken : Bool) (k : Kinds) (c : JumpCode) (q n : ℕ) (y : Number) → IsEdge (Enters taken Bits64 c (Maybe q n) (Num y)) k (along node taken k Bits64 c (Maybe q n) (Num y))
edge-null node true k Jeq q n (Known zero) = null-edge k n
edge-null node false k Jeq q n (Known zero) = entry-edge k n (record { map = q; wide = refl; equality = refl; goes = refl; sides = inl (refl, refl) })
edge-null node true k Jne q n (Known zero) = entry-edge k n (record { map = q; wide = refl; equality = refl; goes = refl; sides = inl (refl, refl) })
edge-null node false k Jne q n (Known zero) = null-edge k n
edge-null node taken k c q n (Known (suc a)) = edge-any k _ refl refl refl
edge-null node taken k c q n (Between lo hi) = edge-any k _ refl refl refl
edge-null node taken k c q n y = edge-any k _ refl refl refl

edge-null-right : (node : ℕ) (taken : Bool) (k : Kinds) (c : JumpCode) (q n : ℕ) (y : Number) → IsEdge (Enters taken Bits64 c (Num y) (Maybe q n)) k (along node taken k Bits64 c (Num y) (Maybe q n))
edge-null-right node true k Jeq q n (Known zero) = null-edge k n
edge-null-right node false k Jeq q n (Known zero) = entry-edge k n (record { map = q; wide = refl; equality = refl; goes = refl; sides = inr (refl, refl) })
edge-null-right node true k Jne q n (Known zero) = entry-edge k n (record { map = q; wide = refl; equality = refl; goes = refl; sides = inr (refl, refl) })
edge-null-right node false k Jne q n (Known zero) = null-edge k n
edge-null-right node taken k c q n (Known (suc a)) = edge-any k _ refl refl refl
edge-null-right node taken k c q n (Between lo hi) = edge-any k _ refl refl refl
edge-null-right node taken k c q n y = edge-any k _ refl refl refl

-- a place in the packet against its end
edge-place : (node : ℕ) (taken : Bool) (k : Kinds) (c : JumpCode) (o : ℕ) → IsEdge (Enters taken Bits64 c (Packet o) End) k (along node taken k Bits64 c (Packet o) End)
edge-place node true k Jgt o = edge-any k _ refl refl refl
edge-place node false k Jgt o = edge-any k _ refl refl refl
edge-place node taken k c o = edge-any k _ refl refl refl

edge-end : (node : ℕ) (taken : Bool) (k : Kinds) (c : JumpCode) (o : ℕ) → IsEdge (Enters taken Bits64 c End (Packet o)) k (along node taken k Bits64 c End (Packet o))
edge-end node true k Jgt o = edge-any k _ refl refl refl
edge-end node false k Jgt o = edge-any k _ refl refl refl
edge-end node taken k c o = edge-any k _ refl refl refl

-- a place at a distance from a base: on one edge more is checked from the base on
abbrev checks : ℕ → ℤ → List Kind → List Kind
checks n z ks = (along 0 true (only ks) Bits64 Jle (Var (base_of n) z) End).registers

check-if : {P : ℕ → Type 0} (t : Bool) (b j : Base) (f : ℤ) → Along P (Var b f) (if t then Var j f else Var b f)
check-if true b j f = further b j f
check-if false b j f = same (Var b f)

check-one : {P : ℕ → Type 0} (n : ℕ) (z : ℤ) (x : Kind) → Along P x (get_or (checks n z (x ∷ [])) 0 Unset)
check-one n z (Var b f) = check-if (b.node == n) b _ f
check-one n z x = same x

at_checks : {P : ℕ → Type 0} (n : ℕ) (z : ℤ) (ks : List Kind) (i : ℕ) → Along P (get_or ks i Unset) (get_or (checks n z ks) i Unset)
at_checks n z [] i = same Unset
at_checks n z (x ∷ ks) zero = check-one n z x
at_checks n z (x ∷ ks) (suc i) = at_checks n z ks i

checks_length : (n : ℕ) (z : ℤ) (ks : List Kind) → length (checks n z ks) ≡ length ks
checks_length n z [] = refl
checks_length n z (x ∷ ks) = ap suc (checks_length n z ks)

check-edge : {P : ℕ → Type 0} (k : Kinds) (n : ℕ) (z : ℤ) → IsEdge P k (along 0 true k Bits64 Jle (Var (base_of n) z) End)
check-edge k n z = record { registers = at_checks n z k.registers; slots = at_checks n z k.slots; register_count = checks_length n z k.registers; slot_count = checks_length n z k.slots; offsets = refl }

edge-base : (node : ℕ) (taken : Bool) (k : Kinds) (c : JumpCode) (b : Base) (f : ℤ) → IsEdge (Enters taken Bits64 c (Var b f) End) k (along node taken k Bits64 c (Var b f) End)
edge-base node false k Jgt b f = check-edge k b.node f
edge-base node false k Jge b f = check-edge k b.node (f +ℤ pos 1)
edge-base node true k Jlt b f = check-edge k b.node (f +ℤ pos 1)
edge-base node true k Jle b f = check-edge k b.node f
edge-base node true k Jgt b f = edge-any k _ refl refl refl
edge-base node true k Jge b f = edge-any k _ refl refl refl
edge-base node false k Jlt b f = edge-any k _ refl refl refl
edge-base node false k Jle b f = edge-any k _ refl refl refl
edge-base node taken k c b f = edge-any k _ refl refl refl

edge-from-end : (node : ℕ) (taken : Bool) (k : Kinds) (c : JumpCode) (b : Base) (f : ℤ) → IsEdge (Enters taken Bits64 c End (Var b f)) k (along node taken k Bits64 c End (Var b f))
edge-from-end node true k Jgt b f = check-edge k b.node (f +ℤ pos 1)
edge-from-end node true k Jge b f = check-edge k b.node f
edge-from-end node false k Jlt b f = check-edge k b.node f
edge-from-end node false k Jle b f = check-edge k b.node (f +ℤ pos 1)
edge-from-end node false k Jgt b f = edge-any k _ refl refl refl
edge-from-end node false k Jge b f = edge-any k _ refl refl refl
edge-from-end node true k Jlt b f = edge-any k _ refl refl refl
edge-from-end node true k Jle b f = edge-any k _ refl refl refl
edge-from-end node taken k c b f = edge-any k _ refl refl refl

-- any kind against a number
edge-left : (node : ℕ) (taken : Bool) (k : Kinds) (c : JumpCode) (a : Kind) (y : Number) → IsEdge (Enters taken Bits64 c a (Num y)) k (along node taken k Bits64 c a (Num y))
edge-left node taken k c (Num x) y = edge-numbers node taken k Bits64 c x y
edge-left node taken k c (Maybe q n) y = edge-null node taken k c q n y
edge-left node taken k Jeq a (Known zero) = edge-any k _ refl refl refl
edge-left node taken k c a (Known (suc n)) = edge-any k _ refl refl refl
edge-left node taken k c a y = edge-any k _ refl refl refl

edge-right : (node : ℕ) (taken : Bool) (k : Kinds) (c : JumpCode) (x : Number) (b : Kind) → IsEdge (Enters taken Bits64 c (Num x) b) k (along node taken k Bits64 c (Num x) b)
edge-right node taken k c x (Num y) = edge-numbers node taken k Bits64 c x y
edge-right node taken k c x (Maybe q n) = edge-null-right node taken k c q n x
edge-right node taken k Jeq (Known zero) b = edge-any k _ refl refl refl
edge-right node taken k c (Known (suc n)) b = edge-any k _ refl refl refl
edge-right node taken k c x b = edge-any k _ refl refl refl

edge-on : (node : ℕ) (taken : Bool) (k : Kinds) (w : Width) (c : JumpCode) (a b : Kind) → IsEdge (Enters taken w c a b) k (along node taken k w c a b)
edge-on node taken k w c (Num x) (Num y) = edge-numbers node taken k w c x y
edge-on node taken k Bits64 c a (Num y) = edge-left node taken k c a y
edge-on node taken k Bits64 c (Num x) b = edge-right node taken k c x b
edge-on node taken k Bits64 c (Packet o) End = edge-place node taken k c o
edge-on node taken k Bits64 c End (Packet o) = edge-end node taken k c o
edge-on node taken k Bits64 c (Var b f) End = edge-base node taken k c b f
edge-on node taken k Bits64 c End (Var b f) = edge-from-end node taken k c b f
edge-on node taken k w c a b = edge-any k _ refl refl refl

edge-if : (decls : List MapDecl) (k : Kinds) (i : Insn) (node : ℕ) (w : Width) (c : JumpCode) (s : Src) (taken : Bool) (t : Test)
    → IsEdge (Enters taken w c (register k i.dst) (operand k i s)) k (changed_if node false taken k (t >>= λ _. effect_as decls k i (Jump w c s)))
edge-if decls k i node w c s taken (Ok u) = edge-on node taken k w c (register k i.dst) (operand k i s)
edge-if decls k i node w c s taken (Err y) = edge-any k k refl refl refl

pub edge_of : (decls : List MapDecl) (k : Kinds) (i : Insn) (node : ℕ) (w : Width) (c : JumpCode) (s : Src) (taken : Bool) → i.op ≡ Jump w c s
    → IsEdge (Enters taken w c (register k i.dst) (operand k i s)) k (transferred decls k i node false taken)
unfolding effect_of
edge_of decls k i node w c s taken is =
    subst (λ (op : Op). IsEdge (Enters taken w c (register k i.dst) (operand k i s)) k (changed_if node false taken k (profiled i k >>= λ _. effect_as decls k i op))) (sym is) (edge-if decls k i node w c s taken (profiled i k))

-- a test against null is undecided, so no answer is an entry on an edge of a decided jump
null_undecided : (c : JumpCode) (q n : ℕ) → is_equality c ≡ true
    → (decided_as (two (Maybe q n) (Num (Known 0))) on_two (Jump Bits64 c X) ≡ None) × (decided_as (two (Num (Known 0)) (Maybe q n)) on_two (Jump Bits64 c X) ≡ None)
null_undecided Jeq q n e = (refl, refl)
null_undecided Jne q n e = (refl, refl)
null_undecided c q n e = absurd (cc)

pub none_enters : (k : Kinds) (i : Insn) (w : Width) (c : JumpCode) (s : Src) (t taken : Bool) (n : ℕ) → i.op ≡ Jump w c s → decided k i ≡ Some t → Enters taken w c (register k i.dst) (operand k i s) n → ⊥
none_enters k i w c s t taken n op is enters = by enters.sides
  where
    decided-on : Width → Kind → Kind → Option Bool
    decided-on x a b = decided_as (two a b) on_two (Jump x c X)

    also : decided-on Bits64 (register k i.dst) (operand k i s) ≡ Some t
    also = ap (λ (x : Width). decided-on x (register k i.dst) (operand k i s)) (sym enters.wide) ∙ ap (decided_as k i) (sym op) ∙ is

    none : {a b : Kind} → register k i.dst ≡ a → operand k i s ≡ b → decided-on Bits64 a b ≡ None → ⊥
    none {a} {b} e f g = let bad : Some t ≡ None = sym also ∙ ap (λ (x : Kind). decided-on Bits64 x (operand k i s)) e ∙ ap (decided-on Bits64 a) f ∙ g in absurd (cc bad)

    by : ((register k i.dst ≡ Maybe enters.map n) × (operand k i s ≡ Num (Known 0))) ⊎ ((register k i.dst ≡ Num (Known 0)) × (operand k i s ≡ Maybe enters.map n)) → ⊥
    by (inl l) = none l.0 l.1 (null_undecided c enters.map n enters.equality).0
    by (inr r) = none r.0 r.1 (null_undecided c enters.map n enters.equality).1

-- a jump without a condition leaves all kinds
single-if : (decls : List MapDecl) (k : Kinds) (i : Insn) (node : ℕ) (w : Width) (taken : Bool) (t : Test) → changed_if node false taken k (t >>= λ _. effect_as decls k i (Ja w)) ≡ k
single-if decls k i node w taken (Ok u) = refl
single-if decls k i node w taken (Err y) = refl

pub single_edge : (decls : List MapDecl) (k : Kinds) (i : Insn) (node : ℕ) (w : Width) (taken : Bool) → i.op ≡ Ja w → transferred decls k i node false taken ≡ k
unfolding effect_of
single_edge decls k i node w taken is = ap (λ (op : Op). changed_if node false taken k (profiled i k >>= λ _. effect_as decls k i op)) is ∙ single-if decls k i node w taken (profiled i k)
