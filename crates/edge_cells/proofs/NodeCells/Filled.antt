-- No slot that an instruction leaves is unset.
use Rattle.std.proofs.Common.{◌≡◌, ◌≢◌, ℕ, ℤ, pos, zero, suc, ◌+◌, ◌+ℤ◌, ◌<◌, ◌≤◌, ◌/◌, ◌%◌, ◌==◌, ◌⊎◌, inl, inr, Bool, true, false, if◌then◌else◌, Option, Some, None, Result, Ok, Err, List, [], ◌∷◌, length, get_or, map as map_list, set as set_list, refl, sym, subst, arith}
use Rattle.std.specs.Prelude.{nat_le, int_le}
use Rattle.std.proofs.lemmas.Bool.{cases_lt}
use Rattle.std.proofs.lemmas.List.{get_or-set_same, get_or-set_other, set_past}
use Rattle.xdp_machine.specs.bpf_isa.declared.operation.Op.{Op}
use Rattle.xdp_machine.specs.bpf_isa.declared.operation.Op.TheVariants.{Alu, Ja, Jump, Call, Exit, LoadImm, Load, LoadSigned, Abs, Ind, StoreImm, Store, Atomic}
use Rattle.xdp_machine.specs.bpf_isa.declared.operation.Size.{Size}
use Rattle.xdp_machine.specs.bpf_isa.declared.operation.Size.TheVariants.{Dw}
use Rattle.xdp_machine.specs.bpf_isa.declared.instruction.Insn.{Insn}
use Rattle.xdp_machine.specs.bpf_isa.declared.helper.Helper.{Helper}
use Rattle.xdp_machine.specs.bpf_isa.declared.helper.Helper.TheVariants.{Lookup, Update, Delete, Time, Redirect}
use Rattle.xdp_machine.specs.bpf_isa.Helpers.{helper_of}
use Rattle.xdp_machine.specs.xdp_maps.declared.decl.MapDecl.{MapDecl}
use Rattle.kind_core.specs.declared.number.Number.{Number}
use Rattle.kind_core.specs.declared.kind.Kind.{Kind}
use Rattle.kind_core.specs.declared.kind.Kind.TheVariants.{Unset, Num, Packet, Var, End, Stack, Ctx, MapRef, Maybe, Entry, Stale, Mixed}
use Rattle.kind_core.specs.declared.base.Base.{Base}
use Rattle.kind_core.specs.declared.base.Bounds.{Bounds}
use Rattle.kind_core.specs.declared.kind.Kinds.{Kinds}
use Rattle.xdp_state.specs.declared.refusal.Why.{Why}
use Rattle.kind_core.specs.Kinds.{register, value_bytes, is_hash}
use Rattle.kind_core.specs.Tests.{◌>>=◌, readable, read_if, within, aligned, number_in}
use Rattle.kind_core.specs.Access.{loaded_plain, loaded_signed, stored, stored_at, to_slot, underlying, changed_at, comparand, compares}
use Rattle.kind_core.specs.Places.{accessed}
use Rattle.kind_core.proofs.TestLaws.{bind_passed}
use Rattle.xdp_machine.specs.Atomics.{fetches}
use Rattle.xdp_machine.specs.Memory.{bytes_in}
use Rattle.std.specs.Int.{w64, cast_unsigned}
use Rattle.std.proofs.lemmas.Bool.Decides.{nat_tests}
use Rattle.kind_core.specs.Calls.{prototype_of, called, called_as, answer_of, argument_fits, declared, change_of}
use Rattle.kind_core.specs.Profile.{profiled, in_profile, keeps_stack_end, reads_source, reads_destination}
use Rattle.kind_core.specs.Effects.{effect_of, effect_as, immediate, operand, alu, based, if_based}
use Rattle.kind_core.specs.Edges.{changed, changed_if}
use Rattle.edge_cells.specs.Widening.{AreFilled}
use Rattle.edge_cells.proofs.EdgeLaws.{set-along}
use Rattle.edge_cells.proofs.JumpKindLaws.{edge_of}
use Rattle.edge_cells.specs.NodeCells.Ends.{leads_on}
use Rattle.edge_cells.specs.NodeCells.Filling.{EdgesAreFilled, JumpsAreFilled}

-- kinds of which no slot is unset
record Fills (j : Kinds) : Type 0 where
  pub each : AreFilled j

kept : {k : Kinds} → AreFilled k → Fills k
kept h = record { each = h }

-- the kinds after what a test finds
bind_fills : {A : Type 0} (node : ℕ) (is_ref : Bool) (k : Kinds) (r : Result A Why) (f : A → _) → AreFilled k → ((a : A) → r ≡ Ok a → Fills (changed_if node is_ref false k (f a))) → Fills (changed_if node is_ref false k (r >>= f))
bind_fills node is_ref k (Ok a) f h all = all a refl
bind_fills node is_ref k (Err w) f h all = kept h

two_fill : {A C : Type 0} (node : ℕ) (is_ref : Bool) (k : Kinds) (r : Result A Why) (f : A → Result C Why) (g : C → _) → AreFilled k → ((a : A) → Fills (changed_if node is_ref false k (f a >>= g))) → Fills (changed_if node is_ref false k ((r >>= f) >>= g))
two_fill node is_ref k (Ok a) f g h all = all a
two_fill node is_ref k (Err w) f g h all = kept h

if_fills : {C : Type 0} (node : ℕ) (is_ref : Bool) (k : Kinds) (b : Bool) (r t : Result C Why) (g : C → _) → Fills (changed_if node is_ref false k (r >>= g)) → Fills (changed_if node is_ref false k (t >>= g))
    → Fills (changed_if node is_ref false k ((if b then r else t) >>= g))
if_fills node is_ref k true r t g x y = x
if_fills node is_ref k false r t g x y = y

either_fills : (node : ℕ) (is_ref : Bool) (k : Kinds) (b : Bool) (e f : _) → Fills (changed node is_ref false k e) → Fills (changed node is_ref false k f) → Fills (changed node is_ref false k (if b then e else f))
either_fills node is_ref k true e f x y = x
either_fills node is_ref k false e f x y = y

-- ---- calls

stale-if : (b : Bool) (x : Kind) → x ≢ Unset → (if b then Stale else x) ≢ Unset
stale-if true x h = λ e. absurd (cc e)
stale-if false x h = h

by_kind : (P : Kind → Type 0) → P Unset → ((n : Number) → P (Num n)) → ((o : ℕ) → P (Packet o)) → ((b : Base) (f : ℤ) → P (Var b f)) → P End → ((o : ℤ) → P (Stack o)) → P Ctx → ((q : ℕ) → P (MapRef q)) → ((q n : ℕ) → P (Maybe q n)) → ((q o : ℕ) → P (Entry q o)) → P Stale → P Mixed
    → (x : Kind) → P x
by_kind P a b c v d e f g h i j l Unset = a
by_kind P a b c v d e f g h i j l (Num n) = b n
by_kind P a b c v d e f g h i j l (Packet o) = c o
by_kind P a b c v d e f g h i j l (Var x z) = v x z
by_kind P a b c v d e f g h i j l End = d
by_kind P a b c v d e f g h i j l (Stack o) = e o
by_kind P a b c v d e f g h i j l Ctx = f
by_kind P a b c v d e f g h i j l (MapRef q) = g q
by_kind P a b c v d e f g h i j l (Maybe q n) = h q n
by_kind P a b c v d e f g h i j l (Entry q o) = i q o
by_kind P a b c v d e f g h i j l Stale = j
by_kind P a b c v d e f g h i j l Mixed = l

-- what is set stays set where each kind does
map_set : (f : Kind → Kind) → ((x : Kind) → x ≢ Unset → f x ≢ Unset) → (ks : List Kind) (i : ℕ) → get_or ks i Unset ≢ Unset → get_or (map_list f ks) i Unset ≢ Unset
map_set f all [] i h = h
map_set f all (x ∷ ks) zero h = all x h
map_set f all (x ∷ ks) (suc i) h = map_set f all ks i h

called_fills : (decls : List MapDecl) (node : ℕ) (is_ref : Bool) (k : Kinds) (h : Helper) → AreFilled k → Fills (changed_if node is_ref false k (answer_of decls k (prototype_of h).answer)) → Fills (changed_if node is_ref false k (called_as decls k (prototype_of h)))
called_fills decls node is_ref k h filled answer =
    bind_fills node is_ref k (argument_fits decls k (prototype_of h) 0) _ filled (λ a g.
    bind_fills node is_ref k (argument_fits decls k (prototype_of h) 1) _ filled (λ b q.
    bind_fills node is_ref k (argument_fits decls k (prototype_of h) 2) _ filled (λ c r.
    bind_fills node is_ref k (argument_fits decls k (prototype_of h) 3) _ filled (λ d s. bind_fills node is_ref k (argument_fits decls k (prototype_of h) 4) _ filled (λ e t. answer)))))

changes_fill : (decls : List MapDecl) (node : ℕ) (is_ref : Bool) (k : Kinds) (q : ℕ) → AreFilled k → Fills (changed_if node is_ref false k (Ok (change_of decls q)))
changes_fill decls node is_ref k q h =
    either_fills node is_ref k (is_hash decls q) _ _
    (record { each = λ s l. map_set _ (by_kind _ (λ n. n) (λ n o. o) (λ n o. o) (λ b f o. o) (λ o. o) (λ n o. o) (λ o. o) (λ n o. o) (λ r n o. stale-if (r == q) (Maybe r n) o) (λ r n o. stale-if (r == q) (Entry r n) o) (λ o. o) (λ o. o)) k.slots s (h s l) })
    (kept h)

after_change : (decls : List MapDecl) (node : ℕ) (is_ref : Bool) (k : Kinds) → AreFilled k → Fills (changed_if node is_ref false k (declared decls (register k 1) >>= λ q. Ok (change_of decls q)))
after_change decls node is_ref k h = bind_fills node is_ref k (declared decls (register k 1)) _ h (λ q e. changes_fill decls node is_ref k q h)

call_fills : (decls : List MapDecl) (node : ℕ) (is_ref : Bool) (k : Kinds) (id : ℤ) (o : Option Helper) → AreFilled k → Fills (changed_if node is_ref false k (called decls k id o))
call_fills decls node is_ref k id (Some Lookup) h = called_fills decls node is_ref k Lookup h (bind_fills node is_ref k (declared decls (register k 1)) _ h (λ q e. kept h))
call_fills decls node is_ref k id (Some Update) h = called_fills decls node is_ref k Update h (after_change decls node is_ref k h)
call_fills decls node is_ref k id (Some Delete) h = called_fills decls node is_ref k Delete h (after_change decls node is_ref k h)
call_fills decls node is_ref k id (Some Time) h = called_fills decls node is_ref k Time h (kept h)
call_fills decls node is_ref k id (Some Redirect) h = called_fills decls node is_ref k Redirect h (kept h)
call_fills decls node is_ref k id None h = kept h

-- ---- stores

slot_fills : (k : Kinds) (i : ℕ) (y : Kind) → AreFilled k → y ≢ Unset → (s : ℕ) → s < 64 → get_or (set_list k.slots i y) s Unset ≢ Unset
slot_fills k i y h set s l = by (i == s) refl (cases_lt i (length k.slots))
  where
    by : (t : Bool) → (i == s) ≡ t → (i < length k.slots) ⊎ (length k.slots ≤ i) → get_or (set_list k.slots i y) s Unset ≢ Unset
    by t e (inr past) = subst (λ (xs : List Kind). get_or xs s Unset ≢ Unset) (sym (set_past k.slots i y past)) (h s l)
    by true e (inl lt) = let same : i ≡ s = grind (arith, nat_tests) in
        subst (λ (j : ℕ). get_or (set_list k.slots i y) j Unset ≢ Unset) same (subst (λ (x : Kind). x ≢ Unset) (sym (get_or-set_same k.slots i y Unset lt)) set)
    by false e (inl lt) = let other : s ≢ i = grind (arith, nat_tests) in subst (λ (x : Kind). x ≢ Unset) (sym (get_or-set_other k.slots i s y Unset other)) (h s l)

taken_set : (size : Size) (a : ℕ) (old x y : Kind) → x ≢ Unset → to_slot size a old x ≡ Ok y → y ≢ Unset
taken_set Dw a old x y h e = let same : x ≡ y = cc e in subst (λ (z : Kind). z ≢ Unset) same h
taken_set size a old (Num n) y h e = let b = bind_passed (underlying old) _ y e in λ u. absurd (cc (b.2, u))
taken_set size a old x y h e = absurd (cc e)

store_at : (decls : List MapDecl) (node : ℕ) (is_ref : Bool) (k : Kinds) (base : Kind) (offset : ℤ) (size : Size) (x : Kind) → AreFilled k → x ≢ Unset
    → Fills (changed_if node is_ref false k (accessed decls k.checked base offset size >>= λ place. stored_at k.slots size x place))
store_at decls node is_ref k (Packet o) offset size x h set =
    two_fill node is_ref k (within (pos o +ℤ offset) (bytes_in size) 256) _ (λ place. stored_at k.slots size x place) h
    (λ a. if_fills node is_ref k (nat_le (a + bytes_in size) k.checked) _ _ (λ place. stored_at k.slots size x place) (bind_fills node is_ref k (number_in x) _ h (λ n e. kept h)) (kept h))
store_at decls node is_ref k (Var b f) offset size x h set =
    two_fill node is_ref k (within (pos b.bounds.low +ℤ (f +ℤ offset)) 0 256) _ (λ place. stored_at k.slots size x place) h
    (λ u. two_fill node is_ref k (within (pos b.bounds.high +ℤ (f +ℤ offset)) (bytes_in size) 256) _ (λ place. stored_at k.slots size x place) h
    (λ a. if_fills node is_ref k (int_le ((f +ℤ offset) +ℤ pos (bytes_in size)) b.checked) _ _ (λ place. stored_at k.slots size x place) (bind_fills node is_ref k (number_in x) _ h (λ n e. kept h)) (kept h)))
store_at decls node is_ref k (Stack o) offset size x h set =
    two_fill node is_ref k (aligned ((o +ℤ offset) +ℤ pos 512) (bytes_in size) 512) _ (λ place. stored_at k.slots size x place) h
    (λ a. bind_fills node is_ref k (to_slot size (a % 8) (get_or k.slots (a / 8) Unset) x) _ h (λ y e. record { each = slot_fills k (a / 8) y h (taken_set size (a % 8) (get_or k.slots (a / 8) Unset) x y set e) }))
store_at decls node is_ref k (Entry q o) offset size x h set =
    two_fill node is_ref k (aligned (pos o +ℤ offset) (bytes_in size) (value_bytes decls q)) _ (λ place. stored_at k.slots size x place) h (λ a. bind_fills node is_ref k (number_in x) _ h (λ n e. kept h))
store_at decls node is_ref k base offset size x h set = kept h

store_fills : (decls : List MapDecl) (node : ℕ) (is_ref : Bool) (k : Kinds) (base : Kind) (offset : ℤ) (size : Size) (x : Kind) → AreFilled k → x ≢ Unset → Fills (changed_if node is_ref false k (stored decls k base offset size x))
unfolding stored
store_fills decls node is_ref k base offset size x h set = store_at decls node is_ref k base offset size x h set

atomic_fills : (decls : List MapDecl) (node : ℕ) (is_ref : Bool) (k : Kinds) (i : Insn) (size : Size) (base : Kind) → AreFilled k → Fills (changed_if node is_ref false k (accessed decls k.checked base i.offset size >>= λ place. changed_at k i place))
atomic_fills decls node is_ref k i size (Packet o) h =
    two_fill node is_ref k (within (pos o +ℤ i.offset) (bytes_in size) 256) _ (λ place. changed_at k i place) h
    (λ a. if_fills node is_ref k (nat_le (a + bytes_in size) k.checked) _ _ (λ place. changed_at k i place) (kept h) (kept h))
atomic_fills decls node is_ref k i size (Var b f) h =
    two_fill node is_ref k (within (pos b.bounds.low +ℤ (f +ℤ i.offset)) 0 256) _ (λ place. changed_at k i place) h
    (λ u. two_fill node is_ref k (within (pos b.bounds.high +ℤ (f +ℤ i.offset)) (bytes_in size) 256) _ (λ place. changed_at k i place) h
    (λ a. if_fills node is_ref k (int_le ((f +ℤ i.offset) +ℤ pos (bytes_in size)) b.checked) _ _ (λ place. changed_at k i place) (kept h) (kept h)))
atomic_fills decls node is_ref k i size (Stack o) h = two_fill node is_ref k (aligned ((o +ℤ i.offset) +ℤ pos 512) (bytes_in size) 512) _ (λ place. changed_at k i place) h (λ a. kept h)
atomic_fills decls node is_ref k i size (Entry q o) h =
    two_fill node is_ref k (aligned (pos o +ℤ i.offset) (bytes_in size) (value_bytes decls q)) _ (λ place. changed_at k i place) h
    (λ a. bind_fills node is_ref k (number_in (register k i.src)) _ h (λ n e. bind_fills node is_ref k (comparand i k) _ h (λ u f.
    either_fills node is_ref k (compares i) _ _ (kept h) (either_fills node is_ref k (fetches (cast_unsigned w64 i.imm)) _ _ (kept h) (kept h)))))
atomic_fills decls node is_ref k i size base h = kept h

-- ---- by the operation

based_fills : (node : ℕ) (is_ref : Bool) (k : Kinds) (i : Insn) (o : Option Bounds) (r : _) → AreFilled k → Fills (changed_if node is_ref false k r) → Fills (changed_if node is_ref false k (if_based i o r))
based_fills node is_ref k i (Some bounds) r h f = kept h
based_fills node is_ref k i None r h f = f

fills_as : (decls : List MapDecl) (node : ℕ) (is_ref : Bool) (k : Kinds) (i : Insn) (op : Op) → leads_on op ≡ true → (reads_source op ≡ true → register k i.src ≢ Unset) → AreFilled k → Fills (changed_if node is_ref false k (effect_as decls k i op))
fills_as decls node is_ref k i (Ja w) t source h = absurd (cc t)
fills_as decls node is_ref k i (Jump w c s) t source h = absurd (cc t)
fills_as decls node is_ref k i Exit t source h = absurd (cc t)
fills_as decls node is_ref k i (Alu w c s) t source h =
    based_fills node is_ref k i (based k.offsets w c (register k i.dst) (operand k i s)) _ h (bind_fills node is_ref k (alu decls k i (Alu w c s)) _ h (λ x e. kept h))
fills_as decls node is_ref k i Call t source h = call_fills decls node is_ref k i.imm (helper_of i.imm) h
fills_as decls node is_ref k i LoadImm t source h = kept h
fills_as decls node is_ref k i (Load size) t source h = bind_fills node is_ref k (loaded_plain decls k (register k i.src) i.offset size) _ h (λ x e. kept h)
fills_as decls node is_ref k i (LoadSigned size) t source h = bind_fills node is_ref k (loaded_signed decls k (register k i.src) i.offset size) _ h (λ x e. kept h)
fills_as decls node is_ref k i (StoreImm size) t source h = store_fills decls node is_ref k (register k i.dst) i.offset size (immediate i) h (λ e. absurd (cc e))
fills_as decls node is_ref k i (Store size) t source h = store_fills decls node is_ref k (register k i.dst) i.offset size (register k i.src) h (source refl)
fills_as decls node is_ref k i (Atomic size) t source h = atomic_fills decls node is_ref k i size (register k i.dst) h
fills_as decls node is_ref k i (Abs size) t source h = kept h
fills_as decls node is_ref k i (Ind size) t source h = kept h
fills_as decls node is_ref k i op t source h = bind_fills node is_ref k (alu decls k i op) _ h (λ x e. kept h)

-- a register that is read is set
read_set : (x : Kind) (u : Unit {0}) → readable x ≡ Ok u → x ≢ Unset
read_set x u e = λ z. let bad : readable Unset ≡ Ok u = subst (λ (y : Kind). readable y ≡ Ok u) z e in absurd (cc bad)

source_set : (k : Kinds) (i : Insn) (u : Unit {0}) → profiled i k ≡ Ok u → reads_source i.op ≡ true → register k i.src ≢ Unset
source_set k i u e t =
    let a = bind_passed (in_profile i i.op) _ u e in
    let b = bind_passed (keeps_stack_end i) _ u a.2 in
    let c = bind_passed (read_if (reads_destination i.op) (register k i.dst)) _ u b.2 in
    let d = bind_passed (read_if (reads_source i.op) (register k i.src)) _ u c.2 in
    read_set (register k i.src) d.0 (subst (λ (b : Bool). read_if b (register k i.src) ≡ Ok d.0) t d.1)

pub edges_are_filled : EdgesAreFilled
unfolding effect_of
edges_are_filled decls k i node is_ref leads h =
    (bind_fills node is_ref k (profiled i k) _ h (λ u e. fills_as decls node is_ref k i i.op leads (source_set k i u e) h)).each

pub jumps_are_filled : JumpsAreFilled
jumps_are_filled decls k i node w c s taken is h = λ r l. set-along _ _ ((edge_of decls k i node w c s taken is).slots r) (h r l)
