-- What is known of instructions on maps where they are allowed.
use Rattle.std.proofs.Common.{◌≡◌, ℕ, ◌*◌, ◌<◌, ℤ, pos, ◌+ℤ◌, nat_lt, if◌then◌else◌, Bool, true, false, Some, None, Result, Ok, Err, IfOk, List, length, refl, sym, ◌∙◌, ap, subst, arith, Option}
use Rattle.std.proofs.lemmas.Bool.Decides.{nat_tests}
use Rattle.cell_core.specs.bpf_isa.declared.operation.Size.{Size}
use Rattle.cell_core.specs.bpf_isa.declared.operation.Op.TheVariants.{Call, Load, LoadSigned, Atomic}
use Rattle.cell_core.specs.bpf_isa.declared.operation.Width.TheVariants.{Bits64}
use Rattle.kind_core.specs.Numbers.{any_bytes, number_extended}
use Rattle.cell_core.specs.bpf_isa.declared.instruction.Insn.{Insn}
use Rattle.cell_core.specs.bpf_isa.declared.helper.Helper.{Helper}
use Rattle.cell_core.specs.bpf_isa.declared.helper.Helper.TheVariants.{Lookup, Update, Delete}
use Rattle.cell_core.specs.bpf_isa.Helpers.{helper_of}
use Rattle.cell_core.specs.xdp_maps.declared.decl.MapDecl.{MapDecl}
use Rattle.cell_core.specs.xdp_machine.Memory.{bytes_in}
use Rattle.kind_core.specs.declared.number.Number.{Number}
use Rattle.kind_core.specs.NumberBounds.{any_number}
use Rattle.kind_core.specs.declared.kind.Kind.{Kind}
use Rattle.kind_core.specs.declared.kind.Kind.TheVariants.{Num, MapRef, Maybe, Entry}
use Rattle.kind_core.specs.declared.kind.Kinds.{Kinds}
use Rattle.xdp_state.specs.declared.refusal.Why.{Why}
use Rattle.xdp_state.specs.declared.refusal.Why.TheVariants as why
use Rattle.kind_core.specs.Kinds as kinds
use Rattle.kind_core.specs.Kinds.{key_bytes, value_bytes, with_register}
use Rattle.kind_core.specs.Calls as calls
use Rattle.kind_core.specs.Calls.{declared, called}
use Rattle.cell_core.specs.xdp_machine.Atomics.{fetches}
use Rattle.kind_core.proofs.xdp_machine_laws.ChangeLaws.{some_inj}
use Rattle.kind_core.specs.Access as access
use Rattle.kind_core.specs.Access.{compares}
use Rattle.kind_core.specs.Places as places
use Rattle.kind_core.specs.Profile as profile
use Rattle.kind_core.specs.Tests as tests
use Rattle.kind_core.specs.Tests.{◌>>=◌, passed}
use Rattle.kind_core.specs.Effects.{effect_of, effect_as, verdict}
use Rattle.kind_core.specs.Edges.{transferred, changed, changed_if}
use Rattle.kind_core.proofs.TestLaws.{bind_passed}
use Rattle.site_cells.specs.Changing.{code_of, taken_by}
use Rattle.site_cells.proofs.Entries.{IsInPlace, aligned_too}

is_map : (decls : List MapDecl) (x : Kind) {q : ℕ} → declared decls x ≡ Ok q → (x ≡ MapRef q) × (q < length decls)
is_map decls (MapRef r) e = by (nat_lt r (length decls)) refl e
  where
    by : {q : ℕ} (t : Bool) → nat_lt r (length decls) ≡ t → (if t then Ok r else Err why.Argument) ≡ Ok q → (MapRef r ≡ MapRef q) × (q < length decls)
    by {q} true t f = let same : r ≡ q = cc in (ap MapRef same, subst (λ (s : ℕ). s < length decls) same (grind (arith, nat_tests)))
    by {q} false t f = absurd (cc)
is_map decls x e = absurd (cc)

-- a call on the map in R1, under the key that R2 leads to
pub map_and_key : {E : Type 0} (decls : List MapDecl) (k : Kinds) (rest : Result E Why) (e : E)
    → ((declared decls (kinds.register k 1) >>= (λ q. passed)) >>= (λ a. (declared decls (kinds.register k 1) >>= (λ q. calls.region k (key_bytes decls q) (kinds.register k 2))) >>= (λ b. rest))) ≡ Ok e
    → (q : ℕ) × (kinds.register k 1 ≡ MapRef q) × (q < length decls) × (declared decls (kinds.register k 1) ≡ Ok q) × (calls.region k (key_bytes decls q) (kinds.register k 2) ≡ passed) × (rest ≡ Ok e)
map_and_key decls k rest e h =
    let one = bind_passed (declared decls (kinds.register k 1) >>= (λ q. passed)) _ e h in
    let d = bind_passed (declared decls (kinds.register k 1)) (λ q. passed) one.0 one.1 in
    let two = bind_passed (declared decls (kinds.register k 1) >>= (λ q. calls.region k (key_bytes decls q) (kinds.register k 2))) (λ b. rest) e one.2 in
    let r = bind_passed (declared decls (kinds.register k 1)) (λ q. calls.region k (key_bytes decls q) (kinds.register k 2)) two.0 two.1 in
    let m = is_map decls (kinds.register k 1) r.1 in
    (r.0, m.0, m.1, r.1, r.2, two.2)

pub allowed_call : (decls : List MapDecl) (k : Kinds) (i : Insn) (helper : Option Helper) → i.op ≡ Call → helper_of i.imm ≡ helper → verdict (effect_of decls k i) ≡ passed
    → (e : _) × (called decls k i.imm helper ≡ Ok e) × ((node : ℕ) (is_ref taken : Bool) → transferred decls k i node is_ref taken ≡ changed_if node is_ref taken k (Ok e))
unfolding effect_of
allowed_call decls k i helper op same allowed =
    let e = ok (effect_of decls k i) allowed in
    let b = bind_passed (profile.profiled i k) (λ u. effect_as decls k i i.op) e.0 e.1 in
    (e.0, sym (ap (effect_as decls k i) op ∙ ap (called decls k i.imm) same) ∙ b.2, λ node is_ref taken. ap (changed_if node is_ref taken k) e.1)
  where
    ok : (r : _) → verdict r ≡ passed → (e : _) × (r ≡ Ok e)
    ok (Ok e) h = (e, refl)
    ok (Err w) h = absurd (cc)

pub lookup_allowed : (decls : List MapDecl) (k : Kinds) (i : Insn) → i.op ≡ Call → helper_of i.imm ≡ Some Lookup → verdict (effect_of decls k i) ≡ passed
    → (q : ℕ) × (kinds.register k 1 ≡ MapRef q) × (q < length decls) × (calls.region k (key_bytes decls q) (kinds.register k 2) ≡ passed)
    × ((node : ℕ) (is_ref taken : Bool) → transferred decls k i node is_ref taken ≡ kinds.answering (Maybe q node) k)
lookup_allowed decls k i op helper allowed =
    let e = allowed_call decls k i (Some Lookup) op helper allowed in
    let f = map_and_key decls k _ e.0 e.1 in
    let a = bind_passed (declared decls (kinds.register k 1)) _ e.0 f.5 in
    let same : Ok f.0 ≡ Ok a.0 = sym f.3 ∙ a.1 in
    let q : f.0 ≡ a.0 = cc in
    (f.0, f.1, f.2, f.4, λ node is_ref taken. e.2 node is_ref taken ∙ ap (changed_if node is_ref taken k) (sym a.2) ∙ ap (λ (p : ℕ). kinds.answering (Maybe p node) k) (sym q))

-- ---- loads

-- what is found in an entry
entry_kind : (decls : List MapDecl) (k : Kinds) (q o : ℕ) (z : ℤ) (size : Size) → IfOk (access.loaded decls k (Entry q o) z size) (λ x. (Num (any_bytes size) ≡ x) × IsInPlace decls q (pos o +ℤ z) size)
unfolding access.loaded
entry_kind decls k q o z size = by (tests.aligned (pos o +ℤ z) (bytes_in size) (value_bytes decls q)) refl
  where
    by : (t : Result ℕ Why) → tests.aligned (pos o +ℤ z) (bytes_in size) (value_bytes decls q) ≡ t → IfOk (places.in_value decls q (pos o +ℤ z) size >>= (λ place. access.found k.slots size place)) (λ x. (Num (any_bytes size) ≡ x) × IsInPlace decls q (pos o +ℤ z) size)
    by (Ok a) e = rw e (refl, record { place = a; at = aligned_too (pos o +ℤ z) (bytes_in size) (value_bytes decls q) a e })
    by (Err w) e = rw e tt

-- where it is allowed it is in its place, and the destination gets a number
pub load_allowed : (decls : List MapDecl) (k : Kinds) (i : Insn) (size : Size) (q o : ℕ) → i.op ≡ Load size → kinds.register k i.src ≡ Entry q o → verdict (effect_of decls k i) ≡ passed
    → IsInPlace decls q (pos o +ℤ i.offset) size × ((node : ℕ) (is_ref taken : Bool) → transferred decls k i node is_ref taken ≡ with_register k i.dst (Num (any_bytes size)))
unfolding effect_of access.loaded_plain
load_allowed decls k i size q o op base allowed =
    let e = ok (effect_of decls k i) allowed in
    let b = bind_passed (profile.profiled i k) (λ u. effect_as decls k i i.op) e.0 e.1 in
    let r = bind_passed (access.loaded_plain decls k (kinds.register k i.src) i.offset size) _ e.0 (sym (ap (effect_as decls k i) op) ∙ b.2) in
    let l : access.loaded decls k (Entry q o) i.offset size ≡ Ok r.0 = sym (ap (λ (x : Kind). access.loaded_plain decls k x i.offset size) base) ∙ r.1 in
    let found = subst (λ (w : Result Kind Why). IfOk w (λ x. (Num (any_bytes size) ≡ x) × IsInPlace decls q (pos o +ℤ i.offset) size)) l (entry_kind decls k q o i.offset size) in
    (found.1, λ node is_ref taken. ap (changed_if node is_ref taken k) (e.1 ∙ sym r.2) ∙ ap (with_register k i.dst) (sym found.0))
  where
    ok : (r : _) → verdict r ≡ passed → (e : _) × (r ≡ Ok e)
    ok (Ok e) h = (e, refl)
    ok (Err w) h = absurd (cc)

-- the same where the sign is extended
pub signed_allowed : (decls : List MapDecl) (k : Kinds) (i : Insn) (size : Size) (q o : ℕ) → i.op ≡ LoadSigned size → kinds.register k i.src ≡ Entry q o → verdict (effect_of decls k i) ≡ passed
    → IsInPlace decls q (pos o +ℤ i.offset) size × ((node : ℕ) (is_ref taken : Bool) → transferred decls k i node is_ref taken ≡ with_register k i.dst (Num (number_extended Bits64 (8 * bytes_in size) (any_bytes size))))
unfolding effect_of access.loaded_signed
signed_allowed decls k i size q o op base allowed =
    let e = ok (effect_of decls k i) allowed in
    let b = bind_passed (profile.profiled i k) (λ u. effect_as decls k i i.op) e.0 e.1 in
    let r = bind_passed (access.loaded_signed decls k (kinds.register k i.src) i.offset size) _ e.0 (sym (ap (effect_as decls k i) op) ∙ b.2) in
    let l = bind_passed (access.loaded decls k (Entry q o) i.offset size) _ r.0 (sym (ap (λ (x : Kind). access.loaded_signed decls k x i.offset size) base) ∙ r.1) in
    let found = subst (λ (w : Result Kind Why). IfOk w (λ x. (Num (any_bytes size) ≡ x) × IsInPlace decls q (pos o +ℤ i.offset) size)) l.1 (entry_kind decls k q o i.offset size) in
    let same : Ok (Num (number_extended Bits64 (8 * bytes_in size) (any_bytes size))) ≡ Ok r.0 = ap (λ (x : Kind). tests.number_in x >>= (λ n. Ok (Num (number_extended Bits64 (8 * bytes_in size) n)))) found.0 ∙ l.2 in
    (found.1, λ node is_ref taken. ap (changed_if node is_ref taken k) (e.1 ∙ sym r.2) ∙ ap (with_register k i.dst) (sym (ok_same same)))
  where
    ok : (r : _) → verdict r ≡ passed → (e : _) × (r ≡ Ok e)
    ok (Ok e) h = (e, refl)
    ok (Err w) h = absurd (cc)

    ok_same : {a b : Kind} → ◌≡◌ {A = Result Kind Why} (Ok a) (Ok b) → a ≡ b
    ok_same h = cc

-- ---- stores

entry_store : (decls : List MapDecl) (k : Kinds) (q o : ℕ) (z : ℤ) (size : Size) (x : Kind)
    → IfOk (access.stored decls k (Entry q o) z size x) (λ e. (n : Number) × (x ≡ Num n) × IsInPlace decls q (pos o +ℤ z) size × ((node : ℕ) (is_ref taken : Bool) → changed node is_ref taken k e ≡ k))
unfolding access.stored
entry_store decls k q o z size x = by (tests.aligned (pos o +ℤ z) (bytes_in size) (value_bytes decls q)) x refl
  where
    by : (t : Result ℕ Why) (y : Kind) → tests.aligned (pos o +ℤ z) (bytes_in size) (value_bytes decls q) ≡ t
        → IfOk (places.in_value decls q (pos o +ℤ z) size >>= (λ place. access.stored_at k.slots size y place)) (λ e. (n : Number) × (y ≡ Num n) × IsInPlace decls q (pos o +ℤ z) size × ((node : ℕ) (is_ref taken : Bool) → changed node is_ref taken k e ≡ k))
    by (Ok a) (Num n) e = rw e (n, refl, record { place = a; at = aligned_too (pos o +ℤ z) (bytes_in size) (value_bytes decls q) a e }, λ node is_ref taken. refl)
    by (Ok a) y e = rw e tt
    by (Err w) y e = rw e tt

-- where it is allowed it is one of a number, in its place, and what is known stays
pub store_allowed : (decls : List MapDecl) (k : Kinds) (i : Insn) (size : Size) (q o : ℕ) (x : Kind) → effect_as decls k i i.op ≡ access.stored decls k (kinds.register k i.dst) i.offset size x → kinds.register k i.dst ≡ Entry q o
    → verdict (effect_of decls k i) ≡ passed → (n : Number) × (x ≡ Num n) × IsInPlace decls q (pos o +ℤ i.offset) size × ((node : ℕ) (is_ref taken : Bool) → transferred decls k i node is_ref taken ≡ k)
unfolding effect_of
store_allowed decls k i size q o x is base allowed =
    let e = ok (effect_of decls k i) allowed in
    let b = bind_passed (profile.profiled i k) (λ u. effect_as decls k i i.op) e.0 e.1 in
    let s : access.stored decls k (Entry q o) i.offset size x ≡ Ok e.0 = sym (ap (λ (y : Kind). access.stored decls k y i.offset size x) base) ∙ sym is ∙ b.2 in
    let f = subst (λ (r : Result _ Why). IfOk r (λ y. (n : Number) × (x ≡ Num n) × IsInPlace decls q (pos o +ℤ i.offset) size × ((node : ℕ) (is_ref taken : Bool) → changed node is_ref taken k y ≡ k))) s (entry_store decls k q o i.offset size x) in
    (f.0, f.1, f.2, λ node is_ref taken. ap (changed_if node is_ref taken k) e.1 ∙ f.3 node is_ref taken)
  where
    ok : (r : _) → verdict r ≡ passed → (e : _) × (r ≡ Ok e)
    ok (Ok e) h = (e, refl)
    ok (Err w) h = absurd (cc)

-- ---- changes

pub delete_allowed : (decls : List MapDecl) (k : Kinds) (i : Insn) → i.op ≡ Call → helper_of i.imm ≡ Some Delete → verdict (effect_of decls k i) ≡ passed
    → (q : ℕ) × (kinds.register k 1 ≡ MapRef q) × (q < length decls) × (calls.region k (key_bytes decls q) (kinds.register k 2) ≡ passed)
    × ((node : ℕ) (is_ref taken : Bool) → transferred decls k i node is_ref taken ≡ changed node is_ref taken k (calls.change_of decls q))
delete_allowed decls k i op helper allowed =
    let e = allowed_call decls k i (Some Delete) op helper allowed in
    let f = map_and_key decls k _ e.0 e.1 in
    let a = bind_passed (declared decls (kinds.register k 1)) _ e.0 f.5 in
    let same : Ok f.0 ≡ Ok a.0 = sym f.3 ∙ a.1 in
    let q : f.0 ≡ a.0 = cc in
    (f.0, f.1, f.2, f.4, λ node is_ref taken. e.2 node is_ref taken ∙ ap (changed_if node is_ref taken k) (sym a.2) ∙ ap (λ (p : ℕ). changed node is_ref taken k (calls.change_of decls p)) (sym q))

pub update_allowed : (decls : List MapDecl) (k : Kinds) (i : Insn) → i.op ≡ Call → helper_of i.imm ≡ Some Update → verdict (effect_of decls k i) ≡ passed
    → (q : ℕ) × (kinds.register k 1 ≡ MapRef q) × (q < length decls) × (calls.region k (key_bytes decls q) (kinds.register k 2) ≡ passed) × (calls.region k (value_bytes decls q) (kinds.register k 3) ≡ passed)
    × (x : Number) × (kinds.register k 4 ≡ Num x) × ((node : ℕ) (is_ref taken : Bool) → transferred decls k i node is_ref taken ≡ changed node is_ref taken k (calls.change_of decls q))
update_allowed decls k i op helper allowed =
    let e = allowed_call decls k i (Some Update) op helper allowed in
    let f = map_and_key decls k _ e.0 e.1 in
    let v = bind_passed (declared decls (kinds.register k 1) >>= (λ q. calls.region k (value_bytes decls q) (kinds.register k 3))) _ e.0 f.5 in
    let w = bind_passed (declared decls (kinds.register k 1)) (λ q. calls.region k (value_bytes decls q) (kinds.register k 3)) v.0 v.1 in
    let p = bind_passed (calls.plain (kinds.register k 4)) _ e.0 v.2 in
    let a = bind_passed (declared decls (kinds.register k 1)) _ e.0 p.2 in
    let number = plain (kinds.register k 4) p.1 in
    let one : Ok f.0 ≡ Ok w.0 = sym f.3 ∙ w.1 in
    let two : Ok f.0 ≡ Ok a.0 = sym f.3 ∙ a.1 in
    let q : f.0 ≡ w.0 = ok_same one in
    let r : f.0 ≡ a.0 = ok_same two in (
      f.0,
      f.1,
      f.2,
      f.4,
      ap (λ (j : ℕ). calls.region k (value_bytes decls j) (kinds.register k 3)) q ∙ w.2,
      number.0,
      number.1,
      λ node is_ref taken. e.2 node is_ref taken ∙ ap (changed_if node is_ref taken k) (sym a.2) ∙ ap (λ (j : ℕ). changed node is_ref taken k (calls.change_of decls j)) (sym r),
    )
  where
    ok_same : {a b : ℕ} → ◌≡◌ {A = Result ℕ Why} (Ok a) (Ok b) → a ≡ b
    ok_same h = cc

    plain : (x : Kind) {u : Unit {0}} → calls.plain x ≡ Ok u → (n : Number) × (x ≡ Num n)
    plain (Num n) h = (n, refl)
    plain x h = absurd (cc)

-- ---- atomic changes

-- an allowed one is of a number, over one where it compares, in its place, and the old number is known of where it goes
pub record AtomicAllowed (decls : List MapDecl) (k : Kinds) (i : Insn) (size : Size) (q o : ℕ) : Type 0 where
  pub number : Number
  pub source : kinds.register k i.src ≡ Num number
  pub compared : compares i ≡ true → (r : Number) × (kinds.register k 0 ≡ Num r)
  pub placed : IsInPlace decls q (pos o +ℤ i.offset) size
  pub taken : (node : ℕ) (is_ref edge : Bool) (r : ℕ) → taken_by i ≡ Some r → transferred decls k i node is_ref edge ≡ with_register k r (Num (any_number 64))
  pub not_taken : (node : ℕ) (is_ref edge : Bool) → taken_by i ≡ None → transferred decls k i node is_ref edge ≡ k

numbers_asked : (i : Insn) (y : Kind) (b : Bool) (z : Kind)
    → IfOk (tests.number_in y >>= (λ n. (if b then (tests.number_in z >>= (λ r. passed)) else passed) >>= (λ u. Ok (access.taking i))))
    (λ e. ((n : Number) × (y ≡ Num n)) × (b ≡ true → (r : Number) × (z ≡ Num r)) × (e ≡ access.taking i))
numbers_asked i (Num n) true (Num r) = ((n, refl), λ t. (r, refl), refl)
numbers_asked i (Num n) true z = tt
numbers_asked i (Num n) false z = ((n, refl), λ t. absurd (cc), refl)
numbers_asked i y b z = tt

both : {E : Type 0} (P : E → Type 0) {Q : Type 0} (r : Result E Why) → IfOk r P → Q → IfOk r (λ e. P e × Q)
both P (Ok e) p q = (p, q)
both P (Err w) p q = tt

entry_atomic : (decls : List MapDecl) (k : Kinds) (i : Insn) (size : Size) (q o : ℕ)
    → IfOk (places.accessed decls k.checked (Entry q o) i.offset size >>= (λ place. access.changed_at k i place))
    (λ e. (((n : Number) × (kinds.register k i.src ≡ Num n)) × (compares i ≡ true → (r : Number) × (kinds.register k 0 ≡ Num r)) × (e ≡ access.taking i)) × IsInPlace decls q (pos o +ℤ i.offset) size)
entry_atomic decls k i size q o = by (tests.aligned (pos o +ℤ i.offset) (bytes_in size) (value_bytes decls q)) refl
  where
    by : (t : Result ℕ Why) → tests.aligned (pos o +ℤ i.offset) (bytes_in size) (value_bytes decls q) ≡ t
        → IfOk (places.in_value decls q (pos o +ℤ i.offset) size >>= (λ place. access.changed_at k i place))
        (λ e. (((n : Number) × (kinds.register k i.src ≡ Num n)) × (compares i ≡ true → (r : Number) × (kinds.register k 0 ≡ Num r)) × (e ≡ access.taking i)) × IsInPlace decls q (pos o +ℤ i.offset) size)
    by (Ok a) e = rw e (both _ _ (numbers_asked i (kinds.register k i.src) (compares i) (kinds.register k 0)) (record { place = a; at = aligned_too (pos o +ℤ i.offset) (bytes_in size) (value_bytes decls q) a e }))
    by (Err w) e = rw e tt

pub atomic_allowed : (decls : List MapDecl) (k : Kinds) (i : Insn) (size : Size) (q o : ℕ) → i.op ≡ Atomic size → kinds.register k i.dst ≡ Entry q o → verdict (effect_of decls k i) ≡ passed → AtomicAllowed decls k i size q o
unfolding effect_of
atomic_allowed decls k i size q o op base allowed =
    let e = ok (effect_of decls k i) allowed in
    let b = bind_passed (profile.profiled i k) (λ u. effect_as decls k i i.op) e.0 e.1 in
    let s = sym (ap (λ (y : Kind). places.accessed decls k.checked y i.offset size >>= (λ place. access.changed_at k i place)) base) ∙ sym (ap (effect_as decls k i) op) ∙ b.2 in
    let f = subst (λ (r : Result _ Why). IfOk r (λ e. (((n : Number) × (kinds.register k i.src ≡ Num n)) × (compares i ≡ true → (r : Number) × (kinds.register k 0 ≡ Num r)) × (e ≡ access.taking i)) × IsInPlace decls q (pos o +ℤ i.offset) size)) s (entry_atomic decls k i size q o) in
    let becomes : (node : ℕ) (is_ref edge : Bool) → transferred decls k i node is_ref edge ≡ changed node is_ref edge k (access.taking i) = λ node is_ref edge. ap (changed_if node is_ref edge k) e.1 ∙ ap (changed node is_ref edge k) f.0.2 in
    record {
      number = f.0.0.0;
      source = f.0.0.1;
      compared = f.0.1;
      placed = f.1;
      taken = λ node is_ref edge r to. becomes node is_ref edge ∙ kinds_taken node is_ref edge r to;
      not_taken = λ node is_ref edge to. becomes node is_ref edge ∙ kinds_kept node is_ref edge to;
    }
  where
    ok : (r : _) → verdict r ≡ passed → (e : _) × (r ≡ Ok e)
    ok (Ok e) h = (e, refl)
    ok (Err w) h = absurd (cc)

    kinds_taken : (node : ℕ) (is_ref edge : Bool) (r : ℕ) → taken_by i ≡ Some r → changed node is_ref edge k (access.taking i) ≡ with_register k r (Num (any_number 64))
    kinds_taken node is_ref edge r to = by (compares i) (fetches (code_of i)) refl refl to
      where
        by : (b f : Bool) → compares i ≡ b → fetches (code_of i) ≡ f → (if b then Some 0 else (if f then Some i.src else None)) ≡ Some r → changed node is_ref edge k (access.taking i) ≡ with_register k r (Num (any_number 64))
        by true f eb ef h = rw eb (ap (λ (j : ℕ). with_register k j (Num (any_number 64))) (some_inj 0 r h))
        by false true eb ef h = rw (eb, ef) (ap (λ (j : ℕ). with_register k j (Num (any_number 64))) (some_inj i.src r h))
        by false false eb ef h = absurd (cc)

    kinds_kept : (node : ℕ) (is_ref edge : Bool) → taken_by i ≡ None → changed node is_ref edge k (access.taking i) ≡ k
    kinds_kept node is_ref edge to = by (compares i) (fetches (code_of i)) refl refl to
      where
        by : (b f : Bool) → compares i ≡ b → fetches (code_of i) ≡ f → (if b then Some 0 else (if f then Some i.src else None)) ≡ None → changed node is_ref edge k (access.taking i) ≡ k
        by true f eb ef h = absurd (cc)
        by false true eb ef h = absurd (cc)
        by false false eb ef h = rw (eb, ef) refl
