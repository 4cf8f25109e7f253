-- Entries that pointers lead to.
use Rattle.std.proofs.Common.{◌≡◌, ℕ, ◌+◌, ◌*◌, ◌%◌, ◌^◌, ◌<◌, ◌≤◌, ◌==◌, nat_le, ℤ, pos, negsuc, ◌+ℤ◌, if◌then◌else◌, Bool, true, false, Option, Some, None, Result, Ok, Err, List, length, get_or, slice_range, slice_index, refl, sym, ◌∙◌, ap, subst, arith}
use Rattle.std.specs.Prelude.{All, slice_get, IfSome}
use Rattle.std.proofs.lemmas.Bool.{eqb-true}
use Rattle.std.proofs.lemmas.Option.{slice_get_within}
use Rattle.byteorder.specs.Numbers.{little_from-lt}
use Rattle.cell_core.specs.bpf_isa.declared.operation.Size.{Size}
use Rattle.cell_core.specs.bpf_isa.declared.operation.Size.TheVariants.{B, H, W, Dw}
use Rattle.cell_core.specs.xdp_maps.declared.decl.MapDecl.{MapDecl}
use Rattle.cell_core.specs.xdp_maps.Contents.{IsBytes}
use Rattle.cell_core.specs.xdp_maps.State.{MapState, IsSound, decl_at, contents_at}
use Rattle.cell_core.specs.xdp_maps.Calls.{lookup_of}
use Rattle.cell_core.specs.xdp_maps.Operations.{Operation}
use Rattle.cell_core.specs.xdp_machine.Values.{Value, ◌>>=◌}
use Rattle.cell_core.specs.xdp_machine.Values as is
use Rattle.cell_core.specs.xdp_machine.State.{Machine, PacketIn, register}
use Rattle.cell_core.specs.xdp_machine.Memory.{bytes_in, number_at, aligned}
use Rattle.cell_core.specs.xdp_machine.Memory as machine
use Rattle.cell_core.specs.xdp_machine.Touched.{accesses}
use Rattle.kind_core.proofs.xdp_machine_laws.ChangeLaws.{some_inj}
use Rattle.kind_core.proofs.xdp_machine_laws.PartLaws.{at_or, bytes_in_slice, aligned-within}
use Rattle.kind_core.specs.declared.kind.Kind.{Kind}
use Rattle.kind_core.specs.declared.kind.Kind.TheVariants.{Entry}
use Rattle.kind_core.specs.declared.kind.Kinds.{Kinds}
use Rattle.xdp_state.specs.declared.refusal.Why.{Why}
use Rattle.kind_core.specs.Kinds as kinds
use Rattle.kind_core.specs.Kinds.{value_bytes}
use Rattle.kind_core.specs.Tests as tests
use Rattle.kind_core.proofs.TestLaws.{bind_passed}
use Rattle.operator_cells.specs.declared.held_cells.machine_cells.RegisterCells.{RegisterCells}
use Rattle.operator_cells.specs.declared.held_cells.machine_cells.Pointer.{Pointer}
use Rattle.operator_cells.specs.HeldCells.RegisterCells.{PointerView, pointer_of, pointed, IsPointer, Holds, Counts, AreInside, pointer_at, key_of}
use Rattle.operator_cells.specs.HeldCells.Carrying.{IsKnown}
use Rattle.site_cells.proofs.Adding.{pointed_count, pointer_seen}
use Rattle.site_cells.proofs.Slots.{bound}
use Rattle.site_cells.proofs.OneSite.{is_declared}

pub number_fits : (size : Size) (a : ℕ) (bytes : List ℕ) → All (λ b. b < 256) bytes → number_at size a bytes < 2 ^ (8 * bytes_in size)
number_fits size a bytes all = by size
  where
    below : (n i : ℕ) → slice_index (slice_range bytes a (a + n)) i < 256
    below n i = at_or (λ b. b < 256) (slice_range bytes a (a + n)) i 0 (bytes_in_slice bytes a (a + n) all) (omega arith)

    by : (s : Size) → number_at s a bytes < 2 ^ (8 * bytes_in s)
    by B = little_from-lt 0 1 (slice_range bytes a (a + 1)) (below 1)
    by H = little_from-lt 0 2 (slice_range bytes a (a + 2)) (below 2)
    by W = little_from-lt 0 4 (slice_range bytes a (a + 4)) (below 4)
    by Dw = little_from-lt 0 8 (slice_range bytes a (a + 8)) (below 8)

pub value_bytes_fit : (maps : MapState) (q : ℕ) (d : MapDecl) (key value : List ℕ) → IsSound maps → slice_get maps.decls q ≡ Some d → lookup_of (contents_at maps q) key ≡ Some value → All (λ b. b < 256) value
value_bytes_fit maps q d key value sound decl there =
    (subst (λ (r : Option (List ℕ)). IfSome r (IsBytes (decl_at maps q).value)) there ((sound.over q (slice_get_within maps.decls q d decl)).values key)).bytes_fit

-- a pointer to an entry, as a register holds it
pub entry_held : (decls : List MapDecl) (packet : PacketIn) (v : ℕ → ℕ) (ps : List PointerView) (node : ℕ) (k : Kinds) (h : RegisterCells) (m : Machine) (r q o : ℕ) → IsKnown decls packet v ps node k h m → r ≤ 10
    → kinds.register k r ≡ Entry q o → register m.registers r ≡ is.Entry q (key_of decls v q (pointer_at ps (slice_index h.registers r))) (pos o)
entry_held decls packet v ps node k h m r q o known l e =
    (subst (λ (y : Kind). Holds decls v ps y (slice_index h.registers r) (register m.registers r)) e (known.held.registers r l)).1

-- the declaration of the map, and where the access begins in the value
pub record Placed (m : Machine) (q o : ℕ) (offset : ℤ) (size : Size) (d : MapDecl) (a : ℕ) : Type 0 where
  pub decl : slice_get m.maps.decls q ≡ Some d
  pub at : aligned (pos o +ℤ offset) (bytes_in size) d.value ≡ Some a

pub entry_loaded : (m : Machine) (q o : ℕ) (key : List ℕ) (offset : ℤ) (size : Size) (y : Value) → machine.loaded m (is.Entry q key (pos o)) offset size ≡ Some y
    → (d : MapDecl) × (a : ℕ) × (value : List ℕ) × Placed m q o offset size d a × (lookup_of (contents_at m.maps q) key ≡ Some value) × (y ≡ is.Number (number_at size a value))
entry_loaded m q o key offset size y e =
    let d = bound (slice_get m.maps.decls q) _ y e in
    let a = bound (aligned (pos o +ℤ offset) (bytes_in size) d.0.value) _ y d.2 in
    let x = bound (lookup_of (contents_at m.maps q) key) (λ value. Some (is.Number (number_at size a.0 value))) y a.2 in
    (d.0, a.0, x.0, record { decl = d.1; at = a.1 }, x.1, sym (some_inj _ y x.2))

pub placed_operation : (m : Machine) (q o : ℕ) (key : List ℕ) (offset : ℤ) (size : Size) (d : MapDecl) (a : ℕ) (base : Value) (f : List ℕ → ℕ → Operation) → base ≡ is.Entry q key (pos o) → Placed m q o offset size d a
    → accesses m.maps base offset size f ≡ Some (q, f key a)
placed_operation m q o key offset size d a base f is p = rw (is, p.decl, p.at) refl

-- an access is in its place in the value of an entry
pub record IsInPlace (decls : List MapDecl) (q : ℕ) (z : ℤ) (size : Size) : Type 0 where
  pub place : ℕ
  pub at : aligned z (bytes_in size) (value_bytes decls q) ≡ Some place

-- an access that the tests let through is in its place
pub aligned_too : (z : ℤ) (n len a : ℕ) → tests.aligned z n len ≡ Ok a → aligned z n len ≡ Some a
aligned_too z n len a h =
    let b = bind_passed (tests.within z n len) _ a h in
    ap (λ (r : Option ℕ). r >>= (λ c. if c % n == 0 then Some c else None)) (by z b.0 b.1) ∙ some_if (b.0 % n == 0) b.0 a _ b.2
  where
    some_if : (t : Bool) (x y : ℕ) (w : Why) → ◌≡◌ {A = Result ℕ Why} (if t then Ok x else Err w) (Ok y) → ◌≡◌ {A = Option ℕ} (if t then Some x else None) (Some y)
    some_if true x y w e = cc
    some_if false x y w e = absurd (cc)

    by : (z : ℤ) (b : ℕ) → tests.within z n len ≡ Ok b → machine.inside z n len ≡ Some b
    by (pos c) b e = some_if (nat_le (c + n) len) c b _ e
    by (negsuc c) b e = absurd (cc)

some_bytes : (size : Size) → 1 ≤ bytes_in size
some_bytes B = omega arith
some_bytes H = omega arith
some_bytes W = omega arith
some_bytes Dw = omega arith

-- its map is declared, and it stays inside the value
pub place_fits : (decls : List MapDecl) (q a : ℕ) (z : ℤ) (size : Size) → IsInPlace decls q z size → ((b : ℕ) → aligned z (bytes_in size) (value_bytes decls q) ≡ Some b → a ≡ b)
    → (q < length decls) × (a + bytes_in size ≤ value_bytes decls q)
place_fits decls q a z size p at =
    let within = aligned-within z (bytes_in size) (value_bytes decls q) p.place p.at in
    let same = at p.place p.at in
    (is_declared decls q (bytes_in size) (some_bytes size) (omega (arith, within)), omega (arith, same, within))

-- where it begins, by an offset as it stands in memory, is a multiple of its bytes
pub place_aligned : (decls : List MapDecl) (q o a : ℕ) (y z : ℤ) (size : Size) → IsInPlace decls q (pos o +ℤ z) size → y ≡ z → ((b : ℕ) → aligned (pos o +ℤ y) (bytes_in size) (value_bytes decls q) ≡ Some b → a ≡ b) → a % bytes_in size ≡ 0
place_aligned decls q o a y z size p offset at =
    let e = at p.place (ap (λ (x : ℤ). aligned (pos o +ℤ x) (bytes_in size) (value_bytes decls q)) offset ∙ p.at) in
    let b = bound (machine.inside (pos o +ℤ z) (bytes_in size) (value_bytes decls q)) _ p.place p.at in
    subst (λ (n : ℕ). n % bytes_in size ≡ 0) (sym e) (by b.0 (b.0 % bytes_in size == 0) refl b.2)
  where
    by : (x : ℕ) (t : Bool) → (x % bytes_in size == 0) ≡ t → (if t then Some x else None) ≡ Some p.place → p.place % bytes_in size ≡ 0
    by x true e f = subst (λ (n : ℕ). n % bytes_in size ≡ 0) (some_inj x p.place f) (eqb-true (x % bytes_in size) 0 e)
    by x false e f = absurd (cc)

-- the number of a pointer in a register names one that is there
pub entry_pointer : (decls : List MapDecl) (n : ℕ) (ps : List PointerView) (k : Kinds) (h : RegisterCells) (r q o : ℕ) → AreInside decls n ps h k → r ≤ 10 → kinds.register k r ≡ Entry q o
    → (slice_index h.registers r < length ps) × IsPointer decls n q (pointer_at ps (slice_index h.registers r))
entry_pointer decls n ps k h r q o inside l e = subst (λ (x : Kind). Counts decls n ps x (slice_index h.registers r)) e (inside.registers r l)

-- the same in memory
module _ (ps : List Pointer) {decls : List MapDecl} {n : ℕ} {k : Kinds} {h : RegisterCells} {r q o : ℕ} (inside : AreInside decls n (pointed ps) h k) (small : r ≤ 10) (base : kinds.register k r ≡ Entry q o) where
  pub entry_index : slice_index h.registers r < length ps
  entry_index = omega (arith, (entry_pointer decls n (pointed ps) k h r q o inside small base).0, pointed_count ps (length ps) refl)

  pub entry_seen : {p : Pointer} → p ≡ get_or ps (slice_index h.registers r) p → pointer_of p ≡ pointer_at (pointed ps) (slice_index h.registers r)
  entry_seen {p} is = pointer_seen ps (slice_index h.registers r) p entry_index is

  pub entry_there : {p : Pointer} → p ≡ get_or ps (slice_index h.registers r) p → IsPointer decls n q (pointer_of p)
  entry_there {p} is = subst (IsPointer decls n q) (sym (entry_seen is)) (entry_pointer decls n (pointed ps) k h r q o inside small base).1
