-- Atomic changes of entries.
use Rattle.std.proofs.Common.{◌≡◌, ℕ, ◌-◌, ◌%◌, ◌<◌, ◌==◌, ℤ, pos, ◌+ℤ◌, if◌then◌else◌, Bool, true, false, Some, None, List, slice_set, refl, sym, ◌∙◌, ap, subst, arith}
use Rattle.std.specs.Prelude.{slice_get}
use Rattle.std.proofs.lemmas.Bool.{eqb-true}
use Rattle.cell_core.specs.bpf_isa.declared.operation.Size.{Size}
use Rattle.cell_core.specs.bpf_isa.declared.operation.Size.TheVariants.{B, H, W, Dw}
use Rattle.cell_core.specs.bpf_isa.declared.operation.Op.TheVariants.{Atomic}
use Rattle.cell_core.specs.bpf_isa.declared.instruction.Insn.{Insn}
use Rattle.cell_core.specs.bpf_isa.Rules.{IsSized}
use Rattle.cell_core.specs.xdp_maps.declared.decl.MapDecl.{MapDecl}
use Rattle.cell_core.specs.xdp_maps.declared.change.Change.{Change}
use Rattle.cell_core.specs.xdp_maps.declared.change.ChangeKind.{ChangeKind}
use Rattle.cell_core.specs.xdp_maps.declared.change.ChangeKind.TheVariants.{Add, Or, And, Xor, Xchg, Cmpxchg}
use Rattle.cell_core.specs.xdp_maps.State.{MapState, contents_at, with_contents}
use Rattle.cell_core.specs.xdp_maps.Calls.{change_bytes, number_before, changed}
use Rattle.cell_core.specs.xdp_machine.Values.{Value, number_in, ◌>>=◌}
use Rattle.cell_core.specs.xdp_machine.Values as is
use Rattle.cell_core.specs.xdp_machine.State.{Machine, register, put, with_registers}
use Rattle.cell_core.specs.xdp_machine.Memory.{bytes_in, aligned}
use Rattle.cell_core.specs.xdp_machine.Atomics.{fetches, kind_of, wide_of, comparand, change_of, taking, changed_entry, changed_at, atomic}
use Rattle.cell_core.specs.xdp_machine.Touched.{answers_old}
use Rattle.kind_core.proofs.xdp_machine_laws.ChangeLaws.{some_inj}
use Rattle.kind_core.specs.Access.{compares}
use Rattle.kind_core.specs.Kinds.{value_bytes}
use Rattle.cell_core.specs.declared.site.Atomic.{Atomic as AtomicChange}
use Rattle.cell_core.specs.Sites as site
use Rattle.site_cells.specs.Changing.{code_of, is_wide, IsAtomic, taken_by}
use Rattle.site_cells.proofs.Slots.{bound}
use Rattle.site_cells.proofs.Entries.{Placed, IsInPlace, place_aligned}

-- ---- the parts of a change
pub record Parts (rs : List Value) (i : Insn) (size : Size) (x : Change) : Type 0 where
  pub wide : wide_of size ≡ Some x.wide
  pub kind : kind_of (code_of i) ≡ Some x.kind
  pub source : number_in (register rs i.src) ≡ Some x.source
  pub compare : comparand rs x.kind ≡ Some x.compare

parts_of : (rs : List Value) (i : Insn) (size : Size) (x : Change) → change_of rs i size ≡ Some x → Parts rs i size x
parts_of rs i size x e =
    let w = bound (wide_of size) _ x e in
    let k = bound (kind_of (code_of i)) _ x w.2 in
    let s = bound (number_in (register rs i.src)) _ x k.2 in
    let c = bound (comparand rs k.0) _ x s.2 in
    subst (Parts rs i size) (some_inj (record { kind = k.0; wide = w.0; source = s.0; compare = c.0 }) x c.2) (record { wide = w.1; kind = k.1; source = s.1; compare = c.1 })

-- ---- the step
pub record Changes (m n : Machine) (i : Insn) (size : Size) (q o : ℕ) (key : List ℕ) (x : Change) (d : MapDecl) (a old : ℕ) : Type 0 where
  pub change : change_of m.registers i size ≡ Some x
  pub parts : Parts m.registers i size x
  pub placed : Placed m q o i.offset size d a
  pub before : number_before (contents_at m.maps q) key a x ≡ Some old
  pub goes : with_registers (record m { maps = with_contents m.maps q (changed (contents_at m.maps q) key a x) }) (taking m.registers x.kind i old) ≡ Some n

pub entry_changed : (m n : Machine) (i : Insn) (size : Size) (q o : ℕ) (key : List ℕ) → register m.registers i.dst ≡ is.Entry q key (pos o) → atomic m i size ≡ Some n
    → (x : Change) × (d : MapDecl) × (a : ℕ) × (old : ℕ) × Changes m n i size q o key x d a old
entry_changed m n i size q o key base e =
    let x = bound (change_of m.registers i size) _ n e in
    let f : changed_at m i size (is.Entry q key (pos o)) i.offset x.0 ≡ Some n = sym (ap (λ (y : Value). changed_at m i size y i.offset x.0) base) ∙ x.2 in
    let g = bound (changed_entry m.maps q key (pos o +ℤ i.offset) size x.0) _ n f in
    let d = bound (slice_get m.maps.decls q) _ g.0 g.1 in
    let a = bound (aligned (pos o +ℤ i.offset) (bytes_in size) d.0.value) _ g.0 d.2 in
    let b = bound (number_before (contents_at m.maps q) key a.0 x.0) _ g.0 a.2 in
    let same = some_inj (b.0, with_contents m.maps q (changed (contents_at m.maps q) key a.0 x.0)) g.0 b.2 in (
      x.0,
      d.0,
      a.0,
      b.0,
      record {
        change = x.1;
        parts = parts_of m.registers i size x.0 x.1;
        placed = record { decl = d.1; at = a.1 };
        before = b.1;
        goes = subst (λ (y : ℕ × MapState). with_registers (record m { maps = y.1 }) (taking m.registers x.0.kind i y.0) ≡ Some n) (sym same) g.2;
      },
    )

-- ---- what compares
abbrev pub is_cmpxchg : ChangeKind → Bool
is_cmpxchg Cmpxchg = true
is_cmpxchg k = false

pub compares_is : (i : Insn) (kind : ChangeKind) → kind_of (code_of i) ≡ Some kind → is_cmpxchg kind ≡ compares i
compares_is i kind e = link (code_of i - code_of i % 2) e
  where
    first : (t a : ℕ) (k : ChangeKind) (g : Bool) → a < 240 → (t == a) ≡ true → (t == 240) ≡ g → is_cmpxchg k ≡ false → Some k ≡ Some kind → is_cmpxchg kind ≡ g
    first t a k true small at f other same = absurd (omega (arith, eqb-true t a at, eqb-true t 240 f, small))
    first t a k false small at f other same = ap is_cmpxchg (sym (some_inj k kind same)) ∙ other

    by : (t : ℕ) (a b c d f g : Bool) → (t == 0) ≡ a → (t == 64) ≡ b → (t == 80) ≡ c → (t == 160) ≡ d → (t == 224) ≡ f → (t == 240) ≡ g
        → (if a then Some Add else (if b then Some Or else (if c then Some And else (if d then Some Xor else (if f then Some Xchg else (if g then Some Cmpxchg else None)))))) ≡ Some kind → is_cmpxchg kind ≡ g
    by t true b c d f g ea eb ec ed ef eg h = first t 0 Add g (omega arith) ea eg refl h
    by t false true c d f g ea eb ec ed ef eg h = first t 64 Or g (omega arith) eb eg refl h
    by t false false true d f g ea eb ec ed ef eg h = first t 80 And g (omega arith) ec eg refl h
    by t false false false true f g ea eb ec ed ef eg h = first t 160 Xor g (omega arith) ed eg refl h
    by t false false false false true g ea eb ec ed ef eg h = first t 224 Xchg g (omega arith) ef eg refl h
    by t false false false false false true ea eb ec ed ef eg h = ap is_cmpxchg (sym (some_inj Cmpxchg kind h))
    by t false false false false false false ea eb ec ed ef eg h = absurd (cc)

    link : (t : ℕ) → (if t == 0 then Some Add else (if t == 64 then Some Or else (if t == 80 then Some And else (if t == 160 then Some Xor else (if t == 224 then Some Xchg else (if t == 240 then Some Cmpxchg else None)))))) ≡ Some kind
        → is_cmpxchg kind ≡ (t == 240)
    link t h = by t (t == 0) (t == 64) (t == 80) (t == 160) (t == 224) (t == 240) refl refl refl refl refl refl h

compared_is : (rs : List Value) (kind : ChangeKind) (y w : ℕ) (b : Bool) → is_cmpxchg kind ≡ b → comparand rs kind ≡ Some y → (b ≡ true → number_in (register rs 0) ≡ Some w) → (b ≡ false → w ≡ 0) → w ≡ y
compared_is rs Cmpxchg y w b k e one none = some_inj w y (sym (one (sym k)) ∙ e)
compared_is rs kind y w b k e one none = none (sym k) ∙ some_inj 0 y e

wide_is : (size : Size) (w : Bool) → wide_of size ≡ Some w → is_wide size ≡ w
wide_is W w e = some_inj false w e
wide_is Dw w e = some_inj true w e
wide_is size w e = absurd (cc)

pub wide_bytes : (size : Size) → IsSized (Atomic size) → change_bytes (is_wide size) ≡ bytes_in size
wide_bytes W h = refl
wide_bytes Dw h = refl
wide_bytes B h = absurd h
wide_bytes H h = absurd h

-- the bytes of a change are those of its access, at a multiple of which it begins
pub atomic_bytes : (i : Insn) (size : Size) (at : AtomicChange) → IsSized (Atomic size) → IsAtomic i size at → bytes_in size ≡ change_bytes at.wide
atomic_bytes i size at sized is = sym (ap change_bytes is.wide ∙ wide_bytes size sized)

pub atomic_aligned : (decls : List MapDecl) (i : Insn) (q o a : ℕ) (y z : ℤ) (size : Size) (at : AtomicChange) → IsSized (Atomic size) → IsAtomic i size at → IsInPlace decls q (pos o +ℤ z) size → y ≡ z
    → ((b : ℕ) → aligned (pos o +ℤ y) (bytes_in size) (value_bytes decls q) ≡ Some b → a ≡ b) → a % change_bytes at.wide ≡ 0
atomic_aligned decls i q o a y z size at sized is p offset place = subst (λ (n : ℕ). a % n ≡ 0) (atomic_bytes i size at sized is) (place_aligned decls q o a y z size p offset place)

-- the change of a site, by the values of its source and of what is compared
pub change_is : (i : Insn) (size : Size) (rs : List Value) (at : AtomicChange) (x : Change) (s c : ℕ) → IsAtomic i size at → Parts rs i size x → number_in (register rs i.src) ≡ Some s
    → (compares i ≡ true → number_in (register rs 0) ≡ Some c) → (compares i ≡ false → c ≡ 0) → site.change_of at s c ≡ x
change_is i size rs at x s c is parts source one none =
    rw (is.kind x.kind parts.kind, is.wide ∙ wide_is size x.wide parts.wide, some_inj s x.source (sym source ∙ parts.source), compared_is rs x.kind x.compare c (compares i) (compares_is i x.kind parts.kind) parts.compare one none) refl

pub fetch_is : (i : Insn) (size : Size) (rs : List Value) (at : AtomicChange) (x : Change) → IsAtomic i size at → Parts rs i size x → at.fetch ≡ answers_old x.kind (code_of i)
fetch_is i size rs at x is parts = is.fetch ∙ ap (λ (k : ChangeKind). answers_old k (code_of i)) (is.kind x.kind parts.kind)

-- one whose old number goes somewhere answers it
cmpxchg_is : (t : ℕ) → (t == 240) ≡ true
    → (if t == 0 then Some Add else (if t == 64 then Some Or else (if t == 80 then Some And else (if t == 160 then Some Xor else (if t == 224 then Some Xchg else (if t == 240 then Some Cmpxchg else None)))))) ≡ Some Cmpxchg
cmpxchg_is t e = subst (λ (n : ℕ). (if n == 0 then Some Add else (if n == 64 then Some Or else (if n == 80 then Some And else (if n == 160 then Some Xor else (if n == 224 then Some Xchg else (if n == 240 then Some Cmpxchg else None)))))) ≡ Some Cmpxchg)
    (sym (eqb-true t 240 e)) refl

fetched : (kind : ChangeKind) (code : ℕ) → fetches code ≡ true → answers_old kind code ≡ true
fetched Cmpxchg code e = refl
fetched kind code e = e

pub taken_answers : (i : Insn) (size : Size) (at : AtomicChange) (r : ℕ) → IsAtomic i size at → taken_by i ≡ Some r → at.fetch ≡ true
taken_answers i size at r is to = is.fetch ∙ by (compares i) (fetches (code_of i)) refl refl to
  where
    by : (b f : Bool) → compares i ≡ b → fetches (code_of i) ≡ f → (if b then Some 0 else (if f then Some i.src else None)) ≡ Some r → answers_old at.kind (code_of i) ≡ true
    by b true e h x = fetched at.kind (code_of i) h
    by true false e h x = ap (λ (k : ChangeKind). answers_old k (code_of i)) (is.kind Cmpxchg (cmpxchg_is (code_of i - code_of i % 2) e))
    by false false e h x = absurd (cc)

-- ---- where the old number goes
put_is : (m : Machine) (r : ℕ) (y : Value) (n : Machine) → with_registers m (put m.registers r y) ≡ Some n → n ≡ record m { registers = slice_set m.registers r y }
put_is m r y n e = by (r == 10) e
  where
    by : (t : Bool) → with_registers m (if t then None else Some (slice_set m.registers r y)) ≡ Some n → n ≡ record m { registers = slice_set m.registers r y }
    by true f = absurd cc
    by false f = cc

taking_as : (rs : List Value) (kind : ChangeKind) (i : Insn) (old : ℕ)
    → taking rs kind i old ≡ (if is_cmpxchg kind then put rs 0 (is.Number old) else (if fetches (code_of i) then put rs i.src (is.Number old) else Some rs))
taking_as rs Cmpxchg i old = refl
taking_as rs kind i old = refl

pub taken : (m n : Machine) (i : Insn) (kind : ChangeKind) (old r : ℕ) → is_cmpxchg kind ≡ compares i → taken_by i ≡ Some r → with_registers m (taking m.registers kind i old) ≡ Some n
    → n ≡ record m { registers = slice_set m.registers r (is.Number old) }
taken m n i kind old r same to e = by (compares i) (fetches (code_of i)) to
    (sym (ap (with_registers m) (taking_as m.registers kind i old ∙ ap (λ (b : Bool). if b then put m.registers 0 (is.Number old) else (if fetches (code_of i) then put m.registers i.src (is.Number old) else Some m.registers)) same)) ∙ e)
  where
    by : (b f : Bool) → (if b then Some 0 else (if f then Some i.src else None)) ≡ Some r
        → with_registers m (if b then put m.registers 0 (is.Number old) else (if f then put m.registers i.src (is.Number old) else Some m.registers)) ≡ Some n → n ≡ record m { registers = slice_set m.registers r (is.Number old) }
    by true f h g = put_is m 0 (is.Number old) n g ∙ ap (λ (j : ℕ). record m { registers = slice_set m.registers j (is.Number old) }) (some_inj 0 r h)
    by false true h g = put_is m i.src (is.Number old) n g ∙ ap (λ (j : ℕ). record m { registers = slice_set m.registers j (is.Number old) }) (some_inj i.src r h)
    by false false h g = absurd (cc)

pub not_taken : (m n : Machine) (i : Insn) (kind : ChangeKind) (old : ℕ) → is_cmpxchg kind ≡ compares i → taken_by i ≡ None → with_registers m (taking m.registers kind i old) ≡ Some n → n ≡ m
not_taken m n i kind old same to e = by (compares i) (fetches (code_of i)) to
    (sym (ap (with_registers m) (taking_as m.registers kind i old ∙ ap (λ (b : Bool). if b then put m.registers 0 (is.Number old) else (if fetches (code_of i) then put m.registers i.src (is.Number old) else Some m.registers)) same)) ∙ e)
  where
    by : (b f : Bool) → (if b then Some 0 else (if f then Some i.src else None)) ≡ None
        → with_registers m (if b then put m.registers 0 (is.Number old) else (if f then put m.registers i.src (is.Number old) else Some m.registers)) ≡ Some n → n ≡ m
    by true f h g = absurd (cc)
    by false true h g = absurd (cc)
    by false false h g = sym (some_inj m n g)
