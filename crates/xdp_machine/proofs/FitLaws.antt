-- The operation of a step fits the map that it is done on.
use Rattle.std.proofs.Common.{◌≡◌, ℕ, ◌+◌, ◌<◌, ◌≤◌, ℤ, ◌+ℤ◌, Bool, true, false, List, length, Some, None, refl, sym, ◌∙◌, ap, subst, arith}
use Rattle.std.specs.Prelude.{Option, slice_get}
use Rattle.std.proofs.lemmas.Option.{get_or_from_slice_get, slice_get_within}
use Rattle.std.specs.Int.{w64, cast_unsigned}
use Rattle.byteorder.specs.Endian.{little_bytes}
use Rattle.bpf_isa.specs.declared.operation.Op.{Op}
use Rattle.bpf_isa.specs.declared.operation.Op.TheVariants.{Call, Load, LoadSigned, StoreImm, Store, Atomic}
use Rattle.bpf_isa.specs.declared.operation.Size.{Size}
use Rattle.bpf_isa.specs.declared.operation.Size.TheVariants.{B, H, W, Dw}
use Rattle.bpf_isa.specs.declared.instruction.Insn.{Insn}
use Rattle.bpf_isa.specs.declared.helper.Helper.{Helper}
use Rattle.bpf_isa.specs.declared.helper.Helper.TheVariants.{Lookup, Update, Delete, Time, Redirect}
use Rattle.bpf_isa.specs.Helpers.{helper_of}
use Rattle.bpf_isa.specs.Text.{insn_at}
use Rattle.xdp_maps.specs.declared.change.Change.{Change}
use Rattle.xdp_maps.specs.declared.decl.MapDecl.{MapDecl}
use Rattle.xdp_maps.specs.Contents.{IsBytes}
use Rattle.xdp_maps.specs.State.{MapState, no_decl, decl_at}
use Rattle.xdp_maps.specs.Calls.{change_bytes}
use Rattle.xdp_maps.specs.Operations as map
use Rattle.xdp_maps.specs.Operations.{Operation, Fits}
use Rattle.xdp_maps.proofs.ByteLaws.{IsBytes-little_bytes}
use Rattle.xdp_machine.specs.Values.{Value, Number, Entry, number_in, map_in, ◌>>=◌}
use Rattle.xdp_machine.specs.State.{Code, Machine, register}
use Rattle.xdp_machine.specs.Memory.{bytes_in, aligned}
use Rattle.xdp_machine.specs.Atomics.{wide_of, kind_of, comparand, change_of}
use Rattle.xdp_machine.specs.Helpers.{region, under_key, updates, calls_on}
use Rattle.xdp_machine.specs.Touched.{accesses, stores, answers_old, atomics, operation_as, operation_at}
use Rattle.xdp_machine.specs.Ranges.{InRange, IsInRange}
use Rattle.xdp_machine.proofs.ChangeLaws.{some_inj, bind_inv}
use Rattle.xdp_machine.proofs.PartLaws.{register_in_range, aligned-within, IsBytes-region}

-- there is such a map, and the operation fits it
abbrev pub FitsIn : MapState → Option (ℕ × Operation) → Type 0
FitsIn s None = Unit {0}
FitsIn s (Some (q, op)) = (q < length s.decls) × Fits (decl_at s q) op

fits_next : {A : Type 0} (s : MapState) (o : Option A) (f : A → Option (ℕ × Operation)) → ((a : A) → o ≡ Some a → FitsIn s (f a)) → FitsIn s (o >>= f)
fits_next s None f k = tt
fits_next s (Some a) f k = k a refl

accesses_fit : (m : Machine) (base : Value) (offset : ℤ) (size : Size) (f : List ℕ → ℕ → Operation) → InRange m.maps.decls base
    → ((d : MapDecl) (key : List ℕ) (a : ℕ) → IsBytes d.key key → a + bytes_in size ≤ d.value → Fits d (f key a)) → FitsIn m.maps (accesses m.maps base offset size f)
accesses_fit m (Entry q key o) offset size f range fits =
    fits_next m.maps (slice_get m.maps.decls q) _ (λ d is.
    fits_next m.maps (aligned (o +ℤ offset) (bytes_in size) d.value) _ (λ a at. (
      range.0,
      (
          let same : decl_at m.maps q ≡ d = get_or_from_slice_get m.maps.decls q d no_decl is in
          let within : a + bytes_in size ≤ d.value = aligned-within (o +ℤ offset) (bytes_in size) d.value a at in
          fits (decl_at m.maps q) key a range.1 (subst (λ (x : MapDecl). a + bytes_in size ≤ x.value) (sym same) within)),
    )))
accesses_fit m base offset size f range fits = tt

stores_fit : (m : Machine) (base : Value) (offset : ℤ) (size : Size) (v : Value) → InRange m.maps.decls base → FitsIn m.maps (stores m base offset size v)
stores_fit m base offset size v range =
    fits_next m.maps (number_in v) _ (λ n _.
    accesses_fit m base offset size (λ key a. map.Store key a (little_bytes (bytes_in size) n)) range (λ d key a bytes within.
    let fit = IsBytes-little_bytes (bytes_in size) n in
    (bytes, (omega (arith, fit.len), fit.bytes_fit))))

-- the width of an atomic change is that of its access
width_of : (size : Size) (wide : Bool) → wide_of size ≡ Some wide → change_bytes wide ≡ bytes_in size
width_of W wide e = sym (ap change_bytes (some_inj false wide e))
width_of Dw wide e = sym (ap change_bytes (some_inj true wide e))
width_of B wide e = absurd (cc)
width_of H wide e = absurd (cc)

change_width : (rs : List Value) (i : Insn) (size : Size) (x : Change) → change_of rs i size ≡ Some x → change_bytes x.wide ≡ bytes_in size
change_width rs i size x e =
    bind_inv (wide_of size) _ x e (λ wide w h.
    bind_inv (kind_of (cast_unsigned w64 i.imm)) _ x h (λ kind _ k.
    bind_inv (number_in (register rs i.src)) _ x k (λ source _ l.
    bind_inv (comparand rs kind) _ x l (λ compare _ n.
    let whole : Change = record { kind = kind; wide = wide; source = source; compare = compare } in
    sym (ap (λ (c : Change). change_bytes c.wide) (some_inj whole x n)) ∙ width_of size wide w))))

atomics_fit : (m : Machine) (i : Insn) (size : Size) → IsInRange m → FitsIn m.maps (atomics m i size)
atomics_fit m i size range =
    fits_next m.maps (change_of m.registers i size) _ (λ x is.
    accesses_fit m (register m.registers i.dst) i.offset size (λ key a. map.Atomic key a x (answers_old x.kind (cast_unsigned w64 i.imm)))
    (register_in_range m.maps.decls m.registers i.dst range.registers)
    (λ d key a bytes within. (bytes, omega (arith, within, change_width m.registers i size x is))))

under_key_fits : (m : Machine) (f : MapDecl → List ℕ → Option Operation) → IsInRange m
    → ((d : MapDecl) (key : List ℕ) (op : Operation) → IsBytes d.key key → f d key ≡ Some op → Fits d op) → FitsIn m.maps (under_key m f)
under_key_fits m f range fits =
    fits_next m.maps (map_in (register m.registers 1)) _ (λ q _.
    fits_next m.maps (slice_get m.maps.decls q) _ (λ d is.
    fits_next m.maps (region m.stack m.frame d.key (register m.registers 2)) _ (λ key at.
    fits_next m.maps (f d key) _ (λ op asked. (
      slice_get_within m.maps.decls q d is,
      subst (λ (x : MapDecl). Fits x op) (sym (get_or_from_slice_get m.maps.decls q d no_decl is))
          (fits d key op (IsBytes-region m.stack m.frame d.key (register m.registers 2) key range.frame at) asked),
    )))))

updates_fit : (m : Machine) → IsInRange m → (d : MapDecl) (key : List ℕ) (op : Operation) → IsBytes d.key key → updates m d key ≡ Some op → Fits d op
updates_fit m range d key op bytes e =
    bind_inv (region m.stack m.frame d.value (register m.registers 3)) _ op e (λ value at h.
    bind_inv (number_in (register m.registers 4)) _ op h (λ flags _ k.
    subst (Fits d) (some_inj (map.Update key value flags) op k) (bytes, IsBytes-region m.stack m.frame d.value (register m.registers 3) value range.frame at)))

calls_fit : (m : Machine) (h : Option Helper) → IsInRange m → FitsIn m.maps (calls_on h m)
calls_fit m (Some Lookup) range = under_key_fits m (λ d key. Some (map.Lookup key)) range (λ d key op bytes e. subst (Fits d) (some_inj (map.Lookup key) op e) (bytes, tt))
calls_fit m (Some Update) range = under_key_fits m (updates m) range (updates_fit m range)
calls_fit m (Some Delete) range = under_key_fits m (λ d key. Some (map.Delete key)) range (λ d key op bytes e. subst (Fits d) (some_inj (map.Delete key) op e) (bytes, tt))
calls_fit m (Some Time) range = tt
calls_fit m (Some Redirect) range = tt
calls_fit m None range = tt

operation_fits : (m : Machine) (i : Insn) (op : Op) → IsInRange m → FitsIn m.maps (operation_as m i op)
operation_fits m i (Load size) range =
    accesses_fit m (register m.registers i.src) i.offset size (λ key a. map.Load key) (register_in_range m.maps.decls m.registers i.src range.registers) (λ d key a bytes within. (bytes, tt))
operation_fits m i (LoadSigned size) range =
    accesses_fit m (register m.registers i.src) i.offset size (λ key a. map.Load key) (register_in_range m.maps.decls m.registers i.src range.registers) (λ d key a bytes within. (bytes, tt))
operation_fits m i (StoreImm size) range =
    stores_fit m (register m.registers i.dst) i.offset size (Number (cast_unsigned w64 i.imm)) (register_in_range m.maps.decls m.registers i.dst range.registers)
operation_fits m i (Store size) range =
    stores_fit m (register m.registers i.dst) i.offset size (register m.registers i.src) (register_in_range m.maps.decls m.registers i.dst range.registers)
operation_fits m i (Atomic size) range = atomics_fit m i size range
operation_fits m i Call range = calls_fit m (helper_of i.imm) range
operation_fits m i op range = tt

pub fits_at : (code : Code) (m : Machine) → IsInRange m → FitsIn m.maps (operation_at code m)
fits_at code m range = fits_next m.maps (insn_at code.insns m.place) _ (λ i _. operation_fits m i i.op range)
