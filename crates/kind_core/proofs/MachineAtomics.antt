-- Atomic changes of the machine where what they need is there.
use Rattle.std.proofs.Common.{◌≡◌, ℕ, ◌-◌, ◌%◌, ◌==◌, inl, inr, ℤ, pos, ◌+ℤ◌, Bool, true, false, cond, refl, sym, ap, ◌∙◌, subst, Option, Some, List, slice_get}
use Rattle.std.specs.Option.{option_map}
use Rattle.std.specs.Int.{w64, cast_unsigned}
use Rattle.xdp_machine.specs.bpf_isa.declared.operation.Size.{Size}
use Rattle.xdp_machine.specs.bpf_isa.declared.operation.Size.TheVariants.{B, H, W, Dw}
use Rattle.xdp_machine.specs.bpf_isa.declared.operation.Op.TheVariants.{Atomic}
use Rattle.xdp_machine.specs.bpf_isa.declared.instruction.Insn.{Insn}
use Rattle.xdp_machine.specs.bpf_isa.declared.fields.Rule.TheVariants.{Atomics}
use Rattle.xdp_machine.specs.bpf_isa.Rules.{Allows, IsSized}
use Rattle.xdp_machine.specs.xdp_maps.declared.change.ChangeKind.{ChangeKind}
use Rattle.xdp_machine.specs.xdp_maps.declared.change.ChangeKind.TheVariants.{Add, Or, And, Xor, Xchg, Cmpxchg}
use Rattle.xdp_machine.specs.xdp_maps.declared.change.Change.{Change}
use Rattle.xdp_machine.specs.xdp_maps.declared.decl.MapDecl.{MapDecl}
use Rattle.xdp_machine.specs.xdp_maps.State.{MapState, contents_at, with_contents}
use Rattle.xdp_machine.specs.xdp_maps.Calls.{lookup_of, number_at, number_before, changed}
use Rattle.xdp_machine.specs.Values.{Value, Number, Entry, number_in, ◌>>=◌}
use Rattle.xdp_machine.specs.State.{Machine, register, put, with_registers}
use Rattle.xdp_machine.specs.Memory.{bytes_in, aligned}
use Rattle.xdp_machine.specs.Atomics.{fetches, kind_of, wide_of, comparand, change_of, taking, changed_at, atomic}

abbrev pub is_compare : ChangeKind → Bool
is_compare Cmpxchg = true
is_compare kind = false

-- the kind of an atomic instruction of the table
pub record Code (imm : ℤ) : Type 0 where
  pub kind : ChangeKind
  pub is_it : kind_of (cast_unsigned w64 imm) ≡ Some kind
  pub compares : (cast_unsigned w64 imm - cast_unsigned w64 imm % 2 == 0xf0) ≡ is_compare kind

code : (imm at : ℤ) → imm ≡ at → Code at → Code imm
code imm at e c = subst Code (sym e) c

pub code_of : (imm : ℤ) → Allows Atomics imm → Code imm
code_of imm (inl e) = code imm (pos 0x00) e (record { kind = Add; is_it = refl; compares = refl })
code_of imm (inr (inl e)) = code imm (pos 0x01) e (record { kind = Add; is_it = refl; compares = refl })
code_of imm (inr (inr (inl e))) = code imm (pos 0x40) e (record { kind = Or; is_it = refl; compares = refl })
code_of imm (inr (inr (inr (inl e)))) = code imm (pos 0x41) e (record { kind = Or; is_it = refl; compares = refl })
code_of imm (inr (inr (inr (inr (inl e))))) = code imm (pos 0x50) e (record { kind = And; is_it = refl; compares = refl })
code_of imm (inr (inr (inr (inr (inr (inl e)))))) = code imm (pos 0x51) e (record { kind = And; is_it = refl; compares = refl })
code_of imm (inr (inr (inr (inr (inr (inr (inl e))))))) = code imm (pos 0xa0) e (record { kind = Xor; is_it = refl; compares = refl })
code_of imm (inr (inr (inr (inr (inr (inr (inr (inl e)))))))) = code imm (pos 0xa1) e (record { kind = Xor; is_it = refl; compares = refl })
code_of imm (inr (inr (inr (inr (inr (inr (inr (inr (inl e))))))))) = code imm (pos 0xe1) e (record { kind = Xchg; is_it = refl; compares = refl })
code_of imm (inr (inr (inr (inr (inr (inr (inr (inr (inr e))))))))) = code imm (pos 0xf1) e (record { kind = Cmpxchg; is_it = refl; compares = refl })

pub width_of : (size : Size) → IsSized (Atomic size) → (wide : Bool) × (wide_of size ≡ Some wide)
width_of B h = absurd h
width_of H h = absurd h
width_of W h = (false, refl)
width_of Dw h = (true, refl)

abbrev pub change : ChangeKind → Bool → ℕ → ℕ → Change
change kind wide source compare = record { kind = kind; wide = wide; source = source; compare = compare }

-- what is compared with
pub comparand_there : (registers : List Value) (kind : ChangeKind) (y : ℕ) → (is_compare kind ≡ true → register registers 0 ≡ Number y) → (c : ℕ) × (comparand registers kind ≡ Some c)
comparand_there registers Cmpxchg y h = (y, ap number_in (h refl))
comparand_there registers Add y h = (0, refl)
comparand_there registers Or y h = (0, refl)
comparand_there registers And y h = (0, refl)
comparand_there registers Xor y h = (0, refl)
comparand_there registers Xchg y h = (0, refl)

pub change_there : (registers : List Value) (i : Insn) (size : Size) (wide : Bool) (kind : ChangeKind) (source compare : ℕ) → wide_of size ≡ Some wide → kind_of (cast_unsigned w64 i.imm) ≡ Some kind
    → register registers i.src ≡ Number source → comparand registers kind ≡ Some compare → change_of registers i size ≡ Some (change kind wide source compare)
change_there registers i size wide kind source compare e f g h =
    ap (λ o. o >>= (λ a. kind_of (cast_unsigned w64 i.imm) >>= (λ b. number_in (register registers i.src) >>= (λ c. comparand registers b >>= (λ d. Some (change b a c d)))))) e
    ∙ ap (λ o. o >>= (λ b. number_in (register registers i.src) >>= (λ c. comparand registers b >>= (λ d. Some (change b wide c d))))) f
    ∙ ap (λ v. number_in v >>= (λ c. comparand registers kind >>= (λ d. Some (change kind wide c d)))) g
    ∙ ap (λ o. o >>= (λ d. Some (change kind wide source d))) h

-- where the old number goes
abbrev pub taken : Bool → List Value → Insn → ℕ → Option (List Value)
taken true registers i old = put registers 0 (Number old)
taken false registers i old = cond (fetches (cast_unsigned w64 i.imm)) (put registers i.src (Number old)) (Some registers)

taking_is : (registers : List Value) (kind : ChangeKind) (i : Insn) (old : ℕ) → taking registers kind i old ≡ taken (is_compare kind) registers i old
taking_is registers Cmpxchg i old = refl
taking_is registers Add i old = refl
taking_is registers Or i old = refl
taking_is registers And i old = refl
taking_is registers Xor i old = refl
taking_is registers Xchg i old = refl

abbrev pub after_change : Machine → ℕ → List ℕ → ℕ → Change → MapState
after_change m q key a x = with_contents m.maps q (changed (contents_at m.maps q) key a x)

-- an atomic change of an entry that is there
pub atomic_there : (m : Machine) (i : Insn) (size : Size) (q : ℕ) (key : List ℕ) (o : ℤ) (x : Change) (d : MapDecl) (a : ℕ) (value : List ℕ)
    → change_of m.registers i size ≡ Some x → register m.registers i.dst ≡ Entry q key o → slice_get m.maps.decls q ≡ Some d → aligned (o +ℤ i.offset) (bytes_in size) d.value ≡ Some a
    → lookup_of (contents_at m.maps q) key ≡ Some value
    → atomic m i size ≡ with_registers (record m { maps = after_change m q key a x }) (taken (is_compare x.kind) m.registers i (number_at x.wide a value))
atomic_there m i size q key o x d a value e f g h j =
    let z = o +ℤ i.offset in
    let c = contents_at m.maps q in
    let finish : ℕ × MapState → Option Machine = λ found. with_registers (record m { maps = found.1 }) (taking m.registers x.kind i found.0) in
    ap (λ p. p >>= changed_at m i size (register m.registers i.dst) i.offset) e
    ∙ ap (λ v. changed_at m i size v i.offset x) f
    ∙ ap (λ p. p >>= (λ b. aligned z (bytes_in size) b.value >>= (λ at. number_before c key at x >>= (λ old. Some (old, with_contents m.maps q (changed c key at x))))) >>= finish) g
    ∙ ap (λ p. p >>= (λ at. number_before c key at x >>= (λ old. Some (old, with_contents m.maps q (changed c key at x)))) >>= finish) h
    ∙ ap (λ p. option_map (number_at x.wide a) p >>= (λ old. Some (old, with_contents m.maps q (changed c key a x))) >>= finish) j
    ∙ ap (with_registers (record m { maps = after_change m q key a x })) (taking_is m.registers x.kind i (number_at x.wide a value))
