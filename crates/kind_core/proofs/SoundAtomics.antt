-- Atomic changes are sound.
use Rattle.std.proofs.Common.{◌≡◌, ℕ, ◌+◌, ◌^◌, ◌==◌, ◌<◌, ◌≤◌, ◌&&◌, ◌||◌, inl, inr, ℤ, pos, ◌+ℤ◌, Bool, true, false, not, cond, nat_le, refl, sym, ap, ◌∙◌, subst, arith, Some, None, Result, Ok, Err, IfOk, List, length, slice_set, slice_get, is_some, IsTrue}
use Rattle.std.specs.Int.{w64, cast_unsigned}
use Rattle.xdp_machine.specs.bpf_isa.declared.operation.Size.{Size}
use Rattle.xdp_machine.specs.bpf_isa.declared.operation.Op.TheVariants.{Atomic}
use Rattle.xdp_machine.specs.bpf_isa.declared.instruction.Insn.{Insn}
use Rattle.xdp_machine.specs.bpf_isa.Rules.{Allows, rules_of, IsSized}
use Rattle.xdp_machine.specs.xdp_maps.State.{MapState, contents_at}
use Rattle.xdp_machine.specs.xdp_maps.Calls.{lookup_of, number_at, changed as entry_changed}
use Rattle.xdp_machine.specs.Values.{Value}
use Rattle.xdp_machine.specs.Values as is
use Rattle.xdp_machine.specs.State as machine
use Rattle.xdp_machine.specs.State.{Machine, with_registers}
use Rattle.xdp_machine.specs.Memory.{bytes_in}
use Rattle.xdp_machine.specs.Memory as memory
use Rattle.xdp_machine.specs.Atomics.{fetches}
use Rattle.xdp_machine.specs.Atomics as machine_atomics
use Rattle.kind_core.specs.NumberBounds.{any_number}
use Rattle.kind_core.specs.declared.kind.Kind.{Kind}
use Rattle.kind_core.specs.declared.kind.Kind.TheVariants.{Num, Packet, Var, Stack, Entry}
use Rattle.kind_core.specs.declared.kind.Kinds.{Kinds}
use Rattle.kind_core.specs.declared.places.Place.{Place}
use Rattle.kind_core.specs.declared.places.Place.TheVariants.{InPacket, InStack, InEntry}
use Rattle.kind_core.specs.declared.effects.Effect.{Effect}
use Rattle.kind_core.specs.declared.effects.Effect.TheVariants.{Nothing, Register}
use Rattle.xdp_state.specs.declared.refusal.Why.{Why}
use Rattle.xdp_state.specs.declared.refusal.Why.TheVariants as why
use Rattle.kind_core.specs.Kinds.{register, value_in, value_bytes}
use Rattle.kind_core.specs.Tests.{◌>>=◌, passed, number_in, aligned}
use Rattle.kind_core.specs.Places.{past_base, in_packet, in_stack, in_value, accessed}
use Rattle.kind_core.specs.Access.{compares, comparand, taking, changed_at}
use Rattle.kind_core.specs.Profile.{writes_destination, writes_source, in_profile, keeps_stack_end, registers_read, profiled}
use Rattle.kind_core.specs.Effects.{effect_as, effect_of}
use Rattle.kind_core.specs.Describes.{World, Describes, DescribesMachine}
use Rattle.kind_core.specs.Soundness.{Stands, AtomicsAreSound}
use Rattle.xdp_machine.proofs.NumberLaws.{change_number_word}
use Rattle.kind_core.proofs.Sound.{numbered, any_described}
use Rattle.kind_core.proofs.TestLaws.{bind_ok, bind_passed}
use Rattle.kind_core.proofs.SoundLoads.{in_packet_is, aligned_is, either_decl, some_bytes, entry_bytes}
use Rattle.kind_core.proofs.SoundBases.{past_base_is}
use Rattle.kind_core.proofs.SoundRegisters.{Leaves, set_described}
use Rattle.kind_core.proofs.Kept.{kept_machine, map_kept, with_value_keeps}
use Rattle.kind_core.proofs.MachineSteps.{some_of, aligned_at}
use Rattle.kind_core.proofs.MachineAtomics.{Code, code_of, width_of, change, comparand_there, change_there, taken, after_change, atomic_there}

-- only entries are changed so
refused_packet : (k : Kinds) (i : Insn) (P : Effect → Type 0) (r : Result Place Why) → ((p : Place) → r ≡ Ok p → InPacket ≡ p) → IfOk (r >>= (λ p. changed_at k i p)) P
refused_packet k i P (Ok InPacket) h = tt
refused_packet k i P (Ok (InStack a)) h = tt
refused_packet k i P (Ok InEntry) h = cc (h InEntry refl)
refused_packet k i P (Err e) h = tt

number_described : (w : World) (k : Kinds) (m : Machine) (maps : MapState) (r y : ℕ) → y < 2 ^ 64 → length k.registers ≡ length m.registers → DescribesMachine w k (record m { maps = maps })
    → DescribesMachine w (record k { registers = slice_set k.registers r (Num (any_number 64)) }) (record m { registers = slice_set m.registers r (is.Number y); maps = maps })
number_described w k m maps r y short len d = record {
  registers = set_described w maps k.registers m.registers r (Num (any_number 64)) (is.Number y) len d.registers (any_described 64 y short);
  slots = d.slots;
  checked = d.checked;
  frame = d.frame;
}

-- where the old number goes, by whether the change compares
taken_leaves : (w : World) (k : Kinds) (m : Machine) (i : Insn) (maps : MapState) (old : ℕ) (compare fetch : Bool) → old < 2 ^ 64 → length k.registers ≡ length m.registers → DescribesMachine w k (record m { maps = maps })
    → fetches (cast_unsigned w64 i.imm) ≡ fetch → (compare ≡ false → fetch ≡ true → (i.src == 10) ≡ false)
    → Leaves w k m false (with_registers (record m { maps = maps }) (taken compare m.registers i old)) (cond compare (Register 0 (Num (any_number 64))) (cond fetch (Register i.src (Num (any_number 64))) Nothing))
taken_leaves w k m i maps old true fetch short len d f h =
    (record m { registers = slice_set m.registers 0 (is.Number old); maps = maps }, refl, number_described w k m maps 0 old short len d)
taken_leaves w k m i maps old false true short len d f h = (
  record m { registers = slice_set m.registers i.src (is.Number old); maps = maps },
  ap (λ t. with_registers (record m { maps = maps }) (cond t (machine.put m.registers i.src (is.Number old)) (Some m.registers))) f
      ∙ ap (λ t. with_registers (record m { maps = maps }) (cond t None (Some (slice_set m.registers i.src (is.Number old))))) (h refl refl),
  number_described w k m maps i.src old short len d,
)
taken_leaves w k m i maps old false false short len d f h = (
  record m { maps = maps },
  ap (λ t. with_registers (record m { maps = maps }) (cond t (machine.put m.registers i.src (is.Number old)) (Some m.registers))) f,
  d,
)

-- R0 is a number where it is compared with
compared_number : (w : World) (k : Kinds) (m : Machine) (compare : Bool) (u : Unit {0}) → DescribesMachine w k m → cond compare (number_in (register k 0) >>= (λ _. passed)) passed ≡ Ok u
    → (y : ℕ) × (compare ≡ true → machine.register m.registers 0 ≡ is.Number y)
compared_number w k m true u d e =
    let b = bind_passed (number_in (register k 0)) (λ _. passed) u e in
    let v = numbered w m.maps (register k 0) b.0 (machine.register m.registers 0) b.1 (d.registers 0) in
    (v.0, λ h. v.1)
compared_number w k m false u d e = (0, λ h. cc)

entry_change : (w : World) (k : Kinds) (m : Machine) (i : Insn) (size : Size) (q : ℕ) (key : List ℕ) (o : ℕ) → Stands w k m → Code i.imm → (wide : Bool) × (machine_atomics.wide_of size ≡ Some wide)
    → (compares i ≡ false → fetches (cast_unsigned w64 i.imm) ≡ true → (i.src == 10) ≡ false)
    → IsTrue (is_some (lookup_of (contents_at m.maps q) key)) → machine.register m.registers i.dst ≡ is.Entry q key (pos o)
    → IfOk (in_value m.maps.decls q (pos o +ℤ i.offset) size >>= (λ p. changed_at k i p)) (Leaves w k m false (machine_atomics.atomic m i size))
entry_change w k m i size q key o st code wide r10 there base =
    let P : Effect → Type 0 = Leaves w k m false (machine_atomics.atomic m i size) in
    let z = pos o +ℤ i.offset in
    let c = contents_at m.maps q in
    bind_ok (in_value m.maps.decls q z size) (λ p. changed_at k i p) P (λ p e.
    let b = bind_passed (aligned z (bytes_in size) (value_bytes m.maps.decls q)) (λ a. Ok InEntry) p e in
    let at = aligned_is z (bytes_in size) (value_bytes m.maps.decls q) b.0 b.1 in
    let same : InEntry ≡ p = cc in
    subst (λ t. IfOk (changed_at k i t) P) same
    (bind_ok (number_in (register k i.src)) (λ _. comparand i k >>= (λ _. Ok (taking i))) P (λ n f.
    bind_ok (comparand i k) (λ _. Ok (taking i)) P (λ u g.
    let source = numbered w m.maps (register k i.src) n (machine.register m.registers i.src) f (st.described.registers i.src) in
    let zero_register = compared_number w k m (compares i) u st.described g in
    let compare = comparand_there m.registers code.kind zero_register.0 (λ h. zero_register.1 (code.compares ∙ h)) in
    let x = change code.kind wide.0 source.0 compare.0 in
    let value = some_of (lookup_of c key) there in
    elim (either_decl (slice_get m.maps.decls q)) [
      | inl none ↦
          let short : value_bytes m.maps.decls q ≡ 0 = ap value_in none in
          let some = some_bytes size in
          let room : b.0 + bytes_in size ≤ value_bytes m.maps.decls q = grind (arith, at.1) in
          absurd (omega arith)
      | inr (decl, e) ↦
          let len : value_bytes m.maps.decls q ≡ decl.value = ap value_in e in
          let inside : nat_le (b.0 + bytes_in size) decl.value ≡ true = subst (λ t. nat_le (b.0 + bytes_in size) t ≡ true) len (at.1) in
          let place : memory.aligned z (bytes_in size) decl.value ≡ Some b.0 = ap (λ t. memory.aligned t (bytes_in size) decl.value) (at.0) ∙ aligned_at b.0 (bytes_in size) decl.value inside (at.2) in
          let maps = after_change m q key b.0 x in
          let made = atomic_there m i size q key (pos o) x decl b.0 value.0
          (change_there m.registers i size wide.0 code.kind source.0 compare.0 (wide.1) code.is_it (source.1) (compare.1)) base e place (value.1) in
          let old = number_at wide.0 b.0 value.0 in
          let kept = kept_machine w k m maps (map_kept m.maps q (entry_changed c key b.0 x) (λ other h. with_value_keeps c key _ (lookup_of c key) other h)) st.described in
          subst (λ t. Leaves w k m false t (taking i)) (sym (made ∙ ap (λ t. with_registers (record m { maps = maps }) (taken t m.registers i old)) (sym code.compares)))
          (taken_leaves w k m i maps old (compares i) (fetches (cast_unsigned w64 i.imm)) (change_number_word wide.0 b.0 value.0 (entry_bytes m.maps q key value.0 decl st.range.maps e value.1)) st.registers kept refl r10)
    ]))))

is_in_packet : (checked : ℕ) (z : ℤ) (n : ℕ) (p : Place) → in_packet checked z n ≡ Ok p → InPacket ≡ p
is_in_packet checked z n p e = (in_packet_is checked z n p e).1

by_base : (w : World) (k : Kinds) (m : Machine) (i : Insn) (size : Size) (base : Kind) (v : Value) → machine.register m.registers i.dst ≡ v → Stands w k m → Code i.imm → (wide : Bool) × (machine_atomics.wide_of size ≡ Some wide)
    → (compares i ≡ false → fetches (cast_unsigned w64 i.imm) ≡ true → (i.src == 10) ≡ false) → Describes w m.maps base v
    → IfOk (accessed m.maps.decls k.checked base i.offset size >>= (λ p. changed_at k i p)) (Leaves w k m false (machine_atomics.atomic m i size))
by_base w k m i size (Packet o) v e st code wide r10 d =
    refused_packet k i _ (in_packet k.checked (pos o +ℤ i.offset) (bytes_in size)) (λ p h. is_in_packet k.checked (pos o +ℤ i.offset) (bytes_in size) p h)
by_base w k m i size (Var c f) v e st code wide r10 d =
    refused_packet k i _ (past_base c (f +ℤ i.offset) (bytes_in size)) (λ p h. (past_base_is w c f v i.offset (bytes_in size) p d h).is_it)
by_base w k m i size (Stack o) v e st code wide r10 d =
    bind_ok (in_stack (o +ℤ i.offset) size) (λ p. changed_at k i p) (Leaves w k m false (machine_atomics.atomic m i size)) (λ p h.
    let b = bind_passed (aligned ((o +ℤ i.offset) +ℤ pos 512) (bytes_in size) 512) (λ a. Ok (InStack a)) p h in
    let same : InStack b.0 ≡ p = cc in
    subst (λ t. IfOk (changed_at k i t) (Leaves w k m false (machine_atomics.atomic m i size))) same tt)
by_base w k m i size (Entry q o) v e st code wide r10 (key, there, d) = entry_change w k m i size q key o st code wide r10 there (e ∙ d)
by_base w k m i size base v e st code wide r10 d = tt

free : (a b c d : Bool) → cond ((false && a) || ((b && not c) && d)) (Err why.Instruction) passed ≡ passed → c ≡ false → b ≡ true → d ≡ false
free a true false true h e f = cc
free a true false false h e f = refl
free a b c d h e f = cc

pub atomics_are_sound : AtomicsAreSound
unfolding effect_of
atomics_are_sound w k m i size st legal op =
    let P : Effect → Type 0 = Leaves w k m false (machine_atomics.atomic m i size) in
    bind_ok (profiled i k) (λ _. effect_as m.maps.decls k i i.op) P (λ u e.
    let a = bind_passed (in_profile i i.op) (λ _. keeps_stack_end i >>= (λ _. registers_read i k)) u e in
    let b = bind_passed (keeps_stack_end i) (λ _. registers_read i k) u a.2 in
    let sized = subst IsSized op legal.size in
    let imm = subst (λ p. Allows (rules_of p).imm i.imm) op legal.imm in
    let free_of : cond ((writes_destination (Atomic size) && (i.dst == 10)) || ((fetches (cast_unsigned w64 i.imm) && not (compares i)) && (i.src == 10))) (Err why.Instruction) passed ≡ passed =
    subst (λ p. cond ((writes_destination p && (i.dst == 10)) || (writes_source i p && (i.src == 10))) (Err why.Instruction) passed ≡ passed) op b.1 in
    subst (λ p. IfOk (effect_as m.maps.decls k i p) P) (sym op)
    (by_base w k m i size (register k i.dst) (machine.register m.registers i.dst) refl st (code_of i.imm imm) (width_of size sized)
    (λ c f. free (i.dst == 10) (fetches (cast_unsigned w64 i.imm)) (compares i) (i.src == 10) free_of c f) (st.described.registers i.dst)))
