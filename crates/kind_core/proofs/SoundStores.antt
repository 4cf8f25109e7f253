-- Stores are sound.
use Rattle.std.proofs.Common.{◌≡◌, ℕ, ◌+◌, ◌/◌, ◌%◌, ◌^◌, ◌<◌, ◌≤◌, inl, inr, ℤ, pos, ◌+ℤ◌, Bool, true, nat_le, refl, sym, ap, ◌∙◌, subst, arith, Option, Some, Result, Ok, Err, IfOk, List, length, get_or, slice_set, slice_get, is_some, IsTrue}
use Rattle.std.specs.Int.{w64, cast_unsigned}
use Rattle.byteorder.specs.Endian.{little_bytes, little_number}
use Rattle.xdp_machine.specs.bpf_isa.declared.operation.Size.{Size}
use Rattle.xdp_machine.specs.bpf_isa.declared.operation.Size.TheVariants.{B, H, W, Dw}
use Rattle.xdp_machine.specs.bpf_isa.declared.operation.Op.{Op}
use Rattle.xdp_machine.specs.bpf_isa.declared.operation.Op.TheVariants.{StoreImm, Store}
use Rattle.xdp_machine.specs.bpf_isa.declared.instruction.Insn.{Insn}
use Rattle.xdp_machine.specs.xdp_maps.State.{MapState, contents_at, with_contents}
use Rattle.xdp_machine.specs.xdp_maps.Calls.{lookup_of, patched, stored as entry_stored}
use Rattle.xdp_machine.proofs.xdp_maps_laws.ByteLaws.{IsBytes-little_bytes, length-patched}
use Rattle.xdp_machine.specs.xdp_maps.declared.decl.MapDecl.{MapDecl}
use Rattle.xdp_machine.specs.Ranges.{InRange}
use Rattle.xdp_machine.proofs.PartLaws.{register_in_range}
use Rattle.xdp_machine.proofs.NumberLaws.{bytes_patched, bytes_word}
use Rattle.xdp_machine.specs.Values.{Value}
use Rattle.xdp_machine.specs.Values as is
use Rattle.xdp_machine.specs.State as machine
use Rattle.xdp_machine.specs.State.{Machine}
use Rattle.xdp_machine.specs.Memory.{bytes_in}
use Rattle.xdp_machine.specs.Memory as memory
use Rattle.xdp_machine.specs.Step as step
use Rattle.kind_core.specs.declared.number.Number.{Number}
use Rattle.kind_core.specs.declared.kind.Kind.{Kind}
use Rattle.kind_core.specs.declared.kind.Kind.TheVariants.{Unset, Num, Packet, Var, End, Stack, Ctx, MapRef, Maybe, Entry, Stale, Mixed}
use Rattle.kind_core.specs.declared.base.Base.{Base}
use Rattle.kind_core.specs.declared.kind.Kinds.{Kinds}
use Rattle.kind_core.specs.declared.places.Place.{Place}
use Rattle.kind_core.specs.declared.places.Place.TheVariants.{InPacket, InStack, InEntry}
use Rattle.kind_core.specs.declared.effects.Effect.{Effect}
use Rattle.kind_core.specs.declared.effects.Effect.TheVariants.{Nothing, Slot}
use Rattle.xdp_state.specs.declared.refusal.Why.{Why}
use Rattle.kind_core.specs.Numbers.{number_patched}
use Rattle.kind_core.specs.Kinds.{register, value_in, value_bytes}
use Rattle.kind_core.specs.Tests.{◌>>=◌, passed, readable, read_if, number_in, aligned}
use Rattle.kind_core.specs.Places.{past_base, in_packet, in_stack, in_value}
use Rattle.kind_core.specs.Access.{underlying, to_slot, stored_at, stored}
use Rattle.kind_core.specs.Profile.{in_profile, keeps_stack_end, reads_destination, reads_source, others_read, registers_read, profiled}
use Rattle.kind_core.specs.Effects.{immediate, effect_as, effect_of}
use Rattle.kind_core.specs.Describes.{World, Describes, IsFrom}
use Rattle.kind_core.specs.Soundness.{Stands, at_reference, is_store, StoresAreSound}
use Rattle.kind_core.proofs.BoundLaws.{NumberIs, any_is}
use Rattle.kind_core.proofs.SoundBases.{past_base_is}
use Rattle.kind_core.proofs.Sound.{number_of, of_number, numbered, two_is, held_is}
use Rattle.kind_core.proofs.TestLaws.{bind_ok, bind_passed}
use Rattle.kind_core.proofs.SoundLoads.{in_packet_is, aligned_is, either_decl, some_bytes}
use Rattle.kind_core.proofs.SoundRegisters.{Leaves}
use Rattle.kind_core.proofs.Kept.{kept_machine, frame_machine, slot_machine, map_kept, with_value_keeps}
use Rattle.kind_core.proofs.MachineSteps.{aligned_at, stored_packet, stored_stack, stored_entry}

length-little : (size : Size) (n : ℕ) → length (little_bytes (bytes_in size) n) ≡ bytes_in size
length-little B n = refl
length-little H n = refl
length-little W n = refl
length-little Dw n = refl

-- a store over bytes of the packet that are there
frame_store : (w : World) (k : Kinds) (m : Machine) (is_ref : Bool) (o offset : ℤ) (size : Size) (x : Kind) (v : Value) (p : Place) (a : ℕ) → Stands w k m → Describes w m.maps x v
    → InPacket ≡ p → o +ℤ offset ≡ pos a → nat_le (a + bytes_in size) (length m.frame) ≡ true
    → IfOk (stored_at k.slots size x p) (Leaves w k m is_ref (memory.stored m (is.Packet o) offset size v))
frame_store w k m is_ref o offset size x v p a st d same at there =
    let P : Effect → Type 0 = Leaves w k m is_ref (memory.stored m (is.Packet o) offset size v) in
    subst (λ q. IfOk (stored_at k.slots size x q) P) same
    (bind_ok (number_in x) (λ _. Ok Nothing) P (λ n f.
    let u = numbered w m.maps x n v f d in
    let bytes = little_bytes (bytes_in size) u.0 in
    let len = length-little size u.0 in
    let room : a + length bytes ≤ length m.frame = grind (arith, there, len) in (
      record m { frame = patched m.frame a bytes },
      ap (memory.stored m (is.Packet o) offset size) (u.1) ∙ stored_packet m o offset size u.0 a at there,
      frame_machine w k m (patched m.frame a bytes) (length-patched m.frame a bytes room) st.described,
    )))

packet_store : (w : World) (k : Kinds) (m : Machine) (is_ref : Bool) (o : ℕ) (offset : ℤ) (size : Size) (x : Kind) (v : Value) → Stands w k m → Describes w m.maps x v
    → IfOk (in_packet k.checked (pos o +ℤ offset) (bytes_in size) >>= (λ p. stored_at k.slots size x p)) (Leaves w k m is_ref (memory.stored m (is.Packet (pos o)) offset size v))
packet_store w k m is_ref o offset size x v st d =
    bind_ok (in_packet k.checked (pos o +ℤ offset) (bytes_in size)) (λ p. stored_at k.slots size x p) (Leaves w k m is_ref (memory.stored m (is.Packet (pos o)) offset size v)) (λ p e.
    let i = in_packet_is k.checked (pos o +ℤ offset) (bytes_in size) p e in
    let checked = st.described.checked in
    let there : nat_le (i.0 + bytes_in size) (length m.frame) ≡ true = grind (arith, i.3) in
    frame_store w k m is_ref (pos o) offset size x v p i.0 st d (i.1) (i.2) there)

base_store : (w : World) (k : Kinds) (m : Machine) (is_ref : Bool) (b : Base) (f offset : ℤ) (size : Size) (at : Value) (x : Kind) (v : Value) → Stands w k m → (h : IsFrom w b f at) → Describes w m.maps x v
    → IfOk (past_base b (f +ℤ offset) (bytes_in size) >>= (λ p. stored_at k.slots size x p)) (Leaves w k m is_ref (memory.stored m (is.Packet (pos h.place +ℤ f)) offset size v))
base_store w k m is_ref b f offset size at x v st h d =
    bind_ok (past_base b (f +ℤ offset) (bytes_in size)) (λ p. stored_at k.slots size x p) (Leaves w k m is_ref (memory.stored m (is.Packet (pos h.place +ℤ f)) offset size v)) (λ p e.
    let i = past_base_is w b f at offset (bytes_in size) p h e in
    frame_store w k m is_ref (pos h.place +ℤ f) offset size x v p i.at st d i.is_it i.place (subst (λ n. nat_le (i.at + bytes_in size) n ≡ true) (sym st.described.frame) i.there))

-- what a part of a slot is stored into
under_is : (w : World) (maps : MapState) (old : Kind) (v : Value) → memory.underlying v < 2 ^ 64 → Describes w maps old v → IfOk (underlying old) (λ n. NumberIs n (memory.underlying v))
under_is w maps Unset v short d = any_is 64 (memory.underlying v) short
under_is w maps (Num n) v short d = let u = number_of n v d in rw (u.1) (u.2)
under_is w maps Mixed v short d = tt
under_is w maps (Packet o) v short d = rw d refl
under_is w maps (Var b f) v short d = rw (d.value) refl
under_is w maps End v short d = rw d refl
under_is w maps (Stack o) v short d = rw d refl
under_is w maps Ctx v short d = rw d refl
under_is w maps (MapRef q) v short d = rw d refl
under_is w maps (Maybe q n) v short (before, gave, inl z) = rw z refl
under_is w maps (Maybe q n) v short (before, gave, inr (key, there, z)) = rw z refl
under_is w maps (Entry q o) v short (key, there, z) = rw z refl
under_is w maps Stale v short (inl z) = rw z refl
under_is w maps Stale v short (inr (q, key, o, z)) = rw z refl

-- a slot after a store into a part of it
abbrev patched_slot : Size → ℕ → ℕ → ℕ → ℕ
patched_slot size at old n = little_number 8 (patched (little_bytes 8 old) at (little_bytes (bytes_in size) n))

patched_below : (size : Size) (at old n : ℕ) → patched_slot size at old n < 2 ^ 64
patched_below size at old n =
    bytes_word (patched (little_bytes 8 old) at (little_bytes (bytes_in size) n))
    (bytes_patched (little_bytes 8 old) at (little_bytes (bytes_in size) n) (IsBytes-little_bytes 8 old).bytes_fit (IsBytes-little_bytes (bytes_in size) n).bytes_fit)

abbrev SlotGives : World → MapState → Option Value → Kind → Type 0
SlotGives w maps o k = (s : Value) × (o ≡ Some s) × Describes w maps k s

part_store : (w : World) (maps : MapState) (size : Size) (at : ℕ) (old : Kind) (before : Value) (n : Number) (y : ℕ) → memory.underlying before < 2 ^ 64 → Describes w maps old before → NumberIs n y
    → IfOk (underlying old >>= (λ m. Ok (Num (number_patched size at m n)))) (SlotGives w maps (Some (is.Number (patched_slot size at (memory.underlying before) y))))
part_store w maps size at old before n y short d h =
    over (underlying old) (under_is w maps old before short d)
  where
    over : (r : Result Number Why) → IfOk r (λ m. NumberIs m (memory.underlying before))
        → IfOk (r >>= (λ m. Ok (Num (number_patched size at m n)))) (SlotGives w maps (Some (is.Number (patched_slot size at (memory.underlying before) y))))
    over (Err e) g = tt
    over (Ok m) g = (is.Number (patched_slot size at (memory.underlying before) y), refl, of_number _ _ (two_is 64 (patched_slot size at) m n (memory.underlying before) y (patched_below size at (memory.underlying before) y) g h))

slot_store : (w : World) (maps : MapState) (size : Size) (at : ℕ) (old x : Kind) (before v : Value) → memory.underlying before < 2 ^ 64 → readable x ≡ passed → Describes w maps old before → Describes w maps x v
    → IfOk (to_slot size at old x) (SlotGives w maps (memory.to_slot size at before v))
slot_store w maps Dw at old x before v short r d e = (v, held_is w maps x v r e, e)
slot_store w maps B at old (Num n) before v short r d e = let u = number_of n v e in rw (u.1) (part_store w maps B at old before n u.0 short d u.2)
slot_store w maps H at old (Num n) before v short r d e = let u = number_of n v e in rw (u.1) (part_store w maps H at old before n u.0 short d u.2)
slot_store w maps W at old (Num n) before v short r d e = let u = number_of n v e in rw (u.1) (part_store w maps W at old before n u.0 short d u.2)
slot_store w maps size at old x before v short r d e = tt

-- what lies under a value in range
underlying_below : (decls : List MapDecl) (v : Value) → InRange decls v → memory.underlying v < 2 ^ 64
underlying_below decls (is.Number n) h = h
underlying_below decls v h = omega arith

stack_store : (w : World) (k : Kinds) (m : Machine) (is_ref : Bool) (o offset : ℤ) (size : Size) (x : Kind) (v : Value) → Stands w k m → readable x ≡ passed → Describes w m.maps x v
    → IfOk (in_stack (o +ℤ offset) size >>= (λ p. stored_at k.slots size x p)) (Leaves w k m is_ref (memory.stored m (is.Stack o) offset size v))
stack_store w k m is_ref o offset size x v st r d =
    let P : Effect → Type 0 = Leaves w k m is_ref (memory.stored m (is.Stack o) offset size v) in
    let z = o +ℤ offset in
    bind_ok (in_stack z size) (λ p. stored_at k.slots size x p) P (λ p e.
    let b = bind_passed (aligned (z +ℤ pos 512) (bytes_in size) 512) (λ a. Ok (InStack a)) p e in
    let i = aligned_is (z +ℤ pos 512) (bytes_in size) 512 b.0 b.1 in
    let same : InStack b.0 ≡ p = cc in
    let at : memory.in_stack z (bytes_in size) ≡ Some b.0 = ap (λ y. memory.aligned y (bytes_in size) 512) (i.0) ∙ aligned_at b.0 (bytes_in size) 512 (i.1) (i.2) in
    subst (λ q. IfOk (stored_at k.slots size x q) P) same
    (bind_ok (to_slot size (b.0 % 8) (get_or k.slots (b.0 / 8) Unset) x) (λ y. Ok (Slot (b.0 / 8) y)) P (λ y f.
    let g = subst (λ t. IfOk t (SlotGives w m.maps (memory.to_slot size (b.0 % 8) (get_or m.stack (b.0 / 8) is.Unset) v))) f
    (slot_store w m.maps size (b.0 % 8) (get_or k.slots (b.0 / 8) Unset) x (get_or m.stack (b.0 / 8) is.Unset) v (underlying_below m.maps.decls (get_or m.stack (b.0 / 8) is.Unset) (register_in_range m.maps.decls m.stack (b.0 / 8) st.range.stack)) r (st.described.slots (b.0 / 8)) d) in (
      record m { stack = slice_set m.stack (b.0 / 8) g.0 },
      stored_stack m o offset size v b.0 g.0 at (g.1),
      slot_machine w k m (b.0 / 8) y g.0 st (g.2),
    ))))

entry_store : (w : World) (k : Kinds) (m : Machine) (is_ref : Bool) (q : ℕ) (key : List ℕ) (o : ℕ) (offset : ℤ) (size : Size) (x : Kind) (v : Value) → Stands w k m → Describes w m.maps x v
    → IsTrue (is_some (lookup_of (contents_at m.maps q) key))
    → IfOk (in_value m.maps.decls q (pos o +ℤ offset) size >>= (λ p. stored_at k.slots size x p)) (Leaves w k m is_ref (memory.stored m (is.Entry q key (pos o)) offset size v))
entry_store w k m is_ref q key o offset size x v st d there =
    let P : Effect → Type 0 = Leaves w k m is_ref (memory.stored m (is.Entry q key (pos o)) offset size v) in
    let z = pos o +ℤ offset in
    let c = contents_at m.maps q in
    bind_ok (in_value m.maps.decls q z size) (λ p. stored_at k.slots size x p) P (λ p e.
    let b = bind_passed (aligned z (bytes_in size) (value_bytes m.maps.decls q)) (λ a. Ok InEntry) p e in
    let i = aligned_is z (bytes_in size) (value_bytes m.maps.decls q) b.0 b.1 in
    let same : InEntry ≡ p = cc in
    subst (λ t. IfOk (stored_at k.slots size x t) P) same
    (bind_ok (number_in x) (λ _. Ok Nothing) P (λ n f.
    let u = numbered w m.maps x n v f d in
    elim (either_decl (slice_get m.maps.decls q)) [
      | inl none ↦
          let short : value_bytes m.maps.decls q ≡ 0 = ap value_in none in
          let some = some_bytes size in
          let room : b.0 + bytes_in size ≤ value_bytes m.maps.decls q = grind (arith, i.1) in
          absurd (omega arith)
      | inr (decl, e) ↦
          let len : value_bytes m.maps.decls q ≡ decl.value = ap value_in e in
          let inside : nat_le (b.0 + bytes_in size) decl.value ≡ true = subst (λ t. nat_le (b.0 + bytes_in size) t ≡ true) len (i.1) in
          let at : memory.aligned z (bytes_in size) decl.value ≡ Some b.0 = ap (λ t. memory.aligned t (bytes_in size) decl.value) (i.0) ∙ aligned_at b.0 (bytes_in size) decl.value inside (i.2) in
          let after = with_contents m.maps q (entry_stored c key b.0 (little_bytes (bytes_in size) u.0)) in (
            record m { maps = after },
            ap (memory.stored m (is.Entry q key (pos o)) offset size) (u.1) ∙ stored_entry m q key (pos o) offset size u.0 decl b.0 e at there,
            kept_machine w k m after (map_kept m.maps q (entry_stored c key b.0 (little_bytes (bytes_in size) u.0)) (λ other h. with_value_keeps c key _ (lookup_of c key) other h)) st.described,
          )
    ])))

stored_sound : (w : World) (k : Kinds) (m : Machine) (is_ref : Bool) (base : Kind) (b : Value) (offset : ℤ) (size : Size) (x : Kind) (v : Value)
    → Stands w k m → Describes w m.maps base b → readable x ≡ passed → Describes w m.maps x v
    → IfOk (stored m.maps.decls k base offset size x) (Leaves w k m is_ref (memory.stored m b offset size v))
unfolding stored
stored_sound w k m is_ref (Packet o) b offset size x v st h r d = rw h (packet_store w k m is_ref o offset size x v st d)
stored_sound w k m is_ref (Var c f) b offset size x v st h r d = rw (h.value) (base_store w k m is_ref c f offset size b x v st h d)
stored_sound w k m is_ref (Stack o) b offset size x v st h r d = rw h (stack_store w k m is_ref o offset size x v st r d)
stored_sound w k m is_ref (Entry q o) b offset size x v st (key, there, h) r d = rw h (entry_store w k m is_ref q key o offset size x v st d there)
stored_sound w k m is_ref base b offset size x v st h r d = tt

by_operation : (refs : List ℕ) (w : World) (k : Kinds) (m : Machine) (i : Insn) (op : Op) → Stands w k m → is_store op ≡ true
    → read_if (reads_source op) (register k i.src) ≡ passed
    → IfOk (effect_as m.maps.decls k i op) (Leaves w k m (at_reference refs m) (step.effect refs m i op))
by_operation refs w k m i (StoreImm size) st e r =
    stored_sound w k m (at_reference refs m) (register k i.dst) (machine.register m.registers i.dst) i.offset size (immediate i) (is.Number (cast_unsigned w64 i.imm)) st (st.described.registers i.dst) refl refl
by_operation refs w k m i (Store size) st e r =
    stored_sound w k m (at_reference refs m) (register k i.dst) (machine.register m.registers i.dst) i.offset size (register k i.src) (machine.register m.registers i.src) st (st.described.registers i.dst) r (st.described.registers i.src)
by_operation refs w k m i op st e r = cc

pub stores_are_sound : StoresAreSound
unfolding effect_of
stores_are_sound refs w k m i st store =
    bind_ok (profiled i k) (λ _. effect_as m.maps.decls k i i.op) (Leaves w k m (at_reference refs m) (step.effect refs m i i.op)) (λ u e.
    let a = bind_passed (in_profile i i.op) (λ _. keeps_stack_end i >>= (λ _. registers_read i k)) u e in
    let b = bind_passed (keeps_stack_end i) (λ _. registers_read i k) u a.2 in
    let c = bind_passed (read_if (reads_destination i.op) (register k i.dst)) (λ _. read_if (reads_source i.op) (register k i.src) >>= (λ _. others_read i k i.op)) u b.2 in
    let d = bind_passed (read_if (reads_source i.op) (register k i.src)) (λ _. others_read i k i.op) u c.2 in
    by_operation refs w k m i i.op st store d.1)
