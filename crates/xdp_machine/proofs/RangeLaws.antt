-- A step keeps what a machine holds in range.
use Rattle.std.proofs.Common.{◌≡◌, ℕ, zero, suc, ◌+◌, ◌-◌, ◌*◌, ◌/◌, ◌%◌, ◌^◌, ◌<◌, ℤ, pos, negsuc, ◌+ℤ◌, neg_ℤ, Bool, true, false, List, ◌∷◌, length, drop, get_or, set, Some, None, IfSome, refl, sym, ◌∙◌, ap, subst, arith}
use Rattle.std.specs.Option.{option_map}
use Rattle.std.specs.Prelude.{Option, All, if◌then◌else◌, is_some, slice_get, unsigned_abs, int_le, int_lt, ◌==◌, ◌&&◌}
use Rattle.std.specs.Ordering.{int_eq}
use Rattle.std.specs.List.{list_any}
use Rattle.std.specs.Int.{w64, cast_unsigned}
use Rattle.std.specs.Int.RustNames.{FitsSigned}
use Rattle.std.specs.Int.Signed.{mag}
use Rattle.std.proofs.lemmas.Nat.{mod_below}
use Rattle.std.proofs.lemmas.Bool.Decides.{nat_tests}
use Rattle.std.proofs.lemmas.List.Elements.{All-from_recursion, All-replicate, All-cons, All-set, All-drop}
use Rattle.std.proofs.lemmas.Option.{get_or_from_slice_get, slice_get_within}
use Rattle.byteorder.specs.Endian.{little_bytes}
use Rattle.bpf_isa.specs.bits_core.Bits.{signed_of}
use Rattle.bpf_isa.specs.declared.operation.Src.{Src}
use Rattle.bpf_isa.specs.declared.operation.Src.TheVariants.{K, X}
use Rattle.bpf_isa.specs.declared.operation.Op.{Op}
use Rattle.bpf_isa.specs.declared.operation.Op.TheVariants.{Alu, Neg, End, Swap, Ja, Jump, Call, Exit, LoadImm, Abs, Ind, Load, LoadSigned, StoreImm, Store, Atomic}
use Rattle.bpf_isa.specs.declared.operation.Width.{Width}
use Rattle.bpf_isa.specs.declared.operation.Width.TheVariants.{Bits32, Bits64}
use Rattle.bpf_isa.specs.declared.operation.AluCode.{AluCode}
use Rattle.bpf_isa.specs.declared.operation.AluCode.TheVariants.{Add, Sub, Mov}
use Rattle.bpf_isa.specs.declared.operation.Size.{Size}
use Rattle.bpf_isa.specs.declared.operation.Size.TheVariants.{W, Dw}
use Rattle.bpf_isa.specs.declared.instruction.Insn.{Insn}
use Rattle.bpf_isa.specs.declared.helper.Helper.{Helper}
use Rattle.bpf_isa.specs.declared.helper.Helper.TheVariants.{Lookup, Update, Delete, Time, Redirect}
use Rattle.bpf_isa.specs.Helpers.{helper_of}
use Rattle.bpf_isa.specs.Rules.{Allows, rules_of}
use Rattle.bpf_isa.specs.Spelling.{IsInsn, FitsOp, units_of}
use Rattle.bpf_isa.specs.Text.{insn_at}
use Rattle.bpf_isa.proofs.LaidLaws.{legal_at}
use Rattle.xdp_maps.specs.declared.change.Change.{Change}
use Rattle.xdp_maps.specs.declared.change.ChangeKind.{ChangeKind}
use Rattle.xdp_maps.specs.declared.change.ChangeKind.TheVariants.{Cmpxchg}
use Rattle.xdp_maps.specs.declared.decl.MapDecl.{MapDecl}
use Rattle.xdp_maps.specs.Contents.{Contents, IsBytes}
use Rattle.xdp_maps.specs.State.{MapState, IsSound, no_decl, decl_at, contents_at, with_contents}
use Rattle.xdp_maps.specs.Calls.{lookup_of, number_before, update_number, delete_number, updated, deleted, number_at as change_number}
use Rattle.xdp_maps.specs.Operations.{Operation}
use Rattle.xdp_maps.proofs.ByteLaws.{IsBytes-little_bytes}
use Rattle.xdp_maps.proofs.SoundLaws.{operations_keep_sound}
use Rattle.xdp_machine.specs.Values.{Value, Unset, Number, Packet, Stack, Context, Map, Entry, held, number_in, map_in, ◌>>=◌}
use Rattle.xdp_machine.specs.State.{Code, Machine, first_registers, register, put, with_registers, begins, start}
use Rattle.xdp_machine.specs.Arithmetic.{low}
use Rattle.xdp_machine.specs.Pointers.{at_offset, moved, sum, difference, copied, computed, combined}
use Rattle.xdp_machine.specs.Memory.{bytes_in, inside, aligned, in_stack, from_slot, from_entry, loaded, from_context, loaded_plain, loaded_signed, to_frame, underlying, to_slot, to_stack, to_entry, stored}
use Rattle.xdp_machine.specs.Atomics.{fetches, change_of, taking, changed_entry, changed_at}
use Rattle.xdp_machine.specs.Helpers.{region, answering, entry_or_null, lookup, update, delete, redirected, redirect, called}
use Rattle.xdp_machine.specs.Step.{Goes, NoCase, goes_to, goes_on, jumps, operand, assigned, renumbered, constant, alu, effect, outcome, outcome_at, Outcome, Ends, exits, step}
use Rattle.xdp_machine.specs.Runs.{Progress, Ended, Leaves, leaves, run, then_on}
use Rattle.xdp_machine.specs.Touched.{after, operation_at}
use Rattle.xdp_machine.specs.Ranges.{InRange, IsInRange}
use Rattle.xdp_machine.specs.MachineLaws.{LeavesInRange, RunsLeaveInRange, StartsInRange, StepsKeepRanges}
use Rattle.xdp_machine.proofs.ChangeLaws.{some_inj, bind_inv, chosen, exits-goes, to_frame-length}
use Rattle.xdp_machine.proofs.PartLaws.{AreBytes, register_in_range, number_in_range, IsBytes-region}
use Rattle.xdp_machine.proofs.NumberLaws.{computed_word, extended_word, signed_word, negated_word, little_word, big_word, word_of, word_of_difference, imm_fits, number_word, change_number_word, bytes_patched, bytes_word, update_number_fits, delete_number_fits}
use Rattle.xdp_machine.proofs.FitLaws.{FitsIn, fits_at}
use Rattle.xdp_machine.proofs.StepLaws.{steps_operate}

-- ---- arithmetic

held_in_range : (decls : List MapDecl) (v w : Value) → InRange decls v → held v ≡ Some w → InRange decls w
held_in_range decls Unset w range e = absurd (cc)
held_in_range decls v w range e = subst (InRange decls) (some_inj v w e) range

fits_of : (z : ℤ) → (int_le (negsuc (2 ^ 63 - 1)) z && int_lt z (pos (2 ^ 63))) ≡ true → FitsSigned w64 z
fits_of (pos n) t = record { sfits = grind (arith, nat_tests) }
fits_of (negsuc n) t = record { sfits = grind (arith, nat_tests) }

offset_fits : (point : ℤ → Value) (z : ℤ) (v : Value) → at_offset point z ≡ Some v → FitsSigned w64 z × point z ≡ v
offset_fits point z v e = by_test (int_le (negsuc (2 ^ 63 - 1)) z && int_lt z (pos (2 ^ 63))) refl e
  where
    by_test : (b : Bool) → (int_le (negsuc (2 ^ 63 - 1)) z && int_lt z (pos (2 ^ 63))) ≡ b → (if b then Some (point z) else None) ≡ Some v → FitsSigned w64 z × point z ≡ v
    by_test true t h = (fits_of z t, some_inj (point z) v h)
    by_test false t h = absurd (cc)

moved_in_range : (decls : List MapDecl) (v : Value) (z : ℤ) (w : Value) → InRange decls v → moved v z ≡ Some w → InRange decls w
moved_in_range decls (Packet o) z w range e = let h = offset_fits Packet (o +ℤ z) w e in subst (InRange decls) h.1 h.0
moved_in_range decls (Stack o) z w range e = let h = offset_fits Stack (o +ℤ z) w e in subst (InRange decls) h.1 tt
moved_in_range decls (Entry q key o) z w range e = let h = offset_fits (Entry q key) (o +ℤ z) w e in subst (InRange decls) h.1 range
moved_in_range decls v z w range e = absurd (cc)

sum_in_range : (decls : List MapDecl) (a b v : Value) → InRange decls a → InRange decls b → sum a b ≡ Some v → InRange decls v
sum_in_range decls (Number x) (Number y) v p q e = subst (InRange decls) (some_inj _ v e) (mod_below (x + y) (2 ^ 64) (omega arith))
sum_in_range decls (Number x) b v p q e = moved_in_range decls b (signed_of 64 x) v q e
sum_in_range decls a (Number y) v p q e = moved_in_range decls a (signed_of 64 y) v p e
sum_in_range decls a b v p q e = absurd (cc)

difference_in_range : (decls : List MapDecl) (a b v : Value) → InRange decls a → InRange decls b → difference a b ≡ Some v → InRange decls v
difference_in_range decls (Number x) (Number y) v p q e = subst (InRange decls) (some_inj _ v e) (mod_below _ (2 ^ 64) (omega arith))
difference_in_range decls (Packet x) (Packet y) v p q e = subst (InRange decls) (some_inj _ v e) (word_of_difference x y p.sfits q.sfits)
difference_in_range decls a (Number y) v p q e = moved_in_range decls a (neg_ℤ (signed_of 64 y)) v p e
difference_in_range decls a b v p q e = absurd (cc)

copied_in_range : (decls : List MapDecl) (w : Width) (count : ℕ) (b v : Value) → InRange decls b → copied w count b ≡ Some v → InRange decls v
copied_in_range decls Bits64 zero b v q e = held_in_range decls b v q e
copied_in_range decls w count b v q e = bind_inv (number_in b) _ v e (λ n _ h. subst (InRange decls) (some_inj _ v h) (extended_word w count n))

computed_in_range : (decls : List MapDecl) (w : Width) (c : AluCode) (signed : Bool) (a b v : Value) → computed w c signed a b ≡ Some v → InRange decls v
computed_in_range decls w c signed a b v e =
    bind_inv (number_in a) _ v e (λ x _ h.
    bind_inv (number_in b) _ v h (λ y _ k.
    subst (InRange decls) (some_inj _ v k) (computed_word w c signed x y)))

combined_in_range : (decls : List MapDecl) (w : Width) (c : AluCode) (offset : ℤ) (a b v : Value) → InRange decls a → InRange decls b → combined w c offset a b ≡ Some v → InRange decls v
combined_in_range decls w Mov offset a b v p q e = copied_in_range decls w (unsigned_abs offset) b v q e
combined_in_range decls Bits64 Add offset a b v p q e = sum_in_range decls a b v p q e
combined_in_range decls Bits64 Sub offset a b v p q e = difference_in_range decls a b v p q e
combined_in_range decls w c offset a b v p q e = computed_in_range decls w c (int_eq offset (pos 1)) a b v e

-- ---- registers

put_in_range : (decls : List MapDecl) (rs : List Value) (r : ℕ) (v : Value) (new : List Value) → All (InRange decls) rs → InRange decls v → put rs r v ≡ Some new → All (InRange decls) new
put_in_range decls rs r v new all range e = by_test (r == 10) e
  where
    by_test : (b : Bool) → (if b then None else Some (set rs r v)) ≡ Some new → All (InRange decls) new
    by_test true h = absurd (cc)
    by_test false h = subst (All (InRange decls)) (some_inj (set rs r v) new h) (All-set (InRange decls) rs r v range all)

assigned_in_range : (decls : List MapDecl) (rs : List Value) (i : Insn) (o : Option Value) (new : List Value) → All (InRange decls) rs
    → ((v : Value) → o ≡ Some v → InRange decls v) → assigned rs i o ≡ Some new → All (InRange decls) new
assigned_in_range decls rs i o new all range e = bind_inv o (put rs i.dst) new e (λ v is h. put_in_range decls rs i.dst v new all (range v is) h)

renumbered_in_range : (decls : List MapDecl) (rs : List Value) (i : Insn) (f : ℕ → ℕ) (new : List Value) → All (InRange decls) rs
    → ((n : ℕ) → n < 2 ^ 64 → f n < 2 ^ 64) → renumbered rs i f ≡ Some new → All (InRange decls) new
renumbered_in_range decls rs i f new all range e =
    bind_inv (number_in (register rs i.dst)) _ new e (λ n is h.
    put_in_range decls rs i.dst (Number (f n)) new all (range n (number_in_range decls (register rs i.dst) n (register_in_range decls rs i.dst all) is)) h)

-- what the table allows an instruction's immediate number to be
record Legal (i : Insn) (op : Op) : Type 0 where
  range : FitsOp op i.imm
  imm : Allows (rules_of op).imm i.imm

operand_in_range : (decls : List MapDecl) (rs : List Value) (i : Insn) (s : Src) → All (InRange decls) rs → mag i.imm < 2 ^ 63 → InRange decls (operand rs i s)
operand_in_range decls rs i K all fits = word_of i.imm fits
operand_in_range decls rs i X all fits = register_in_range decls rs i.src all

alu_in_range : (decls : List MapDecl) (rs : List Value) (i : Insn) (op : Op) (new : List Value) → All (InRange decls) rs → Legal i op → alu rs i op ≡ Some new → All (InRange decls) new
alu_in_range decls rs i (Alu w c s) new all legal e =
    assigned_in_range decls rs i _ new all (λ v is.
    combined_in_range decls w c i.offset _ _ v (register_in_range decls rs i.dst all) (operand_in_range decls rs i s all (imm_fits (Alu w c s) i.imm legal.range)) is) e
alu_in_range decls rs i (Neg w) new all legal e = renumbered_in_range decls rs i _ new all (λ n _. negated_word w n) e
alu_in_range decls rs i (End K) new all legal e = renumbered_in_range decls rs i _ new all (λ n h. little_word (unsigned_abs i.imm) n h) e
alu_in_range decls rs i (End X) new all legal e = renumbered_in_range decls rs i _ new all (λ n _. big_word i.imm n legal.imm) e
alu_in_range decls rs i Swap new all legal e = renumbered_in_range decls rs i _ new all (λ n _. big_word i.imm n legal.imm) e
alu_in_range decls rs i op new all legal e = absurd (cc)

constant_in_range : (decls : List MapDecl) (refs : List ℕ) (place : ℕ) (i : Insn) (v : Value) → mag i.imm < 2 ^ 63 → constant refs place i ≡ Some v → InRange decls v
constant_in_range decls refs place i v fits e = by_tests (i.src == 0) (list_any (λ r. r == place) refs) e
  where
    by_tests : (b r : Bool) → (if b then Some (if r then Map (low 32 (cast_unsigned w64 i.imm)) else Number (cast_unsigned w64 i.imm)) else None) ≡ Some v → InRange decls v
    by_tests false r h = absurd (cc)
    by_tests true true h = subst (InRange decls) (some_inj _ v h) tt
    by_tests true false h = subst (InRange decls) (some_inj _ v h) (word_of i.imm fits)

-- ---- loads

slot_in_range : (decls : List MapDecl) (size : Size) (a : ℕ) (s v : Value) → InRange decls s → from_slot size a s ≡ Some v → InRange decls v
slot_in_range decls Dw a s v range e = subst (InRange decls) (some_inj s v e) range
slot_in_range decls size a s v range e =
    bind_inv (number_in s) _ v e (λ n _ h. subst (InRange decls) (some_inj _ v h) (number_word size a (little_bytes 8 n) (IsBytes-little_bytes 8 n).bytes_fit))

-- the bytes of a value that is under a key
value_bytes : (s : MapState) (q : ℕ) (key value : List ℕ) → IsSound s → q < length s.decls → lookup_of (contents_at s q) key ≡ Some value → AreBytes value
value_bytes s q key value sound lt is =
    let fits : IsBytes (decl_at s q).value value = subst (λ o. IfSome o (IsBytes (decl_at s q).value)) is ((sound.over q lt).values key) in fits.bytes_fit

entry_in_range : (m : Machine) (q : ℕ) (key : List ℕ) (o : ℤ) (size : Size) (v : Value) → IsInRange m → from_entry m.maps q key o size ≡ Some v → InRange m.maps.decls v
entry_in_range m q key o size v range e =
    bind_inv (slice_get m.maps.decls q) _ v e (λ d is h.
    bind_inv (aligned o (bytes_in size) d.value) _ v h (λ a _ k.
    bind_inv (lookup_of (contents_at m.maps q) key) _ v k (λ value found l.
    subst (InRange m.maps.decls) (some_inj _ v l) (number_word size a value (value_bytes m.maps q key value range.maps (slice_get_within m.maps.decls q d is) found)))))

loaded_in_range : (m : Machine) (base : Value) (offset : ℤ) (size : Size) (v : Value) → IsInRange m → loaded m base offset size ≡ Some v → InRange m.maps.decls v
loaded_in_range m (Packet o) offset size v range e =
    bind_inv (inside (o +ℤ offset) (bytes_in size) (length m.frame)) _ v e (λ a _ h. subst (InRange m.maps.decls) (some_inj _ v h) (number_word size a m.frame range.frame))
loaded_in_range m (Stack o) offset size v range e =
    bind_inv (in_stack (o +ℤ offset) (bytes_in size)) _ v e (λ a _ h.
    slot_in_range m.maps.decls size (a % 8) (get_or m.stack (a / 8) Unset) v (register_in_range m.maps.decls m.stack (a / 8) range.stack) h)
loaded_in_range m (Entry q key o) offset size v range e = entry_in_range m q key (o +ℤ offset) size v range e
loaded_in_range m base offset size v range e = absurd (cc)

context_in_range : (m : Machine) (offset : ℤ) (v : Value) → IsInRange m → from_context m offset ≡ Some v → InRange m.maps.decls v
context_in_range m offset v range e = by_tests (int_eq offset (pos 0)) (int_eq offset (pos 4)) (int_eq offset (pos 12)) (int_eq offset (pos 16)) e
  where
    by_tests : (a b c d : Bool)
        → (if a then Some (Packet (pos 0)) else if b then Some (Packet (pos (length m.frame))) else if c then Some (Number m.ifindex) else if d then Some (Number 0) else None) ≡ Some v
        → InRange m.maps.decls v
    by_tests true b c d h = subst (InRange m.maps.decls) (some_inj (Packet (pos 0)) v h) (record { sfits = omega arith })
    by_tests false true c d h = subst (InRange m.maps.decls) (some_inj (Packet (pos (length m.frame))) v h) (record { sfits = range.frame_short })
    by_tests false false true d h = subst (InRange m.maps.decls) (some_inj (Number m.ifindex) v h) (omega (arith, range.ifindex))
    by_tests false false false true h = subst (InRange m.maps.decls) (some_inj (Number 0) v h) (omega arith)
    by_tests false false false false h = absurd (cc)

plain_in_range : (m : Machine) (base : Value) (offset : ℤ) (size : Size) (v : Value) → IsInRange m → loaded_plain m base offset size ≡ Some v → InRange m.maps.decls v
plain_in_range m Context offset W v range e = context_in_range m offset v range e
plain_in_range m base offset size v range e = loaded_in_range m base offset size v range e

signed_in_range : (m : Machine) (base : Value) (offset : ℤ) (size : Size) (v : Value) → loaded_signed m base offset size ≡ Some v → InRange m.maps.decls v
signed_in_range m base offset size v e =
    bind_inv (loaded m base offset size >>= number_in) _ v e (λ n _ h. subst (InRange m.maps.decls) (some_inj _ v h) (signed_word (8 * bytes_in size) n))

-- ---- what an instruction leaves of the packet's own things

record Own (m new : Machine) : Type 0 where
  registers : All (InRange m.maps.decls) new.registers
  stack : All (InRange m.maps.decls) new.stack
  frame : AreBytes new.frame
  frame_len : length new.frame ≡ length m.frame
  ifindex : new.ifindex ≡ m.ifindex
  time : new.time ≡ m.time
  target : new.target < 2 ^ 32

own : (m : Machine) → IsInRange m → Own m m
own m range = record { registers = range.registers; stack = range.stack; frame = range.frame; frame_len = refl; ifindex = refl; time = refl; target = range.target }

-- other registers, on top of other changes
registers_own : (m other new : Machine) (rs : Option (List Value)) → Own m other → ((r : List Value) → rs ≡ Some r → All (InRange m.maps.decls) r) → with_registers other rs ≡ Some new → Own m new
registers_own m other new None before range e = absurd (cc)
registers_own m other new (Some r) before range e =
    subst (Own m) (some_inj (record other { registers = r }) new e) (record {
      registers = range r refl;
      stack = before.stack;
      frame = before.frame;
      frame_len = before.frame_len;
      ifindex = before.ifindex;
      time = before.time;
      target = before.target;
    })

-- other maps
maps_own : (m : Machine) (s : MapState) → IsInRange m → Own m (record m { maps = s })
maps_own m s range = record { registers = range.registers; stack = range.stack; frame = range.frame; frame_len = refl; ifindex = refl; time = refl; target = range.target }

put_slot_in_range : (decls : List MapDecl) (size : Size) (a : ℕ) (old v slot : Value) → InRange decls v → to_slot size a old v ≡ Some slot → InRange decls slot
put_slot_in_range decls Dw a old v slot range e = held_in_range decls v slot range e
put_slot_in_range decls size a old v slot range e =
    bind_inv (number_in v) _ slot e (λ n _ h.
    subst (InRange decls) (some_inj _ slot h) (bytes_word _ (bytes_patched (little_bytes 8 (underlying old)) a (little_bytes (bytes_in size) n)
    (IsBytes-little_bytes 8 (underlying old)).bytes_fit (IsBytes-little_bytes (bytes_in size) n).bytes_fit)))

stored_own : (m : Machine) (base : Value) (offset : ℤ) (size : Size) (v : Value) (new : Machine) → IsInRange m → InRange m.maps.decls v → stored m base offset size v ≡ Some new → Own m new
stored_own m (Packet o) offset size v new range fits e =
    bind_inv (number_in v >>= to_frame m.frame (o +ℤ offset) size) _ new e (λ frame f h.
    bind_inv (number_in v) (to_frame m.frame (o +ℤ offset) size) frame f (λ n _ k.
    bind_inv (inside (o +ℤ offset) (bytes_in size) (length m.frame)) _ frame k (λ a _ l.
    subst (Own m) (some_inj (record m { frame = frame }) new h) (record {
      registers = range.registers;
      stack = range.stack;
      frame = subst AreBytes (some_inj _ frame l) (bytes_patched m.frame a (little_bytes (bytes_in size) n) range.frame (IsBytes-little_bytes (bytes_in size) n).bytes_fit);
      frame_len = to_frame-length m.frame (o +ℤ offset) size n frame k;
      ifindex = refl;
      time = refl;
      target = range.target;
    }))))
stored_own m (Stack o) offset size v new range fits e =
    bind_inv (to_stack m.stack (o +ℤ offset) size v) _ new e (λ stack f h.
    bind_inv (in_stack (o +ℤ offset) (bytes_in size)) _ stack f (λ a _ k.
    bind_inv (to_slot size (a % 8) (get_or m.stack (a / 8) Unset) v) _ stack k (λ slot is l.
    subst (Own m) (some_inj (record m { stack = stack }) new h) (record {
      registers = range.registers;
      stack = subst (All (InRange m.maps.decls)) (some_inj _ stack l)
          (All-set (InRange m.maps.decls) m.stack (a / 8) slot (put_slot_in_range m.maps.decls size (a % 8) (get_or m.stack (a / 8) Unset) v slot fits is) range.stack);
      frame = range.frame;
      frame_len = refl;
      ifindex = refl;
      time = refl;
      target = range.target;
    }))))
stored_own m (Entry q key o) offset size v new range fits e =
    bind_inv (number_in v >>= to_entry m.maps q key (o +ℤ offset) size) _ new e (λ s _ h. subst (Own m) (some_inj (record m { maps = s }) new h) (maps_own m s range))
stored_own m base offset size v new range fits e = absurd (cc)

taking_in_range : (decls : List MapDecl) (rs : List Value) (kind : ChangeKind) (i : Insn) (old : ℕ) (new : List Value) → All (InRange decls) rs → old < 2 ^ 64 → taking rs kind i old ≡ Some new
    → All (InRange decls) new
taking_in_range decls rs Cmpxchg i old new all fits e = put_in_range decls rs 0 (Number old) new all fits e
taking_in_range decls rs kind i old new all fits e = by_test (fetches (cast_unsigned w64 i.imm)) e
  where
    by_test : (b : Bool) → (if b then put rs i.src (Number old) else Some rs) ≡ Some new → All (InRange decls) new
    by_test true h = put_in_range decls rs i.src (Number old) new all fits h
    by_test false h = subst (All (InRange decls)) (some_inj rs new h) all

found_in_range : (s : MapState) (q : ℕ) (key : List ℕ) (a : ℕ) (x : Change) (old : ℕ) → IsSound s → q < length s.decls → number_before (contents_at s q) key a x ≡ Some old → old < 2 ^ 64
found_in_range s q key a x old sound lt e = by_value (lookup_of (contents_at s q) key) refl e
  where
    by_value : (o : Option (List ℕ)) → lookup_of (contents_at s q) key ≡ o → option_map (change_number x.wide a) o ≡ Some old → old < 2 ^ 64
    by_value None is h = absurd (cc)
    by_value (Some value) is h = subst (λ (n : ℕ). n < 2 ^ 64) (some_inj _ old h) (change_number_word x.wide a value (value_bytes s q key value sound lt is))

changed_at_own : (m : Machine) (i : Insn) (size : Size) (base : Value) (offset : ℤ) (x : Change) (new : Machine) → IsInRange m → changed_at m i size base offset x ≡ Some new → Own m new
changed_at_own m i size (Entry q key o) offset x new range e =
    bind_inv (changed_entry m.maps q key (o +ℤ offset) size x) _ new e (λ found f g.
    bind_inv (slice_get m.maps.decls q) _ found f (λ d is h.
    bind_inv (aligned (o +ℤ offset) (bytes_in size) d.value) _ found h (λ a _ k.
    bind_inv (number_before (contents_at m.maps q) key a x) _ found k (λ old before l.
    let fits : old < 2 ^ 64 = found_in_range m.maps q key a x old range.maps (slice_get_within m.maps.decls q d is) before in
    let found_fits : found.0 < 2 ^ 64 = subst (λ (p : ℕ × MapState). p.0 < 2 ^ 64) (some_inj _ found l) fits in
    registers_own m (record m { maps = found.1 }) new (taking m.registers x.kind i found.0) (maps_own m found.1 range)
    (λ r t. taking_in_range m.maps.decls m.registers x.kind i found.0 r range.registers found_fits t) g))))
changed_at_own m i size base offset x new range e = absurd (cc)

-- ---- calls

answering_own : (m other new : Machine) (v : Value) → Own m other → InRange m.maps.decls v → Some (answering v other) ≡ Some new → Own m new
answering_own m other new v before range e =
    let P : Value → Type 0 = InRange m.maps.decls in
    let xs : List Value = drop 6 other.registers in
    let one = All-cons P Unset xs tt (All-drop P 6 other.registers before.registers) in
    let two = All-cons P Unset (Unset ∷ xs) tt one in
    let three = All-cons P Unset (Unset ∷ Unset ∷ xs) tt two in
    let four = All-cons P Unset (Unset ∷ Unset ∷ Unset ∷ xs) tt three in
    let five = All-cons P Unset (Unset ∷ Unset ∷ Unset ∷ Unset ∷ xs) tt four in
    subst (Own m) (some_inj (answering v other) new e) (record {
      registers = All-cons P v (Unset ∷ Unset ∷ Unset ∷ Unset ∷ Unset ∷ xs) range five;
      stack = before.stack;
      frame = before.frame;
      frame_len = before.frame_len;
      ifindex = before.ifindex;
      time = before.time;
      target = before.target;
    })

entry_or_null_in_range : (m : Machine) (q : ℕ) (key : List ℕ) (c : Contents) → q < length m.maps.decls → IsBytes (decl_at m.maps q).key key → InRange m.maps.decls (entry_or_null q key c)
entry_or_null_in_range m q key c lt fits = by_test (is_some (lookup_of c key))
  where
    by_test : (b : Bool) → InRange m.maps.decls (if b then Entry q key (pos 0) else Number 0)
    by_test true = (lt, fits)
    by_test false = omega arith

lookup_own : (m new : Machine) → IsInRange m → lookup m ≡ Some new → Own m new
lookup_own m new range e =
    bind_inv (map_in (register m.registers 1)) _ new e (λ q _ h.
    bind_inv (slice_get m.maps.decls q) _ new h (λ d is k.
    bind_inv (region m.stack m.frame d.key (register m.registers 2)) _ new k (λ key at l.
    let fits : IsBytes (decl_at m.maps q).key key = subst (λ (x : MapDecl). IsBytes x.key key) (sym (get_or_from_slice_get m.maps.decls q d no_decl is))
    (IsBytes-region m.stack m.frame d.key (register m.registers 2) key range.frame at) in
    answering_own m m new _ (own m range) (entry_or_null_in_range m q key (contents_at m.maps q) (slice_get_within m.maps.decls q d is) fits) l)))

update_own : (m new : Machine) → IsInRange m → update m ≡ Some new → Own m new
update_own m new range e =
    bind_inv (map_in (register m.registers 1)) _ new e (λ q _ h.
    bind_inv (slice_get m.maps.decls q) _ new h (λ d _ k.
    bind_inv (region m.stack m.frame d.key (register m.registers 2)) _ new k (λ key _ l.
    bind_inv (region m.stack m.frame d.value (register m.registers 3)) _ new l (λ value _ n.
    bind_inv (number_in (register m.registers 4)) _ new n (λ flags _ o.
    answering_own m (record m { maps = with_contents m.maps q (updated d (contents_at m.maps q) key value flags) }) new _ (maps_own m _ range)
    (word_of (update_number d (contents_at m.maps q) key flags) (update_number_fits d.kind d (contents_at m.maps q) key flags)) o)))))

delete_own : (m new : Machine) → IsInRange m → delete m ≡ Some new → Own m new
delete_own m new range e =
    bind_inv (map_in (register m.registers 1)) _ new e (λ q _ h.
    bind_inv (slice_get m.maps.decls q) _ new h (λ d _ k.
    bind_inv (region m.stack m.frame d.key (register m.registers 2)) _ new k (λ key _ l.
    answering_own m (record m { maps = with_contents m.maps q (deleted d (contents_at m.maps q) key) }) new _ (maps_own m _ range)
    (word_of (delete_number d (contents_at m.maps q) key) (delete_number_fits d.kind (contents_at m.maps q) key)) l)))

redirected_own : (m new : Machine) (ifindex flags : ℕ) → IsInRange m → Some (redirected ifindex flags m) ≡ Some new → Own m new
redirected_own m new ifindex zero range e =
    answering_own m (record m { target = ifindex % 2 ^ 32 }) new (Number 4) (record {
      registers = range.registers;
      stack = range.stack;
      frame = range.frame;
      frame_len = refl;
      ifindex = refl;
      time = refl;
      target = mod_below ifindex (2 ^ 32) (omega arith);
    }) (omega arith) e
redirected_own m new ifindex (suc flags) range e = answering_own m m new (Number 0) (own m range) (omega arith) e

redirect_own : (m new : Machine) → IsInRange m → redirect m ≡ Some new → Own m new
redirect_own m new range e =
    bind_inv (number_in (register m.registers 1)) _ new e (λ ifindex _ h.
    bind_inv (number_in (register m.registers 2)) _ new h (λ flags _ k. redirected_own m new ifindex flags range k))

called_own : (h : Option Helper) (m new : Machine) → IsInRange m → called h m ≡ Some new → Own m new
called_own (Some Lookup) m new range e = lookup_own m new range e
called_own (Some Update) m new range e = update_own m new range e
called_own (Some Delete) m new range e = delete_own m new range e
called_own (Some Time) m new range e = answering_own m m new (Number m.time) (own m range) range.time e
called_own (Some Redirect) m new range e = redirect_own m new range e
called_own None m new range e = absurd (cc)

-- ---- steps

effect_own : (refs : List ℕ) (m : Machine) (i : Insn) (op : Op) (new : Machine) → IsInRange m → Legal i op → effect refs m i op ≡ Some new → Own m new
effect_own refs m i LoadImm new range legal e =
    registers_own m m new _ (own m range) (λ r h. assigned_in_range m.maps.decls m.registers i _ r range.registers (λ v is. constant_in_range m.maps.decls refs m.place i v (imm_fits LoadImm i.imm legal.range) is) h) e
effect_own refs m i (Load size) new range legal e =
    registers_own m m new _ (own m range) (λ r h. assigned_in_range m.maps.decls m.registers i _ r range.registers (λ v is. plain_in_range m (register m.registers i.src) i.offset size v range is) h) e
effect_own refs m i (LoadSigned size) new range legal e =
    registers_own m m new _ (own m range) (λ r h. assigned_in_range m.maps.decls m.registers i _ r range.registers (λ v is. signed_in_range m (register m.registers i.src) i.offset size v is) h) e
effect_own refs m i (StoreImm size) new range legal e =
    stored_own m (register m.registers i.dst) i.offset size (Number (cast_unsigned w64 i.imm)) new range (word_of i.imm (imm_fits (StoreImm size) i.imm legal.range)) e
effect_own refs m i (Store size) new range legal e =
    stored_own m (register m.registers i.dst) i.offset size (register m.registers i.src) new range (register_in_range m.maps.decls m.registers i.src range.registers) e
effect_own refs m i (Atomic size) new range legal e =
    bind_inv (change_of m.registers i size) _ new e (λ x _ h. changed_at_own m i size (register m.registers i.dst) i.offset x new range h)
effect_own refs m i Call new range legal e =
    chosen (i.src == 0) (called (helper_of i.imm) m) None new e (called_own (helper_of i.imm) m new range) (λ n. absurd (cc))
effect_own refs m i (Abs size) new range legal e = absurd (cc)
effect_own refs m i (Ind size) new range legal e = absurd (cc)
effect_own refs m i op new range legal e = registers_own m m new _ (own m range) (λ r h. alu_in_range m.maps.decls m.registers i op r range.registers legal h) e

goes_to_own : (insns : List Insn) (to : ℤ) (m other new : Machine) → Own m other → goes_to insns to other ≡ Goes new → Own m new
goes_to_own insns (negsuc to) m other new before e = absurd (cc)
goes_to_own insns (pos to) m other new before e = by_test (begins insns to) e
  where
    goes_inj : (a b : Machine) → Goes a ≡ Goes b → a ≡ b
    goes_inj a b h = cc

    by_test : (b : Bool) → (if b then Goes (record other { place = to }) else NoCase) ≡ Goes new → Own m new
    by_test false h = absurd (cc)
    by_test true h = subst (Own m) (goes_inj (record other { place = to }) new h) (record {
      registers = before.registers;
      stack = before.stack;
      frame = before.frame;
      frame_len = before.frame_len;
      ifindex = before.ifindex;
      time = before.time;
      target = before.target;
    })

goes_on_own : (insns : List Insn) (place units : ℕ) (m new : Machine) (change : Option Machine) → ((other : Machine) → change ≡ Some other → Own m other)
    → goes_on insns place units change ≡ Goes new → Own m new
goes_on_own insns place units m new None keeps e = absurd (cc)
goes_on_own insns place units m new (Some other) keeps e = goes_to_own insns (pos (place + units)) m other new (keeps other refl) e

jumps_own : (insns : List Insn) (distance : ℤ) (m new : Machine) (taken : Option Bool) → IsInRange m → jumps insns distance m taken ≡ Goes new → Own m new
jumps_own insns distance m new None range e = absurd (cc)
jumps_own insns distance m new (Some taken) range e = goes_to_own insns (if taken then pos (m.place + 1) +ℤ distance else pos (m.place + 1)) m m new (own m range) e

outcome_own : (code : Code) (m : Machine) (i : Insn) (op : Op) (new : Machine) → IsInRange m → Legal i op → outcome code m i op ≡ Goes new → Own m new
outcome_own code m i (Ja Bits64) new range legal e = goes_to_own code.insns (pos (m.place + 1) +ℤ i.offset) m m new (own m range) e
outcome_own code m i (Ja Bits32) new range legal e = goes_to_own code.insns (pos (m.place + 1) +ℤ i.imm) m m new (own m range) e
outcome_own code m i (Jump w c s) new range legal e = jumps_own code.insns i.offset m new _ range e
outcome_own code m i Exit new range legal e = absurd (exits-goes _ new e)
outcome_own code m i op new range legal e =
    goes_on_own code.insns m.place (units_of op) m new (effect code.refs m i op) (λ other h. effect_own code.refs m i op other range legal h) e

at_own : (code : Code) (m : Machine) (o : Option Insn) (new : Machine) → All IsInsn code.insns → IsInRange m → insn_at code.insns m.place ≡ o → outcome_at code m o ≡ Goes new → Own m new
at_own code m None new all range is e = absurd (cc)
at_own code m (Some i) new all range is e =
    let legal = subst (λ o. IfSome o IsInsn) is (legal_at code.insns m.place all) in
    outcome_own code m i i.op new range (record { range = legal.imm_range; imm = legal.imm }) e

after_decls : (o : Option (ℕ × Operation)) (s : MapState) → (after o s).decls ≡ s.decls
after_decls None s = refl
after_decls (Some (q, op)) s = refl

after_sound : (o : Option (ℕ × Operation)) (s : MapState) → IsSound s → FitsIn s o → IsSound (after o s)
after_sound None s sound fits = sound
after_sound (Some (q, op)) s sound fits = operations_keep_sound s q op sound fits.0 fits.1

pub steps_keep_ranges : StepsKeepRanges
steps_keep_ranges code old new all range e =
    let kept = at_own code old (insn_at code.insns old.place) new all range refl e in
    let maps : new.maps ≡ after (operation_at code old) old.maps = steps_operate code old new e in
    let decls : new.maps.decls ≡ old.maps.decls = ap (λ s. s.decls) maps ∙ after_decls (operation_at code old) old.maps in
    record {
      registers = subst (λ (ds : List MapDecl). All (InRange ds) new.registers) (sym decls) kept.registers;
      stack = subst (λ (ds : List MapDecl). All (InRange ds) new.stack) (sym decls) kept.stack;
      frame = kept.frame;
      frame_short = omega (arith, range.frame_short, kept.frame_len);
      ifindex = omega (arith, range.ifindex, kept.ifindex);
      time = omega (arith, range.time, kept.time);
      target = kept.target;
      maps = subst IsSound (sym maps) (after_sound (operation_at code old) old.maps range.maps (fits_at code old range));
    }

-- ---- runs

pub starts_in_range : StartsInRange
starts_in_range packet maps bytes short ifindex time sound = record {
  registers = All-from_recursion (InRange maps.decls) first_registers (tt, (tt, (tt, (tt, (tt, (tt, (tt, (tt, (tt, (tt, (tt, tt)))))))))));
  stack = All-replicate (InRange maps.decls) 64 (Number 0) (omega arith);
  frame = bytes;
  frame_short = short;
  ifindex = ifindex;
  time = time;
  target = omega arith;
  maps = sound;
}

-- a run ends with 32 bits
goes_to_never : (insns : List Insn) (to : ℤ) (m : Machine) (v : ℕ) → goes_to insns to m ≡ Ends v → ⊥
goes_to_never insns (negsuc to) m v e = cc
goes_to_never insns (pos to) m v e = by_test (begins insns to) e
  where
    by_test : (b : Bool) → (if b then Goes (record m { place = to }) else NoCase) ≡ Ends v → ⊥
    by_test true h = cc
    by_test false h = cc

goes_on_never : (insns : List Insn) (place units : ℕ) (change : Option Machine) (v : ℕ) → goes_on insns place units change ≡ Ends v → ⊥
goes_on_never insns place units None v e = cc
goes_on_never insns place units (Some m) v e = goes_to_never insns (pos (place + units)) m v e

jumps_never : (insns : List Insn) (distance : ℤ) (m : Machine) (taken : Option Bool) (v : ℕ) → jumps insns distance m taken ≡ Ends v → ⊥
jumps_never insns distance m None v e = cc
jumps_never insns distance m (Some taken) v e = goes_to_never insns (if taken then pos (m.place + 1) +ℤ distance else pos (m.place + 1)) m v e

exits_below : (o : Option ℕ) (v : ℕ) → exits o ≡ Ends v → v < 2 ^ 32
exits_below None v e = absurd (cc)
exits_below (Some n) v e = let is : low 32 n ≡ v = cc in subst (λ (x : ℕ). x < 2 ^ 32) is (mod_below n (2 ^ 32) (omega arith))

outcome_below : (code : Code) (m : Machine) (i : Insn) (op : Op) (v : ℕ) → outcome code m i op ≡ Ends v → v < 2 ^ 32
outcome_below code m i (Ja Bits64) v e = absurd (goes_to_never code.insns (pos (m.place + 1) +ℤ i.offset) m v e)
outcome_below code m i (Ja Bits32) v e = absurd (goes_to_never code.insns (pos (m.place + 1) +ℤ i.imm) m v e)
outcome_below code m i (Jump w c s) v e = absurd (jumps_never code.insns i.offset m _ v e)
outcome_below code m i Exit v e = exits_below (number_in (register m.registers 0)) v e
outcome_below code m i op v e = absurd (goes_on_never code.insns m.place (units_of op) (effect code.refs m i op) v e)

verdict_below : (code : Code) (m : Machine) (o : Option Insn) (v : ℕ) → outcome_at code m o ≡ Ends v → v < 2 ^ 32
verdict_below code m None v e = absurd (cc)
verdict_below code m (Some i) v e = outcome_below code m i i.op v e

leaves_in_range : (code : Code) (m : Machine) (o : Outcome) (more : Machine → Progress) (e : Leaves) → All IsInsn code.insns → IsInRange m → step code m ≡ o
    → ((next : Machine) → IsInRange next → more next ≡ Ended e → LeavesInRange e) → then_on more m o ≡ Ended e → LeavesInRange e
leaves_in_range code m (Goes next) more e all range is later h = later next (steps_keep_ranges code m next all range is) h
leaves_in_range code m (Ends v) more e all range is later h =
    let same : leaves v m ≡ e = cc in
    subst LeavesInRange same (record {
      verdict = verdict_below code m (insn_at code.insns m.place) v is;
      target = range.target;
      frame = range.frame;
      maps = range.maps;
    })
leaves_in_range code m NoCase more e all range is later h = absurd (cc)

run_in_range : (code : Code) (n : ℕ) (m : Machine) (e : Leaves) → All IsInsn code.insns → IsInRange m → run code n m ≡ Ended e → LeavesInRange e
unfolding run
run_in_range code zero m e all range h = absurd (cc)
run_in_range code (suc n) m e all range h = leaves_in_range code m (step code m) (run code n) e all range refl (λ next r g. run_in_range code n next e all r g) h

pub runs_leave_in_range : RunsLeaveInRange
runs_leave_in_range code packet maps e all range (n, ran) = run_in_range code n (start packet maps) e all range ran
