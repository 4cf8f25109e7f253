-- Which pointers are held after an instruction.
use Rattle.std.proofs.Common.{◌≡◌, ℕ, ◌+◌, ◌*◌, ◌<◌, ◌≤◌, ◌/◌, ◌%◌, ◌⊎◌, inl, inr, ℤ, pos, negsuc, ◌+ℤ◌, Bool, true, false, if◌then◌else◌, Some, Ok, Err, IfOk, List, [], length, get_or, slice_index, sym, ◌∙◌, ap, arith}
use Rattle.std.specs.Ordering.{int_eq}
use Rattle.cell_core.specs.bpf_isa.declared.operation.Size.{Size}
use Rattle.cell_core.specs.bpf_isa.declared.operation.Size.TheVariants.{W}
use Rattle.cell_core.specs.bpf_isa.declared.operation.Width.{Width}
use Rattle.cell_core.specs.bpf_isa.declared.operation.Width.TheVariants.{Bits64}
use Rattle.cell_core.specs.bpf_isa.declared.operation.AluCode.{AluCode}
use Rattle.cell_core.specs.bpf_isa.declared.operation.Src.{Src}
use Rattle.cell_core.specs.bpf_isa.declared.operation.Src.TheVariants.{K, X}
use Rattle.cell_core.specs.bpf_isa.declared.operation.Op.{Op}
use Rattle.cell_core.specs.bpf_isa.declared.instruction.Insn.{Insn}
use Rattle.cell_core.specs.xdp_maps.declared.decl.MapDecl.{MapDecl}
use Rattle.cell_core.specs.xdp_machine.Memory.{bytes_in}
use Rattle.cell_core.specs.xdp_machine.Memory as machine
use Rattle.cell_core.specs.xdp_machine.Values as is
use Rattle.kind_core.specs.declared.kind.Kind.{Kind}
use Rattle.kind_core.specs.declared.kind.Kind.TheVariants.{Unset, Num, Packet, End, Stack, Ctx}
use Rattle.kind_core.specs.declared.kind.Offsets.TheVariants.{Fixed}
use Rattle.kind_core.specs.NumberBounds.{any_number}
use Rattle.kind_core.specs.declared.kind.Kinds.{Kinds}
use Rattle.xdp_state.specs.declared.refusal.Why.TheVariants as why
use Rattle.kind_core.specs.Kinds.{register, with_register, with_slot, answering}
use Rattle.kind_core.specs.Numbers.{number_extended}
use Rattle.kind_core.specs.Pointers.{combined}
use Rattle.kind_core.specs.Tests.{◌>>=◌, passed, number_in}
use Rattle.kind_core.specs.Places.{in_packet}
use Rattle.kind_core.specs.Access as access
use Rattle.kind_core.specs.Effects.{operand, effect_of, verdict}
use Rattle.kind_core.specs.Edges.{constant, changed, transferred}
use Rattle.kind_core.specs.Profile.{writes_destination}
use Rattle.kind_core.proofs.TestLaws.{bind_all}
use Rattle.operator_cells.specs.declared.held_cells.machine_cells.RegisterCells.{RegisterCells}
use Rattle.operator_cells.specs.HeldCells.Pointing.{pointing_as, HoldsPointer, KeepPointers, pointing_by}
use Rattle.operator_cells.proofs.HeldCells.RowLaws.{put_register, put_slot}
use Rattle.register_cells.specs.Giving.{given_kind}
use Rattle.register_cells.specs.Pointing.{MovesPointer, MovesEither, MovesHeld}
use Rattle.register_cells.proofs.Growing.{ok_map}
use Rattle.register_cells.proofs.ValueLaws.{ok_at}
use Rattle.register_cells.proofs.Carrying.{set_two, kind_is}
use Rattle.register_cells.proofs.Answering.{answered_each}
use Rattle.register_cells.proofs.HelperRows.{answered}
use Rattle.register_cells.proofs.Stores.{slot_stored, number_stored}
use Rattle.register_cells.proofs.LoadRows.{stack_loaded, plain_loaded, context_loaded}
use Rattle.register_cells.proofs.Loads.{in_packet_all}
use Rattle.operator_cells.specs.row_rules.declared.place_rows.location.Location.{Location}
use Rattle.operator_cells.specs.row_rules.declared.place_rows.location.Location.TheVariants as location
use Rattle.operator_cells.specs.row_rules.PlaceRows.Locations.{first_slot, location_at, IsLocation}
use Rattle.operator_cells.proofs.row_rules_laws.PlaceRows.LocationLaws.{at_number, location_there}

-- ---- places
module _ (k : Kinds) (h : RegisterCells) where
  pub held_register : (r : ℕ) → r < 11 → MovesHeld k h (register k r) (slice_index h.registers r)
  held_register r l y e = (r, ap (pointing_by k h) (at_number (location.Register r) l) ∙ e)

  held_slot : (s : ℕ) → s < 64 → MovesHeld k h (get_or k.slots s Unset) (slice_index h.slots s)
  held_slot s l y e = (first_slot + s, ap (pointing_by k h) (at_number (location.StackSlot s) l) ∙ e)

  -- all pointers are in registers and slots
  keep_all : (after : Kinds) (next : RegisterCells) → ((r : ℕ) → r < 11 → MovesHeld k h (register after r) (slice_index next.registers r)) → ((s : ℕ) → s < 64 → MovesHeld k h (get_or after.slots s Unset) (slice_index next.slots s))
      → KeepPointers k h after next
  keep_all after next registers slots y p = by (location_at p.0) (location_there p.0) p.1
    where
      by : (l : Location) → IsLocation l → pointing_by after next l ≡ Some y → HoldsPointer k h y
      by (location.Register r) there e = registers r there y e
      by (location.StackSlot s) there e = slots s there y e
      by (location.PacketByte i) there e = absurd (cc e)
      by location.Target there e = absurd (cc e)
      by (location.PendingWrites q) there e = absurd (cc e)

  -- one place changed
  register_keeps : (x : Kind) (d c : ℕ) → d ≤ 10 → length k.registers ≡ 11 → length h.registers ≡ 11 → MovesHeld k h x c → KeepPointers k h (with_register k d x) (put_register h d c)
  register_keeps x d c l ks hs one = keep_all (with_register k d x) (put_register h d c)
      (set_two (MovesHeld k h) k.registers h.registers Unset d 11 x c (omega (arith, l, ks)) (omega (arith, l, hs)) one held_register) held_slot

  slot_keeps : (x : Kind) (s c : ℕ) → s < 64 → length k.slots ≡ 64 → length h.slots ≡ 64 → MovesHeld k h x c → KeepPointers k h (with_slot k s x) (put_slot h s c)
  slot_keeps x s c l ks hs one = keep_all (with_slot k s x) (put_slot h s c) held_register
      (set_two (MovesHeld k h) k.slots h.slots Unset s 64 x c (omega (arith, l, ks)) (omega (arith, l, hs)) one held_slot)

  pub window_keeps : (bytes : List ℕ) → KeepPointers k h k (record h { window = bytes })
  window_keeps bytes = keep_all k (record h { window = bytes }) held_register held_slot

  pub answer_keeps : (c t : ℕ) → length h.registers ≡ 11 → KeepPointers k h (answering (Num (any_number 64)) k) (answered h c t)
  answer_keeps c t hs = keep_all (answering (Num (any_number 64)) k) (answered h c t)
      (answered_each (λ x j v. MovesHeld k h x j) k.registers h.registers [] 11 c (Num (any_number 64)) is.Unset (omega (arith, hs)) (λ y e. absurd cc) (λ j v y e. absurd cc) held_register) held_slot

  -- ---- operands
  pub operand_held : (i : Insn) (s : Src) → i.src ≤ 10 → MovesHeld k h (operand k i s) (slice_index h.registers i.src)
  operand_held i K l y e = absurd (cc)
  operand_held i X l y e = held_register i.src (omega (arith, l)) y e

  either_held : (a : Kind) (p : ℕ) (b : Kind) (q : ℕ) (x : Kind) (c : ℕ) → MovesHeld k h a p → MovesHeld k h b q → MovesEither a p b q x c → MovesHeld k h x c
  either_held a p b q x c left right moves y e = by (moves y e)
    where
      by : (pointing_as a p ≡ Some y) ⊎ (pointing_as b q ≡ Some y) → HoldsPointer k h y
      by (inl f) = left y f
      by (inr f) = right y f

  pub combined_held : (decls : List MapDecl) (i : Insn) (w : Width) (code : AluCode) (s : Src) (z : ℤ) (b : Kind) (c : ℕ) → i.dst ≤ 10 → i.src ≤ 10 → z ≡ i.offset → b ≡ operand k i s
      → IfOk (combined decls w code z s (register k i.dst) b) (λ x. MovesEither (register k i.dst) (slice_index h.registers i.dst) b (slice_index h.registers i.src) x c)
      → IfOk (combined decls w code i.offset s (register k i.dst) (operand k i s)) (λ x. MovesHeld k h x c)
  combined_held decls i w code s z b c dst src at is points =
      let a : Kind = register k i.dst in let p : ℕ = slice_index h.registers i.dst in let q : ℕ = slice_index h.registers i.src in
      ok_map (combined decls w code i.offset s a (operand k i s)) _ _
      (λ x v. either_held a p (operand k i s) q x c (held_register i.dst (omega (arith, dst))) (operand_held i s src) v)
      (rw (at, is) at points)

  -- ---- constants
  pub constant_held : (is_ref : Bool) (z : ℤ) (c : ℕ) → MovesHeld k h (constant is_ref z) c
  constant_held true z c y e = absurd (cc)
  constant_held false z c y e = absurd (cc)

-- ---- loads
module _ (decls : List MapDecl) (k : Kinds) (h : RegisterCells) (c : ℕ) where
  from_context_held : (z : ℤ) (size : Size) → IfOk (access.from_context z size) (λ x. MovesHeld k h x c)
  from_context_held z W = by (int_eq z (pos 0)) (int_eq z (pos 4)) (int_eq z (pos 12)) (int_eq z (pos 16))
    where
      by : (s t u v : Bool) → IfOk (if s then Ok (Packet 0) else if t then Ok End else if u then Ok (Num (any_number 32)) else if v then Ok (Num (any_number 32)) else Err why.Offset) (λ x. MovesHeld k h x c)
      by true t u v = λ y e. absurd (cc)
      by false true u v = λ y e. absurd (cc)
      by false false true v = λ y e. absurd (cc)
      by false false false true = λ y e. absurd (cc)
      by false false false false = tt
  from_context_held z size = tt

  -- a number of the packet
  pub packet_held : (o : ℕ) (z : ℤ) (size : Size) → IfOk (access.loaded decls k (Packet o) z size) (λ x. MovesHeld k h x c)
  unfolding access.loaded
  packet_held o z size = by (pos o +ℤ z)
    where
      by : (y : ℤ) → IfOk (in_packet k.checked y (bytes_in size) >>= (λ place. access.found k.slots size place)) (λ x. MovesHeld k h x c)
      by (pos a) = in_packet_all (λ x. MovesHeld k h x c) k.slots size k.checked a (λ y e. absurd cc)
      by (negsuc a) = tt

  pub found_held : (o offset : ℤ) (size : Size) (at : ℕ) → at < 512 → machine.in_stack (o +ℤ offset) (bytes_in size) ≡ Some at
      → IfOk (access.from_slot size (at % 8) (get_or k.slots (at / 8) Unset)) (λ x. MovesPointer (get_or k.slots (at / 8) Unset) (slice_index h.slots (at / 8)) x c)
      → IfOk (access.loaded decls k (Stack o) offset size) (λ x. MovesHeld k h x c)
  found_held o offset size at within e found = stack_loaded decls k o offset size at (λ x. MovesHeld k h x c) e
      (ok_map (access.from_slot size (at % 8) (get_or k.slots (at / 8) Unset)) _ _ (λ x v y p. held_slot k h (at / 8) (omega (arith, within)) y (v y p)) found)

  pub load_held : (i : Insn) (size : Size) {base : Kind} {z : ℤ} → register k i.src ≡ base → z ≡ i.offset → access.is_context base ≡ false
      → IfOk (access.loaded decls k base z size) (λ x. MovesHeld k h x c) → IfOk (access.loaded_plain decls k (register k i.src) i.offset size) (λ x. MovesHeld k h x c)
  load_held i size {base} {z} e at plain found = rw (e, sym at) (plain_loaded decls k base z size (λ x. MovesHeld k h x c) plain found)

  pub context_held : (i : Insn) (size : Size) → register k i.src ≡ Ctx → IfOk (access.loaded_plain decls k (register k i.src) i.offset size) (λ x. MovesHeld k h x c)
  context_held i size e = rw e (context_loaded decls k i.offset size (λ x. MovesHeld k h x c) (from_context_held i.offset size))

  pub signed_held : (base : Kind) (z : ℤ) (size : Size) → IfOk (access.loaded_signed decls k base z size) (λ x. MovesHeld k h x c)
  unfolding access.loaded_signed
  signed_held base z size = by (access.is_context base)
    where
      by : (t : Bool) → IfOk (if t then Err why.Offset else (access.loaded decls k base z size >>= (λ x. number_in x >>= (λ n. Ok (Num (number_extended Bits64 (8 * bytes_in size) n)))))) (λ x. MovesHeld k h x c)
      by true = tt
      by false = bind_all (access.loaded decls k base z size) _ _ (λ x. bind_all (number_in x) _ _ (λ n y e. absurd cc))

-- ---- instructions that write their destination
pub given_keeps : (decls : List MapDecl) (k : Kinds) (h : RegisterCells) (i : Insn) (node : ℕ) (is_ref : Bool) (c : ℕ) (op : Op) → k.offsets ≡ Fixed → i.op ≡ op → writes_destination op ≡ true → i.dst ≤ 10 → length k.registers ≡ 11 → length h.registers ≡ 11
    → verdict (effect_of decls k i) ≡ passed → IfOk (given_kind is_ref decls k i op) (λ x. MovesHeld k h x c) → KeepPointers k h (transferred decls k i node is_ref false) (put_register h i.dst c)
given_keeps decls k h i node is_ref c op fixed is writes dst ks hs allowed given =
    let x = kind_is is_ref decls k i node fixed (ap writes_destination is ∙ writes) allowed in
    rw x.2 (register_keeps k h x.0 i.dst c dst ks hs (ok_at (given_kind is_ref decls k i op) (λ y. MovesHeld k h y c) x.0 (ap (given_kind is_ref decls k i) (sym is) ∙ x.1) given))

-- ---- stores
pub packet_kept : (Q : Kinds → Type 0) (decls : List MapDecl) (node : ℕ) (is_ref : Bool) (k : Kinds) (o : ℕ) (z : ℤ) (size : Size) (x : Kind) → Q k
    → IfOk (access.stored decls k (Packet o) z size x) (λ e. Q (changed node is_ref false k e))
unfolding access.stored
packet_kept Q decls node is_ref k o z size x h = by (pos o +ℤ z)
  where
    by : (y : ℤ) → IfOk (in_packet k.checked y (bytes_in size) >>= (λ place. access.stored_at k.slots size x place)) (λ e. Q (changed node is_ref false k e))
    by (pos a) = number_stored Q node is_ref k size x a h
    by (negsuc a) = tt

pub stack_keeps : (decls : List MapDecl) (node : ℕ) (is_ref : Bool) (k : Kinds) (h : RegisterCells) (o offset : ℤ) (size : Size) (b : Kind) (q at c : ℕ) → length k.slots ≡ 64 → length h.slots ≡ 64 → at < 512
    → machine.in_stack (o +ℤ offset) (bytes_in size) ≡ Some at → MovesHeld k h b q → IfOk (access.to_slot size (at % 8) (get_or k.slots (at / 8) Unset) b) (λ x. MovesPointer b q x c)
    → IfOk (access.stored decls k (Stack o) offset size b) (λ e. KeepPointers k h (changed node is_ref false k e) (put_slot h (at / 8) c))
stack_keeps decls node is_ref k h o offset size b q at c ks hs within e source points =
    slot_stored (λ after. KeepPointers k h after (put_slot h (at / 8) c)) decls node is_ref k o offset size b at e
    (ok_map (access.to_slot size (at % 8) (get_or k.slots (at / 8) Unset) b) _ _ (λ x v. slot_keeps k h x (at / 8) c (omega (arith, within)) ks hs (λ y p. source y (v y p))) points)

pub stored_as : (decls : List MapDecl) (k : Kinds) (size : Size) (P : _ → Type 0) {b base x y : Kind} {i z : ℤ} → b ≡ base → z ≡ i → y ≡ x → IfOk (access.stored decls k base z size y) P
    → IfOk (access.stored decls k b i size x) P
stored_as decls k size P e at same h = rw (e, sym at, sym same) h
