-- The same instruction at two places: what it makes of a machine does not depend on its place, but for references to maps.
use Rattle.std.proofs.Common.{◌≡◌, ℕ, zero, suc, ◌*◌, ℤ, ◌+ℤ◌, ◌==◌, Bool, true, false, List, Option, Some, None, refl, sym, ◌∙◌, ap}
use Rattle.std.specs.Prelude.{if◌then◌else◌, slice_get}
use Rattle.std.specs.Int.{w64, cast_unsigned}
use Rattle.std.specs.List.{list_any}
use Rattle.xdp_machine.specs.bpf_isa.declared.operation.Src.{Src}
use Rattle.xdp_machine.specs.bpf_isa.declared.operation.Src.TheVariants.{K, X}
use Rattle.xdp_machine.specs.bpf_isa.declared.operation.Size.{Size}
use Rattle.xdp_machine.specs.bpf_isa.declared.operation.Size.TheVariants.{W}
use Rattle.xdp_machine.specs.bpf_isa.declared.operation.Op.{Op}
use Rattle.xdp_machine.specs.bpf_isa.declared.operation.Op.TheVariants.{Jump, Call, LoadImm, Load, LoadSigned, Abs, Ind, StoreImm, Store, Atomic}
use Rattle.xdp_machine.specs.bpf_isa.declared.instruction.Insn.{Insn}
use Rattle.xdp_machine.specs.bpf_isa.declared.helper.Helper.{Helper}
use Rattle.xdp_machine.specs.bpf_isa.declared.helper.Helper.TheVariants.{Lookup, Update, Delete, Time, Redirect}
use Rattle.xdp_machine.specs.bpf_isa.Helpers.{helper_of}
use Rattle.xdp_machine.specs.xdp_maps.declared.change.Change.{Change}
use Rattle.xdp_machine.specs.Values.{Value, Number, Packet, Stack, Context, Entry, Map, number_in, map_in, ◌>>=◌}
use Rattle.xdp_machine.specs.State.{Machine, register, with_registers}
use Rattle.xdp_machine.specs.Arithmetic.{low, extended}
use Rattle.xdp_machine.specs.Memory.{bytes_in, loaded, loaded_plain, loaded_signed, to_frame, to_stack, to_entry, stored}
use Rattle.xdp_machine.specs.Atomics.{change_of, taking, changed_entry, changed_at, atomic}
use Rattle.xdp_machine.specs.Helpers.{region, lookup, update, delete, redirected, redirect, called}
use Rattle.xdp_machine.specs.Step.{operand, assigned, constant, calls, alu, effect}
use Rattle.kind_core.proofs.TransferLaws.{is_jump}
use Rattle.cover_core.specs.Cover.{undirected_as, undirected}
use Rattle.cover_core.proofs.Silent.{at_place}

-- ---- instructions that are the same but for a distance

pub op_kept : (i : Insn) (op : Op) → (undirected_as i op).op ≡ i.op
op_kept i (Jump w c s) = refl
op_kept i op = refl

dst_kept : (i : Insn) (op : Op) → (undirected_as i op).dst ≡ i.dst
dst_kept i (Jump w c s) = refl
dst_kept i op = refl

src_kept : (i : Insn) (op : Op) → (undirected_as i op).src ≡ i.src
src_kept i (Jump w c s) = refl
src_kept i op = refl

imm_kept : (i : Insn) (op : Op) → (undirected_as i op).imm ≡ i.imm
imm_kept i (Jump w c s) = refl
imm_kept i op = refl

plain_kept : (i : Insn) (op : Op) → is_jump op ≡ false → undirected_as i op ≡ i
plain_kept i (Jump w c s) h = let bad : true ≡ false = h in absurd (cc)
plain_kept i op h = refl

pub same_op : (i j : Insn) → undirected j ≡ undirected i → j.op ≡ i.op
same_op i j h = sym (op_kept j j.op) ∙ ap (λ (x : Insn). x.op) h ∙ op_kept i i.op

pub same_dst : (i j : Insn) → undirected j ≡ undirected i → j.dst ≡ i.dst
same_dst i j h = sym (dst_kept j j.op) ∙ ap (λ (x : Insn). x.dst) h ∙ dst_kept i i.op

pub same_operand : (i j : Insn) (registers : List Value) (s : Src) → undirected j ≡ undirected i → operand registers j s ≡ operand registers i s
same_operand i j registers K h = ap (λ (z : ℤ). Number (cast_unsigned w64 z)) (sym (imm_kept j j.op) ∙ ap (λ (x : Insn). x.imm) h ∙ imm_kept i i.op)
same_operand i j registers X h = ap (register registers) (sym (src_kept j j.op) ∙ ap (λ (x : Insn). x.src) h ∙ src_kept i i.op)

-- any but a conditional jump is the same
pub same_insn : (i j : Insn) → is_jump i.op ≡ false → undirected j ≡ undirected i → j ≡ i
same_insn i j h same = sym (plain_kept j j.op (ap is_jump (same_op i j same) ∙ h)) ∙ same ∙ plain_kept i i.op h

-- ---- what an instruction makes of a machine at another place

abbrev pub moved_to : ℕ → Option Machine → Option Machine
moved_to p None = None
moved_to p (Some m) = Some (at_place p m)

with_at : (p : ℕ) (m : Machine) (o : Option (List Value)) → with_registers (at_place p m) o ≡ moved_to p (with_registers m o)
with_at p m None = refl
with_at p m (Some r) = refl

bind_at : {A : Type 0} (p : ℕ) (o : Option A) (f g : A → Option Machine) → ((x : A) → g x ≡ moved_to p (f x)) → (o >>= g) ≡ moved_to p (o >>= f)
bind_at p None f g h = refl
bind_at p (Some x) f g h = h x

loaded_at : (p : ℕ) (m : Machine) (base : Value) (offset : ℤ) (size : Size) → loaded (at_place p m) base offset size ≡ loaded m base offset size
loaded_at p m (Packet o) offset size = refl
loaded_at p m (Stack o) offset size = refl
loaded_at p m (Entry q key o) offset size = refl
loaded_at p m base offset size = refl

plain_at : (p : ℕ) (m : Machine) (base : Value) (offset : ℤ) (size : Size) → loaded_plain (at_place p m) base offset size ≡ loaded_plain m base offset size
plain_at p m Context offset W = refl
plain_at p m base offset size = loaded_at p m base offset size

signed_at : (p : ℕ) (m : Machine) (base : Value) (offset : ℤ) (size : Size) → loaded_signed (at_place p m) base offset size ≡ loaded_signed m base offset size
signed_at p m base offset size = ap (λ (o : Option Value). (o >>= number_in) >>= (λ n. Some (Number (extended 64 (8 * bytes_in size) n)))) (loaded_at p m base offset size)

stored_at : (p : ℕ) (m : Machine) (base : Value) (offset : ℤ) (size : Size) (v : Value) → stored (at_place p m) base offset size v ≡ moved_to p (stored m base offset size v)
stored_at p m (Packet o) offset size v = bind_at p (number_in v >>= to_frame m.frame (o +ℤ offset) size) (λ frame. Some (record m { frame = frame })) (λ frame. Some (record (at_place p m) { frame = frame })) (λ frame. refl)
stored_at p m (Stack o) offset size v = bind_at p (to_stack m.stack (o +ℤ offset) size v) (λ stack. Some (record m { stack = stack })) (λ stack. Some (record (at_place p m) { stack = stack })) (λ stack. refl)
stored_at p m (Entry q key o) offset size v = bind_at p (number_in v >>= to_entry m.maps q key (o +ℤ offset) size) (λ maps. Some (record m { maps = maps })) (λ maps. Some (record (at_place p m) { maps = maps })) (λ maps. refl)
stored_at p m base offset size v = refl

changed_there : (p : ℕ) (m : Machine) (i : Insn) (size : Size) (base : Value) (offset : ℤ) (x : Change) → changed_at (at_place p m) i size base offset x ≡ moved_to p (changed_at m i size base offset x)
changed_there p m i size (Entry q key o) offset x = bind_at p (changed_entry m.maps q key (o +ℤ offset) size x) _ _ (λ found. with_at p (record m { maps = found.1 }) (taking m.registers x.kind i found.0))
changed_there p m i size base offset x = refl

atomic_at : (p : ℕ) (m : Machine) (i : Insn) (size : Size) → atomic (at_place p m) i size ≡ moved_to p (atomic m i size)
atomic_at p m i size = bind_at p (change_of m.registers i size) _ _ (λ x. changed_there p m i size (register m.registers i.dst) i.offset x)

lookup_at : (p : ℕ) (m : Machine) → lookup (at_place p m) ≡ moved_to p (lookup m)
lookup_at p m = bind_at p (map_in (register m.registers 1)) _ _ (λ q. bind_at p (slice_get m.maps.decls q) _ _ (λ d. bind_at p (region m.stack m.frame d.key (register m.registers 2)) _ _ (λ key. refl)))

update_at : (p : ℕ) (m : Machine) → update (at_place p m) ≡ moved_to p (update m)
update_at p m = bind_at p (map_in (register m.registers 1)) _ _ (λ q. bind_at p (slice_get m.maps.decls q) _ _ (λ d. bind_at p (region m.stack m.frame d.key (register m.registers 2)) _ _ (λ key.
    bind_at p (region m.stack m.frame d.value (register m.registers 3)) _ _ (λ value. bind_at p (number_in (register m.registers 4)) _ _ (λ flags. refl)))))

delete_at : (p : ℕ) (m : Machine) → delete (at_place p m) ≡ moved_to p (delete m)
delete_at p m = bind_at p (map_in (register m.registers 1)) _ _ (λ q. bind_at p (slice_get m.maps.decls q) _ _ (λ d. bind_at p (region m.stack m.frame d.key (register m.registers 2)) _ _ (λ key. refl)))

redirected_at : (p ifindex flags : ℕ) (m : Machine) → redirected ifindex flags (at_place p m) ≡ at_place p (redirected ifindex flags m)
redirected_at p ifindex zero m = refl
redirected_at p ifindex (suc flags) m = refl

redirect_at : (p : ℕ) (m : Machine) → redirect (at_place p m) ≡ moved_to p (redirect m)
redirect_at p m = bind_at p (number_in (register m.registers 1)) _ _ (λ ifindex. bind_at p (number_in (register m.registers 2)) _ _ (λ flags. ap Some (redirected_at p ifindex flags m)))

called_at : (p : ℕ) (m : Machine) (o : Option Helper) → called o (at_place p m) ≡ moved_to p (called o m)
called_at p m (Some Lookup) = lookup_at p m
called_at p m (Some Update) = update_at p m
called_at p m (Some Delete) = delete_at p m
called_at p m (Some Time) = refl
called_at p m (Some Redirect) = redirect_at p m
called_at p m None = refl

calls_at : (p : ℕ) (m : Machine) (i : Insn) → calls (at_place p m) i ≡ moved_to p (calls m i)
calls_at p m i = by_source (i.src == 0)
  where
    by_source : (b : Bool) → (if b then called (helper_of i.imm) (at_place p m) else None) ≡ moved_to p (if b then called (helper_of i.imm) m else None)
    by_source true = called_at p m (helper_of i.imm)
    by_source false = refl

-- the references at both places are the same
pub effect_at : (refs others : List ℕ) (p : ℕ) (m : Machine) (i : Insn) (op : Op) → list_any (λ r. r == p) others ≡ list_any (λ r. r == m.place) refs
    → effect others (at_place p m) i op ≡ moved_to p (effect refs m i op)
effect_at refs others p m i LoadImm h =
    ap (λ (b : Bool). with_registers (at_place p m) (assigned m.registers i (if i.src == 0 then Some (if b then Map (low 32 (cast_unsigned w64 i.imm)) else Number (cast_unsigned w64 i.imm)) else None))) h
    ∙ with_at p m (assigned m.registers i (constant refs m.place i))
effect_at refs others p m i (Load size) h =
    ap (λ (v : Option Value). with_registers (at_place p m) (assigned m.registers i v)) (plain_at p m (register m.registers i.src) i.offset size)
    ∙ with_at p m (assigned m.registers i (loaded_plain m (register m.registers i.src) i.offset size))
effect_at refs others p m i (LoadSigned size) h =
    ap (λ (v : Option Value). with_registers (at_place p m) (assigned m.registers i v)) (signed_at p m (register m.registers i.src) i.offset size)
    ∙ with_at p m (assigned m.registers i (loaded_signed m (register m.registers i.src) i.offset size))
effect_at refs others p m i (StoreImm size) h = stored_at p m (register m.registers i.dst) i.offset size (Number (cast_unsigned w64 i.imm))
effect_at refs others p m i (Store size) h = stored_at p m (register m.registers i.dst) i.offset size (register m.registers i.src)
effect_at refs others p m i (Atomic size) h = atomic_at p m i size
effect_at refs others p m i Call h = calls_at p m i
effect_at refs others p m i (Abs size) h = refl
effect_at refs others p m i (Ind size) h = refl
effect_at refs others p m i op h = with_at p m (alu m.registers i op)
