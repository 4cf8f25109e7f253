-- What a step changes.
use Rattle.std.proofs.Common.{◌≡◌, ◌≢◌, ℕ, zero, suc, ◌+◌, ◌/◌, ◌%◌, ◌^◌, ◌≤◌, ℤ, pos, negsuc, ◌+ℤ◌, Bool, true, false, List, ◌∷◌, length, drop, get_or, set, Some, None, refl, sym, ◌∙◌, ap, subst, arith}
use Rattle.std.specs.Prelude.{Option, if◌then◌else◌, is_some, slice_get, ◌==◌}
use Rattle.std.proofs.lemmas.Bool.{eqb-false}
use Rattle.std.specs.Int.{w64, cast_unsigned}
use Rattle.std.specs.FinMap as map
use Rattle.std.proofs.lemmas.List.{get_or-drop, length-set, get_or-set_other, length-drop}
use Rattle.byteorder.specs.Endian.{little_bytes}
use Rattle.bpf_isa.specs.declared.operation.Op.{Op}
use Rattle.bpf_isa.specs.declared.operation.Op.TheVariants.{Alu, Neg, End, Swap, Ja, Jump, Call, Exit, LoadImm, Abs, Ind, Load, LoadSigned, StoreImm, Store, Atomic}
use Rattle.bpf_isa.specs.declared.operation.Width.TheVariants.{Bits32, Bits64}
use Rattle.bpf_isa.specs.declared.operation.Size.{Size}
use Rattle.bpf_isa.specs.declared.instruction.Insn.{Insn}
use Rattle.bpf_isa.specs.declared.helper.Helper.{Helper}
use Rattle.bpf_isa.specs.declared.helper.Helper.TheVariants.{Lookup, Update, Delete, Time, Redirect}
use Rattle.bpf_isa.specs.Helpers.{helper_of}
use Rattle.bpf_isa.specs.Spelling.{units_of}
use Rattle.bpf_isa.specs.Text.{insn_at}
use Rattle.xdp_maps.specs.declared.change.Change.{Change}
use Rattle.xdp_maps.specs.declared.change.ChangeKind.{ChangeKind}
use Rattle.xdp_maps.specs.declared.change.ChangeKind.TheVariants.{Cmpxchg}
use Rattle.xdp_maps.specs.Contents.{Contents}
use Rattle.xdp_maps.specs.State.{MapState, contents_at, with_contents}
use Rattle.xdp_maps.specs.Calls.{lookup_of, patched, number_before, changed, stored as entry_stored}
use Rattle.xdp_maps.proofs.ByteLaws.{IsBytes-little_bytes, length-patched}
use Rattle.xdp_machine.specs.Values.{Value, Unset, Number, Packet, Stack, Entry, number_in, map_in, ◌>>=◌}
use Rattle.xdp_machine.specs.State.{Code, Machine, register, put, with_registers, begins}
use Rattle.xdp_machine.specs.Memory.{bytes_in, inside, aligned, in_stack, to_slot, to_frame, to_stack, to_entry, number_stored, stored}
use Rattle.xdp_machine.specs.Atomics.{fetches, change_of, taking, changed_entry, changed_at, atomic}
use Rattle.xdp_machine.specs.Helpers.{region, answering, entry_or_null, lookup, update, delete, redirected, redirect, called}
use Rattle.xdp_machine.specs.Step.{Goes, NoCase, goes_to, goes_on, jumps, exits, assigned, renumbered, alu, effect, outcome, outcome_at}
use Rattle.xdp_machine.specs.MachineLaws.{map_under, map_named_as, ChangesOnly, StepsChangeOnly}

pub some_inj : {A : Type 0} (x y : A) → Some x ≡ Some y → x ≡ y
some_inj x y e = cc

-- a chain that gives something has gone through each part
pub bind_inv : {A B P : Type 0} (o : Option A) (f : A → Option B) (b : B) → (o >>= f) ≡ Some b → ((a : A) → o ≡ Some a → f a ≡ Some b → P) → P
bind_inv None f b e k = absurd (cc)
bind_inv (Some a) f b e k = k a refl e

-- the registers keep their number, and R10 what it holds
record KeepsRegisters (old new : List Value) : Type 0 where
  len : length new ≡ length old
  stack_end : register new 10 ≡ register old 10

put-keeps : (rs : List Value) (r : ℕ) (v : Value) (new : List Value) → put rs r v ≡ Some new → KeepsRegisters rs new
put-keeps rs r v new e = by_test (r == 10) refl e
  where
    by_test : (b : Bool) → (r == 10) ≡ b → (if b then None else Some (set rs r v)) ≡ Some new → KeepsRegisters rs new
    by_test true t h = absurd (cc)
    by_test false t h =
        subst (KeepsRegisters rs) (some_inj (set rs r v) new h) (record { len = length-set rs r v; stack_end = get_or-set_other rs r 10 v Unset (λ is. eqb-false r 10 t (sym is)) })

assigned-keeps : (rs : List Value) (i : Insn) (v : Option Value) (new : List Value) → assigned rs i v ≡ Some new → KeepsRegisters rs new
assigned-keeps rs i v new e = bind_inv v (put rs i.dst) new e (λ x _ h. put-keeps rs i.dst x new h)

renumbered-keeps : (rs : List Value) (i : Insn) (f : ℕ → ℕ) (new : List Value) → renumbered rs i f ≡ Some new → KeepsRegisters rs new
renumbered-keeps rs i f new e =
    bind_inv (number_in (register rs i.dst)) (λ n. put rs i.dst (Number (f n))) new e (λ n _ h. put-keeps rs i.dst (Number (f n)) new h)

alu-keeps : (rs : List Value) (i : Insn) (op : Op) (new : List Value) → alu rs i op ≡ Some new → KeepsRegisters rs new
alu-keeps rs i (Alu w c s) new e = assigned-keeps rs i _ new e
alu-keeps rs i (Neg w) new e = renumbered-keeps rs i _ new e
alu-keeps rs i (End s) new e = renumbered-keeps rs i _ new e
alu-keeps rs i Swap new e = renumbered-keeps rs i _ new e
alu-keeps rs i op new e = absurd (cc)

-- a machine of which only the registers are other
with_registers-changes : (named : Option ℕ) (m new : Machine) (rs : Option (List Value)) → ((r : List Value) → rs ≡ Some r → KeepsRegisters m.registers r)
    → with_registers m rs ≡ Some new → ChangesOnly named m new
with_registers-changes named m new None keeps e = absurd (cc)
with_registers-changes named m new (Some r) keeps e =
    subst (ChangesOnly named m) (some_inj (record m { registers = r }) new e) (record {
      ifindex = refl;
      time = refl;
      stack_end = (keeps r refl).stack_end;
      registers = (keeps r refl).len;
      stack = refl;
      frame = refl;
      decls = refl;
      maps = λ q ne. refl;
    })

pub inside-within : (o : ℤ) (n len a : ℕ) → inside o n len ≡ Some a → a + n ≤ len
inside-within (negsuc o) n len a e = absurd (cc)
inside-within (pos b) n len a e = grind (arith, e)

pub to_frame-length : (frame : List ℕ) (o : ℤ) (size : Size) (n : ℕ) (new : List ℕ) → to_frame frame o size n ≡ Some new → length new ≡ length frame
to_frame-length frame o size n new e =
    bind_inv (inside o (bytes_in size) (length frame)) (λ a. Some (patched frame a (little_bytes (bytes_in size) n))) new e (λ a at h.
    ap length (sym (some_inj (patched frame a (little_bytes (bytes_in size) n)) new h))
    ∙ length-patched frame a (little_bytes (bytes_in size) n) (omega (arith, inside-within o (bytes_in size) (length frame) a at, (IsBytes-little_bytes (bytes_in size) n).len)))

to_stack-length : (stack : List Value) (o : ℤ) (size : Size) (v : Value) (new : List Value) → to_stack stack o size v ≡ Some new → length new ≡ length stack
to_stack-length stack o size v new e =
    bind_inv (in_stack o (bytes_in size)) (λ a. to_slot size (a % 8) (get_or stack (a / 8) Unset) v >>= (λ slot. Some (set stack (a / 8) slot))) new e (λ a _ h.
    bind_inv (to_slot size (a % 8) (get_or stack (a / 8) Unset) v) (λ slot. Some (set stack (a / 8) slot)) new h (λ slot _ k.
    ap length (sym (some_inj (set stack (a / 8) slot) new k)) ∙ length-set stack (a / 8) slot))

-- the maps but one hold what they held
record KeepsOthers (q : ℕ) (old new : MapState) : Type 0 where
  decls : new.decls ≡ old.decls
  others : (p : ℕ) → p ≢ q → contents_at new p ≡ contents_at old p

with_contents-keeps : (s : MapState) (q : ℕ) (c : Contents) → KeepsOthers q s (with_contents s q c)
with_contents-keeps s q c = record { decls = refl; others = λ p ne. get_or-set_other s.contents q p c map.empty ne }

number_stored-keeps : (maps : MapState) (q : ℕ) (key : List ℕ) (a : ℕ) (size : Size) (n : ℕ) (new : MapState) → number_stored maps q key a size n ≡ Some new → KeepsOthers q maps new
number_stored-keeps maps q key a size n new e = by_test (is_some (lookup_of (contents_at maps q) key)) e
  where
    by_test : (b : Bool) → (if b then Some (with_contents maps q (entry_stored (contents_at maps q) key a (little_bytes (bytes_in size) n))) else None) ≡ Some new → KeepsOthers q maps new
    by_test true h = subst (KeepsOthers q maps) (some_inj (with_contents maps q (entry_stored (contents_at maps q) key a (little_bytes (bytes_in size) n))) new h) (with_contents-keeps maps q _)
    by_test false h = absurd (cc)

to_entry-keeps : (maps : MapState) (q : ℕ) (key : List ℕ) (o : ℤ) (size : Size) (n : ℕ) (new : MapState) → to_entry maps q key o size n ≡ Some new → KeepsOthers q maps new
to_entry-keeps maps q key o size n new e =
    bind_inv (slice_get maps.decls q) (λ d. aligned o (bytes_in size) d.value >>= (λ a. number_stored maps q key a size n)) new e (λ d _ h.
    bind_inv (aligned o (bytes_in size) d.value) (λ a. number_stored maps q key a size n) new h (λ a _ k.
    number_stored-keeps maps q key a size n new k))

changed_entry-keeps : (maps : MapState) (q : ℕ) (key : List ℕ) (o : ℤ) (size : Size) (x : Change) (found : ℕ × MapState) → changed_entry maps q key o size x ≡ Some found → KeepsOthers q maps found.1
changed_entry-keeps maps q key o size x found e =
    bind_inv (slice_get maps.decls q) (λ d. aligned o (bytes_in size) d.value >>= (λ a. number_before (contents_at maps q) key a x >>= (λ old. Some (old, with_contents maps q (changed (contents_at maps q) key a x))))) found e (λ d _ h.
    bind_inv (aligned o (bytes_in size) d.value) (λ a. number_before (contents_at maps q) key a x >>= (λ old. Some (old, with_contents maps q (changed (contents_at maps q) key a x)))) found h (λ a _ k.
    bind_inv (number_before (contents_at maps q) key a x) (λ old. Some (old, with_contents maps q (changed (contents_at maps q) key a x))) found k (λ old _ l.
    subst (λ f. KeepsOthers q maps f.1) (some_inj (old, with_contents maps q (changed (contents_at maps q) key a x)) found l) (with_contents-keeps maps q _))))

-- a machine is as it was
same : (named : Option ℕ) (m : Machine) → ChangesOnly named m m
same named m = record { ifindex = refl; time = refl; stack_end = refl; registers = refl; stack = refl; frame = refl; decls = refl; maps = λ q ne. refl }

-- the same machine with other maps, but for one as they were
other_maps : (q : ℕ) (m : Machine) (maps : MapState) → KeepsOthers q m.maps maps → ChangesOnly (Some q) m (record m { maps = maps })
other_maps q m maps h = record {
  ifindex = refl;
  time = refl;
  stack_end = refl;
  registers = refl;
  stack = refl;
  frame = refl;
  decls = h.decls;
  maps = λ p ne. h.others p (λ is. ne (ap Some (sym is)));
}

stored-changes : (m : Machine) (base : Value) (offset : ℤ) (size : Size) (v : Value) (new : Machine) → stored m base offset size v ≡ Some new → ChangesOnly (map_under base) m new
stored-changes m (Packet o) offset size v new e =
    bind_inv (number_in v >>= to_frame m.frame (o +ℤ offset) size) (λ frame. Some (record m { frame = frame })) new e (λ frame f h.
    bind_inv (number_in v) (to_frame m.frame (o +ℤ offset) size) frame f (λ n _ k.
    subst (ChangesOnly None m) (some_inj (record m { frame = frame }) new h) (record {
      ifindex = refl;
      time = refl;
      stack_end = refl;
      registers = refl;
      stack = refl;
      frame = to_frame-length m.frame (o +ℤ offset) size n frame k;
      decls = refl;
      maps = λ q ne. refl;
    })))
stored-changes m (Stack o) offset size v new e =
    bind_inv (to_stack m.stack (o +ℤ offset) size v) (λ stack. Some (record m { stack = stack })) new e (λ stack f h.
    subst (ChangesOnly None m) (some_inj (record m { stack = stack }) new h) (record {
      ifindex = refl;
      time = refl;
      stack_end = refl;
      registers = refl;
      stack = to_stack-length m.stack (o +ℤ offset) size v stack f;
      frame = refl;
      decls = refl;
      maps = λ q ne. refl;
    }))
stored-changes m (Entry q key o) offset size v new e =
    bind_inv (number_in v >>= to_entry m.maps q key (o +ℤ offset) size) (λ maps. Some (record m { maps = maps })) new e (λ maps f h.
    bind_inv (number_in v) (to_entry m.maps q key (o +ℤ offset) size) maps f (λ n _ k.
    subst (ChangesOnly (Some q) m) (some_inj (record m { maps = maps }) new h) (other_maps q m maps (to_entry-keeps m.maps q key (o +ℤ offset) size n maps k))))
stored-changes m base offset size v new e = absurd (cc)

taking-keeps : (rs : List Value) (kind : ChangeKind) (i : Insn) (old : ℕ) (new : List Value) → taking rs kind i old ≡ Some new → KeepsRegisters rs new
taking-keeps rs Cmpxchg i old new e = put-keeps rs 0 (Number old) new e
taking-keeps rs kind i old new e = by_test (fetches (cast_unsigned w64 i.imm)) e
  where
    by_test : (b : Bool) → (if b then put rs i.src (Number old) else Some rs) ≡ Some new → KeepsRegisters rs new
    by_test true h = put-keeps rs i.src (Number old) new h
    by_test false h = subst (KeepsRegisters rs) (some_inj rs new h) (record { len = refl; stack_end = refl })

-- registers that are other on top of other changes
and_registers : (named : Option ℕ) (m other new : Machine) (rs : Option (List Value)) → ChangesOnly named m other → ((r : List Value) → rs ≡ Some r → KeepsRegisters m.registers r)
    → with_registers other rs ≡ Some new → ChangesOnly named m new
and_registers named m other new None before keeps e = absurd (cc)
and_registers named m other new (Some r) before keeps e =
    subst (ChangesOnly named m) (some_inj (record other { registers = r }) new e) (record {
      ifindex = before.ifindex;
      time = before.time;
      stack_end = (keeps r refl).stack_end;
      registers = (keeps r refl).len;
      stack = before.stack;
      frame = before.frame;
      decls = before.decls;
      maps = before.maps;
    })

changed_at-changes : (m : Machine) (i : Insn) (size : Size) (base : Value) (offset : ℤ) (x : Change) (new : Machine) → changed_at m i size base offset x ≡ Some new → ChangesOnly (map_under base) m new
changed_at-changes m i size (Entry q key o) offset x new e =
    bind_inv (changed_entry m.maps q key (o +ℤ offset) size x) (λ found. with_registers (record m { maps = found.1 }) (taking m.registers x.kind i found.0)) new e (λ found f h.
    and_registers (Some q) m (record m { maps = found.1 }) new (taking m.registers x.kind i found.0)
    (other_maps q m found.1 (changed_entry-keeps m.maps q key (o +ℤ offset) size x found f))
    (λ r k. taking-keeps m.registers x.kind i found.0 r k) h)
changed_at-changes m i size base offset x new e = absurd (cc)

atomic-changes : (m : Machine) (i : Insn) (size : Size) (new : Machine) → atomic m i size ≡ Some new → ChangesOnly (map_under (register m.registers i.dst)) m new
atomic-changes m i size new e =
    bind_inv (change_of m.registers i size) (changed_at m i size (register m.registers i.dst) i.offset) new e (λ x _ h.
    changed_at-changes m i size (register m.registers i.dst) i.offset x new h)

-- the registers after a call
answer-keeps : (v : Value) (rs : List Value) → length rs ≡ 11 → KeepsRegisters rs (v ∷ Unset ∷ Unset ∷ Unset ∷ Unset ∷ Unset ∷ drop 6 rs)
answer-keeps v rs len = record {
  len = simp length-drop (omega (arith, len));
  stack_end = get_or-drop 6 rs 4 Unset;
}

answering-changes : (named : Option ℕ) (m other new : Machine) (v : Value) → length m.registers ≡ 11 → other.registers ≡ m.registers → ChangesOnly named m other
    → Some (answering v other) ≡ Some new → ChangesOnly named m new
answering-changes named m other new v len regs before e =
    let keeps : KeepsRegisters m.registers (answering v other).registers = subst (λ rs. KeepsRegisters m.registers (v ∷ Unset ∷ Unset ∷ Unset ∷ Unset ∷ Unset ∷ drop 6 rs)) (sym regs) (answer-keeps v m.registers len) in
    subst (ChangesOnly named m) (some_inj (answering v other) new e) (record {
      ifindex = before.ifindex;
      time = before.time;
      stack_end = keeps.stack_end;
      registers = keeps.len;
      stack = before.stack;
      frame = before.frame;
      decls = before.decls;
      maps = before.maps;
    })

lookup-changes : (m new : Machine) → length m.registers ≡ 11 → lookup m ≡ Some new → ChangesOnly (map_in (register m.registers 1)) m new
lookup-changes m new len e =
    bind_inv (map_in (register m.registers 1)) (λ q. slice_get m.maps.decls q >>= (λ d. region m.stack m.frame d.key (register m.registers 2) >>= (λ key. Some (answering (entry_or_null q key (contents_at m.maps q)) m)))) new e (λ q _ h.
    bind_inv (slice_get m.maps.decls q) (λ d. region m.stack m.frame d.key (register m.registers 2) >>= (λ key. Some (answering (entry_or_null q key (contents_at m.maps q)) m))) new h (λ d _ k.
    bind_inv (region m.stack m.frame d.key (register m.registers 2)) (λ key. Some (answering (entry_or_null q key (contents_at m.maps q)) m)) new k (λ key _ l.
    answering-changes _ m m new (entry_or_null q key (contents_at m.maps q)) len refl (same _ m) l)))

-- a call that leaves other contents in the map of R1
contents-change : (q : ℕ) (m new : Machine) (v : Value) (c : Contents) → length m.registers ≡ 11 → map_in (register m.registers 1) ≡ Some q
    → Some (answering v (record m { maps = with_contents m.maps q c })) ≡ Some new → ChangesOnly (map_in (register m.registers 1)) m new
contents-change q m new v c len named e =
    let P : Option ℕ → Type 0 = λ o. ChangesOnly o m new in
    subst P (sym named) (answering-changes (Some q) m (record m { maps = with_contents m.maps q c }) new v len refl (other_maps q m _ (with_contents-keeps m.maps q c)) e)

update-changes : (m new : Machine) → length m.registers ≡ 11 → update m ≡ Some new → ChangesOnly (map_in (register m.registers 1)) m new
update-changes m new len e =
    bind_inv (map_in (register m.registers 1)) _ new e (λ q named h.
    bind_inv (slice_get m.maps.decls q) _ new h (λ d _ k.
    bind_inv (region m.stack m.frame d.key (register m.registers 2)) _ new k (λ key _ l.
    bind_inv (region m.stack m.frame d.value (register m.registers 3)) _ new l (λ value _ n.
    bind_inv (number_in (register m.registers 4)) _ new n (λ flags _ o.
    contents-change q m new _ _ len named o)))))

delete-changes : (m new : Machine) → length m.registers ≡ 11 → delete m ≡ Some new → ChangesOnly (map_in (register m.registers 1)) m new
delete-changes m new len e =
    bind_inv (map_in (register m.registers 1)) _ new e (λ q named h.
    bind_inv (slice_get m.maps.decls q) _ new h (λ d _ k.
    bind_inv (region m.stack m.frame d.key (register m.registers 2)) _ new k (λ key _ l.
    contents-change q m new _ _ len named l)))

redirected-changes : (named : Option ℕ) (ifindex flags : ℕ) (m new : Machine) → length m.registers ≡ 11 → Some (redirected ifindex flags m) ≡ Some new → ChangesOnly named m new
redirected-changes named ifindex zero m new len e =
    let target_alone : ChangesOnly named m (record m { target = ifindex % 2 ^ 32 }) = record { ifindex = refl; time = refl; stack_end = refl; registers = refl; stack = refl; frame = refl; decls = refl; maps = λ q ne. refl } in
    answering-changes named m (record m { target = ifindex % 2 ^ 32 }) new (Number 4) len refl target_alone e
redirected-changes named ifindex (suc flags) m new len e = answering-changes named m m new (Number 0) len refl (same named m) e

redirect-changes : (named : Option ℕ) (m new : Machine) → length m.registers ≡ 11 → redirect m ≡ Some new → ChangesOnly named m new
redirect-changes named m new len e =
    bind_inv (number_in (register m.registers 1)) _ new e (λ ifindex _ h.
    bind_inv (number_in (register m.registers 2)) _ new h (λ flags _ k.
    redirected-changes named ifindex flags m new len k))

pub chosen : {P : Type 0} (b : Bool) (x y : Option Machine) (new : Machine) → (if b then x else y) ≡ Some new → (x ≡ Some new → P) → (y ≡ Some new → P) → P
chosen true x y new e f g = f e
chosen false x y new e f g = g e

called-changes : (h : Option Helper) (m new : Machine) → length m.registers ≡ 11 → called h m ≡ Some new → ChangesOnly (map_in (register m.registers 1)) m new
called-changes (Some Lookup) m new len e = lookup-changes m new len e
called-changes (Some Update) m new len e = update-changes m new len e
called-changes (Some Delete) m new len e = delete-changes m new len e
called-changes (Some Time) m new len e = answering-changes _ m m new (Number m.time) len refl (same _ m) e
called-changes (Some Redirect) m new len e = redirect-changes _ m new len e
called-changes None m new len e = absurd (cc)

-- what an instruction that does not jump changes
effect-changes : (refs : List ℕ) (m : Machine) (i : Insn) (op : Op) (new : Machine) → length m.registers ≡ 11 → effect refs m i op ≡ Some new → ChangesOnly (map_named_as m i op) m new
effect-changes refs m i LoadImm new len e = with_registers-changes _ m new _ (λ r h. assigned-keeps m.registers i _ r h) e
effect-changes refs m i (Load size) new len e = with_registers-changes _ m new _ (λ r h. assigned-keeps m.registers i _ r h) e
effect-changes refs m i (LoadSigned size) new len e = with_registers-changes _ m new _ (λ r h. assigned-keeps m.registers i _ r h) e
effect-changes refs m i (StoreImm size) new len e = stored-changes m _ _ size _ new e
effect-changes refs m i (Store size) new len e = stored-changes m _ _ size _ new e
effect-changes refs m i (Atomic size) new len e = atomic-changes m i size new e
effect-changes refs m i Call new len e = chosen (i.src == 0) (called (helper_of i.imm) m) None new e (called-changes (helper_of i.imm) m new len) (λ n. absurd (cc))
effect-changes refs m i (Abs size) new len e = absurd (cc)
effect-changes refs m i (Ind size) new len e = absurd (cc)
effect-changes refs m i op new len e = with_registers-changes _ m new _ (λ r h. alu-keeps m.registers i op r h) e

-- going on changes the place alone
goes_to-changes : (named : Option ℕ) (insns : List Insn) (to : ℤ) (m other new : Machine) → ChangesOnly named m other → goes_to insns to other ≡ Goes new → ChangesOnly named m new
goes_to-changes named insns (negsuc to) m other new before e = absurd (cc)
goes_to-changes named insns (pos to) m other new before e = by_test (begins insns to) e
  where
    goes_inj : (a b : Machine) → Goes a ≡ Goes b → a ≡ b
    goes_inj a b h = cc

    by_test : (b : Bool) → (if b then Goes (record other { place = to }) else NoCase) ≡ Goes new → ChangesOnly named m new
    by_test false h = absurd (cc)
    by_test true h = subst (ChangesOnly named m) (goes_inj (record other { place = to }) new h) (record {
      ifindex = before.ifindex;
      time = before.time;
      stack_end = before.stack_end;
      registers = before.registers;
      stack = before.stack;
      frame = before.frame;
      decls = before.decls;
      maps = before.maps;
    })

goes_on-changes : (named : Option ℕ) (insns : List Insn) (place units : ℕ) (m new : Machine) (change : Option Machine) → ((other : Machine) → change ≡ Some other → ChangesOnly named m other)
    → goes_on insns place units change ≡ Goes new → ChangesOnly named m new
goes_on-changes named insns place units m new None keeps e = absurd (cc)
goes_on-changes named insns place units m new (Some other) keeps e = goes_to-changes named insns (pos (place + units)) m other new (keeps other refl) e

jumps-changes : (named : Option ℕ) (insns : List Insn) (distance : ℤ) (m new : Machine) (taken : Option Bool) → jumps insns distance m taken ≡ Goes new → ChangesOnly named m new
jumps-changes named insns distance m new None e = absurd (cc)
jumps-changes named insns distance m new (Some taken) e = goes_to-changes named insns _ m m new (same named m) e

pub exits-goes : (n : Option ℕ) (new : Machine) → exits n ≡ Goes new → ⊥
exits-goes None new e = cc
exits-goes (Some n) new e = cc

outcome-changes : (code : Code) (m : Machine) (i : Insn) (op : Op) (new : Machine) → length m.registers ≡ 11 → outcome code m i op ≡ Goes new → ChangesOnly (map_named_as m i op) m new
outcome-changes code m i (Ja Bits64) new len e = goes_to-changes None code.insns _ m m new (same None m) e
outcome-changes code m i (Ja Bits32) new len e = goes_to-changes None code.insns _ m m new (same None m) e
outcome-changes code m i (Jump w c s) new len e = jumps-changes None code.insns _ m new _ e
outcome-changes code m i Exit new len e = absurd (exits-goes _ new e)
outcome-changes code m i op new len e =
    goes_on-changes (map_named_as m i op) code.insns m.place (units_of op) m new (effect code.refs m i op) (λ other h. effect-changes code.refs m i op other len h) e

changes-at : (code : Code) (m : Machine) (i : Option Insn) (new : Machine) → length m.registers ≡ 11 → outcome_at code m i ≡ Goes new
    → ChangesOnly (i >>= (λ x. map_named_as m x x.op)) m new
changes-at code m None new len e = absurd (cc)
changes-at code m (Some i) new len e = outcome-changes code m i i.op new len e

pub steps_change_only : StepsChangeOnly
steps_change_only code old new len e = changes-at code old (insn_at code.insns old.place) new len e
