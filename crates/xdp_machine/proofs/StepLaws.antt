-- A step and what it does to the maps, on two machines that are alike but for what their maps hold.
use Rattle.std.proofs.Common.{◌≡◌, ◌≢◌, ℕ, zero, suc, ◌+◌, ◌*◌, ℤ, pos, negsuc, ◌+ℤ◌, Bool, true, false, List, Some, None, refl, sym, ◌∙◌, ap, subst}
use Rattle.std.specs.Prelude.{Option, if◌then◌else◌, is_some, slice_get, ◌==◌}
use Rattle.std.proofs.lemmas.List.{set-get_or}
use Rattle.std.proofs.lemmas.Option.{get_or_from_slice_get}
use Rattle.std.specs.Int.{w64, cast_unsigned}
use Rattle.std.specs.FinMap as finite
use Rattle.byteorder.specs.Endian.{little_bytes}
use Rattle.bpf_isa.specs.declared.operation.Op.{Op}
use Rattle.bpf_isa.specs.declared.operation.Op.TheVariants.{Ja, Jump, Call, Exit, LoadImm, Abs, Ind, Load, LoadSigned, StoreImm, Store, Atomic}
use Rattle.bpf_isa.specs.declared.operation.Width.TheVariants.{Bits32, Bits64}
use Rattle.bpf_isa.specs.declared.operation.Size.{Size}
use Rattle.bpf_isa.specs.declared.operation.Size.TheVariants.{W}
use Rattle.bpf_isa.specs.declared.instruction.Insn.{Insn}
use Rattle.bpf_isa.specs.declared.helper.Helper.{Helper}
use Rattle.bpf_isa.specs.declared.helper.Helper.TheVariants.{Lookup, Update, Delete, Time, Redirect}
use Rattle.bpf_isa.specs.Helpers.{helper_of}
use Rattle.bpf_isa.specs.Spelling.{units_of}
use Rattle.bpf_isa.specs.Text.{insn_at}
use Rattle.xdp_maps.specs.declared.change.Change.{Change}
use Rattle.xdp_maps.specs.declared.change.ChangeKind.{ChangeKind}
use Rattle.xdp_maps.specs.declared.change.ChangeKind.TheVariants.{Cmpxchg}
use Rattle.xdp_maps.specs.declared.decl.MapDecl.{MapDecl}
use Rattle.xdp_maps.specs.Contents.{Contents}
use Rattle.xdp_maps.specs.State.{MapState, no_decl, decl_at, contents_at, with_contents}
use Rattle.xdp_maps.specs.Calls.{lookup_of, number_before, changed, update_number, updated, delete_number, deleted, stored as entry_stored}
use Rattle.xdp_maps.specs.Operations as map
use Rattle.xdp_maps.specs.Operations.{Operation, operated}
use Rattle.xdp_maps.specs.Touched.{AnswersSame}
use Rattle.xdp_machine.specs.Values.{Value, Number, Packet, Stack, Context, Entry, number_in, map_in, ◌>>=◌}
use Rattle.xdp_machine.specs.State.{Code, Machine, register, put, with_registers, begins}
use Rattle.xdp_machine.specs.Memory.{bytes_in, aligned, number_at, loaded, from_entry, from_context, loaded_plain, loaded_signed, to_frame, to_stack, to_entry, number_stored, stored}
use Rattle.xdp_machine.specs.Arithmetic.{extended}
use Rattle.xdp_machine.specs.Atomics.{fetches, change_of, taking, changed_entry, changed_at, atomic}
use Rattle.xdp_machine.specs.Helpers.{region, answering, lookup, update, delete, redirected, redirect, packet_time, called, under_key, updates, calls_on}
use Rattle.xdp_machine.specs.Step.{Goes, NoCase, goes_to, goes_on, jumps, exits, assigned, constant, alu, effect, outcome, outcome_at, step}
use Rattle.xdp_machine.specs.Touched.{accesses, stores, answers_old, atomics, operation_as, operation_at, after}
use Rattle.xdp_machine.specs.MachineLaws.{with_maps, StepsOperate}
use Rattle.xdp_machine.proofs.ChangeLaws.{some_inj, bind_inv}

-- ---- chains of two machines

-- where both chains give something, both have gone through their first part
both_inv : {A B C P : Type 0} (o : Option A) (f : A → Option B) (g : A → Option C) (b : B) (c : C) → (o >>= f) ≡ Some b → (o >>= g) ≡ Some c
    → ((a : A) → o ≡ Some a → f a ≡ Some b → g a ≡ Some c → P) → P
both_inv None f g b c e e' k = absurd (cc)
both_inv (Some a) f g b c e e' k = k a refl e e'

-- and what the first part gives goes on
through : {A B : Type 0} (o : Option A) (f : A → Option B) (a : A) → o ≡ Some a → (o >>= f) ≡ f a
through o f a e = ap (λ x. x >>= f) e

nothing_follows : {A B : Type 0} (o : Option A) (f : A → Option B) → ((a : A) → f a ≡ None) → (o >>= f) ≡ None
nothing_follows None f h = refl
nothing_follows (Some a) f h = h a

one_value : {A : Type 0} (o : Option A) (x y : A) → o ≡ Some x → o ≡ Some y → x ≡ y
one_value o x y e f = cc

-- ---- what is to be shown

-- an operation answers the same, if there is one
abbrev pub AnsweredSame : Option (ℕ × Operation) → MapState → MapState → Type 0
AnsweredSame None s t = Unit {0}
AnsweredSame (Some (q, op)) s t = AnswersSame s t q op

-- the maps, with other contents
abbrev pub holding : MapState → List Contents → MapState
holding s cs = record { decls = s.decls; contents = cs }

abbrev pub over : Machine → List Contents → Machine
over m cs = record m { maps = holding m.maps cs }

-- where the operation answers the same, the machine is the same but for its maps, to which the operation was done
abbrev Same : Machine → List Contents → Option (ℕ × Operation) → Machine → Machine → Type 0
Same m cs o new other = AnsweredSame o m.maps (holding m.maps cs) → other ≡ record new { maps = after o (holding m.maps cs) }

as_is : (m : Machine) (cs : List Contents) (o p : Option (ℕ × Operation)) (new other : Machine) → o ≡ p → Same m cs p new other → Same m cs o new other
as_is m cs o p new other is h = subst (λ (x : Option (ℕ × Operation)). Same m cs x new other) (sym is) h

-- an operation that only reads leaves the maps
lookup_leaves : (s : MapState) (q : ℕ) (key : List ℕ) → operated s q (map.Lookup key) ≡ s
lookup_leaves s q key = ap (λ cs. record s { contents = cs }) (set-get_or s.contents q finite.empty)

load_leaves : (s : MapState) (q : ℕ) (key : List ℕ) → operated s q (map.Load key) ≡ s
load_leaves s q key = ap (λ cs. record s { contents = cs }) (set-get_or s.contents q finite.empty)

-- ---- registers

registers_same : (m : Machine) (cs : List Contents) (rs rs' : Option (List Value)) (new other : Machine) → with_registers m rs ≡ Some new
    → with_registers (over m cs) rs' ≡ Some other → ((r r' : List Value) → rs ≡ Some r → rs' ≡ Some r' → r' ≡ r) → other ≡ record new { maps = holding m.maps cs }
registers_same m cs None rs' new other e e' same = absurd (cc)
registers_same m cs (Some r) None new other e e' same = absurd (cc)
registers_same m cs (Some r) (Some r') new other e e' same =
    sym (some_inj (record (over m cs) { registers = r' }) other e')
    ∙ ap (λ (x : List Value). record (over m cs) { registers = x }) (same r r' refl refl)
    ∙ ap (λ (x : Machine). record x { maps = holding m.maps cs }) (some_inj (record m { registers = r }) new e)

alone_same : (m : Machine) (cs : List Contents) (rs : Option (List Value)) (new other : Machine) → with_registers m rs ≡ Some new
    → with_registers (over m cs) rs ≡ Some other → Same m cs None new other
alone_same m cs rs new other e e' _ = registers_same m cs rs rs new other e e' (λ r r' f f'. one_value rs r' r f' f)

-- ---- loads

-- what two loads find is the same, where the operation answers the same; and it leaves the maps
record Loaded (m : Machine) (cs : List Contents) (o : Option (ℕ × Operation)) (v v' : Value) : Type 0 where
  value : AnsweredSame o m.maps (holding m.maps cs) → v' ≡ v
  leaves : (s : MapState) → after o s ≡ s

own_loaded : (m : Machine) (cs : List Contents) (o : Option Value) (v v' : Value) → o ≡ Some v → o ≡ Some v' → Loaded m cs None v v'
own_loaded m cs o v v' e e' = record { value = λ _. one_value o v' v e' e; leaves = λ s. refl }

entry_loaded : (m : Machine) (cs : List Contents) (q : ℕ) (key : List ℕ) (o offset : ℤ) (size : Size) (v v' : Value) → from_entry m.maps q key (o +ℤ offset) size ≡ Some v
    → from_entry (holding m.maps cs) q key (o +ℤ offset) size ≡ Some v' → Loaded m cs (accesses m.maps (Entry q key o) offset size (λ key a. map.Load key)) v v'
entry_loaded m cs q key o offset size v v' e e' =
    both_inv (slice_get m.maps.decls q) _ _ v v' e e' (λ d is h h'.
    both_inv (aligned (o +ℤ offset) (bytes_in size) d.value) _ _ v v' h h' (λ a at k k'.
    let op : accesses m.maps (Entry q key o) offset size (λ key a. map.Load key) ≡ Some (q, map.Load key) =
    through (slice_get m.maps.decls q) _ d is ∙ through (aligned (o +ℤ offset) (bytes_in size) d.value) _ a at in
    subst (λ (x : Option (ℕ × Operation)). Loaded m cs x v v') (sym op) (record {
      value = λ same.
          let found : List ℕ → Option Value = λ value. Some (Number (number_at size a value)) in
          one_value (lookup_of (contents_at (holding m.maps cs) q) key >>= found) v' v k' (ap (λ x. x >>= found) (sym same) ∙ k);
      leaves = λ s. load_leaves s q key;
    })))

loaded_same : (m : Machine) (cs : List Contents) (base : Value) (offset : ℤ) (size : Size) (v v' : Value) → loaded m base offset size ≡ Some v → loaded (over m cs) base offset size ≡ Some v'
    → Loaded m cs (accesses m.maps base offset size (λ key a. map.Load key)) v v'
loaded_same m cs (Packet o) offset size v v' e e' = own_loaded m cs _ v v' e e'
loaded_same m cs (Stack o) offset size v v' e e' = own_loaded m cs _ v v' e e'
loaded_same m cs (Entry q key o) offset size v v' e e' = entry_loaded m cs q key o offset size v v' e e'
loaded_same m cs base offset size v v' e e' = absurd (cc)

plain_same : (m : Machine) (cs : List Contents) (base : Value) (offset : ℤ) (size : Size) (v v' : Value) → loaded_plain m base offset size ≡ Some v → loaded_plain (over m cs) base offset size ≡ Some v'
    → Loaded m cs (accesses m.maps base offset size (λ key a. map.Load key)) v v'
plain_same m cs Context offset W v v' e e' = own_loaded m cs (from_context m offset) v v' e e'
plain_same m cs base offset size v v' e e' = loaded_same m cs base offset size v v' e e'

signed_same : (m : Machine) (cs : List Contents) (base : Value) (offset : ℤ) (size : Size) (v v' : Value) → loaded_signed m base offset size ≡ Some v → loaded_signed (over m cs) base offset size ≡ Some v'
    → Loaded m cs (accesses m.maps base offset size (λ key a. map.Load key)) v v'
signed_same m cs base offset size v v' e e' =
    bind_inv (loaded m base offset size >>= number_in) _ v e (λ n f g.
    bind_inv (loaded m base offset size) number_in n f (λ w l number.
    bind_inv (loaded (over m cs) base offset size >>= number_in) _ v' e' (λ n' f' g'.
    bind_inv (loaded (over m cs) base offset size) number_in n' f' (λ w' l' number'.
    let under = loaded_same m cs base offset size w w' l l' in
    record {
      value = λ same.
          let number_same : n' ≡ n = one_value (number_in w) n' n (ap number_in (sym (under.value same)) ∙ number') number in
          sym (some_inj _ v' g') ∙ ap (λ k. Number (extended 64 (8 * bytes_in size) k)) number_same ∙ some_inj _ v g;
      leaves = under.leaves;
    }))))

assigned_same : (m : Machine) (cs : List Contents) (i : Insn) (o : Option (ℕ × Operation)) (x x' : Option Value) (new other : Machine)
    → with_registers m (assigned m.registers i x) ≡ Some new → with_registers (over m cs) (assigned m.registers i x') ≡ Some other
    → ((v v' : Value) → x ≡ Some v → x' ≡ Some v' → Loaded m cs o v v') → Same m cs o new other
assigned_same m cs i o None x' new other e e' load same = absurd (cc)
assigned_same m cs i o (Some v) None new other e e' load same = absurd (cc)
assigned_same m cs i o (Some v) (Some v') new other e e' load same =
    let l = load v v' refl refl in
    registers_same m cs _ _ new other e e' (λ r r' f f'. one_value (put m.registers i.dst v) r' r (ap (put m.registers i.dst) (sym (l.value same)) ∙ f') f)
    ∙ ap (λ (s : MapState). record new { maps = s }) (sym (l.leaves (holding m.maps cs)))

-- ---- stores

-- the machine with its maps replaced, on both sides
replaced : (m : Machine) (cs : List Contents) (o : Option (ℕ × Operation)) (new other : Machine) → Some (record m { maps = after o m.maps }) ≡ Some new
    → Some (record m { maps = after o (holding m.maps cs) }) ≡ Some other → other ≡ record new { maps = after o (holding m.maps cs) }
replaced m cs o new other e e' =
    sym (some_inj (record m { maps = after o (holding m.maps cs) }) other e')
    ∙ ap (λ (x : Machine). record x { maps = after o (holding m.maps cs) }) (some_inj (record m { maps = after o m.maps }) new e)

number_stored-is : (s : MapState) (q : ℕ) (key : List ℕ) (a : ℕ) (size : Size) (n : ℕ) (new : MapState) → number_stored s q key a size n ≡ Some new
    → operated s q (map.Store key a (little_bytes (bytes_in size) n)) ≡ new
number_stored-is s q key a size n new e = by_test (is_some (lookup_of (contents_at s q) key)) e
  where
    by_test : (b : Bool) → (if b then Some (with_contents s q (entry_stored (contents_at s q) key a (little_bytes (bytes_in size) n))) else None) ≡ Some new
        → operated s q (map.Store key a (little_bytes (bytes_in size) n)) ≡ new
    by_test true h = some_inj _ new h
    by_test false h = absurd (cc)

record Stored (m : Machine) (cs : List Contents) (o : Option (ℕ × Operation)) (s s' : MapState) : Type 0 where
  op : Option (ℕ × Operation)
  is : o ≡ op
  here : after op m.maps ≡ s
  there : after op (holding m.maps cs) ≡ s'

to_entry_same : (m : Machine) (cs : List Contents) (q : ℕ) (key : List ℕ) (o offset : ℤ) (size : Size) (n : ℕ) (s s' : MapState) → to_entry m.maps q key (o +ℤ offset) size n ≡ Some s
    → to_entry (holding m.maps cs) q key (o +ℤ offset) size n ≡ Some s'
    → Stored m cs (accesses m.maps (Entry q key o) offset size (λ k a. map.Store k a (little_bytes (bytes_in size) n))) s s'
to_entry_same m cs q key o offset size n s s' e e' =
    both_inv (slice_get m.maps.decls q) _ _ s s' e e' (λ d is h h'.
    both_inv (aligned (o +ℤ offset) (bytes_in size) d.value) _ _ s s' h h' (λ a at k k'. record {
      op = Some (q, map.Store key a (little_bytes (bytes_in size) n));
      is = through (slice_get m.maps.decls q) _ d is ∙ through (aligned (o +ℤ offset) (bytes_in size) d.value) _ a at;
      here = number_stored-is m.maps q key a size n s k;
      there = number_stored-is (holding m.maps cs) q key a size n s' k';
    }))

stored_same : (m : Machine) (cs : List Contents) (base : Value) (offset : ℤ) (size : Size) (v : Value) (new other : Machine) → stored m base offset size v ≡ Some new
    → stored (over m cs) base offset size v ≡ Some other → Same m cs (stores m base offset size v) new other
stored_same m cs (Packet o) offset size v new other e e' =
    as_is m cs _ None new other (nothing_follows (number_in v) _ (λ n. refl))
    (λ _. both_inv (number_in v >>= to_frame m.frame (o +ℤ offset) size) _ _ new other e e' (λ frame f h h'.
    sym (some_inj (record (over m cs) { frame = frame }) other h') ∙ ap (λ (x : Machine). record x { maps = holding m.maps cs }) (some_inj (record m { frame = frame }) new h)))
stored_same m cs (Stack o) offset size v new other e e' =
    as_is m cs _ None new other (nothing_follows (number_in v) _ (λ n. refl))
    (λ _. both_inv (to_stack m.stack (o +ℤ offset) size v) _ _ new other e e' (λ stack f h h'.
    sym (some_inj (record (over m cs) { stack = stack }) other h') ∙ ap (λ (x : Machine). record x { maps = holding m.maps cs }) (some_inj (record m { stack = stack }) new h)))
stored_same m cs (Entry q key o) offset size v new other e e' =
    bind_inv (number_in v >>= to_entry m.maps q key (o +ℤ offset) size) _ new e (λ s f g.
    bind_inv (number_in v >>= to_entry (holding m.maps cs) q key (o +ℤ offset) size) _ other e' (λ s' f' g'.
    both_inv (number_in v) (to_entry m.maps q key (o +ℤ offset) size) (to_entry (holding m.maps cs) q key (o +ℤ offset) size) s s' f f' (λ n is h h'.
    let found = to_entry_same m cs q key o offset size n s s' h h' in
    as_is m cs _ found.op new other (through (number_in v) _ n is ∙ found.is)
    (λ _. replaced m cs found.op new other (ap (λ (x : MapState). Some (record m { maps = x })) found.here ∙ g) (ap (λ (x : MapState). Some (record m { maps = x })) found.there ∙ g')))))
stored_same m cs base offset size v new other e e' = absurd (cc)

-- ---- atomic changes

old_same : (s t : MapState) (q : ℕ) (key : List ℕ) (a : ℕ) (x : Change) (fetch : Bool) → AnswersSame s t q (map.Atomic key a x fetch) → fetch ≡ true
    → number_before (contents_at s q) key a x ≡ number_before (contents_at t q) key a x
old_same s t q key a x true same e = same
old_same s t q key a x false same e = absurd (cc)

taking_same : (rs : List Value) (kind : ChangeKind) (i : Insn) (old old' : ℕ) → (answers_old kind (cast_unsigned w64 i.imm) ≡ true → old ≡ old') → taking rs kind i old ≡ taking rs kind i old'
taking_same rs Cmpxchg i old old' same = ap (λ n. put rs 0 (Number n)) (same refl)
taking_same rs kind i old old' same = by_test (fetches (cast_unsigned w64 i.imm)) same
  where
    by_test : (b : Bool) → (b ≡ true → old ≡ old') → (if b then put rs i.src (Number old) else Some rs) ≡ (if b then put rs i.src (Number old') else Some rs)
    by_test true h = ap (λ n. put rs i.src (Number n)) (h refl)
    by_test false h = refl

-- an atomic change in an entry: the number that it finds, and the maps after it
record Changed (s : MapState) (q : ℕ) (key : List ℕ) (a : ℕ) (x : Change) (found : ℕ × MapState) : Type 0 where
  number : number_before (contents_at s q) key a x ≡ Some found.0
  maps : found.1 ≡ with_contents s q (changed (contents_at s q) key a x)

changed_is : (s : MapState) (q : ℕ) (key : List ℕ) (a : ℕ) (x : Change) (found : ℕ × MapState)
    → (number_before (contents_at s q) key a x >>= (λ old. Some (old, with_contents s q (changed (contents_at s q) key a x)))) ≡ Some found → Changed s q key a x found
changed_is s q key a x found e =
    bind_inv (number_before (contents_at s q) key a x) _ found e (λ old is h.
    subst (Changed s q key a x) (some_inj (old, with_contents s q (changed (contents_at s q) key a x)) found h) (record { number = is; maps = refl }))

changed_at_same : (m : Machine) (cs : List Contents) (i : Insn) (size : Size) (base : Value) (offset : ℤ) (x : Change) (new other : Machine) → changed_at m i size base offset x ≡ Some new
    → changed_at (over m cs) i size base offset x ≡ Some other
    → Same m cs (accesses m.maps base offset size (λ key a. map.Atomic key a x (answers_old x.kind (cast_unsigned w64 i.imm)))) new other
changed_at_same m cs i size (Entry q key o) offset x new other e e' =
    bind_inv (changed_entry m.maps q key (o +ℤ offset) size x) _ new e (λ found f g.
    bind_inv (changed_entry (holding m.maps cs) q key (o +ℤ offset) size x) _ other e' (λ found' f' g'.
    both_inv (slice_get m.maps.decls q) _ _ found found' f f' (λ d is h h'.
    both_inv (aligned (o +ℤ offset) (bytes_in size) d.value) _ _ found found' h h' (λ a at k k'.
    let fetch = answers_old x.kind (cast_unsigned w64 i.imm) in
    let here = changed_is m.maps q key a x found k in
    let there = changed_is (holding m.maps cs) q key a x found' k' in
    as_is m cs _ (Some (q, map.Atomic key a x fetch)) new other (through (slice_get m.maps.decls q) _ d is ∙ through (aligned (o +ℤ offset) (bytes_in size) d.value) _ a at) (λ same.
    let numbers : fetch ≡ true → found.0 ≡ found'.0 = λ yes. one_value (number_before (contents_at (holding m.maps cs) q) key a x) found.0 found'.0
    (sym (old_same m.maps (holding m.maps cs) q key a x fetch same yes) ∙ here.number) there.number in
    taken m cs (Some (q, map.Atomic key a x fetch)) found.1 found'.1 (taking m.registers x.kind i found.0) (taking m.registers x.kind i found'.0) new other
    g g' (taking_same m.registers x.kind i found.0 found'.0 numbers) there.maps)))))
  where
    taken : (m : Machine) (cs : List Contents) (p : Option (ℕ × Operation)) (s s' : MapState) (rs rs' : Option (List Value)) (new other : Machine)
        → with_registers (record m { maps = s }) rs ≡ Some new → with_registers (record m { maps = s' }) rs' ≡ Some other → rs ≡ rs' → s' ≡ after p (holding m.maps cs)
        → other ≡ record new { maps = after p (holding m.maps cs) }
    taken m cs p s s' None rs' new other g g' same is = absurd (cc)
    taken m cs p s s' (Some r) None new other g g' same is = absurd (cc)
    taken m cs p s s' (Some r) (Some r') new other g g' same is =
        sym (some_inj (record m { maps = s'; registers = r' }) other g')
        ∙ ap (λ (y : List Value). record m { maps = s'; registers = y }) (sym (some_inj r r' same))
        ∙ ap (λ (y : MapState). record m { maps = y; registers = r }) is
        ∙ ap (λ (y : Machine). record y { maps = after p (holding m.maps cs) }) (some_inj (record m { maps = s; registers = r }) new g)
changed_at_same m cs i size base offset x new other e e' = absurd (cc)

atomic_same : (m : Machine) (cs : List Contents) (i : Insn) (size : Size) (new other : Machine) → atomic m i size ≡ Some new → atomic (over m cs) i size ≡ Some other
    → Same m cs (atomics m i size) new other
atomic_same m cs i size new other e e' =
    both_inv (change_of m.registers i size) _ _ new other e e' (λ x is h h'.
    as_is m cs _ _ new other (through (change_of m.registers i size) _ x is)
    (changed_at_same m cs i size (register m.registers i.dst) i.offset x new other h h'))

-- ---- calls

answered : (m : Machine) (cs : List Contents) (o : Option (ℕ × Operation)) (v v' : Value) (s s' : MapState) (new other : Machine)
    → Some (answering v (record m { maps = s })) ≡ Some new → Some (answering v' (record m { maps = s' })) ≡ Some other → v' ≡ v → s' ≡ after o (holding m.maps cs)
    → other ≡ record new { maps = after o (holding m.maps cs) }
answered m cs o v v' s s' new other e e' same is =
    sym (some_inj (answering v' (record m { maps = s' })) other e')
    ∙ ap (λ (x : Value). answering x (record m { maps = s' })) same
    ∙ ap (λ (x : MapState). answering v (record m { maps = x })) is
    ∙ ap (λ (x : Machine). record x { maps = after o (holding m.maps cs) }) (some_inj (answering v (record m { maps = s })) new e)

lookup_same : (m : Machine) (cs : List Contents) (new other : Machine) → lookup m ≡ Some new → lookup (over m cs) ≡ Some other
    → Same m cs (under_key m (λ d key. Some (map.Lookup key))) new other
lookup_same m cs new other e e' =
    both_inv (map_in (register m.registers 1)) _ _ new other e e' (λ q named h h'.
    both_inv (slice_get m.maps.decls q) _ _ new other h h' (λ d is k k'.
    both_inv (region m.stack m.frame d.key (register m.registers 2)) _ _ new other k k' (λ key at l l'.
    as_is m cs _ (Some (q, map.Lookup key)) new other
    (through (map_in (register m.registers 1)) _ q named ∙ through (slice_get m.maps.decls q) _ d is ∙ through (region m.stack m.frame d.key (register m.registers 2)) _ key at) (λ same.
    answered m cs (Some (q, map.Lookup key)) _ _ m.maps (holding m.maps cs) new other l l'
    (ap (λ b. if b then Entry q key (pos 0) else Number 0) (sym same)) (sym (lookup_leaves (holding m.maps cs) q key))))))

-- the declaration that is found is that of the map
declared : (s : MapState) (q : ℕ) (d : MapDecl) → slice_get s.decls q ≡ Some d → decl_at s q ≡ d
declared s q d is = get_or_from_slice_get s.decls q d no_decl is

update_same : (m : Machine) (cs : List Contents) (new other : Machine) → update m ≡ Some new → update (over m cs) ≡ Some other → Same m cs (under_key m (updates m)) new other
update_same m cs new other e e' =
    both_inv (map_in (register m.registers 1)) _ _ new other e e' (λ q named h h'.
    both_inv (slice_get m.maps.decls q) _ _ new other h h' (λ d is k k'.
    both_inv (region m.stack m.frame d.key (register m.registers 2)) _ _ new other k k' (λ key at l l'.
    both_inv (region m.stack m.frame d.value (register m.registers 3)) _ _ new other l l' (λ value at' n n'.
    both_inv (number_in (register m.registers 4)) _ _ new other n n' (λ flags number o o'.
    let done : MapState → MapDecl → Option Machine = λ s x.
    Some (answering (Number (cast_unsigned w64 (update_number x (contents_at s q) key flags))) (record m { maps = with_contents s q (updated x (contents_at s q) key value flags) })) in
    let asked : updates m d key ≡ Some (map.Update key value flags) =
    through (region m.stack m.frame d.value (register m.registers 3)) _ value at' ∙ through (number_in (register m.registers 4)) _ flags number in
    as_is m cs _ (Some (q, map.Update key value flags)) new other
    (through (map_in (register m.registers 1)) _ q named ∙ through (slice_get m.maps.decls q) _ d is ∙ through (region m.stack m.frame d.key (register m.registers 2)) _ key at
    ∙ through (updates m d key) _ (map.Update key value flags) asked) (λ same.
    answered m cs (Some (q, map.Update key value flags)) _ _ _ _ new other
    (ap (done m.maps) (declared m.maps q d is) ∙ o) (ap (done (holding m.maps cs)) (declared m.maps q d is) ∙ o')
    (ap (λ z. Number (cast_unsigned w64 z)) (sym same)) refl))))))

delete_same : (m : Machine) (cs : List Contents) (new other : Machine) → delete m ≡ Some new → delete (over m cs) ≡ Some other
    → Same m cs (under_key m (λ d key. Some (map.Delete key))) new other
delete_same m cs new other e e' =
    both_inv (map_in (register m.registers 1)) _ _ new other e e' (λ q named h h'.
    both_inv (slice_get m.maps.decls q) _ _ new other h h' (λ d is k k'.
    both_inv (region m.stack m.frame d.key (register m.registers 2)) _ _ new other k k' (λ key at l l'.
    let done : MapState → MapDecl → Option Machine = λ s x.
    Some (answering (Number (cast_unsigned w64 (delete_number x (contents_at s q) key))) (record m { maps = with_contents s q (deleted x (contents_at s q) key) })) in
    as_is m cs _ (Some (q, map.Delete key)) new other
    (through (map_in (register m.registers 1)) _ q named ∙ through (slice_get m.maps.decls q) _ d is ∙ through (region m.stack m.frame d.key (register m.registers 2)) _ key at) (λ same.
    answered m cs (Some (q, map.Delete key)) _ _ _ _ new other
    (ap (done m.maps) (declared m.maps q d is) ∙ l) (ap (done (holding m.maps cs)) (declared m.maps q d is) ∙ l')
    (ap (λ z. Number (cast_unsigned w64 z)) (sym same)) refl))))

redirected_same : (m : Machine) (cs : List Contents) (ifindex flags : ℕ) (new other : Machine) → Some (redirected ifindex flags m) ≡ Some new → Some (redirected ifindex flags (over m cs)) ≡ Some other
    → other ≡ record new { maps = holding m.maps cs }
redirected_same m cs ifindex zero new other e e' =
    sym (some_inj _ other e') ∙ ap (λ (x : Machine). record x { maps = holding m.maps cs }) (some_inj (redirected ifindex zero m) new e)
redirected_same m cs ifindex (suc flags) new other e e' =
    sym (some_inj _ other e') ∙ ap (λ (x : Machine). record x { maps = holding m.maps cs }) (some_inj (redirected ifindex (suc flags) m) new e)

redirect_same : (m : Machine) (cs : List Contents) (new other : Machine) → redirect m ≡ Some new → redirect (over m cs) ≡ Some other → Same m cs None new other
redirect_same m cs new other e e' _ =
    both_inv (number_in (register m.registers 1)) _ _ new other e e' (λ ifindex is h h'.
    both_inv (number_in (register m.registers 2)) _ _ new other h h' (λ flags is' k k'.
    redirected_same m cs ifindex flags new other k k'))

time_same : (m : Machine) (cs : List Contents) (new other : Machine) → packet_time m ≡ Some new → packet_time (over m cs) ≡ Some other → Same m cs None new other
time_same m cs new other e e' _ =
    sym (some_inj _ other e') ∙ ap (λ (x : Machine). record x { maps = holding m.maps cs }) (some_inj (answering (Number m.time) m) new e)

-- by the helper
called_same : (m : Machine) (cs : List Contents) (h : Option Helper) (new other : Machine) → called h m ≡ Some new → called h (over m cs) ≡ Some other → Same m cs (calls_on h m) new other
called_same m cs (Some Lookup) new other e e' = lookup_same m cs new other e e'
called_same m cs (Some Update) new other e e' = update_same m cs new other e e'
called_same m cs (Some Delete) new other e e' = delete_same m cs new other e e'
called_same m cs (Some Time) new other e e' = time_same m cs new other e e'
called_same m cs (Some Redirect) new other e e' = redirect_same m cs new other e e'
called_same m cs None new other e e' = absurd (cc)

calls_same : (m : Machine) (cs : List Contents) (plain : Bool) (h : Option Helper) (new other : Machine) → (if plain then called h m else None) ≡ Some new
    → (if plain then called h (over m cs) else None) ≡ Some other → Same m cs (calls_on h m) new other
calls_same m cs true h new other e e' = called_same m cs h new other e e'
calls_same m cs false h new other e e' = absurd (cc)

-- ---- what an instruction makes of both machines

effect_same : (refs : List ℕ) (m : Machine) (cs : List Contents) (i : Insn) (op : Op) (new other : Machine) → effect refs m i op ≡ Some new → effect refs (over m cs) i op ≡ Some other
    → Same m cs (operation_as m i op) new other
effect_same refs m cs i LoadImm new other e e' = alone_same m cs (assigned m.registers i (constant refs m.place i)) new other e e'
effect_same refs m cs i (Load size) new other e e' =
    assigned_same m cs i _ _ _ new other e e' (λ v v' l l'. plain_same m cs (register m.registers i.src) i.offset size v v' l l')
effect_same refs m cs i (LoadSigned size) new other e e' =
    assigned_same m cs i _ _ _ new other e e' (λ v v' l l'. signed_same m cs (register m.registers i.src) i.offset size v v' l l')
effect_same refs m cs i (StoreImm size) new other e e' = stored_same m cs (register m.registers i.dst) i.offset size (Number (cast_unsigned w64 i.imm)) new other e e'
effect_same refs m cs i (Store size) new other e e' = stored_same m cs (register m.registers i.dst) i.offset size (register m.registers i.src) new other e e'
effect_same refs m cs i (Atomic size) new other e e' = atomic_same m cs i size new other e e'
effect_same refs m cs i Call new other e e' = calls_same m cs (i.src == 0) (helper_of i.imm) new other e e'
effect_same refs m cs i (Abs size) new other e e' = absurd (cc)
effect_same refs m cs i (Ind size) new other e e' = absurd (cc)
effect_same refs m cs i op new other e e' = alone_same m cs (alu m.registers i op) new other e e'

-- ---- steps

goes_same : (insns : List Insn) (to : ℤ) (a : Machine) (s : MapState) → goes_to insns to (record a { maps = s }) ≡ with_maps s (goes_to insns to a)
goes_same insns (negsuc to) a s = refl
goes_same insns (pos to) a s = by_test (begins insns to)
  where
    by_test : (b : Bool) → (if b then Goes (record a { maps = s; place = to }) else NoCase) ≡ with_maps s (if b then Goes (record a { place = to }) else NoCase)
    by_test true = refl
    by_test false = refl

goes_on_same : (insns : List Insn) (place units : ℕ) (s : MapState) (change change' : Option Machine) → ((a a' : Machine) → change ≡ Some a → change' ≡ Some a' → a' ≡ record a { maps = s })
    → goes_on insns place units change ≢ NoCase → goes_on insns place units change' ≢ NoCase
    → goes_on insns place units change' ≡ with_maps s (goes_on insns place units change)
goes_on_same insns place units s None change' same case case' = absurd (case refl)
goes_on_same insns place units s (Some a) None same case case' = absurd (case' refl)
goes_on_same insns place units s (Some a) (Some a') same case case' =
    ap (goes_to insns (pos (place + units))) (same a a' refl refl) ∙ goes_same insns (pos (place + units)) a s

jumps_same : (insns : List Insn) (distance : ℤ) (m : Machine) (s : MapState) (taken : Option Bool) → jumps insns distance (record m { maps = s }) taken ≡ with_maps s (jumps insns distance m taken)
jumps_same insns distance m s None = refl
jumps_same insns distance m s (Some taken) = goes_same insns (if taken then pos (m.place + 1) +ℤ distance else pos (m.place + 1)) m s

exits_same : (s : MapState) (n : Option ℕ) → exits n ≡ with_maps s (exits n)
exits_same s None = refl
exits_same s (Some n) = refl

outcome_same : (code : Code) (m : Machine) (cs : List Contents) (i : Insn) (op : Op) → AnsweredSame (operation_as m i op) m.maps (holding m.maps cs)
    → outcome code m i op ≢ NoCase → outcome code (over m cs) i op ≢ NoCase
    → outcome code (over m cs) i op ≡ with_maps (after (operation_as m i op) (holding m.maps cs)) (outcome code m i op)
outcome_same code m cs i (Ja Bits64) same case case' = goes_same code.insns _ m (holding m.maps cs)
outcome_same code m cs i (Ja Bits32) same case case' = goes_same code.insns _ m (holding m.maps cs)
outcome_same code m cs i (Jump w c s) same case case' = jumps_same code.insns i.offset m (holding m.maps cs) _
outcome_same code m cs i Exit same case case' = exits_same (holding m.maps cs) (number_in (register m.registers 0))
outcome_same code m cs i op same case case' =
    goes_on_same code.insns m.place (units_of op) (after (operation_as m i op) (holding m.maps cs)) (effect code.refs m i op) (effect code.refs (over m cs) i op)
    (λ a a' e e'. effect_same code.refs m cs i op a a' e e' same) case case'

at_same : (code : Code) (m : Machine) (cs : List Contents) (i : Option Insn) → AnsweredSame (i >>= (λ x. operation_as m x x.op)) m.maps (holding m.maps cs)
    → outcome_at code m i ≢ NoCase → outcome_at code (over m cs) i ≢ NoCase
    → outcome_at code (over m cs) i ≡ with_maps (after (i >>= (λ x. operation_as m x x.op)) (holding m.maps cs)) (outcome_at code m i)
at_same code m cs None same case case' = absurd (case refl)
at_same code m cs (Some i) same case case' = outcome_same code m cs i i.op same case case'

pub step_same : (code : Code) (m : Machine) (cs : List Contents) → AnsweredSame (operation_at code m) m.maps (holding m.maps cs) → step code m ≢ NoCase → step code (over m cs) ≢ NoCase
    → step code (over m cs) ≡ with_maps (after (operation_at code m) (holding m.maps cs)) (step code m)
step_same code m cs same case case' = at_same code m cs (insn_at code.insns m.place) same case case'

-- an operation answers the same on the same maps
itself : (o : Option (ℕ × Operation)) (s : MapState) → AnsweredSame o s s
itself None s = tt
itself (Some (q, map.Lookup key)) s = refl
itself (Some (q, map.Load key)) s = refl
itself (Some (q, map.Update key value flags)) s = refl
itself (Some (q, map.Delete key)) s = refl
itself (Some (q, map.Store key at bytes)) s = tt
itself (Some (q, map.Atomic key at x true)) s = refl
itself (Some (q, map.Atomic key at x false)) s = tt

pub steps_operate : StepsOperate
steps_operate code old new e =
    let goes : step code old ≢ NoCase = λ none. absurd (cc) in
    let same = step_same code old old.maps.contents (itself (operation_at code old) old.maps) goes goes in
    let moved : Goes new ≡ Goes (record new { maps = after (operation_at code old) old.maps }) = sym e ∙ same ∙ ap (with_maps (after (operation_at code old) old.maps)) e in
    goes_maps new (record new { maps = after (operation_at code old) old.maps }) moved
  where
    goes_maps : (a b : Machine) → Goes a ≡ Goes b → a.maps ≡ b.maps
    goes_maps a b h = let is : a ≡ b = cc in ap (λ (x : Machine). x.maps) is
