-- Steps are sound.
use Rattle.std.proofs.Common.{◌≡◌, ℕ, ◌+◌, ◌⊎◌, inl, ℤ, pos, Bool, true, false, cond, refl, sym, ap, ◌∙◌, subst, Option, Some, None, Result, Ok, Err, IfOk, List}
use Rattle.xdp_machine.specs.bpf_isa.declared.operation.Width.{Width}
use Rattle.xdp_machine.specs.bpf_isa.declared.operation.Width.TheVariants.{Bits32, Bits64}
use Rattle.xdp_machine.specs.bpf_isa.declared.operation.Op.{Op}
use Rattle.xdp_machine.specs.bpf_isa.declared.operation.Op.TheVariants.{Alu, Neg, End as EndOp, Swap, Ja, Jump, Call, Exit, LoadImm, Load, LoadSigned, Abs, Ind, StoreImm, Store, Atomic}
use Rattle.xdp_machine.specs.bpf_isa.declared.instruction.Insn.{Insn}
use Rattle.xdp_machine.specs.bpf_isa.declared.helper.Helper.{Helper}
use Rattle.xdp_machine.specs.bpf_isa.Helpers.{helper_of}
use Rattle.xdp_machine.specs.bpf_isa.Spelling.{IsInsn, units_of}
use Rattle.xdp_machine.specs.xdp_maps.declared.decl.MapDecl.{MapDecl}
use Rattle.xdp_machine.specs.Arithmetic.{low}
use Rattle.xdp_machine.specs.Values as is
use Rattle.xdp_machine.specs.State as machine
use Rattle.xdp_machine.specs.State.{Machine}
use Rattle.std.specs.Int.{w64, cast_unsigned}
use Rattle.xdp_machine.specs.Atomics.{fetches}
use Rattle.xdp_machine.specs.Pointers.{compared}
use Rattle.kind_core.specs.NumberBounds.{any_number}
use Rattle.kind_core.specs.declared.kind.Kind.TheVariants.{Num}
use Rattle.xdp_machine.specs.Step as step
use Rattle.kind_core.specs.declared.kind.Kinds.{Kinds}
use Rattle.kind_core.specs.declared.places.Place.{Place}
use Rattle.kind_core.specs.declared.places.Place.TheVariants.{InPacket, InStack, InEntry}
use Rattle.kind_core.specs.declared.helpers.Answer.{Answer}
use Rattle.kind_core.specs.declared.helpers.Answer.TheVariants.{EntryOrNull, Plainly, AfterChange}
use Rattle.kind_core.specs.declared.helpers.Prototype.{Prototype}
use Rattle.kind_core.specs.declared.effects.Effect.{Effect}
use Rattle.kind_core.specs.declared.effects.Effect.TheVariants.{Nothing, Register, Constant, Lookup, Answered, Changed, Compared}
use Rattle.xdp_state.specs.declared.refusal.Why.{Why}
use Rattle.kind_core.specs.Kinds.{register, is_hash}
use Rattle.kind_core.specs.Tests.{◌>>=◌, passed, number_in}
use Rattle.kind_core.specs.Places.{accessed}
use Rattle.kind_core.specs.Access.{compares, comparand, taking, changed_at}
use Rattle.kind_core.specs.Calls.{prototype_of, declared, argument_fits, change_of, answer_of, called_as, called}
use Rattle.kind_core.specs.Profile.{in_profile, keeps_stack_end, registers_read, profiled, writes_destination}
use Rattle.kind_core.specs.Effects.{jump, effect_as, effect_of, verdict}
use Rattle.kind_core.specs.Edges.{changed, changed_if, decided_as}
use Rattle.kind_core.specs.Describes.{World, DescribesMachine}
use Rattle.kind_core.specs.Soundness.{Stands, at_reference, is_store, IsNext, target, Leads, GoesOn, StepsAreSound}
use Rattle.kind_core.proofs.Sound.{numbered}
use Rattle.kind_core.proofs.TestLaws.{bind_all, bind_passed}
use Rattle.kind_core.proofs.SoundRegisters.{LeavesNext, registers_are_sound}
use Rattle.kind_core.proofs.SoundStores.{stores_are_sound}
use Rattle.kind_core.proofs.SoundAtomics.{atomics_are_sound}
use Rattle.kind_core.proofs.Later.{next, next_later, later_machine}
use Rattle.kind_core.proofs.SoundCalls.{calls_are_sound}
use Rattle.kind_core.proofs.SoundConditions.{conditions_are_sound}

-- ---- effects that are the same at a reference
abbrev is_constant : Effect → Bool
is_constant (Constant r imm) = true
is_constant e = false

same_change : (node : ℕ) (is_ref taken : Bool) (k : Kinds) (e : Effect) → is_constant e ≡ false → changed node false taken k e ≡ changed node is_ref taken k e
same_change node is_ref taken k (Constant r imm) h = cc
same_change node is_ref taken k e h = refl

abbrev Plain : Effect → Type 0
Plain e = is_constant e ≡ false

plain_taking : (a b : Bool) (r : ℕ) → Plain (cond a (Register 0 (Num (any_number 64))) (cond b (Register r (Num (any_number 64))) Nothing))
plain_taking true b r = refl
plain_taking false true r = refl
plain_taking false false r = refl

plain_at : (k : Kinds) (i : Insn) (p : Place) → IfOk (changed_at k i p) Plain
plain_at k i InPacket = tt
plain_at k i (InStack a) = tt
plain_at k i InEntry =
    bind_all (number_in (register k i.src)) (λ _. comparand i k >>= (λ _. Ok (taking i))) Plain (λ _.
    bind_all (comparand i k) (λ _. Ok (taking i)) Plain (λ _. plain_taking (compares i) (fetches (cast_unsigned w64 i.imm)) i.src))

plain_change : (t : Bool) (q : ℕ) → Plain (cond t (Changed q) Answered)
plain_change true q = refl
plain_change false q = refl

plain_answer : (decls : List MapDecl) (k : Kinds) (a : Answer) → IfOk (answer_of decls k a) Plain
plain_answer decls k EntryOrNull = bind_all (declared decls (register k 1)) (λ q. Ok (Lookup q)) Plain (λ q. refl)
plain_answer decls k Plainly = refl
plain_answer decls k AfterChange = bind_all (declared decls (register k 1)) (λ q. Ok (change_of decls q)) Plain (λ q. plain_change (is_hash decls q) q)

plain_as : (decls : List MapDecl) (k : Kinds) (p : Prototype) → IfOk (called_as decls k p) Plain
plain_as decls k p =
    let f = argument_fits decls k p in
    bind_all (f 0) (λ _. f 1 >>= (λ _. f 2 >>= (λ _. f 3 >>= (λ _. f 4 >>= (λ _. answer_of decls k p.answer))))) Plain (λ _.
    bind_all (f 1) (λ _. f 2 >>= (λ _. f 3 >>= (λ _. f 4 >>= (λ _. answer_of decls k p.answer)))) Plain (λ _.
    bind_all (f 2) (λ _. f 3 >>= (λ _. f 4 >>= (λ _. answer_of decls k p.answer))) Plain (λ _.
    bind_all (f 3) (λ _. f 4 >>= (λ _. answer_of decls k p.answer)) Plain (λ _.
    bind_all (f 4) (λ _. answer_of decls k p.answer) Plain (λ _. plain_answer decls k p.answer)))))

plain_call : (decls : List MapDecl) (k : Kinds) (id : ℤ) (h : Option Helper) → IfOk (called decls k id h) Plain
plain_call decls k id None = tt
plain_call decls k id (Some h) = plain_as decls k (prototype_of h)

plain_effect : (decls : List MapDecl) (k : Kinds) (i : Insn) (op : Op) → i.op ≡ op → IfOk (effect_as decls k i op) Plain → IfOk (effect_of decls k i) Plain
unfolding effect_of
plain_effect decls k i op e h = bind_all (profiled i k) (λ _. effect_as decls k i i.op) Plain (λ _. subst (λ p. IfOk (effect_as decls k i p) Plain) (sym e) h)

-- ---- the answer of the tests
allowed_effect : (r : Result Effect Why) → verdict r ≡ passed → (e : Effect) × (r ≡ Ok e)
allowed_effect (Ok e) h = (e, refl)
allowed_effect (Err w) h = cc

of_effect : (P : Effect → Type 0) (r : Result Effect Why) (e : Effect) → r ≡ Ok e → IfOk r P → P e
of_effect P r e h g = subst (λ t. IfOk t P) h g

-- an instruction that goes on at the next one
straight : (code : machine.Code) (w : World) (k : Kinds) (m : Machine) (i : Insn) (op : Op) (e : Effect) → effect_of m.maps.decls k i ≡ Ok e → decided_as k i op ≡ None
    → step.step code m ≡ step.goes_on code.insns m.place (units_of op) (step.effect code.refs m i op) → target m.place i op false ≡ pos (m.place + units_of op)
    → (n : Machine) → step.effect code.refs m i op ≡ Some n → (v : World) → IsNext w v → DescribesMachine v (changed w.node (at_reference code.refs m) false k e) n → Leads code w k m i op
straight code w k m i op e allowed undecided goes to n made v later d = record {
  taken = false;
  after = n;
  world = v;
  goes = goes ∙ (ap (step.goes_on code.insns m.place (units_of op)) made ∙ ap (λ z. step.goes_to code.insns z n) (sym to));
  present = inl undecided;
  later = later;
  described = subst (λ r. DescribesMachine v (changed_if w.node (at_reference code.refs m) false k r) n) (sym allowed) d;
}

-- instructions that write their destination
assigned : (code : machine.Code) (w : World) (k : Kinds) (m : Machine) (i : Insn) (op : Op) (e : Effect) → i.op ≡ op → effect_of m.maps.decls k i ≡ Ok e → decided_as k i op ≡ None
    → step.step code m ≡ step.goes_on code.insns m.place (units_of op) (step.effect code.refs m i op) → target m.place i op false ≡ pos (m.place + units_of op)
    → IfOk (effect_of m.maps.decls k i) (LeavesNext w k m (at_reference code.refs m) (step.effect code.refs m i i.op))
    → Leads code w k m i op
assigned code w k m i op e same allowed undecided goes to h =
    let g = of_effect (LeavesNext w k m (at_reference code.refs m) (step.effect code.refs m i i.op)) (effect_of m.maps.decls k i) e allowed h in
    straight code w k m i op e allowed undecided goes to g.0 (ap (step.effect code.refs m i) (sym same) ∙ g.1) g.2.0 g.2.1 g.2.2

-- stores
written : (code : machine.Code) (w : World) (k : Kinds) (m : Machine) (i : Insn) (op : Op) (e : Effect) → i.op ≡ op → effect_of m.maps.decls k i ≡ Ok e → decided_as k i op ≡ None
    → step.step code m ≡ step.goes_on code.insns m.place (units_of op) (step.effect code.refs m i op) → target m.place i op false ≡ pos (m.place + units_of op)
    → IfOk (effect_of m.maps.decls k i) (λ e. (n : Machine) × (step.effect code.refs m i i.op ≡ Some n) × DescribesMachine w (changed w.node (at_reference code.refs m) false k e) n)
    → Leads code w k m i op
written code w k m i op e same allowed undecided goes to h =
    let g = of_effect (λ e. (n : Machine) × (step.effect code.refs m i i.op ≡ Some n) × DescribesMachine w (changed w.node (at_reference code.refs m) false k e) n) (effect_of m.maps.decls k i) e allowed h in
    straight code w k m i op e allowed undecided goes to g.0 (ap (step.effect code.refs m i) (sym same) ∙ g.1) (next w) (next_later w, refl)
    (later_machine w (next w) (changed w.node (at_reference code.refs m) false k e) g.0 (next_later w) g.2)

-- an unconditional jump
along : (code : machine.Code) (w : World) (k : Kinds) (m : Machine) (i : Insn) (wd : Width) (e : Effect) → i.op ≡ Ja wd → step.step code m ≡ step.goes_to code.insns (target m.place i (Ja wd) false) m
    → Stands w k m → effect_of m.maps.decls k i ≡ Ok e → Leads code w k m i (Ja wd)
unfolding effect_of
along code w k m i wd e same goes st allowed =
    let b = bind_passed (profiled i k) (λ _. effect_as m.maps.decls k i i.op) e allowed in
    let c : effect_as m.maps.decls k i (Ja wd) ≡ Ok e = subst (λ p. effect_as m.maps.decls k i p ≡ Ok e) same b.2 in
    let nothing : Nothing ≡ e = cc in
    record {
      taken = false;
      after = m;
      world = next w;
      goes = goes;
      present = inl refl;
      later = (next_later w, refl);
      described = subst (λ r. DescribesMachine (next w) (changed_if w.node (at_reference code.refs m) false k r) m) (sym allowed)
          (subst (λ x. DescribesMachine (next w) (changed w.node (at_reference code.refs m) false k x) m) nothing (later_machine w (next w) k m (next_later w) st.described));
    }

by_operation : (code : machine.Code) (w : World) (k : Kinds) (m : Machine) (i : Insn) (op : Op) (e : Effect) → i.op ≡ op → step.step code m ≡ step.outcome code m i op
    → Stands w k m → IsInsn i → effect_of m.maps.decls k i ≡ Ok e → GoesOn code w k m i op
unfolding effect_of
by_operation code w k m i (Alu wd c s) e same goes st legal allowed = assigned code w k m i (Alu wd c s) e same allowed refl goes refl (registers_are_sound code.refs w k m i st legal (ap writes_destination same))
by_operation code w k m i (Neg wd) e same goes st legal allowed = assigned code w k m i (Neg wd) e same allowed refl goes refl (registers_are_sound code.refs w k m i st legal (ap writes_destination same))
by_operation code w k m i (EndOp s) e same goes st legal allowed = assigned code w k m i (EndOp s) e same allowed refl goes refl (registers_are_sound code.refs w k m i st legal (ap writes_destination same))
by_operation code w k m i Swap e same goes st legal allowed = assigned code w k m i Swap e same allowed refl goes refl (registers_are_sound code.refs w k m i st legal (ap writes_destination same))
by_operation code w k m i LoadImm e same goes st legal allowed = assigned code w k m i LoadImm e same allowed refl goes refl (registers_are_sound code.refs w k m i st legal (ap writes_destination same))
by_operation code w k m i (Load size) e same goes st legal allowed = assigned code w k m i (Load size) e same allowed refl goes refl (registers_are_sound code.refs w k m i st legal (ap writes_destination same))
by_operation code w k m i (LoadSigned size) e same goes st legal allowed = assigned code w k m i (LoadSigned size) e same allowed refl goes refl (registers_are_sound code.refs w k m i st legal (ap writes_destination same))
by_operation code w k m i (StoreImm size) e same goes st legal allowed = written code w k m i (StoreImm size) e same allowed refl goes refl (stores_are_sound code.refs w k m i st (ap is_store same))
by_operation code w k m i (Store size) e same goes st legal allowed = written code w k m i (Store size) e same allowed refl goes refl (stores_are_sound code.refs w k m i st (ap is_store same))
by_operation code w k m i (Atomic size) e same goes st legal allowed =
    let P : Effect → Type 0 = λ e. (n : Machine) × (step.effect code.refs m i (Atomic size) ≡ Some n) × DescribesMachine w (changed w.node false false k e) n in
    let g = of_effect P (effect_of m.maps.decls k i) e allowed (atomics_are_sound w k m i size st legal same) in
    let plain = of_effect Plain (effect_of m.maps.decls k i) e allowed (plain_effect m.maps.decls k i (Atomic size) same
    (bind_all (accessed m.maps.decls k.checked (register k i.dst) i.offset size) (λ p. changed_at k i p) Plain (λ p. plain_at k i p))) in
    straight code w k m i (Atomic size) e allowed refl goes refl g.0 g.1 (next w) (next_later w, refl)
    (subst (λ x. DescribesMachine (next w) x g.0) (same_change w.node (at_reference code.refs m) false k e plain)
    (later_machine w (next w) (changed w.node false false k e) g.0 (next_later w) g.2))
by_operation code w k m i Call e same goes st legal allowed =
    let P : Effect → Type 0 = λ e. (n : Machine) × (step.calls m i ≡ Some n) × ((v : World) × IsNext w v × DescribesMachine v (changed w.node false false k e) n) in
    let g = of_effect P (effect_of m.maps.decls k i) e allowed (calls_are_sound w k m i st same) in
    let plain = of_effect Plain (effect_of m.maps.decls k i) e allowed (plain_effect m.maps.decls k i Call same (plain_call m.maps.decls k i.imm (helper_of i.imm))) in
    straight code w k m i Call e allowed refl goes refl g.0 g.1 g.2.0 g.2.1
    (subst (λ x. DescribesMachine g.2.0 x g.0) (same_change w.node (at_reference code.refs m) false k e plain) g.2.2)
by_operation code w k m i (Jump wd c s) e same goes st legal allowed =
    let o = compared wd c (machine.register m.registers i.dst) (step.operand m.registers i s) in
    let P : Effect → Type 0 = λ e. (taken : Bool) × (o ≡ Some taken) × ((decided_as k i i.op ≡ None) ⊎ (decided_as k i i.op ≡ Some taken)) × DescribesMachine w (changed w.node false taken k e) m in
    let g = of_effect P (effect_of m.maps.decls k i) e allowed (conditions_are_sound w k m i wd c s st same) in
    let plain = of_effect Plain (effect_of m.maps.decls k i) e allowed (plain_effect m.maps.decls k i (Jump wd c s) same
    (bind_all (jump k i wd c s) (λ x. Ok (Compared x)) Plain (λ x. refl))) in
    record {
      taken = g.0;
      after = m;
      world = next w;
      goes = goes ∙ ap (step.jumps code.insns i.offset m) (g.1);
      present = subst (λ p. (decided_as k i p ≡ None) ⊎ (decided_as k i p ≡ Some g.0)) same (g.2);
      later = (next_later w, refl);
      described = subst (λ r. DescribesMachine (next w) (changed_if w.node (at_reference code.refs m) g.0 k r) m) (sym allowed)
          (subst (λ x. DescribesMachine (next w) x m) (same_change w.node (at_reference code.refs m) g.0 k e plain)
          (later_machine w (next w) (changed w.node false g.0 k e) m (next_later w) g.3));
    }
by_operation code w k m i (Ja Bits64) e same goes st legal allowed = along code w k m i Bits64 e same goes st allowed
by_operation code w k m i (Ja Bits32) e same goes st legal allowed = along code w k m i Bits32 e same goes st allowed
by_operation code w k m i Exit e same goes st legal allowed =
    let b = bind_passed (profiled i k) (λ _. effect_as m.maps.decls k i i.op) e allowed in
    let c = bind_passed (number_in (register k 0)) (λ _. Ok Nothing) e (subst (λ p. effect_as m.maps.decls k i p ≡ Ok e) same b.2) in
    let v = numbered w m.maps (register k 0) c.0 (machine.register m.registers 0) c.1 (st.described.registers 0) in
    (low 32 v.0, goes ∙ ap (λ x. step.exits (is.number_in x)) (v.1))
by_operation code w k m i (Abs size) e same goes st legal allowed =
    let b = bind_passed (profiled i k) (λ _. effect_as m.maps.decls k i i.op) e allowed in
    let a = bind_passed (in_profile i i.op) (λ _. keeps_stack_end i >>= (λ _. registers_read i k)) b.0 b.1 in
    let no = subst (λ p. in_profile i p ≡ passed) same a.1 in
    absurd (cc)
by_operation code w k m i (Ind size) e same goes st legal allowed =
    let b = bind_passed (profiled i k) (λ _. effect_as m.maps.decls k i i.op) e allowed in
    let a = bind_passed (in_profile i i.op) (λ _. keeps_stack_end i >>= (λ _. registers_read i k)) b.0 b.1 in
    let no = subst (λ p. in_profile i p ≡ passed) same a.1 in
    absurd (cc)

pub steps_are_sound : StepsAreSound
steps_are_sound code w k m i st legal at allowed =
    let a = allowed_effect (effect_of m.maps.decls k i) allowed in
    by_operation code w k m i i.op a.0 refl (ap (step.outcome_at code m) at) st legal (a.1)
