-- A machine that kinds describe comes from a place to where it settles, unchanged but for its place.
use Rattle.std.proofs.Common.{◌≡◌, ℕ, zero, suc, ℤ, pos, negsuc, ◌+◌, ◌+ℤ◌, Bool, true, false, List, Option, Some, None, refl, sym, ◌∙◌, ap, subst, arith}
use Rattle.std.specs.Prelude.{is_some, if◌then◌else◌}
use Rattle.xdp_machine.specs.bpf_isa.declared.operation.Width.TheVariants.{Bits32, Bits64}
use Rattle.xdp_machine.specs.bpf_isa.declared.operation.Op.{Op}
use Rattle.xdp_machine.specs.bpf_isa.declared.operation.Op.TheVariants.{Ja, Jump}
use Rattle.xdp_machine.specs.bpf_isa.declared.instruction.Insn.{Insn}
use Rattle.xdp_machine.specs.bpf_isa.Spelling.{units_of}
use Rattle.xdp_machine.specs.bpf_isa.Text.{insn_at}
use Rattle.xdp_machine.specs.Values.{◌>>=◌}
use Rattle.xdp_machine.specs.State.{Code, Machine, begins}
use Rattle.xdp_machine.specs.Step.{Goes, NoCase, step, goes_to, jumps, outcome, outcome_at}
use Rattle.xdp_machine.specs.Runs.{Leaves, run, then_on, Ended}
use Rattle.xdp_machine.specs.Touched.{Touched, nothing, both, touched_by, touched_at, and_then, touched, operation_as}
use Rattle.kind_core.specs.declared.kind.Kinds.{Kinds}
use Rattle.kind_core.specs.Describes.{World, DescribesMachine}
use Rattle.unfold_core.specs.Jumps.{distance, natural, led_to}
use Rattle.cover_core.specs.Settling.{side, sure_side, settled_by, settled_at, settled_within}
use Rattle.cover_core.proofs.Deciding.{jump_decided}

abbrev pub at_place : ℕ → Machine → Machine
at_place place m = record m { place = place }

pub moved : (w : World) (k : Kinds) (m : Machine) (place : ℕ) → DescribesMachine w k m → DescribesMachine w k (at_place place m)
moved w k m place h = record { registers = h.registers; slots = h.slots; checked = h.checked; frame = h.frame }

-- the run of a machine comes to this end, and touches this
abbrev pub RunsTo : Code → Machine → Leaves → Touched → Type 0
RunsTo code m e t = (n : ℕ) × (run code n m ≡ Ended e) × (touched code n m ≡ t)

pub one_more : (code : Code) (m next : Machine) (e : Leaves) (t : Touched) → step code m ≡ Goes next → RunsTo code next e t → RunsTo code m e (both (touched_at code m) t)
unfolding run touched
one_more code m next e t s r = (suc r.0, ap (then_on (run code r.0) m) s ∙ r.1, ap (and_then (touched_at code m) (touched code r.0)) s ∙ ap (both (touched_at code m)) r.2)

nothing_more : (t : Touched) → both nothing t ≡ t
nothing_more t = let none : 0 + t.writing ≡ t.writing = omega arith in ap (λ (n : ℕ). record { reads = t.reads; writes = t.writes; writing = n }) none

-- the same of a step that touches nothing
pub one_silent : (code : Code) (m next : Machine) (e : Leaves) (t : Touched) → step code m ≡ Goes next → touched_at code m ≡ nothing → RunsTo code next e t → RunsTo code m e t
one_silent code m next e t s none r = subst (RunsTo code m e) (ap (λ (x : Touched). both x t) none ∙ nothing_more t) (one_more code m next e t s r)

-- an instruction that is no operation on a map
pub untouched : (code : Code) (m : Machine) (i : Insn) (op : Op) → insn_at code.insns m.place ≡ Some i → i.op ≡ op → operation_as m i op ≡ None → touched_at code m ≡ nothing
untouched code m i op h e none = ap (touched_by m.maps) (ap (λ (o : Option Insn). o >>= (λ j. operation_as m j j.op)) h ∙ ap (operation_as m i) e ∙ none)

sure_silent : (k : Kinds) (m : Machine) (i : Insn) (op : Op) (taken : Bool) → sure_side k i op ≡ Some taken → operation_as m i op ≡ None
sure_silent k m i (Ja w) taken h = refl
sure_silent k m i (Jump w c s) taken h = refl
sure_silent k m i op taken h = absurd (cc)

-- ---- one step

pub step_is : (code : Code) (m : Machine) (i : Insn) (op : Op) → insn_at code.insns m.place ≡ Some i → i.op ≡ op → step code m ≡ outcome code m i op
step_is code m i op h e = ap (outcome_at code m) h ∙ ap (outcome code m i) e

pub goes_there : (insns : List Insn) (z : ℤ) (to : ℕ) (m : Machine) → natural z ≡ Some to → begins insns to ≡ true → goes_to insns z m ≡ Goes (at_place to m)
goes_there insns (pos p) to m n b =
    let same : to ≡ p = cc in
    ap (λ t. if t then Goes (record m { place = p }) else NoCase) (subst (λ x. begins insns x ≡ true) same b) ∙ ap (λ x. Goes (record m { place = x })) (sym same)
goes_there insns (negsuc p) to m n b = absurd (cc)

-- where a jump goes on the side of its target, and on the other
pub target_side : (place to : ℕ) (i : Insn) (op : Op) → i.op ≡ op → side place i true ≡ Some to → led_to place (distance i op) ≡ Some to
target_side place to i op e s = sym (ap (λ o. led_to place (distance i o)) e) ∙ s

pub next_side : (place to : ℕ) (i : Insn) (op : Op) → i.op ≡ op → side place i false ≡ Some to → Some (place + units_of op) ≡ Some to
next_side place to i op e s = sym (ap (λ o. Some (place + units_of o)) e) ∙ s

pub jump_there : (insns : List Insn) (m : Machine) (i : Insn) (op : Op) (taken : Bool) (to : ℕ) → i.op ≡ op → distance i op ≡ Some i.offset → units_of op ≡ 1 → side m.place i taken ≡ Some to → begins insns to ≡ true
    → goes_to insns (if taken then pos (m.place + 1) +ℤ i.offset else pos (m.place + 1)) m ≡ Goes (at_place to m)
jump_there insns m i op true to e far one s b = goes_there insns (pos (m.place + 1) +ℤ i.offset) to m (sym (ap (led_to m.place) far) ∙ target_side m.place to i op e s) b
jump_there insns m i op false to e far one s b = goes_there insns (pos (m.place + 1)) to m (sym (ap (λ u. Some (m.place + u)) one) ∙ next_side m.place to i op e s) b

-- an instruction that leads on without a test
sure_step : (code : Code) (w : World) (k : Kinds) (m : Machine) (i : Insn) (op : Op) (taken : Bool) (to : ℕ) → DescribesMachine w k m → insn_at code.insns m.place ≡ Some i → i.op ≡ op
    → sure_side k i op ≡ Some taken → side m.place i taken ≡ Some to → begins code.insns to ≡ true → step code m ≡ Goes (at_place to m)
sure_step code w k m i (Ja Bits64) taken to d h e sure s b =
    let yes : taken ≡ true = cc in
    step_is code m i (Ja Bits64) h e ∙ goes_there code.insns (pos (m.place + 1) +ℤ i.offset) to m (target_side m.place to i (Ja Bits64) e (subst (λ t. side m.place i t ≡ Some to) yes s)) b
sure_step code w k m i (Ja Bits32) taken to d h e sure s b =
    let yes : taken ≡ true = cc in
    step_is code m i (Ja Bits32) h e ∙ goes_there code.insns (pos (m.place + 1) +ℤ i.imm) to m (target_side m.place to i (Ja Bits32) e (subst (λ t. side m.place i t ≡ Some to) yes s)) b
sure_step code w k m i (Jump wd c s) taken to d h e sure led b =
    step_is code m i (Jump wd c s) h e ∙ ap (jumps code.insns i.offset m) (jump_decided w k m i wd c s taken d sure) ∙ jump_there code.insns m i (Jump wd c s) taken to e refl refl led b
sure_step code w k m i op taken to d h e sure s b = absurd (cc)

-- ---- all of them

begins_by : (onward : ℕ → Option ℕ) (k : Kinds) (place : ℕ) (o : Option Insn) (to : ℕ) → settled_at onward k place o ≡ Some to → is_some o ≡ true
begins_by onward k place None to h = absurd (cc)
begins_by onward k place (Some i) to h = refl

-- an instruction begins where a run settles from
pub settled_begins : (insns : List Insn) (k : Kinds) (n place to : ℕ) → settled_within insns k n place ≡ Some to → begins insns place ≡ true
unfolding settled_within
settled_begins insns k zero place to h = absurd (cc)
settled_begins insns k (suc n) place to h = begins_by (settled_within insns k n) k place (insn_at insns place) to h

-- the machine, from a place where f leads to the end
abbrev Onward : Code → Machine → Leaves → Touched → (ℕ → Option ℕ) → ℕ → Type 0
Onward code m e t f to = (q : ℕ) → f q ≡ Some to → (begins code.insns q ≡ true) × RunsTo code (at_place q m) e t

over_place : (code : Code) (w : World) (k : Kinds) (m : Machine) (i : Insn) (taken : Bool) (f : ℕ → Option ℕ) (to : ℕ) (e : Leaves) (t : Touched) → DescribesMachine w k m → insn_at code.insns m.place ≡ Some i
    → sure_side k i i.op ≡ Some taken → Onward code m e t f to → (p : Option ℕ) → side m.place i taken ≡ p → (p >>= f) ≡ Some to → RunsTo code m e t
over_place code w k m i taken f to e t d h sure on None led x = absurd (cc)
over_place code w k m i taken f to e t d h sure on (Some q) led x =
    let there = on q x in
    one_silent code m (at_place q m) e t (sure_step code w k m i i.op taken q d h refl sure led there.0) (untouched code m i i.op h refl (sure_silent k m i i.op taken sure)) there.1

over_side : (code : Code) (w : World) (k : Kinds) (m : Machine) (i : Insn) (f : ℕ → Option ℕ) (to : ℕ) (e : Leaves) (t : Touched) → DescribesMachine w k m → insn_at code.insns m.place ≡ Some i
    → Onward code m e t f to → RunsTo code (at_place to m) e t → (s : Option Bool) → sure_side k i i.op ≡ s → settled_by f m.place i s ≡ Some to → RunsTo code m e t
over_side code w k m i f to e t d h on r None is g = let same : to ≡ m.place = cc in subst (λ x. RunsTo code (at_place x m) e t) same r
over_side code w k m i f to e t d h on r (Some taken) is g = over_place code w k m i taken f to e t d h is on (side m.place i taken) refl g

over_insn : (code : Code) (w : World) (k : Kinds) (m : Machine) (f : ℕ → Option ℕ) (to : ℕ) (e : Leaves) (t : Touched) → DescribesMachine w k m
    → Onward code m e t f to → RunsTo code (at_place to m) e t → (o : Option Insn) → insn_at code.insns m.place ≡ o → settled_at f k m.place o ≡ Some to → RunsTo code m e t
over_insn code w k m f to e t d on r None is g = absurd (cc)
over_insn code w k m f to e t d on r (Some i) is g = over_side code w k m i f to e t d is on r (sure_side k i i.op) refl g

pub settles_silently : (code : Code) (w : World) (k : Kinds) (n : ℕ) (m : Machine) (to : ℕ) (e : Leaves) (t : Touched) → DescribesMachine w k m → settled_within code.insns k n m.place ≡ Some to
    → RunsTo code (at_place to m) e t → RunsTo code m e t
unfolding settled_within
settles_silently code w k zero m to e t d h r = absurd (cc)
settles_silently code w k (suc n) m to e t d h r =
    over_insn code w k m (settled_within code.insns k n) to e t d
    (λ q x. (settled_begins code.insns k n q to x, settles_silently code w k n (at_place q m) to e t (moved w k m q d) x r))
    r (insn_at code.insns m.place) refl h
