-- A step of b from a node, and the same step of a from another place.
use Rattle.std.proofs.Common.{◌≡◌, ℕ, ℤ, pos, negsuc, ◌+◌, ◌+ℤ◌, ◌⊎◌, inl, inr, Bool, true, false, List, Option, Some, None, Result, Ok, Err, IfOk, refl, sym, ◌∙◌, ap, subst}
use Rattle.std.specs.Prelude.{if◌then◌else◌, IsTrue}
use Rattle.xdp_machine.specs.bpf_isa.declared.operation.Src.{Src}
use Rattle.xdp_machine.specs.bpf_isa.declared.operation.Width.{Width}
use Rattle.xdp_machine.specs.bpf_isa.declared.operation.Width.TheVariants.{Bits32, Bits64}
use Rattle.xdp_machine.specs.bpf_isa.declared.operation.JumpCode.{JumpCode}
use Rattle.xdp_machine.specs.bpf_isa.declared.operation.Op.{Op}
use Rattle.xdp_machine.specs.bpf_isa.declared.operation.Op.TheVariants.{Ja, Jump, Exit}
use Rattle.xdp_machine.specs.bpf_isa.declared.instruction.Insn.{Insn}
use Rattle.xdp_machine.specs.bpf_isa.Spelling.{units_of, IsInsn}
use Rattle.xdp_machine.specs.bpf_isa.Text.{insn_at}
use Rattle.xdp_machine.specs.xdp_maps.declared.decl.MapDecl.{MapDecl}
use Rattle.xdp_machine.specs.Values.{number_in}
use Rattle.xdp_machine.specs.State.{Code, Machine, begins, register}
use Rattle.xdp_machine.specs.Pointers.{compared}
use Rattle.xdp_machine.specs.Step.{Outcome, Goes, Ends, NoCase, step, goes_to, goes_on, jumps, exits, outcome, effect, operand}
use Rattle.xdp_machine.specs.Program.{XdpProgram, program_code}
use Rattle.kind_core.specs.declared.kind.Kinds.{Kinds}
use Rattle.xdp_state.specs.declared.refusal.Why.{Why}
use Rattle.kind_core.specs.Tests.{Test, passed}
use Rattle.kind_core.specs.Profile.{profiled}
use Rattle.kind_core.specs.Effects.{effect_as, effect_of, jump, verdict}
use Rattle.kind_core.specs.Edges.{changed, changed_if, decided, transferred}
use Rattle.kind_core.specs.Describes.{World, DescribesMachine}
use Rattle.kind_core.specs.Soundness.{Stands, IsPresent, Leads, GoesOn, target, StepsAreSound, ConditionsAreSound}
use Rattle.kind_core.proofs.TestLaws.{bind_all}
use Rattle.kind_core.proofs.TransferLaws.{is_jump, transferred_fixed}
use Rattle.unfold_core.specs.Edges.{goes_next, goes_jump, is_reference}
use Rattle.unfold_core.specs.LinkLaws.{goes_along}
use Rattle.unfold_core.specs.Jumps.{distance, led_to}
use Rattle.cover_core.specs.Settling.{side}
use Rattle.cover_core.specs.Cover.{undirected, is_plain_jump}
use Rattle.cover_core.proofs.Silent.{at_place, moved, step_is, goes_there, target_side, next_side, jump_there}
use Rattle.cover_core.proofs.Twins.{same_op, same_dst, same_operand, same_insn, moved_to, effect_at}

-- ---- where a step led

pub record Went (z : ℤ) (m n : Machine) : Type 0 where
  pub to : ℕ
  pub at : z ≡ pos to
  pub is : n ≡ at_place to m

goes_inj : (m n : Machine) → Goes m ≡ Goes n → m ≡ n
goes_inj m n h = cc

pub goes_inv : (insns : List Insn) (z : ℤ) (m n : Machine) → goes_to insns z m ≡ Goes n → Went z m n
goes_inv insns (pos p) m n h = by_test (begins insns p) h
  where
    by_test : (b : Bool) → (if b then Goes (record m { place = p }) else NoCase) ≡ Goes n → Went (pos p) m n
    by_test true g = record { to = p; at = refl; is = sym (goes_inj (at_place p m) n g) }
    by_test false g = absurd (cc)
goes_inv insns (negsuc p) m n h = absurd (cc)

went_place : (z : ℤ) (m n : Machine) → Went z m n → z ≡ pos n.place
went_place z m n w = w.at ∙ ap (λ (x : Machine). pos x.place) (sym w.is)

-- wherever it goes on from
went_at : (z : ℤ) (m n : Machine) (to : ℕ) → Went z m n → at_place to m ≡ at_place to n
went_at z m n to w = ap (at_place to) (sym w.is)

-- ---- the same step

-- Where b goes by i on a side, a goes by j, from another place, on the same side, and is the same machine but for its place.
abbrev pub Twin : XdpProgram → Machine → Machine → Insn → Bool → Type 0
Twin b m n i taken =
    (a : XdpProgram) (p to : ℕ) (j : Insn) → insn_at a.insns p ≡ Some j → undirected j ≡ undirected i → is_reference a p ≡ is_reference b m.place → side p j taken ≡ Some to → begins a.insns to ≡ true
    → step (program_code a) (at_place p m) ≡ Goes (at_place to n)

-- the condition of a jump, on the side to which it goes
abbrev pub Compares : Machine → Insn → Bool → Op → Type 0
Compares m i taken (Jump w c s) = compared w c (register m.registers i.dst) (operand m.registers i s) ≡ Some taken
Compares m i taken op = Unit {0}

-- A step from a node, along an edge on which kinds describe what it leaves.
pub record Moves (b : XdpProgram) (w : World) (k : Kinds) (m n : Machine) (i : Insn) : Type 0 where
  pub taken : Bool
  pub world : World
  pub present : goes_along k i taken ≡ true
  pub led : target m.place i i.op taken ≡ pos n.place
  pub described : DescribesMachine world (transferred b.decls k i w.node (is_reference b m.place) taken) n
  pub compares : Compares n i taken i.op
  pub twin : Twin b m n i taken

-- a machine at a node, at an allowed instruction from which it goes on
pub record Going (b : XdpProgram) (w : World) (k : Kinds) (m n : Machine) (i : Insn) : Type 0 where
  pub steps : StepsAreSound
  pub conditions : ConditionsAreSound
  pub stands : Stands w k m
  pub begins : insn_at b.insns m.place ≡ Some i
  pub decls : m.maps.decls ≡ b.decls
  pub passes : verdict (effect_of m.maps.decls k i) ≡ passed
  pub goes : step (program_code b) m ≡ Goes n

-- ---- instructions that do not jump

effect_twin : (insns : List Insn) (p units to : ℕ) (z : ℤ) (m n : Machine) (o : Option Machine) (others : List Insn) → goes_on others m.place units o ≡ Goes n → Some (p + units) ≡ Some to → begins insns to ≡ true
    → goes_on insns p units (moved_to p o) ≡ Goes (at_place to n)
effect_twin insns p units to z m n None others h s b = absurd (cc)
effect_twin insns p units to z m n (Some y) others h s b =
    let went = goes_inv others (pos (m.place + units)) y n h in
    goes_there insns (pos (p + units)) to (at_place p y) s b ∙ ap Goes (went_at (pos (m.place + units)) y n to went)

plain_twin : (b : XdpProgram) (m n : Machine) (i : Insn) (op : Op) → i.op ≡ op → is_jump op ≡ false → step (program_code b) m ≡ Goes n → insn_at b.insns m.place ≡ Some i
    → ((code : Code) (x : Machine) → outcome code x i op ≡ goes_on code.insns x.place (units_of op) (effect code.refs x i op)) → Twin b m n i false
plain_twin b m n i op e plain goes here outcome_is a p to j at same refs s starts =
    let is : j ≡ i = same_insn i j (ap is_jump e ∙ plain) same in
    let there : insn_at a.insns p ≡ Some i = at ∙ ap Some is in
    let led : Some (p + units_of op) ≡ Some to = next_side p to i op e (subst (λ (x : Insn). side p x false ≡ Some to) is s) in
    let ran : goes_on b.insns m.place (units_of op) (effect b.refs m i op) ≡ Goes n = sym (outcome_is (program_code b) m) ∙ sym (step_is (program_code b) m i op here e) ∙ goes in
    step_is (program_code a) (at_place p m) i op there e ∙ outcome_is (program_code a) (at_place p m)
    ∙ ap (goes_on a.insns p (units_of op)) (effect_at b.refs a.refs p m i op refs)
    ∙ effect_twin a.insns p (units_of op) to (pos p) m n (effect b.refs m i op) b.insns ran led starts

-- what kinds describe after a step, on another side of an instruction that has one
described_there : (b : XdpProgram) (w v : World) (k : Kinds) (m n after : Machine) (i : Insn) (taken other : Bool) (z : ℤ) → m.maps.decls ≡ b.decls → is_jump i.op ≡ false → Went z after n
    → DescribesMachine v (transferred m.maps.decls k i w.node (is_reference b m.place) taken) after → DescribesMachine v (transferred b.decls k i w.node (is_reference b m.place) other) n
described_there b w v k m n after i taken other z decls plain went d =
    let r = is_reference b m.place in
    let kinds : transferred m.maps.decls k i w.node r taken ≡ transferred b.decls k i w.node r other =
    ap (λ ds. transferred ds k i w.node r taken) decls ∙ transferred_fixed b.decls k i w.node r taken plain ∙ sym (transferred_fixed b.decls k i w.node r other plain) in
    subst (λ (x : Machine). DescribesMachine v (transferred b.decls k i w.node r other) x) (sym went.is)
    (moved v (transferred b.decls k i w.node r other) after went.to (subst (λ (x : Kinds). DescribesMachine v x after) kinds d))

-- any but a conditional jump compares nothing
no_condition : (m : Machine) (i : Insn) (taken : Bool) (op : Op) → is_jump op ≡ false → Compares m i taken op
no_condition m i taken (Jump w c s) plain = absurd (cc)
no_condition m i taken op plain = tt

plain_moves : (b : XdpProgram) (w : World) (k : Kinds) (m n : Machine) (i : Insn) (op : Op) → Going b w k m n i → i.op ≡ op → is_jump op ≡ false → goes_along k i false ≡ true
    → ((t : Bool) → target m.place i op t ≡ pos (m.place + units_of op)) → ((code : Code) (x : Machine) → outcome code x i op ≡ goes_on code.insns x.place (units_of op) (effect code.refs x i op))
    → Leads (program_code b) w k m i op → Moves b w k m n i
plain_moves b w k m n i op g e plain present aimed outcome_is l =
    let went : Went (target m.place i op l.taken) l.after n = goes_inv b.insns (target m.place i op l.taken) l.after n (sym l.goes ∙ g.goes) in
    record {
      taken = false;
      world = l.world;
      present = present;
      led = ap (λ o. target m.place i o false) e ∙ aimed false ∙ sym (aimed l.taken) ∙ went_place (target m.place i op l.taken) l.after n went;
      described = described_there b w l.world k m n l.after i l.taken false (target m.place i op l.taken) g.decls (ap is_jump e ∙ plain) went l.described;
      compares = no_condition n i false i.op (ap is_jump e ∙ plain);
      twin = plain_twin b m n i op e plain g.goes g.begins outcome_is;
    }

-- ---- jumps

ja_twin : (b : XdpProgram) (m n : Machine) (i : Insn) (op : Op) (far : Insn → ℤ) → i.op ≡ op → is_jump op ≡ false → step (program_code b) m ≡ Goes n → insn_at b.insns m.place ≡ Some i
    → ((code : Code) (x : Machine) (j : Insn) → outcome code x j op ≡ goes_to code.insns (pos (x.place + 1) +ℤ far j) x) → ((j : Insn) → distance j op ≡ Some (far j)) → Twin b m n i true
ja_twin b m n i op far e plain goes here outcome_is reach a p to j at same refs s starts =
    let is : j ≡ i = same_insn i j (ap is_jump e ∙ plain) same in
    let there : insn_at a.insns p ≡ Some i = at ∙ ap Some is in
    let led : led_to p (Some (far i)) ≡ Some to = sym (ap (led_to p) (reach i)) ∙ target_side p to i op e (subst (λ (x : Insn). side p x true ≡ Some to) is s) in
    let went = goes_inv b.insns (pos (m.place + 1) +ℤ far i) m n (sym (outcome_is (program_code b) m i) ∙ sym (step_is (program_code b) m i op here e) ∙ goes) in
    step_is (program_code a) (at_place p m) i op there e ∙ outcome_is (program_code a) (at_place p m) i
    ∙ goes_there a.insns (pos (p + 1) +ℤ far i) to (at_place p m) led starts ∙ ap Goes (went_at (pos (m.place + 1) +ℤ far i) m n to went)

ja_moves : (b : XdpProgram) (w : World) (k : Kinds) (m n : Machine) (i : Insn) (op : Op) (far : Insn → ℤ) → Going b w k m n i → i.op ≡ op → is_jump op ≡ false → goes_along k i true ≡ true
    → ((t : Bool) → target m.place i op t ≡ pos (m.place + 1) +ℤ far i) → ((code : Code) (x : Machine) (j : Insn) → outcome code x j op ≡ goes_to code.insns (pos (x.place + 1) +ℤ far j) x)
    → ((j : Insn) → distance j op ≡ Some (far j)) → Leads (program_code b) w k m i op → Moves b w k m n i
ja_moves b w k m n i op far g e plain present aimed outcome_is reach l =
    let went : Went (target m.place i op l.taken) l.after n = goes_inv b.insns (target m.place i op l.taken) l.after n (sym l.goes ∙ g.goes) in
    record {
      taken = true;
      world = l.world;
      present = present;
      led = ap (λ o. target m.place i o true) e ∙ aimed true ∙ sym (aimed l.taken) ∙ went_place (target m.place i op l.taken) l.after n went;
      described = described_there b w l.world k m n l.after i l.taken true (target m.place i op l.taken) g.decls (ap is_jump e ∙ plain) went l.described;
      compares = no_condition n i true i.op (ap is_jump e ∙ plain);
      twin = ja_twin b m n i op far e plain g.goes g.begins outcome_is reach;
    }

-- ---- conditional jumps

-- after a conditional jump it does not matter whether its place is a reference
abbrev Plainly : {A : Type 0} → (ℕ → Bool → Bool → Kinds → A → Kinds) → A → Type 0
Plainly f x = (node : ℕ) (r taken : Bool) (k : Kinds) → f node r taken k x ≡ f node false taken k x

jump_plainly : (decls : List MapDecl) (k : Kinds) (i : Insn) (wd : Width) (c : JumpCode) (s : Src) → i.op ≡ Jump wd c s → IfOk (effect_of decls k i) (Plainly changed)
unfolding effect_of
jump_plainly decls k i wd c s e =
    bind_all (profiled i k) (λ _. effect_as decls k i i.op) (Plainly changed) (λ u. subst (λ (o : Op). IfOk (effect_as decls k i o) (Plainly changed)) (sym e)
    (bind_all (jump k i wd c s) _ (Plainly changed) (λ x node r taken j. refl)))

-- what holds of the effect of an instruction that passes
passing : {A P : Type 0} (r : Result A Why) (v : Result A Why → Test) (C D : A → Type 0) → ((w : Why) → v (Err w) ≡ Err w) → v r ≡ passed → IfOk r C → IfOk r D → ((x : A) → r ≡ Ok x → C x → D x → P) → P
passing (Ok x) v C D fails h c d next = next x refl c d
passing (Err w) v C D fails h c d next = let never : Err w ≡ passed = sym (fails w) ∙ h in absurd (cc)

present_side : (wd : Width) (c : JumpCode) (s : Src) (o : Option Bool) (taken : Bool) → (o ≡ None) ⊎ (o ≡ Some taken) → (if taken then goes_jump (Jump wd c s) o else goes_next (Jump wd c s) o) ≡ true
present_side wd c s o true (inl e) = ap (goes_jump (Jump wd c s)) e
present_side wd c s o true (inr e) = ap (goes_jump (Jump wd c s)) e
present_side wd c s o false (inl e) = ap (goes_next (Jump wd c s)) e
present_side wd c s o false (inr e) = ap (goes_next (Jump wd c s)) e

branch_twin : (b : XdpProgram) (m n : Machine) (i : Insn) (wd : Width) (c : JumpCode) (s : Src) (taken : Bool) (z : ℤ) → i.op ≡ Jump wd c s
    → compared wd c (register m.registers i.dst) (operand m.registers i s) ≡ Some taken → Went z m n → Twin b m n i taken
branch_twin b m n i wd c s taken z e holds went a p to j at same refs led starts =
    let op : j.op ≡ Jump wd c s = same_op i j same ∙ e in
    let condition : compared wd c (register m.registers j.dst) (operand m.registers j s) ≡ Some taken =
    ap (λ r. compared wd c (register m.registers r) (operand m.registers j s)) (same_dst i j same) ∙ ap (compared wd c (register m.registers i.dst)) (same_operand i j m.registers s same) ∙ holds in
    step_is (program_code a) (at_place p m) j (Jump wd c s) at op ∙ ap (jumps a.insns j.offset (at_place p m)) condition
    ∙ jump_there a.insns (at_place p m) j (Jump wd c s) taken to op refl refl led starts ∙ ap Goes (went_at z m n to went)

-- a conditional jump that went to its side
record Branch (b : XdpProgram) (w : World) (k : Kinds) (m n : Machine) (i : Insn) (wd : Width) (c : JumpCode) (s : Src) : Type 0 where
  taken : Bool
  holds : compared wd c (register m.registers i.dst) (operand m.registers i s) ≡ Some taken
  present : IsPresent k i taken
  described : DescribesMachine w (transferred b.decls k i w.node (is_reference b m.place) taken) m

branch_of : (b : XdpProgram) (w : World) (k : Kinds) (m n : Machine) (i : Insn) (wd : Width) (c : JumpCode) (s : Src) → Going b w k m n i → i.op ≡ Jump wd c s → Branch b w k m n i wd c s
branch_of b w k m n i wd c s g e =
    let r = is_reference b m.place in
    passing (effect_of m.maps.decls k i) verdict
    (λ x. (taken : Bool) × (compared wd c (register m.registers i.dst) (operand m.registers i s) ≡ Some taken) × IsPresent k i taken × DescribesMachine w (changed w.node false taken k x) m)
    (Plainly changed) (λ w. refl) g.passes (g.conditions w k m i wd c s g.stands e) (jump_plainly m.maps.decls k i wd c s e) (λ x is found plainly. record {
      taken = found.0;
      holds = found.1;
      present = found.2;
      described = subst (λ (y : Kinds). DescribesMachine w y m) (sym (plainly w.node r found.0 k) ∙ sym (ap (changed_if w.node r found.0 k) is) ∙ ap (λ ds. transferred ds k i w.node r found.0) g.decls) found.3;
    })

branch_moves : (b : XdpProgram) (w : World) (k : Kinds) (m n : Machine) (i : Insn) (wd : Width) (c : JumpCode) (s : Src) → Going b w k m n i → i.op ≡ Jump wd c s → Branch b w k m n i wd c s → Moves b w k m n i
branch_moves b w k m n i wd c s g e x =
    let r = is_reference b m.place in
    let z = target m.place i (Jump wd c s) x.taken in
    let went : Went z m n = goes_inv b.insns z m n (sym (step_is (program_code b) m i (Jump wd c s) g.begins e ∙ ap (jumps b.insns i.offset m) x.holds) ∙ g.goes) in
    record {
      taken = x.taken;
      world = w;
      present = ap (λ o. if x.taken then goes_jump o (decided k i) else goes_next o (decided k i)) e ∙ present_side wd c s (decided k i) x.taken x.present;
      led = ap (λ o. target m.place i o x.taken) e ∙ went_place z m n went;
      described = subst (λ (y : Machine). DescribesMachine w (transferred b.decls k i w.node r x.taken) y) (sym went.is) (moved w (transferred b.decls k i w.node r x.taken) m went.to x.described);
      compares = subst (Compares n i x.taken) (sym e) (subst (λ (y : Machine). Compares y i x.taken (Jump wd c s)) (sym went.is) x.holds);
      twin = branch_twin b m n i wd c s x.taken z e x.holds went;
    }

-- ---- all of them

ends_not : {P : Type 0} (o : Outcome) (end : ℕ) (n : Machine) → o ≡ Ends end → o ≡ Goes n → P
ends_not o end n h g = absurd (cc)

by_op : (b : XdpProgram) (w : World) (k : Kinds) (m n : Machine) (i : Insn) (op : Op) → Going b w k m n i → i.op ≡ op → GoesOn (program_code b) w k m i op → Moves b w k m n i
by_op b w k m n i Exit g e l = ends_not (step (program_code b) m) l.0 n l.1 g.goes
by_op b w k m n i (Ja Bits64) g e l = ja_moves b w k m n i (Ja Bits64) (λ j. j.offset) g e refl (ap (λ o. goes_jump o (decided k i)) e) (λ t. refl) (λ code x j. refl) (λ j. refl) l
by_op b w k m n i (Ja Bits32) g e l = ja_moves b w k m n i (Ja Bits32) (λ j. j.imm) g e refl (ap (λ o. goes_jump o (decided k i)) e) (λ t. refl) (λ code x j. refl) (λ j. refl) l
by_op b w k m n i (Jump wd c s) g e l = branch_moves b w k m n i wd c s g e (branch_of b w k m n i wd c s g e)
by_op b w k m n i op g e l = plain_moves b w k m n i op g e refl (ap (λ o. goes_next o (decided k i)) e) (λ t. refl) (λ code x. refl) l

pub step_moves : (b : XdpProgram) (w : World) (k : Kinds) (m n : Machine) (i : Insn) → IsInsn i → Going b w k m n i → Moves b w k m n i
step_moves b w k m n i legal g = by_op b w k m n i i.op g refl (g.steps (program_code b) w k m i g.stands legal g.begins g.passes)

-- ---- a jump leaves the machine as it is

pub jump_stays : (code : Code) (m n : Machine) (i : Insn) (op : Op) → insn_at code.insns m.place ≡ Some i → i.op ≡ op → IsTrue (is_plain_jump op) → step code m ≡ Goes n → (to : ℕ) × (n ≡ at_place to m)
jump_stays code m n i (Ja Bits64) h e plain g = let went = goes_inv code.insns (pos (m.place + 1) +ℤ i.offset) m n (sym (step_is code m i (Ja Bits64) h e) ∙ g) in (went.to, went.is)
jump_stays code m n i (Ja Bits32) h e plain g = let went = goes_inv code.insns (pos (m.place + 1) +ℤ i.imm) m n (sym (step_is code m i (Ja Bits32) h e) ∙ g) in (went.to, went.is)
jump_stays code m n i op h e plain g = absurd (cc)

-- ---- the end of a run

goes_not_ends : {P : Type 0} (insns : List Insn) (z : ℤ) (m : Machine) (end : ℕ) → goes_to insns z m ≡ Ends end → P
goes_not_ends {P = P} insns (pos p) m end h = by_test (begins insns p) h
  where
    by_test : (t : Bool) → (if t then Goes (record m { place = p }) else NoCase) ≡ Ends end → P
    by_test true g = absurd (cc)
    by_test false g = absurd (cc)
goes_not_ends insns (negsuc p) m end h = absurd (cc)

on_not_ends : {P : Type 0} (insns : List Insn) (place units : ℕ) (o : Option Machine) (end : ℕ) → goes_on insns place units o ≡ Ends end → P
on_not_ends insns place units None end h = absurd (cc)
on_not_ends insns place units (Some m) end h = goes_not_ends insns (pos (place + units)) m end h

jumps_not_ends : {P : Type 0} (insns : List Insn) (far : ℤ) (m : Machine) (o : Option Bool) (end : ℕ) → jumps insns far m o ≡ Ends end → P
jumps_not_ends insns far m None end h = absurd (cc)
jumps_not_ends insns far m (Some taken) end h = goes_not_ends insns (if taken then pos (m.place + 1) +ℤ far else pos (m.place + 1)) m end h

-- only an exit ends a run, and it ends that of a machine at any place
pub exit_ends : (code : Code) (m : Machine) (i : Insn) (op : Op) (end : ℕ) → i.op ≡ op → outcome code m i op ≡ Ends end
    → (i.op ≡ Exit) × (exits (number_in (register m.registers 0)) ≡ Ends end)
exit_ends code m i Exit end e h = (e, h)
exit_ends code m i (Ja Bits64) end e h = goes_not_ends code.insns (pos (m.place + 1) +ℤ i.offset) m end h
exit_ends code m i (Ja Bits32) end e h = goes_not_ends code.insns (pos (m.place + 1) +ℤ i.imm) m end h
exit_ends code m i (Jump wd c s) end e h = jumps_not_ends code.insns i.offset m (compared wd c (register m.registers i.dst) (operand m.registers i s)) end h
exit_ends code m i op end e h = on_not_ends code.insns m.place (units_of op) (effect code.refs m i op) end h
