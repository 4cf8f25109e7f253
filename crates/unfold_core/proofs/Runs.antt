-- The runs of a program that unfolds: at each node of its graph a step ends the run, or goes along an edge to a later node.
use Rattle.std.proofs.Common.{◌≡◌, ℕ, zero, suc, ℤ, pos, negsuc, ◌+◌, ◌+ℤ◌, ◌≤◌, ◌<◌, ◌==◌, ◌⊎◌, inl, inr, not, Bool, true, false, List, length, get_or, Option, Some, None, Ok, refl, sym, ◌∙◌, ap, subst, arith}
use Rattle.std.specs.Prelude.{IfSome, if◌then◌else◌}
use Rattle.std.specs.List.{Contains, list_any}
use Rattle.xdp_machine.specs.bpf_isa.declared.operation.Width.TheVariants.{Bits32, Bits64}
use Rattle.xdp_machine.specs.bpf_isa.declared.operation.Width.{Width}
use Rattle.xdp_machine.specs.bpf_isa.declared.operation.JumpCode.{JumpCode}
use Rattle.xdp_machine.specs.bpf_isa.declared.operation.Src.{Src}
use Rattle.xdp_machine.specs.bpf_isa.declared.operation.Op.{Op}
use Rattle.xdp_machine.specs.bpf_isa.declared.operation.Op.TheVariants.{Ja, Jump, Exit}
use Rattle.xdp_machine.specs.bpf_isa.declared.instruction.Insn.{Insn}
use Rattle.xdp_machine.specs.bpf_isa.Spelling.{units_of, IsInsn}
use Rattle.xdp_machine.specs.bpf_isa.Text.{insn_at}
use Rattle.xdp_machine.proofs.bpf_isa_laws.LaidLaws.{legal_at}
use Rattle.xdp_machine.specs.Values.{Value}
use Rattle.xdp_machine.specs.Values as is
use Rattle.xdp_machine.specs.State.{Code, Machine, begins}
use Rattle.xdp_machine.specs.State as machine
use Rattle.xdp_machine.specs.Step.{Goes, Ends, NoCase, step, goes_to}
use Rattle.xdp_machine.specs.Program.{XdpProgram, program_code, IsProgram}
use Rattle.xdp_machine.specs.Runs.{Leaves, leaves, run, then_on, Ended}
use Rattle.xdp_machine.specs.Ranges.{IsInRange}
use Rattle.xdp_machine.specs.MachineLaws.{StepsChangeOnly, StepsKeepRanges}
use Rattle.kind_core.specs.declared.kind.Offsets.{Offsets}
use Rattle.kind_core.specs.declared.kind.Offsets.TheVariants.{Fixed}
use Rattle.kind_core.specs.declared.kind.Kinds.{Kinds}
use Rattle.kind_core.specs.Kinds.{value_bytes}
use Rattle.kind_core.specs.Tests.{passed}
use Rattle.kind_core.specs.Effects.{effect_of, verdict}
use Rattle.kind_core.specs.Edges.{decided, decided_as, transferred}
use Rattle.kind_core.specs.Describes.{World, DescribesMachine, StartIsDescribed, JoinDescribes}
use Rattle.kind_core.specs.Soundness.{StepsAreSound, LaterDescribes, IsLater, IsNext, Leads as StepLeads, GoesOn, target}
use Rattle.kind_core.proofs.TransferLaws.{is_jump, transferred_fixed}
use Rattle.kind_core.proofs.SizeLaws.{small_values}
use Rattle.unfold_core.specs.declared.nesting.Loop.{Loop}
use Rattle.unfold_core.specs.declared.edges.Point.{Point}
use Rattle.unfold_core.specs.declared.links.Edge.{Edge}
use Rattle.unfold_core.specs.declared.unfolding.Unfolded.{Unfolded}
use Rattle.unfold_core.specs.Jumps.{distance, natural, led_to, target_of}
use Rattle.unfold_core.specs.Loops.{AreLoops}
use Rattle.unfold_core.specs.Nodes.{IsNode}
use Rattle.unfold_core.specs.Edges.{goes_next, goes_jump, is_reference, edges_of, leaving}
use Rattle.unfold_core.specs.EdgeLaws.{LeadsUp}
use Rattle.unfold_core.specs.Graphs.{first_point, ends, leading, IsGraph}
use Rattle.unfold_core.specs.Pending.{number_of}
use Rattle.unfold_core.specs.Unfolding.{jumps_first, numbered, links, IsUnfolded}
use Rattle.unfold_core.specs.RunLaws.{StandsAt, edge, Follows, ends as comes_to_end, goes as goes_on, RunsAreSound}
use Rattle.unfold_core.proofs.NodeLaws.{nodes_are_ordered, start_is_node}
use Rattle.unfold_core.proofs.EdgesUp.{leaving_goes_up}
use Rattle.unfold_core.proofs.Arriving.{Fine, fine_of, same_itself}
use Rattle.unfold_core.proofs.Numbering.{start_is_first}
use Rattle.unfold_core.proofs.Reaching.{In, all_in, found_at, number_above, arriving_has, pass_at, in_edges, numbered_at, in_links}
use Rattle.unfold_core.proofs.EdgeParts.{leaving_parts, IsOne, next_there, jump_there, LeadsTo, edge_gives}
use Rattle.unfold_core.proofs.SizedGraph.{sized_at}

-- what holds of steps and of kinds
pub record Laws : Type 0 where
  pub steps : StepsAreSound
  pub later : LaterDescribes
  pub joins : JoinDescribes
  pub start : StartIsDescribed
  pub changes : StepsChangeOnly
  pub ranges : StepsKeepRanges

-- ---- a machine arrives at a node

-- the sizes of a machine, its declarations, and the ranges of what it holds
pub record Fits (p : XdpProgram) (m : Machine) : Type 0 where
  pub registers : length m.registers ≡ 11
  pub stack : length m.stack ≡ 64
  pub decls : m.maps.decls ≡ p.decls
  pub range : IsInRange m

-- what describes a machine on an edge describes it at the node that the edge leads to
arrives_at : (offsets : Offsets) (p : XdpProgram) (ls : List Loop) (g : List Point) (e : Point) (w : World) (m : Machine) → Laws → IsProgram p → AreLoops p.insns ls → IsGraph offsets p ls g → In e (leading offsets p ls g) → IsNode ls e.node
    → DescribesMachine w e.kinds m → w.node ≡ number_of ls e.node g → m.place ≡ e.node.place → Fits p m → StandsAt g w m
arrives_at offsets p ls g e w m laws program loops h among s described number place fits =
    let o = nodes_are_ordered ls loops.nested in
    let fine : Fine ls g = fine_of ls g h.ordered.nodes h.ordered.ascending in
    let has = arriving_has ls e.node (λ k. DescribesMachine w k m) (λ k j x. laws.joins w k j m x) (leading offsets p ls g) e None among (same_itself ls e.node o s) described in
    let there = found_at ls g e.node has.0 o fine s (h.known e.node s ∙ has.1) in
    subst_number has.0 has.2 there
  where
    by_number : (k : Kinds) → DescribesMachine w k m → (w.node < length g) × ((d : Point) → ((get_or g w.node d).node ≡ e.node) × ((get_or g w.node d).kinds ≡ k)) → StandsAt g w m
    by_number k d at = record {
      inside = at.0;
      place = λ c. place ∙ ap (λ x. x.place) (sym (at.1 c).0);
      stands = λ c.
          let sized = sized_at offsets p ls g w.node c loops h at.0 in
          record {
            described = subst (λ x. DescribesMachine w x m) (sym (at.1 c).1) d;
            registers = sized.registers ∙ sym fits.registers;
            slots = sized.slots ∙ sym fits.stack;
            stack = fits.stack;
            range = fits.range;
            values = λ q. subst (λ ds. value_bytes ds q ≤ 64) (sym fits.decls) (small_values p.decls program.decls q);
          };
    }

    subst_number : (k : Kinds) → DescribesMachine w k m → (number_of ls e.node g < length g) × ((d : Point) → ((get_or g (number_of ls e.node g) d).node ≡ e.node) × ((get_or g (number_of ls e.node g) d).kinds ≡ k)) → StandsAt g w m
    subst_number k d at = by_number k d (subst (λ i. (i < length g) × ((c : Point) → ((get_or g i c).node ≡ e.node) × ((get_or g i c).kinds ≡ k))) (sym number) at)

-- ---- a machine at a node

abbrev node_at : List Loop → List Point → World → Point
node_at ls g w = get_or g w.node (first_point Fixed ls)

pub record Here (offsets : Offsets) (p : XdpProgram) (ls : List Loop) (g : List Point) (w : World) (m : Machine) (es : List Point) (i : Insn) : Type 0 where
  pub laws : Laws
  pub program : IsProgram p
  pub loops : AreLoops p.insns ls
  pub graph : IsGraph offsets p ls g
  pub fits : Fits p m
  pub stands : StandsAt g w m
  pub begins : insn_at p.insns (node_at ls g w).node.place ≡ Some i
  pub passes : verdict (effect_of p.decls (node_at ls g w).kinds i) ≡ passed
  pub leaves : leaving p ls w.node (node_at ls g w) ≡ Ok es
  pub edges : edges_of p ls w.node (node_at ls g w) i ≡ Ok es

-- a step along an edge
pub record Moves (p : XdpProgram) (ls : List Loop) (g : List Point) (w : World) (m : Machine) : Type 0 where
  pub taken : Bool
  pub world : World
  pub next : Machine
  pub goes : step (program_code p) m ≡ Goes next
  pub along : Contains (links p ls g 0 g) (edge w.node taken world.node)
  pub later : IsLater w world
  pub above : w.node < world.node
  pub fits : Fits p next
  pub stands : StandsAt g world next

at_place : Machine → ℕ → Machine
at_place m place = record m { place = place }

moved : (w : World) (k : Kinds) (m : Machine) (place : ℕ) → DescribesMachine w k m → DescribesMachine w k (at_place m place)
unfolding at_place
moved w k m place h = record { registers = h.registers; slots = h.slots; checked = h.checked; frame = h.frame }

along_edge : (offsets : Offsets) (p : XdpProgram) (ls : List Loop) (g es : List Point) (w v : World) (m after : Machine) (i : Insn) (q : Point) (taken : Bool) → Here offsets p ls g w m es i
    → IsOne ls g es w.node (not (goes_next i.op (decided (node_at ls g w).kinds i))) taken q → step (program_code p) m ≡ Goes (at_place after q.node.place) → IsNext w v → DescribesMachine v q.kinds after → Moves p ls g w m
unfolding at_place
along_edge offsets p ls g es w v m after i q taken h one goes next described =
    let at = node_at ls g w in
    let k = w.node in
    let node : IsNode ls at.node = h.graph.ordered.nodes k (first_point Fixed ls) h.stands.inside in
    let up : LeadsUp ls at q = all_in (LeadsUp ls at) es q (leaving_goes_up p ls k at es h.loops node h.leaves) one.among in
    let o = nodes_are_ordered ls h.loops.nested in
    let fine : Fine ls g = fine_of ls g h.graph.ordered.nodes h.graph.ordered.ascending in
    let above : k < number_of ls q.node g = number_above ls g q.node k (first_point Fixed ls) o fine up.0 h.stands.inside up.1 in
    let there : World = record { frame = v.frame; node = number_of ls q.node g; gave = v.gave } in
    let later : IsLater v there = record { frame = refl; node = omega (arith, next.1, above); gave = λ n lt. refl } in
    let change = h.laws.changes (program_code p) m (at_place after q.node.place) h.fits.registers goes in
    let fits : Fits p (at_place after q.node.place) = record { registers = change.registers ∙ h.fits.registers; stack = change.stack ∙ h.fits.stack; decls = change.decls ∙ h.fits.decls; range = h.laws.ranges (program_code p) m (at_place after q.node.place) h.program.legal h.fits.range goes } in
    let zero_on : k ≡ 0 + k = omega arith in
    let among : In q (leading offsets p ls g) = inr (in_edges p ls 0 g k (first_point Fixed ls) q h.stands.inside (subst (λ j. In q (ends (leaving p ls j at))) zero_on (subst (λ r. In q (ends r)) (sym h.leaves) one.among))) in
    let listed : numbered_at p ls g k at ≡ numbered ls g k (not (goes_next i.op (decided at.kinds i))) es =
    ap (λ x. numbered ls g k (jumps_first at.kinds x) (ends (leaving p ls k at))) h.begins ∙ ap (λ r. numbered ls g k (not (goes_next i.op (decided at.kinds i))) (ends r)) h.leaves in
    let link : Edge = edge k taken (number_of ls q.node g) in
    record {
      taken = taken;
      world = there;
      next = at_place after q.node.place;
      goes = goes;
      along = in_links p ls g 0 g k (first_point Fixed ls) link h.stands.inside (subst (λ j. Contains (numbered_at p ls g j at) link) zero_on (subst (λ xs. Contains xs link) (sym listed) one.numbered));
      later = record { frame = next.0.frame; node = omega (arith, above); gave = next.0.gave };
      above = above;
      fits = fits;
      stands = arrives_at offsets p ls g q there (at_place after q.node.place) h.laws h.program h.loops h.graph among up.0 (h.laws.later v there q.kinds (at_place after q.node.place) later (moved v q.kinds after q.node.place described)) refl refl fits;
    }

-- an edge to a place where an instruction begins
goes_there : (insns : List Insn) (k : Kinds) (o : Option ℕ) (q : Point) (z : ℤ) (after : Machine) → LeadsTo insns k o q → o ≡ natural z → goes_to insns z after ≡ Goes (at_place after q.node.place)
unfolding at_place
goes_there insns k o q (pos place) after l e =
    let there : Some l.to ≡ Some place = sym l.is ∙ e in
    let same : l.to ≡ place = cc in
    let placed : q.node.place ≡ place = l.place ∙ same in
    ap (λ b. if b then Goes (record after { place = place }) else NoCase) (subst (λ x. begins insns x ≡ true) same l.begins) ∙ ap (λ x. Goes (record after { place = x })) (sym placed)
goes_there insns k o q (negsuc place) after l e = let bad : Some l.to ≡ None = sym l.is ∙ e in absurd (cc)

next_moves : (offsets : Offsets) (p : XdpProgram) (ls : List Loop) (g es : List Point) (w v : World) (m after : Machine) (i : Insn) → Here offsets p ls g w m es i → goes_next i.op (decided (node_at ls g w).kinds i) ≡ true
    → step (program_code p) m ≡ goes_to p.insns (pos (m.place + units_of i.op)) after → IsNext w v
    → DescribesMachine v (transferred p.decls (node_at ls g w).kinds i w.node (is_reference p (node_at ls g w).node.place) false) after → Moves p ls g w m
next_moves offsets p ls g es w v m after i h goes steps next described =
    let at = node_at ls g w in
    let one = next_there p ls g es w.node at i h.edges goes in
    let leads = edge_gives p.insns ls at.node (transferred p.decls at.kinds i w.node (is_reference p at.node.place) false) (Some (at.node.place + units_of i.op)) one.0 one.1 in
    let placed : Some (at.node.place + units_of i.op) ≡ natural (pos (m.place + units_of i.op)) = ap (λ x. Some (x + units_of i.op)) (sym (h.stands.place (first_point Fixed ls))) in
    along_edge offsets p ls g es w v m after i one.0 false h one.2 (steps ∙ goes_there p.insns _ _ one.0 (pos (m.place + units_of i.op)) after leads placed) next (subst (λ k. DescribesMachine v k after) (sym leads.kinds) described)

jump_moves : (offsets : Offsets) (p : XdpProgram) (ls : List Loop) (g es : List Point) (w v : World) (m after : Machine) (i : Insn) (z : ℤ) → Here offsets p ls g w m es i → goes_jump i.op (decided (node_at ls g w).kinds i) ≡ true
    → target_of m.place (Some i) ≡ natural z → step (program_code p) m ≡ goes_to p.insns z after → IsNext w v
    → DescribesMachine v (transferred p.decls (node_at ls g w).kinds i w.node (is_reference p (node_at ls g w).node.place) true) after → Moves p ls g w m
jump_moves offsets p ls g es w v m after i z h goes aimed steps next described =
    let at = node_at ls g w in
    let one = jump_there p ls g es w.node at i h.edges goes in
    let leads = edge_gives p.insns ls at.node (transferred p.decls at.kinds i w.node (is_reference p at.node.place) true) (target_of at.node.place (Some i)) one.0 one.1 in
    let placed : target_of at.node.place (Some i) ≡ natural z = ap (λ x. target_of x (Some i)) (sym (h.stands.place (first_point Fixed ls))) ∙ aimed in
    along_edge offsets p ls g es w v m after i one.0 true h one.2 (steps ∙ goes_there p.insns _ _ one.0 z after leads placed) next (subst (λ k. DescribesMachine v k after) (sym leads.kinds) described)

-- ---- the kinds on the edge of a step

kinds_there : (p : XdpProgram) (m : Machine) (k : Kinds) (i : Insn) (number place : ℕ) (taken : Bool) → m.maps.decls ≡ p.decls → m.place ≡ place
    → transferred m.maps.decls k i number (list_any (λ r. r == m.place) p.refs) taken ≡ transferred p.decls k i number (is_reference p place) taken
kinds_there p m k i number place taken e f = ap (λ ds. transferred ds k i number (list_any (λ r. r == m.place) p.refs) taken) e ∙ ap (λ x. transferred p.decls k i number (list_any (λ r. r == x) p.refs) taken) f

-- the same on either edge, where the instruction is no conditional jump
kinds_either : (p : XdpProgram) (m : Machine) (k : Kinds) (i : Insn) (number place : ℕ) (taken other : Bool) → m.maps.decls ≡ p.decls → m.place ≡ place → is_jump i.op ≡ false
    → transferred m.maps.decls k i number (list_any (λ r. r == m.place) p.refs) taken ≡ transferred p.decls k i number (is_reference p place) other
kinds_either p m k i number place taken other e f plain =
    kinds_there p m k i number place taken e f ∙ transferred_fixed p.decls k i number (is_reference p place) taken plain ∙ sym (transferred_fixed p.decls k i number (is_reference p place) other plain)

jump_next : (wd : Width) (c : JumpCode) (s : Src) (o : Option Bool) → (o ≡ None) ⊎ (o ≡ Some false) → goes_next (Jump wd c s) o ≡ true
jump_next wd c s o (inl e) = ap (goes_next (Jump wd c s)) e
jump_next wd c s o (inr e) = ap (goes_next (Jump wd c s)) e

jump_jumps : (wd : Width) (c : JumpCode) (s : Src) (o : Option Bool) → (o ≡ None) ⊎ (o ≡ Some true) → goes_jump (Jump wd c s) o ≡ true
jump_jumps wd c s o (inl e) = ap (goes_jump (Jump wd c s)) e
jump_jumps wd c s o (inr e) = ap (goes_jump (Jump wd c s)) e

-- ---- by the operation

abbrev Steps : XdpProgram → List Loop → List Point → World → Machine → Type 0
Steps p ls g w m = ((verdict : ℕ) × (step (program_code p) m ≡ Ends verdict)) ⊎ Moves p ls g w m

ja_moves : (offsets : Offsets) (p : XdpProgram) (ls : List Loop) (g es : List Point) (w : World) (m : Machine) (i : Insn) (wd : Width) → Here offsets p ls g w m es i → i.op ≡ Ja wd
    → (l : StepLeads (program_code p) w (node_at ls g w).kinds m i (Ja wd)) → target_of m.place (Some i) ≡ natural (target m.place i (Ja wd) l.taken) → Moves p ls g w m
ja_moves offsets p ls g es w m i wd h e l aimed =
    jump_moves offsets p ls g es w l.world m l.after i (target m.place i (Ja wd) l.taken) h (ap (λ o. goes_jump o (decided (node_at ls g w).kinds i)) e) aimed l.goes l.later
    (subst (λ k. DescribesMachine l.world k l.after) (kinds_either p m (node_at ls g w).kinds i w.node (node_at ls g w).node.place l.taken true h.fits.decls (h.stands.place (first_point Fixed ls)) (ap is_jump e)) l.described)

plain_moves : (offsets : Offsets) (p : XdpProgram) (ls : List Loop) (g es : List Point) (w : World) (m : Machine) (i : Insn) (op : Op) → Here offsets p ls g w m es i → i.op ≡ op → ((o : Option Bool) → goes_next op o ≡ true) → is_jump op ≡ false
    → (l : StepLeads (program_code p) w (node_at ls g w).kinds m i op) → target m.place i op l.taken ≡ pos (m.place + units_of op) → Moves p ls g w m
plain_moves offsets p ls g es w m i op h e goes plain l aimed =
    next_moves offsets p ls g es w l.world m l.after i h (ap (λ o. goes_next o (decided (node_at ls g w).kinds i)) e ∙ goes (decided (node_at ls g w).kinds i))
    (l.goes ∙ ap (λ z. goes_to p.insns z l.after) (aimed ∙ ap (λ o. pos (m.place + units_of o)) (sym e))) l.later
    (subst (λ k. DescribesMachine l.world k l.after) (kinds_either p m (node_at ls g w).kinds i w.node (node_at ls g w).node.place l.taken false h.fits.decls (h.stands.place (first_point Fixed ls)) (ap is_jump e ∙ plain)) l.described)

branch_moves : (offsets : Offsets) (p : XdpProgram) (ls : List Loop) (g es : List Point) (w : World) (m : Machine) (i : Insn) (wd : Width) (c : JumpCode) (s : Src) → Here offsets p ls g w m es i → i.op ≡ Jump wd c s
    → (l : StepLeads (program_code p) w (node_at ls g w).kinds m i (Jump wd c s)) → Moves p ls g w m
branch_moves offsets p ls g es w m i wd c s h e l =
    by_taken l.taken l.goes (subst (λ k. DescribesMachine l.world k l.after) (kinds_there p m (node_at ls g w).kinds i w.node (node_at ls g w).node.place l.taken h.fits.decls (h.stands.place (first_point Fixed ls))) l.described) l.present
  where
    by_taken : (t : Bool) → step (program_code p) m ≡ goes_to p.insns (if t then pos (m.place + 1) +ℤ i.offset else pos (m.place + 1)) l.after
        → DescribesMachine l.world (transferred p.decls (node_at ls g w).kinds i w.node (is_reference p (node_at ls g w).node.place) t) l.after
        → (decided_as (node_at ls g w).kinds i (Jump wd c s) ≡ None) ⊎ (decided_as (node_at ls g w).kinds i (Jump wd c s) ≡ Some t) → Moves p ls g w m
    by_taken true goes d present =
        jump_moves offsets p ls g es w l.world m l.after i (pos (m.place + 1) +ℤ i.offset) h
        (ap (λ o. goes_jump o (decided_as (node_at ls g w).kinds i o)) e ∙ jump_jumps wd c s (decided_as (node_at ls g w).kinds i (Jump wd c s)) present)
        (ap (λ o. led_to m.place (distance i o)) e) goes l.later d
    by_taken false goes d present =
        next_moves offsets p ls g es w l.world m l.after i h
        (ap (λ o. goes_next o (decided_as (node_at ls g w).kinds i o)) e ∙ jump_next wd c s (decided_as (node_at ls g w).kinds i (Jump wd c s)) present)
        (goes ∙ ap (λ o. goes_to p.insns (pos (m.place + units_of o)) l.after) (sym e)) l.later d

by_op : (offsets : Offsets) (p : XdpProgram) (ls : List Loop) (g es : List Point) (w : World) (m : Machine) (i : Insn) (op : Op) → Here offsets p ls g w m es i → i.op ≡ op → GoesOn (program_code p) w (node_at ls g w).kinds m i op → Steps p ls g w m
by_op offsets p ls g es w m i Exit h e s = inl s
by_op offsets p ls g es w m i (Ja Bits64) h e l = inr (ja_moves offsets p ls g es w m i Bits64 h e l (ap (λ o. led_to m.place (distance i o)) e))
by_op offsets p ls g es w m i (Ja Bits32) h e l = inr (ja_moves offsets p ls g es w m i Bits32 h e l (ap (λ o. led_to m.place (distance i o)) e))
by_op offsets p ls g es w m i (Jump wd c s) h e l = inr (branch_moves offsets p ls g es w m i wd c s h e l)
by_op offsets p ls g es w m i op h e l = inr (plain_moves offsets p ls g es w m i op h e (λ o. refl) refl l refl)

-- ---- a step from a node

steps_on : (offsets : Offsets) (p : XdpProgram) (ls : List Loop) (g : List Point) (w : World) (m : Machine) → Laws → IsProgram p → AreLoops p.insns ls → IsGraph offsets p ls g → Fits p m → StandsAt g w m → Steps p ls g w m
steps_on offsets p ls g w m laws program loops graph fits stands =
    let at = node_at ls g w in
    let d = first_point Fixed ls in
    let pass = pass_at p ls 0 g w.node d graph.pass stands.inside in
    let number : w.node ≡ 0 + w.node = omega arith in
    let leaves : leaving p ls w.node at ≡ Ok pass.0 = ap (λ k. leaving p ls k at) number ∙ pass.1 in
    let parts = leaving_parts p ls w.node at pass.0 leaves in
    let i : Insn = parts.0 in
    let here : insn_at p.insns m.place ≡ Some i = ap (insn_at p.insns) (stands.place d) ∙ parts.1 in
    let legal : IsInsn i = subst (λ o. IfSome o IsInsn) parts.1 (legal_at p.insns at.node.place program.legal) in
    let passes : verdict (effect_of m.maps.decls at.kinds i) ≡ passed = ap (λ ds. verdict (effect_of ds at.kinds i)) fits.decls ∙ parts.2 in
    by_op offsets p ls g pass.0 w m i i.op
    (record { laws = laws; program = program; loops = loops; graph = graph; fits = fits; stands = stands; begins = parts.1; passes = parts.2; leaves = leaves; edges = parts.3 }) refl
    (laws.steps (program_code p) w at.kinds m i (stands.stands d) legal here passes)

-- ---- whole runs

run_ends : (code : Code) (m : Machine) (verdict n : ℕ) → step code m ≡ Ends verdict → run code (suc n) m ≡ Ended (leaves verdict m)
unfolding run
run_ends code m verdict n e = ap (then_on (run code n) m) e

run_goes : (code : Code) (m next : Machine) (n : ℕ) → step code m ≡ Goes next → run code (suc n) m ≡ run code n next
unfolding run
run_goes code m next n e = ap (then_on (run code n) m) e

-- the rest of a run, which ends in so many steps
pub record Ending (p : XdpProgram) (u : Unfolded) (w : World) (m : Machine) (most : ℕ) : Type 0 where
  pub left : Leaves
  pub path : Follows (program_code p) u w m left
  pub ended : (steps : ℕ) → most ≤ steps → run (program_code p) steps m ≡ Ended left

at_least : (most steps : ℕ) → suc most ≤ steps → (n : ℕ) × (steps ≡ suc n) × (most ≤ n)
at_least most zero h = absurd (omega arith)
at_least most (suc n) h = (n, refl, omega arith)

ending_more : (p : XdpProgram) (u : Unfolded) (w : World) (m : Machine) (most : ℕ) → u.edges.items ≡ links p u.loops.items u.nodes.items 0 u.nodes.items → StandsAt u.nodes.items w m
    → (moves : Moves p u.loops.items u.nodes.items w m) → Ending p u moves.world moves.next most → Ending p u w m (suc most)
ending_more p u w m most edges stands moves onward = record {
  left = onward.left;
  path = goes_on stands moves.goes (subst (λ xs. Contains xs (edge w.node moves.taken moves.world.node)) (sym edges) moves.along) moves.later onward.path;
  ended = λ steps enough.
      let n = at_least most steps enough in
      ap (λ k. run (program_code p) k m) n.1 ∙ run_goes (program_code p) m moves.next n.0 moves.goes ∙ onward.ended n.0 n.2;
}

ending_now : (p : XdpProgram) (u : Unfolded) (w : World) (m : Machine) (most verdict : ℕ) → StandsAt u.nodes.items w m → step (program_code p) m ≡ Ends verdict → Ending p u w m (suc most)
ending_now p u w m most verdict stands e = record {
  left = leaves verdict m;
  path = comes_to_end stands e;
  ended = λ steps enough. let n = at_least most steps enough in ap (λ k. run (program_code p) k m) n.1 ∙ run_ends (program_code p) m verdict n.0 e;
}

-- a run ends before the nodes do
ending : (p : XdpProgram) (u : Unfolded) (most : ℕ) (w : World) (m : Machine) → Laws → IsProgram p → IsUnfolded p u → length u.nodes.items ≤ w.node + most → Fits p m → StandsAt u.nodes.items w m
    → Ending p u w m most
ending p u zero w m laws program h most fits stands = absurd (omega (arith, stands.inside))
ending p u (suc n) w m laws program h most fits stands =
    by_step (steps_on u.offsets p u.loops.items u.nodes.items w m laws program h.loops.loops h.graph fits stands)
    (λ moves. ending p u n moves.world moves.next laws program h (omega (arith, moves.above)) moves.fits moves.stands)
  where
    by_step : Steps p u.loops.items u.nodes.items w m → ((moves : Moves p u.loops.items u.nodes.items w m) → Ending p u moves.world moves.next n) → Ending p u w m (suc n)
    by_step (inl (verdict, e)) on = ending_now p u w m n verdict stands e
    by_step (inr moves) on = ending_more p u w m n h.edges stands moves (on moves)

-- no lookup has been made
nothing_yet : ℕ → Value
nothing_yet n = is.Unset

pub runs_are_sound : Laws → RunsAreSound
runs_are_sound laws p u packet maps program h declared range =
    let ls = u.loops.items in
    let g = u.nodes.items in
    let m : Machine = machine.start packet maps in
    let begin : Point = first_point u.offsets ls in
    let w : World = record { frame = length packet.frame; node = number_of ls begin.node g; gave = nothing_yet } in
    let begun : World = record { frame = length packet.frame; node = 0; gave = nothing_yet } in
    let fits : Fits p m = record { registers = refl; stack = refl; decls = declared; range = range } in
    let later : IsLater begun w = record { frame = refl; node = omega arith; gave = λ n lt. refl } in
    let described : DescribesMachine w begin.kinds m = laws.later begun w begin.kinds m later (laws.start u.offsets nothing_yet m refl refl) in
    let stands : StandsAt g w m = arrives_at u.offsets p ls g begin w m laws program h.loops.loops h.graph (inl refl) (start_is_node ls) described refl refl fits in
    let onward : Ending p u w m (length g) = ending p u (length g) w m laws program h (omega arith) fits stands in
    record { world = w; first = start_is_first ls g; left = onward.left; path = onward.path; ended = onward.ended }
