-- The runs of a covered program: along the run of b, a is the same machine at the origin of b's node.
use Rattle.std.proofs.Common.{◌≡◌, ℕ, pos, ◌⊎◌, inl, inr, Bool, List, length, Option, Some, None, refl, sym, ◌∙◌, ap, subst, arith}
use Rattle.std.specs.Prelude.{IfSome, IsTrue}
use Rattle.std.specs.Int.{w64, cast_unsigned}
use Rattle.std.specs.List.{Contains}
use Rattle.std.proofs.lemmas.List.Elements.{All-contains}
use Rattle.xdp_machine.specs.bpf_isa.declared.operation.Op.TheVariants.{Exit}
use Rattle.xdp_machine.specs.bpf_isa.declared.instruction.Insn.{Insn}
use Rattle.xdp_machine.specs.bpf_isa.Spelling.{IsInsn}
use Rattle.xdp_machine.specs.bpf_isa.Text.{insn_at, unit_count}
use Rattle.xdp_machine.proofs.bpf_isa_laws.LaidLaws.{legal_at}
use Rattle.xdp_machine.specs.Values.{Value, ◌>>=◌}
use Rattle.xdp_machine.specs.Values as is
use Rattle.xdp_machine.specs.State.{Code, Machine, PacketIn, register}
use Rattle.xdp_machine.specs.State as machine
use Rattle.xdp_machine.specs.Step.{Goes, Ends, step}
use Rattle.xdp_machine.specs.Program.{XdpProgram, program_code, IsProgram}
use Rattle.xdp_machine.specs.Runs.{Leaves, leaves, run, then_on}
use Rattle.xdp_machine.specs.Touched.{Touched, nothing, both, touched, touched_at, and_then, operation_as}
use Rattle.xdp_machine.specs.MachineLaws.{StepsChangeOnly, StepsKeepRanges}
use Rattle.xdp_machine.specs.Ranges.{IsInRange}
use Rattle.kind_core.specs.declared.kind.Kinds.{Kinds}
use Rattle.kind_core.specs.Kinds as kinds
use Rattle.kind_core.specs.Tests.{passed}
use Rattle.kind_core.specs.Effects.{effect_of, verdict}
use Rattle.kind_core.specs.Edges.{transferred}
use Rattle.kind_core.specs.Describes.{World, DescribesMachine, StartIsDescribed}
use Rattle.kind_core.specs.Soundness.{target, StepsAreSound, ConditionsAreSound}
use Rattle.unfold_core.specs.declared.links.Edge.{Edge}
use Rattle.unfold_core.specs.declared.unfolding.Unfolded.{Unfolded}
use Rattle.unfold_core.specs.Edges.{is_reference}
use Rattle.unfold_core.specs.Unfolding.{IsUnfolded}
use Rattle.unfold_core.specs.LinkLaws.{HasLinks, NodesHaveLinks}
use Rattle.unfold_core.specs.RunLaws.{StandsAt, edge, Follows, ends as comes_to_end, goes as goes_on, RunsAreSound}
use Rattle.cover_core.specs.Settling.{side, settled}
use Rattle.cover_core.specs.Cover.{node_at, place_of, origin_of, undirected, is_plain_jump, is_constant_move, no_point, TellsBy, IsTold, Idles, Waits, Settles, Steps, StepsBy, IsCoveredBy, IsCover}
use Rattle.cover_core.specs.Laws.{CoversKeepRuns}
use Rattle.cover_core.proofs.Silent.{at_place, RunsTo, one_more, one_silent, untouched, step_is, settled_begins, settles_silently}
use Rattle.cover_core.proofs.Twins.{same_op}
use Rattle.cover_core.proofs.Moving.{Moves, step_moves, jump_stays, exit_ends}
use Rattle.cover_core.proofs.Told.{told_by, move_stays}
use Rattle.cover_core.proofs.Touching.{jump_silent, move_silent, touched_alike}

-- what holds of steps, of kinds and of graphs
pub record Laws : Type 0 where
  pub steps : StepsAreSound
  pub conditions : ConditionsAreSound
  pub start : StartIsDescribed
  pub changes : StepsChangeOnly
  pub ranges : StepsKeepRanges
  pub links : NodesHaveLinks
  pub runs : RunsAreSound

-- a program and its cover
pub record Covering (a b : XdpProgram) (u : Unfolded) (origin : List ℕ) : Type 0 where
  pub laws : Laws
  pub program : IsProgram b
  pub unfolded : IsUnfolded b u
  pub cover : IsCover a b u origin

-- the sizes of a machine, its declarations and its ranges
pub record Fits (b : XdpProgram) (m : Machine) : Type 0 where
  pub registers : length m.registers ≡ 11
  pub range : IsInRange m
  pub decls : m.maps.decls ≡ b.decls

-- a machine at a node, with its instruction
record AtNode (a b : XdpProgram) (u : Unfolded) (origin : List ℕ) (w : World) (m : Machine) : Type 0 where
  links : HasLinks b u.loops.items u.nodes.items w.node no_point
  place : m.place ≡ place_of u w.node
  begins : insn_at b.insns m.place ≡ Some links.insn
  legal : IsInsn links.insn
  passes : verdict (effect_of m.maps.decls (node_at u w.node).kinds links.insn) ≡ passed
  covered : (Idles b u w.node links.insn × Waits u origin w.node) ⊎ StepsBy a b u origin w.node links.insn (insn_at a.insns (origin_of u origin w.node))

at_node : (a b : XdpProgram) (u : Unfolded) (origin : List ℕ) (w : World) (m : Machine) → Covering a b u origin → Fits b m → StandsAt u.nodes.items w m → AtNode a b u origin w m
at_node a b u origin w m c fits stands =
    let links = c.laws.links u.offsets b u.loops.items u.nodes.items w.node no_point c.unfolded.loops.loops c.unfolded.graph stands.inside in
    let place : m.place ≡ place_of u w.node = stands.place no_point in
    let begins : insn_at b.insns m.place ≡ Some links.insn = ap (insn_at b.insns) place ∙ links.insn_is in
    record {
      links = links;
      place = place;
      begins = begins;
      legal = subst (λ (o : Option Insn). IfSome o IsInsn) begins (legal_at b.insns m.place c.program.legal);
      passes = ap (λ ds. verdict (effect_of ds (node_at u w.node).kinds links.insn)) fits.decls ∙ links.allowed;
      covered = subst (λ (o : Option Insn). IsCoveredBy a b u origin w.node o) links.insn_is (c.cover.nodes w.node stands.inside);
    }

stands_first : (code : Code) (u : Unfolded) {w : World} {m : Machine} {e : Leaves} → Follows code u w m e → StandsAt u.nodes.items w m
stands_first code u (comes_to_end stands s) = stands
stands_first code u (goes_on stands s along later rest) = stands

-- ---- a waits

-- what each edge to a node tells holds of a machine there
abbrev IsAsTold : XdpProgram → Unfolded → World → Machine → Type 0
IsAsTold b u w m = (i : Insn) → IsTold b u w.node i → register m.registers i.dst ≡ is.Number (cast_unsigned w64 i.imm)

-- b's step where it idles
idles_on : (a b : XdpProgram) (u : Unfolded) (origin : List ℕ) (w : World) (m n : Machine) → (at : AtNode a b u origin w m) → IsAsTold b u w m → step (program_code b) m ≡ Goes n → Idles b u w.node at.links.insn
    → (to : ℕ) × (n ≡ at_place to m)
idles_on a b u origin w m n at as_told goes (inl jumps) = jump_stays (program_code b) m n at.links.insn at.links.insn.op at.begins refl jumps goes
idles_on a b u origin w m n at as_told goes (inr told) = move_stays (program_code b) m n at.links.insn at.links.insn.op at.begins refl at.legal told.move (as_told at.links.insn told) goes

-- it touches nothing
idles_untouched : (b : XdpProgram) (u : Unfolded) (k : ℕ) (m : Machine) (i : Insn) → insn_at b.insns m.place ≡ Some i → Idles b u k i → touched_at (program_code b) m ≡ nothing
idles_untouched b u k m i begins (inl jumps) = untouched (program_code b) m i i.op begins refl (jump_silent m i i.op jumps)
idles_untouched b u k m i begins (inr told) = untouched (program_code b) m i i.op begins refl (move_silent m i i.op told.move)

waits_on : (a b : XdpProgram) (u : Unfolded) (origin : List ℕ) (w v : World) (m n : Machine) (e : Leaves) (t : Touched) (taken : Bool) → Contains u.edges.items (edge w.node taken v.node) → (to : ℕ) × (n ≡ at_place to m) → Waits u origin w.node
    → RunsTo (program_code a) (at_place (origin_of u origin v.node) n) e t → RunsTo (program_code a) (at_place (origin_of u origin w.node) m) e t
waits_on a b u origin w v m n e t taken along stays waits r =
    let same : origin_of u origin v.node ≡ origin_of u origin w.node =
    All-contains (λ x. x.from ≡ w.node → origin_of u origin x.to ≡ origin_of u origin w.node) u.edges.items (edge w.node taken v.node) waits along refl in
    subst (λ (x : Machine). RunsTo (program_code a) (at_place (origin_of u origin w.node) x) e t) stays.1
    (subst (λ o. RunsTo (program_code a) (at_place o n) e t) same r)

-- ---- both step

-- the node that a step leads to, by the side that it took
record Leads (b : XdpProgram) (u : Unfolded) (w v : World) (taken : Bool) : Type 0 where
  to : ℕ
  along : Contains u.edges.items (edge w.node taken to)
  is : to ≡ v.node

pos_inj : (m n : ℕ) → pos m ≡ pos n → m ≡ n
pos_inj m n h = cc

leads_to : (a b : XdpProgram) (u : Unfolded) (origin : List ℕ) (w v : World) (m n : Machine) (other : Bool) → Covering a b u origin → (at : AtNode a b u origin w m) → StandsAt u.nodes.items v n
    → Contains u.edges.items (edge w.node other v.node) → (moves : Moves b w (node_at u w.node).kinds m n at.links.insn) → Leads b u w v moves.taken
leads_to a b u origin w v m n other c at stands along moves =
    let i = at.links.insn in
    let there = at.links.some moves.taken moves.present in
    let to = there.0 in
    let link = at.links.each (edge w.node moves.taken to) there.1 refl in
    let aimed : pos (place_of u to) ≡ pos n.place = sym link.target_is ∙ ap (λ p. target p i i.op moves.taken) (sym at.place) ∙ moves.led in
    let places : place_of u to ≡ place_of u v.node = pos_inj (place_of u to) n.place aimed ∙ stands.place no_point in
    let edges = c.unfolded.edges in
    record {
      to = to;
      along = subst (λ (xs : List Edge). Contains xs (edge w.node moves.taken to)) (sym edges) there.1;
      is = at.links.same (edge w.node moves.taken to) (edge w.node other v.node) there.1 (subst (λ (xs : List Edge). Contains xs (edge w.node other v.node)) edges along) refl refl places;
    }

-- what the edges to the next node tell, of the one that the step took
told_there : (a b : XdpProgram) (u : Unfolded) (origin : List ℕ) (w v : World) (m n : Machine) → (at : AtNode a b u origin w m) → (moves : Moves b w (node_at u w.node).kinds m n at.links.insn) → Leads b u w v moves.taken
    → IsInRange n → IsAsTold b u v n
told_there a b u origin w v m n at moves leads range i told =
    let j = at.links.insn in
    let x : Edge = edge w.node moves.taken leads.to in
    let by : TellsBy i moves.taken (insn_at b.insns (place_of u w.node)) = All-contains (λ y. y.to ≡ v.node → TellsBy i y.taken (insn_at b.insns (place_of u y.from))) u.edges.items x told.each leads.along leads.is in
    told_by n i j moves.taken range at.legal (subst (λ (o : Option Insn). TellsBy i moves.taken o) at.links.insn_is by) moves.compares

-- a's step, and what leads on silently behind it
steps_by : (a b : XdpProgram) (u : Unfolded) (origin : List ℕ) (w : World) (m n : Machine) (to : ℕ) (e : Leaves) (t : Touched) (i j : Insn) → insn_at a.insns (origin_of u origin w.node) ≡ Some j → insn_at b.insns m.place ≡ Some i
    → Steps a b u origin w.node i j → (moves : Moves b w (node_at u w.node).kinds m n i) → m.place ≡ place_of u w.node → (s : Option ℕ) → side (origin_of u origin w.node) j moves.taken ≡ s
    → (s >>= settled a.insns (transferred b.decls (node_at u w.node).kinds i w.node (is_reference b m.place) moves.taken)) ≡ Some to
    → RunsTo (program_code a) (at_place to n) e t → RunsTo (program_code a) (at_place (origin_of u origin w.node) m) e (both (touched_at (program_code b) m) t)
steps_by a b u origin w m n to e t i j begins here st moves place None is h r = absurd (cc)
steps_by a b u origin w m n to e t i j begins here st moves place (Some s) is h r =
    let k : Kinds = transferred b.decls (node_at u w.node).kinds i w.node (is_reference b m.place) moves.taken in
    let starts = settled_begins a.insns k (unit_count a.insns) s to h in
    let refers : is_reference a (origin_of u origin w.node) ≡ is_reference b m.place = st.refers ∙ ap (is_reference b) (sym place) in
    let goes : step (program_code a) (at_place (origin_of u origin w.node) m) ≡ Goes (at_place s n) = moves.twin a (origin_of u origin w.node) s j begins st.same refers is starts in
    let described : DescribesMachine moves.world k (at_place s n) =
    let d = moves.described in record { registers = d.registers; slots = d.slots; checked = d.checked; frame = d.frame } in
    subst (λ (x : Touched). RunsTo (program_code a) (at_place (origin_of u origin w.node) m) e (both x t)) (touched_alike a b (origin_of u origin w.node) m i j begins here st.same)
    (one_more (program_code a) (at_place (origin_of u origin w.node) m) (at_place s n) e t goes
    (settles_silently (program_code a) moves.world k (unit_count a.insns) (at_place s n) to e t described h r))

both_step : (a b : XdpProgram) (u : Unfolded) (origin : List ℕ) (w v : World) (m n : Machine) (e : Leaves) (t : Touched) (i : Insn) → (moves : Moves b w (node_at u w.node).kinds m n i) → Leads b u w v moves.taken
    → m.place ≡ place_of u w.node → insn_at b.insns m.place ≡ Some i → (o : Option Insn) → insn_at a.insns (origin_of u origin w.node) ≡ o → StepsBy a b u origin w.node i o
    → RunsTo (program_code a) (at_place (origin_of u origin v.node) n) e t → RunsTo (program_code a) (at_place (origin_of u origin w.node) m) e (both (touched_at (program_code b) m) t)
both_step a b u origin w v m n e t i moves leads place here None begins st r = absurd st
both_step a b u origin w v m n e t i moves leads place here (Some j) begins st r =
    let x : Edge = edge w.node moves.taken leads.to in
    let settles : Settles a b u origin i j x = All-contains (λ y. y.from ≡ w.node → Settles a b u origin i j y) u.edges.items x st.settles leads.along refl in
    let known : (side (origin_of u origin w.node) j moves.taken >>= settled a.insns (transferred b.decls (node_at u w.node).kinds i w.node (is_reference b m.place) moves.taken)) ≡ Some (origin_of u origin leads.to) =
    ap (λ p. side (origin_of u origin w.node) j moves.taken >>= settled a.insns (transferred b.decls (node_at u w.node).kinds i w.node (is_reference b p) moves.taken)) place ∙ settles in
    steps_by a b u origin w m n (origin_of u origin leads.to) e t i j begins here st moves place (side (origin_of u origin w.node) j moves.taken) refl known
    (subst (λ y. RunsTo (program_code a) (at_place (origin_of u origin y) n) e t) (sym leads.is) r)

-- ---- a step of b, and what a does meanwhile

-- the machine, at a place of a, and at its own in b, comes to one end, and touches the same
abbrev RunsAlike : XdpProgram → XdpProgram → ℕ → Machine → Leaves → Type 0
RunsAlike a b p m e = (t : Touched) × RunsTo (program_code a) (at_place p m) e t × RunsTo (program_code b) m e t

-- b's step from a node, and the edge that it takes
record Stepped (a b : XdpProgram) (u : Unfolded) (origin : List ℕ) (w v : World) (m n : Machine) : Type 0 where
  at : AtNode a b u origin w m
  moves : Moves b w (node_at u w.node).kinds m n at.links.insn
  leads : Leads b u w v moves.taken

stepped : (a b : XdpProgram) (u : Unfolded) (origin : List ℕ) (w v : World) (m n : Machine) (taken : Bool) → Covering a b u origin → Fits b m → StandsAt u.nodes.items w m
    → step (program_code b) m ≡ Goes n → Contains u.edges.items (edge w.node taken v.node) → StandsAt u.nodes.items v n → Stepped a b u origin w v m n
stepped a b u origin w v m n taken c fits stands goes along there =
    let at : AtNode a b u origin w m = at_node a b u origin w m c fits stands in
    let moves : Moves b w (node_at u w.node).kinds m n at.links.insn = step_moves b w (node_at u w.node).kinds m n at.links.insn at.legal (record {
      steps = c.laws.steps;
      conditions = c.laws.conditions;
      stands = stands.stands no_point;
      begins = at.begins;
      decls = fits.decls;
      passes = at.passes;
      goes = goes;
    }) in
    record { at = at; moves = moves; leads = leads_to a b u origin w v m n taken c at there along moves }

goes_with : (a b : XdpProgram) (u : Unfolded) (origin : List ℕ) (w v : World) (m n : Machine) (e : Leaves) (taken : Bool) → Stepped a b u origin w v m n → IsAsTold b u w m
    → step (program_code b) m ≡ Goes n → Contains u.edges.items (edge w.node taken v.node)
    → RunsAlike a b (origin_of u origin v.node) n e → RunsAlike a b (origin_of u origin w.node) m e
goes_with a b u origin w v m n e taken s as_told goes along r = by_rule s.at.covered
  where
    by_rule : (Idles b u w.node s.at.links.insn × Waits u origin w.node) ⊎ StepsBy a b u origin w.node s.at.links.insn (insn_at a.insns (origin_of u origin w.node))
        → RunsAlike a b (origin_of u origin w.node) m e
    by_rule (inl x) = (
      r.0,
      waits_on a b u origin w v m n e r.0 taken along (idles_on a b u origin w m n s.at as_told goes x.0) x.1 r.1,
      one_silent (program_code b) m n e r.0 goes (idles_untouched b u w.node m s.at.links.insn s.at.begins x.0) r.2,
    )
    by_rule (inr st) = (
      both (touched_at (program_code b) m) r.0,
      both_step a b u origin w v m n e r.0 s.at.links.insn s.moves s.leads s.at.place s.at.begins (insn_at a.insns (origin_of u origin w.node)) refl st r.1,
      one_more (program_code b) m n e r.0 goes r.2,
    )

-- ---- the end

-- a run that ends at once
ends_here : (code : Code) (m : Machine) (verdict : ℕ) → step code m ≡ Ends verdict → RunsTo code m (leaves verdict m) nothing
unfolding run touched
ends_here code m verdict s = (1, ap (then_on (run code 0) m) s, ap (and_then (touched_at code m) (touched code 0)) s)

ends_by : (a b : XdpProgram) (m : Machine) (p verdict : ℕ) (i : Insn) → step (program_code b) m ≡ Ends verdict → insn_at b.insns m.place ≡ Some i → (j : Insn) → insn_at a.insns p ≡ Some j
    → undirected j ≡ undirected i → RunsTo (program_code a) (at_place p m) (leaves verdict m) nothing
ends_by a b m p verdict i stepped here j there same =
    let ended = exit_ends (program_code b) m i i.op verdict refl (sym (step_is (program_code b) m i i.op here refl) ∙ stepped) in
    let twin : step (program_code a) (at_place p m) ≡ Ends verdict = step_is (program_code a) (at_place p m) j Exit there (same_op i j same ∙ ended.0) ∙ ended.1 in
    ends_here (program_code a) (at_place p m) verdict twin

-- an exit does not idle
clash : {P : Type 0} (b : XdpProgram) (u : Unfolded) (n : ℕ) (i : Insn) → i.op ≡ Exit → Idles b u n i → P
clash b u n i e (inl h) = let never : IsTrue (is_plain_jump Exit) = subst (λ o. IsTrue (is_plain_jump o)) e h in absurd (cc)
clash b u n i e (inr h) = let never : IsTrue (is_constant_move Exit) = subst (λ o. IsTrue (is_constant_move o)) e h.move in absurd (cc)

ends_with : (a b : XdpProgram) (u : Unfolded) (origin : List ℕ) (w : World) (m : Machine) (verdict : ℕ) → Covering a b u origin → Fits b m → StandsAt u.nodes.items w m
    → step (program_code b) m ≡ Ends verdict → RunsTo (program_code a) (at_place (origin_of u origin w.node) m) (leaves verdict m) nothing
ends_with a b u origin w m verdict c fits stands stepped = by_rule at.covered
  where
    at : AtNode a b u origin w m
    at = at_node a b u origin w m c fits stands

    by_insn : (o : Option Insn) → insn_at a.insns (origin_of u origin w.node) ≡ o → StepsBy a b u origin w.node at.links.insn o → RunsTo (program_code a) (at_place (origin_of u origin w.node) m) (leaves verdict m) nothing
    by_insn None is st = absurd st
    by_insn (Some j) is st = ends_by a b m (origin_of u origin w.node) verdict at.links.insn stepped at.begins j is st.same

    by_rule : (Idles b u w.node at.links.insn × Waits u origin w.node) ⊎ StepsBy a b u origin w.node at.links.insn (insn_at a.insns (origin_of u origin w.node))
        → RunsTo (program_code a) (at_place (origin_of u origin w.node) m) (leaves verdict m) nothing
    by_rule (inl x) = clash b u w.node at.links.insn (exit_ends (program_code b) m at.links.insn at.links.insn.op verdict refl (sym (step_is (program_code b) m at.links.insn at.links.insn.op at.begins refl) ∙ stepped)).0 x.0
    by_rule (inr st) = by_insn (insn_at a.insns (origin_of u origin w.node)) refl st

-- ---- whole runs

-- a's run from the origin of a node comes to the end of b's, and touches what this touches
keeps : (a b : XdpProgram) (u : Unfolded) (origin : List ℕ) → Covering a b u origin → {w : World} {m : Machine} {e : Leaves} → Follows (program_code b) u w m e → Fits b m → IsAsTold b u w m
    → RunsAlike a b (origin_of u origin w.node) m e
keeps a b u origin c (comes_to_end {w = w} {m = m} {verdict = verdict} stands ended) fits as_told = (nothing, ends_with a b u origin w m verdict c fits stands ended, ends_here (program_code b) m verdict ended)
keeps a b u origin c (goes_on {w = w} {v = v} {m = m} {n = n} {e = e} {taken = taken} stands goes along later rest) fits as_told =
    let change = c.laws.changes (program_code b) m n fits.registers goes in
    let range : IsInRange n = c.laws.ranges (program_code b) m n c.program.legal fits.range goes in
    let next : Fits b n = record { registers = change.registers ∙ fits.registers; range = range; decls = change.decls ∙ fits.decls } in
    let s = stepped a b u origin w v m n taken c fits stands goes along (stands_first (program_code b) u rest) in
    goes_with a b u origin w v m n e taken s as_told goes along (keeps a b u origin c rest next (told_there a b u origin w v m n s.at s.moves s.leads range))

-- no edge tells anything at the first node
nothing_told : (b : XdpProgram) (u : Unfolded) (w : World) (m : Machine) → w.node ≡ 0 → IsAsTold b u w m
nothing_told b u w m first i told = let behind = told.behind in absurd (omega (arith, behind, first))

-- no lookup and no base has been made
nothing_yet : ℕ → Value
nothing_yet n = is.Unset

pub covers_keep_runs : Laws → CoversKeepRuns
covers_keep_runs laws a b u origin program unfolded cover packet maps declared range =
    let c : Covering a b u origin = record { laws = laws; program = program; unfolded = unfolded; cover = cover } in
    let m : Machine = machine.start packet maps in
    let decls : maps.decls ≡ b.decls = declared ∙ sym cover.decls in
    let sound = laws.runs b u packet maps program unfolded decls range in
    let fits : Fits b m = record { registers = refl; range = range; decls = decls } in
    let from_first : RunsAlike a b (origin_of u origin 0) m sound.left =
    subst (λ n. RunsAlike a b (origin_of u origin n) m sound.left) sound.first (keeps a b u origin c sound.path fits (nothing_told b u sound.world m sound.first)) in
    let begun : World = record { frame = length packet.frame; node = 0; gave = nothing_yet } in
    let described : DescribesMachine begun (kinds.start u.offsets) m = laws.start u.offsets nothing_yet m refl refl in
    record {
      left = sound.left;
      touched = from_first.0;
      of_b = from_first.2;
      of_a = settles_silently (program_code a) begun (kinds.start u.offsets) (unit_count a.insns) m (origin_of u origin 0) sound.left from_first.0 described cover.start from_first.1;
    }
