use Rattle.std.proofs.Common.{Global, Vec, ◌≡◌, ℕ, ◌<◌, ◌≤◌, ◌==◌, Bool, List, [], ◌∷◌, ◌++◌, ◌+◌, ◌-◌, length, length-append, replicate, take, map, sym, ◌∙◌, ap, subst, arith, refl}
use Rattle.std.specs.List.{list_any}
use Rattle.std.proofs.lemmas.List.{length-map, get_or_default}
use Rattle.xdp_machine.specs.xdp_maps.declared.decl.MapDecl.{MapDecl}
use Rattle.kind_core.specs.declared.kind.Kinds.{Kinds}
use Rattle.kind_core.specs.Kinds.{key_bytes}
use Rattle.unfold_core.specs.declared.edges.Point.{Point}
use Rattle.operator_cells.specs.row_rules.NodeRows.Rows.{no_point}
use Rattle.cell_core.specs.Formed.{FitsMap, IsBelow}
use Rattle.cell_core.specs.declared.program.Node.{Node}
use Rattle.cell_core.specs.declared.site.Site.{Site}
use Rattle.operator_cells.specs.declared.held_cells.way.Way.{Way}
use Rattle.operator_cells.specs.Making.{seen}
use Rattle.operator_cells.specs.HeldCells.Paths.{NodeView, node_at}
use Rattle.operator_cells.specs.HeldCells.RegisterCells.{pointed, AreInside}
use Rattle.operator_cells.specs.HeldCells.Steps.{Steps}
use Rattle.operator_cells.proofs.SeenLaws.{seen_length}
use Rattle.edge_cells.specs.NodeCells.Ends.{IsNode, is_reference, brought, all_brought}
use Rattle.edge_cells.specs.NodeCells.Feeding.{Leave}
use Rattle.site_cells.specs.Sited.{sited}
use Rattle.predicate_core.specs.StepCells.Stepping.{made_of}
use Rattle.predicate_core.specs.StepCells.Rows.{NodeRows}
use Rattle.predicate_core.specs.StepCells.Pointing.{NodePoints}
use Rattle.predicate_core.specs.ProgramGraph.Graphs.{node_view, graph_of}
use Rattle.predicate_core.specs.ProgramGraph.Sound.{IsSoundGraph}
use Rattle.predicate_core.specs.Feeding.{FeedsNodes}
use Rattle.predicate_core.specs.Progress.{making_of, entries_of, pending_of, targets, Entered}
use Rattle.predicate_core.proofs.Progressing.{node_is, made_there, site_more, sited_count, small_keys, insn_legal, targets_inside, leave_inside, node_made, ready_next, pending_more}
use Rattle.predicate_core.specs.Laws.{made_next}
use Rattle.predicate_core.specs.Gathering.{PassesTo}
use Rattle.predicate_core.specs.Stages.{kinds_of}
use Rattle.predicate_core.specs.Reading.{ReadSoFar}
use Rattle.predicate_core.proofs.making.make_node.Goals as goal

pub step_node-requires-clause-insn : goal.step_node-requires-clause-insn
step_node-requires-clause-insn c = insn_legal (graph_of c.args.program.now c.args.unfolded.now) c.args.node c.args.insn.now (node_at (graph_of c.args.program.now c.args.unfolded.now).nodes c.args.node).kinds c.requires.insn

pub step_node-requires-clause-inside : goal.step_node-requires-clause-inside
step_node-requires-clause-inside c =
    let is : node_at (graph_of c.args.program.now c.args.unfolded.now).nodes c.args.node ≡ node_view c.index-at.result.now = node_is c.args.program.now c.args.unfolded.now c.args.node c.index-at.result.now c.requires.node c.index-at.ensures in
    let kinds : (node_at (graph_of c.args.program.now c.args.unfolded.now).nodes c.args.node).kinds ≡ c.index-at.result.now.kinds = ap (λ (n : NodeView). n.kinds) is in
    subst (λ (ds : List MapDecl). AreInside ds (length (seen c.arrive_at.new.progress.made.cells.items)) (pointed c.arrive_at.new.progress.made.pointers.items) c.in_ok-arrived.arrived.here.held c.index-at.result.now.kinds) (sym c.decls.ensures.decls)
    (subst (AreInside c.args.program.now.decls (length (seen c.arrive_at.new.progress.made.cells.items)) (pointed c.arrive_at.new.progress.made.pointers.items) c.in_ok-arrived.arrived.here.held) kinds c.in_ok-arrived.ensures.comes.arrives.inside)

pub step_node-requires-clause-keys : goal.step_node-requires-clause-keys
step_node-requires-clause-keys c q = subst (λ (ds : List MapDecl). key_bytes ds q ≤ 64) (sym c.decls.ensures.decls) (small_keys c.args.program.now.decls c.decls.ensures.program.decls q)

pub pass-requires-clause-map : goal.pass-requires-clause-map
pass-requires-clause-map c low =
    let is : node_at (graph_of c.args.program.now c.args.unfolded.now).nodes c.args.node ≡ node_view c.index-at.result.now = node_is c.args.program.now c.args.unfolded.now c.args.node c.index-at.result.now c.requires.node c.index-at.ensures in
    let kinds : (node_at (graph_of c.args.program.now c.args.unfolded.now).nodes c.args.node).kinds ≡ c.index-at.result.now.kinds = ap (λ (n : NodeView). n.kinds) is in
    let refers : c.contains.result ≡ is_reference (graph_of c.args.program.now c.args.unfolded.now) c.args.node = c.contains.ensures.value ∙ ap (λ (rs : List ℕ). list_any (λ r. r == c.place-place.result) rs) c.refs.ensures.refs
    ∙ ap (λ (n : ℕ). list_any (λ r. r == n) c.args.program.now.refs) (c.place-place.ensures ∙ sym (ap (λ (n : NodeView). n.place) is)) in
    let steps : Steps (graph_of c.args.program.now c.args.unfolded.now) c.args.node c.in_ok-arrived.arrived.here.guard c.in_ok-arrived.arrived.here.held (seen c.arrive_at.new.progress.made.cells.items) (seen c.step_node.new.made.cells.items) (pointed c.arrive_at.new.progress.made.pointers.items) (pointed c.step_node.new.made.pointers.items)
    (sited c.arrive_at.new.progress.made.sites.items) (sited c.step_node.new.made.sites.items) c.arrive_at.new.progress.made.ways.items c.step_node.new.made.ways.items c.arrive_at.new.progress.made.exits.items c.step_node.new.made.exits.items =
    c.in_ok-step_node.ensures.steps (graph_of c.args.program.now c.args.unfolded.now) (sym c.decls.ensures.decls) (subst (IsNode (graph_of c.args.program.now c.args.unfolded.now) c.args.node c.args.insn.now) kinds c.requires.insn) c.requires.ends refers (made_there (graph_of c.args.program.now c.args.unfolded.now) c.args.node c.args.progress.now c.arrive_at.new.progress c.in_ok-arrived.arrived.here c.in_ok-arrived.arrived.pending.items c.requires.ready c.in_ok-arrived.ensures.comes) in
    let before : c.len-sites_before.result ≡ length (sited c.arrive_at.new.progress.made.sites.items) = sited_count c.args.progress.now.made.sites c.arrive_at.new.progress.made.sites c.len-sites_before.result (omega (arith, c.len-sites_before.ensures)) c.in_ok-arrived.ensures.comes.sites in
    let sites_are = ap sited c.deref-2.ensures.value in
    let fits = site_more (FitsMap (graph_of c.args.program.now c.args.unfolded.now).decls) (sited c.arrive_at.new.progress.made.sites.items) steps.more (sited c.deref-2.result.now) c.len-sites_before.result before (sites_are ∙ steps.sites_are) steps.fits low in
    omega (arith, fits.map, c.in_ok-arrived.ensures.comes.waiting.0)

pub pass-requires-clause-below : goal.pass-requires-clause-below
pass-requires-clause-below c low =
    let is : node_at (graph_of c.args.program.now c.args.unfolded.now).nodes c.args.node ≡ node_view c.index-at.result.now = node_is c.args.program.now c.args.unfolded.now c.args.node c.index-at.result.now c.requires.node c.index-at.ensures in
    let kinds : (node_at (graph_of c.args.program.now c.args.unfolded.now).nodes c.args.node).kinds ≡ c.index-at.result.now.kinds = ap (λ (n : NodeView). n.kinds) is in
    let refers : c.contains.result ≡ is_reference (graph_of c.args.program.now c.args.unfolded.now) c.args.node = c.contains.ensures.value ∙ ap (λ (rs : List ℕ). list_any (λ r. r == c.place-place.result) rs) c.refs.ensures.refs
    ∙ ap (λ (n : ℕ). list_any (λ r. r == n) c.args.program.now.refs) (c.place-place.ensures ∙ sym (ap (λ (n : NodeView). n.place) is)) in
    let steps : Steps (graph_of c.args.program.now c.args.unfolded.now) c.args.node c.in_ok-arrived.arrived.here.guard c.in_ok-arrived.arrived.here.held (seen c.arrive_at.new.progress.made.cells.items) (seen c.step_node.new.made.cells.items) (pointed c.arrive_at.new.progress.made.pointers.items) (pointed c.step_node.new.made.pointers.items)
    (sited c.arrive_at.new.progress.made.sites.items) (sited c.step_node.new.made.sites.items) c.arrive_at.new.progress.made.ways.items c.step_node.new.made.ways.items c.arrive_at.new.progress.made.exits.items c.step_node.new.made.exits.items =
    c.in_ok-step_node.ensures.steps (graph_of c.args.program.now c.args.unfolded.now) (sym c.decls.ensures.decls) (subst (IsNode (graph_of c.args.program.now c.args.unfolded.now) c.args.node c.args.insn.now) kinds c.requires.insn) c.requires.ends refers (made_there (graph_of c.args.program.now c.args.unfolded.now) c.args.node c.args.progress.now c.arrive_at.new.progress c.in_ok-arrived.arrived.here c.in_ok-arrived.arrived.pending.items c.requires.ready c.in_ok-arrived.ensures.comes) in
    let before : c.len-sites_before.result ≡ length (sited c.arrive_at.new.progress.made.sites.items) = sited_count c.args.progress.now.made.sites c.arrive_at.new.progress.made.sites c.len-sites_before.result (omega (arith, c.len-sites_before.ensures)) c.in_ok-arrived.ensures.comes.sites in
    site_more (IsBelow (length (seen c.step_node.new.made.cells.items))) (sited c.arrive_at.new.progress.made.sites.items) steps.more (sited c.deref-2.result.now) c.len-sites_before.result before (ap sited c.deref-2.ensures.value ∙ steps.sites_are) steps.below low

pub pass-requires-clause-there : goal.pass-requires-clause-there
pass-requires-clause-there c =
    let is : node_at (graph_of c.args.program.now c.args.unfolded.now).nodes c.args.node ≡ node_view c.index-at.result.now = node_is c.args.program.now c.args.unfolded.now c.args.node c.index-at.result.now c.requires.node c.index-at.ensures in
    let kinds : (node_at (graph_of c.args.program.now c.args.unfolded.now).nodes c.args.node).kinds ≡ c.index-at.result.now.kinds = ap (λ (n : NodeView). n.kinds) is in
    let refers : c.contains.result ≡ is_reference (graph_of c.args.program.now c.args.unfolded.now) c.args.node = c.contains.ensures.value ∙ ap (λ (rs : List ℕ). list_any (λ r. r == c.place-place.result) rs) c.refs.ensures.refs
    ∙ ap (λ (n : ℕ). list_any (λ r. r == n) c.args.program.now.refs) (c.place-place.ensures ∙ sym (ap (λ (n : NodeView). n.place) is)) in
    let steps : Steps (graph_of c.args.program.now c.args.unfolded.now) c.args.node c.in_ok-arrived.arrived.here.guard c.in_ok-arrived.arrived.here.held (seen c.arrive_at.new.progress.made.cells.items) (seen c.step_node.new.made.cells.items) (pointed c.arrive_at.new.progress.made.pointers.items) (pointed c.step_node.new.made.pointers.items)
    (sited c.arrive_at.new.progress.made.sites.items) (sited c.step_node.new.made.sites.items) c.arrive_at.new.progress.made.ways.items c.step_node.new.made.ways.items c.arrive_at.new.progress.made.exits.items c.step_node.new.made.exits.items =
    c.in_ok-step_node.ensures.steps (graph_of c.args.program.now c.args.unfolded.now) (sym c.decls.ensures.decls) (subst (IsNode (graph_of c.args.program.now c.args.unfolded.now) c.args.node c.args.insn.now) kinds c.requires.insn) c.requires.ends refers (made_there (graph_of c.args.program.now c.args.unfolded.now) c.args.node c.args.progress.now c.arrive_at.new.progress c.in_ok-arrived.arrived.here c.in_ok-arrived.arrived.pending.items c.requires.ready c.in_ok-arrived.ensures.comes) in
    λ i d l. let x = c.in_ok-arrived.ensures.comes.waiting.1 i d l in omega (arith, x, steps.grows.longer)

pub enter-requires-clause-inside : goal.enter-requires-clause-inside
enter-requires-clause-inside c =
    let inside : c.args.node < length (graph_of c.args.program.now c.args.unfolded.now).nodes = omega (arith, c.requires.node, length-map c.args.unfolded.now.nodes.items node_view) in
    let is : node_at (graph_of c.args.program.now c.args.unfolded.now).nodes c.args.node ≡ node_view c.index-at.result.now = node_is c.args.program.now c.args.unfolded.now c.args.node c.index-at.result.now c.requires.node c.index-at.ensures in
    let kinds : (node_at (graph_of c.args.program.now c.args.unfolded.now).nodes c.args.node).kinds ≡ c.index-at.result.now.kinds = ap (λ (n : NodeView). n.kinds) is in
    let refers : c.contains.result ≡ is_reference (graph_of c.args.program.now c.args.unfolded.now) c.args.node = c.contains.ensures.value ∙ ap (λ (rs : List ℕ). list_any (λ r. r == c.place-place.result) rs) c.refs.ensures.refs
    ∙ ap (λ (n : ℕ). list_any (λ r. r == n) c.args.program.now.refs) (c.place-place.ensures ∙ sym (ap (λ (n : NodeView). n.place) is)) in
    let steps : Steps (graph_of c.args.program.now c.args.unfolded.now) c.args.node c.in_ok-arrived.arrived.here.guard c.in_ok-arrived.arrived.here.held (seen c.arrive_at.new.progress.made.cells.items) (seen c.step_node.new.made.cells.items) (pointed c.arrive_at.new.progress.made.pointers.items) (pointed c.step_node.new.made.pointers.items)
    (sited c.arrive_at.new.progress.made.sites.items) (sited c.step_node.new.made.sites.items) c.arrive_at.new.progress.made.ways.items c.step_node.new.made.ways.items c.arrive_at.new.progress.made.exits.items c.step_node.new.made.exits.items =
    c.in_ok-step_node.ensures.steps (graph_of c.args.program.now c.args.unfolded.now) (sym c.decls.ensures.decls) (subst (IsNode (graph_of c.args.program.now c.args.unfolded.now) c.args.node c.args.insn.now) kinds c.requires.insn) c.requires.ends refers (made_there (graph_of c.args.program.now c.args.unfolded.now) c.args.node c.args.progress.now c.arrive_at.new.progress c.in_ok-arrived.arrived.here c.in_ok-arrived.arrived.pending.items c.requires.ready c.in_ok-arrived.ensures.comes) in
    let leave : Leave (graph_of c.args.program.now c.args.unfolded.now) c.args.node c.in_ok-step_node.ensures.kept.0 = c.nodes_bring.ensures (graph_of c.args.program.now c.args.unfolded.now) c.args.node c.args.insn.now c.index-at.result.now.kinds c.args.ends.next c.args.ends.jump c.arrive_at.new.progress.made.ways.items c.in_ok-step_node.ensures.kept.0 c.step_node.new.made.ways.items
    (subst (IsNode (graph_of c.args.program.now c.args.unfolded.now) c.args.node c.args.insn.now) kinds c.requires.insn) c.requires.ends c.in_ok-step_node.ensures.kept.1
    (subst (λ (t : Bool). map brought c.step_node.new.made.ways.items ≡ map brought c.arrive_at.new.progress.made.ways.items ++ all_brought (graph_of c.args.program.now c.args.unfolded.now).decls c.args.node c.index-at.result.now.kinds c.args.insn.now t c.args.ends.next c.args.ends.jump) refers
    (subst (λ (ds : List MapDecl). map brought c.step_node.new.made.ways.items ≡ map brought c.arrive_at.new.progress.made.ways.items ++ all_brought ds c.args.node c.index-at.result.now.kinds c.args.insn.now c.contains.result c.args.ends.next c.args.ends.jump) c.decls.ensures.decls c.in_ok-step_node.ensures.brought)) in
    let sound : IsSoundGraph (graph_of c.args.program.now c.args.unfolded.now) = c.graphs_are_sound.ensures c.args.program.now c.args.unfolded.now c.decls.ensures.program c.requires.unfolded c.requires.fixed in
    targets_inside (graph_of c.args.program.now c.args.unfolded.now) c.args.node c.args.progress.now c.arrive_at.new.progress c.in_ok-arrived.arrived.here c.in_ok-arrived.arrived.pending.items c.in_ok-step_node.ensures.kept.0 c.deref-3.result.now c.requires.ready c.in_ok-arrived.ensures.comes
    (leave_inside (graph_of c.args.program.now c.args.unfolded.now) c.args.node c.in_ok-step_node.ensures.kept.0 sound leave) (c.deref-3.ensures.value ∙ c.in_ok-step_node.ensures.kept.1)

pub returns-clause-ready : goal.returns-clause-ready
returns-clause-ready c =
    let inside : c.args.node < length (graph_of c.args.program.now c.args.unfolded.now).nodes = omega (arith, c.requires.node, length-map c.args.unfolded.now.nodes.items node_view) in
    let is : node_at (graph_of c.args.program.now c.args.unfolded.now).nodes c.args.node ≡ node_view c.index-at.result.now = node_is c.args.program.now c.args.unfolded.now c.args.node c.index-at.result.now c.requires.node c.index-at.ensures in
    let kinds : (node_at (graph_of c.args.program.now c.args.unfolded.now).nodes c.args.node).kinds ≡ c.index-at.result.now.kinds = ap (λ (n : NodeView). n.kinds) is in
    let refers : c.contains.result ≡ is_reference (graph_of c.args.program.now c.args.unfolded.now) c.args.node = c.contains.ensures.value ∙ ap (λ (rs : List ℕ). list_any (λ r. r == c.place-place.result) rs) c.refs.ensures.refs
    ∙ ap (λ (n : ℕ). list_any (λ r. r == n) c.args.program.now.refs) (c.place-place.ensures ∙ sym (ap (λ (n : NodeView). n.place) is)) in
    let steps : Steps (graph_of c.args.program.now c.args.unfolded.now) c.args.node c.in_ok-arrived.arrived.here.guard c.in_ok-arrived.arrived.here.held (seen c.arrive_at.new.progress.made.cells.items) (seen c.step_node.new.made.cells.items) (pointed c.arrive_at.new.progress.made.pointers.items) (pointed c.step_node.new.made.pointers.items)
    (sited c.arrive_at.new.progress.made.sites.items) (sited c.step_node.new.made.sites.items) c.arrive_at.new.progress.made.ways.items c.step_node.new.made.ways.items c.arrive_at.new.progress.made.exits.items c.step_node.new.made.exits.items =
    c.in_ok-step_node.ensures.steps (graph_of c.args.program.now c.args.unfolded.now) (sym c.decls.ensures.decls) (subst (IsNode (graph_of c.args.program.now c.args.unfolded.now) c.args.node c.args.insn.now) kinds c.requires.insn) c.requires.ends refers (made_there (graph_of c.args.program.now c.args.unfolded.now) c.args.node c.args.progress.now c.arrive_at.new.progress c.in_ok-arrived.arrived.here c.in_ok-arrived.arrived.pending.items c.requires.ready c.in_ok-arrived.ensures.comes) in
    let leave : Leave (graph_of c.args.program.now c.args.unfolded.now) c.args.node c.in_ok-step_node.ensures.kept.0 = c.nodes_bring.ensures (graph_of c.args.program.now c.args.unfolded.now) c.args.node c.args.insn.now c.index-at.result.now.kinds c.args.ends.next c.args.ends.jump c.arrive_at.new.progress.made.ways.items c.in_ok-step_node.ensures.kept.0 c.step_node.new.made.ways.items
    (subst (IsNode (graph_of c.args.program.now c.args.unfolded.now) c.args.node c.args.insn.now) kinds c.requires.insn) c.requires.ends c.in_ok-step_node.ensures.kept.1
    (subst (λ (t : Bool). map brought c.step_node.new.made.ways.items ≡ map brought c.arrive_at.new.progress.made.ways.items ++ all_brought (graph_of c.args.program.now c.args.unfolded.now).decls c.args.node c.index-at.result.now.kinds c.args.insn.now t c.args.ends.next c.args.ends.jump) refers
    (subst (λ (ds : List MapDecl). map brought c.step_node.new.made.ways.items ≡ map brought c.arrive_at.new.progress.made.ways.items ++ all_brought ds c.args.node c.index-at.result.now.kinds c.args.insn.now c.contains.result c.args.ends.next c.args.ends.jump) c.decls.ensures.decls c.in_ok-step_node.ensures.brought)) in
    let sound : IsSoundGraph (graph_of c.args.program.now c.args.unfolded.now) = c.graphs_are_sound.ensures c.args.program.now c.args.unfolded.now c.decls.ensures.program c.requires.unfolded c.requires.fixed in
    let feeds : FeedsNodes (graph_of c.args.program.now c.args.unfolded.now) = c.sound_graphs_feed.ensures (graph_of c.args.program.now c.args.unfolded.now) sound in
    ready_next c.nodes_follow.ensures c.steps_stay.ensures (graph_of c.args.program.now c.args.unfolded.now) c.args.node c.args.progress.now c.arrive_at.new.progress
    (record { made = record { cells = c.pass.new.cells; pointers = c.step_node.new.made.pointers; sites = c.step_node.new.made.sites; ways = c.step_node.new.made.ways; exits = c.step_node.new.made.exits }; nodes = c.push.new.self; entries = c.enter.new.entries; pending = c.enter.new.pending; window = c.arrive_at.new.progress.window })
    (seen c.step_node.new.made.cells.items) c.in_ok-step_node.ensures.kept.0 c.in_ok-arrived.arrived.here c.in_ok-arrived.arrived.pending.items c.pass.new.pending.items sound feeds inside c.requires.ready c.in_ok-arrived.ensures.comes steps c.in_ok-pass.ensures.grows c.in_ok-step_node.ensures.kept.1 leave
    (subst (λ (row : List ℕ). Entered (take (length c.arrive_at.new.progress.pending.items) (targets c.step_node.new.made.ways.items)) (targets c.step_node.new.made.ways.items) (entries_of c.arrive_at.new.progress) (map (λ x. x.items) c.enter.new.entries.items) (pending_of c.arrive_at.new.progress) (map (λ x. x.items) c.enter.new.pending.items) row) c.deref-4.ensures.value
    (subst (λ (ws : List Way). Entered (take (length c.arrive_at.new.progress.pending.items) (targets ws)) (targets ws) (entries_of c.arrive_at.new.progress) (map (λ x. x.items) c.enter.new.entries.items) (pending_of c.arrive_at.new.progress) (map (λ x. x.items) c.enter.new.pending.items) c.deref-4.result.now) c.deref-3.ensures.value c.in_ok-enter.ensures))
    (c.in_ok-pass.ensures.count ∙ c.in_ok-arrived.ensures.comes.waiting.0, c.in_ok-pass.ensures.there)
    (c.in_ok-push.ensures.items ∙ ap (λ (n : Node). c.arrive_at.new.progress.nodes.items ++ n ∷ []) (node_made (graph_of c.args.program.now c.args.unfolded.now) c.args.node c.in_ok-arrived.arrived.here.guard (seen c.args.progress.now.made.cells.items) (seen c.pass.new.cells.items) _ _ _
    (c.place-place.ensures ∙ sym (ap (λ (n : NodeView). n.place) is)) (omega (arith, c.in-Ok.ensures, c.len-first.ensures, seen_length c.args.progress.now.made.cells.items)) (omega (arith, c.in-Ok-try_from.ensures, c.len.ensures, seen_length c.pass.new.cells.items))))
    refl

pub returns-clause-rows : goal.returns-clause-rows
returns-clause-rows c fit =
    let inside : c.args.node < length (graph_of c.args.program.now c.args.unfolded.now).nodes = omega (arith, c.requires.node, length-map c.args.unfolded.now.nodes.items node_view) in
    let is : node_at (graph_of c.args.program.now c.args.unfolded.now).nodes c.args.node ≡ node_view c.index-at.result.now = node_is c.args.program.now c.args.unfolded.now c.args.node c.index-at.result.now c.requires.node c.index-at.ensures in
    let kinds : (node_at (graph_of c.args.program.now c.args.unfolded.now).nodes c.args.node).kinds ≡ c.index-at.result.now.kinds = ap (λ (n : NodeView). n.kinds) is in
    let refers : c.contains.result ≡ is_reference (graph_of c.args.program.now c.args.unfolded.now) c.args.node = c.contains.ensures.value ∙ ap (λ (rs : List ℕ). list_any (λ r. r == c.place-place.result) rs) c.refs.ensures.refs
    ∙ ap (λ (n : ℕ). list_any (λ r. r == n) c.args.program.now.refs) (c.place-place.ensures ∙ sym (ap (λ (n : NodeView). n.place) is)) in
    let steps : Steps (graph_of c.args.program.now c.args.unfolded.now) c.args.node c.in_ok-arrived.arrived.here.guard c.in_ok-arrived.arrived.here.held (seen c.arrive_at.new.progress.made.cells.items) (seen c.step_node.new.made.cells.items) (pointed c.arrive_at.new.progress.made.pointers.items) (pointed c.step_node.new.made.pointers.items)
    (sited c.arrive_at.new.progress.made.sites.items) (sited c.step_node.new.made.sites.items) c.arrive_at.new.progress.made.ways.items c.step_node.new.made.ways.items c.arrive_at.new.progress.made.exits.items c.step_node.new.made.exits.items =
    c.in_ok-step_node.ensures.steps (graph_of c.args.program.now c.args.unfolded.now) (sym c.decls.ensures.decls) (subst (IsNode (graph_of c.args.program.now c.args.unfolded.now) c.args.node c.args.insn.now) kinds c.requires.insn) c.requires.ends refers (made_there (graph_of c.args.program.now c.args.unfolded.now) c.args.node c.args.progress.now c.arrive_at.new.progress c.in_ok-arrived.arrived.here c.in_ok-arrived.arrived.pending.items c.requires.ready c.in_ok-arrived.ensures.comes) in
    let of_point : c.index-at.result.now.kinds ≡ kinds_of c.args.unfolded.now c.args.node = ap (λ (x : Point). x.kinds) (c.index-at.ensures ∙ get_or_default c.args.unfolded.now.nodes.items c.args.node c.index-at.result.now no_point c.requires.node) in
    let nodes : NodeRows c.args.program.now.decls c.args.node (kinds_of c.args.unfolded.now c.args.node) c.in_ok-arrived.arrived.here c.args.insn.now (is_reference (graph_of c.args.program.now c.args.unfolded.now) c.args.node) c.in_ok-arrived.arrived.pending.items (made_of c.arrive_at.new.progress.made) (made_of c.step_node.new.made) =
    subst (λ (ks : Kinds). NodeRows c.args.program.now.decls c.args.node ks c.in_ok-arrived.arrived.here c.args.insn.now (is_reference (graph_of c.args.program.now c.args.unfolded.now) c.args.node) c.in_ok-arrived.arrived.pending.items (made_of c.arrive_at.new.progress.made) (made_of c.step_node.new.made)) of_point
    (subst (λ (r : Bool). NodeRows c.args.program.now.decls c.args.node c.index-at.result.now.kinds c.in_ok-arrived.arrived.here c.args.insn.now r c.in_ok-arrived.arrived.pending.items (made_of c.arrive_at.new.progress.made) (made_of c.step_node.new.made)) refers
    (subst (λ (w : List ℕ). NodeRows c.args.program.now.decls c.args.node c.index-at.result.now.kinds c.in_ok-arrived.arrived.here c.args.insn.now c.contains.result w (made_of c.arrive_at.new.progress.made) (made_of c.step_node.new.made)) c.deref.ensures.value
    (subst (λ (ds : List MapDecl). NodeRows ds c.args.node c.index-at.result.now.kinds c.in_ok-arrived.arrived.here c.args.insn.now c.contains.result c.deref.result.now (made_of c.arrive_at.new.progress.made) (made_of c.step_node.new.made)) c.decls.ensures.decls c.in_ok-step_node.ensures.rows))) in
    let leave : Leave (graph_of c.args.program.now c.args.unfolded.now) c.args.node nodes.more = c.nodes_bring.ensures (graph_of c.args.program.now c.args.unfolded.now) c.args.node c.args.insn.now c.index-at.result.now.kinds c.args.ends.next c.args.ends.jump c.arrive_at.new.progress.made.ways.items nodes.more c.step_node.new.made.ways.items
    (subst (IsNode (graph_of c.args.program.now c.args.unfolded.now) c.args.node c.args.insn.now) kinds c.requires.insn) c.requires.ends nodes.ways_are
    (subst (λ (t : Bool). map brought c.step_node.new.made.ways.items ≡ map brought c.arrive_at.new.progress.made.ways.items ++ all_brought (graph_of c.args.program.now c.args.unfolded.now).decls c.args.node c.index-at.result.now.kinds c.args.insn.now t c.args.ends.next c.args.ends.jump) refers
    (subst (λ (ds : List MapDecl). map brought c.step_node.new.made.ways.items ≡ map brought c.arrive_at.new.progress.made.ways.items ++ all_brought ds c.args.node c.index-at.result.now.kinds c.args.insn.now c.contains.result c.args.ends.next c.args.ends.jump) c.decls.ensures.decls c.in_ok-step_node.ensures.brought)) in
    let sites_at : c.len-sites_before.result ≡ length (sited c.args.progress.now.made.sites.items) = sited_count c.args.progress.now.made.sites c.args.progress.now.made.sites c.len-sites_before.result (omega (arith, c.len-sites_before.ensures)) refl in
    let first_at : c.len-first.result ≡ length (seen c.args.progress.now.made.cells.items) = omega (arith, c.len-first.ensures, seen_length c.args.progress.now.made.cells.items) in
    let passes : PassesTo (seen c.step_node.new.made.cells.items) (seen c.pass.new.cells.items) (sited c.step_node.new.made.sites.items) (length (sited c.args.progress.now.made.sites.items)) (length (seen c.args.progress.now.made.cells.items)) c.in_ok-arrived.arrived.pending.items c.pass.new.pending.items =
    subst (λ (n : ℕ). PassesTo (seen c.step_node.new.made.cells.items) (seen c.pass.new.cells.items) (sited c.step_node.new.made.sites.items) (length (sited c.args.progress.now.made.sites.items)) n c.in_ok-arrived.arrived.pending.items c.pass.new.pending.items) first_at
    (subst (λ (n : ℕ). PassesTo (seen c.step_node.new.made.cells.items) (seen c.pass.new.cells.items) (sited c.step_node.new.made.sites.items) n c.len-first.result c.in_ok-arrived.arrived.pending.items c.pass.new.pending.items) sites_at
    (subst (λ (ss : List Site). PassesTo (seen c.step_node.new.made.cells.items) (seen c.pass.new.cells.items) (sited ss) c.len-sites_before.result c.len-first.result c.in_ok-arrived.arrived.pending.items c.pass.new.pending.items) c.deref-2.ensures.value c.in_ok-pass.ensures.rows)) in
    c.nodes_fit.ensures c.args.program.now c.args.unfolded.now c.args.node c.args.insn.now c.args.ends.next c.args.ends.jump c.args.progress.now c.arrive_at.new.progress
    (record { made = c.step_node.new.made; nodes = c.arrive_at.new.progress.nodes; entries = c.arrive_at.new.progress.entries; pending = c.arrive_at.new.progress.pending; window = c.arrive_at.new.progress.window })
    (record { made = record { cells = c.pass.new.cells; pointers = c.step_node.new.made.pointers; sites = c.step_node.new.made.sites; ways = c.step_node.new.made.ways; exits = c.step_node.new.made.exits }; nodes = c.push.new.self; entries = c.enter.new.entries; pending = c.enter.new.pending; window = c.arrive_at.new.progress.window })
    c.in_ok-arrived.arrived.here c.in_ok-arrived.arrived.pending.items c.pass.new.pending.items fit c.decls.ensures.program c.requires.unfolded c.requires.node
    (subst (IsNode (graph_of c.args.program.now c.args.unfolded.now) c.args.node c.args.insn.now) (kinds ∙ of_point) c.requires.insn) c.requires.ends c.requires.ready c.in_ok-arrived.ensures.comes (c.in_ok-arrived.ensures.rows fit) steps nodes leave c.in_ok-pass.ensures.grows passes refl refl
    (pending_more (graph_of c.args.program.now c.args.unfolded.now) c.args.node c.args.progress.now c.arrive_at.new.progress
    (record { made = record { cells = c.pass.new.cells; pointers = c.step_node.new.made.pointers; sites = c.step_node.new.made.sites; ways = c.step_node.new.made.ways; exits = c.step_node.new.made.exits }; nodes = c.push.new.self; entries = c.enter.new.entries; pending = c.enter.new.pending; window = c.arrive_at.new.progress.window })
    nodes.more c.in_ok-arrived.arrived.here c.in_ok-arrived.arrived.pending.items c.pass.new.pending.items c.requires.ready c.in_ok-arrived.ensures.comes nodes.ways_are
    (subst (λ (row : List ℕ). Entered (take (length c.arrive_at.new.progress.pending.items) (targets c.step_node.new.made.ways.items)) (targets c.step_node.new.made.ways.items) (entries_of c.arrive_at.new.progress) (map (λ x. x.items) c.enter.new.entries.items) (pending_of c.arrive_at.new.progress) (map (λ x. x.items) c.enter.new.pending.items) row) c.deref-4.ensures.value
    (subst (λ (ws : List Way). Entered (take (length c.arrive_at.new.progress.pending.items) (targets ws)) (targets ws) (entries_of c.arrive_at.new.progress) (map (λ x. x.items) c.enter.new.entries.items) (pending_of c.arrive_at.new.progress) (map (λ x. x.items) c.enter.new.pending.items) c.deref-4.result.now) c.deref-3.ensures.value c.in_ok-enter.ensures)))
    (((c.in_ok-push.ensures.items ∙ ap (λ (n : Node). c.arrive_at.new.progress.nodes.items ++ n ∷ []) (node_made (graph_of c.args.program.now c.args.unfolded.now) c.args.node c.in_ok-arrived.arrived.here.guard (seen c.args.progress.now.made.cells.items) (seen c.pass.new.cells.items) _ _ _
    (c.place-place.ensures ∙ sym (ap (λ (n : NodeView). n.place) is)) (omega (arith, c.in-Ok.ensures, c.len-first.ensures, seen_length c.args.progress.now.made.cells.items)) (omega (arith, c.in-Ok-try_from.ensures, c.len.ensures, seen_length c.pass.new.cells.items))))) ∙ ap (λ (ns : Vec Node Global). ns.items ++ made_next (graph_of c.args.program.now c.args.unfolded.now) c.args.node c.in_ok-arrived.arrived.here.guard (seen c.args.progress.now.made.cells.items) (seen c.pass.new.cells.items) ∷ []) c.in_ok-arrived.ensures.comes.nodes)
    (subst (λ (ks : Kinds). NodePoints c.args.program.now.decls c.args.insn.now c.in_ok-arrived.arrived.pending.items ks c.in_ok-arrived.arrived.here (made_of c.arrive_at.new.progress.made) (made_of c.step_node.new.made)) of_point
    (subst (λ (w : List ℕ). NodePoints c.args.program.now.decls c.args.insn.now w c.index-at.result.now.kinds c.in_ok-arrived.arrived.here (made_of c.arrive_at.new.progress.made) (made_of c.step_node.new.made)) c.deref.ensures.value
    (subst (λ (ds : List MapDecl). NodePoints ds c.args.insn.now c.deref.result.now c.index-at.result.now.kinds c.in_ok-arrived.arrived.here (made_of c.arrive_at.new.progress.made) (made_of c.step_node.new.made)) c.decls.ensures.decls c.in_ok-step_node.ensures.points)))
    refl

pub returns-clause-points : goal.returns-clause-points
returns-clause-points c points =
    let is : node_at (graph_of c.args.program.now c.args.unfolded.now).nodes c.args.node ≡ node_view c.index-at.result.now = node_is c.args.program.now c.args.unfolded.now c.args.node c.index-at.result.now c.requires.node c.index-at.ensures in
    let kinds : (node_at (graph_of c.args.program.now c.args.unfolded.now).nodes c.args.node).kinds ≡ c.index-at.result.now.kinds = ap (λ (n : NodeView). n.kinds) is in
    let refers : c.contains.result ≡ is_reference (graph_of c.args.program.now c.args.unfolded.now) c.args.node = c.contains.ensures.value ∙ ap (λ (rs : List ℕ). list_any (λ r. r == c.place-place.result) rs) c.refs.ensures.refs
    ∙ ap (λ (n : ℕ). list_any (λ r. r == n) c.args.program.now.refs) (c.place-place.ensures ∙ sym (ap (λ (n : NodeView). n.place) is)) in
    let steps : Steps (graph_of c.args.program.now c.args.unfolded.now) c.args.node c.in_ok-arrived.arrived.here.guard c.in_ok-arrived.arrived.here.held (seen c.arrive_at.new.progress.made.cells.items) (seen c.step_node.new.made.cells.items) (pointed c.arrive_at.new.progress.made.pointers.items) (pointed c.step_node.new.made.pointers.items)
    (sited c.arrive_at.new.progress.made.sites.items) (sited c.step_node.new.made.sites.items) c.arrive_at.new.progress.made.ways.items c.step_node.new.made.ways.items c.arrive_at.new.progress.made.exits.items c.step_node.new.made.exits.items =
    c.in_ok-step_node.ensures.steps (graph_of c.args.program.now c.args.unfolded.now) (sym c.decls.ensures.decls) (subst (IsNode (graph_of c.args.program.now c.args.unfolded.now) c.args.node c.args.insn.now) kinds c.requires.insn) c.requires.ends refers (made_there (graph_of c.args.program.now c.args.unfolded.now) c.args.node c.args.progress.now c.arrive_at.new.progress c.in_ok-arrived.arrived.here c.in_ok-arrived.arrived.pending.items c.requires.ready c.in_ok-arrived.ensures.comes) in
    c.nodes_point.ensures (graph_of c.args.program.now c.args.unfolded.now) c.args.node c.requires.ready.held (making_of c.args.progress.now) (made_of c.arrive_at.new.progress.made) (made_of c.step_node.new.made) c.in_ok-arrived.arrived.here c.args.insn.now c.deref.result.now (seen c.pass.new.cells.items)
    c.requires.ready.so_far c.in_ok-arrived.ensures.comes.arrives (ap (λ (ss : Vec Site Global). sited ss.items) c.in_ok-arrived.ensures.comes.sites) (ap (λ (ws : Vec Way Global). ws.items) c.in_ok-arrived.ensures.comes.ways) steps c.in_ok-arrived.ensures.points
    (subst (λ (ks : Kinds). NodePoints c.args.program.now.decls c.args.insn.now c.deref.result.now ks c.in_ok-arrived.arrived.here (made_of c.arrive_at.new.progress.made) (made_of c.step_node.new.made)) (sym kinds)
    (subst (λ (ds : List MapDecl). NodePoints ds c.args.insn.now c.deref.result.now c.index-at.result.now.kinds c.in_ok-arrived.arrived.here (made_of c.arrive_at.new.progress.made) (made_of c.step_node.new.made)) c.decls.ensures.decls c.in_ok-step_node.ensures.points))
    c.in_ok-pass.ensures.grows points

pub returns-clause-reads : goal.returns-clause-reads
returns-clause-reads c so_far before =
    let is : node_at (graph_of c.args.program.now c.args.unfolded.now).nodes c.args.node ≡ node_view c.index-at.result.now = node_is c.args.program.now c.args.unfolded.now c.args.node c.index-at.result.now c.requires.node c.index-at.ensures in
    let kinds : (node_at (graph_of c.args.program.now c.args.unfolded.now).nodes c.args.node).kinds ≡ c.index-at.result.now.kinds = ap (λ (n : NodeView). n.kinds) is in
    let refers : c.contains.result ≡ is_reference (graph_of c.args.program.now c.args.unfolded.now) c.args.node = c.contains.ensures.value ∙ ap (λ (rs : List ℕ). list_any (λ r. r == c.place-place.result) rs) c.refs.ensures.refs
    ∙ ap (λ (n : ℕ). list_any (λ r. r == n) c.args.program.now.refs) (c.place-place.ensures ∙ sym (ap (λ (n : NodeView). n.place) is)) in
    let steps : Steps (graph_of c.args.program.now c.args.unfolded.now) c.args.node c.in_ok-arrived.arrived.here.guard c.in_ok-arrived.arrived.here.held (seen c.arrive_at.new.progress.made.cells.items) (seen c.step_node.new.made.cells.items) (pointed c.arrive_at.new.progress.made.pointers.items) (pointed c.step_node.new.made.pointers.items)
    (sited c.arrive_at.new.progress.made.sites.items) (sited c.step_node.new.made.sites.items) c.arrive_at.new.progress.made.ways.items c.step_node.new.made.ways.items c.arrive_at.new.progress.made.exits.items c.step_node.new.made.exits.items =
    c.in_ok-step_node.ensures.steps (graph_of c.args.program.now c.args.unfolded.now) (sym c.decls.ensures.decls) (subst (IsNode (graph_of c.args.program.now c.args.unfolded.now) c.args.node c.args.insn.now) kinds c.requires.insn) c.requires.ends refers (made_there (graph_of c.args.program.now c.args.unfolded.now) c.args.node c.args.progress.now c.arrive_at.new.progress c.in_ok-arrived.arrived.here c.in_ok-arrived.arrived.pending.items c.requires.ready c.in_ok-arrived.ensures.comes) in
    let sites_at : c.len-sites_before.result ≡ length (sited c.args.progress.now.made.sites.items) = sited_count c.args.progress.now.made.sites c.args.progress.now.made.sites c.len-sites_before.result (omega (arith, c.len-sites_before.ensures)) refl in
    let first_at : c.len-first.result ≡ length (seen c.args.progress.now.made.cells.items) = omega (arith, c.len-first.ensures, seen_length c.args.progress.now.made.cells.items) in
    let passes : PassesTo (seen c.step_node.new.made.cells.items) (seen c.pass.new.cells.items) (sited c.step_node.new.made.sites.items) (length (sited c.args.progress.now.made.sites.items)) (length (seen c.args.progress.now.made.cells.items)) c.in_ok-arrived.arrived.pending.items c.pass.new.pending.items =
    subst (λ (n : ℕ). PassesTo (seen c.step_node.new.made.cells.items) (seen c.pass.new.cells.items) (sited c.step_node.new.made.sites.items) (length (sited c.args.progress.now.made.sites.items)) n c.in_ok-arrived.arrived.pending.items c.pass.new.pending.items) first_at
    (subst (λ (n : ℕ). PassesTo (seen c.step_node.new.made.cells.items) (seen c.pass.new.cells.items) (sited c.step_node.new.made.sites.items) n c.len-first.result c.in_ok-arrived.arrived.pending.items c.pass.new.pending.items) sites_at
    (subst (λ (ss : List Site). PassesTo (seen c.step_node.new.made.cells.items) (seen c.pass.new.cells.items) (sited ss) c.len-sites_before.result c.len-first.result c.in_ok-arrived.arrived.pending.items c.pass.new.pending.items) c.deref-2.ensures.value c.in_ok-pass.ensures.rows)) in
    let kept = pending_more (graph_of c.args.program.now c.args.unfolded.now) c.args.node c.args.progress.now c.arrive_at.new.progress
    (record { made = record { cells = c.pass.new.cells; pointers = c.step_node.new.made.pointers; sites = c.step_node.new.made.sites; ways = c.step_node.new.made.ways; exits = c.step_node.new.made.exits }; nodes = c.push.new.self; entries = c.enter.new.entries; pending = c.enter.new.pending; window = c.arrive_at.new.progress.window })
    c.in_ok-step_node.ensures.kept.0 c.in_ok-arrived.arrived.here c.in_ok-arrived.arrived.pending.items c.pass.new.pending.items c.requires.ready c.in_ok-arrived.ensures.comes c.in_ok-step_node.ensures.kept.1
    (subst (λ (row : List ℕ). Entered (take (length c.arrive_at.new.progress.pending.items) (targets c.step_node.new.made.ways.items)) (targets c.step_node.new.made.ways.items) (entries_of c.arrive_at.new.progress) (map (λ x. x.items) c.enter.new.entries.items) (pending_of c.arrive_at.new.progress) (map (λ x. x.items) c.enter.new.pending.items) row) c.deref-4.ensures.value
    (subst (λ (ws : List Way). Entered (take (length c.arrive_at.new.progress.pending.items) (targets ws)) (targets ws) (entries_of c.arrive_at.new.progress) (map (λ x. x.items) c.enter.new.entries.items) (pending_of c.arrive_at.new.progress) (map (λ x. x.items) c.enter.new.pending.items) c.deref-4.result.now) c.deref-3.ensures.value c.in_ok-enter.ensures)) in
    let ways : c.arrive_at.new.progress.made.ways.items ≡ c.args.progress.now.made.ways.items = ap (λ (ws : Vec Way Global). ws.items) c.in_ok-arrived.ensures.comes.ways in
    let more : length c.in_ok-step_node.ensures.kept.0 ≡ length c.step_node.new.made.ways.items - length c.args.progress.now.made.ways.items =
    omega (arith, ap length c.in_ok-step_node.ensures.kept.1, length-append c.arrive_at.new.progress.made.ways.items c.in_ok-step_node.ensures.kept.0, ap length ways) in
    subst (ReadSoFar c.args.program.now.decls (c.args.node + 1) (record (made_of c.step_node.new.made) { cells = seen c.pass.new.cells.items })) (sym (kept ∙ ap (λ (n : ℕ). pending_of c.args.progress.now ++ replicate n c.pass.new.pending.items) more))
    (c.nodes_read.ensures (graph_of c.args.program.now c.args.unfolded.now) c.args.node c.requires.ready.held (making_of c.args.progress.now) (made_of c.arrive_at.new.progress.made) (made_of c.step_node.new.made) c.in_ok-arrived.arrived.here c.args.insn.now c.in_ok-arrived.arrived.pending.items c.pass.new.pending.items
    (seen c.pass.new.cells.items) (pending_of c.args.progress.now) c.requires.ready.so_far c.in_ok-arrived.ensures.comes.arrives (ap (λ (ss : Vec Site Global). sited ss.items) c.in_ok-arrived.ensures.comes.sites) ways steps c.in_ok-arrived.ensures.points
    (subst (λ (w : List ℕ). NodePoints c.args.program.now.decls c.args.insn.now w (node_at (graph_of c.args.program.now c.args.unfolded.now).nodes c.args.node).kinds c.in_ok-arrived.arrived.here (made_of c.arrive_at.new.progress.made) (made_of c.step_node.new.made)) c.deref.ensures.value
    (subst (λ (ks : Kinds). NodePoints c.args.program.now.decls c.args.insn.now c.deref.result.now ks c.in_ok-arrived.arrived.here (made_of c.arrive_at.new.progress.made) (made_of c.step_node.new.made)) (sym kinds)
    (subst (λ (ds : List MapDecl). NodePoints ds c.args.insn.now c.deref.result.now c.index-at.result.now.kinds c.in_ok-arrived.arrived.here (made_of c.arrive_at.new.progress.made) (made_of c.step_node.new.made)) c.decls.ensures.decls c.in_ok-step_node.ensures.points)))
    c.in_ok-pass.ensures.grows c.in_ok-arrived.ensures.comes.waiting.0 (c.requires.ready.kept.beside ∙ length-map c.args.progress.now.made.ways.items (λ (e : Way). e.to)) c.in_ok-arrived.ensures.meets passes so_far before)
