use Rattle.std.proofs.Common.{Global, ◌≡◌, ◌∙◌, ℕ, ◌<◌, List, [], length, get_or, map, sym, ap, subst, arith, refl}
use Rattle.std.proofs.lemmas.List.{length-map, get_or_default}
use Rattle.smallvec.specs.declared.small_vec.SmallVec.{SmallVec}
use Rattle.xdp_machine.specs.xdp_maps.declared.decl.MapDecl.{MapDecl}
use Rattle.kind_core.specs.declared.kind.Kinds.{Kinds}
use Rattle.unfold_core.specs.declared.edges.Point.{Point}
use Rattle.operator_cells.specs.row_rules.NodeRows.Rows.{no_point}
use Rattle.operator_cells.specs.declared.held_cells.way.Way.{Way}
use Rattle.operator_cells.specs.HeldCells.Rows.{JoinsTo}
use Rattle.predicate_core.specs.Gathering.{GathersTo}
use Rattle.predicate_core.specs.Stages.{kinds_of}
use Rattle.operator_cells.specs.Making.{seen}
use Rattle.operator_cells.specs.HeldCells.Paths.{NodeView, node_at}
use Rattle.operator_cells.specs.HeldCells.RegisterCells.{pointed}
use Rattle.edge_cells.specs.Joining.{LeadTo}
use Rattle.edge_cells.specs.Widening.{AreFilled}
use Rattle.predicate_core.specs.ProgramGraph.Graphs.{node_view, graph_of}
use Rattle.predicate_core.specs.Making.{Arrives}
use Rattle.predicate_core.specs.Feeding.{FeedsNodes}
use Rattle.predicate_core.specs.Pointing.{ArrivePoints}
use Rattle.predicate_core.specs.Progress.{making_of, entries_of, pending_of, AreWaiting}
use Rattle.predicate_core.proofs.Progressing.{node_is, numbers_of, turn_some, turn_inside, leads_at, meeting_some, meeting_there, meeting_wider, ways_later, waiting_at}
use Rattle.predicate_core.proofs.ArrivePoints.{arrive_later}
use Rattle.predicate_core.proofs.Gathered.{pending_meets}
use Rattle.predicate_core.proofs.making.arrive_at.Goals as goal

pub leading-requires : goal.leading-requires
leading-requires c =
    let inside : c.args.node < length (graph_of c.args.program.now c.args.unfolded.now).nodes = omega (arith, c.requires.node, length-map c.args.unfolded.now.nodes.items node_view) in
    let numbers : c.deref-2.result.now ≡ get_or (entries_of c.args.progress.now) c.args.node [] = numbers_of (graph_of c.args.program.now c.args.unfolded.now) c.args.node c.args.progress.now c.index-numbers.result.now c.deref-2.result.now c.requires.ready inside c.deref-2.ensures c.index-numbers.ensures in
    turn_inside (graph_of c.args.program.now c.args.unfolded.now) c.args.node c.args.progress.now c.deref-2.result.now c.deref.result.now c.requires.ready inside numbers c.deref.ensures.value

pub arrive-requires-clause-some : goal.arrive-requires-clause-some
arrive-requires-clause-some c =
    let inside : c.args.node < length (graph_of c.args.program.now c.args.unfolded.now).nodes = omega (arith, c.requires.node, length-map c.args.unfolded.now.nodes.items node_view) in
    let numbers : c.deref-2.result.now ≡ get_or (entries_of c.args.progress.now) c.args.node [] = numbers_of (graph_of c.args.program.now c.args.unfolded.now) c.args.node c.args.progress.now c.index-numbers.result.now c.deref-2.result.now c.requires.ready inside c.deref-2.ensures c.index-numbers.ensures in
    let feeds : FeedsNodes (graph_of c.args.program.now c.args.unfolded.now) = c.sound_graphs_feed.ensures (graph_of c.args.program.now c.args.unfolded.now) (c.graphs_are_sound.ensures c.args.program.now c.args.unfolded.now c.decls-decls.ensures.program c.requires.unfolded c.requires.fixed) in
    let lead : LeadTo c.args.node c.args.progress.now.made.ways.items c.in_ok-meeting.meeting.items = leads_at (graph_of c.args.program.now c.args.unfolded.now) c.args.node c.args.progress.now c.deref.result.now c.in_ok-meeting.meeting.items c.deref-2.result.now c.requires.ready inside c.deref.ensures.value numbers c.in_ok-meeting.ensures in
    meeting_some (graph_of c.args.program.now c.args.unfolded.now) c.args.node c.args.progress.now c.in_ok-meeting.meeting.items c.deref-3.result.now feeds c.requires.ready inside lead c.deref-3.ensures.value

pub arrive-requires-clause-there : goal.arrive-requires-clause-there
arrive-requires-clause-there c =
    let inside : c.args.node < length (graph_of c.args.program.now c.args.unfolded.now).nodes = omega (arith, c.requires.node, length-map c.args.unfolded.now.nodes.items node_view) in
    let numbers : c.deref-2.result.now ≡ get_or (entries_of c.args.progress.now) c.args.node [] = numbers_of (graph_of c.args.program.now c.args.unfolded.now) c.args.node c.args.progress.now c.index-numbers.result.now c.deref-2.result.now c.requires.ready inside c.deref-2.ensures c.index-numbers.ensures in
    let lead : LeadTo c.args.node c.args.progress.now.made.ways.items c.in_ok-meeting.meeting.items = leads_at (graph_of c.args.program.now c.args.unfolded.now) c.args.node c.args.progress.now c.deref.result.now c.in_ok-meeting.meeting.items c.deref-2.result.now c.requires.ready inside c.deref.ensures.value numbers c.in_ok-meeting.ensures in
    meeting_there (graph_of c.args.program.now c.args.unfolded.now) c.args.node c.args.progress.now c.decls-decls.result.now c.in_ok-meeting.meeting.items c.deref-3.result.now c.requires.ready c.decls-decls.ensures.decls lead c.deref-3.ensures.value

pub arrive-requires-clause-wider : goal.arrive-requires-clause-wider
arrive-requires-clause-wider c =
    let inside : c.args.node < length (graph_of c.args.program.now c.args.unfolded.now).nodes = omega (arith, c.requires.node, length-map c.args.unfolded.now.nodes.items node_view) in
    let numbers : c.deref-2.result.now ≡ get_or (entries_of c.args.progress.now) c.args.node [] = numbers_of (graph_of c.args.program.now c.args.unfolded.now) c.args.node c.args.progress.now c.index-numbers.result.now c.deref-2.result.now c.requires.ready inside c.deref-2.ensures c.index-numbers.ensures in
    let feeds : FeedsNodes (graph_of c.args.program.now c.args.unfolded.now) = c.sound_graphs_feed.ensures (graph_of c.args.program.now c.args.unfolded.now) (c.graphs_are_sound.ensures c.args.program.now c.args.unfolded.now c.decls-decls.ensures.program c.requires.unfolded c.requires.fixed) in
    let lead : LeadTo c.args.node c.args.progress.now.made.ways.items c.in_ok-meeting.meeting.items = leads_at (graph_of c.args.program.now c.args.unfolded.now) c.args.node c.args.progress.now c.deref.result.now c.in_ok-meeting.meeting.items c.deref-2.result.now c.requires.ready inside c.deref.ensures.value numbers c.in_ok-meeting.ensures in
    let kinds : (node_at (graph_of c.args.program.now c.args.unfolded.now).nodes c.args.node).kinds ≡ c.index.result.now.kinds = ap (λ (n : NodeView). n.kinds) (node_is c.args.program.now c.args.unfolded.now c.args.node c.index.result.now c.requires.node c.index.ensures) in
    meeting_wider (graph_of c.args.program.now c.args.unfolded.now) c.args.node c.args.progress.now c.index.result.now.kinds c.in_ok-meeting.meeting.items c.deref-3.result.now feeds c.requires.ready inside kinds lead c.deref-3.ensures.value

pub arrive-requires-clause-filled : goal.arrive-requires-clause-filled
arrive-requires-clause-filled c =
    let inside : c.args.node < length (graph_of c.args.program.now c.args.unfolded.now).nodes = omega (arith, c.requires.node, length-map c.args.unfolded.now.nodes.items node_view) in
    let kinds : (node_at (graph_of c.args.program.now c.args.unfolded.now).nodes c.args.node).kinds ≡ c.index.result.now.kinds = ap (λ (n : NodeView). n.kinds) (node_is c.args.program.now c.args.unfolded.now c.args.node c.index.result.now c.requires.node c.index.ensures) in
    subst AreFilled kinds ((c.graphs_are_sound.ensures c.args.program.now c.args.unfolded.now c.decls-decls.ensures.program c.requires.unfolded c.requires.fixed).filled c.args.node inside)

pub gather-requires-clause-some : goal.gather-requires-clause-some
gather-requires-clause-some c =
    let inside : c.args.node < length (graph_of c.args.program.now c.args.unfolded.now).nodes = omega (arith, c.requires.node, length-map c.args.unfolded.now.nodes.items node_view) in
    let feeds : FeedsNodes (graph_of c.args.program.now c.args.unfolded.now) = c.sound_graphs_feed.ensures (graph_of c.args.program.now c.args.unfolded.now) (c.graphs_are_sound.ensures c.args.program.now c.args.unfolded.now c.decls-decls.ensures.program c.requires.unfolded c.requires.fixed) in
    turn_some (graph_of c.args.program.now c.args.unfolded.now) c.args.node c.args.progress.now c.deref-6.result.now feeds c.requires.ready inside
    (numbers_of (graph_of c.args.program.now c.args.unfolded.now) c.args.node c.args.progress.now c.index-numbers.result.now c.deref-6.result.now c.requires.ready inside c.deref-6.ensures c.index-numbers.ensures)

pub gather-requires-clause-numbers : goal.gather-requires-clause-numbers
gather-requires-clause-numbers c =
    let inside : c.args.node < length (graph_of c.args.program.now c.args.unfolded.now).nodes = omega (arith, c.requires.node, length-map c.args.unfolded.now.nodes.items node_view) in
    turn_inside (graph_of c.args.program.now c.args.unfolded.now) c.args.node c.args.progress.now c.deref-6.result.now c.deref-4.result.now c.requires.ready inside
    (numbers_of (graph_of c.args.program.now c.args.unfolded.now) c.args.node c.args.progress.now c.index-numbers.result.now c.deref-6.result.now c.requires.ready inside c.deref-6.ensures c.index-numbers.ensures) c.deref-4.ensures.value

pub gather-requires-clause-bits : goal.gather-requires-clause-bits
gather-requires-clause-bits c =
    let inside : c.args.node < length (graph_of c.args.program.now c.args.unfolded.now).nodes = omega (arith, c.requires.node, length-map c.args.unfolded.now.nodes.items node_view) in
    let numbers : c.deref-2.result.now ≡ get_or (entries_of c.args.progress.now) c.args.node [] = numbers_of (graph_of c.args.program.now c.args.unfolded.now) c.args.node c.args.progress.now c.index-numbers.result.now c.deref-2.result.now c.requires.ready inside c.deref-2.ensures c.index-numbers.ensures in
    let lead : LeadTo c.args.node c.args.progress.now.made.ways.items c.in_ok-meeting.meeting.items = leads_at (graph_of c.args.program.now c.args.unfolded.now) c.args.node c.args.progress.now c.deref.result.now c.in_ok-meeting.meeting.items c.deref-2.result.now c.requires.ready inside c.deref.ensures.value numbers c.in_ok-meeting.ensures in
    let kinds : (node_at (graph_of c.args.program.now c.args.unfolded.now).nodes c.args.node).kinds ≡ c.index.result.now.kinds = ap (λ (n : NodeView). n.kinds) (node_is c.args.program.now c.args.unfolded.now c.args.node c.index.result.now c.requires.node c.index.ensures) in
    let arrives : Arrives (graph_of c.args.program.now c.args.unfolded.now) c.args.node (making_of c.args.progress.now) (seen c.arrive.new.cells.items) (pointed c.arrive.new.pointers.items) c.in_ok-here.here.guard c.in_ok-here.here.held =
    c.in_ok-here.ensures.arrives c.args.node c.args.progress.now.made.ways.items (subst (LeadTo c.args.node c.args.progress.now.made.ways.items) (sym c.deref-3.ensures.value) lead) (graph_of c.args.program.now c.args.unfolded.now) (making_of c.args.progress.now) (sym c.decls-decls.ensures.decls) kinds refl refl refl in
    ways_later (graph_of c.args.program.now c.args.unfolded.now) c.args.node c.args.progress.now (length (seen c.arrive.new.cells.items)) c.deref-4.result.now c.requires.ready c.deref-4.ensures.value arrives.grows.longer

pub gather-requires-clause-waiting : goal.gather-requires-clause-waiting
gather-requires-clause-waiting c =
    let inside : c.args.node < length (graph_of c.args.program.now c.args.unfolded.now).nodes = omega (arith, c.requires.node, length-map c.args.unfolded.now.nodes.items node_view) in
    let numbers : c.deref-2.result.now ≡ get_or (entries_of c.args.progress.now) c.args.node [] = numbers_of (graph_of c.args.program.now c.args.unfolded.now) c.args.node c.args.progress.now c.index-numbers.result.now c.deref-2.result.now c.requires.ready inside c.deref-2.ensures c.index-numbers.ensures in
    let lead : LeadTo c.args.node c.args.progress.now.made.ways.items c.in_ok-meeting.meeting.items = leads_at (graph_of c.args.program.now c.args.unfolded.now) c.args.node c.args.progress.now c.deref.result.now c.in_ok-meeting.meeting.items c.deref-2.result.now c.requires.ready inside c.deref.ensures.value numbers c.in_ok-meeting.ensures in
    let kinds : (node_at (graph_of c.args.program.now c.args.unfolded.now).nodes c.args.node).kinds ≡ c.index.result.now.kinds = ap (λ (n : NodeView). n.kinds) (node_is c.args.program.now c.args.unfolded.now c.args.node c.index.result.now c.requires.node c.index.ensures) in
    let arrives : Arrives (graph_of c.args.program.now c.args.unfolded.now) c.args.node (making_of c.args.progress.now) (seen c.arrive.new.cells.items) (pointed c.arrive.new.pointers.items) c.in_ok-here.here.guard c.in_ok-here.here.held =
    c.in_ok-here.ensures.arrives c.args.node c.args.progress.now.made.ways.items (subst (LeadTo c.args.node c.args.progress.now.made.ways.items) (sym c.deref-3.ensures.value) lead) (graph_of c.args.program.now c.args.unfolded.now) (making_of c.args.progress.now) (sym c.decls-decls.ensures.decls) kinds refl refl refl in
    waiting_at (graph_of c.args.program.now c.args.unfolded.now) c.args.node c.args.progress.now (length c.decls-decls.result.now) (length (seen c.arrive.new.cells.items)) c.deref-5.result.now c.requires.ready (ap length c.decls-decls.ensures.decls) c.deref-5.ensures.value arrives.grows.longer

pub returns-clause-comes : goal.returns-clause-comes
returns-clause-comes c =
    let inside : c.args.node < length (graph_of c.args.program.now c.args.unfolded.now).nodes = omega (arith, c.requires.node, length-map c.args.unfolded.now.nodes.items node_view) in
    let numbers : c.deref-2.result.now ≡ get_or (entries_of c.args.progress.now) c.args.node [] = numbers_of (graph_of c.args.program.now c.args.unfolded.now) c.args.node c.args.progress.now c.index-numbers.result.now c.deref-2.result.now c.requires.ready inside c.deref-2.ensures c.index-numbers.ensures in
    let lead : LeadTo c.args.node c.args.progress.now.made.ways.items c.in_ok-meeting.meeting.items = leads_at (graph_of c.args.program.now c.args.unfolded.now) c.args.node c.args.progress.now c.deref.result.now c.in_ok-meeting.meeting.items c.deref-2.result.now c.requires.ready inside c.deref.ensures.value numbers c.in_ok-meeting.ensures in
    let kinds : (node_at (graph_of c.args.program.now c.args.unfolded.now).nodes c.args.node).kinds ≡ c.index.result.now.kinds = ap (λ (n : NodeView). n.kinds) (node_is c.args.program.now c.args.unfolded.now c.args.node c.index.result.now c.requires.node c.index.ensures) in
    let arrives : Arrives (graph_of c.args.program.now c.args.unfolded.now) c.args.node (making_of c.args.progress.now) (seen c.arrive.new.cells.items) (pointed c.arrive.new.pointers.items) c.in_ok-here.here.guard c.in_ok-here.here.held =
    c.in_ok-here.ensures.arrives c.args.node c.args.progress.now.made.ways.items (subst (LeadTo c.args.node c.args.progress.now.made.ways.items) (sym c.deref-3.ensures.value) lead) (graph_of c.args.program.now c.args.unfolded.now) (making_of c.args.progress.now) (sym c.decls-decls.ensures.decls) kinds refl refl refl in
    record {
      arrives = c.arrivals_stay.ensures (graph_of c.args.program.now c.args.unfolded.now) c.args.node (making_of c.args.progress.now) (seen c.arrive.new.cells.items) (seen c.gather.new.cells.items) (pointed c.arrive.new.pointers.items) c.in_ok-here.here.guard c.in_ok-here.here.held arrives c.in_ok-pending.ensures.grows;
      waiting = subst (λ (n : ℕ). AreWaiting n (length (seen c.gather.new.cells.items)) c.in_ok-pending.pending.items) (ap length c.decls-decls.ensures.decls) c.in_ok-pending.ensures.waiting;
      sites = refl;
      ways = refl;
      exits = refl;
      nodes = refl;
      entries = refl;
      beside = refl;
      window = refl;
    }

pub returns-clause-rows : goal.returns-clause-rows
returns-clause-rows c fit =
    let inside : c.args.node < length (graph_of c.args.program.now c.args.unfolded.now).nodes = omega (arith, c.requires.node, length-map c.args.unfolded.now.nodes.items node_view) in
    let numbers : c.deref-2.result.now ≡ get_or (entries_of c.args.progress.now) c.args.node [] = numbers_of (graph_of c.args.program.now c.args.unfolded.now) c.args.node c.args.progress.now c.index-numbers.result.now c.deref-2.result.now c.requires.ready inside c.deref-2.ensures c.index-numbers.ensures in
    let lead : LeadTo c.args.node c.args.progress.now.made.ways.items c.in_ok-meeting.meeting.items = leads_at (graph_of c.args.program.now c.args.unfolded.now) c.args.node c.args.progress.now c.deref.result.now c.in_ok-meeting.meeting.items c.deref-2.result.now c.requires.ready inside c.deref.ensures.value numbers c.in_ok-meeting.ensures in
    let numbers6 : c.deref-6.result.now ≡ get_or (entries_of c.args.progress.now) c.args.node [] = numbers_of (graph_of c.args.program.now c.args.unfolded.now) c.args.node c.args.progress.now c.index-numbers.result.now c.deref-6.result.now c.requires.ready inside c.deref-6.ensures c.index-numbers.ensures in
    let kinds : c.index.result.now.kinds ≡ kinds_of c.args.unfolded.now c.args.node = ap (λ (x : Point). x.kinds) (c.index.ensures ∙ get_or_default c.args.unfolded.now.nodes.items c.args.node c.index.result.now no_point c.requires.node) in
    c.arrivals_fit.ensures c.args.program.now c.args.unfolded.now c.args.node c.args.progress.now (seen c.arrive.new.cells.items) (seen c.gather.new.cells.items) (pointed c.arrive.new.pointers.items) c.in_ok-meeting.meeting.items c.in_ok-here.here.guard c.in_ok-here.here.held c.in_ok-pending.pending.items
    c.decls-decls.ensures.program c.requires.unfolded c.requires.fixed c.requires.node c.requires.ready lead
    (subst (λ (ws : List Way). JoinsTo (seen c.args.progress.now.made.cells.items) (seen c.arrive.new.cells.items) (pointed c.args.progress.now.made.pointers.items) (pointed c.arrive.new.pointers.items) ws (kinds_of c.args.unfolded.now c.args.node) c.in_ok-here.here.guard c.in_ok-here.here.held) c.deref-3.ensures.value
    (subst (λ (ks : Kinds). JoinsTo (seen c.args.progress.now.made.cells.items) (seen c.arrive.new.cells.items) (pointed c.args.progress.now.made.pointers.items) (pointed c.arrive.new.pointers.items) c.deref-3.result.now ks c.in_ok-here.here.guard c.in_ok-here.here.held) kinds c.in_ok-here.ensures.rows))
    c.in_ok-pending.ensures.grows
    (subst (λ (ws : List Way). GathersTo (seen c.arrive.new.cells.items) (seen c.gather.new.cells.items) ws (pending_of c.args.progress.now) (get_or (entries_of c.args.progress.now) c.args.node []) (length c.args.program.now.decls) c.in_ok-pending.pending.items) c.deref-4.ensures.value
    (subst (λ (rs : List (SmallVec ℕ 4 Global)). GathersTo (seen c.arrive.new.cells.items) (seen c.gather.new.cells.items) c.deref-4.result.now (map (λ x. x.items) rs) (get_or (entries_of c.args.progress.now) c.args.node []) (length c.args.program.now.decls) c.in_ok-pending.pending.items) c.deref-5.ensures.value
    (subst (λ (ns : List ℕ). GathersTo (seen c.arrive.new.cells.items) (seen c.gather.new.cells.items) c.deref-4.result.now (map (λ x. x.items) c.deref-5.result.now) ns (length c.args.program.now.decls) c.in_ok-pending.pending.items) numbers6
    (subst (λ (n : ℕ). GathersTo (seen c.arrive.new.cells.items) (seen c.gather.new.cells.items) c.deref-4.result.now (map (λ x. x.items) c.deref-5.result.now) c.deref-6.result.now n c.in_ok-pending.pending.items) (ap length c.decls-decls.ensures.decls) c.in_ok-pending.ensures.rows))))
    (c.in_ok-pending.ensures.waiting.0 ∙ ap length c.decls-decls.ensures.decls) fit

pub returns-clause-meets : goal.returns-clause-meets
returns-clause-meets c =
    let inside : c.args.node < length (graph_of c.args.program.now c.args.unfolded.now).nodes = omega (arith, c.requires.node, length-map c.args.unfolded.now.nodes.items node_view) in
    let numbers6 : c.deref-6.result.now ≡ get_or (entries_of c.args.progress.now) c.args.node [] = numbers_of (graph_of c.args.program.now c.args.unfolded.now) c.args.node c.args.progress.now c.index-numbers.result.now c.deref-6.result.now c.requires.ready inside c.deref-6.ensures c.index-numbers.ensures in
    pending_meets c.args.node (seen c.arrive.new.cells.items) (seen c.gather.new.cells.items) c.args.progress.now.made.ways.items (pending_of c.args.progress.now) (get_or (entries_of c.args.progress.now) c.args.node []) (length c.args.program.now.decls) c.in_ok-pending.pending.items
    (subst (λ (ws : List Way). GathersTo (seen c.arrive.new.cells.items) (seen c.gather.new.cells.items) ws (pending_of c.args.progress.now) (get_or (entries_of c.args.progress.now) c.args.node []) (length c.args.program.now.decls) c.in_ok-pending.pending.items) c.deref-4.ensures.value
    (subst (λ (rs : List (SmallVec ℕ 4 Global)). GathersTo (seen c.arrive.new.cells.items) (seen c.gather.new.cells.items) c.deref-4.result.now (map (λ x. x.items) rs) (get_or (entries_of c.args.progress.now) c.args.node []) (length c.args.program.now.decls) c.in_ok-pending.pending.items) c.deref-5.ensures.value
    (subst (λ (ns : List ℕ). GathersTo (seen c.arrive.new.cells.items) (seen c.gather.new.cells.items) c.deref-4.result.now (map (λ x. x.items) c.deref-5.result.now) ns (length c.args.program.now.decls) c.in_ok-pending.pending.items) numbers6
    (subst (λ (n : ℕ). GathersTo (seen c.arrive.new.cells.items) (seen c.gather.new.cells.items) c.deref-4.result.now (map (λ x. x.items) c.deref-5.result.now) c.deref-6.result.now n c.in_ok-pending.pending.items) (ap length c.decls-decls.ensures.decls) c.in_ok-pending.ensures.rows))))
    (c.in_ok-pending.ensures.waiting.0 ∙ ap length c.decls-decls.ensures.decls) (c.requires.ready.kept.entered c.args.node inside)

pub returns-clause-points : goal.returns-clause-points
returns-clause-points c =
    let inside : c.args.node < length (graph_of c.args.program.now c.args.unfolded.now).nodes = omega (arith, c.requires.node, length-map c.args.unfolded.now.nodes.items node_view) in
    let numbers : c.deref-2.result.now ≡ get_or (entries_of c.args.progress.now) c.args.node [] = numbers_of (graph_of c.args.program.now c.args.unfolded.now) c.args.node c.args.progress.now c.index-numbers.result.now c.deref-2.result.now c.requires.ready inside c.deref-2.ensures c.index-numbers.ensures in
    let lead : LeadTo c.args.node c.args.progress.now.made.ways.items c.in_ok-meeting.meeting.items = leads_at (graph_of c.args.program.now c.args.unfolded.now) c.args.node c.args.progress.now c.deref.result.now c.in_ok-meeting.meeting.items c.deref-2.result.now c.requires.ready inside c.deref.ensures.value numbers c.in_ok-meeting.ensures in
    let kinds : (node_at (graph_of c.args.program.now c.args.unfolded.now).nodes c.args.node).kinds ≡ c.index.result.now.kinds = ap (λ (n : NodeView). n.kinds) (node_is c.args.program.now c.args.unfolded.now c.args.node c.index.result.now c.requires.node c.index.ensures) in
    subst (λ (ds : List MapDecl). ArrivePoints ds c.args.node (node_at (graph_of c.args.program.now c.args.unfolded.now).nodes c.args.node).kinds (seen c.gather.new.cells.items) (pointed c.args.progress.now.made.pointers.items) (pointed c.arrive.new.pointers.items) c.args.progress.now.made.ways.items c.in_ok-here.here.guard c.in_ok-here.here.held) c.decls-decls.ensures.decls
    (subst (λ (ks : Kinds). ArrivePoints c.decls-decls.result.now c.args.node ks (seen c.gather.new.cells.items) (pointed c.args.progress.now.made.pointers.items) (pointed c.arrive.new.pointers.items) c.args.progress.now.made.ways.items c.in_ok-here.here.guard c.in_ok-here.here.held) (sym kinds)
    (arrive_later c.decls-decls.result.now c.args.node c.index.result.now.kinds (seen c.arrive.new.cells.items) (seen c.gather.new.cells.items) (pointed c.args.progress.now.made.pointers.items) (pointed c.arrive.new.pointers.items) c.args.progress.now.made.ways.items c.in_ok-here.here.guard c.in_ok-here.here.held c.in_ok-pending.ensures.grows
    (c.in_ok-here.ensures.points c.args.node c.args.progress.now.made.ways.items (subst (LeadTo c.args.node c.args.progress.now.made.ways.items) (sym c.deref-3.ensures.value) lead))))
