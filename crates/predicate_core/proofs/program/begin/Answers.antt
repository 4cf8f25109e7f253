use Rattle.std.proofs.Common.{ℕ, [], ◌∷◌, ◌++◌, length, List, map, ◌∙◌, ap, subst, arith, refl}
use Rattle.std.proofs.lemmas.List.{length-map}
use Rattle.cell_core.specs.Cells.{CellView}
use Rattle.operator_cells.specs.Making.{seen}
use Rattle.operator_cells.specs.declared.held_cells.way.Way.{Way}
use Rattle.operator_cells.specs.HeldCells.RegisterCells.{pointed}
use Rattle.site_cells.specs.Sited.{sited}
use Rattle.predicate_core.specs.ProgramGraph.Graphs.{node_view, graph_of}
use Rattle.predicate_core.specs.ProgramGraph.Sound.{IsSoundGraph}
use Rattle.predicate_core.specs.Opening.{Opens}
use Rattle.predicate_core.specs.Progress.{AreFirst, AreWaiting}
use Rattle.predicate_core.proofs.Beginning.{opens_later, seen_none, pointed_none, sited_none, ready_first}
use Rattle.predicate_core.proofs.FirstFits.{fits_first}
use Rattle.predicate_core.proofs.program.begin.Goals as goal

pub returns-clause-ready : goal.returns-clause-ready
returns-clause-ready c =
    let sound : IsSoundGraph (graph_of c.args.program.now c.args.unfolded.now) = c.graphs_are_sound.ensures c.args.program.now c.args.unfolded.now c.decls.ensures.program c.requires.unfolded c.requires.fixed in
    let opens : Opens [] (seen c.unwritten.new.cells.items) c.in_ok-start.start = opens_later [] (seen c.open.new.cells.items) (seen c.unwritten.new.cells.items) c.in_ok-start.start
    (subst (λ (xs : List CellView). Opens xs (seen c.open.new.cells.items) c.in_ok-start.start) (ap seen c.new-cells.ensures.items ∙ seen_none) c.in_ok-start.ensures) c.in_ok-none.ensures.grows c.in_ok-none.ensures.no_row in
    ready_first c.opens_follow.ensures (graph_of c.args.program.now c.args.unfolded.now) c.in_ok-start.start
    (record { made = record { cells = c.unwritten.new.cells; pointers = c.new.result; sites = c.new-2.result; ways = c.push.new.self; exits = c.new-3.result }; nodes = c.new-4.result; entries = c.in_ok-first_entries.field-0; pending = c.push-2.new.self; window = c.in_ok-start.start.held.window })
    c.in_ok-none.none.items sound (c.sound_graphs_feed.ensures (graph_of c.args.program.now c.args.unfolded.now) sound) opens (ap pointed c.new.ensures.items ∙ pointed_none) (ap sited c.new-2.ensures.items ∙ sited_none)
    (c.in_ok-push.ensures.items ∙ ap (λ (ws : List Way). ws ++ c.in_ok-start.start ∷ []) c.new-ways.ensures.items) c.new-3.ensures.items c.new-4.ensures.items refl
    (subst (λ (n : ℕ). AreFirst n (map (λ x. x.items) c.in_ok-first_entries.field-0.items)) (omega (arith, c.len.ensures, length-map c.args.unfolded.now.nodes.items node_view)) c.in_ok-first_entries.ensures)
    (ap (map (λ x. x.items)) (c.in_ok-push-2.ensures.items ∙ ap (λ xs. xs ++ c.in_ok-from_slice.field-0 ∷ []) c.new-pending.ensures.items) ∙ ap (λ (r : List ℕ). r ∷ []) (c.in_ok-from_slice.ensures.ok ∙ c.deref.ensures.value))
    (subst (λ (n : ℕ). AreWaiting n (length (seen c.unwritten.new.cells.items)) c.in_ok-none.none.items) (ap length c.decls.ensures.decls) c.in_ok-none.ensures.waiting)

pub returns-clause-rows : goal.returns-clause-rows
returns-clause-rows c =
    let opens : Opens [] (seen c.unwritten.new.cells.items) c.in_ok-start.start = opens_later [] (seen c.open.new.cells.items) (seen c.unwritten.new.cells.items) c.in_ok-start.start
    (subst (λ (xs : List CellView). Opens xs (seen c.open.new.cells.items) c.in_ok-start.start) (ap seen c.new-cells.ensures.items ∙ seen_none) c.in_ok-start.ensures) c.in_ok-none.ensures.grows c.in_ok-none.ensures.no_row in
    fits_first c.args.program.now c.args.unfolded.now
    (record { made = record { cells = c.unwritten.new.cells; pointers = c.new.result; sites = c.new-2.result; ways = c.push.new.self; exits = c.new-3.result }; nodes = c.new-4.result; entries = c.in_ok-first_entries.field-0; pending = c.push-2.new.self; window = c.in_ok-start.start.held.window })
    c.in_ok-start.start c.in_ok-none.none.items (length c.args.program.now.decls) c.decls.ensures.program.maps opens
    (subst (λ (n : ℕ). AreWaiting n (length (seen c.unwritten.new.cells.items)) c.in_ok-none.none.items) (ap length c.decls.ensures.decls) c.in_ok-none.ensures.waiting)
    (c.in_ok-push.ensures.items ∙ ap (λ (ws : List Way). ws ++ c.in_ok-start.start ∷ []) c.new-ways.ensures.items)
    (ap (map (λ x. x.items)) (c.in_ok-push-2.ensures.items ∙ ap (λ xs. xs ++ c.in_ok-from_slice.field-0 ∷ []) c.new-pending.ensures.items) ∙ ap (λ (r : List ℕ). r ∷ []) (c.in_ok-from_slice.ensures.ok ∙ c.deref.ensures.value))
    (ap sited c.new-2.ensures.items ∙ sited_none)

pub returns-clause-points : goal.returns-clause-points
returns-clause-points c =
    let opens : Opens [] (seen c.unwritten.new.cells.items) c.in_ok-start.start = opens_later [] (seen c.open.new.cells.items) (seen c.unwritten.new.cells.items) c.in_ok-start.start
    (subst (λ (xs : List CellView). Opens xs (seen c.open.new.cells.items) c.in_ok-start.start) (ap seen c.new-cells.ensures.items ∙ seen_none) c.in_ok-start.ensures) c.in_ok-none.ensures.grows c.in_ok-none.ensures.no_row in
    c.opens_point.ensures c.args.program.now.decls (record { cells = seen c.unwritten.new.cells.items; pointers = pointed c.new.result.items; sites = sited c.new-2.result.items; ways = c.push.new.self.items; exits = c.new-3.result.items }) c.in_ok-start.start
    (c.in_ok-push.ensures.items ∙ ap (λ (ws : List Way). ws ++ c.in_ok-start.start ∷ []) c.new-ways.ensures.items) (ap sited c.new-2.ensures.items ∙ sited_none) opens

pub returns-clause-reads : goal.returns-clause-reads
returns-clause-reads c =
    let opens : Opens [] (seen c.unwritten.new.cells.items) c.in_ok-start.start = opens_later [] (seen c.open.new.cells.items) (seen c.unwritten.new.cells.items) c.in_ok-start.start
    (subst (λ (xs : List CellView). Opens xs (seen c.open.new.cells.items) c.in_ok-start.start) (ap seen c.new-cells.ensures.items ∙ seen_none) c.in_ok-start.ensures) c.in_ok-none.ensures.grows c.in_ok-none.ensures.no_row in
    c.opens_read.ensures c.args.program.now.decls (record { cells = seen c.unwritten.new.cells.items; pointers = pointed c.new.result.items; sites = sited c.new-2.result.items; ways = c.push.new.self.items; exits = c.new-3.result.items }) c.in_ok-start.start _
    (c.in_ok-push.ensures.items ∙ ap (λ (ws : List Way). ws ++ c.in_ok-start.start ∷ []) c.new-ways.ensures.items) (ap sited c.new-2.ensures.items ∙ sited_none) opens.grows
