use Rattle.std.proofs.Common.{ℕ, List, sym, subst}
use Rattle.std.proofs.lemmas.List.{length-map}
use Rattle.operator_cells.specs.Making.{seen}
use Rattle.operator_cells.specs.declared.held_cells.way.Exit.{Exit}
use Rattle.site_cells.specs.Sited.{sited}
use Rattle.predicate_core.specs.ProgramGraph.Graphs.{node_view, graph_of}
use Rattle.predicate_core.specs.Making.{IsSoFar, Answers}
use Rattle.predicate_core.specs.Progress.{making_of}
use Rattle.predicate_core.proofs.FirstFits.{all_fit, all_record}
use Rattle.predicate_core.proofs.program.to_cells.Goals as goal

pub returns-clause-law : goal.returns-clause-law
unfolding seen sited
returns-clause-law c = (c.wholes_compute.ensures (graph_of c.args.program.now c.args.unfolded.now) c.in_ok-make_nodes.ensures.ready.held (making_of c.make_nodes.new.progress) (seen c.close.new.cells.items) c.in_ok-answer.answer.verdict c.in_ok-answer.answer.target c.in_ok-answer.answer.frame.items
    c.decls-maps.ensures.program.legal
    (subst (λ (n : ℕ). IsSoFar (graph_of c.args.program.now c.args.unfolded.now) n c.in_ok-make_nodes.ensures.ready.held (making_of c.make_nodes.new.progress)) (sym (length-map c.args.unfolded.now.nodes.items node_view)) c.in_ok-make_nodes.ensures.ready.so_far) c.in_ok-make_nodes.ensures.points.ascending (λ packet v u run follows. (c.in_ok-make_nodes.ensures.points.each packet v u run follows).accesses)
    (λ packet v u run follows m n founds. ((c.in_ok-make_nodes.ensures.points.each packet v u run follows).into m n founds).accesses)
    (record { each = c.in_ok-make_nodes.ensures.reads.made.each; ordered = c.in_ok-make_nodes.ensures.reads.made.ordered }) (record { waits = c.in_ok-make_nodes.ensures.reads.waits.waits })
    (subst (λ (xs : List Exit). Answers (seen c.make_nodes.new.progress.made.cells.items) (seen c.close.new.cells.items) xs c.in_ok-answer.answer.verdict c.in_ok-answer.answer.target c.in_ok-answer.answer.frame.items) c.deref.ensures.value c.in_ok-answer.ensures)).0

pub returns-clause-buildable : goal.returns-clause-buildable
unfolding seen sited
returns-clause-buildable c = (c.wholes_compute.ensures (graph_of c.args.program.now c.args.unfolded.now) c.in_ok-make_nodes.ensures.ready.held (making_of c.make_nodes.new.progress) (seen c.close.new.cells.items) c.in_ok-answer.answer.verdict c.in_ok-answer.answer.target c.in_ok-answer.answer.frame.items
    c.decls-maps.ensures.program.legal
    (subst (λ (n : ℕ). IsSoFar (graph_of c.args.program.now c.args.unfolded.now) n c.in_ok-make_nodes.ensures.ready.held (making_of c.make_nodes.new.progress)) (sym (length-map c.args.unfolded.now.nodes.items node_view)) c.in_ok-make_nodes.ensures.ready.so_far) c.in_ok-make_nodes.ensures.points.ascending (λ packet v u run follows. (c.in_ok-make_nodes.ensures.points.each packet v u run follows).accesses)
    (λ packet v u run follows m n founds. ((c.in_ok-make_nodes.ensures.points.each packet v u run follows).into m n founds).accesses)
    (record { each = c.in_ok-make_nodes.ensures.reads.made.each; ordered = c.in_ok-make_nodes.ensures.reads.made.ordered }) (record { waits = c.in_ok-make_nodes.ensures.reads.waits.waits })
    (subst (λ (xs : List Exit). Answers (seen c.make_nodes.new.progress.made.cells.items) (seen c.close.new.cells.items) xs c.in_ok-answer.answer.verdict c.in_ok-answer.answer.target c.in_ok-answer.answer.frame.items) c.deref.ensures.value c.in_ok-answer.ensures)).1

pub returns-clause-stages : goal.returns-clause-stages
unfolding seen sited
returns-clause-stages c s stages row rows = all_fit (λ k j. ⊥) c.args.program.now c.args.unfolded.now c.make_nodes.new.progress (seen c.close.new.cells.items) s row c.in_ok-make_nodes.ensures.rows c.in_ok-make_nodes.ensures.ready.so_far.laid.count
    (subst (λ (xs : List Exit). Answers (seen c.make_nodes.new.progress.made.cells.items) (seen c.close.new.cells.items) xs c.in_ok-answer.answer.verdict c.in_ok-answer.answer.target c.in_ok-answer.answer.frame.items) c.deref.ensures.value c.in_ok-answer.ensures).grows stages rows

pub returns-clause-records : goal.returns-clause-records
unfolding sited
returns-clause-records c s stages = all_record c.args.program.now c.args.unfolded.now c.make_nodes.new.progress s c.in_ok-make_nodes.ensures.rows stages
