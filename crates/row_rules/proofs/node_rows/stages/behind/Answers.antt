use Rattle.std.proofs.Common.{◌∙◌, ◌+◌, ◌≤◌, Option, List, sym, ap, ap₂, subst}
use Rattle.std.proofs.lemmas.List.{get_or_default}
use Rattle.unfold_core.specs.declared.edges.Point.{Point}
use Rattle.unfold_core.specs.declared.links.Edge.{Edge}
use Rattle.row_rules.specs.declared.place_rows.origin.Origin.{Origin}
use Rattle.row_rules.specs.PlaceRows.Origins.{every_row}
use Rattle.row_rules.specs.NodeRows.Joining.{edge_row}
use Rattle.row_rules.specs.NodeRows.Rows.{no_point, arrivals_of}
use Rattle.row_rules.proofs.NodeRows.RowsLaws.{before_low, behind_made}
use Rattle.row_rules.proofs.node_rows.stages.behind.Goals as goal

pub pass-requires-clause-low : goal.pass-requires-clause-low
pass-requires-clause-low c = subst (λ (os : List (Option Origin)). every_row os ≤ 256) (sym c.join-before.ensures)
    (before_low c.args.program.now c.args.unfolded.now.nodes.items c.args.unfolded.now.edges.items c.args.passed.now c.args.node (c.args.node + 1) c.index-at.result.now.kinds c.deref-4.result.now (c.deref-4.ensures.value ∙ c.in_ok-arrivals.ensures ∙ ap₂ (λ (ns : List Point) (es : List Edge). arrivals_of c.args.program.now ns es c.args.passed.now c.args.node) c.deref.ensures.value c.deref-2.ensures.value) c.requires.up c.requires.low c.requires.passed)

pub returns : goal.returns
returns c = behind_made c.args.program.now c.args.unfolded.now.nodes.items c.args.unfolded.now.edges.items c.args.passed.now c.args.node c.args.insn.now c.index-at.result.now c.deref-4.result.now c.decls.result.now c.known_behind-after.result c.edge_row-guard.result c.join-before.result.places c.pass.result c.pass.ensures c.decls.ensures.decls c.known_behind-after.ensures
    (c.edge_row-guard.ensures ∙ ap edge_row (c.deref-3.ensures.value ∙ sym c.deref-4.ensures.value)) c.join-before.ensures
    (c.index-at.ensures ∙ get_or_default c.args.unfolded.now.nodes.items c.args.node c.index-at.result.now no_point c.requires.node) (c.deref-4.ensures.value ∙ c.in_ok-arrivals.ensures ∙ ap₂ (λ (ns : List Point) (es : List Edge). arrivals_of c.args.program.now ns es c.args.passed.now c.args.node) c.deref.ensures.value c.deref-2.ensures.value) c.requires.insn
