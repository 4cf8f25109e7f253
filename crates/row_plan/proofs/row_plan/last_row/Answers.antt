use Rattle.std.proofs.Common.{rules, ◌≡◌, ◌∙◌, ◌+◌, ◌≤◌, ℕ, max, drop, get_or, slice_index, ap, sym}
use Rattle.cell_core.specs.declared.program.Node.{Node}
use Rattle.cell_core.specs.Rows.{node_row, last_row}
use Rattle.row_plan.specs.Steps.{no_node}
use Rattle.row_plan.proofs.RowLemmas.{last_next, max_more, all_next}
use Rattle.row_plan.proofs.row_plan.last_row.Goals as goal

pub loop-node-preserved : goal.loop-node-preserved
loop-node-preserved c =
    let row : ℕ → ℕ = slice_index c.args.rows.now in
    let i : ℕ = c.loop-node.node-index in
    let n : Node = get_or c.args.nodes.now i no_node in
    let most : c.max-last.result ≡ max c.loop-node.last (node_row row n) = search rules in
    record {
      last =
          max_more c.loop-node.last (node_row row n) c.max-last.result (last_row row (drop (i + 1) c.args.nodes.now)) most
          ∙ ap (max c.loop-node.last) (sym (last_next row c.args.nodes.now i no_node c.loop-node-test.true)) ∙ c.loop-node.invariant.last;
      few = search rules;
      within = all_next (λ n. node_row row n ≤ 256) c.args.nodes.now i no_node c.loop-node-test.true c.loop-node.invariant.within (search rules);
    }
