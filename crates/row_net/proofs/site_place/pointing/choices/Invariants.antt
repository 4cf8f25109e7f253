use Rattle.std.proofs.Common.{◌≡◌, ◌<◌, ℕ, length, get_or, slice_index}
use Rattle.cell_nets.specs.declared.operand.Operand.{Operand}
use Rattle.row_net.specs.Table.{Stands}
use Rattle.row_net.specs.SitePlace.Pointing.{is_edge, HoldsOf}
use Rattle.row_net.proofs.site_place.pointing.choices.Given as goal

abbrev pub invariant-loop-cell : goal.invariant-loop-cell
invariant-loop-cell g l = record {
  edge : l.edge ≡ is_edge l.cell-index;
  count : length l.args.items ≡ l.cell-index;
  each : (n : ℕ) (d : Operand _) → n < l.cell-index → HoldsOf (λ i. Stands l.table i (get_or l.args.items n d)) (λ i. Stands l.pointers i (get_or l.args.items n d)) (is_edge n) (slice_index l.ins n);
}
