use Rattle.std.proofs.Common.{◌≡◌, ◌++◌, map, drop}
use Rattle.std.specs.List.{list_all}
use Rattle.net_core.specs.View.{statement_of}
use Rattle.block_core.specs.Range.{statement_in_range}
use Rattle.block_core.specs.View.{linked_statement}
use Rattle.block_core.proofs.sections.all_statements.Given as goal

abbrev pub invariant-loop-placed : goal.invariant-loop-placed
invariant-loop-placed g l = record {
  linked : map statement_of l.all.items ++ map (linked_statement g.P.Part.place l.starts) (drop l.placed-index l.parts) ≡ map (linked_statement g.P.Part.place l.starts) l.parts;
  range : list_all statement_in_range (map (linked_statement g.P.Part.place l.starts) (drop l.placed-index l.parts)) ≡ list_all statement_in_range (map (linked_statement g.P.Part.place l.starts) l.parts);
}
