use Rattle.std.specs.List.{filter}
use Rattle.std.proofs.Common.{◌≡◌, All, map as map_list}
use Rattle.hazard_core.specs.cell_core.Rows.{numbers}
use Rattle.place_parts.specs.MarkParts.Places.{program_in}
use Rattle.place_parts.specs.MarkParts.Owns.{is_own, IsOwn}
use Rattle.place_parts.proofs.mark_parts.owns.own_keys.Given as goal

abbrev pub invariant-loop-j : goal.invariant-loop-j
invariant-loop-j l = record {
  are : map_list (λ o. o.site) l.all.items ≡ filter (is_own (program_in l.layout) l.layout.decls.now l.bytes) (numbers 0 l.j);
  each : All (IsOwn l.layout l.sites l.bytes) l.all.items;
}
