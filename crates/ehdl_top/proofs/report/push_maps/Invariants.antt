use Rattle.std.proofs.Common.{◌≡◌, ◌++◌, map, take}
use Rattle.ehdl_top.specs.Report.{map_line}
use Rattle.ehdl_top.proofs.report.push_maps.Given as goal

abbrev pub invariant-loop-decl : goal.invariant-loop-decl
invariant-loop-decl l = l.lines.items ≡ l.initial.lines.items ++ map map_line (take l.decl-index l.decls)
