use Rattle.std.proofs.Common.{◌≤◌, All, take}
use Rattle.stage_net.proofs.site_table.bits.most_entries.Given as goal

abbrev pub invariant-loop-decl : goal.invariant-loop-decl
invariant-loop-decl l = record { each : All (λ d. d.cap ≤ l.most) (take l.decl-index l.decls); small : l.most ≤ 65536 }
