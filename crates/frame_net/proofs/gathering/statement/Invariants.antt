use Rattle.std.proofs.Common.{◌≡◌, ◌+◌, ◌++◌, map, drop}
use Rattle.net_core.specs.View.{statement_of}
use Rattle.frame_net.specs.Stores.{store_statements}
use Rattle.frame_net.specs.GatherNets.{further_store, gather_sets, gather_stores}
use Rattle.frame_net.proofs.gathering.statement.Given as goal

abbrev pub invariant-loop-what : goal.invariant-loop-what
invariant-loop-what g l = record {
  number : l.memory ≡ 3 + l.what-index;
  statements : map statement_of l.all.items ++ store_statements l.memory (map (further_store l.part l.bits l.over l.slot) (drop l.what-index l.further))
      ≡ gather_sets l.part l.over (store_statements 0 (gather_stores l.part l.bits l.further l.over l.slot));
}
