use Rattle.std.proofs.Common.{◌≡◌, take, vec_capacity, vec_len}
use Rattle.xdp_maps.proofs.hash.copy_from.Given as goal

abbrev pub invariant-loop-entry : goal.invariant-loop-entry
invariant-loop-entry l = record {
  copied : l.entries.items ≡ take l.entry-index l.from;
  count : vec_len l.entries ≡ l.entry-index;
  room : vec_capacity l.entries ≡ vec_capacity l.initial.entries;
}
