use Rattle.std.proofs.Common.{◌≡◌, ◌≤◌, replicate, vec_capacity, vec_len}
use Rattle.xdp_maps.proofs.array.new.Given as goal

abbrev pub invariant-loop : goal.invariant-loop
invariant-loop l = record {
  made : l.values.items ≡ replicate l.counter (replicate l.value 0);
  count : vec_len l.values ≡ l.counter;
  room : l.cap ≤ vec_capacity l.values;
}
