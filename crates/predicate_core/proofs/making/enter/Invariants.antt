use Rattle.std.proofs.Common.{◌≡◌, length, take, map}
use Rattle.predicate_core.specs.Progress.{targets, Entered}
use Rattle.predicate_core.proofs.making.enter.Given as goal

abbrev pub invariant-loop-i : goal.invariant-loop-i
invariant-loop-i l = record {
  at : length l.pending.items ≡ l.i;
  size : length l.entries.items ≡ length l.fn.entries.items;
  entered : Entered (take (length l.fn.pending.items) (targets l.ways)) (take l.i (targets l.ways)) (map (λ x. x.items) l.fn.entries.items) (map (λ x. x.items) l.entries.items) (map (λ x. x.items) l.fn.pending.items) (map (λ x. x.items) l.pending.items) l.brought;
}
