use Rattle.std.proofs.Common.{◌≡◌, drop}
use Rattle.unfold_core.specs.Nodes.{copies_before, comes_before}
use Rattle.unfold_core.proofs.nodes.comes_before.Given as goal

abbrev pub invariant-loop-k : goal.invariant-loop-k
invariant-loop-k l = copies_before (drop l.k l.loops) l.a.place (drop l.k l.a.copies) l.b.place (drop l.k l.b.copies) ≡ comes_before l.loops l.a l.b
