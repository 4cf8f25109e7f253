use Rattle.std.proofs.Common.{◌≡◌, drop}
use Rattle.kind_core.specs.Tests.{all_numbers}
use Rattle.kind_core.proofs.tests.all_numbers.Given as goal

abbrev pub invariant-loop-kind : goal.invariant-loop-kind
invariant-loop-kind l = all_numbers (drop l.kind-index l.kinds) ≡ all_numbers l.kinds
