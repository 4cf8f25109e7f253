use Rattle.std.proofs.Common.{arith}
use Rattle.std.proofs.Math.Pow.{pow_mono}
use Rattle.cell_nets.proofs.comparing.sides.Goals as goal

pub returns-then-first-second : goal.returns-then-first-second
returns-then-first-second g c = record {
  wide = c.span-second.ensures.wide;
  left = λ v f. omega (arith, pow_mono {i = c.span-first.result} {j = c.span-second.result} (omega arith), c.span-first.ensures.enough v f);
  right = c.span-second.ensures.enough;
}

pub returns-else-first-second : goal.returns-else-first-second
returns-else-first-second g c = record {
  wide = c.span-first.ensures.wide;
  left = c.span-first.ensures.enough;
  right = λ v f. omega (arith, pow_mono {i = c.span-second.result} {j = c.span-first.result} (omega arith), c.span-second.ensures.enough v f);
}
