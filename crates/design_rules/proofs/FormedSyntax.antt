-- Every tree has a depth.
use Rattle.std.specs.Prelude.{◌<◌}
use Rattle.std.proofs.Common.{arith}
use Rattle.net_core.specs.Nets.{Tree, TConst, TRead, TBit, TPartSelect, TMemoryWord, TUnary, TBinary, TConditional, TConcatenation, StatementTree, SBlock, SIf, SIfElse, SSet, SStore}
use Rattle.design_rules.specs.FormedSyntax.{depth, statement_depth}

pub depth_some : {N : Type 0} (t : Tree N) → 0 < depth t
depth_some (TConst w) = omega arith
depth_some (TRead n) = omega arith
depth_some (TBit n i) = omega arith
depth_some (TPartSelect n hi lo) = omega arith
depth_some (TMemoryWord m i) = omega arith
depth_some (TUnary p a) = omega arith
depth_some (TBinary op a b) = omega arith
depth_some (TConditional c a b) = omega arith
depth_some (TConcatenation ps) = omega arith

pub statement_depth_some : {N : Type 0} (a : StatementTree N) → 0 < statement_depth a
statement_depth_some (SBlock more) = omega arith
statement_depth_some (SIf c a) = omega arith
statement_depth_some (SIfElse c a b) = omega arith
statement_depth_some (SSet r e) = omega arith
statement_depth_some (SStore m i e) = omega arith
