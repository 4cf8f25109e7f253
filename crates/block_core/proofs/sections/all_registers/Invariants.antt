use Rattle.std.proofs.Common.{◌≡◌, ◌++◌, ◌∷◌, map, drop}
use Rattle.net_core.specs.declared.design.Declared.TheVariants as declared
use Rattle.block_core.specs.Blocks.{gather}
use Rattle.block_core.specs.Link.{declare_register}
use Rattle.block_core.specs.View.{block_of}
use Rattle.block_core.proofs.sections.all_registers.Given as goal

abbrev pub invariant-loop-placed : goal.invariant-loop-placed
invariant-loop-placed g l =
    l.all.items ++ gather (λ m. map declare_register (block_of m.block).registers) (drop l.placed-index l.parts) ≡ declared.Integer ∷ gather (λ m. map declare_register (block_of m.block).registers) l.parts
