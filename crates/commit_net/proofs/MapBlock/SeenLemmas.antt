-- The parts of a map in a clock of a design.
use Rattle.std.proofs.Common.{subst}
use Rattle.block_core.specs.declared.name.Name.{Name}
use Rattle.block_core.specs.Blocks.{BlockTree}
use Rattle.block_core.specs.Parts.{Solve}
use Rattle.commit_net.specs.MapBlock.Laws.{SeesParts}

pub seen : {P : Type 0} → SeesParts P
seen {P} = λ w ins ss v ps bs sees is.
    let solved : (p : P) → BlockTree (Name P) → Type 0 = λ p b. Solve v p 0 b.wires in (
      (
        subst (solved ps.finder) is.blocks.0 (sees.wires ps.finder is.among.0),
        subst (solved ps.fetcher) is.blocks.1 (sees.wires ps.fetcher is.among.1),
        subst (solved ps.asker) is.blocks.2 (sees.wires ps.asker is.among.2),
        subst (solved ps.own) is.blocks.3 (sees.wires ps.own is.among.3),
      ),
      record { register = λ i l. sees.register ps.own i is.among.3 l; memories = λ i n l. sees.memory_word ps.own i n is.among.3 l },
    )
