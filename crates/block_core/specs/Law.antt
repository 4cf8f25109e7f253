-- What holds of every linked design.
use Rattle.std.specs.Prelude.{◌≡◌, ℕ, List, []}
use Rattle.net_core.specs.declared.tree.Word.{Word}
use Rattle.net_core.specs.declared.design.Port.{Port}
use Rattle.net_core.specs.Value.{Env}
use Rattle.net_core.specs.Clock.{Stored, done, first_stored}
use Rattle.block_core.specs.declared.name.Name.{Name}
use Rattle.block_core.specs.Blocks.{BlockTree, OutputTree, registers_of, memories_of, first_of, Whole, IsPlaced, Among}
use Rattle.block_core.specs.Link.{link}
use Rattle.block_core.specs.Parts.{stored_of, IsSized, ClockOfParts, Within}
use Rattle.block_core.specs.Order.{AllInOrder}

-- The parts stand where they say, their wires in order, and each statement sets what its block has.
pub record IsLinkable {P : Type 0} (d : Whole P) : Type 0 where
  pub placed : IsPlaced d
  pub ordered : AllInOrder d [] d.parts
  pub within : (p : P) → Among p d.parts → Within (registers_of (d.block p)) (memories_of (d.block p)) (d.block p).statement

-- each clock of the design is one of its parts
abbrev pub Linked : (P : Type 0) → Type 0
Linked P = (d : Whole P) (names : List (List ℕ)) (ports : List Port) (outputs : List (OutputTree (Name P))) (ins : List Word) (ss : P → Stored)
    → IsLinkable d → ((p : P) → Among p d.parts → IsSized (d.block p) (ss p)) → ClockOfParts d (link d names ports outputs) outputs ins ss

-- a design first stores what its blocks do
abbrev pub StartsAsParts : (P : Type 0) → Type 0
StartsAsParts P = (d : Whole P) (names : List (List ℕ)) (ports : List Port) (outputs : List (OutputTree (Name P))) → first_stored (link d names ports outputs) ≡ stored_of d (λ p. first_of (d.block p))

-- A block first stores as many registers and memories as it has, and each clock leaves as many.
pub record SizesStay (N : Type 0) : Type 0 where
  pub first : (b : BlockTree N) → IsSized b (first_of b)
  pub clock : (b : BlockTree N) (v : Env N) (s : Stored) → IsSized b s → IsSized b (done v b.statement s)
