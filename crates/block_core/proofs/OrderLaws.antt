-- What stands before a wire of a part.
use Rattle.std.specs.Prelude.{ℕ, List}
use Rattle.std.proofs.Common.{arith, inl, inr}
use Rattle.block_core.specs.declared.name.Name.{Name}
use Rattle.block_core.specs.declared.name.Name.TheVariants as name
use Rattle.block_core.specs.Blocks.{Whole}
use Rattle.block_core.specs.Order.{IsBefore}

-- what stands before all of a part's wires stands before each
pub still_before : {P : Type 0} (d : Whole P) (before : List P) (p : P) (at : ℕ) (n : Name P) → IsBefore d before p 0 n → IsBefore d before p at n
still_before d before p at (name.Port k) h = h
still_before d before p at (name.Register q k) h = h
still_before d before p at (name.Memory q k) h = h
still_before d before p at (name.Wire q k) (inl h) = let l = h.1 in absurd (omega arith)
still_before d before p at (name.Wire q k) (inr h) = inr h
