-- What is asked of an object.
use Rattle.std.specs.Prelude.{ℕ, List, Option}
use Rattle.std.specs.Option.{option_copied}
use Rattle.xdp_object.specs.declared.choice.Choice.{Choice}

-- the name of the function that is asked for, or none; and the most keys of a hash
pub record Chosen : Type 0 where
  pub program : Option (List ℕ)
  pub hash_cap : ℕ

abbrev pub chosen : Option (List ℕ) → ℕ → Chosen
chosen program hash_cap = record { program = program; hash_cap = hash_cap }

-- what a choice in memory stands for
abbrev pub chosen_of : Choice → Chosen
chosen_of c = chosen (option_copied c.program) c.hash_cap
