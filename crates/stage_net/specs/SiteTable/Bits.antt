-- How many bits the numbers of pointers have.
use Rattle.std.specs.Prelude.{ℕ, ◌+◌, ◌*◌, ◌^◌, ◌<◌, ◌≤◌, List, All}
use Rattle.hazard_core.specs.xdp_maps.declared.decl.MapDecl.{MapDecl}

-- So many bits hold the number of each slot of these maps, and of the entry that each of so many sites is to make.
pub record FitPointers (decls : List MapDecl) (sites bits : ℕ) : Type 0 where
  pub some : 3 ≤ bits
  pub most : bits ≤ 34
  pub slots : All (λ d. 4 * d.cap + 1 < 2 ^ bits) decls
  pub updates : (j : ℕ) → j < sites → 4 * j + 2 < 2 ^ bits
