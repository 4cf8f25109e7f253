-- When operands stand for the cells of a site, as a packet holds them.
use Rattle.std.specs.Prelude.{◌≡◌, ℕ, ◌++◌, List, ◌∷◌, map as map_list}
use Rattle.block_core.specs.net_core.Value.{Env}
use Rattle.hazard_core.specs.cell_core.Sites.{ProgramView, site_at}
use Rattle.hazard_core.specs.StageValues.{StageValues, stage_value, pointer_in, found_cell, answer_cell, access_pointer}
use Rattle.cell_nets.specs.declared.operand.Operand.{Operand}
use Rattle.cell_nets.specs.Operands.{number_in}
use Rattle.overlay_net.specs.declared.site_operands.SiteNets.{SiteNets}
use Rattle.overlay_net.specs.SiteOperands.Pointers.{pointer_number}

-- without the places in memory where they lie
pub record SiteOperands (N : Type 0) : Type 0 where
  pub guard : Operand N
  pub key : List (Operand N)
  pub operands : List (Operand N)
  pub found : Operand N
  pub answer : Operand N
  pub pointer : Operand N

abbrev pub operands_of : {N : Type 0} → SiteNets N → SiteOperands N
operands_of s = record { guard = s.guard; key = s.key.items; operands = s.operands.items; found = s.found; answer = s.answer; pointer = s.pointer }

-- all of them
abbrev pub all_of : {N : Type 0} → SiteOperands N → List (Operand N)
all_of s = s.guard ∷ s.found ∷ s.answer ∷ s.pointer ∷ s.key ++ s.operands

-- what a site asks: its key, its operands and the pointer that it goes through
pub record ShowsAsked {N : Type 0} (v : Env N) (p : ProgramView) (h : StageValues) (j : ℕ) (s : SiteOperands N) : Type 0 where
  pub key : map_list (number_in v) s.key ≡ map_list (stage_value h) (site_at p.sites j).key
  pub operands : map_list (number_in v) s.operands ≡ map_list (stage_value h) (site_at p.sites j).operands
  pub pointer : number_in v s.pointer ≡ pointer_number (access_pointer h (site_at p.sites j))

-- besides whether it is on the path, and what its reads found
pub record ShowsSite {N : Type 0} (v : Env N) (p : ProgramView) (h : StageValues) (j : ℕ) (s : SiteOperands N) : Type 0 where
  pub asked : ShowsAsked v p h j s
  pub guard : number_in v s.guard ≡ stage_value h (site_at p.sites j).guard
  pub found : number_in v s.found ≡ pointer_number (pointer_in h (found_cell p.cells j))
  pub answer : number_in v s.answer ≡ stage_value h (answer_cell p.cells j)
