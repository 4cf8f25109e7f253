-- Orders of nets and of always blocks.
use Rattle.std.specs.Prelude.{◌≡◌, ℕ, ◌+◌, ◌*◌, ◌^◌, ◌<◌, List, length, map, Contains}
use Rattle.std.specs.List.Sorted.{IsNonDecreasingBy}
use Rattle.std.proofs.Common.{get_or}
use Rattle.net_core.specs.declared.tree.Word.{Word}
use Rattle.net_core.specs.declared.tree.Net.{Net}
use Rattle.net_core.specs.Nets.{StatementTree, SBlock, SEnd, Netlist}
use Rattle.net_core.specs.Clock.{Stored, env_of, edge, after}

-- each number below n once: there are n of them, and each is among them
pub record IsOrder (n : ℕ) (order : List ℕ) : Type 0 where
  pub count : length order ≡ n
  pub each : (k : ℕ) → k < n → Contains order k

-- the blocks of these numbers
abbrev pub blocks_in : List ℕ → List (StatementTree Net) → List (StatementTree Net)
blocks_in order blocks = map (λ k. get_or blocks k (SBlock SEnd)) order

-- The always blocks in any order give the registers and memories of the clock.
abbrev pub ClocksInAnyOrder : Netlist → List Word → Stored → Type 0
ClocksInAnyOrder d ins s = (order : List ℕ) → IsOrder (length d.always) order → edge (env_of d ins s) (blocks_in order d.always) s ≡ after d ins s

-- the draw of a place, and then the place
abbrev pub rank : List ℕ → ℕ → ℕ
rank draws place = get_or draws place 0 * 2 ^ 32 + place

-- places by their draws, and those of one draw as they stand
abbrev pub IsByDraws : List ℕ → List ℕ → Type 0
IsByDraws draws order = IsNonDecreasingBy (rank draws) order
