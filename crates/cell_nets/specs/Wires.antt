-- Wires of a part that stand one after another, and what they give.
use Rattle.std.specs.Prelude.{◌≡◌, ℕ, suc, ◌^◌, ◌<◌, Bool, true, false, All, List, [], ◌∷◌, ◌++◌, map as map_list}
use Rattle.std.specs.List.{list_all}
use Rattle.net_core.specs.Value.{Env}
use Rattle.net_core.specs.Width.{Scope}
use Rattle.block_core.specs.design_rules.FormedSyntax.{right_spelled}
use Rattle.block_core.specs.declared.name.Name.{Name}
use Rattle.block_core.specs.declared.name.Name.TheVariants as name
use Rattle.block_core.specs.declared.block.BlockWire.{BlockWire}
use Rattle.block_core.specs.Blocks.{BlockWireTree, Whole}
use Rattle.block_core.specs.Formed.{block_wires_typed}
use Rattle.block_core.specs.Order.{IsBefore, InOrder}
use Rattle.block_core.specs.Parts.{Solve, Goes}
use Rattle.block_core.specs.View.{block_wire_of}
use Rattle.cell_nets.specs.declared.operand.Operand.{Operand}
use Rattle.cell_nets.specs.declared.operand.Operand.TheVariants.{Known, Net, Part}
use Rattle.cell_nets.specs.Apart.{StayApart}
use Rattle.cell_nets.specs.Operands.{number_in, IsOperand, AreFit, AreDeclared, IsAvailable, IsNetOf}

-- wires in memory
abbrev pub wires_of : {N : Type 0} → List (BlockWire N) → List (BlockWireTree N)
wires_of ws = map_list block_wire_of ws

-- the wires of a part, from a number on, as operands
abbrev pub own : {P : Type 0} → P → ℕ → List (BlockWireTree (Name P)) → List (Operand (Name P))
own p at [] = []
own p at (w ∷ ws) = Net (name.Wire p at) w.width ∷ own p (suc at) ws

-- what a wire after others may read: what comes from outside, and those
abbrev pub behind : {P : Type 0} → P → List (Operand (Name P)) → List (BlockWireTree (Name P)) → List (Operand (Name P))
behind p outside ws = outside ++ own p 0 ws

abbrev pub is_spelled : {N : Type 0} → BlockWireTree N → Bool
is_spelled w = right_spelled w.right

-- All wires of a part, over what comes from outside. Where this has numbers of its widths and each wire the value of its right side, so
-- do the wires, and no divisor is 0. They are well typed wherever all is declared, each reads earlier ones, and a text can spell them.
pub record AreWires {P : Type 0} (p : P) (outside : List (Operand (Name P))) (ws : List (BlockWireTree (Name P))) : Type 0 where
  pub fits : (v : Env (Name P)) → AreFit v outside → Solve v p 0 ws → AreFit v (behind p outside ws)
  pub goes : (v : Env (Name P)) → AreFit v outside → Solve v p 0 ws → Goes v ws
  pub typed : (s : Scope (Name P)) → AreDeclared s (behind p outside ws) → block_wires_typed s ws ≡ true
  pub ordered : (d : Whole P) (before : List P) → ((n : Name P) → IsNetOf outside n → IsBefore d before p 0 n) → InOrder d before p 0 ws
  pub spelled : list_all is_spelled ws ≡ true

-- an operand of so many bits
abbrev pub HasBits : {N : Type 0} → ℕ → Operand N → Type 0
HasBits w (Known n) = n < 2 ^ w
HasBits w (Net n u) = u ≡ w
HasBits w (Part n of from u) = u ≡ w

-- After these wires an operand is there, of this value where a condition holds.
pub record IsGiven {P : Type 0} (p : P) (outside : List (Operand (Name P))) (ws : List (BlockWireTree (Name P))) (needs : Env (Name P) → Type 0) (f : Env (Name P) → ℕ) (out : Operand (Name P)) : Type 0 where
  pub wires : AreWires p outside ws
  pub there : IsAvailable (behind p outside ws) out
  pub value : (v : Env (Name P)) → AreFit v outside → Solve v p 0 ws → needs v → number_in v out ≡ f v

-- Wires become more: whatever comes from outside, after them stands an operand of so many bits, of this value, and products among them stay apart.
pub record GivesBy {P : Type 0} (product : Bool) (p : P) (old new : List (BlockWireTree (Name P))) (args : List (Operand (Name P))) (needs : Env (Name P) → Type 0) (f : Env (Name P) → ℕ) (width : ℕ) (out : Operand (Name P)) : Type 0 where
  pub before : (v : Env (Name P)) → Solve v p 0 new → Solve v p 0 old
  pub stays : (outside : List (Operand (Name P))) (a : Operand (Name P)) → IsAvailable (behind p outside old) a → IsAvailable (behind p outside new) a
  pub operand : IsOperand out
  pub bits : HasBits width out
  pub given : (outside : List (Operand (Name P))) → AreWires p outside old → All (IsAvailable (behind p outside old)) args → IsGiven p outside new needs f out
  pub apart : StayApart product p old new args (out ∷ [])

-- none of them is a product
abbrev pub Gives : {P : Type 0} → P → List (BlockWireTree (Name P)) → List (BlockWireTree (Name P)) → List (Operand (Name P)) → (Env (Name P) → Type 0) → (Env (Name P) → ℕ) → ℕ → Operand (Name P) → Type 0
Gives p old new args needs f width out = GivesBy false p old new args needs f width out

-- no condition
abbrev pub always : {N : Type 0} → Env N → Type 0
always v = Unit {0}
