-- Designs of which some expressions have become wires, so that wires have other numbers.
use Rattle.std.specs.Prelude.{◌≡◌, ℕ, ◌<◌, ◌≤◌, false, List, [], ◌∷◌, length, take}
use Rattle.std.proofs.Common.{get_or}
use Rattle.net_core.specs.declared.tree.Net.{Net}
use Rattle.net_core.specs.declared.tree.Net.TheVariants.{Port, Register, Memory, Wire}
use Rattle.net_core.specs.Nets.{WireTree, AssignTree, Netlist}
use Rattle.net_core.specs.Value.{nothing, Env, value, right_value, stops}
use Rattle.net_core.specs.Clock.{Stored, edge}
use Rattle.design_rules.specs.SolvedWires.Solving.{Solves}

-- In the first values wires have these numbers, which are solved, and in the second ones those that they had before.
pub record Stand (numbers : List ℕ) (wires : List WireTree) (v u : Env Net) : Type 0 where
  pub placed : (i : ℕ) → i < length numbers → v.net (Wire (get_or numbers i 0)) ≡ u.net (Wire i)
  pub beyond : (i : ℕ) → length numbers ≤ i → u.net (Wire i) ≡ nothing
  pub ports : (i : ℕ) → v.net (Port i) ≡ u.net (Port i)
  pub registers : (i : ℕ) → v.net (Register i) ≡ u.net (Register i)
  pub memories : (i : ℕ) → v.net (Memory i) ≡ nothing
  pub memories_before : (i : ℕ) → u.net (Memory i) ≡ nothing
  pub words : (m : Net) (a : ℕ) → v.memory_word m a ≡ u.memory_word m a
  pub solved : Solves v 0 wires

-- right sides of these values, wire by wire, at these numbers
abbrev pub ArePlaced : Env Net → Env Net → List ℕ → List WireTree → Type 0
ArePlaced v u [] [] = Unit {0}
ArePlaced v u [] (w ∷ ws) = ⊥
ArePlaced v u (n ∷ ns) [] = ⊥
ArePlaced v u (n ∷ ns) (w ∷ ws) = (right_value u w.right ≡ v.net (Wire n)) × ArePlaced v u ns ws

-- no divisor of these is zero
abbrev pub NoneStops : Env Net → List WireTree → Type 0
NoneStops v [] = Unit {0}
NoneStops v (w ∷ ws) = (stops v w.right ≡ false) × NoneStops v ws

-- outputs of these values, one by one
abbrev pub AreShown : Env Net → Env Net → List AssignTree → List AssignTree → Type 0
AreShown v u [] [] = Unit {0}
AreShown v u [] (b ∷ more) = ⊥
AreShown v u (a ∷ rest) [] = ⊥
AreShown v u (a ∷ rest) (b ∷ more) = (b.port ≡ a.port) × (value v b.value ≡ value u a.value) × AreShown v u rest more

-- The second design has the wires of the first one at some numbers, and shows and stores the same.
pub record IsShared (a b : Netlist) : Type 0 where
  pub numbers : List ℕ
  pub declared : b.declared ≡ a.declared
  pub placed : (v u : Env Net) → Stand numbers b.wires v u → ArePlaced v u numbers a.wires
  pub goes : (v u : Env Net) → Stand numbers b.wires v u → NoneStops u a.wires → NoneStops v b.wires
  pub shows : (v u : Env Net) → Stand numbers b.wires v u → AreShown v u a.assigns b.assigns
  pub stores : (v u : Env Net) (s : Stored) → Stand numbers b.wires v u → edge v b.always s ≡ edge u a.always s

-- So many of the wires stand at their numbers before a place of the table, in which all others are plain.
pub record AreBefore (numbers : List ℕ) (table wires : List WireTree) (place next : ℕ) : Type 0 where
  pub few : next ≤ length wires
  pub few_numbers : next ≤ length numbers
  pub placed : (v u : Env Net) → Stand numbers table v u → ArePlaced v u (take next numbers) (take next wires)
  pub goes : (v u : Env Net) → Stand numbers table v u → NoneStops u (take next wires) → NoneStops v (take place table)
