-- What makes a linked design well formed, block by block.
use Rattle.std.specs.Prelude.{◌≡◌, ℕ, ◌+◌, ◌^◌, ◌<◌, ◌==◌, Bool, true, false, ◌&&◌, ◌||◌, List, [], ◌∷◌, ◌++◌, length, IsTrue}
use Rattle.std.specs.List.{list_all, list_any}
use Rattle.std.specs.Str.{bytes_eq}
use Rattle.std.proofs.Common.{not}
use Rattle.net_core.specs.Ports as ports
use Rattle.block_core.specs.declared.name.Name.{Name}
use Rattle.block_core.specs.Blocks.{BlockWireTree, OutputTree, Whole, Among}
use Rattle.block_core.specs.Link.{all_registers, all_memories, all_wires, net_names, link}
use Rattle.block_core.specs.Formed.{IsFormed}
use Rattle.design_rules.specs.FormedSyntax.{is_name, tree_spelled, right_spelled, statement_spelled}
use Rattle.design_rules.specs.Formed.{IsWellFormed}

abbrev pub wire_spelled : {N : Type 0} → BlockWireTree N → Bool
wire_spelled w = right_spelled w.right

abbrev pub output_spelled : {N : Type 0} → OutputTree N → Bool
output_spelled o = tree_spelled o.value

abbrev pub is_shown : {N : Type 0} → List (OutputTree N) → ℕ → Bool
is_shown [] port = false
is_shown (o ∷ os) port = (o.port == port) || is_shown os port

-- no output is shown twice, after those that stand before
abbrev pub shown_once : {N : Type 0} → List (OutputTree N) → List (OutputTree N) → Bool
shown_once before [] = true
shown_once before (o ∷ os) = not (is_shown before o.port) && shown_once (before ++ o ∷ []) os

-- the grammar can spell each tree, and each output has one assignment
pub record IsSpelled {P : Type 0} (d : Whole P) (outputs : List (OutputTree (Name P))) : Type 0 where
  pub wires : (p : P) → Among p d.parts → IsTrue (list_all wire_spelled (d.block p).wires)
  pub statements : (p : P) → Among p d.parts → IsTrue (statement_spelled (d.block p).statement)
  pub shows : IsTrue (list_all output_spelled outputs)
  pub once : IsTrue (shown_once [] outputs)

-- ---- names
-- each is a name, and none of those before it
abbrev pub all_new : List (List ℕ) → List (List ℕ) → Bool
all_new before [] = true
all_new before (x ∷ xs) = is_name x && (not (list_any (bytes_eq x) before) && all_new (before ++ x ∷ []) xs)

-- Names of the integer, the registers, the memories and the wires: one for each, all new after those of the ports.
pub record AreNames {P : Type 0} (d : Whole P) (names : List (List ℕ)) : Type 0 where
  pub count : length names ≡ 1 + (length (all_registers d d.parts) + (length (all_memories d d.parts) + length (all_wires d d.parts)))
  pub new : IsTrue (all_new ports.port_names names)

abbrev pub LinkedIsWellFormed : (P : Type 0) → Type 0
LinkedIsWellFormed P = (d : Whole P) (names : List (List ℕ)) (outputs : List (OutputTree (Name P)))
    → IsFormed d ports.port_list outputs → IsSpelled d outputs → AreNames d names → IsWellFormed (link d (ports.port_names ++ names) ports.port_list outputs)

-- numbers of nets are below 2 to the power 64
pub record HasFewNets {P : Type 0} (d : Whole P) : Type 0 where
  pub registers : length (all_registers d d.parts) < 2 ^ 64
  pub memories : length (all_memories d d.parts) < 2 ^ 64
  pub wires : length (all_wires d d.parts) < 2 ^ 64

abbrev pub NumbersAreNames : (P : Type 0) → Type 0
NumbersAreNames P = (d : Whole P) → HasFewNets d → AreNames d (net_names (length (all_registers d d.parts)) (length (all_memories d d.parts)) (length (all_wires d d.parts)))
