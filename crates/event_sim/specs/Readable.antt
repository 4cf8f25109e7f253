-- Trees that have a width where nets have the widths of some scope, so that they can be evaluated.
use Rattle.std.specs.Prelude.{◌≡◌, ℕ, ◌+◌, ◌<◌, ◌≤◌, true, List, length}
use Rattle.std.proofs.Common.{get_or}
use Rattle.net_core.specs.declared.tree.Net.{Net}
use Rattle.net_core.specs.declared.tree.Op.{Op}
use Rattle.net_core.specs.declared.tree.Word.{Word}
use Rattle.net_core.specs.Nets.{Tree, Trees, RightTree, StatementTree, SBlock, SEnd, StatementTrees}
use Rattle.net_core.specs.Value.{Env}
use Rattle.net_core.specs.Width.{Fits, Scope, op_width, part_select_width, width_of, parts_width, right_width, statement_typed, statements_typed}
use Rattle.net_core.specs.Suits.{Suits}

-- ---- operands
pub record AreOperands (op : Op) (a b : Word) : Type 0 where
  pub left : Fits a
  pub right : Fits b
  pub typed : 0 < op_width op a.width b.width

pub record IsSelected (w : Word) (high low : ℕ) : Type 0 where
  pub fits : Fits w
  pub typed : 0 < part_select_width w.width high low

pub record AreJoined (a b : Word) : Type 0 where
  pub left : Fits a
  pub right : Fits b
  pub most : a.width + b.width ≤ 64

-- ---- trees
pub record IsReadable (v : Env Net) (e : Tree Net) : Type 0 where
  pub scope : Scope Net
  pub suits : Suits scope v
  pub typed : 0 < width_of scope e

pub record AreReadable (v : Env Net) (ps : Trees Net) : Type 0 where
  pub scope : Scope Net
  pub suits : Suits scope v
  pub typed : 0 < parts_width scope ps

pub record IsRight (v : Env Net) (r : RightTree Net) : Type 0 where
  pub scope : Scope Net
  pub suits : Suits scope v
  pub typed : 0 < right_width scope r

-- ---- statements
pub record IsStatement (v : Env Net) (a : StatementTree Net) : Type 0 where
  pub scope : Scope Net
  pub registers : List ℕ
  pub memories : List (ℕ × ℕ)
  pub suits : Suits scope v
  pub typed : statement_typed scope registers memories a ≡ true

pub record AreStatements (v : Env Net) (more : StatementTrees Net) : Type 0 where
  pub scope : Scope Net
  pub registers : List ℕ
  pub memories : List (ℕ × ℕ)
  pub suits : Suits scope v
  pub typed : statements_typed scope registers memories more ≡ true

abbrev pub AreBlocks : Env Net → List (StatementTree Net) → Type 0
AreBlocks v blocks = (k : ℕ) → k < length blocks → IsStatement v (get_or blocks k (SBlock SEnd))
