-- Where statements set registers, and to what.
use Rattle.std.specs.Prelude.{◌≡◌, ◌==◌, ℕ, suc, ◌<◌, List, [], ◌∷◌, ◌++◌, length, map as map_list}
use Rattle.std.specs.List.{filter}
use Rattle.std.proofs.Common.{get_or}
use Rattle.std.specs.declared.alloc.Global.{Global}
use Rattle.std.specs.declared.vec.Vec.{Vec}
use Rattle.net_core.specs.declared.tree.Net.{Net}
use Rattle.net_core.specs.Nets.{Tree, StatementTree, SBlock, SIf, SIfElse, SSet, SStore, StatementTrees, SEnd, SThen}
use Rattle.net_core.specs.View.{tree_of}
use Rattle.net_core.specs.Value.{nothing, Env, value}
use Rattle.net_core.specs.Clock.{Stored}
use Rattle.register_rules.specs.declared.equal_registers.settings.Setting.{Setting}

-- both registers are declared, and hold the same
pub record HoldTheSame (j k : ℕ) (s : Stored) : Type 0 where
  pub first : j < length s.registers
  pub second : k < length s.registers
  pub same : get_or s.registers j nothing ≡ get_or s.registers k nothing

-- a register is set at a place to the value of a tree
pub record SettingTree : Type 0 where
  pub register : ℕ
  pub place : ℕ
  pub value : Tree Net

abbrev pub setting_of : Setting → SettingTree
setting_of s = record { register = s.register; place = s.place; value = tree_of s.value.now }

-- The place behind a statement that begins at a place. What is set at one place is set under the same conditions.
abbrev mutual
  pub behind : ℕ → StatementTree Net → ℕ
  behind p (SBlock more) = suc (all_behind (suc p) more)
  behind p (SIf c a) = suc (behind (suc p) a)
  behind p (SIfElse c a b) = suc (behind (suc (behind (suc p) a)) b)
  behind p (SSet r e) = p
  behind p (SStore m i e) = p

  pub all_behind : ℕ → StatementTrees Net → ℕ
  all_behind p SEnd = p
  all_behind p (SThen a more) = all_behind (behind p a) more

-- what a statement that begins at a place sets
abbrev mutual
  pub settings : ℕ → StatementTree Net → List SettingTree
  settings p (SBlock more) = all_settings (suc p) more
  settings p (SIf c a) = settings (suc p) a
  settings p (SIfElse c a b) = settings (suc p) a ++ settings (suc (behind (suc p) a)) b
  settings p (SSet r e) = record { register = r; place = p; value = e } ∷ []
  settings p (SStore m i e) = []

  pub all_settings : ℕ → StatementTrees Net → List SettingTree
  all_settings p SEnd = []
  all_settings p (SThen a more) = settings p a ++ all_settings (behind p a) more

-- what always blocks set
abbrev pub block_settings : ℕ → List (StatementTree Net) → List SettingTree
block_settings p [] = []
block_settings p (a ∷ rest) = settings p a ++ block_settings (suc (behind p a)) rest

-- what is set of one register
abbrev pub of_register : ℕ → List SettingTree → List SettingTree
of_register k xs = filter (λ x. x.register == k) xs

-- the list of a register's number
abbrev pub list_at : List (Vec Setting Global) → ℕ → List SettingTree
list_at lists k = get_or (map_list (λ l. map_list setting_of l.items) lists) k []

-- so many registers have these lists of what is set of each
pub record AreListed (count : ℕ) (lists : List (Vec Setting Global)) (sets : List SettingTree) : Type 0 where
  pub count_is : length lists ≡ count
  pub each : (k : ℕ) → k < count → list_at lists k ≡ of_register k sets

-- at one place, to one value
abbrev pub IsSetAlike : Env Net → SettingTree → SettingTree → Type 0
IsSetAlike v x y = (x.place ≡ y.place) × (value v x.value ≡ value v y.value)
