-- What an expression over the nets of operands is to be: of one width, with a value, and such that a text can spell it.
use Rattle.std.specs.Prelude.{◌≡◌, ℕ, ◌+◌, ◌-◌, ◌≤◌, ◌==◌, Bool, true, false, if◌then◌else◌, List, map as map_list}
use Rattle.net_core.specs.Nets.{Tree, TRead, TBit, TPartSelect}
use Rattle.net_core.specs.Value.{Env, value, word}
use Rattle.net_core.specs.Width.{Scope, width_of}
use Rattle.block_core.specs.design_rules.FormedSyntax.{depth, is_prefixed, prefixes_apart, tree_spelled}
use Rattle.net_core.specs.ProductRules.Products.{has_product, is_flat}
use Rattle.block_core.specs.Order.{Reads}
use Rattle.cell_core.specs.xdp_machine.State.{PacketIn}
use Rattle.cell_core.specs.declared.operator.Operator.{Operator}
use Rattle.cell_core.specs.Cells.{number, bits_from}
use Rattle.cell_nets.specs.declared.operand.Operand.{Operand}
use Rattle.cell_nets.specs.Operands.{number_in, AreFit, AreDeclared, IsNetOf}

-- An expression over the nets of operands: where these are declared it is well typed and of this width, its value is `f`, it nests
-- no deeper, it can be spelled, and no product stands in it.
pub record IsPart {N : Type 0} (ins : List (Operand N)) (deep width : ℕ) (f : Env N → ℕ) (t : Tree N) : Type 0 where
  pub typed : (s : Scope N) → AreDeclared s ins → width_of s t ≡ width
  pub value : (v : Env N) → AreFit v ins → value v t ≡ word width (f v)
  pub reads : Reads (IsNetOf ins) t
  pub depth : depth t ≤ deep
  pub apart : prefixes_apart t ≡ true
  pub no_product : has_product (λ n. false) t ≡ false

-- one that may stand after a prefix
pub record IsSlice {N : Type 0} (ins : List (Operand N)) (deep width : ℕ) (f : Env N → ℕ) (t : Tree N) : Type 0 where
  pub part : IsPart ins deep width f t
  pub bare : is_prefixed t ≡ false

-- What is right of a wire: where the nets of the operands are declared it is well typed and of this width, its value is `f`, it reads
-- no other nets, it can be spelled, and no product stands in an operand of another where none makes those nets. Without `product` none stands in it.
pub record ComputesBy {N : Type 0} (product : Bool) (ins : List (Operand N)) (width : ℕ) (f : Env N → ℕ) (t : Tree N) : Type 0 where
  pub typed : (s : Scope N) → AreDeclared s ins → width_of s t ≡ width
  pub value : (v : Env N) → AreFit v ins → value v t ≡ word width (f v)
  pub reads : Reads (IsNetOf ins) t
  pub spelled : tree_spelled t ≡ true
  pub flat : (made : N → Bool) → ((n : N) → IsNetOf ins n → made n ≡ false) → is_flat made t ≡ true
  pub no_product : product ≡ false → has_product (λ n. false) t ≡ false

-- no product
abbrev pub Computes : {N : Type 0} → List (Operand N) → ℕ → (Env N → ℕ) → Tree N → Type 0
Computes ins width f t = ComputesBy false ins width f t

-- the value of an operator on operands, in so many bits
abbrev pub worth : {N : Type 0} → PacketIn → Operator → List (Operand N) → ℕ → Env N → ℕ
worth packet op args width v = bits_from (number packet op (map_list (number_in v) args)) 0 width

-- bits of a net of `of` bits
abbrev pub part_tree : {N : Type 0} → N → ℕ → ℕ → ℕ → Tree N
part_tree n of from width = if width == of then TRead n else if width == 1 then TBit n from else TPartSelect n (from + width - 1) from
