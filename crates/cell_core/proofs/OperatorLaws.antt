-- Cells that read a map, and those that do not.
use Rattle.std.proofs.Common.{◌≡◌, ℕ, Bool, true, false, Some, None, refl}
use Rattle.xdp_state.specs.xdp_machine.State.{PacketIn}
use Rattle.cell_core.specs.declared.operator.Operator.{Operator}
use Rattle.cell_core.specs.declared.operator.Operator.TheVariants.{Found, Answer}
use Rattle.cell_core.specs.Cells.{CellView, Solves_as, is_read, site_in, value}

-- ---- what reads names a site
pub site_of_read : (op : Operator) → is_read op ≡ true → (j : ℕ) × (site_in op ≡ Some j)
site_of_read (Found i) e = (i, refl)
site_of_read (Answer i) e = (i, refl)
site_of_read op e = absurd cc

pub read_of_site : (op : Operator) (j : ℕ) → site_in op ≡ Some j → is_read op ≡ true
read_of_site (Found i) j e = refl
read_of_site (Answer i) j e = refl
read_of_site op j e = absurd cc

-- ---- what does not read names none
pub none_of_plain : (op : Operator) → is_read op ≡ false → site_in op ≡ None
none_of_plain (Found i) e = absurd cc
none_of_plain (Answer i) e = absurd cc
none_of_plain op e = refl

pub plain_when : (op : Operator) → site_in op ≡ None → is_read op ≡ false
plain_when (Found j) e = absurd (cc)
plain_when (Answer j) e = absurd (cc)
plain_when op e = refl

-- and is computed
pub value_of_plain : (b : Bool) (packet : PacketIn) (v : ℕ → ℕ) (c : CellView) (x : ℕ) → b ≡ false → Solves_as b packet v c x → x ≡ value packet v c
value_of_plain true packet v c x e h = absurd cc
value_of_plain false packet v c x e h = h
