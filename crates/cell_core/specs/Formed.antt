-- What cells and sites keep to, whatever their values are.
use Rattle.std.specs.Prelude.{ℕ, ◌≡◌, ◌+◌, ◌*◌, ◌<◌, ◌≤◌, Bool, true, false, Some, List, [], length, slice_index, All, Contains}
use Rattle.std.proofs.Common.{get_or}
use Rattle.xdp_state.specs.xdp_maps.declared.decl.MapDecl.{MapDecl}
use Rattle.xdp_state.specs.xdp_maps.Calls.{change_bytes}
use Rattle.xdp_state.specs.xdp_maps.State.{no_decl}
use Rattle.xdp_state.specs.xdp_machine.Memory.{bytes_in}
use Rattle.cell_core.specs.declared.site.Act.{Act}
use Rattle.cell_core.specs.declared.site.Act.TheVariants as act
use Rattle.cell_core.specs.declared.operator.Operator.{Operator}
use Rattle.cell_core.specs.declared.operator.Operator.TheVariants.{Constant, Byte, Length, Ifindex, Time, Wire, Later, Join, SignExtend, Not, Any, Select, Phi, Quotient, Remainder, NonZero, Found, Answer, Pending}
use Rattle.cell_core.specs.Cells.{site_in, CellView, cell_at}
use Rattle.cell_core.specs.Sites.{SiteView, ProgramView, site_at}

-- how many inputs an operator takes; one that takes all of them takes none in particular
abbrev pub takes : Operator → ℕ
takes (Constant n) = 0
takes (Byte i) = 0
takes Length = 0
takes Ifindex = 0
takes Time = 0
takes Wire = 1
takes Later = 1
takes (Join bits) = 0
takes (SignExtend bits) = 1
takes Not = 1
takes Any = 0
takes Select = 3
takes Phi = 2
takes NonZero = 1
takes (Found site) = 0
takes (Answer site) = 0
takes Pending = 0
takes op = 2

-- what comes with a packet takes no cells, not even for its row
abbrev pub AreInputs : Operator → List ℕ → Type 0
AreInputs (Byte i) ins = ins ≡ []
AreInputs Length ins = ins ≡ []
AreInputs Ifindex ins = ins ≡ []
AreInputs Time ins = ins ≡ []
AreInputs op ins = Unit {0}

-- the numbers of an operator are in their ranges; of a frame only the first 256 bytes are operators
abbrev pub IsInRange : Operator → Type 0
IsInRange (Byte i) = i < 256
IsInRange (Join bits) = bits ≤ 63
IsInRange (SignExtend bits) = (1 ≤ bits) × (bits ≤ 64)
IsInRange op = Unit {0}

-- whether its second input divides
abbrev pub divides : Operator → Bool
divides Quotient = true
divides Remainder = true
divides op = false

-- Cell d is never 0: it is a `NonZero`, and wide enough for what it takes.
pub record IsSome (cells : List CellView) (d : ℕ) : Type 0 where
  pub op : (cell_at cells d).op ≡ NonZero
  pub from : (cell_at cells d).from ≡ 0
  pub wide : 1 ≤ (cell_at cells d).width
  pub fits : (cell_at cells (slice_index (cell_at cells d).ins 0)).width ≤ (cell_at cells d).width

-- Cell k takes earlier cells alone, as many as its operator needs; what divides is never 0, and waits for what it divides, which so stands in an
-- earlier row.
pub record IsFormed (cells : List CellView) (k : ℕ) : Type 0 where
  pub earlier : All (λ i. i < k) (cell_at cells k).ins
  pub enough : takes (cell_at cells k).op ≤ length (cell_at cells k).ins
  pub inputs : AreInputs (cell_at cells k).op (cell_at cells k).ins
  pub in_range : IsInRange (cell_at cells k).op
  pub width : (cell_at cells k).width ≤ 64
  pub from : (cell_at cells k).from ≤ 63
  pub divisor : divides (cell_at cells k).op ≡ true → IsSome cells (slice_index (cell_at cells k).ins 1)
  pub later : divides (cell_at cells k).op ≡ true → Contains (cell_at cells (slice_index (cell_at cells k).ins 1)).ins (slice_index (cell_at cells k).ins 0)

pub record AreFormed (cells : List CellView) : Type 0 where
  pub each : (k : ℕ) → k < length cells → IsFormed cells k

-- ---- sites

-- an access stays inside the value
abbrev pub IsInside : ℕ → Act → Type 0
IsInside value (act.Load at size) = at + bytes_in size ≤ value
IsInside value (act.Store at size) = at + bytes_in size ≤ value
IsInside value (act.Atomic at a) = at + change_bytes a.wide ≤ value
IsInside value a = Unit {0}

-- an update has words enough for its value, after the flags
abbrev pub HasWords : ℕ → Act → ℕ → Type 0
HasWords value act.Update n = value + 8 ≤ 8 * n
HasWords value a n = Unit {0}

pub record FitsMap (decls : List MapDecl) (s : SiteView) : Type 0 where
  pub map : s.map < length decls
  pub key : (get_or decls s.map no_decl).key ≤ 8 * length s.key
  pub value : HasWords (get_or decls s.map no_decl).value s.act (length s.operands)
  pub inside : IsInside (get_or decls s.map no_decl).value s.act

-- sites that fit their maps
abbrev pub AllFit : List MapDecl → List SiteView → Type 0
AllFit decls sites = (j : ℕ) → j < length sites → FitsMap decls (site_at sites j)

-- The site takes cells below k alone.
pub record IsBelow (k : ℕ) (s : SiteView) : Type 0 where
  pub guard : s.guard < k
  pub key : All (λ i. i < k) s.key
  pub operands : All (λ i. i < k) s.operands

-- Sites fit their maps; a read takes no later cell, by its own site or by those before it.
pub record AreSited (decls : List MapDecl) (p : ProgramView) : Type 0 where
  pub fits : AllFit decls p.sites
  pub known : (k j : ℕ) → k < length p.cells → site_in (cell_at p.cells k).op ≡ Some j → j < length p.sites
  pub below : (k j i : ℕ) → k < length p.cells → site_in (cell_at p.cells k).op ≡ Some j → i ≤ j → IsBelow k (site_at p.sites i)
