-- What is added for an operation on a map: a site, the cells that read it, and for a lookup a pointer.
use Rattle.std.specs.Prelude.{ℕ, ◌≡◌, ◌+◌, ◌<◌, ◌≤◌, ◌⊎◌, List, [], ◌∷◌, ◌++◌, length}
use Rattle.cell_core.specs.declared.operator.Operator.{Operator}
use Rattle.cell_core.specs.declared.operator.Operator.TheVariants.{Found, Answer}
use Rattle.cell_core.specs.declared.site.Act.{Act}
use Rattle.cell_core.specs.declared.site.Act.TheVariants as act
use Rattle.cell_core.specs.Cells.{CellView, cell_at}
use Rattle.cell_core.specs.Sites.{SiteView}
use Rattle.cell_core.specs.Rows.{greatest}
use Rattle.operator_cells.specs.Making.{GrowsWith}
use Rattle.operator_cells.specs.Rising.{Rises}
use Rattle.operator_cells.specs.HeldCells.RegisterCells.{PointerView}
use Rattle.site_cells.specs.declared.here.Here.{Here}

-- a cell reads the next site
abbrev pub ReadsNext : List SiteView → ℕ → ℕ → Type 0
ReadsNext sites c j = j ≡ length sites

-- Cell c reads a site, after these cells: what it looks at, and the writes of its map that come before.
pub record IsReadOf (cells : List CellView) (c : ℕ) (op : Operator) (ins : List ℕ) (width : ℕ) : Type 0 where
  pub there : c < length cells
  pub is : cell_at cells c ≡ record { op = op; ins = ins; width = width; from = 0 }

abbrev pub lookup_site : Here → ℕ → List ℕ → SiteView
lookup_site here map key = record { node = here.node; map = map; guard = here.guard; act = act.Lookup; key = key; operands = [] }

-- A lookup: its site, a cell that tells whether the key is there, and the pointer of both.
pub record LooksUp (old new : List CellView) (ps qs : List PointerView) (sites sites2 : List SiteView) (here : Here) (map : ℕ) (key : List ℕ) (c : ℕ) : Type 0 where
  pub grows : GrowsWith (ReadsNext sites) old new
  pub found : ℕ
  pub reads : IsReadOf new found (Found (length sites)) (key ++ here.pending ∷ []) 1
  -- the only new cell
  pub only : (d : ℕ) → length old ≤ d → d < length new → d ≡ found
  pub rises : Rises old new found (λ row. greatest row (key ++ here.pending ∷ []) + 1)
  pub number_is : c ≡ length ps
  pub pointers_are : qs ≡ ps ++ (record { found = found; key = key }) ∷ []
  pub sites_are : sites2 ≡ sites ++ lookup_site here map key ∷ []

-- an access through a pointer: under its key, the cell that tells whether its lookup found it as the last operand
abbrev pub access_site : Here → ℕ → Act → PointerView → List ℕ → SiteView
access_site here map a p operands = record { node = here.node; map = map; guard = here.guard; act = a; key = p.key; operands = operands ++ p.found ∷ [] }

-- An access, and a cell of so many bits of what it answers.
pub record Accesses (old new : List CellView) (sites sites2 : List SiteView) (here : Here) (map : ℕ) (a : Act) (pointer : PointerView) (operands : List ℕ) (c width : ℕ) : Type 0 where
  pub grows : GrowsWith (ReadsNext sites) old new
  pub reads : IsReadOf new c (Answer (length sites)) (pointer.key ++ (operands ++ pointer.found ∷ []) ++ here.pending ∷ []) width
  -- the only new cell
  pub only : (d : ℕ) → length old ≤ d → d < length new → d ≡ c
  pub rises : Rises old new c (λ row. greatest row (pointer.key ++ (operands ++ pointer.found ∷ []) ++ here.pending ∷ []) + 1)
  pub sites_are : sites2 ≡ sites ++ access_site here map a pointer operands ∷ []

-- a change by a helper
abbrev pub change_site : Here → ℕ → Act → List ℕ → List ℕ → SiteView
change_site here map a key operands = record { node = here.node; map = map; guard = here.guard; act = a; key = key; operands = operands }

-- A change: its site, a cell that tells whether the key is there, and one of what the helper answers. Both look at the key and at these operands.
pub record Changes (old new : List CellView) (sites sites2 : List SiteView) (here : Here) (map : ℕ) (a : Act) (key looked operands : List ℕ) (c : ℕ) : Type 0 where
  pub grows : GrowsWith (ReadsNext sites) old new
  pub found : ℕ
  pub finds : IsReadOf new found (Found (length sites)) (key ++ looked ++ here.pending ∷ []) 1
  pub reads : IsReadOf new c (Answer (length sites)) (key ++ looked ++ here.pending ∷ []) 64
  -- the only new cells
  pub only : (d : ℕ) → length old ≤ d → d < length new → (d ≡ found) ⊎ (d ≡ c)
  pub rises : Rises old new c (λ row. greatest row (key ++ looked ++ here.pending ∷ []) + 1)
  pub sites_are : sites2 ≡ sites ++ change_site here map a key operands ∷ []
