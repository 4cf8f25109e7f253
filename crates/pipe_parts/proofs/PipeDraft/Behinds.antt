-- What stands after a place, where it is said with other words for the same.
use Rattle.std.proofs.Common.{◌≡◌, ℕ, List, subst, Option}
use Rattle.block_core.specs.declared.name.Name.{Name}
use Rattle.hazard_core.specs.cell_core.Cells.{CellView}
use Rattle.overlay_net.specs.cell_nets.declared.operand.Operand.{Operand}
use Rattle.stage_net.specs.declared.site_table.tables.StageTables.{StageTables}
use Rattle.stage_net.specs.SiteTable.Tables.{AreBehind}
use Rattle.pipe_net.specs.declared.parts.Part.{Part}

abbrev Table : Type 0
Table = List (Option (Operand (Name Part)))

pub behind_as :
    (q r : Part) (cs ds : List CellView) (bits : ℕ) (held1 held2 pointers1 pointers2 : List ℕ) (constants1 constants2 plain1 plain2 : Table) (t : StageTables (Name Part)) → q ≡ r → cs ≡ ds → held1 ≡ held2 → pointers1 ≡ pointers2 → constants1 ≡ constants2
    → plain1 ≡ plain2 → AreBehind q cs bits held1 pointers1 constants1 plain1 t → AreBehind r ds bits held2 pointers2 constants2 plain2 t
behind_as q r cs ds bits held1 held2 pointers1 pointers2 constants1 constants2 plain1 plain2 t e f g h i j b =
    subst (λ x. AreBehind x ds bits held2 pointers2 constants2 plain2 t) e
    (subst (λ x. AreBehind q x bits held2 pointers2 constants2 plain2 t) f
    (subst (λ x. AreBehind q cs bits x pointers2 constants2 plain2 t) g
    (subst (λ x. AreBehind q cs bits held1 x constants2 plain2 t) h (subst (λ x. AreBehind q cs bits held1 pointers1 x plain2 t) i (subst (λ x. AreBehind q cs bits held1 pointers1 constants1 x t) j b)))))
