-- What is kept of a frame shows the cell that it is kept for.
use Rattle.std.specs.Prelude.{Contains, ◌/◌}
use Rattle.std.proofs.Common.{◌≡◌, true, Some, List, refl, arith}
use Rattle.hazard_core.specs.cell_core.declared.operator.Operator.{Operator}
use Rattle.hazard_core.specs.cell_core.declared.operator.Operator.TheVariants.{Byte, Length, Ifindex, Time}
use Rattle.hazard_core.specs.cell_core.Formed.{IsInRange}
use Rattle.frame_net.specs.declared.held.Kept.{Kept}
use Rattle.frame_net.specs.declared.held.Kept.TheVariants as kept
use Rattle.row_net.specs.PlaceNet.Sources.{IsShown}
use Rattle.pipe_parts.specs.PipeDraft.Sources.{comes, kept_for}

pub shown_of : (list : List Kept) (op : Operator) → comes op ≡ true → IsInRange op → ((what : Kept) → kept_for op ≡ Some what → Contains list what) → IsShown list op
shown_of list (Byte i) o w h = (omega (arith, w), h (kept.Word (i / 8)) refl)
shown_of list Length o w h = tt
shown_of list Ifindex o w h = h kept.Ifindex refl
shown_of list Time o w h = h kept.Time refl
shown_of list op o w h = cc
