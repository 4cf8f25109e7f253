-- The nets of cells that come with a packet.
use Rattle.std.specs.Prelude.{◌≡◌, ℕ, ◌<◌, List, [], length}
use Rattle.std.proofs.Common.{get_or}
use Rattle.beat_core.specs.Ports.{Arrival}
use Rattle.block_core.specs.declared.name.Name.{Name}
use Rattle.block_core.specs.Blocks.{BlockWireTree}
use Rattle.overlay_net.specs.cell_core.declared.operator.Operator.{Operator}
use Rattle.overlay_net.specs.cell_core.declared.operator.Operator.TheVariants.{Byte, Length, Ifindex}
use Rattle.overlay_net.specs.cell_core.Cells.{number}
use Rattle.cell_nets.specs.declared.operand.Operand.{Operand}
use Rattle.cell_nets.specs.declared.operand.Operand.TheVariants.{Net}
use Rattle.cell_nets.specs.Wires.{Gives}
use Rattle.frame_net.specs.declared.held.Kept.{Kept}
use Rattle.frame_net.specs.Gather.{kept_width}
use Rattle.frame_net.specs.Sources.{kept_name}
use Rattle.row_net.specs.PlaceNet.Sources.{packet_in, source_operands, IsShownIn}

-- the net of something that is kept
pub record IsKeptNet {P : Type 0} (sources : P) (list : List Kept) (what : Kept) (a : Operand (Name P)) : Type 0 where
  pub place : ℕ
  pub below : place < length list
  pub here : get_or list place what ≡ what
  pub is : a ≡ Net (kept_name sources place) (kept_width what)

-- how many bits the number of an operator has
abbrev pub number_width : Operator → ℕ
number_width (Byte i) = 8
number_width Length = 14
number_width Ifindex = 32
number_width op = 64

-- Wires become more, and after them an operand has the number of an operator, for any frame that is shown.
abbrev pub GivesNumber : {P : Type 0} → P → P → List Kept → Operator → List (BlockWireTree (Name P)) → List (BlockWireTree (Name P)) → Operand (Name P) → Type 0
GivesNumber p sources list op old new out =
    (a : Arrival) → Gives p old new (source_operands sources list) (λ v. IsShownIn sources list v a) (λ v. number (packet_in a) op []) (number_width op) out
