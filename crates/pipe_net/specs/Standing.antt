-- What stands at a place for the cells of its packet.
use Rattle.std.specs.Prelude.{◌≡◌, ℕ, suc, ◌≤◌, ◌++◌, Some, All, List, length}
use Rattle.block_core.specs.net_core.Value.{Env}
use Rattle.block_core.specs.declared.name.Name.{Name}
use Rattle.hazard_core.specs.StageValues.{StageValues, stage_value, pointer_in}
use Rattle.turn_net.specs.cell_nets.declared.operand.Operand.{Operand}
use Rattle.turn_net.specs.cell_nets.Operands.{IsOperand, IsAvailable}
use Rattle.pipe_core.specs.Machine.{Packet, State, place_at}
use Rattle.read_net.specs.overlay_net.SiteOperands.Sites.{SiteOperands, all_of, ShowsSite}
use Rattle.stage_net.specs.row_net.PlaceNet.Place.{registers_from}
use Rattle.stage_net.specs.row_net.SitePlace.SitePlace.{site_words, pointer_registers}
use Rattle.stage_net.specs.SiteTable.Constants.{HoldsConstants}
use Rattle.stage_net.specs.SiteTable.Tables.{ShowsWords}
use Rattle.hazard_core.specs.HeldRows.Fits.{FitsRows}
use Rattle.pipe_net.specs.declared.parts.Part.{Part}
use Rattle.pipe_net.specs.Parts as part
use Rattle.pipe_net.specs.Layout.{Layout, program_of, cells_of, last_of, commit_of}
use Rattle.pipe_net.specs.Relation.{most_slots}

-- the registers of a place: those of cells, and after them those of pointers
abbrev pub held_registers : Layout → ℕ → List (Operand (Name Part))
held_registers l k = registers_from (part.place l.sizes k) (cells_of l) 0 (l.held k) ++ pointer_registers (part.place l.sizes k) l.bits (length (l.held k)) (l.held_pointers k)

-- They show what a packet holds, which fits the program as far as the rows of the place.
pub record ShowsHeld (l : Layout) (v : Env (Name Part)) (k : ℕ) (h : StageValues) : Type 0 where
  pub registers : ShowsWords v (part.place l.sizes k) (site_words (cells_of l) l.bits (stage_value h) (pointer_in h) (l.held k) (l.held_pointers k))
  pub fits : FitsRows (program_of l) l.decls l.build.plan.row l.flags most_slots (suc k) h
  pub constants : HoldsConstants (program_of l) l.build.plan.row (suc k) h

-- so do those of all places that hold a packet
abbrev pub ShowPackets : Layout → State → Env (Name Part) → Type 0
ShowPackets l s v = (k : ℕ) (x : Packet) → k ≤ last_of l → place_at s.places k ≡ Some x → ShowsHeld l v k x.held

-- Operands for site j at a place: registers of the place, or numbers, which show the cells of the site as its packet holds them.
pub record IsAtPlace (l : Layout) (k j : ℕ) (s : SiteOperands (Name Part)) : Type 0 where
  pub operands : All IsOperand (all_of s)
  pub there : All (IsAvailable (held_registers l k)) (all_of s)
  pub shown : (v : Env (Name Part)) (h : StageValues) → ShowsHeld l v k h → ShowsSite v (program_of l) h j s
