-- What places, and the parts of words under pointers, may read of others.
use Rattle.std.specs.Prelude.{◌≡◌, ℕ, zero, suc, ◌+◌, ◌<◌, ◌≤◌, All, List, [], ◌∷◌, length}
use Rattle.hazard_core.specs.xdp_maps.declared.decl.MapKind.{MapKind}
use Rattle.hazard_core.specs.xdp_maps.declared.decl.MapKind.TheVariants.{Hash, Array}
use Rattle.block_core.specs.declared.name.Name.{Name}
use Rattle.block_core.specs.Blocks.{Whole}
use Rattle.turn_net.specs.cell_nets.declared.operand.Operand.{Operand}
use Rattle.turn_net.specs.cell_nets.declared.operand.Operand.TheVariants.{Net}
use Rattle.turn_net.specs.cell_nets.Operands.{IsAvailable}
use Rattle.hazard_core.specs.Tables.{decl_of}
use Rattle.read_net.specs.hash_net.Hash.{count_name}
use Rattle.read_net.specs.hash_net.SlotNet.Slots.{operands_of}
use Rattle.read_net.specs.hash_net.SlotNet.Shown.{shown_slots}
use Rattle.stage_net.specs.row_net.PlaceNet.Sources.{source_operands}
use Rattle.pipe_net.specs.declared.parts.Part.{Part}
use Rattle.pipe_net.specs.Parts as part
use Rattle.pipe_net.specs.Layout.{Layout, program_of, last_of}
use Rattle.pipe_net.specs.Standing.{held_registers}
use Rattle.pipe_net.specs.PipePlaces.Layout.{load_sites}
use Rattle.pipe_net.specs.PipePlaces.Parts.{advances, AreWords, AreStageParts}

-- what stands before a place: of the first one what is shown of a frame, of each later one the registers of the place before
abbrev pub before_place : Layout → ℕ → List (Operand (Name Part))
before_place l zero = source_operands (part.sources l.sizes) l.kept
before_place l (suc k) = held_registers l k

-- what is shown of map m: of a hash how many slots are used, and all slots
abbrev pub map_shown_as : MapKind → Layout → ℕ → List (Operand (Name Part))
map_shown_as Hash l m = Net (count_name (part.own l.sizes m)) (l.slot_bits m + 1) ∷ operands_of (shown_slots (part.slots l.sizes m) (decl_of l.decls m))
map_shown_as Array l m = []

abbrev pub map_shown : Layout → ℕ → List (Operand (Name Part))
map_shown l m = map_shown_as (decl_of l.decls m).kind l m

-- The place of row k reads whether packets move on, what stands before it, maps, and words under pointers.
pub data IsReadAt (l : Layout) (d : Whole Part) (words : AreWords l d) (k : ℕ) (a : Operand (Name Part)) : Type 0 where
  Advance : a ≡ Net (advances l) 1 → IsReadAt l d words k a
  Before : IsAvailable (before_place l k) a → IsReadAt l d words k a
  OfMap : (m : ℕ) → m < length l.decls → IsAvailable (map_shown l m) a → IsReadAt l d words k a
  OfWord : (i : ℕ) (there : i < length (load_sites (program_of l))) → a ≡ Net (words i there).word 64 → IsReadAt l d words k a

-- All that these parts read is such; the row of each word is that of a place.
pub record AreReadings (l : Layout) (d : Whole Part) (parts : AreStageParts l d) : Type 0 where
  pub row : (i : ℕ) (there : i < length (load_sites (program_of l))) → (parts.words i there).row ≤ last_of l
  pub word : (i : ℕ) (there : i < length (load_sites (program_of l))) → All (IsAvailable (before_place l (parts.words i there).row)) (parts.words i there).outside
  pub place : (k : ℕ) (there : k ≤ last_of l) → All (IsReadAt l d parts.words k) (parts.places k there).outside
