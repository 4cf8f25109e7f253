-- The parts of places: the slots of hashes, the words under pointers, and the places.
use Rattle.std.specs.Prelude.{◌≡◌, ℕ, ◌+◌, ◌/◌, ◌<◌, ◌≤◌, Some, All, List, [], ◌∷◌, length, slice_index}
use Rattle.std.proofs.Common.{get_or}
use Rattle.beat_core.specs.Ports.{Arrival}
use Rattle.block_core.specs.net_core.Value.{Env}
use Rattle.block_core.specs.declared.name.Name.{Name}
use Rattle.block_core.specs.Blocks.{BlockWireTree, Whole}
use Rattle.block_core.specs.Parts.{Solve}
use Rattle.hazard_core.specs.xdp_maps.declared.decl.MapKind.TheVariants.{Hash}
use Rattle.hazard_core.specs.cell_core.Cells.{cell_at, site_in, value}
use Rattle.hazard_core.specs.cell_core.Sites.{site_at}
use Rattle.turn_net.specs.cell_nets.declared.operand.Operand.{Operand}
use Rattle.turn_net.specs.cell_nets.declared.operand.Operand.TheVariants.{Net}
use Rattle.turn_net.specs.cell_nets.Operands.{AreFit}
use Rattle.hazard_core.specs.Tables.{decl_of}
use Rattle.read_net.specs.hash_net.Hash.{count_name}
use Rattle.read_net.specs.hash_net.SlotNet.Slots.{slots_of}
use Rattle.read_net.specs.hash_net.SlotNet.Shown.{shown_slots, IsSlots}
use Rattle.commit_net.specs.MapBlock.Stored.{first_value}
use Rattle.read_net.specs.overlay_net.ValueNet.Words.{access_start}
use Rattle.read_net.specs.overlay_net.declared.site_operands.SiteNets.{SiteNets}
use Rattle.read_net.specs.overlay_net.SiteOperands.Sites.{SiteOperands, operands_of}
use Rattle.stage_net.specs.row_net.Table.{Holds}
use Rattle.stage_net.specs.row_net.PlaceNet.Sources.{IsShownIn, packet_in, source_operands}
use Rattle.read_net.specs.declared.sites.MapNets.{MapNets}
use Rattle.commit_net.specs.ChangeNet.Pointed.{IsPointedWords}
use Rattle.stage_net.specs.SiteTable.Sites.{IsSiteOf}
use Rattle.stage_net.specs.declared.row.StageNets.{StageNets}
use Rattle.stage_net.specs.Nets.{decls_of}
use Rattle.stage_net.specs.Stage.{IsStage}
use Rattle.control_net.specs.Names.{wire_name}
use Rattle.control_net.specs.declared.names.Wire.TheVariants.{Advances}
use Rattle.pipe_net.specs.declared.parts.Part.{Part}
use Rattle.pipe_net.specs.Parts as part
use Rattle.pipe_net.specs.Layout.{Layout, program_of, cells_of, last_of}
use Rattle.pipe_net.specs.PipePlaces.Layout.{load_sites, IsLaidOut}

-- whether packets move on
abbrev pub advances : Layout → Name Part
advances l = wire_name (part.control l.sizes) Advances

-- ---- what a place reads of maps
-- of a hash what shows its slots, and how many are used
pub record IsMapAt (l : Layout) (d : Whole Part) (m : ℕ) (nets : MapNets (Name Part)) : Type 0 where
  pub decl : nets.decl.now ≡ decl_of l.decls m
  pub slots : (decl_of l.decls m).kind ≡ Hash → slots_of nets.slots.now ≡ shown_slots (part.slots l.sizes m) (decl_of l.decls m)
  pub used : (decl_of l.decls m).kind ≡ Hash → nets.used ≡ Net (count_name (part.own l.sizes m)) (l.slot_bits m + 1)
  pub block : (decl_of l.decls m).kind ≡ Hash → IsSlots (part.slots l.sizes m) (part.own l.sizes m) (decl_of l.decls m) (l.slot_bits m) (d.block (part.slots l.sizes m))

-- The part that reads the word for site j: the one that its access begins in, in the slot of its map that its pointer is to, as the place before its row shows it.
pub record IsWord (l : Layout) (d : Whole Part) (i j : ℕ) : Type 0 where
  pub row : ℕ
  pub read : (c : ℕ) → c < length (cells_of l) → site_in (cell_at (cells_of l) c).op ≡ Some j → l.build.plan.row c ≡ row
  pub nets : SiteOperands (Name Part)
  pub site : IsSiteOf (program_of l) (l.table row) (l.pointers row) j nets
  pub outside : List (Operand (Name Part))
  pub wires : List (BlockWireTree (Name Part))
  pub slot : Name Part
  pub word : Name Part
  pub block :
      IsPointedWords (part.word l.sizes i) (part.own l.sizes (site_at (program_of l).sites j).map) outside wires nets.pointer 2 (l.slot_bits (site_at (program_of l).sites j).map)
      (first_value (decl_of l.decls (site_at (program_of l).sites j).map)) (decl_of l.decls (site_at (program_of l).sites j).map).value (access_start (site_at (program_of l).sites j).act / 8) 1 slot (word ∷ []) (d.block (part.word l.sizes i))

abbrev pub AreWords : Layout → Whole Part → Type 0
AreWords l d = (i : ℕ) → i < length (load_sites (program_of l)) → IsWord l d i (slice_index (load_sites (program_of l)) i)

-- ---- the places
-- The place of row k reads the cells of sites as the place before shows them, the slots of maps, and the words that are read in its row.
pub record IsPlaceOf (l : Layout) (d : Whole Part) (loads : AreWords l d) (k : ℕ) : Type 0 where
  pub nets : StageNets (Name Part)
  pub bits : nets.bits ≡ l.bits
  pub decls : decls_of nets.maps.now ≡ l.decls
  pub sites : (j : ℕ) (s : SiteNets (Name Part)) → j < length (program_of l).sites → IsSiteOf (program_of l) (l.table k) (l.pointers k) j (operands_of (get_or nets.sites.now j s))
  pub maps : (m : ℕ) (n : MapNets (Name Part)) → m < length l.decls → IsMapAt l d m (get_or nets.maps.now m n)
  pub words : (i : ℕ) (a : Operand (Name Part)) (w : i < length (load_sites (program_of l))) → (loads i w).row ≡ k → get_or nets.words.now (slice_index (load_sites (program_of l)) i) a ≡ Net (loads i w).word 64
  pub outside : List (Operand (Name Part))
  pub block :
      IsStage (part.place l.sizes k) (program_of l) l.build.plan.row k nets (l.made k) (l.held k) (l.made_pointers k) (l.held_pointers k) outside (l.table k) (l.pointers k) (advances l)
      (d.block (part.place l.sizes k))

-- Before the first place stand constants and the cells that come with a packet: these have its numbers where its frame is shown.
abbrev pub ReadsSources : Layout → List (BlockWireTree (Name Part)) → Type 0
ReadsSources l ws = (v : Env (Name Part)) (a : Arrival) (val : ℕ → ℕ) → AreFit v (source_operands (part.sources l.sizes) l.kept) → Solve v (part.place l.sizes 0) 0 ws → IsShownIn (part.sources l.sizes) l.kept v a
    → All (λ k. val k ≡ value (packet_in a) val (cell_at (cells_of l) k)) l.sources → Holds v l.constants val → Holds v (l.table 0) val

pub record AreStageParts (l : Layout) (d : Whole Part) : Type 0 where
  pub laid : IsLaidOut l
  pub words : AreWords l d
  pub places : (k : ℕ) → k ≤ last_of l → IsPlaceOf l d words k
  pub enters : ReadsSources l (d.block (part.place l.sizes 0)).wires

-- the nets that they read have the values of their widths
pub record PlacesAreFit (l : Layout) (d : Whole Part) (parts : AreStageParts l d) (v : Env (Name Part)) : Type 0 where
  pub sources : AreFit v (source_operands (part.sources l.sizes) l.kept)
  pub words : (i : ℕ) (w : i < length (load_sites (program_of l))) → AreFit v (parts.words i w).outside
  pub places : (k : ℕ) (w : k ≤ last_of l) → AreFit v (parts.places k w).outside
