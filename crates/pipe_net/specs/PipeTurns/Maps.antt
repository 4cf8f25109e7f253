-- What stands for the maps of a pipeline where operations of packets are looked at.
use Rattle.std.specs.Prelude.{◌≡◌, ℕ, suc, ◌+◌, ◌==◌, List, [], ◌∷◌, filter}
use Rattle.hazard_core.specs.xdp_maps.declared.decl.MapDecl.{MapDecl}
use Rattle.hazard_core.specs.xdp_maps.declared.decl.MapKind.TheVariants.{Hash, Array}
use Rattle.block_core.specs.declared.name.Name.{Name}
use Rattle.block_core.specs.declared.name.Name.TheVariants as name
use Rattle.block_core.specs.Blocks.{Whole}
use Rattle.hazard_core.specs.cell_core.Sites.{ProgramView, site_at}
use Rattle.hazard_core.specs.Tables.{decl_of}
use Rattle.turn_net.specs.cell_nets.declared.operand.Operand.TheVariants.{Net}
use Rattle.read_net.specs.hash_net.Hash.{count_name}
use Rattle.read_net.specs.hash_net.SlotNet.Slots.{slots_of}
use Rattle.read_net.specs.hash_net.SlotNet.Shown.{shown_slots, IsSlots}
use Rattle.read_net.specs.declared.sites.MapNets.{MapNets}
use Rattle.read_net.specs.Sites.{IsMap}
use Rattle.turn_net.specs.cell_nets.OperandBlocks.Wiring.{wires_block}
use Rattle.commit_net.specs.declared.target.TakenSlot.{TakenSlot}
use Rattle.turn_net.specs.declared.nets.RecordNets.{RecordNets}
use Rattle.turn_net.specs.Actions.{record_sites}
use Rattle.turn_net.specs.Nets.{kept}
use Rattle.pipe_net.specs.declared.parts.Part.{Part}
use Rattle.pipe_net.specs.Parts as part
use Rattle.pipe_net.specs.Layout.{Layout}

abbrev pub decl_at : Layout → ℕ → MapDecl
decl_at l m = decl_of l.decls m

-- What stands for map m: of a hash the wires of the part that shows its slots, and the register that counts those that are used.
pub record IsMapAt (l : Layout) (m : ℕ) (nets : MapNets (Name Part)) : Type 0 where
  pub is : IsMap nets
  pub decl : nets.decl.now ≡ decl_at l m
  pub bits : nets.bits ≡ l.bits
  pub slots : (decl_at l m).kind ≡ Hash → slots_of nets.slots.now ≡ shown_slots (part.slots l.sizes m) (decl_at l m)
  pub used : (decl_at l m).kind ≡ Hash → nets.used ≡ Net (count_name (part.own l.sizes m)) (l.slot_bits m + 1)
  pub none : (decl_at l m).kind ≡ Array → nets.slots.now ≡ []

-- The part that shows its slots; an array's has nothing to show.
pub record IsSlotsPart (l : Layout) (d : Whole Part) (m : ℕ) : Type 0 where
  pub hash : (decl_at l m).kind ≡ Hash → IsSlots (part.slots l.sizes m) (part.own l.sizes m) (decl_at l m) (l.slot_bits m) (d.block (part.slots l.sizes m))
  pub array : (decl_at l m).kind ≡ Array → d.block (part.slots l.sizes m) ≡ wires_block []

-- the record sites of a program that are on a map
abbrev pub records_on : ProgramView → ℕ → List ℕ
records_on p m = filter (λ j. (site_at p.sites j).map == m) (record_sites p)

-- ---- the slots that updates of hashes took stand in registers after the first one, whichever the map
abbrev pub taken_from : Layout → ℕ → List (RecordNets (Name Part)) → List (TakenSlot (Name Part))
taken_from l at [] = []
taken_from l at (r ∷ rs) = record { site = r.number; slot = Net (name.Register (part.action l.sizes) at) l.action_shape.slot_bits } ∷ taken_from l (suc at) rs

abbrev pub taken_slots : Layout → List (TakenSlot (Name Part))
taken_slots l = taken_from l 1 (kept l.records)
