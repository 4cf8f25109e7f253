-- The read of a site: what it takes, and what stands for its cells.
use Rattle.std.specs.Prelude.{◌≡◌, ℕ, All, List, ◌∷◌, ◌++◌}
use Rattle.block_core.specs.net_core.Value.{Env}
use Rattle.overlay_net.specs.xdp_machine.State.{PacketIn}
use Rattle.block_core.specs.declared.name.Name.{Name}
use Rattle.block_core.specs.Blocks.{BlockWireTree}
use Rattle.overlay_net.specs.cell_core.declared.operator.Operator.TheVariants.{Found, Answer}
use Rattle.overlay_net.specs.cell_core.Cells.{CellView, bits_from}
use Rattle.overlay_net.specs.cell_core.Sites.{ProgramView, site_at}
use Rattle.pipe_core.specs.hazard_core.Tables.{TableState}
use Rattle.pipe_core.specs.hazard_core.StageValues.{StageValues, pending}
use Rattle.pipe_core.specs.hazard_core.Overlay.{found_pointer}
use Rattle.pipe_core.specs.hazard_core.Rows.{cell_pointer, cell_number}
use Rattle.overlay_net.specs.cell_nets.declared.operand.Operand.{Operand}
use Rattle.overlay_net.specs.cell_nets.Operands.{number_in, IsOperand}
use Rattle.overlay_net.specs.cell_nets.Wires.{HasBits, Gives}
use Rattle.overlay_net.specs.SiteOperands.Pointers.{pointer_number}
use Rattle.overlay_net.specs.SiteOperands.Sites.{operands_of, ShowsAsked}
use Rattle.overlay_net.specs.Reading.{ShowsKey, ShowsSlot}
use Rattle.overlay_net.specs.Seen.{IsSeen, ShowPending}
use Rattle.read_net.specs.declared.finding.FoundNets.{FoundNets}
use Rattle.read_net.specs.declared.sites.OwnSite.{OwnSite}
use Rattle.read_net.specs.declared.sites.MapNets.{MapNets}
use Rattle.read_net.specs.declared.sites.ReadNets.{ReadNets}
use Rattle.read_net.specs.Sites.{cells_of, all_cells, slot_cells, sites_of, IsMapOf, ShowsOwn, ShowsTable, AreSeenOf}

-- ---- the operands that it takes, and what they stand for
abbrev pub taken : {N : Type 0} → MapNets N → OwnSite N → List (OwnSite N) → List (Operand N)
taken m s ss = cells_of s ++ (all_cells ss ++ slot_cells m)

-- what the site asks, the cells of the earlier ones, and the slots of the table
pub record Shows {N : Type 0} (v : Env N) (p : ProgramView) (t : TableState) (h : StageValues) (m : MapNets N) (s : OwnSite N) (ss : List (OwnSite N)) : Type 0 where
  pub asked : ShowsAsked v p h s.site (operands_of s.nets.now)
  pub earlier : All (ShowsOwn v p h) ss
  pub table : ShowsTable v t (site_at p.sites s.site).map m

-- where it looks for a key, besides the slot under it, as the operand that is given of it
abbrev pub ShowsBoth : {N : Type 0} → Env N → ProgramView → TableState → StageValues → MapNets N → OwnSite N → List (OwnSite N) → Operand N → Type 0
ShowsBoth v p t h m s ss slot = Shows v p t h m s ss × ShowsSlot v p t h s.site slot

-- ---- operands of what it finds
pub record IsFound {N : Type 0} (m : MapNets N) (ss : List (OwnSite N)) (r : FoundNets N) : Type 0 where
  pub seen : All (IsSeen m.decl.now.key m.bits) r.pending.items
  pub of : AreSeenOf ss r.pending.items
  pub key : IsOperand r.key
  pub key_bits : HasBits m.bits r.key
  pub found : IsOperand r.found
  pub found_bits : HasBits m.bits r.found

pub record Finds {N : Type 0} (v : Env N) (p : ProgramView) (t : TableState) (h : StageValues) (m : MapNets N) (s : OwnSite N) (ss : List (OwnSite N)) (r : FoundNets N) : Type 0 where
  pub shows : Shows v p t h m s ss
  pub pending : ShowPending v p t h (sites_of ss) r.pending.items
  pub key : ShowsKey v p t h (sites_of ss) s.site r.key
  pub found : number_in v r.found ≡ pointer_number (found_pointer p t h (sites_of ss) s.site)

-- ---- in a program: the site, and those that its read sees in a row
pub record IsReadOf {N : Type 0} (p : ProgramView) (t : TableState) (row : ℕ → ℕ) (r : ℕ) (m : MapNets N) (s : OwnSite N) (ss : List (OwnSite N)) : Type 0 where
  pub act : (site_at p.sites s.site).act ≡ s.act
  pub acts : All (λ o. (site_at p.sites o.site).act ≡ o.act) ss
  pub sites : sites_of ss ≡ pending p row r s.site
  pub map : IsMapOf t (site_at p.sites s.site).map m.decl.now

-- operands for its cells
pub record AreCells {N : Type 0} (bits width : ℕ) (o : ReadNets N) : Type 0 where
  pub found : IsOperand o.found
  pub found_bits : HasBits bits o.found
  pub there : IsOperand o.there
  pub there_bits : HasBits 1 o.there
  pub answer : IsOperand o.answer
  pub answer_bits : HasBits width o.answer

-- Wires become more, and after them operands stand for the cells that a site reads in a row: for the pointer of the one that says whether its key is
-- there, for its value, and for bits of its answer.
pub record Reads {P : Type 0} (part : P) (old new : List (BlockWireTree (Name P))) (m : MapNets (Name P)) (s : OwnSite (Name P)) (ss : List (OwnSite (Name P))) (slot : Operand (Name P)) (from width : ℕ) (p : ProgramView) (t : TableState) (h : StageValues) (row : ℕ → ℕ) (r : ℕ) (packet : PacketIn) (c : CellView) (o : ReadNets (Name P)) : Type 0 where
  pub found : Gives part old new (slot ∷ taken m s ss) (λ v. ShowsBoth v p t h m s ss slot) (λ v. pointer_number (cell_pointer p row r t h c (Found s.site))) m.bits o.found
  pub there : Gives part old new (slot ∷ taken m s ss) (λ v. ShowsBoth v p t h m s ss slot) (λ v. cell_number p row r t packet h c (Found s.site)) 1 o.there
  pub answer : Gives part old new (slot ∷ taken m s ss) (λ v. ShowsBoth v p t h m s ss slot) (λ v. bits_from (cell_number p row r t packet h c (Answer s.site)) from width) width o.answer
