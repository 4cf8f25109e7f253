-- What a site reads, whatever it does.
use Rattle.std.specs.Prelude.{◌≡◌, ℕ, ◌∷◌, ◌/◌, not, true, All, List, []}
use Rattle.block_core.specs.net_core.Value.{Env}
use Rattle.block_core.specs.declared.name.Name.{Name}
use Rattle.block_core.specs.Blocks.{BlockWireTree}
use Rattle.block_core.specs.Parts.{Solve}
use Rattle.hazard_core.specs.cell_core.Acts.{finds_key, reads}
use Rattle.hazard_core.specs.cell_core.Cells.{bit, bits_from}
use Rattle.hazard_core.specs.cell_core.Sites.{ProgramView, site_at}
use Rattle.hazard_core.specs.Tables.{TableState}
use Rattle.hazard_core.specs.StageValues.{StageValues, access_pointer, pending, is_null}
use Rattle.hazard_core.specs.Overlay.{found_pointer, answer_over}
use Rattle.overlay_net.specs.cell_nets.declared.operand.Operand.{Operand}
use Rattle.overlay_net.specs.cell_nets.Operands.{number_in, AreFit, IsAvailable}
use Rattle.overlay_net.specs.cell_nets.Wires.{behind, AreWires}
use Rattle.overlay_net.specs.SiteOperands.Pointers.{pointer_number}
use Rattle.row_net.specs.SitePlace.PointerNets.{AddWires}
use Rattle.overlay_net.specs.Reading.{ShowsSlot}
use Rattle.overlay_net.specs.ValueNet.Pendings.{HasValue}
use Rattle.overlay_net.specs.ValueNet.Words.{answers_number, access_start}
use Rattle.read_net.specs.declared.sites.OwnSite.{OwnSite}
use Rattle.read_net.specs.declared.sites.MapNets.{MapNets}
use Rattle.read_net.specs.declared.sites.ReadNets.{ReadNets}
use Rattle.read_net.specs.Reads.{taken, Shows, AreCells}
use Rattle.read_net.specs.Accesses.{ShowsWord}

-- an access that answers goes through a pointer to a value of the declared length, where it is to a slot
abbrev pub HasEntry : {N : Type 0} → ProgramView → TableState → StageValues → OwnSite N → Type 0
HasEntry p t h s = answers_number s.act ≡ true → HasValue t (site_at p.sites s.site).map (access_pointer h (site_at p.sites s.site))

-- and the word under it stands for what is there
abbrev pub ShowsUnder : {N : Type 0} → Env N → ProgramView → TableState → StageValues → OwnSite N → Operand N → Type 0
ShowsUnder v p t h s word = answers_number s.act ≡ true → ShowsWord v t (site_at p.sites s.site).map (access_start s.act / 8) (access_pointer h (site_at p.sites s.site)) word

-- where it looks for a key, an operand stands for the slot under it
abbrev pub ShowsUnderKey : {N : Type 0} → Env N → ProgramView → TableState → StageValues → OwnSite N → Operand N → Type 0
ShowsUnderKey v p t h s slot = finds_key s.act ≡ true → ShowsSlot v p t h s.site slot

-- Wires become more, and after them operands stand for what a site reads in a row: where it looks for its key for the pointer that it finds and for whether
-- that is not null, and where it answers for bits of its answer.
pub record SiteReads {P : Type 0} (part : P) (old new : List (BlockWireTree (Name P))) (m : MapNets (Name P)) (s : OwnSite (Name P)) (ss : List (OwnSite (Name P))) (slot word : Operand (Name P)) (from width : ℕ) (p : ProgramView) (t : TableState) (h : StageValues) (row : ℕ → ℕ) (r : ℕ) (o : ReadNets (Name P)) : Type 0 where
  pub cells : AreCells m.bits width o
  pub adds : AddWires part old new
  pub wires : (outside : List (Operand (Name P))) → AreWires part outside old → All (IsAvailable (behind part outside old)) (slot ∷ word ∷ taken m s ss) → AreWires part outside new
  pub there : (outside : List (Operand (Name P))) → AreWires part outside old → All (IsAvailable (behind part outside old)) (slot ∷ word ∷ taken m s ss) → All (IsAvailable (behind part outside new)) (o.found ∷ o.there ∷ o.answer ∷ [])
  pub found :
      finds_key s.act ≡ true → (outside : List (Operand (Name P))) (v : Env (Name P)) → AreWires part outside old → All (IsAvailable (behind part outside old)) (slot ∷ word ∷ taken m s ss) → AreFit v outside → Solve v part 0 new → Shows v p t h m s ss → ShowsUnderKey v p t h s slot
      → (number_in v o.found ≡ pointer_number (found_pointer p t h (pending p row r s.site) s.site)) × (number_in v o.there ≡ bit (not (is_null (found_pointer p t h (pending p row r s.site) s.site))))
  pub answer :
      reads s.act ≡ true → (outside : List (Operand (Name P))) (v : Env (Name P)) → AreWires part outside old → All (IsAvailable (behind part outside old)) (slot ∷ word ∷ taken m s ss) → AreFit v outside → Solve v part 0 new → Shows v p t h m s ss → ShowsUnderKey v p t h s slot → ShowsUnder v p t h s word
      → number_in v o.answer ≡ bits_from (answer_over p t h (pending p row r s.site) s.site) from width
