-- What stands for sites by the tables of a place, as a place takes it.
use Rattle.std.specs.Prelude.{Option}
use Rattle.std.proofs.Common.{◌≡◌, ◌∙◌, ℕ, ◌<◌, All, List, length, get_or, ap, arith}
use Rattle.std.proofs.lemmas.List.{length-map}
use Rattle.hazard_core.specs.cell_core.Sites.{ProgramView, site_at}
use Rattle.overlay_net.specs.cell_nets.declared.operand.Operand.{Operand}
use Rattle.overlay_net.specs.cell_nets.Operands.{IsAvailable}
use Rattle.overlay_net.specs.declared.site_operands.SiteNets.{SiteNets}
use Rattle.overlay_net.specs.SiteOperands.Sites.{SiteOperands, operands_of, all_of}
use Rattle.row_net.specs.Table.{IsTable, AreThere}
use Rattle.row_net.specs.SitePlace.Pointing.{IsPointers}
use Rattle.stage_net.specs.SiteTable.Sites.{operand_at, IsSiteOf}
use Rattle.stage_net.specs.Nets.{IsSiteNets}

module _ {N : Type 0} (p : ProgramView) (table pointers : List (Option (Operand N))) (sites : List (SiteNets N)) (of : (j : ℕ) (d : SiteNets N) → j < length p.sites → IsSiteOf p table pointers j (operands_of (get_or sites j d))) where
  pub sites_are : (bits : ℕ) → IsTable p.cells table → IsPointers p.cells bits pointers → (j : ℕ) (d : SiteNets N) → j < length p.sites → IsSiteNets p bits j (get_or sites j d)
  sites_are bits cells those j d lt =
      let s = of j d lt in
      record {
        operands = s.operands bits cells those;
        key = ap (λ (o : SiteOperands N). length o.key) s.are ∙ length-map (site_at p.sites j).key (operand_at table);
        words = ap (λ (o : SiteOperands N). length o.operands) s.are ∙ length-map (site_at p.sites j).operands (operand_at table);
        found = s.found_narrow bits those;
        pointer = s.pointer_narrow bits those;
      }

  pub sites_there : (ins : List (Operand N)) → length sites ≡ length p.sites → AreThere ins table → AreThere ins pointers → All (λ s. All (IsAvailable ins) (all_of (operands_of s))) sites
  sites_there ins count cells those j d lt = (of j d (omega (arith, lt, count))).there ins cells those
