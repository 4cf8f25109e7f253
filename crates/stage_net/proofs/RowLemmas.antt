-- The reads of several sites, one after another.
use Rattle.std.specs.Prelude.{Option, Some}
use Rattle.std.proofs.Common.{◌≡◌, ◌⊎◌, inl, inr, ℕ, ◌<◌, ◌≤◌, List, length, ap}
use Rattle.std.proofs.lemmas.Bool.{cases_lt}
use Rattle.block_core.specs.declared.name.Name.{Name}
use Rattle.block_core.specs.Blocks.{BlockWireTree}
use Rattle.hazard_core.specs.cell_core.declared.operator.Operator.TheVariants.{Found}
use Rattle.hazard_core.specs.cell_core.Cells.{cell_at, site_in}
use Rattle.hazard_core.specs.cell_core.Sites.{ProgramView}
use Rattle.overlay_net.specs.cell_nets.declared.operand.Operand.{Operand}
use Rattle.overlay_net.specs.cell_nets.Operands.{IsAvailable}
use Rattle.overlay_net.specs.cell_nets.Wires.{behind}
use Rattle.row_net.specs.Table.{IsIn, IsTable}
use Rattle.row_net.specs.SitePlace.Pointing.{IsPointers}
use Rattle.stage_net.specs.declared.row.StageNets.{StageNets}
use Rattle.stage_net.specs.Nets.{NetsAreThere}
use Rattle.stage_net.specs.Rows.{AllAreThere, AreRead}

-- more stands after more wires
pub nets_still_there : {N : Type 0} (ins more : List (Operand N)) (nets : StageNets N) → ((a : Operand N) → IsAvailable ins a → IsAvailable more a) → NetsAreThere ins nets → NetsAreThere more nets
nets_still_there ins more nets grow hand = record {
  sites = λ k d lt n e l. grow _ (hand.sites k d lt n e l);
  maps = λ k d lt n e l. grow _ (hand.maps k d lt n e l);
  words = λ k d lt. grow _ (hand.words k d lt);
}

pub all_still_there : {N : Type 0} (ins more : List (Operand N)) (nets : StageNets N) (slots : List (Operand N)) → ((a : Operand N) → IsAvailable ins a → IsAvailable more a) → AllAreThere ins nets slots → AllAreThere more nets slots
all_still_there ins more nets slots grow hand = record { nets_there = nets_still_there ins more nets grow hand.nets_there; slots_there = λ k d lt. grow _ (hand.slots_there k d lt) }

module _ {P : Type 0} (part : P) (p : ProgramView) (row : ℕ → ℕ) (r : ℕ) (nets : StageNets (Name P)) (slots : List (Operand (Name P))) where
  abbrev Wires : Type 0
  Wires = List (BlockWireTree (Name P))

  abbrev Table : Type 0
  Table = List (Option (Operand (Name P)))

  pub none_read : (low high : ℕ) (ws : Wires) (table pointers : Table) → IsTable p.cells table → IsPointers p.cells nets.bits pointers → ((c j : ℕ) → c < length p.cells → row c ≡ r → site_in (cell_at p.cells c).op ≡ Some j → low ≤ j → j < high → ⊥) → AreRead part p row r nets slots low high ws ws table table pointers pointers
  none_read low high ws table pointers is are none = record {
    cells_are = is;
    pointers_are = are;
    found = λ c j l e o a b. absurd (none c j l e (ap site_in o) a b);
    read = λ c j l e o a b. absurd (none c j l e o a b);
    grows = λ k h. h;
    grows_pointers = λ k h. h;
    earlier = λ v s. s;
    stays = λ outside a h. h;
    there = λ outside hand both. both;
    value = λ outside v t packet held h hand both fit solved shows made cells those. (cells, those);
    apart = λ clean marks early keep. (marks, keep);
  }

  pub read_then :
      (low mid high : ℕ) (old ws new : Wires) (a b c d e f : Table) → AreRead part p row r nets slots low mid old ws a b d e → AreRead part p row r nets slots mid high ws new b c e f → AreRead part p row r nets slots low high old new a c d f
  read_then low mid high old ws new a b c d e f x y = record {
    cells_are = y.cells_are;
    pointers_are = y.pointers_are;
    found = λ k j l i o over under. by_found k j l i o over under (cases_lt j mid);
    read = λ k j l i o over under. by_read k j l i o over under (cases_lt j mid);
    grows = λ k h. y.grows k (x.grows k h);
    grows_pointers = λ k h. y.grows_pointers k (x.grows_pointers k h);
    earlier = λ v s. x.earlier v (y.earlier v s);
    stays = λ outside o h. y.stays outside o (x.stays outside o h);
    there = λ outside hand both. y.there outside (later outside hand) (x.there outside hand both);
    value = λ outside v t packet held h hand both fit solved shows made cells those.
        let first = x.value outside v t packet held h hand both fit (y.earlier v solved) shows made cells those in
        y.value outside v t packet held h (later outside hand) (x.there outside hand both) fit solved shows made first.0 first.1;
    apart = λ clean marks early keep. let first = x.apart clean marks early keep in y.apart clean first.0 early first.1;
  }
    where
      later : (outside : List (Operand (Name P))) → AllAreThere (behind part outside old) nets slots → AllAreThere (behind part outside ws) nets slots
      later outside hand = all_still_there (behind part outside old) (behind part outside ws) nets slots (x.stays outside) hand

      by_found : (k j : ℕ) → k < length p.cells → row k ≡ r → (cell_at p.cells k).op ≡ Found j → low ≤ j → j < high → (j < mid) ⊎ (mid ≤ j) → IsIn f k
      by_found k j l i o over under (inl below) = y.grows_pointers k (x.found k j l i o over below)
      by_found k j l i o over under (inr above) = y.found k j l i o above under

      by_read : (k j : ℕ) → k < length p.cells → row k ≡ r → site_in (cell_at p.cells k).op ≡ Some j → low ≤ j → j < high → (j < mid) ⊎ (mid ≤ j) → IsIn c k
      by_read k j l i o over under (inl below) = y.grows k (x.read k j l i o over below)
      by_read k j l i o over under (inr above) = y.read k j l i o above under
