-- The place after the reads of its row.
use Rattle.std.specs.Prelude.{Option, Contains, take}
use Rattle.std.proofs.Common.{◌≡◌, ◌∙◌, ◌⊎◌, inl, inr, ℕ, true, All, List, [], length, get_or, slice_index, ap, arith}
use Rattle.std.proofs.lemmas.List.Elements.{All-nil}
use Rattle.block_core.specs.net_core.Value.{Env}
use Rattle.hazard_core.specs.xdp_machine.State.{PacketIn}
use Rattle.block_core.specs.declared.name.Name.{Name}
use Rattle.block_core.specs.Blocks.{BlockTree, BlockWireTree}
use Rattle.block_core.specs.Parts.{Solve}
use Rattle.hazard_core.specs.cell_core.declared.operator.Operator.{Operator}
use Rattle.hazard_core.specs.cell_core.Cells.{cell_at, site_in}
use Rattle.hazard_core.specs.cell_core.Sites.{ProgramView}
use Rattle.hazard_core.proofs.cell_core_laws.OperatorLaws.{site_of_read}
use Rattle.hazard_core.specs.Tables.{TableState}
use Rattle.hazard_core.specs.StageValues.{StageValues, stage_value, pointer_in}
use Rattle.overlay_net.specs.cell_nets.declared.operand.Operand.{Operand}
use Rattle.overlay_net.specs.cell_nets.Operands.{IsAvailable}
use Rattle.overlay_net.specs.cell_nets.Wires.{behind}
use Rattle.row_net.specs.Table.{IsIn}
use Rattle.row_net.specs.Made.{IsReady}
use Rattle.row_net.specs.SitePlace.Holding.{PointersAreHeld}
use Rattle.row_net.specs.SitePlace.Pointing.{PointersAre, ArePointed}
use Rattle.row_net.specs.SitePlace.PointerNets.{BothThere}
use Rattle.row_net.specs.SitePlace.SitePlace.{IsSitePlace}
use Rattle.row_net.proofs.SitePlace.PointingLaws.{takes_as}
use Rattle.hazard_core.specs.HeldRows.Made.{IsRowMade}
use Rattle.stage_net.specs.declared.row.StageNets.{StageNets}
use Rattle.stage_net.specs.Nets.{decls_of, NetsAreThere}
use Rattle.stage_net.specs.Staged.{IsStaged}
use Rattle.stage_net.specs.Rows.{IsHad, IsPointerHad, AllAreThere, ShowsRow, ShowsRead, AreRead}
use Rattle.stage_net.specs.Stage.{CanMake, CanPoint, IsStage}

either : {A B C : Type 0} → (A → B) → A ⊎ C → B ⊎ C
either f (inl a) = inl (f a)
either f (inr c) = inr c

-- no slots are given
pub alone : {N : Type 0} (ins : List (Operand N)) (nets : StageNets N) → NetsAreThere ins nets → AllAreThere ins nets []
alone ins nets hand = record { nets_there = hand; slots_there = All-nil (IsAvailable ins) }

shown : {N : Type 0} (v : Env N) (p : ProgramView) (row : ℕ → ℕ) (r : ℕ) (nets : StageNets N) (t : TableState) (before h : StageValues) → ShowsRow v p row r nets t before h → ShowsRead v p row r nets [] t before h
shown v p row r nets t before h x = record { alike = x.alike; reads = λ c j l e o. record { reads = x.reads c j l e o; slot = λ d lt. absurd (omega (arith, lt)) } }

module _ {P : Type 0} (part : P) (p : ProgramView) (row : ℕ → ℕ) (r : ℕ) (nets : StageNets (Name P)) (staged : IsStaged p row (decls_of nets.maps.now) nets.bits) (old ws : List (BlockWireTree (Name P))) (before after pointers those : List (Option (Operand (Name P))))
    (x : AreRead part p row r nets [] 0 (length p.sites) old ws before after pointers those) where
  abbrev Has : ℕ → Type 0
  Has k = IsHad p row r before k

  abbrev HasPointer : ℕ → Type 0
  HasPointer k = IsPointerHad p row r pointers k

  pub has : (k : ℕ) → Has k → IsIn after k
  has k (inl h) = x.grows k h
  has k (inr h) = let s = site_of_read (cell_at p.cells k).op h.2 in x.read k s.0 h.0 h.1 s.1 (omega arith) (staged.reads k s.0 h.0 s.1).site

  pub has_pointer : (k : ℕ) → HasPointer k → IsIn those k
  has_pointer k (inl h) = x.grows_pointers k h
  has_pointer k (inr h) = x.found k h.0 h.1 h.2 h.3 (omega arith) (staged.reads k h.0 h.1 (ap site_in h.3)).site

  pub all_have : (made held : List ℕ) → All (λ k. Has k ⊎ Contains made k) held → All (λ k. IsIn after k ⊎ Contains made k) held
  all_have made held h k d lt = either (has (get_or held k d)) (h k d lt)

  pub all_have_pointers : (made held : List ℕ) → All (λ k. HasPointer k ⊎ Contains made k) held → All (λ k. IsIn those k ⊎ Contains made k) held
  all_have_pointers made held h k d lt = either (has_pointer (get_or held k d)) (h k d lt)

  pub is_ready : (made : List ℕ) → CanMake p.cells Has made → IsReady p.cells after made
  is_ready made c = record { within = c.within; computed = c.computed; inputs = λ n lt k d l. either (has _) (c.inputs n lt k d l) }

  pub are_pointed : (made made_pointers : List ℕ) → CanPoint p.cells Has HasPointer made made_pointers → ArePointed p.cells after those made made_pointers
  are_pointed made made_pointers c = record {
    within = c.within;
    inputs = λ n lt.
        takes_as (λ i. Has i ⊎ Contains made i) (λ i. IsIn after i ⊎ Contains made i) (λ i. HasPointer i ⊎ Contains (take n made_pointers) i) (λ i. IsIn those i ⊎ Contains (take n made_pointers) i) (λ i. either (has i)) (λ i. either (has_pointer i))
        (cell_at p.cells (slice_index made_pointers n)).op (cell_at p.cells (slice_index made_pointers n)).ins (c.inputs n lt);
  }

  module _ (law : PointersAreHeld) (made held made_pointers held_pointers : List ℕ) (can : CanPoint p.cells Has HasPointer made made_pointers) (of_row : All (λ k. row k ≡ r) made_pointers) where
    pointers_are : (t : TableState) (packet : PacketIn) (h : StageValues) → IsRowMade p row r t packet h → PointersAre p.cells made_pointers (stage_value h) (pointer_in h)
    pointers_are t packet h is n d lt =
        let cell = cell_at p.cells (get_or made_pointers n d) in
        (is.each (get_or made_pointers n d) (can.within n d lt) (of_row n d lt)).pointer ∙ law p row r t h cell cell.op (can.computed n d lt)

    pub is_stage :
        (outside : List (Operand (Name P))) (advance : Name P) (b : BlockTree (Name P)) → NetsAreThere (behind part outside old) nets → BothThere part outside old before pointers → ((v : Env (Name P)) → Solve v part 0 b.wires → Solve v part 0 ws)
        → IsSitePlace part p.cells made held made_pointers held_pointers nets.bits outside after those advance b → IsStage part p row r nets made held made_pointers held_pointers outside before pointers advance b
    is_stage outside advance b hand both begun y = record {
      registers = y.registers;
      memories = y.memories;
      typed = y.typed;
      ordered = y.ordered;
      reads = y.reads;
      within = y.within;
      wires_spelled = y.wires_spelled;
      spelled = y.spelled;
      goes = y.goes;
      first = y.first;
      fits = y.fits;
      next = λ v s t packet held h on widths fit solved shows is values cells points.
          let z = x.value outside v t packet held h (alone (behind part outside old) nets hand) both fit (begun v solved) (shown v p row r nets t held h shows) is cells points in
          y.next v s packet (stage_value h) (pointer_in h) on widths fit solved values (pointers_are t packet h is) z.0 z.1;
      stays = y.stays;
    }
