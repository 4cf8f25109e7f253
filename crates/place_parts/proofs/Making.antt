-- What the block of a place takes, and what it is then.
use Rattle.std.specs.Prelude.{Contains, Option, ◌⊎◌, slice_index}
use Rattle.std.proofs.Common.{◌≡◌, ◌∙◌, ℕ, ◌<◌, Bool, false, All, List, length, get_or, refl, ap, sym, subst, arith}
use Rattle.block_core.specs.net_core.Value.{Env}
use Rattle.block_core.specs.ProductBlocks.Alone.{IsApartAlone}
use Rattle.block_core.specs.declared.name.Name.{Name}
use Rattle.block_core.specs.Blocks.{BlockTree, BlockWireTree}
use Rattle.block_core.specs.Parts.{Solve}
use Rattle.hazard_core.specs.cell_core.Sites.{ProgramView}
use Rattle.overlay_net.specs.cell_nets.declared.operand.Operand.{Operand}
use Rattle.overlay_net.specs.cell_nets.declared.operand.Operand.TheVariants.{Net}
use Rattle.overlay_net.specs.cell_nets.Operands.{IsOperand}
use Rattle.overlay_net.specs.cell_nets.Wires.{behind}
use Rattle.row_net.specs.Apart.{TakeClean, KeepApart}
use Rattle.row_net.specs.PlaceNet.Place.{width_at}
use Rattle.overlay_net.specs.declared.site_operands.SiteNets.{SiteNets}
use Rattle.row_net.specs.SitePlace.PointerNets.{BothThere}
use Rattle.stage_net.specs.SiteTable.Staged.{AreStaged, AreLists}
use Rattle.stage_net.proofs.SiteTable.StagingLaws.{held_had, held_pointers_had}
use Rattle.read_net.specs.declared.sites.MapNets.{MapNets}
use Rattle.stage_net.specs.declared.row.StageNets.{StageNets}
use Rattle.stage_net.specs.Nets.{decls_of, IsSiteNets, AreNets, IsMapNets, NetsAreThere}
use Rattle.stage_net.specs.Rows.{IsReadHere, IsHad, IsPointerHad}
use Rattle.stage_net.specs.Stage.{CanMake, CanPoint, IsStage}
use Rattle.stage_net.specs.Staged.{IsStaged}
use Rattle.stage_net.proofs.ListLaws.{can_make, can_point, pointers_of_row}
use Rattle.stage_net.proofs.NetLaws.{sites_are}
use Rattle.pipe_net.specs.declared.parts.Part.{Part}
use Rattle.pipe_net.specs.Parts as part
use Rattle.pipe_parts.specs.declared.pipe_draft.pipeline_plan.PipelinePlan.{PipelinePlan}
use Rattle.pipe_parts.specs.declared.pipe_draft.places.StageSources.{StageSources}
use Rattle.pipe_parts.specs.PipeDraft.PipelinePlan.{program_in, plan_in, decls_in, IsPipelinePlan}
use Rattle.place_parts.specs.Maps.{AreMapsFor}
use Rattle.place_parts.specs.Places.{advances_by, row_in, made_in, held_in, made_pointers_in, held_pointers_in, table_in, pointers_in, StandsBefore, IsStageOf}
use Rattle.place_parts.proofs.Taking.{maps_are, maps_decls}

abbrev Table : Type 0
Table = List (Option (Operand (Name Part)))

-- lists and tables of a place
pub record AreInputs (d : PipelinePlan) (k : ℕ) (before : StageSources) (rows made held those held_those : List ℕ) (table pointers : Table) : Type 0 where
  pub rows_are : rows ≡ (plan_in d).rows
  pub made_are : made ≡ made_in d k
  pub held_are : held ≡ held_in d k
  pub those_are : those ≡ made_pointers_in d k
  pub held_those_are : held_those ≡ held_pointers_in d k
  pub table_is : table ≡ table_in before
  pub pointers_are : pointers ≡ pointers_in before

module _ (d : PipelinePlan) (is : IsPipelinePlan d) where
  abbrev p : ProgramView
  p = program_in d

  staged_in : IsStaged p (row_in d) (decls_in d) d.bits
  staged_in = record {
    formed = is.ready.formed;
    fits = is.ready.fits;
    aligned = is.ready.aligned;
    few = is.few_sites;
    wide = record { some = omega (arith, is.bits.some); most = omega (arith, is.bits.most) };
    room = is.bits.updates;
    reads = is.ready.reads;
  }

  pub staged_over : (maps : List (MapNets (Name Part))) (rows : List ℕ) → AreMapsFor d maps → rows ≡ (plan_in d).rows → IsStaged p (slice_index rows) (decls_of maps) d.bits
  staged_over maps rows fit same = coe 1 0 (i. IsStaged p (slice_index (same i)) (maps_decls d maps fit i) d.bits) staged_in

  module _ (k : ℕ) (before : StageSources) (stands : StandsBefore d k before) where
    pub nets_are :
        (nets : StageNets (Name Part)) (maps : List (MapNets (Name Part))) (words : List (Operand (Name Part))) → nets.bits ≡ d.bits → nets.sites.now ≡ before.sites.items → nets.maps.now ≡ maps → nets.words.now ≡ words → AreMapsFor d maps
        → length words ≡ length p.sites → All IsOperand words → AreNets p nets
    nets_are nets maps words bits sites same_maps same_words fit count operands = record {
      count = ap length sites ∙ stands.sites.count;
      sites = coe 1 0 (i. (j : ℕ) (x : SiteNets (Name Part)) → j < length p.sites → IsSiteNets p (bits i) j (get_or (sites i) j x)) (sites_are p (table_in before) (pointers_in before) before.sites.items stands.sites.each d.bits stands.table stands.pointers);
      maps = coe 1 0 (i. All (IsMapNets (bits i)) (same_maps i)) (maps_are d maps fit);
      word_count = ap length same_words ∙ count;
      words = subst (All IsOperand) (sym same_words) operands;
    }

    module _ (rows made held those held_those : List ℕ) (table pointers : Table) (x : AreInputs d k before rows made held those held_those table pointers) where
      module _ (staged : AreStaged p (plan_in d) d.needed.items d.parts.items d.points.items) (lists : AreLists p (plan_in d) d.needed.items d.parts.items d.points.items) where
        abbrev Has : ℕ → Type 0
        Has = IsHad p (row_in d) k (table_in before)

        abbrev HasPointer : ℕ → Type 0
        HasPointer = IsPointerHad p (row_in d) k (pointers_in before)

        pub ready : CanMake p.cells (IsHad p (slice_index rows) k table) made
        ready = coe 1 0 (i. CanMake p.cells (IsHad p (slice_index (x.rows_are i)) k (x.table_is i)) (x.made_are i)) (can_make p (plan_in d) d.needed.items d.parts.items d.points.items k Has HasPointer is.needed stands.hand staged lists)

        pub held_ready : All (λ c. IsHad p (slice_index rows) k table c ⊎ Contains made c) held
        held_ready =
            coe 1 0 (i. All (λ c. IsHad p (slice_index (x.rows_are i)) k (x.table_is i) c ⊎ Contains (x.made_are i) c) (x.held_are i)) (held_had p (plan_in d) d.needed.items d.parts.items d.points.items k Has HasPointer is.needed stands.hand staged)

        pub held_wide : All (λ c. 0 < width_at p.cells c) held
        held_wide = subst (All (λ c. 0 < width_at p.cells c)) (sym x.held_are) (lists.wide k)

        pub pointed : CanPoint p.cells (IsHad p (slice_index rows) k table) (IsPointerHad p (slice_index rows) k pointers) made those
        pointed =
            coe 1 0 (i. CanPoint p.cells (IsHad p (slice_index (x.rows_are i)) k (x.table_is i)) (IsPointerHad p (slice_index (x.rows_are i)) k (x.pointers_are i)) (x.made_are i) (x.those_are i))
            (can_point p (plan_in d) d.needed.items d.parts.items d.points.items k Has HasPointer is.needed stands.hand staged lists)

        pub held_pointed : All (λ c. IsPointerHad p (slice_index rows) k pointers c ⊎ Contains those c) held_those
        held_pointed =
            coe 1 0 (i. All (λ c. IsPointerHad p (slice_index (x.rows_are i)) k (x.pointers_are i) c ⊎ Contains (x.those_are i) c) (x.held_those_are i))
            (held_pointers_had p (plan_in d) d.needed.items d.parts.items d.points.items k Has HasPointer is.needed stands.hand staged)

        pub of_row : All (λ c. slice_index rows c ≡ k) those
        of_row = coe 1 0 (i. All (λ c. slice_index (x.rows_are i) c ≡ k) (x.those_are i)) (pointers_of_row p (plan_in d) d.needed.items d.parts.items d.points.items k Has HasPointer is.needed stands.hand staged lists)

      -- ---- the block
      abbrev pub Makes : Part → (ℕ → ℕ) → StageNets (Name Part) → List ℕ → List ℕ → List ℕ → List ℕ → Table → Table → Name Part → List (BlockWireTree (Name Part)) → BlockTree (Name Part) → Type 0
      Makes own row nets made held those held_those table pointers advance ws b =
          (outside : List (Operand (Name Part))) → Contains outside (Net advance 1) → BothThere own outside ws table pointers → NetsAreThere (behind own outside ws) nets → IsStage own p row k nets made held those held_those outside table pointers advance b

      abbrev pub Keeps : Part → (ℕ → ℕ) → List ℕ → Table → List (BlockWireTree (Name Part)) → BlockTree (Name Part) → Type 0
      Keeps own row made table ws b =
          (clean : ℕ → Bool) (marks : List Bool) → TakeClean clean p.cells made → ((c : ℕ) → IsReadHere p row k c → clean c ≡ false) → KeepApart own clean marks ws table → IsApartAlone own b

      pub is_made :
          (own : Part) (advance : Name Part) (nets : StageNets (Name Part)) (ws : List (BlockWireTree (Name Part))) (b : BlockTree (Name Part)) → own ≡ part.place d.sizes k → advance ≡ advances_by d.sizes → nets.bits ≡ d.bits
          → nets.sites.now ≡ before.sites.items → Makes own (slice_index rows) nets made held those held_those table pointers advance ws b → ((v : Env (Name Part)) → Solve v own 0 b.wires → Solve v own 0 ws)
          → Keeps own (slice_index rows) made table ws b → IsStageOf d before nets.maps.now nets.words.now ws k b
      is_made own advance nets ws b here on bits sites makes begun keeps = record {
        nets = nets;
        bits_are = bits;
        sites_are = sites;
        maps_are = refl;
        words_are = refl;
        block = coe 0 1 (i. Makes (here i) (slice_index (x.rows_are i)) nets (x.made_are i) (x.held_are i) (x.those_are i) (x.held_those_are i) (x.table_is i) (x.pointers_are i) (on i) ws b) makes;
        begun = coe 0 1 (i. (v : Env (Name Part)) → Solve v (here i) 0 b.wires → Solve v (here i) 0 ws) begun;
        apart = coe 0 1 (i. Keeps (here i) (slice_index (x.rows_are i)) (x.made_are i) (x.table_is i) ws b) keeps;
      }
