-- The blocks of places, whatever comes from outside.
use Rattle.std.specs.Prelude.{Option}
use Rattle.std.proofs.Common.{◌∙◌, ℕ, suc, All, List, [], ◌∷◌, ◌++◌, get_or, refl, sym, subst, arith}
use Rattle.block_core.specs.ProductBlocks.Alone.{IsApartAlone}
use Rattle.block_core.proofs.ProductBlocks.FreeLaws.{all_marked}
use Rattle.block_core.specs.declared.name.Name.{Name}
use Rattle.block_core.specs.Blocks.{BlockTree, BlockWireTree}
use Rattle.overlay_net.specs.cell_nets.declared.operand.Operand.{Operand}
use Rattle.overlay_net.specs.cell_nets.declared.operand.Operand.TheVariants.{Net}
use Rattle.overlay_net.specs.cell_nets.Operands.{IsAvailable}
use Rattle.overlay_net.specs.cell_nets.Wires.{behind, own}
use Rattle.row_net.specs.Lists.{is_early}
use Rattle.row_net.proofs.ApartLaws.{free_keep}
use Rattle.row_net.specs.Table.{AreThere}
use Rattle.row_net.specs.PlaceNet.Sources.{source_operands}
use Rattle.row_net.specs.SitePlace.PointerNets.{BothThere}
use Rattle.stage_net.specs.SiteTable.Staged.{AreStaged}
use Rattle.stage_net.proofs.SiteTable.TableLaws.{plain_there}
use Rattle.overlay_net.proofs.cell_nets_laws.OperandBlocks.WiringLaws.{no_wires}
use Rattle.read_net.specs.declared.sites.MapNets.{MapNets}
use Rattle.read_net.specs.Sites.{slot_cells}
use Rattle.overlay_net.specs.declared.site_operands.SiteNets.{SiteNets}
use Rattle.overlay_net.specs.SiteOperands.Sites.{operands_of, all_of}
use Rattle.stage_net.specs.Nets.{NetsAreThere}
use Rattle.stage_net.specs.Stage.{IsStage}
use Rattle.stage_net.proofs.ApartLaws.{reads_late, behind_apart}
use Rattle.stage_net.proofs.NetLaws.{sites_there}
use Rattle.pipe_net.specs.declared.parts.Part.{Part}
use Rattle.pipe_net.specs.Parts as part
use Rattle.pipe_parts.specs.declared.pipe_draft.pipeline_plan.PipelinePlan.{PipelinePlan}
use Rattle.pipe_parts.specs.declared.pipe_draft.places.StageSources.{StageSources}
use Rattle.pipe_parts.specs.PipeDraft.PipelinePlan.{program_in, plan_in, IsPipelinePlan}
use Rattle.pipe_parts.specs.PipeDraft.Places.{AreSitesOf, AreStageSources}
use Rattle.place_parts.specs.Places.{advances_by, row_in, made_in, held_in, made_pointers_in, held_pointers_in, table_in, pointers_in, IsStageOf, IsFirstPlace}
use Rattle.place_parts.proofs.Available.{IsIn, all_available, in_left, in_right, in_rest}
use Rattle.place_parts.proofs.Standing.{before_in, cells_there, pointers_there}
use Rattle.place_parts.proofs.Taking.{slot_nets, slots_in}

-- ---- all that a place reads
abbrev pub place_outside : PipelinePlan → List (MapNets (Name Part)) → List (Operand (Name Part)) → ℕ → List (Operand (Name Part))
place_outside d maps words k = Net (advances_by d.sizes) 1 ∷ (before_in d k ++ (slot_nets maps ++ words))

-- The place of a row over what stands before it: this is there, whatever else comes from outside.
pub record IsPlaceOver (d : PipelinePlan) (maps : List (MapNets (Name Part))) (words : List (Operand (Name Part))) (k : ℕ) (before : StageSources) (b : BlockTree (Name Part)) : Type 0 where
  pub wires : List (BlockWireTree (Name Part))
  pub sites : AreSitesOf d before.tables before.sites.items
  pub stage : IsStageOf d before maps words wires k b
  pub both : (outside : List (Operand (Name Part))) → IsIn (before_in d k) outside → BothThere (part.place d.sizes k) outside wires (table_in before) (pointers_in before)
  pub alone : IsApartAlone (part.place d.sizes k) b

module _ (d : PipelinePlan) (is : IsPipelinePlan d) (maps : List (MapNets (Name Part))) (words : List (Operand (Name Part))) where
  module _ (k : ℕ) (before : StageSources) (b : BlockTree (Name Part)) (over : IsPlaceOver d maps words k before b) where
    abbrev here : Part
    here = part.place d.sizes k

    abbrev outside : List (Operand (Name Part))
    outside = place_outside d maps words k

    abbrev ins : List (Operand (Name Part))
    ins = behind here outside over.wires

    before_there : IsIn (before_in d k) outside
    before_there a c = in_rest (Net (advances_by d.sizes) 1) (before_in d k ++ (slot_nets maps ++ words)) a (in_left (before_in d k) (slot_nets maps ++ words) a c)

    slots_there : IsIn (slot_nets maps) outside
    slots_there a c = in_rest (Net (advances_by d.sizes) 1) (before_in d k ++ (slot_nets maps ++ words)) a (in_right (before_in d k) (slot_nets maps ++ words) a (in_left (slot_nets maps) words a c))

    words_there : IsIn words outside
    words_there a c = in_rest (Net (advances_by d.sizes) 1) (before_in d k ++ (slot_nets maps ++ words)) a (in_right (before_in d k) (slot_nets maps ++ words) a (in_right (slot_nets maps) words a c))

    from_outside : IsIn outside ins
    from_outside = in_left outside (own here 0 over.wires)

    tables : BothThere here outside over.wires (table_in before) (pointers_in before)
    tables = over.both outside before_there

    nets_there : NetsAreThere ins over.stage.nets
    nets_there = record {
      sites = subst (λ (ss : List (SiteNets (Name Part))). All (λ s. All (IsAvailable ins) (all_of (operands_of s))) ss) (sym over.stage.sites_are)
          (sites_there (program_in d) (table_in before) (pointers_in before) before.sites.items over.sites.each ins over.sites.count tables.cells tables.pointers);
      maps = subst (λ (ms : List (MapNets (Name Part))). All (λ m. All (IsAvailable ins) (slot_cells m)) ms) (sym over.stage.maps_are)
          (λ m n lt. all_available (slot_cells (get_or maps m n)) ins (λ a c. from_outside a (slots_there a (slots_in maps m n lt a c))));
      words = subst (All (IsAvailable ins)) (sym over.stage.words_are) (all_available words ins (λ a c. from_outside a (words_there a c)));
    }

    pub is_stage : IsStage here (program_in d) (row_in d) k over.stage.nets (made_in d k) (held_in d k) (made_pointers_in d k) (held_pointers_in d k) outside (table_in before) (pointers_in before) (advances_by d.sizes) b
    is_stage = over.stage.block outside (0, omega arith, refl) tables nets_there

  module _ (staged : AreStaged (program_in d) (plan_in d) d.needed.items d.parts.items d.points.items) where
    -- ---- the first place
    pub first_over : (table : List (Option (Operand (Name Part)))) (b : BlockTree (Name Part)) (x : IsFirstPlace d maps words table b) → IsPlaceOver d maps words 0 x.before b
    first_over table b x =
        let part_here = part.place d.sizes 0 in
        let s = x.arriving.sourced in
        let shown : (outside : List (Operand (Name Part))) → IsIn (before_in d 0) outside → All (IsAvailable (behind part_here outside [])) (source_operands (part.sources d.sizes) d.kept.items) =
        λ outside more. all_available (before_in d 0) (behind part_here outside []) (λ a c. in_left outside [] a (more a c)) in
        record {
          wires = x.wires;
          sites = x.arriving.sites;
          stage = x.stage;
          both = λ outside more. record {
            wires = s.wires outside (no_wires part_here outside) (shown outside more);
            cells = s.there outside (no_wires part_here outside) (shown outside more) (is.constants.there (behind part_here outside []));
            pointers = subst (AreThere (behind part_here outside x.wires)) (sym (x.arriving.pointers ∙ is.plain)) (plain_there (behind part_here outside x.wires) d.points.items);
          };
          alone = x.stage.apart (is_early (program_in d) (plan_in d) 0) (all_marked x.wires) (staged.apart 0) (reads_late (program_in d) (plan_in d) 0) (free_keep part_here x.wires (table_in x.before) (s.free (λ made. refl)));
        }

    -- ---- a later place
    pub later_over : (k : ℕ) (before : StageSources) (b : BlockTree (Name Part)) → AreStageSources d k before → IsStageOf d before maps words [] (suc k) b → IsPlaceOver d maps words (suc k) before b
    later_over k before b stand stage =
        let part_here = part.place d.sizes (suc k) in
        record {
          wires = [];
          sites = stand.sites;
          stage = stage;
          both = λ outside more.
              let all : IsIn (before_in d (suc k)) (behind part_here outside []) = λ a c. in_left outside [] a (more a c) in
              record {
                wires = no_wires part_here outside;
                cells = cells_there d is k before stand (behind part_here outside []) all;
                pointers = pointers_there d is k before stand (behind part_here outside []) all;
              };
          alone = stage.apart (is_early (program_in d) (plan_in d) (suc k)) [] (staged.apart (suc k)) (reads_late (program_in d) (plan_in d) (suc k))
              (behind_apart (part.place d.sizes k) (program_in d) (plan_in d) d.needed.items d.parts.items d.points.items d.bits k before.tables stand.tables part_here (is_early (program_in d) (plan_in d) (suc k)));
        }
