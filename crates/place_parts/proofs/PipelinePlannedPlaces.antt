-- The places of a layout by a pipeline plan.
use Rattle.std.specs.Prelude.{Option, ◌≤◌, slice_index}
use Rattle.std.proofs.Common.{◌≡◌, ◌∙◌, ℕ, zero, suc, ◌<◌, All, List, length, get_or, sym, ap, subst, arith}
use Rattle.block_core.proofs.list_laws_laws.PlaceLaws.{some_of}
use Rattle.beat_core.specs.Ports.{Arrival}
use Rattle.block_core.specs.net_core.Value.{Env}
use Rattle.block_core.specs.ProductBlocks.Alone.{IsApartAlone}
use Rattle.block_core.specs.declared.name.Name.{Name}
use Rattle.block_core.specs.declared.block.Block.{Block}
use Rattle.block_core.specs.Blocks.{BlockTree, Whole}
use Rattle.block_core.specs.Parts.{Solve}
use Rattle.block_core.specs.View.{block_of}
use Rattle.hazard_core.specs.cell_core.Cells.{CellView, cell_at, value}
use Rattle.overlay_net.specs.cell_nets.declared.operand.Operand.{Operand}
use Rattle.overlay_net.specs.cell_nets.declared.operand.Operand.TheVariants.{Net}
use Rattle.overlay_net.specs.cell_nets.Operands.{AreFit}
use Rattle.frame_net.specs.declared.held.Kept.{Kept}
use Rattle.overlay_net.specs.declared.site_operands.SiteNets.{SiteNets}
use Rattle.overlay_net.specs.SiteOperands.Sites.{operands_of}
use Rattle.row_net.specs.Table.{Holds}
use Rattle.row_net.specs.PlaceNet.Sources.{IsShownIn, packet_in, source_operands}
use Rattle.stage_net.specs.SiteTable.Sites.{IsSiteOf}
use Rattle.stage_net.specs.SiteTable.Staged.{AreStaged}
use Rattle.overlay_net.proofs.cell_nets_laws.OperandBlocks.WiringLaws.{no_wires, all_outside}
use Rattle.read_net.specs.declared.sites.MapNets.{MapNets}
use Rattle.stage_net.specs.declared.row.StageNets.{StageNets}
use Rattle.stage_net.specs.Nets.{decls_of}
use Rattle.stage_net.specs.Stage.{IsStage}
use Rattle.pipe_net.specs.declared.parts.Part.{Part}
use Rattle.pipe_net.specs.declared.parts.Sizes.{Sizes}
use Rattle.pipe_net.specs.Parts as part
use Rattle.pipe_net.specs.Layout.{Layout, program_of, last_of}
use Rattle.pipe_net.specs.PipePlaces.Layout.{load_sites}
use Rattle.pipe_net.specs.PipePlaces.Parts.{advances, IsMapAt, IsPlaceOf, ReadsSources}
use Rattle.pipe_parts.specs.declared.pipe_draft.pipeline_plan.PipelinePlan.{PipelinePlan}
use Rattle.pipe_parts.specs.declared.pipe_draft.places.StageSources.{StageSources}
use Rattle.pipe_parts.specs.PipeDraft.PipelinePlan.{program_in, plan_in}
use Rattle.pipe_parts.specs.PipeDraft.Laid.{IsPipelinePlanned}
use Rattle.place_parts.specs.declared.parts.PlaceParts.{PlaceParts}
use Rattle.place_parts.specs.Places.{advances_by, table_in, pointers_in}
use Rattle.place_parts.proofs.Taking.{maps_decls}
use Rattle.place_parts.proofs.Places.{place_outside, IsPlaceOver, is_stage, first_over, later_over}
use Rattle.place_parts.proofs.PipelinePlanned.{AreGiven, sizes_same, build_same, program_same, last_same}
use Rattle.place_parts.proofs.PipelinePlannedWords.{load_there, same_load, is_word, words_of}

abbrev Table : Type 0
Table = List (Option (Operand (Name Part)))

module _ (d : PipelinePlan) (places : List StageSources) (maps : List (MapNets (Name Part))) (r : PlaceParts) (l : Layout) (w : Whole Part) (g : AreGiven d places maps r l w)
    (staged : AreStaged (program_in d) (plan_in d) d.needed.items d.parts.items d.points.items) where
  abbrev from : IsPipelinePlanned d places l
  from = g.for.pipeline_planned

  abbrev sizes : d.sizes ≡ l.sizes
  sizes = sizes_same d places l from

  -- ---- each place, with what stands before it
  pub record IsPlaceIn (k : ℕ) : Type 0 where
    pub before : StageSources
    pub over : IsPlaceOver d maps g.are.nets k before (w.block (part.place l.sizes k))
    pub table : table_in before ≡ l.table k
    pub pointers : pointers_in before ≡ l.pointers k

  some_block : Block (Name Part)
  some_block = some_of r.places.items 0 (omega (arith, g.are.stages.count))

  first_in : IsPlaceIn 0
  first_in =
      let x = g.are.first some_block in
      record {
        before = x.before;
        over = subst (IsPlaceOver d maps g.are.nets 0 x.before) (sym (g.has.places 0 some_block (omega arith))) (first_over d g.is maps g.are.nets staged r.first.items (block_of (get_or r.places.items 0 some_block)) x);
        table = x.table_is ∙ sym g.for.first;
        pointers = x.arriving.pointers ∙ sym from.plain;
      }

  later_in : (k : ℕ) → suc k ≤ last_of l → IsPlaceIn (suc k)
  later_in k le =
      let last = last_same d places l from in
      let x = some_of places k (omega (arith, le, last, g.stand.count)) in
      let stands = g.stand.each k x (omega (arith, le, last)) in
      let later = g.are.stages.later k some_block (omega (arith, le, last)) x in
      record {
        before = get_or places k x;
        over = subst (IsPlaceOver d maps g.are.nets (suc k) (get_or places k x)) (sym (g.has.places (suc k) some_block le)) (later_over d g.is maps g.are.nets staged k (get_or places k x) (block_of (get_or r.places.items (suc k) some_block)) stands later);
        table = sym (from.table k x (omega (arith, le)));
        pointers = sym (from.pointers k x (omega (arith, le)));
      }

  pub place_in : (k : ℕ) → k ≤ last_of l → IsPlaceIn k
  place_in zero le = first_in
  place_in (suc k) le = later_in k le

  module _ (k : ℕ) (le : k ≤ last_of l) where
    abbrev at : IsPlaceIn k
    at = place_in k le

    abbrev block : BlockTree (Name Part)
    block = w.block (part.place l.sizes k)

    abbrev nets : StageNets (Name Part)
    nets = at.over.stage.nets

    abbrev outside : List (Operand (Name Part))
    outside = place_outside d maps g.are.nets k

    pub stage_in : IsStage (part.place l.sizes k) (program_of l) l.build.plan.row k nets (l.made k) (l.held k) (l.made_pointers k) (l.held_pointers k) outside (l.table k) (l.pointers k) (advances l) block
    stage_in =
        let build = build_same d places l from in
        let made = sym (from.made k) in
        let held = sym (from.held k) in
        let those = sym (from.made_pointers k) in
        let held_those = sym (from.held_pointers k) in
        coe 0 1 (t. IsStage (part.place (sizes t) k) (build t).program (build t).plan.row k nets (made t) (held t) (those t) (held_those t) outside (at.table t) (at.pointers t) (advances_by (sizes t)) block) (is_stage d g.is maps g.are.nets k at.before block at.over)

    pub sites_in : (j : ℕ) (s : SiteNets (Name Part)) → j < length (program_of l).sites → IsSiteOf (program_of l) (l.table k) (l.pointers k) j (operands_of (get_or nets.sites.now j s))
    sites_in =
        let program = program_same d places l from in
        let sites = sym at.over.stage.sites_are in
        coe 0 1 (t. (j : ℕ) (s : SiteNets (Name Part)) → j < length (program t).sites → IsSiteOf (program t) (at.table t) (at.pointers t) j (operands_of (get_or (sites t) j s))) at.over.sites.each

    pub words_in : (i : ℕ) (a : Operand (Name Part)) (there : i < length (load_sites (program_of l))) → (words_of d places maps r l w g i there).row ≡ k
        → get_or nets.words.now (slice_index (load_sites (program_of l)) i) a ≡ Net (words_of d places maps r l w g i there).word 64
    unfolding is_word
    words_in i a there e =
        let here = load_there d places maps r l w g i there in
        ap (λ ns. get_or ns (slice_index (load_sites (program_of l)) i) a) at.over.stage.words_are ∙ ap (λ n. get_or g.are.nets n a) (sym (same_load d places maps r l w g i there))
        ∙ g.are.are.read i (some_of r.words.items i (omega (arith, here, g.are.words.count))) a here

    unfoldable pub is_place : IsPlaceOf l w (words_of d places maps r l w g) k
    is_place = record {
      nets = nets;
      bits = at.over.stage.bits_are ∙ sym from.bits;
      decls = ap decls_of at.over.stage.maps_are ∙ maps_decls d maps g.fit ∙ sym from.decls;
      sites = sites_in;
      maps = λ m n lt. subst (λ ms. IsMapAt l w m (get_or ms m n)) (sym at.over.stage.maps_are) (g.for.maps m n lt);
      words = words_in;
      outside = outside;
      block = stage_in;
    }

    pub place_alone : IsApartAlone (part.place l.sizes k) block
    place_alone = coe 0 1 (t. IsApartAlone (part.place (sizes t) k) block) at.over.alone

  -- ---- the first place reads what is shown of a frame
  abbrev ReadBy : Sizes → List Kept → List CellView → List ℕ → Table → Table → BlockTree (Name Part) → Type 0
  ReadBy z ks cells sources constants table b =
      (v : Env (Name Part)) (a : Arrival) (val : ℕ → ℕ) → AreFit v (source_operands (part.sources z) ks) → Solve v (part.place z 0) 0 b.wires → IsShownIn (part.sources z) ks v a → All (λ k. val k ≡ value (packet_in a) val (cell_at cells k)) sources
      → Holds v constants val → Holds v table val

  pub enters : ReadsSources l (w.block (part.place l.sizes 0)).wires
  enters =
      let x = g.are.first some_block in
      let shown = source_operands (part.sources d.sizes) d.kept.items in
      let build = build_same d places l from in
      let kept = sym from.kept in
      let sources = sym from.sources in
      let constants = sym from.constants in
      let table = x.table_is ∙ sym g.for.first in
      let first = sym (g.has.places 0 some_block (omega arith)) in
      coe 0 1 (t. ReadBy (sizes t) (kept t) (build t).program.cells (sources t) (constants t) (table t) (first t))
      (λ v a val fits solve seen values holds. x.arriving.sourced.value shown v a val (no_wires (part.place d.sizes 0) shown) (all_outside (part.place d.sizes 0) shown) fits (x.stage.begun v solve) seen values holds)
