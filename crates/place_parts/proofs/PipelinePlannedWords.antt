-- The parts of words of a layout by a pipeline plan.
use Rattle.std.specs.Prelude.{Some, ◌/◌, ◌≤◌, slice_index}
use Rattle.std.proofs.Common.{◌≡◌, ◌∙◌, ℕ, suc, ◌<◌, List, [], ◌∷◌, ◌++◌, length, get_or, refl, sym, ap, subst, arith}
use Rattle.std.proofs.lemmas.List.{get_or-map}
use Rattle.block_core.proofs.list_laws_laws.PlaceLaws.{some_of}
use Rattle.hazard_core.specs.xdp_maps.declared.decl.MapDecl.{MapDecl}
use Rattle.hazard_core.specs.xdp_maps.State.{no_decl}
use Rattle.block_core.specs.declared.name.Name.{Name}
use Rattle.block_core.specs.Blocks.{BlockTree, Whole}
use Rattle.hazard_core.specs.cell_core.Cells.{cell_at, site_in}
use Rattle.hazard_core.specs.cell_core.Sites.{SiteView, ProgramView, site_at}
use Rattle.overlay_net.specs.cell_nets.declared.operand.Operand.{Operand}
use Rattle.hazard_core.specs.Tables.{decl_of}
use Rattle.commit_net.specs.declared.map_block.form.MapForm.{MapForm}
use Rattle.commit_net.specs.MapBlock.Stored.{first_value}
use Rattle.overlay_net.specs.ValueNet.Words.{access_start}
use Rattle.stage_net.specs.SiteTable.Sites.{site_operands, access_operand}
use Rattle.stage_net.proofs.SiteTable.SiteLaws.{site_is}
use Rattle.overlay_net.proofs.cell_nets_laws.OperandBlocks.WiringLaws.{no_wires}
use Rattle.read_net.specs.declared.sites.MapNets.{MapNets}
use Rattle.commit_net.specs.declared.change_net.pointed.PointedWords.{PointedWords}
use Rattle.commit_net.specs.ChangeNet.Pointed.{IsOver, IsPointedWords}
use Rattle.pipe_net.specs.declared.parts.Part.{Part}
use Rattle.pipe_net.specs.declared.parts.Sizes.{Sizes}
use Rattle.pipe_net.specs.Parts as part
use Rattle.pipe_net.specs.Layout.{Layout, program_of, cells_of, last_of}
use Rattle.pipe_net.specs.PipePlaces.Layout.{load_sites}
use Rattle.pipe_net.specs.PipePlaces.Parts.{IsWord, AreWords}
use Rattle.pipe_parts.specs.declared.pipe_draft.pipeline_plan.PipelinePlan.{PipelinePlan}
use Rattle.pipe_parts.specs.declared.pipe_draft.places.StageSources.{StageSources}
use Rattle.pipe_parts.specs.PipeDraft.PipelinePlan.{program_in, decls_in}
use Rattle.pipe_parts.specs.PipeDraft.Laid.{IsPipelinePlanned}
use Rattle.place_parts.specs.declared.parts.PlaceParts.{PlaceParts}
use Rattle.place_parts.specs.Words.{word_row, load_at, load_site, IsWordPart}
use Rattle.place_parts.specs.Places.{pointers_in}
use Rattle.place_parts.proofs.Available.{in_left}
use Rattle.place_parts.proofs.Standing.{before_in}
use Rattle.place_parts.proofs.Pointing.{read_in_row, row_most, load_low, load_answers, IsPointerOf, pointer_of, pointer_is}
use Rattle.place_parts.proofs.PipelinePlanned.{AreGiven, sizes_same, build_same, program_same, last_same, many_forms, loads_same, many_loads}

one_word : (words : List (Name Part)) (d : Name Part) → length words ≡ 1 → words ≡ get_or words 0 d ∷ []
one_word [] d e = absurd (omega (arith, e))
one_word (w ∷ []) d e = refl
one_word (w ∷ x ∷ rest) d e = absurd (omega (arith, e))

no_form : MapForm
no_form = record { number = 0; bits = 0; decl = no_decl }

module _ (d : PipelinePlan) (places : List StageSources) (maps : List (MapNets (Name Part))) (r : PlaceParts) (l : Layout) (w : Whole Part) (g : AreGiven d places maps r l w) where
  abbrev p : ProgramView
  p = program_in d

  abbrev from : IsPipelinePlanned d places l
  from = g.for.pipeline_planned

  module _ (i : ℕ) (there : i < length (load_sites (program_of l))) where
    pub load_there : i < length d.loads.items
    load_there = omega (arith, there, ap length (loads_same d places l from g.is))

    abbrev some_word : PointedWords (Name Part)
    some_word = some_of r.words.items i (omega (arith, load_there, g.are.words.count))

    abbrev pub word_at : PointedWords (Name Part)
    word_at = get_or r.words.items i some_word

    abbrev word_part : IsWordPart d places i word_at
    word_part = g.are.words.each i some_word load_there

    -- ---- its site
    abbrev j : ℕ
    j = load_at d i

    abbrev load : ℕ
    load = slice_index (load_sites (program_of l)) i

    abbrev row : ℕ
    row = word_row d j

    pub same_load : j ≡ load
    same_load = ap (λ js. slice_index js i) (loads_same d places l from g.is)

    low : j < length p.sites
    low = load_low d g.is i 0 load_there

    abbrev site : SiteView
    site = site_at (program_of l).sites load

    same_site : load_site d i ≡ site
    same_site = let program = program_same d places l from in λ t. site_at (program t).sites (same_load t)

    pub row_low : row ≤ last_of l
    row_low = omega (arith, row_most d g.is j, last_same d places l from)

    pub read_there : (c : ℕ) → c < length (cells_of l) → site_in (cell_at (cells_of l) c).op ≡ Some load → l.build.plan.row c ≡ row
    read_there =
        let build = build_same d places l from in
        coe 0 1 (t. (c : ℕ) → c < length (build t).program.cells → site_in (cell_at (build t).program.cells c).op ≡ Some (same_load t) → (build t).plan.row c ≡ row) (λ c lt e. read_in_row d g.is c j lt e (load_answers d g.is i 0 load_there))

    -- ---- its pointer
    pointing : IsPointerOf d g.is places g.stand row j word_part.pointer
    pointing = pointer_of d g.is places g.stand row j word_part.pointer (row_most d g.is j) low word_part.before

    pointers_later : (k : ℕ) (b : StageSources) → row ≡ suc k → l.pointers row ≡ pointers_in (get_or places k b)
    pointers_later k b e = ap l.pointers e ∙ from.pointers k b (omega (arith, row_low, e))

    same_pointer : word_part.pointer ≡ access_operand (l.pointers row) site.act site.operands
    same_pointer =
        sym (pointer_is d g.is places g.stand row j word_part.pointer (l.pointers row) (row_most d g.is j) low word_part.before (λ e. ap l.pointers e ∙ from.plain) pointers_later)
        ∙ ap (λ (s : SiteView). access_operand (l.pointers row) s.act s.operands) same_site

    word_over : IsOver (part.word d.sizes i) (before_in d row) [] word_part.pointer
    word_over = record {
      wires = no_wires (part.word d.sizes i) (before_in d row);
      there = pointing.there (before_in d row ++ []) (λ a c. in_left (before_in d row) [] a c);
      operand = pointing.operand;
      free = λ made. refl;
    }

    -- ---- its map
    map_low : site.map < length l.decls
    map_low = subst (λ (ds : List MapDecl). site.map < length ds) (sym from.decls) (subst (λ (s : SiteView). s.map < length (decls_in d)) same_site (g.is.ready.fits j low).map)

    same_form : get_or d.forms.items site.map no_form ≡ word_part.form
    same_form = ap (λ (s : SiteView). get_or d.forms.items s.map no_form) (sym same_site) ∙ word_part.form_is no_form

    same_bits : word_part.form.bits ≡ l.slot_bits site.map
    same_bits = sym (from.slot_bits site.map no_form map_low ∙ ap (λ (f : MapForm). f.bits) same_form)

    same_decl : word_part.form.decl ≡ decl_of l.decls site.map
    same_decl =
        sym (ap (λ ds. decl_of ds site.map) from.decls ∙ get_or-map (λ (f : MapForm). f.decl) d.forms.items site.map no_form no_decl (omega (arith, map_low, many_forms d places l from)) ∙ ap (λ (f : MapForm). f.decl) same_form)

    -- ---- its block
    abbrev word : Name Part
    word = get_or word_at.words.items 0 word_at.slot

    abbrev IsBlock : Sizes → SiteView → Operand (Name Part) → ℕ → MapDecl → List (Name Part) → BlockTree (Name Part) → Type 0
    IsBlock z s pointer bits decl words b = IsPointedWords (part.word z i) (part.own z s.map) (before_in d row) [] pointer 2 bits (first_value decl) decl.value (access_start s.act / 8) 1 word_at.slot words b

    pub word_block : IsBlock l.sizes site (access_operand (l.pointers row) site.act site.operands) (l.slot_bits site.map) (decl_of l.decls site.map) (word ∷ []) (w.block (part.word l.sizes i))
    word_block =
        let sizes = sizes_same d places l from in
        let words = one_word word_at.words.items word_at.slot word_part.count in
        let block = sym (g.has.words i some_word (omega (arith, load_there, many_loads d places l from g.is))) in
        coe 0 1 (t. IsBlock (sizes t) (same_site t) (same_pointer t) (same_bits t) (same_decl t) (words t) (block t)) (word_part.block (before_in d row) word_over)

    unfoldable pub is_word : IsWord l w i load
    is_word = record {
      row = row;
      read = read_there;
      nets = site_operands (program_of l) (l.table row) (l.pointers row) load;
      site = site_is (program_of l) (l.table row) (l.pointers row) load (site_operands (program_of l) (l.table row) (l.pointers row) load) refl;
      outside = before_in d row;
      wires = [];
      slot = word_at.slot;
      word = word;
      block = word_block;
    }

  abbrev pub words_of : AreWords l w
  words_of i there = is_word i there
