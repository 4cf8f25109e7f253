-- What the parts of places of a layout by a pipeline plan read of others, and that they are such.
use Rattle.std.proofs.Common.{◌≡◌, ◌∙◌, ℕ, ◌<◌, All, List, [], ◌∷◌, ◌++◌, length, get_or, inl, inr, refl, sym, ap, subst, arith}
use Rattle.std.proofs.lemmas.List.{get_or-map}
use Rattle.std.proofs.lemmas.List.Elements.{All-nil, All-cons, All-append, Contains-get_or}
use Rattle.block_core.proofs.list_laws_laws.PlaceLaws.{some_of}
use Rattle.hazard_core.specs.xdp_maps.declared.decl.MapDecl.{MapDecl}
use Rattle.hazard_core.specs.xdp_maps.declared.decl.MapKind.{MapKind}
use Rattle.hazard_core.specs.xdp_maps.declared.decl.MapKind.TheVariants.{Hash, Array}
use Rattle.hazard_core.specs.xdp_maps.State.{no_decl}
use Rattle.block_core.specs.declared.name.Name.{Name}
use Rattle.block_core.specs.Blocks.{Whole}
use Rattle.overlay_net.specs.cell_nets.declared.operand.Operand.{Operand}
use Rattle.overlay_net.specs.cell_nets.declared.operand.Operand.TheVariants.{Known, Net}
use Rattle.overlay_net.specs.cell_nets.Operands.{IsAvailable}
use Rattle.hazard_core.specs.Tables.{decl_of}
use Rattle.overlay_net.proofs.cell_nets_laws.AvailableLaws.{available}
use Rattle.hash_net.specs.SlotNet.Slots.{slots_of, operands_of as slot_operands}
use Rattle.commit_net.specs.declared.map_block.form.MapForm.{MapForm}
use Rattle.stage_net.specs.SiteTable.Staged.{StagesArePlaced}
use Rattle.read_net.specs.declared.sites.MapNets.{MapNets}
use Rattle.read_net.specs.Sites.{slot_cells}
use Rattle.pipe_net.specs.declared.parts.Part.{Part}
use Rattle.pipe_net.specs.Layout.{Layout, program_of}
use Rattle.pipe_net.specs.PipePlaces.Layout.{load_sites}
use Rattle.pipe_net.specs.PipePlaces.Parts.{AreWords}
use Rattle.pipe_net.specs.PipeForms.Reading.{map_shown_as, map_shown, IsReadAt, Advance, Before, OfMap, OfWord}
use Rattle.pipe_parts.specs.declared.pipe_draft.pipeline_plan.PipelinePlan.{PipelinePlan}
use Rattle.pipe_parts.specs.declared.pipe_draft.places.StageSources.{StageSources}
use Rattle.pipe_parts.specs.PipeDraft.PipelinePlan.{program_in, plan_in}
use Rattle.pipe_parts.specs.PipeDraft.Laid.{IsPipelinePlanned, PipelinePlannedAreLaid}
use Rattle.place_parts.specs.declared.parts.PlaceParts.{PlaceParts}
use Rattle.place_parts.specs.Words.{load_at, word_row, IsWordNet}
use Rattle.place_parts.specs.Places.{advances_by}
use Rattle.place_parts.specs.Laws.{ArePlacesOf}
use Rattle.place_parts.proofs.Standing.{before_in}
use Rattle.place_parts.proofs.Taking.{slot_nets, slots_all}
use Rattle.place_parts.proofs.Places.{place_outside}
use Rattle.place_parts.proofs.PipelinePlanned.{AreGiven, sizes_same, many_forms, all_before, loads_same}
use Rattle.place_parts.proofs.PipelinePlannedWords.{load_there, row_low, is_word, words_of}
use Rattle.place_parts.proofs.PipelinePlannedPlaces.{is_place, place_alone, enters}

no_form : MapForm
no_form = record { number = 0; bits = 0; decl = no_decl }

module _ (d : PipelinePlan) (places : List StageSources) (maps : List (MapNets (Name Part))) (r : PlaceParts) (l : Layout) (w : Whole Part) (g : AreGiven d places maps r l w) where
  abbrev from : IsPipelinePlanned d places l
  from = g.for.pipeline_planned

  abbrev words : AreWords l w
  words = words_of d places maps r l w g

  module _ (k : ℕ) where
    abbrev Reads : Operand (Name Part) → Type 0
    Reads a = IsReadAt l w words k a

    -- ---- of maps
    map_by : (m : ℕ) (n : MapNets (Name Part)) → m < length l.decls → (kind : MapKind) → (decl_of l.decls m).kind ≡ kind → All Reads (slot_cells (get_or maps m n))
    map_by m n lt Hash e =
        let cells = slot_cells (get_or maps m n) in
        let here = g.for.maps m n lt in
        let used = here.used e in
        let slots = here.slots e in
        let is_shown : cells ≡ map_shown l m = (λ t. used t ∷ slot_operands (slots t)) ∙ ap (λ kind. map_shown_as kind l m) (sym e) in
        λ i a within. OfMap m lt (subst (λ ins. IsAvailable ins (get_or cells i a)) is_shown (available cells (get_or cells i a) (Contains-get_or cells i a within)))
    map_by m n lt Array e =
        let low : m < length d.forms.items = omega (arith, lt, many_forms d places l from) in
        let same = get_or-map (λ (f : MapForm). f.decl) d.forms.items m no_form no_decl low in
        let kind = ap (λ (x : MapDecl). x.kind) (sym same) ∙ ap (λ ds. (decl_of ds m).kind) (sym from.decls) ∙ e in
        let x = g.fit.each m n no_form low in
        let used = x.uncounted kind in
        let slots = x.none kind in
        let none : slot_cells (get_or maps m n) ≡ Known 0 ∷ [] = λ t. used t ∷ slot_operands (slots_of (slots t)) in
        subst (All Reads) (sym none) (All-cons Reads (Known 0) [] (Before tt) (All-nil Reads))

    -- ---- of words
    word_by : (a : Operand (Name Part)) → IsWordNet r.words.items a → Reads a
    unfolding is_word
    word_by a (inl e) = subst Reads (sym e) (Before tt)
    word_by a (inr h) =
        let there : h.0 < length (load_sites (program_of l)) = omega (arith, h.1, g.are.words.count, ap length (loads_same d places l from g.is)) in
        OfWord h.0 there (h.2 (some_of r.words.items h.0 (omega (arith, load_there d places maps r l w g h.0 there, g.are.words.count))))

    -- ---- all of it
    all_read : All Reads (place_outside d maps g.are.nets k)
    all_read =
        let many : length maps ≡ length l.decls = g.fit.count ∙ sym (many_forms d places l from) in
        let of_maps = slots_all Reads maps (λ m n lt. map_by m n (omega (arith, lt, many)) (decl_of l.decls m).kind refl) in
        let of_words : All Reads g.are.nets = λ i a lt. word_by (get_or g.are.nets i a) (g.are.are.only i a lt) in
        let advances = ap (λ z. Net (advances_by z) 1) (sizes_same d places l from) in
        All-cons Reads (Net (advances_by d.sizes) 1) (before_in d k ++ (slot_nets maps ++ g.are.nets)) (Advance advances)
        (All-append Reads (before_in d k) (slot_nets maps ++ g.are.nets) (λ i a lt. Before (all_before d places l from k i a lt)) (All-append Reads (slot_nets maps) g.are.nets of_maps of_words))

  pub are_places : StagesArePlaced → PipelinePlannedAreLaid → ArePlacesOf l w
  unfolding is_word is_place
  are_places placed laid =
      let staged = placed (program_in d) (plan_in d) d.needed.items d.parts.items d.points.items g.is.ready.formed g.is.ready.planned g.is.needed g.is.parts g.is.points in
      record {
        stages = record { laid = laid d places l g.is g.stand from g.for.answered; words = words; places = is_place d places maps r l w g staged; enters = enters d places maps r l w g staged };
        readings = record { row = row_low d places maps r l w g; word = λ i there. all_before d places l from (word_row d (load_at d i)); place = λ k le. all_read k };
        apart = place_alone d places maps r l w g staged;
      }
