-- The part of a word, as it is made.
use Rattle.std.specs.Prelude.{◌+◌, ◌≤◌, ◌/◌}
use Rattle.std.specs.List.{list_all}
use Rattle.std.proofs.Common.{◌≡◌, ◌∙◌, ℕ, suc, ◌<◌, Bool, true, false, List, [], ◌∷◌, length, get_or, refl, sym, ap, subst, arith}
use Rattle.std.proofs.lemmas.List.{length-map, get_or-map, get_or_default}
use Rattle.hazard_core.specs.xdp_maps.Calls.{change_bytes}
use Rattle.hazard_core.specs.xdp_maps.State.{no_decl}
use Rattle.hazard_core.specs.xdp_machine.Memory.{bytes_in}
use Rattle.hazard_core.specs.bpf_isa.declared.operation.Size.{Size}
use Rattle.hazard_core.specs.bpf_isa.declared.operation.Size.TheVariants.{B, H, W, Dw}
use Rattle.block_core.specs.ProductBlocks.Alone.{wire_flat}
use Rattle.block_core.specs.declared.name.Name.{Name}
use Rattle.block_core.specs.Blocks.{BlockWireTree}
use Rattle.block_core.specs.View.{block_of}
use Rattle.hazard_core.specs.cell_core.declared.site.Act.{Act}
use Rattle.hazard_core.specs.cell_core.declared.site.Act.TheVariants as act
use Rattle.hazard_core.specs.cell_core.Formed.{IsInside}
use Rattle.hazard_core.specs.cell_core.Sites.{ProgramView, SiteView, site_at}
use Rattle.overlay_net.specs.cell_nets.declared.operand.Operand.{Operand}
use Rattle.overlay_net.specs.cell_nets.Operands.{IsOperand, IsAvailable}
use Rattle.overlay_net.specs.cell_nets.Wires.{behind, AreWires}
use Rattle.commit_net.specs.declared.map_block.form.MapForm.{MapForm}
use Rattle.commit_net.specs.MapBlock.Stored.{first_value}
use Rattle.overlay_net.specs.ValueNet.Words.{answers_number, access_start}
use Rattle.overlay_net.specs.declared.site_operands.SiteNets.{SiteNets}
use Rattle.overlay_net.proofs.cell_nets_laws.OperandBlocks.WiringLaws.{no_wires, all_outside}
use Rattle.commit_net.specs.declared.change_net.pointed.PointedWords.{PointedWords}
use Rattle.commit_net.specs.ChangeNet.Pointed.{IsOver, IsPointedWords}
use Rattle.pipe_net.specs.declared.parts.Part.{Part}
use Rattle.pipe_net.specs.Parts as part
use Rattle.pipe_parts.specs.declared.pipe_draft.pipeline_plan.PipelinePlan.{PipelinePlan}
use Rattle.pipe_parts.specs.declared.pipe_draft.places.StageSources.{StageSources}
use Rattle.pipe_parts.specs.PipeDraft.PipelinePlan.{program_in, plan_in, decls_in, IsPipelinePlan}
use Rattle.pipe_parts.specs.PipeDraft.Places.{ArePlaces}
use Rattle.place_parts.specs.Words.{word_row, IsPointerBefore, load_at, load_site, IsWordPart}
use Rattle.place_parts.proofs.Pointing.{load_low, load_answers, row_most, pointer_of}

-- ---- the word of an access is one of its value
some_bytes : (size : Size) → 1 ≤ bytes_in size
some_bytes B = omega arith
some_bytes H = omega arith
some_bytes W = omega arith
some_bytes Dw = omega arith

some_changed : (wide : Bool) → 1 ≤ change_bytes wide
some_changed true = omega arith
some_changed false = omega arith

inside_word : (a : Act) (value : ℕ) → answers_number a ≡ true → IsInside value a → access_start a / 8 + 1 ≤ (value + 7) / 8
inside_word (act.Load at size) value n h = omega (arith, h, some_bytes size)
inside_word (act.Atomic at x) value n h = omega (arith, h, some_changed x.wide)
inside_word a value n h = cc

-- the site after the place before
pub pointer_at : (places : List StageSources) (row k j : ℕ) (pointer : Operand (Name Part)) → row ≡ suc k → ((b : StageSources) (s : SiteNets (Name Part)) → pointer ≡ (get_or (get_or places k b).sites.items j s).pointer) → IsPointerBefore places row j pointer
pointer_at places row k j pointer e is = subst (λ n. IsPointerBefore places n j pointer) (sym e) is

module _ (d : PipelinePlan) (is : IsPipelinePlan d) where
  abbrev p : ProgramView
  p = program_in d

  -- ---- one of the sites that read a word
  module _ (i number : ℕ) (lt : i < length d.loads.items) (same : number ≡ get_or d.loads.items i number) where
    pub number_low : number < length p.sites
    number_low = subst (λ n. n < length p.sites) (sym same) (load_low d is i number lt)

    pub number_answers : answers_number (site_at p.sites number).act ≡ true
    number_answers = subst (λ n. answers_number (site_at p.sites n).act ≡ true) (sym same) (load_answers d is i number lt)

    number_is : number ≡ load_at d i
    number_is = same ∙ get_or_default d.loads.items i number 0 lt

    abbrev site : SiteView
    site = site_at p.sites number

    -- ---- its map
    module _ (form : MapForm) (map : ℕ) (map_is : map ≡ site.map) (form_is : form ≡ get_or d.forms.items map form) where
      map_low : map < length d.forms.items
      map_low = omega (arith, map_is, (is.ready.fits number number_low).map, length-map d.forms.items (λ (f : MapForm). f.decl))

      decl_is : get_or (decls_in d) site.map no_decl ≡ form.decl
      decl_is = ap (λ m. get_or (decls_in d) m no_decl) (sym map_is) ∙ get_or-map (λ (f : MapForm). f.decl) d.forms.items map form no_decl map_low ∙ ap (λ (f : MapForm). f.decl) (sym form_is)

      pub word_inside : (a : Act) → a ≡ site.act → access_start a / 8 + 1 ≤ (form.decl.value + 7) / 8
      word_inside a e =
          let same_act = sym e in
          inside_word a form.decl.value (ap answers_number e ∙ number_answers) (coe 0 1 (t. IsInside (decl_is t).value (same_act t)) (is.ready.fits number number_low).inside)

      -- ---- its part
      module _ (places : List StageSources) (stand : ArePlaces d places) (row : ℕ) (row_is : row ≡ word_row d number) (pointer : Operand (Name Part)) (before : IsPointerBefore places row number pointer) where
        row_low : row ≤ (plan_in d).last
        row_low = omega (arith, row_is, row_most d is number)

        pub slot_operand : IsOperand pointer
        slot_operand = (pointer_of d is places stand row number pointer row_low number_low before).operand

        -- what it is made of
        abbrev pub Makes : Part → Part → List (BlockWireTree (Name Part)) → ℕ → MapForm → ℕ → PointedWords (Name Part) → Type 0
        Makes own of ws first f from x =
            (outside : List (Operand (Name Part))) → IsOver own outside ws pointer → IsPointedWords own of outside ws pointer 2 f.bits first f.decl.value from 1 x.slot x.words.items (block_of x.block)

        pub made_word :
            (own of : Part) (ws : List (BlockWireTree (Name Part))) (first from : ℕ) (a : Act) (x : PointedWords (Name Part)) → own ≡ part.word d.sizes i → of ≡ part.own d.sizes map → ws ≡ [] → first ≡ first_value form.decl → a ≡ site.act
            → from ≡ access_start a / 8 → Makes own of ws first form from x → IsWordPart d places i x
        made_word own of ws first from a x here other none first_is act_is from_is makes =
            let over : IsOver own (pointer ∷ []) ws pointer =
            record {
              wires = subst (AreWires own (pointer ∷ [])) (sym none) (no_wires own (pointer ∷ []));
              there = subst (λ xs. IsAvailable (behind own (pointer ∷ []) xs) pointer) (sym none) (all_outside own (pointer ∷ []) 0 pointer (omega arith));
              operand = slot_operand;
              free = λ made. subst (λ (xs : List (BlockWireTree (Name Part))). list_all (wire_flat made) xs ≡ true) (sym none) refl;
            } in
            let same_map : (load_site d i).map ≡ map = ap (λ n. (site_at p.sites n).map) (sym number_is) ∙ sym map_is in
            let same_from : from ≡ access_start (load_site d i).act / 8 = from_is ∙ ap (λ b. access_start b / 8) act_is ∙ ap (λ n. access_start (site_at p.sites n).act / 8) number_is in
            let same_of : of ≡ part.own d.sizes (load_site d i).map = other ∙ ap (part.own d.sizes) (sym same_map) in
            let same_row = row_is ∙ ap (word_row d) number_is in
            record {
              pointer = pointer;
              before = coe 0 1 (t. IsPointerBefore places (same_row t) (number_is t) pointer) before;
              form = form;
              form_is = λ f. ap (λ m. get_or d.forms.items m f) same_map ∙ get_or_default d.forms.items map f form map_low ∙ sym form_is;
              count = (makes (pointer ∷ []) over).count_of_words;
              block = coe 0 1 (t. Makes (here t) (same_of t) (none t) (first_is t) form (same_from t) x) makes;
            }
