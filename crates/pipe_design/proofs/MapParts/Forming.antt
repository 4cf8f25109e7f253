-- The maps of a pipeline plan as their blocks see them.
use Rattle.std.proofs.Common.{◌≡◌, ◌∙◌, ℕ, ◌<◌, length, get_or, ap, arith}
use Rattle.std.proofs.lemmas.List.{length-map, get_or-map}
use Rattle.hazard_core.specs.xdp_maps.declared.decl.MapDecl.{MapDecl}
use Rattle.hazard_core.specs.xdp_maps.State.{no_decl}
use Rattle.hazard_core.specs.Tables.{decl_of}
use Rattle.commit_net.specs.declared.map_block.form.MapForm.{MapForm}
use Rattle.commit_net.specs.MapBlock.Forms.{FormFits}
use Rattle.pipe_net.specs.declared.parts.Sizes.{Sizes}
use Rattle.pipe_parts.specs.declared.pipe_draft.pipeline_plan.PipelinePlan.{PipelinePlan}
use Rattle.pipe_parts.specs.PipeDraft.PipelinePlan.{decls_in, IsPipelinePlan}

-- forms are the same where all of them is
pub form_is : (f g : MapForm) → f.number ≡ g.number → f.bits ≡ g.bits → f.decl ≡ g.decl → f ≡ g
form_is f g n b e =
    ap (λ (k : ℕ). record { number = k; bits = f.bits; decl = f.decl }) n ∙ ap (λ (k : ℕ). record { number = g.number; bits = k; decl = f.decl }) b
    ∙ ap (λ (d : MapDecl). record { number = g.number; bits = g.bits; decl = d }) e

module _ (d : PipelinePlan) (is : IsPipelinePlan d) where
  pub many : length (decls_in d) ≡ length d.forms.items
  many = length-map d.forms.items (λ (f : MapForm). f.decl)

  pub maps_are : d.sizes.maps ≡ length (decls_in d)
  maps_are = ap (λ (z : Sizes). z.maps) is.sizes

  module _ (m : ℕ) (known : m < length d.forms.items) where
    pub form_fits : (f : MapForm) → FormFits (get_or d.forms.items m f)
    form_fits f = is.forms.form_fits m f known

    pub number_is : (f : MapForm) → (get_or d.forms.items m f).number ≡ m
    number_is f = is.forms.number m f known

    pub within : (f : MapForm) → (get_or d.forms.items m f).number < d.sizes.maps
    within f = omega (arith, number_is f, known, many, maps_are)

    pub decl_is : (f : MapForm) → decl_of (decls_in d) m ≡ (get_or d.forms.items m f).decl
    decl_is f = get_or-map (λ (f : MapForm). f.decl) d.forms.items m f no_decl known
