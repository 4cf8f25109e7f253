-- The forms of maps, one after another.
use Rattle.std.proofs.Common.{◌≡◌, ◌∙◌, ℕ, ◌<◌, List, length, get_or, arith}
use Rattle.std.proofs.lemmas.List.{length-map, get_or-map, ext_get_or}
use Rattle.hazard_core.specs.xdp_maps.declared.decl.MapDecl.{MapDecl}
use Rattle.hazard_core.specs.xdp_maps.State.{no_decl}
use Rattle.commit_net.specs.declared.map_block.form.MapForm.{MapForm}
use Rattle.commit_net.specs.MapBlock.Forms.{FormFits}
use Rattle.pipe_parts.specs.PipeDraft.PipelinePlan.{decls_of, AreForms}

-- a form of the map of this number, declared so
pub record IsFormOf (m : ℕ) (d : MapDecl) (f : MapForm) : Type 0 where
  pub number : f.number ≡ m
  pub decl : f.decl ≡ d
  pub form_fits : FormFits f

no_form : MapForm
no_form = record { number = 0; bits = 0; decl = no_decl }

module _ (decls : List MapDecl) (forms : List MapForm) (count : length forms ≡ length decls) (each : (m : ℕ) (f : MapForm) (d : MapDecl) → m < length decls → IsFormOf m (get_or decls m d) (get_or forms m f)) where
  pub decls_are : decls_of forms ≡ decls
  decls_are =
      ext_get_or no_decl (decls_of forms) decls (length-map forms (λ (f : MapForm). f.decl) ∙ count)
      (λ m lt. let within : m < length forms = omega (arith, lt, length-map forms (λ (f : MapForm). f.decl)) in get_or-map (λ (f : MapForm). f.decl) forms m no_form no_decl within ∙ (each m no_form no_decl (omega (arith, within, count))).decl)

  pub are_forms : AreForms forms
  are_forms = record {
    form_fits = λ m f lt. (each m f no_decl (omega (arith, lt, count))).form_fits;
    number = λ m f lt. (each m f no_decl (omega (arith, lt, count))).number;
  }
