use Rattle.std.proofs.Common.{◌≡◌, ◌∙◌, ℕ, ◌+◌, ◌<◌, length, get_or, sym, subst, arith}
use Rattle.std.proofs.lemmas.List.{get_or_default}
use Rattle.block_core.proofs.list_laws_laws.PlaceLaws.{each_more, one_more}
use Rattle.hazard_core.specs.xdp_maps.declared.decl.MapDecl.{MapDecl}
use Rattle.commit_net.specs.declared.map_block.form.MapForm.{MapForm}
use Rattle.pipe_parts.proofs.PipeDraft.Forming.{IsFormOf, decls_are, are_forms}
use Rattle.pipe_parts.proofs.pipe_draft.forms.forms_of.Goals as goal

pub loop-number-preserved : goal.loop-number-preserved
loop-number-preserved c =
    let inv = c.loop-number.invariant in
    let decls = c.args.decls.now in
    let n = c.loop-number.number in
    let x = c.form_of-form.result in
    let P : ℕ → MapForm → Type 0 = λ m f. (d : MapDecl) → IsFormOf m (get_or decls m d) f in
    let within : n < length decls = omega arith in
    let is : (d : MapDecl) → x.decl ≡ get_or decls n d = λ d. c.form_of-form.ensures.decl ∙ c.index-decls-number.is ∙ get_or_default decls n _ d within in
    let made : P n x = λ d. record { number = c.form_of-form.ensures.number; decl = is d; form_fits = c.form_of-form.ensures.form_fits } in
    let more = each_more P c.loop-number.forms.items n x inv.count (λ m f l d. inv.each m f d l) made in
    subst (λ xs. record { count : length xs ≡ n + 1; each : (m : ℕ) (f : MapForm) (d : MapDecl) → m < n + 1 → IsFormOf m (get_or decls m d) (get_or xs m f) }) (sym c.in_ok-push.ensures.items)
    (record { count = one_more c.loop-number.forms.items n x inv.count; each = λ m f d l. more m f l d })

pub returns-clause-decls : goal.returns-clause-decls
returns-clause-decls c =
    let inv = c.loop-number.invariant in
    let all : c.loop-number.number ≡ length c.args.decls.now = omega arith in
    decls_are c.args.decls.now c.loop-number.forms.items (inv.count ∙ all) (λ m f d l. inv.each m f d (omega (arith, l, all)))

pub returns-clause-forms : goal.returns-clause-forms
returns-clause-forms c =
    let inv = c.loop-number.invariant in
    let all : c.loop-number.number ≡ length c.args.decls.now = omega arith in
    are_forms c.args.decls.now c.loop-number.forms.items (inv.count ∙ all) (λ m f d l. inv.each m f d (omega (arith, l, all)))
