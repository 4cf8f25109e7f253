use Rattle.std.proofs.Common.{◌≡◌, ◌∙◌, ℕ, ◌+◌, ◌<◌, List, length, get_or, sym, ap, subst, arith}
use Rattle.std.proofs.lemmas.List.{length_push, get_or_default}
use Rattle.block_core.proofs.list_laws_laws.PlaceLaws.{each_more}
use Rattle.block_core.specs.declared.name.Name.{Name}
use Rattle.block_core.specs.declared.name.Name.TheVariants as name
use Rattle.commit_net.specs.declared.map_block.form.MapForm.{MapForm}
use Rattle.commit_net.specs.MapBlock.Stored.{host_word}
use Rattle.pipe_net.specs.declared.parts.Part.{Part}
use Rattle.pipe_net.specs.Parts as part
use Rattle.pipe_parts.specs.PipeDraft.PipelinePlan.{decls_in}
use Rattle.pipe_design.proofs.MapParts.Forming.{many, number_is}
use Rattle.pipe_design.proofs.map_parts.words.host_words.Goals as goal

pub loop-m-preserved : goal.loop-m-preserved
loop-m-preserved c =
    let d = c.args.pipeline_plan.now in
    let l = c.loop-m in
    let n = c.host_word.result in
    let form = c.index.result.now in
    let known : l.m < length d.forms.items = omega (arith, c.loop-m-test.true, c.len-m-end.ensures) in
    let same : (f : MapForm) → form ≡ get_or d.forms.items l.m f = λ f. c.index.ensures ∙ get_or_default d.forms.items l.m form f known in
    let here : (f : MapForm) → n ≡ host_word (get_or d.forms.items l.m f) (part.own d.sizes l.m) = λ f.
    c.host_word.ensures ∙ ap (λ (g : MapForm). host_word g (part.own d.sizes g.number)) (same f) ∙ ap (λ m. host_word (get_or d.forms.items l.m f) (part.own d.sizes m)) (number_is d c.requires l.m known f) in
    record {
      count = ap length c.in_ok-push.ensures.items ∙ length_push l.words.items n ∙ omega (arith, l.invariant.count);
      each = subst (λ (ns : List (Name Part)). (m : ℕ) (e : Name Part) → m < l.m + 1 → (f : MapForm) → get_or ns m e ≡ host_word (get_or d.forms.items m f) (part.own d.sizes m)) (sym c.in_ok-push.ensures.items)
          (each_more (λ m (e : Name Part). (f : MapForm) → e ≡ host_word (get_or d.forms.items m f) (part.own d.sizes m)) l.words.items l.m n l.invariant.count l.invariant.each here);
    }

pub returns : goal.returns
returns c =
    let d = c.args.pipeline_plan.now in
    let l = c.loop-m in
    let whole : l.m ≡ length (decls_in d) = omega (arith, c.loop-m-test.false, c.loop-m.auto, c.len-m-end.ensures, many d c.requires) in
    record { count = l.invariant.count ∙ whole; each = λ m f lt. l.invariant.each m (name.Port 0) (omega (arith, lt, whole)) f }
