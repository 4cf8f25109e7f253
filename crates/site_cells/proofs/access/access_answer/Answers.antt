use Rattle.std.proofs.Common.{◌≡◌, ◌∙◌, ◌+◌, ◌<◌, ◌++◌, ◌∷◌, [], ℕ, List, length, arith, ap, subst}
use Rattle.std.proofs.lemmas.List.Elements.{All-push}
use Rattle.cell_core.specs.declared.operator.Operator.TheVariants.{Answer}
use Rattle.operator_cells.specs.Making.{seen, Adds, GrowsWith}
use Rattle.cell_core.specs.Rows.{greatest}
use Rattle.operator_cells.specs.Rising.{Rises}
use Rattle.site_cells.specs.Sited.{sited}
use Rattle.site_cells.proofs.Adding.{read_added, added_alone, next_site, inputs_there}
use Rattle.site_cells.proofs.access.access_answer.Goals as goal

pub answer-requires-clause-earlier : goal.answer-requires-clause-earlier
answer-requires-clause-earlier c =
    inputs_there _ c.args.pointer.now.key.items (c.args.operands.now ++ c.args.pointer.now.found ∷ []) _ c.args.here.pending c.requires.key (All-push (λ i. i < length (seen c.args.cells.now.items)) _ _ c.requires.operands c.requires.found) c.requires.pending
    (c.deref-3.ensures.value ∙ c.in_ok-ins.ensures ∙ ap (λ (xs : List ℕ). xs ++ c.deref-2.result.now ++ c.args.here.pending ∷ []) c.deref.ensures
    ∙ ap (λ (xs : List ℕ). c.args.pointer.now.key.items ++ xs ++ c.args.here.pending ∷ []) (c.deref-2.ensures.value ∙ c.in_ok-push.ensures.items ∙ ap (λ (xs : List ℕ). xs ++ c.args.pointer.now.found ∷ []) c.in_ok-all.ensures.items))

pub returns : goal.returns
returns c =
    let site : c.in-Ok.site ≡ length (sited c.args.sites.now.items) = next_site c.args.sites.now.items c.in-Ok.site (omega (arith, c.in-Ok.ensures, c.len.ensures)) in
    let ins : c.deref-3.result.now ≡ c.args.pointer.now.key.items ++ (c.args.operands.now ++ c.args.pointer.now.found ∷ []) ++ c.args.here.pending ∷ [] =
    c.deref-3.ensures.value ∙ c.in_ok-ins.ensures ∙ ap (λ (xs : List ℕ). xs ++ c.deref-2.result.now ++ c.args.here.pending ∷ []) c.deref.ensures
    ∙ ap (λ (xs : List ℕ). c.args.pointer.now.key.items ++ xs ++ c.args.here.pending ∷ []) (c.deref-2.ensures.value ∙ c.in_ok-push.ensures.items ∙ ap (λ (xs : List ℕ). xs ++ c.args.pointer.now.found ∷ []) c.in_ok-all.ensures.items) in
    record {
      grows = subst (λ (j : ℕ). GrowsWith (λ k s. s ≡ j) (seen c.args.cells.now.items) (seen c.answer.new.cells.items)) site c.in_ok-c.ensures.grows;
      reads = read_added _ _ _ _ _ _ _
          (subst (λ (j : ℕ). Adds (seen c.args.cells.now.items) (seen c.answer.new.cells.items) c.in_ok-c.c (record { op = Answer j; ins = c.deref-3.result.now; width = c.args.width; from = 0 })) site c.in_ok-c.ensures.adds) ins;
      only = added_alone _ _ _ _ c.in_ok-c.ensures.adds;
      rises = subst (λ (xs : List ℕ). Rises (seen c.args.cells.now.items) (seen c.answer.new.cells.items) c.in_ok-c.c (λ row. greatest row xs + 1)) ins c.in_ok-c.ensures.rises;
      sites_are = c.in_ok-push_access.ensures;
    }
