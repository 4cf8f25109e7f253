use Rattle.std.proofs.Common.{◌≡◌, ◌∙◌, ◌+◌, ◌++◌, ◌∷◌, [], ℕ, List, length, arith, subst}
use Rattle.cell_core.specs.declared.operator.Operator.TheVariants.{Found, Answer}
use Rattle.operator_cells.specs.Making.{seen, Adds, GrowsWith}
use Rattle.operator_cells.proofs.MakingLaws.{grown_with}
use Rattle.cell_core.specs.Rows.{greatest}
use Rattle.operator_cells.specs.Rising.{Rises}
use Rattle.operator_cells.proofs.RisingLaws.{stand_none, stand_more, rises_then}
use Rattle.site_cells.specs.Sited.{sited}
use Rattle.site_cells.proofs.Adding.{read_added, added_both, read_later, site_same, site_pushed, next_site, inputs_there}
use Rattle.site_cells.proofs.change.change.Goals as goal

pub answer-requires-clause-earlier : goal.answer-requires-clause-earlier
answer-requires-clause-earlier c =
    inputs_there _ c.args.key.now c.args.looked.now _ c.args.here.pending (λ i d l. omega (arith, c.requires.key i d l, c.in_ok-_there.ensures.grows.longer)) (λ i d l. omega (arith, c.requires.looked i d l, c.in_ok-_there.ensures.grows.longer))
    (omega (arith, c.requires.pending, c.in_ok-_there.ensures.grows.longer)) (c.deref-2.ensures.value ∙ c.in_ok-ins.ensures)

pub returns : goal.returns
returns c =
    let site : c.in-Ok.site ≡ length (sited c.args.sites.now.items) = next_site c.args.sites.now.items c.in-Ok.site (omega (arith, c.in-Ok.ensures, c.len.ensures)) in
    let ins : List ℕ = c.args.key.now ++ c.args.looked.now ++ c.args.here.pending ∷ [] in
    let finds = subst (λ (xs : List ℕ). Rises (seen c.args.cells.now.items) (seen c.found.new.cells.items) c.in_ok-_there._there (λ row. greatest row xs + 1)) (c.deref.ensures.value ∙ c.in_ok-ins.ensures) c.in_ok-_there.ensures.rises in
    let answers = subst (λ (xs : List ℕ). Rises (seen c.found.new.cells.items) (seen c.answer.new.cells.items) c.in_ok-c.c (λ row. greatest row xs + 1)) (c.deref-2.ensures.value ∙ c.in_ok-ins.ensures) c.in_ok-c.ensures.rises in
    record {
      rises = rises_then (stand_more {last = λ row. greatest row ins + 1} stand_none finds (λ row p. omega arith)) answers (λ row p. omega arith);
      grows = subst (λ (j : ℕ). GrowsWith (λ k s. s ≡ j) (seen c.args.cells.now.items) (seen c.answer.new.cells.items)) site
          (grown_with _ _ _ _ c.in_ok-_there.ensures.grows c.in_ok-c.ensures.grows);
      found = c.in_ok-_there._there;
      finds = read_later _ _ _ _ _ _ _ c.in_ok-c.ensures.grows (read_added _ _ _ _ _ _ _
          (subst (λ (j : ℕ). Adds (seen c.args.cells.now.items) (seen c.found.new.cells.items) c.in_ok-_there._there (record { op = Found j; ins = c.deref.result.now; width = 1; from = 0 })) site c.in_ok-_there.ensures.adds)
          (c.deref.ensures.value ∙ c.in_ok-ins.ensures));
      reads = read_added _ _ _ _ _ _ _
          (subst (λ (j : ℕ). Adds (seen c.found.new.cells.items) (seen c.answer.new.cells.items) c.in_ok-c.c (record { op = Answer j; ins = c.deref-2.result.now; width = 64; from = 0 })) site c.in_ok-c.ensures.adds)
          (c.deref-2.ensures.value ∙ c.in_ok-ins.ensures);
      only = added_both _ _ _ _ _ _ _ c.in_ok-_there.ensures.adds c.in_ok-c.ensures.adds;
      sites_are = site_pushed _ _ _ _ c.in_ok-push.ensures.items (site_same _ _ _ _ _ _ _ _ c.in_ok-from_slice.ensures.ok c.in_ok-from_slice-2.ensures.ok);
    }
