use Rattle.std.proofs.Common.{◌≡◌, ◌∙◌, ℕ, ◌+◌, List, [], ◌∷◌, ◌++◌, ap, subst, arith, length}
use Rattle.std.proofs.lemmas.List.{append-nil}
use Rattle.cell_core.specs.declared.operator.Operator.TheVariants.{Found}
use Rattle.operator_cells.specs.Making.{seen, Adds, GrowsWith}
use Rattle.cell_core.specs.Rows.{greatest}
use Rattle.operator_cells.specs.Rising.{Rises}
use Rattle.operator_cells.specs.HeldCells.RegisterCells.{pointed}
use Rattle.site_cells.specs.Sited.{sited}
use Rattle.site_cells.proofs.Adding.{read_added, added_alone, pointed_next, pointed_count, site_same, site_pushed, next_site}
use Rattle.site_cells.proofs.lookup.look_up.Goals as goal

pub returns : goal.returns
returns c =
    let site : c.in-Ok.site ≡ length (sited c.args.sites.now.items) = next_site c.args.sites.now.items c.in-Ok.site (omega (arith, c.in-Ok.ensures, c.len.ensures)) in
    record {
      grows = subst (λ (j : ℕ). GrowsWith (λ k s. s ≡ j) (seen c.args.cells.now.items) (seen c.found.new.cells.items)) site c.in_ok-there.ensures.grows;
      found = c.in_ok-there.there;
      reads = read_added _ _ _ _ _ _ _
          (subst (λ (j : ℕ). Adds (seen c.args.cells.now.items) (seen c.found.new.cells.items) c.in_ok-there.there (record { op = Found j; ins = c.deref.result.now; width = 1; from = 0 })) site c.in_ok-there.ensures.adds)
          (c.deref.ensures.value ∙ c.in_ok-ins.ensures ∙ ap (λ (xs : List ℕ). xs ++ c.args.here.pending ∷ []) (append-nil c.args.key.now));
      only = added_alone _ _ _ _ c.in_ok-there.ensures.adds;
      rises = subst (λ (xs : List ℕ). Rises (seen c.args.cells.now.items) (seen c.found.new.cells.items) c.in_ok-there.there (λ row. greatest row xs + 1))
          (c.deref.ensures.value ∙ c.in_ok-ins.ensures ∙ ap (λ (xs : List ℕ). xs ++ c.args.here.pending ∷ []) (append-nil c.args.key.now)) c.in_ok-there.ensures.rises;
      number_is = pointed_count c.args.pointers.now.items _ (omega (arith, c.in-Ok-try_from.ensures, c.len-2.ensures));
      pointers_are = pointed_next _ _ _ c.in_ok-push.ensures.items ∙ ap (λ (key : List ℕ). pointed c.args.pointers.now.items ++ (record { found = c.in_ok-there.there; key = key }) ∷ []) c.in_ok-from_slice.ensures.ok;
      sites_are = site_pushed _ _ _ _ c.in_ok-push-2.ensures.items (site_same _ _ _ _ _ _ _ _ c.in_ok-from_slice-2.ensures.ok c.new.ensures.items);
    }
