use Rattle.std.proofs.Common.{refl, sym, subst, ap, ◌∙◌, length, replicate}
use Rattle.std.specs.Ordering.{nat_cmp}
use Rattle.std.specs.Cmp.Lexicographic.{slice_cmp}
use Rattle.std.specs.FinMap as map
use Rattle.std.proofs.lemmas.List.{length-replicate}
use Rattle.xdp_maps.specs.Contents.{IsOver, array_of, opened, opened_as}
use Rattle.xdp_maps.specs.Layout.{IsRising}
use Rattle.xdp_maps.proofs.Hashes.{order_total, order_exact, empty_of_none}
use Rattle.xdp_maps.proofs.Opened.{opened_over}
use Rattle.xdp_maps.proofs.table.Table.new.Goals as goal

pub returns-in_ok-new-in-Hash-clause-contents : goal.returns-in_ok-new-in-Hash-clause-contents
unfolding opened
returns-in_ok-new-in-Hash-clause-contents c =
    ap map.from_sorted c.in_ok-new-in-Hash.ensures.empty ∙ empty_of_none (slice_cmp nat_cmp) order_total order_exact ∙ sym (ap (λ k. opened_as k c.args.decl.now) c.in-Hash.is)

pub returns-in_ok-new-in-Hash-clause-kept : goal.returns-in_ok-new-in-Hash-clause-kept
returns-in_ok-new-in-Hash-clause-kept c = record {
  limits = c.requires;
  kept = (c.in-Hash.is, subst (IsRising (slice_cmp nat_cmp)) (sym c.in_ok-new-in-Hash.ensures.empty) refl, c.in_ok-new-in-Hash.ensures.room);
  over = subst (IsOver c.args.decl.now) (sym (returns-in_ok-new-in-Hash-clause-contents c)) (opened_over c.args.decl.now c.requires);
}

pub returns-in_ok-new-in-Array-clause-contents : goal.returns-in_ok-new-in-Array-clause-contents
unfolding opened
returns-in_ok-new-in-Array-clause-contents c =
    ap array_of c.in_ok-new-in-Array.ensures ∙ sym (ap (λ k. opened_as k c.args.decl.now) c.in-Array.is)

pub returns-in_ok-new-in-Array-clause-kept : goal.returns-in_ok-new-in-Array-clause-kept
returns-in_ok-new-in-Array-clause-kept c = record {
  limits = c.requires;
  kept = (c.in-Array.is, ap length c.in_ok-new-in-Array.ensures ∙ length-replicate c.args.decl.now.cap (replicate c.args.decl.now.value 0));
  over = subst (IsOver c.args.decl.now) (sym (returns-in_ok-new-in-Array-clause-contents c)) (opened_over c.args.decl.now c.requires);
}
