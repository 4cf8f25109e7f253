use Rattle.std.proofs.Common.{◌≡◌, ℕ, suc, ◌+◌, List, length, length-append, slice_index, sym, ap, ◌∙◌, subst, arith}
use Rattle.std.specs.Prelude.{not}
use Rattle.row_net.specs.Table.{Stands, IsIn}
use Rattle.row_net.specs.SitePlace.Pointing.{is_edge, HoldsOf}
use Rattle.row_net.proofs.SitePlace.ChangeLemmas.{entries_more}
use Rattle.row_net.proofs.site_place.pointing.choices.Goals as goal

pub choice-requires : goal.choice-requires
choice-requires g c =
    let i : ℕ = c.loop-cell.cell-index in
    subst (λ b. HoldsOf (IsIn c.args.table.now) (IsIn c.args.pointers.now) b (slice_index c.args.ins.now i)) (sym c.loop-cell.invariant.edge) (c.requires i c.loop-cell-test.true)

pub loop-cell-preserved : goal.loop-cell-preserved
loop-cell-preserved g c =
    let i : ℕ = c.loop-cell.cell-index in
    let table = c.args.table.now in
    let those = c.args.pointers.now in
    let ins : List ℕ = c.args.ins.now in
    let s : suc i ≡ i + 1 = omega arith in
    let here = subst (λ b. HoldsOf (λ k. Stands table k c.choice.result) (λ k. Stands those k c.choice.result) b (slice_index ins i)) c.loop-cell.invariant.edge c.choice.ensures in
    record {
      edge = ap not c.loop-cell.invariant.edge ∙ ap is_edge s;
      count = omega (arith, simp length-append at (ap length c.in_ok-push.ensures.items), c.loop-cell.invariant.count);
      each = entries_more (λ n a. HoldsOf (λ k. Stands table k a) (λ k. Stands those k a) (is_edge n) (slice_index ins n)) c.loop-cell.args.items c.push.new.self.items i c.choice.result c.loop-cell.invariant.count c.loop-cell.invariant.each here c.in_ok-push.ensures.items;
    }

pub returns : goal.returns
returns g c = record { count = omega (arith, c.loop-cell.invariant.count, c.loop-cell-test.false, c.loop-cell.auto.cell-index-end); each = λ n d l. c.loop-cell.invariant.each n d (omega (arith, l, c.loop-cell-test.false)) }
