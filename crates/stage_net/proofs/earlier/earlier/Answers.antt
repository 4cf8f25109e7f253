use Rattle.std.proofs.Common.{rules, ◌≡◌, ◌∙◌, ◌++◌, ◌∷◌, [], ℕ, Bool, sym, slice_index}
use Rattle.hazard_core.specs.cell_core.View.{program_of}
use Rattle.hazard_core.specs.StageValues.{is_pending}
use Rattle.stage_net.proofs.EarlierLemmas.{owns_same, sites_same, sites_more, owns_more}
use Rattle.stage_net.proofs.earlier.earlier.Goals as goal
use Rattle.stage_net.proofs.earlier.earlier.Goals.{then-is_pending+in_ok-push, else-is_pending}

pub loop-i-preserved : goal.loop-i-preserved
loop-i-preserved g c =
    let p = program_of c.args.at.now.program.now in
    let q : ℕ → Bool = is_pending p (slice_index c.args.at.now.rows.now) c.args.at.now.row c.args.j in
    elim c.if-is_pending.branch [
      | then-is_pending+in_ok-push w ↦
          let e : c.if-is_pending.all.items ≡ c.loop-i.all.items ++ w.own_site.result ∷ [] = search rules in (
            owns_more p c.args.sites.now c.loop-i.all.items c.if-is_pending.all.items w.own_site.result e c.loop-i.invariant.0 w.own_site.ensures.own,
            sites_more q c.loop-i.all.items c.if-is_pending.all.items w.own_site.result c.loop-i.i (sym c.is_pending.ensures ∙ w.if-is_pending.true) e w.own_site.ensures.number c.loop-i.invariant.1,
          )
      | else-is_pending w ↦
          let e : c.if-is_pending.all.items ≡ c.loop-i.all.items = search rules in
          (owns_same p c.args.sites.now c.loop-i.all.items c.if-is_pending.all.items e c.loop-i.invariant.0, sites_same q c.loop-i.all.items c.if-is_pending.all.items c.loop-i.i (sym c.is_pending.ensures ∙ w.if-is_pending.false) e c.loop-i.invariant.1)
    ]
