use Rattle.std.proofs.Common.{length, sym, ap, subst, ◌∙◌}
use Rattle.std.proofs.lemmas.Result.{IfOk-weaker}
use Rattle.unfold_core.specs.Tables.{target_in, AreLast, AreListed, AreLoopsBelow}
use Rattle.unfold_core.proofs.Found.{loops_listed}
use Rattle.unfold_core.proofs.tables.loops_below.Goals as goal

pub returns : goal.returns
returns c =
    IfOk-weaker c.listed.result (λ ls. AreListed c.deref.result.now (length c.deref.result.now) ls.items) (λ ls. AreLoopsBelow (target_in c.args.units.now) (length c.args.units.now) c.args.heads ls.items)
    (λ ls h. loops_listed (target_in c.args.units.now) (length c.args.units.now) c.args.heads c.deref.result.now ls.items (ap length c.deref.ensures.value ∙ c.in_ok-last.ensures.heads)
    (subst (λ xs. AreLast (target_in c.args.units.now) (length c.args.units.now) xs) (sym c.deref.ensures.value) c.in_ok-last.ensures.last) h)
    c.listed.ensures
