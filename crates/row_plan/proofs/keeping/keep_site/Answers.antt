use Rattle.row_plan.proofs.KeepingLemmas.{of_one, of_more, of_same}
use Rattle.std.proofs.Common.{◌∷◌, [], ◌++◌}
use Rattle.row_plan.proofs.keeping.keep_site.Goals as goal

pub returns : goal.returns
returns c =
    of_more (c.args.site.now.guard ∷ []) (c.args.site.now.key.items ++ c.args.site.now.operands.items) c.args.commit c.args.kept.now c.keep.new.kept c.keep_all-2.new.kept
    (of_one c.args.site.now.guard c.args.commit c.args.kept.now c.keep.new.kept c.keep.ensures)
    (of_more c.args.site.now.key.items c.args.site.now.operands.items c.args.commit c.keep.new.kept c.keep_all.new.kept c.keep_all-2.new.kept
    (of_same c.deref.result.now c.args.site.now.key.items c.args.commit c.keep.new.kept c.keep_all.new.kept c.deref.ensures c.keep_all.ensures)
    (of_same c.deref-2.result.now c.args.site.now.operands.items c.args.commit c.keep_all.new.kept c.keep_all-2.new.kept c.deref-2.ensures c.keep_all-2.ensures))
