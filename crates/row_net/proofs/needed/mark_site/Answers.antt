use Rattle.std.proofs.Common.{◌∷◌, [], ◌++◌}
use Rattle.row_net.proofs.MarkLemmas.{marks_one, marks_append, marks_of}
use Rattle.row_net.proofs.needed.mark_site.Goals as goal

pub returns : goal.returns
returns c =
    let s = c.args.site.now in
    marks_append (s.guard ∷ []) (s.key.items ++ s.operands.items) c.args.flags.now c.mark.new.flags c.mark_all-2.new.flags (marks_one s.guard c.args.flags.now c.mark.new.flags c.mark.ensures)
    (marks_append s.key.items s.operands.items c.mark.new.flags c.mark_all.new.flags c.mark_all-2.new.flags (marks_of c.deref.result.now s.key.items c.mark.new.flags c.mark_all.new.flags c.deref.ensures c.mark_all.ensures)
    (marks_of c.deref-2.result.now s.operands.items c.mark_all.new.flags c.mark_all-2.new.flags c.deref-2.ensures c.mark_all-2.ensures))
