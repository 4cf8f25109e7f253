use Rattle.std.proofs.Common.{ap, arith}
use Rattle.net_core.specs.declared.tree.Net.{Net}
use Rattle.net_core.specs.declared.tree.Stmts.{Stmts, size-Stmts}
use Rattle.net_core.specs.declared.tree.Stmt.TheViews.{sized-Then}
use Rattle.net_core.specs.View.{statements_of, statement_of}
use Rattle.verilog_read.proofs.Raised.{notes_start, notes_next, notes_end}
use Rattle.verilog_read.proofs.targets.+targets.Goals as goal

pub note_all-loop-left-init : goal.note_all-loop-left-init
note_all-loop-left-init t c = record {
  notes = notes_start c.args.targets.now (statements_of c.args.stmts.now);
  depth = omega arith;
}

pub note_all-note-requires : goal.note_all-note-requires
note_all-note-requires t c =
    let z = sized-Then Net c.in-Then.first c.in-Then.more in
    let whole = ap (size-Stmts Net) c.in-Then.is in
    (omega (arith, z, whole, c.loop-left.invariant.depth, c.decreases), tt)

pub note_all-loop-left-preserved : goal.note_all-loop-left-preserved
note_all-loop-left-preserved t c =
    let z = sized-Then Net c.in-Then.first c.in-Then.more in
    let whole = ap (size-Stmts Net) c.in-Then.is in
    let part = ap (size-Stmts Net) c.deref-left.ensures in
    record {
      notes = rw c.deref-left.ensures (notes_next c.args.targets.now c.loop-left.targets c.note.new.targets (statements_of c.args.stmts.now) _ (statement_of c.in-Then.first) (rw c.in-Then.is at c.loop-left.invariant.notes) c.in_ok-note.ensures);
      depth = omega (arith, z, whole, part, c.loop-left.invariant.depth);
    }

pub note_all-returns : goal.note_all-returns
note_all-returns t c = notes_end c.args.targets.now c.loop-left.targets (statements_of c.args.stmts.now) (statements_of c.loop-left.left.now) (ap (λ (more : Stmts Net). statements_of more) c.in_default.is) c.loop-left.invariant.notes
