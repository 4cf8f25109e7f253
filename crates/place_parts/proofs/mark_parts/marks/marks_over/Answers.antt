use Rattle.std.proofs.Common.{rules, All, length, sym, ap, subst, arith}
use Rattle.read_net.specs.MarkNet.Sites.{HasOperands, AreMarkSites}
use Rattle.place_parts.specs.MarkParts.Places.{program_in}
use Rattle.place_parts.proofs.MarkParts.Forming.{reads_few}
use Rattle.place_parts.proofs.MarkParts.Taking.{marks_have, marks_are}
use Rattle.place_parts.proofs.mark_parts.marks.marks_over.Goals as goal

pub marks-requires-2-clause-few : goal.marks-requires-2-clause-few
marks-requires-2-clause-few c = omega (arith, ap length c.deref.ensures.value, c.in_ok-all.ensures.count, reads_few c.args.layout.now c.args.k c.requires.layout)

pub marks-requires-2-clause-operands : goal.marks-requires-2-clause-operands
marks-requires-2-clause-operands c =
    subst (All HasOperands) (sym c.deref.ensures.value) (marks_have c.args.layout.now c.args.sites.now c.args.changes.now c.requires.layout c.requires.operands c.requires.changes c.args.k c.in_ok-all.all.items c.in_ok-all.ensures)

pub returns : goal.returns
returns c =
    let f = c.args.layout.now in
    let ms = c.in_ok-all.all.items in
    let are = marks_are f c.args.sites.now c.args.changes.now c.requires.layout c.requires.operands c.requires.changes c.args.k ms c.in_ok-all.ensures in
    record {
      marks = ms;
      are = c.in_ok-all.ensures;
      of_sites = are;
      is = search (rules, c.in_ok-block.ensures (program_in f) f.decls.now (subst (AreMarkSites (program_in f) f.decls.now) (sym c.deref.ensures.value) are));
    }
