use Rattle.std.proofs.Common.{◌∙◌, ◌++◌, sym, arith}
use Rattle.overlay_net.specs.cell_core.Cells.{bit}
use Rattle.overlay_net.specs.cell_core.Sites.{site_at}
use Rattle.pipe_core.specs.hazard_core.StageValues.{access_pointer}
use Rattle.pipe_core.specs.hazard_core.Marks.{touches}
use Rattle.overlay_net.specs.cell_nets.Operands.{IsAvailable}
use Rattle.overlay_net.specs.cell_nets.Wires.{wires_of}
use Rattle.overlay_net.specs.SiteOperands.Sites.{operands_of, all_of}
use Rattle.overlay_net.proofs.cell_nets_laws.StepNets.ChainLaws.{starts, last, ends}
use Rattle.read_net.specs.TouchNet.Touching.{change_operands, own_operands}
use Rattle.read_net.proofs.TouchNet.ListLemmas.{left_of, right_of, first_of, but_last}
use Rattle.read_net.proofs.TouchNet.ReadLemmas.{entry_touches, key_touches, none_touches}
use Rattle.read_net.proofs.touch_net.touch.touches.Goals as goal

pub entry_touched-requires-clause-pointer : goal.entry_touched-requires-clause-pointer
entry_touched-requires-clause-pointer g c = c.requires.operands 3 c.args.nets.now.pointer (omega arith)

pub returns-then-reads_entry-clause-given : goal.returns-then-reads_entry-clause-given
returns-then-reads_entry-clause-given g c = λ p decls h j e is same are.
    let s = operands_of c.args.nets.now in
    let more = change_operands c.args.change.now ++ own_operands c.args.owns.now in
    let d = c.args.decl.now in
    let reads = sym c.reads_entry.ensures ∙ c.if-reads_entry.true in
    last (starts c.args.part (wires_of c.args.wires.now.items) (all_of s ++ more) _)
    (c.in_ok-out.ensures.given p decls h e (access_pointer h (site_at p.sites j)) are)
    (λ ins all. first_of (IsAvailable ins) s.pointer more (left_of (IsAvailable ins) (all_of s) more all 3 s.pointer (omega arith)) (right_of (IsAvailable ins) (all_of s) more all))
    (λ v f k. (k.0.asked.pointer, k.1, k.2, k.3 reads)) (λ v. bit (touches p decls h j e)) (λ v f k. entry_touches p decls h j e c.args.act d is same reads)

pub returns-then-finds_key-clause-given : goal.returns-then-finds_key-clause-given
returns-then-finds_key-clause-given g c = λ p decls h j e is same are.
    let s = operands_of c.args.nets.now in
    let change = change_operands c.args.change.now in
    let own = own_operands c.args.owns.now in
    last (starts c.args.part (wires_of c.args.wires.now.items) (all_of s ++ (change ++ own)) _) (c.in_ok-out-2.ensures.given p decls h j e is) (λ ins all. but_last (IsAvailable ins) (all_of s) change own all) (λ v f k. (k.0, k.1))
    (λ v. bit (touches p decls h j e)) (λ v f k. key_touches p decls h j e c.args.act c.args.decl.now is same (sym c.finds_key.ensures ∙ c.if-finds_key.true))

pub returns-clause-given : goal.returns-clause-given
returns-clause-given g c = λ p decls h j e is same are.
    ends (starts c.args.part (wires_of c.args.wires.now.items) (all_of (operands_of c.args.nets.now) ++ (change_operands c.args.change.now ++ own_operands c.args.owns.now)) _) (λ v. bit (touches p decls h j e)) 1 _ (λ ins all. tt) (omega arith) (omega arith)
    (λ v f k. none_touches p decls h j e c.args.act c.args.decl.now is same (sym c.reads_entry.ensures ∙ c.if-reads_entry.false) (sym c.finds_key.ensures ∙ c.if-finds_key.false))
