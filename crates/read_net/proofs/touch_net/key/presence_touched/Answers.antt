use Rattle.std.specs.Prelude.{not}
use Rattle.std.proofs.Common.{[], ◌∷◌, ◌++◌, arith}
use Rattle.std.proofs.lemmas.List.Elements.{All-append}
use Rattle.overlay_net.specs.cell_core.Cells.{bit}
use Rattle.overlay_net.specs.cell_core.Sites.{site_at}
use Rattle.pipe_core.specs.hazard_core.StageValues.{asked, is_null, pointer_in, found_cell}
use Rattle.pipe_core.specs.hazard_core.Marks.{presence_touched}
use Rattle.pipe_core.specs.hazard_core.Tables.{decl_of}
use Rattle.overlay_net.specs.cell_nets.Operands.{number_in, IsOperand, IsAvailable}
use Rattle.overlay_net.specs.cell_nets.Wires.{wires_of}
use Rattle.overlay_net.specs.SiteOperands.Sites.{operands_of, all_of}
use Rattle.overlay_net.proofs.cell_nets_laws.StepNets.ChainLaws.{starts, next, last, ends}
use Rattle.overlay_net.proofs.cell_nets_laws.StepNets.StepLaws.{all_each}
use Rattle.read_net.specs.TouchNet.Touching.{change_operands}
use Rattle.read_net.proofs.TouchNet.ListLemmas.{left_of, right_of, behind}
use Rattle.read_net.proofs.TouchNet.ReadLemmas.{array_rests, hash_sees}
use Rattle.read_net.proofs.touch_net.key.presence_touched.Goals as goal

pub key_touched-requires-clause-key : goal.key_touched-requires-clause-key
key_touched-requires-clause-key g c =
    let e = c.args.change.now in
    behind IsOperand e.presence e.key.now (behind IsOperand e.slot (e.presence ∷ e.key.now) c.requires.change.operands)

pub both-requires-clause-left : goal.both-requires-clause-left
both-requires-clause-left g c = c.requires.change.operands 1 c.args.change.now.presence (omega arith)

pub returns-in-Array-clause-given : goal.returns-in-Array-clause-given
returns-in-Array-clause-given g c = λ p decls h j d is.
    let s = operands_of c.args.nets.now in
    let e = c.args.change.now in
    ends (starts c.args.part (wires_of c.args.wires.now.items) (all_of s ++ change_operands e) _)
    (λ v. bit (presence_touched (decl_of decls (site_at p.sites j).map).kind (asked decls h (site_at p.sites j)) (not (is_null (pointer_in h (found_cell p.cells j)))) d)) 1 _ (λ ins all. tt) (omega arith) (omega arith)
    (λ v f k. array_rests p decls h j d c.args.act c.args.decl.now is c.in-Array.is)

pub returns-in_ok-out-in-Hash-clause-given : goal.returns-in_ok-out-in-Hash-clause-given
returns-in_ok-out-in-Hash-clause-given g c = λ p decls h j d is.
    let s = operands_of c.args.nets.now in
    let e = c.args.change.now in
    let seen = c.in_ok-seen-in-Hash.seen in
    let args = all_of s ++ change_operands e in
    last
    (next (starts c.args.part (wires_of c.args.wires.now.items) args _) c.in_ok-seen-in-Hash.ensures
    (λ ins all.
    let change = right_of (IsAvailable ins) (all_of s) (change_operands e) all in
    All-append (IsAvailable ins) (all_of s) e.key.now (left_of (IsAvailable ins) (all_of s) (change_operands e) all) (behind (IsAvailable ins) e.presence e.key.now (behind (IsAvailable ins) e.slot (e.presence ∷ e.key.now) change)))
    (λ v f k. tt))
    c.in_ok-out-in-Hash.ensures
    (λ ins all.
    let change = right_of (IsAvailable ins) (all_of s) (change_operands e) (behind (IsAvailable ins) seen args all) in
    all_each (IsAvailable ins) (e.presence ∷ seen ∷ []) (change 1 e.presence (omega arith), (all 0 seen (omega arith), tt)))
    (λ v f k. tt) (λ v. bit (presence_touched (decl_of decls (site_at p.sites j).map).kind (asked decls h (site_at p.sites j)) (not (is_null (pointer_in h (found_cell p.cells j)))) d))
    (λ v f k. hash_sees p decls h j d c.args.act c.args.decl.now is v s e (number_in v seen) c.in-Hash.is k.0.0 k.0.1 k.1)
