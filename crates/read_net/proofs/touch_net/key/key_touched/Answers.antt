use Rattle.std.specs.Prelude.{not, nat_lt, slice_index}
use Rattle.std.proofs.Common.{◌∙◌, ◌&&◌, ◌||◌, [], ◌∷◌, ◌++◌, All, map, sym, ap, subst, arith}
use Rattle.std.proofs.lemmas.List.Elements.{All-append}
use Rattle.overlay_net.specs.cell_core.Cells.{bit, on}
use Rattle.overlay_net.specs.cell_core.Sites.{bytes_of, operation_with}
use Rattle.pipe_core.specs.hazard_core.Marks.{key_touched}
use Rattle.overlay_net.specs.cell_nets.Operands.{number_in, IsOperand, IsAvailable}
use Rattle.overlay_net.specs.cell_nets.Wires.{wires_of, always}
use Rattle.overlay_net.specs.SiteOperands.Sites.{operands_of, all_of}
use Rattle.overlay_net.proofs.cell_nets_laws.StepNets.ChainLaws.{starts, next, last}
use Rattle.overlay_net.proofs.cell_nets_laws.StepNets.StepLaws.{all_each, on_bit}
use Rattle.overlay_net.proofs.SiteOperandLaws.{keys_of, others_of}
use Rattle.read_net.proofs.TouchNet.ListLemmas.{left_of, right_of, behind}
use Rattle.read_net.proofs.TouchNet.ReadLemmas.{update_sees, other_sees, key_given}
use Rattle.read_net.proofs.touch_net.key.key_touched.Goals as goal

pub same_key-requires-clause-left : goal.same_key-requires-clause-left
same_key-requires-clause-left g c = subst (All IsOperand) (sym c.deref.ensures.value) (keys_of IsOperand (operands_of c.args.nets.now) c.requires.operands)

pub first_operand-flags-requires : goal.first_operand-flags-requires
first_operand-flags-requires g c = subst (All IsOperand) (sym c.deref-in-Update.ensures.value) (others_of IsOperand (operands_of c.args.nets.now) c.requires.operands)

pub update_touched-requires-clause-found : goal.update_touched-requires-clause-found
update_touched-requires-clause-found g c = c.requires.operands 1 c.args.nets.now.found (omega arith)

pub returns-in_ok-out-in-Update : goal.returns-in_ok-out-in-Update
returns-in_ok-out-in-Update g c =
    let s = operands_of c.args.nets.now in
    let d = c.args.decl.now in
    let key = c.args.key.now in
    let same = c.in_ok-same.same in
    let flags = c.first_operand-flags.result in
    let first = key_given c.args.part _ _ d.key c.deref.result.now s.key key same c.deref.ensures.value c.in_ok-same.ensures in
    last
    (next (starts c.args.part (wires_of c.args.wires.now.items) (all_of s ++ key) always) first (λ ins h. All-append (IsAvailable ins) s.key key (keys_of (IsAvailable ins) s (left_of (IsAvailable ins) (all_of s) key h)) (right_of (IsAvailable ins) (all_of s) key h)) (λ v f k. tt))
    c.in_ok-out-in-Update.ensures
    (λ ins h.
    let all = left_of (IsAvailable ins) (all_of s) key (behind (IsAvailable ins) same (all_of s ++ key) h) in
    all_each (IsAvailable ins) (flags ∷ s.found ∷ same ∷ []) (c.first_operand-flags.ensures.there ins (subst (All (IsAvailable ins)) (sym c.deref-in-Update.ensures.value) (others_of (IsAvailable ins) s all)), (all 1 s.found (omega arith), (h 0 same (omega arith), tt))))
    (λ v f k. tt) (λ v. bit (key_touched (operation_with d c.args.act (map (number_in v) s.key) (map (number_in v) s.operands)) (on (number_in v s.found)) (bytes_of d.key (map (number_in v) key))))
    (λ v f k.
    let n = slice_index (map (number_in v) s.operands) 0 in
    ap (λ m. bit (not (nat_lt 2 m) && (on (number_in v same) || (nat_lt m 2 && not (on (number_in v s.found)))))) (c.first_operand-flags.ensures.number v ∙ ap (λ l. slice_index (map (number_in v) l) 0) c.deref-in-Update.ensures.value)
    ∙ ap (λ b. bit (not (nat_lt 2 n) && (b || (nat_lt n 2 && not (on (number_in v s.found)))))) (ap on k.1 ∙ on_bit _)
    ∙ ap bit (update_sees d c.args.act (map (number_in v) s.key) (map (number_in v) s.operands) (bytes_of d.key (map (number_in v) key)) (on (number_in v s.found)) c.in-Update.is))

pub returns-in_default : goal.returns-in_default
returns-in_default g c =
    let s = operands_of c.args.nets.now in
    let d = c.args.decl.now in
    let key = c.args.key.now in
    let first = key_given c.args.part _ _ d.key c.deref.result.now s.key key c.in_ok-same.same c.deref.ensures.value c.in_ok-same.ensures in
    last (starts c.args.part (wires_of c.args.wires.now.items) (all_of s ++ key) always) first (λ ins h. All-append (IsAvailable ins) s.key key (keys_of (IsAvailable ins) s (left_of (IsAvailable ins) (all_of s) key h)) (right_of (IsAvailable ins) (all_of s) key h)) (λ v f k. tt)
    (λ v. bit (key_touched (operation_with d c.args.act (map (number_in v) s.key) (map (number_in v) s.operands)) (on (number_in v s.found)) (bytes_of d.key (map (number_in v) key))))
    (λ v f k. ap bit (other_sees d c.args.act (map (number_in v) s.key) (map (number_in v) s.operands) (bytes_of d.key (map (number_in v) key)) (on (number_in v s.found)) c.requires.finds c.in_default.not-Update))
