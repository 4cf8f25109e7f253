use Rattle.std.proofs.Common.{arith}
use Rattle.operator_cells.proofs.MakingLaws.{grown}
use Rattle.register_cells.proofs.Answering.{answer_carried, redirect_answers, redirect_is, redirected_is, number_read}
use Rattle.register_cells.proofs.HelperRows.{redirect_to}
use Rattle.register_cells.proofs.PointingLaws.{answer_keeps}
use Rattle.register_cells.proofs.helpers.carry_redirect.Goals as goal

pub returns-clause-carries : goal.returns-clause-carries
returns-clause-carries c = λ decls ps node is_ref allowed inside.
    let w = redirect_answers decls c.args.kinds.now c.args.insn.now node is_ref c.requires.op c.requires.helper allowed in
    let interface = c.in_ok-interface.ensures.number w.1 w.2 in
    let flags = c.in_ok-flags.ensures.number w.3 w.4 in
    let sent = c.in_ok-sent.ensures.makes in
    let answer = c.in_ok-c.ensures.makes in
    let target = c.in_ok-t.ensures.makes in
    let grows = grown interface.grows (grown flags.grows (grown sent.grows (grown answer.grows target.grows))) in
    answer_carried decls ps c.args.insn.now node is_ref c.args.kinds.now c.args.held.now _ _ c.in_ok-c.c c.in_ok-t.t grows (omega (arith, answer.there, target.grows.longer)) target.there c.are_whole.ensures.register_cells inside
    w.0
    (λ packet v m n refs run known e.
    let r4 = target.grows.run packet v run in
    let r3 = answer.grows.run packet v r4 in
    let r2 = sent.grows.run packet v r3 in
    let r1 = flags.grows.run packet v r2 in
    let one = number_read decls packet v ps node c.args.kinds.now c.args.held.now m 1 w.1 known (omega arith) w.2 in
    let two = number_read decls packet v ps node c.args.kinds.now c.args.held.now m 2 w.3 known (omega arith) w.4 in
    redirected_is _ _ m n (v c.in_ok-flags.flags) (v c.in_ok-interface.interface) (v c.args.held.now.target) (v c.in_ok-sent.sent) (v c.in_ok-c.c) (v c.in_ok-t.t)
    (redirect_is refs m n c.args.insn.now _ _ c.requires.op c.requires.helper one.0 two.0 e) two.1 (flags.value packet v r2) (interface.value packet v r1) known.held.target known.in_range.target
    (sent.value packet v r3) (answer.value packet v r4) (target.value packet v run))

pub returns-clause-rows : goal.returns-clause-rows
returns-clause-rows c = λ decls ps node is_ref allowed.
    let w = redirect_answers decls c.args.kinds.now c.args.insn.now node is_ref c.requires.op c.requires.helper allowed in
    redirect_to decls ps c.args.insn.now c.args.kinds.now _ c.args.held.now _ _ c.requires.op c.requires.helper w.0 (omega (arith, c.are_whole.ensures.register_cells))
    (c.in_ok-interface.ensures.rises ps) (c.in_ok-flags.ensures.rises ps) c.in_ok-sent.ensures.rises c.in_ok-c.ensures.rises c.in_ok-t.ensures.rises

pub returns-clause-points : goal.returns-clause-points
returns-clause-points c = λ decls node is_ref allowed.
    rw (redirect_answers decls c.args.kinds.now c.args.insn.now node is_ref c.requires.op c.requires.helper allowed).0 (answer_keeps c.args.kinds.now c.args.held.now c.in_ok-c.c c.in_ok-t.t c.are_whole.ensures.register_cells)
