use Rattle.std.proofs.Common.{arith}
use Rattle.register_cells.proofs.Answering.{answer_carried, time_answers, time_is, time_low}
use Rattle.register_cells.proofs.HelperRows.{time_to}
use Rattle.register_cells.proofs.PointingLaws.{answer_keeps}
use Rattle.register_cells.proofs.helpers.carry_time.Goals as goal

pub returns-clause-carries : goal.returns-clause-carries
returns-clause-carries c = λ decls ps node is_ref allowed inside.
    let made = c.in_ok-c.ensures.makes in
    answer_carried decls ps c.args.insn.now node is_ref c.args.kinds.now c.args.held.now _ _ c.in_ok-c.c c.args.held.now.target made.grows made.there (omega (arith, inside.target, made.grows.longer)) c.are_whole.ensures.register_cells inside
    (time_answers decls c.args.kinds.now c.args.insn.now node is_ref c.requires.op c.requires.helper allowed)
    (λ packet v m n refs run known e.
    (m.time, m.target, time_is refs m n c.args.insn.now c.requires.op c.requires.helper e, time_low m.time packet.time _ known.in_range.time known.held.time (made.value packet v run), known.held.target))

pub returns-clause-rows : goal.returns-clause-rows
returns-clause-rows c = λ decls ps node is_ref allowed.
    time_to decls ps c.args.insn.now c.args.kinds.now _ c.args.held.now c.in_ok-c.c c.requires.op c.requires.helper (time_answers decls c.args.kinds.now c.args.insn.now node is_ref c.requires.op c.requires.helper allowed)
    (omega (arith, c.are_whole.ensures.register_cells)) c.in_ok-c.ensures.rises

pub returns-clause-points : goal.returns-clause-points
returns-clause-points c = λ decls node is_ref allowed.
    rw (time_answers decls c.args.kinds.now c.args.insn.now node is_ref c.requires.op c.requires.helper allowed) (answer_keeps c.args.kinds.now c.args.held.now c.in_ok-c.c c.args.held.now.target c.are_whole.ensures.register_cells)
