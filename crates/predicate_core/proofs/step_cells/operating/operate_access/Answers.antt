use Rattle.predicate_core.proofs.StepCells.Chosen.{entry_changed, none_other}
use Rattle.predicate_core.proofs.step_cells.operating.operate_access.Goals as goal

pub operate_atomic-requires-clause-base : goal.operate_atomic-requires-clause-base
operate_atomic-requires-clause-base c = entry_changed c.args.decls.now c.args.kinds.now c.args.insn.now c.in-Atomic.size c.in-Atomic.is c.requires.allowed

pub returns-in_default : goal.returns-in_default
returns-in_default c = absurd (none_other c.args.decls.now c.args.kinds.now c.args.insn.now c.requires.leads (record {
  call = c.requires.call;
  load = c.in_default.not-Load;
  load_signed = c.in_default.not-LoadSigned;
  store_imm = c.in_default.not-StoreImm;
  store = c.in_default.not-Store;
  atomic = c.in_default.not-Atomic;
}) c.requires.accesses c.requires.allowed)
