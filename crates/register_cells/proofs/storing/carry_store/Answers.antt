use Rattle.std.proofs.Common.{OnOk, ap}
use Rattle.cell_core.specs.bpf_isa.declared.operation.Src.TheVariants.{K, X}
use Rattle.cell_core.specs.xdp_machine.Step as step
use Rattle.kind_core.specs.Effects.{effect_as}
use Rattle.operator_cells.specs.HeldCells.Pointing.{KeepPointers}
use Rattle.register_cells.proofs.Stores.{store_passed, store_carried}
use Rattle.register_cells.proofs.StoreRows.{store_carried_to, imm_carries, src_carries}
use Rattle.register_cells.proofs.storing.carry_store.Goals as goal

pub returns-in-StoreImm-clause-carries : goal.returns-in-StoreImm-clause-carries
returns-in-StoreImm-clause-carries c = λ decls node is_ref allowed inside.
    store_carried c.store.result decls _ node is_ref c.args.kinds.now c.args.held.now c.store.new.held c.args.insn.now _ _ c.in-StoreImm.size K allowed
    (ap (effect_as decls c.args.kinds.now c.args.insn.now) c.in-StoreImm.is) (λ refs m. ap (step.effect refs m c.args.insn.now) c.in-StoreImm.is) (c.store.ensures.leaves decls node is_ref inside)

pub returns-in-Store-clause-carries : goal.returns-in-Store-clause-carries
returns-in-Store-clause-carries c = λ decls node is_ref allowed inside.
    store_carried c.store-in-Store.result decls _ node is_ref c.args.kinds.now c.args.held.now c.store-in-Store.new.held c.args.insn.now _ _ c.in-Store.size X allowed
    (ap (effect_as decls c.args.kinds.now c.args.insn.now) c.in-Store.is) (λ refs m. ap (step.effect refs m c.args.insn.now) c.in-Store.is) (c.store-in-Store.ensures.leaves decls node is_ref inside)

pub returns-in-StoreImm-clause-rows : goal.returns-in-StoreImm-clause-rows
returns-in-StoreImm-clause-rows c = λ decls node is_ref allowed.
    store_carried_to c.store.result decls _ node is_ref c.args.kinds.now c.args.held.now c.store.new.held c.args.insn.now _ _ c.in-StoreImm.size K allowed
    (ap (effect_as decls c.args.kinds.now c.args.insn.now) c.in-StoreImm.is) (λ after. imm_carries decls _ c.args.insn.now c.args.kinds.now c.args.held.now after c.store.new.held _ _ c.in-StoreImm.size c.in-StoreImm.is)
    (c.store.ensures.rows decls node is_ref)

pub returns-in-Store-clause-rows : goal.returns-in-Store-clause-rows
returns-in-Store-clause-rows c = λ decls node is_ref allowed.
    store_carried_to c.store-in-Store.result decls _ node is_ref c.args.kinds.now c.args.held.now c.store-in-Store.new.held c.args.insn.now _ _ c.in-Store.size X allowed
    (ap (effect_as decls c.args.kinds.now c.args.insn.now) c.in-Store.is)
    (λ after. src_carries decls _ c.args.insn.now c.args.kinds.now c.args.held.now after c.store-in-Store.new.held _ _ c.in-Store.size c.requires.insn.src_register c.in-Store.is) (c.store-in-Store.ensures.rows decls node is_ref)

pub returns-in-StoreImm-clause-points : goal.returns-in-StoreImm-clause-points
returns-in-StoreImm-clause-points c = λ decls node is_ref allowed.
    store_passed (λ after. OnOk c.store.result (KeepPointers c.args.kinds.now c.args.held.now after c.store.new.held)) decls node is_ref c.args.kinds.now c.args.insn.now c.in-StoreImm.size K allowed
    (ap (effect_as decls c.args.kinds.now c.args.insn.now) c.in-StoreImm.is) (c.store.ensures.points decls node is_ref)

pub returns-in-Store-clause-points : goal.returns-in-Store-clause-points
returns-in-Store-clause-points c = λ decls node is_ref allowed.
    store_passed (λ after. OnOk c.store-in-Store.result (KeepPointers c.args.kinds.now c.args.held.now after c.store-in-Store.new.held)) decls node is_ref c.args.kinds.now c.args.insn.now c.in-Store.size X allowed
    (ap (effect_as decls c.args.kinds.now c.args.insn.now) c.in-Store.is) (c.store-in-Store.ensures.points decls node is_ref)
