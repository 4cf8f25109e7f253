use Rattle.std.proofs.Common.{◌∙◌, length, sym, ap}
use Rattle.operator_cells.specs.Making.{seen}
use Rattle.operator_cells.specs.HeldCells.RegisterCells.{pointed}
use Rattle.site_cells.specs.Sited.{sited}
use Rattle.predicate_core.proofs.StepCells.Nodes.{plain_operates}
use Rattle.predicate_core.proofs.StepCells.Behind.{plain_rows, operated_rows}
use Rattle.predicate_core.proofs.StepCells.Points.{plain_points, operated_points}
use Rattle.predicate_core.proofs.step_cells.operating.operate_at.Goals as goal

pub returns-then-is_plain-clause-operates : goal.returns-then-is_plain-clause-operates
returns-then-is_plain-clause-operates c = λ is_ref.
    plain_operates c.carry_plain.result c.carries_operate.ensures c.args.decls.now (pointed c.args.made.now.pointers.items) (pointed c.deref.result.now) c.args.insn.now c.args.node c.args.guard is_ref c.args.kinds.now c.args.held.now c.carry_plain.new.held
    (seen c.args.made.now.cells.items) (seen c.carry_plain.new.cells.items) (sited c.args.made.now.sites.items) (ap pointed c.deref.ensures.value) (sym c.is_plain.ensures ∙ c.if-is_plain.true) c.requires.allowed c.requires.inside (c.carry_plain.ensures.carries c.args.decls.now c.args.node is_ref)

pub operate_call-requires-clause-pending : goal.operate_call-requires-clause-pending
operate_call-requires-clause-pending c = c.pending_of.ensures.there (length (seen c.args.made.now.cells.items)) c.requires.pending c.requires.guard

pub operate_access-requires : goal.operate_access-requires
operate_access-requires c = record {
  insn = c.requires.insn;
  leads = c.requires.leads;
  call = c.in_default.not-Call;
  accesses = sym c.is_plain.ensures ∙ c.if-is_plain.false;
  guard = c.requires.guard;
  pending = c.pending_of.ensures.there (length (seen c.args.made.now.cells.items)) c.requires.pending c.requires.guard;
  inside = c.requires.inside;
  allowed = c.requires.allowed;
  values = c.requires.values;
}

pub returns-then-is_plain-clause-rows : goal.returns-then-is_plain-clause-rows
returns-then-is_plain-clause-rows c = λ is_ref.
    plain_rows c.carry_plain.result c.args.decls.now (pointed c.args.made.now.pointers.items) (pointed c.deref.result.now) c.args.insn.now c.args.node is_ref c.args.kinds.now c.args.held.now c.carry_plain.new.held c.args.pending.now
    (seen c.args.made.now.cells.items) (seen c.carry_plain.new.cells.items) (sited c.args.made.now.sites.items) (ap pointed c.deref.ensures.value) c.requires.allowed c.requires.inside
    (c.carry_plain.ensures.carries c.args.decls.now c.args.node is_ref) (c.carry_plain.ensures.rows c.args.decls.now c.args.node is_ref)

pub returns-in-Call-clause-rows : goal.returns-in-Call-clause-rows
returns-in-Call-clause-rows c = λ is_ref.
    operated_rows c.operate_call.result _ _ _ _ _ _ c.args.pending.now c.map_in.result c.pending_of.result _ _ _ _ _ _ (c.operate_call.ensures.rows is_ref) (λ q u. c.map_in.ensures q (sym c.kind_used.ensures ∙ u)) c.pending_of.ensures.own

pub returns-in_default-clause-rows : goal.returns-in_default-clause-rows
returns-in_default-clause-rows c = λ is_ref.
    operated_rows c.operate_access.result _ _ _ _ _ _ c.args.pending.now c.map_in.result c.pending_of.result _ _ _ _ _ _ (c.operate_access.ensures.rows is_ref) (λ q u. c.map_in.ensures q (sym c.kind_used.ensures ∙ u)) c.pending_of.ensures.own

pub returns-then-is_plain-clause-points : goal.returns-then-is_plain-clause-points
returns-then-is_plain-clause-points c is_ref = plain_points c.carry_plain.result _ _ c.args.pending.now _ _ _ _ _ _ _ _ (c.carry_plain.ensures.points c.args.decls.now c.args.node is_ref c.requires.allowed)

pub returns-in-Call-clause-points : goal.returns-in-Call-clause-points
returns-in-Call-clause-points c is_ref = operated_points c.operate_call.result _ _ c.args.pending.now c.map_in.result c.pending_of.result _ _ _ _ _ _ _ _ _ _ (c.operate_call.ensures.points is_ref) (λ q u. c.map_in.ensures q (sym c.kind_used.ensures ∙ u)) c.pending_of.ensures.own

pub returns-in_default-clause-points : goal.returns-in_default-clause-points
returns-in_default-clause-points c is_ref = operated_points c.operate_access.result _ _ c.args.pending.now c.map_in.result c.pending_of.result _ _ _ _ _ _ _ _ _ _ (c.operate_access.ensures.points is_ref) (λ q u. c.map_in.ensures q (sym c.kind_used.ensures ∙ u)) c.pending_of.ensures.own
