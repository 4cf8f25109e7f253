use Rattle.cover_core.proofs.SameInsn.{same_by_parts, fields_of}
use Rattle.cover_core.proofs.covering.is_same_insn.Goals as goal

pub returns : goal.returns
returns c = (
  λ yes. same_by_parts c.args.i.now c.args.j.now c.undirected.result c.undirected-2.result c.undirected.ensures c.undirected-2.ensures (c.is_same_op.ensures.0 c.if-not-is_same_op.false) (c.has_same_fields.ensures.0 yes),
  λ same. c.has_same_fields.ensures.1 (fields_of c.args.i.now c.args.j.now c.undirected.result c.undirected-2.result c.undirected.ensures c.undirected-2.ensures same),
)
