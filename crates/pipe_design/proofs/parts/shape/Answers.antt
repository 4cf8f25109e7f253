use Rattle.std.proofs.Common.{◌∙◌, ap, arith}
use Rattle.pipe_design.proofs.parts.shape.Goals as goal

pub returns : goal.returns
returns c =
    record {
      slots = omega (arith, c.new.ensures.slots, c.rows.ensures);
      stages = omega (arith, c.new.ensures.stages);
      commit = omega (arith, c.new.ensures.commit);
      narrow = c.new.ensures.least 9 (omega arith) (omega (arith, c.requires.ready.planned.few));
    }
