use Rattle.std.proofs.Common.{sym, ◌∙◌}
use Rattle.register_cells.proofs.ValueLaws.{AreOpen, open_right, open_shift, worked_finds, worked_to, shifted_to}
use Rattle.register_cells.proofs.computing.compute.Goals as goal
use Rattle.register_cells.proofs.computing.compute.Goals.{in_default-via-in-Known+in_default, in_default-via-in-Between-Known+else-is_shift, in_default-via-in-Between+in_default}

pub returns-in_ok-c-in-Between-Known-clause-rows : goal.returns-in_ok-c-in-Between-Known-clause-rows
returns-in_ok-c-in-Between-Known-clause-rows c = λ s ps. rw (c.in-Between-Known.is-0, c.in-Between-Known.is-1) (shifted_to ps c.args.code c.args.signed c.args.width s _ _ c.in-Between-Known.n c.args.b c.in_ok-c-in-Between-Known.ensures.rises)

-- not both are known
open_both : (c : goal.In_ok-c-in_default) → AreOpen c.args.code c.args.x c.args.y
open_both c = elim c.in_default.branch [
  | in_default-via-in-Known+in_default w ↦ open_right c.args.code c.args.x c.args.y _ _ w.in_default.is-1
  | in_default-via-in-Between-Known+else-is_shift w ↦ open_shift c.args.code c.args.x c.args.y _ _ w.in-Between-Known.n w.in-Between-Known.is-0 w.in-Between-Known.is-1 (sym w.is_shift.ensures ∙ w.if-is_shift.false)
  | in_default-via-in-Between+in_default w ↦ open_right c.args.code c.args.x c.args.y _ _ w.in_default.is-1
]

pub returns-in_ok-c-in_default-clause-finds : goal.returns-in_ok-c-in_default-clause-finds
returns-in_ok-c-in_default-clause-finds c = λ s. worked_finds c.args.code c.args.signed c.args.width s c.args.x c.args.a c.args.y c.args.b (open_both c) c.in_ok-left-in_default.ensures.makes c.in_ok-right-in_default.ensures.makes c.in_ok-c-in_default.ensures.makes

pub returns-in_ok-c-in_default-clause-rows : goal.returns-in_ok-c-in_default-clause-rows
returns-in_ok-c-in_default-clause-rows c = λ s ps. worked_to c.args.code c.args.signed c.args.width s c.args.x c.args.a c.args.y c.args.b (open_both c) ps c.in_ok-left-in_default.ensures.rises c.in_ok-right-in_default.ensures.rises c.in_ok-c-in_default.ensures.rises
