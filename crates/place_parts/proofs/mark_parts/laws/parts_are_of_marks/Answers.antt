use Rattle.place_parts.proofs.MarkParts.Laying.{of_marks}
use Rattle.place_parts.proofs.mark_parts.laws.parts_are_of_marks.Goals as goal

pub returns : goal.returns
returns c l f d k sites changes is low at changed sites_long changes_long x y = of_marks l f d k sites changes is low at changed sites_long changes_long x y
