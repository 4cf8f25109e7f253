use Rattle.std.proofs.Common.{◌∙◌, ap, arith}
use Rattle.operator_cells.proofs.Spread.{patched_makes, patched_there}
use Rattle.cell_core.specs.Rows.{greatest}
use Rattle.operator_cells.proofs.RisingLaws.{greatest_patched, stand_none, stand_all, rises_then}
use Rattle.operator_cells.proofs.spreading.patch.Goals as goal

pub join_bytes-requires-clause-there : goal.join_bytes-requires-clause-there
join_bytes-requires-clause-there c =
    let is = rw (c.deref.ensures.value, c.deref-2.ensures.value) at c.in_ok-all.ensures in
    patched_there _ _ _ _ _ _ _ _ _ _ _ c.in_ok-bytes.ensures.makes c.in_ok-part.ensures.makes (c.deref-3.ensures.value ∙ is)

pub returns-clause-makes : goal.returns-clause-makes
returns-clause-makes c =
    let is = rw (c.deref.ensures.value, c.deref-2.ensures.value) at c.in_ok-all.ensures in
    patched_makes _ _ _ _ _ _ _ _ _ _ _ _ c.requires.inside c.in_ok-bytes.ensures.makes (rw c.bytes_in.ensures.value at c.in_ok-part.ensures.makes) (c.deref-3.ensures.value ∙ is) c.in_ok-c.ensures.makes

pub returns-clause-rises : goal.returns-clause-rises
returns-clause-rises c =
    let is = rw (c.deref.ensures.value, c.deref-2.ensures.value) at c.in_ok-all.ensures in
    rises_then (stand_all (stand_all stand_none c.in_ok-bytes.ensures.rises (λ row p. omega arith)) c.in_ok-part.ensures.rises (λ row p. omega arith)) c.in_ok-c.ensures.rises
    (λ row p. omega (arith, ap (greatest row) (c.deref-3.ensures.value ∙ is), greatest_patched row c.in_ok-bytes.bytes.items c.in_ok-part.part.items c.args.at))
