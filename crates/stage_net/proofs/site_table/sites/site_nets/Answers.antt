use Rattle.std.proofs.Common.{◌≡◌, ◌∙◌, List, map as map_list, ap}
use Rattle.hazard_core.specs.cell_core.Sites.{site_at}
use Rattle.hazard_core.specs.cell_core.View.{program_of}
use Rattle.hazard_core.specs.StageValues.{found_cell, answer_cell}
use Rattle.overlay_net.specs.cell_nets.declared.operand.Operand.{Operand}
use Rattle.overlay_net.specs.SiteOperands.Sites.{SiteOperands, operands_of}
use Rattle.stage_net.specs.SiteTable.Sites.{operand_at, access_operand}
use Rattle.stage_net.proofs.SiteTable.SiteLaws.{site_is}
use Rattle.stage_net.proofs.site_table.sites.site_nets.Goals as goal

abbrev made : {N : Type 0} → Operand N → List (Operand N) → List (Operand N) → Operand N → Operand N → Operand N → SiteOperands N
made a ks os f w q = record { guard = a; key = ks; operands = os; found = f; answer = w; pointer = q }

same : {N : Type 0} (a b f g w x q r : Operand N) (ks ls os ms : List (Operand N)) → a ≡ b → ks ≡ ls → os ≡ ms → f ≡ g → w ≡ x → q ≡ r → made a ks os f w q ≡ made b ls ms g x r
same a b f g w x q r ks ls os ms e1 e2 e3 e4 e5 e6 = cc

pub returns : goal.returns
returns g c =
    let p = program_of c.args.program.now in
    let table = c.args.table.now in
    let pointers = c.args.pointers.now in
    let s = site_at p.sites c.args.site in
    let t = c.site_at-taken.ensures in
    site_is p table pointers c.args.site (operands_of record { guard = c.operand.result; key = c.in_ok-key.key; operands = c.in_ok-operands.operands; found = c.operand-2.result; answer = c.operand-3.result; pointer = c.access_operand.result })
    (same c.operand.result (operand_at table s.guard) c.operand-2.result (operand_at pointers (found_cell p.cells c.args.site)) c.operand-3.result (operand_at table (answer_cell p.cells c.args.site)) c.access_operand.result (access_operand pointers s.act s.operands)
    c.in_ok-key.key.items (map_list (operand_at table) s.key) c.in_ok-operands.operands.items (map_list (operand_at table) s.operands) (c.operand.ensures ∙ ap (operand_at table) t.guard)
    (c.in_ok-key.ensures ∙ ap (map_list (operand_at table)) (c.deref.ensures ∙ t.key)) (c.in_ok-operands.ensures ∙ ap (map_list (operand_at table)) (c.deref-2.ensures ∙ t.operands)) (c.operand-2.ensures ∙ ap (operand_at pointers) c.found_cell.ensures)
    (c.operand-3.ensures ∙ ap (operand_at table) c.answer_cell.ensures) (c.access_operand.ensures ∙ ap (λ a. access_operand pointers a c.deref-3.result.now) t.act ∙ ap (access_operand pointers s.act) (c.deref-3.ensures ∙ t.operands)))
