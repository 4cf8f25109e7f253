use Rattle.std.specs.Prelude.{◌==◌}
use Rattle.std.proofs.Common.{ℕ, map, sym, ◌∙◌, refl, arith}
use Rattle.std.proofs.lemmas.Bool.{eq-eqb}
use Rattle.std.proofs.lemmas.List.{get_or-map, length-map}
use Rattle.hazard_core.specs.cell_core.declared.program.FrameByte.{FrameByte}
use Rattle.stage_net.proofs.SiteTable.ListLemmas.{any_of}
use Rattle.stage_net.proofs.site_table.lists.in_frame.Goals as goal

abbrev cell : FrameByte → ℕ
cell b = b.cell

pub returns-then-byte-cell : goal.returns-then-byte-cell
returns-then-byte-cell c =
    let i : ℕ = c.loop-byte.byte-index in
    let none : FrameByte = record { at = 0; cell = 0 } in
    sym (any_of (λ k. k == c.args.cell) (map cell c.args.frame.now) c.args.cell
    (i, omega (arith, length-map c.args.frame.now cell, c.loop-byte-test.true), get_or-map cell c.args.frame.now i none c.args.cell c.loop-byte-test.true ∙ c.if-byte-cell.true) (eq-eqb c.args.cell c.args.cell refl))
