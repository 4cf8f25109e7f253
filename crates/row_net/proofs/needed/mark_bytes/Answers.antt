use Rattle.std.proofs.Common.{rules, ℕ, get_or, map, sym, arith}
use Rattle.std.proofs.lemmas.List.{get_or-map, length-map}
use Rattle.overlay_net.specs.cell_core.declared.program.FrameByte.{FrameByte}
use Rattle.row_net.proofs.MarkLemmas.{marks_start, marks_next, marks_all}
use Rattle.row_net.proofs.needed.mark_bytes.Goals as goal

abbrev cell : FrameByte → ℕ
cell b = b.cell

pub loop-byte-init : goal.loop-byte-init
loop-byte-init c = marks_start c.args.flags.now

pub loop-byte-preserved : goal.loop-byte-preserved
loop-byte-preserved c =
    let i : ℕ = c.loop-byte.byte-index in
    let none : FrameByte = record { at = 0; cell = 0 } in
    let x : ℕ = (get_or c.args.frame.now i none).cell in
    marks_next (map (λ b. b.cell) c.args.frame.now) i x c.args.flags.now c.loop-byte.flags c.mark.new.flags (omega (arith, length-map c.args.frame.now cell, c.loop-byte-test.true)) (sym (get_or-map cell c.args.frame.now i none x c.loop-byte-test.true))
    c.loop-byte.invariant c.mark.ensures

pub returns : goal.returns
returns c = marks_all (map (λ b. b.cell) c.args.frame.now) c.loop-byte.byte-index c.args.flags.now c.loop-byte.flags (search (rules, length-map c.args.frame.now cell)) c.loop-byte.invariant
