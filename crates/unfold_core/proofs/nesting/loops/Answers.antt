use Rattle.std.proofs.Common.{◌≡◌, length, sym, ap, subst, ◌∙◌, arith}
use Rattle.std.specs.Prelude.{All, IfSome}
use Rattle.xdp_machine.specs.bpf_isa.Spelling.{IsInsn}
use Rattle.unfold_core.specs.Tables.{IsLeastCrossed, first_place}
use Rattle.unfold_core.proofs.Laid.{legal_units}
use Rattle.unfold_core.proofs.FoundLoops.{tabled, finds_refusal, finds_loops}
use Rattle.unfold_core.proofs.nesting.loops.Goals as goal

pub loops_below-requires-clause-legal : goal.loops_below-requires-clause-legal
loops_below-requires-clause-legal c =
    subst (λ us. All (λ unit. IfSome unit IsInsn) us) (sym c.deref.ensures.value)
    (legal_units c.insns.result.now c.in-Ok.units.items c.in-Ok.ensures (subst (λ is. All IsInsn is) (sym c.insns.ensures.insns) c.insns.ensures.program.legal))

pub returns-in-Some : goal.returns-in-Some
returns-in-Some c =
    let size : c.len-2.result ≡ length c.in-Ok.units.items = omega (arith, c.len-2.ensures, c.in-Ok.units.ok.0) in
    let first_size : c.len.result ≡ length c.in-Ok.units.items = omega (arith, c.len.ensures, c.in-Ok.units.ok.0) in
    finds_refusal c.args.program.now.insns c.in-Ok.units.items c.min.result c.in-Ok-loops_below.loops.items c.least_crossed.result c.in-Some.refusal
    (tabled c.args.program.now.insns c.insns.result.now c.in-Ok.units.items c.deref.result.now c.min.result c.len.result c.in-Ok-loops_below.loops.items
    c.in-Ok.ensures c.insns.ensures.insns c.deref.ensures.value first_size c.min.ensures c.in-Ok-loops_below.ensures)
    (subst (λ ls. IsLeastCrossed ls (length ls) c.least_crossed.result) c.deref-2.ensures.value c.least_crossed.ensures)
    (sym (c.in-Some.ensures ∙ ap (first_place c.least_crossed.result) size))

pub returns : goal.returns
returns c =
    let size : c.len-2.result ≡ length c.in-Ok.units.items = omega (arith, c.len-2.ensures, c.in-Ok.units.ok.0) in
    let first_size : c.len.result ≡ length c.in-Ok.units.items = omega (arith, c.len.ensures, c.in-Ok.units.ok.0) in
    finds_loops c.args.program.now.insns c.in-Ok.units.items c.min.result c.in-Ok-loops_below.loops.items c.least_crossed.result
    (tabled c.args.program.now.insns c.insns.result.now c.in-Ok.units.items c.deref.result.now c.min.result c.len.result c.in-Ok-loops_below.loops.items
    c.in-Ok.ensures c.insns.ensures.insns c.deref.ensures.value first_size c.min.ensures c.in-Ok-loops_below.ensures)
    (subst (λ ls. IsLeastCrossed ls (length ls) c.least_crossed.result) c.deref-2.ensures.value c.least_crossed.ensures)
    (sym (c.in-None.ensures ∙ ap (first_place c.least_crossed.result) size))
