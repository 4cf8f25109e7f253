-- One instruction more, by what is known of it.
use Rattle.std.proofs.Common.{◌≡◌, ◌∙◌, ◌+◌, ◌-◌, ℕ, suc, length, Some, None, sym, arith}
use Rattle.xdp_machine.specs.bpf_isa.Text.{insn_at}
use Rattle.cover_core.proofs.Within.{within_out, within_lost, within_here, within_on}
use Rattle.cover_core.proofs.settling.settle.Goals as goal

pub returns-in-None : goal.returns-in-None
returns-in-None c =
    let n : ℕ = length c.args.units.now - c.loop-step._step in
    let m : ℕ = length c.args.units.now - (c.loop-step._step + 1) in
    let e : n ≡ suc m = omega arith in
    let none : insn_at c.args.program.now.insns c.loop-step.place ≡ None = sym (c.requires.are.same c.loop-step.place) ∙ sym c.insn_at.ensures.found ∙ c.in-None.is in
    sym (within_lost c.args.program.now.insns c.args.kinds.now n m c.loop-step.place e none) ∙ c.loop-step.invariant

pub returns-in-None-sure_side : goal.returns-in-None-sure_side
returns-in-None-sure_side c =
    let n : ℕ = length c.args.units.now - c.loop-step._step in
    let m : ℕ = length c.args.units.now - (c.loop-step._step + 1) in
    let e : n ≡ suc m = omega arith in
    let i = c.in-Some.insn in
    let at : insn_at c.args.program.now.insns c.loop-step.place ≡ Some i = sym (c.requires.are.same c.loop-step.place) ∙ sym c.insn_at.ensures.found ∙ c.in-Some.is in
    sym (within_here c.args.program.now.insns c.args.kinds.now n m c.loop-step.place i e at (sym c.sure_side.ensures ∙ c.in-None-sure_side.is)) ∙ c.loop-step.invariant

pub returns-in-None-side : goal.returns-in-None-side
returns-in-None-side c =
    let n : ℕ = length c.args.units.now - c.loop-step._step in
    let m : ℕ = length c.args.units.now - (c.loop-step._step + 1) in
    let e : n ≡ suc m = omega arith in
    let i = c.in-Some.insn in
    let at : insn_at c.args.program.now.insns c.loop-step.place ≡ Some i = sym (c.requires.are.same c.loop-step.place) ∙ sym c.insn_at.ensures.found ∙ c.in-Some.is in
    sym (within_on c.args.program.now.insns c.args.kinds.now n m c.loop-step.place i e at c.in-Some-sure_side.taken None (sym c.sure_side.ensures ∙ c.in-Some-sure_side.is) (sym c.side.ensures ∙ c.in-None-side.is)) ∙ c.loop-step.invariant

pub loop-step-preserved : goal.loop-step-preserved
loop-step-preserved c =
    let n : ℕ = length c.args.units.now - c.loop-step._step in
    let m : ℕ = length c.args.units.now - (c.loop-step._step + 1) in
    let e : n ≡ suc m = omega arith in
    let i = c.in-Some.insn in
    let at : insn_at c.args.program.now.insns c.loop-step.place ≡ Some i = sym (c.requires.are.same c.loop-step.place) ∙ sym c.insn_at.ensures.found ∙ c.in-Some.is in
    sym (within_on c.args.program.now.insns c.args.kinds.now n m c.loop-step.place i e at c.in-Some-sure_side.taken (Some c.in-Some-side.to) (sym c.sure_side.ensures ∙ c.in-Some-sure_side.is) (sym c.side.ensures ∙ c.in-Some-side.is)) ∙ c.loop-step.invariant

pub returns : goal.returns
returns c =
    let n : ℕ = length c.args.units.now - c.loop-step._step in
    let e : n ≡ 0 = omega arith in
    sym (within_out c.args.program.now.insns c.args.kinds.now n c.loop-step.place e) ∙ c.loop-step.invariant
