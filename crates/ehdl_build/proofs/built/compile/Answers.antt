use Rattle.std.proofs.Common.{◌≡◌, ◌≢◌, ◌∙◌, [], length, arith, refl, sym, ap, subst, inl, inr, Err}
use Rattle.xdp_object.specs.Choice.{chosen_of}
use Rattle.xdp_object.proofs.OutcomeLaws.{never_both}
use Rattle.ehdl_build.specs.declared.built.CompileError.TheVariants.{Refused}
use Rattle.ehdl_build.specs.Compiled.{FailsFor, Realizes}
use Rattle.ehdl_build.proofs.Outcomes.{accepted_of, failed, failed_program, never_refused, no_refusal, only_fault, only_refusal}
use Rattle.ehdl_build.proofs.built.compile.Goals as goal

pub returns-in-Err-clause-error : goal.returns-in-Err-clause-error
returns-in-Err-clause-error c = failed (chosen_of c.args.choice) c.args.bytes.now c.in-Err.error c.error_of.result c.error_of.ensures c.in-Err.ensures.fault

pub returns-in-Err-clause-object : goal.returns-in-Err-clause-object
returns-in-Err-clause-object c = λ e fault. only_fault (chosen_of c.args.choice) c.args.bytes.now c.in-Err.error c.error_of.result e c.error_of.ensures c.in-Err.ensures.fault fault

pub returns-in-Err-clause-refused : goal.returns-in-Err-clause-refused
returns-in-Err-clause-refused c = λ r refused. never_refused (chosen_of c.args.choice) c.args.bytes.now c.in-Err.error c.error_of.result r c.error_of.ensures c.in-Err.ensures.fault refused

pub returns-in-Err-count-clause-error : goal.returns-in-Err-count-clause-error
returns-in-Err-count-clause-error c =
    failed_program (chosen_of c.args.choice) c.args.bytes.now c.in-Ok.program c.in-Ok.ensures.program c.in-Err-count.error c.refusal_of.result c.in-Err-count.ensures.fails c.refusal_of.ensures

pub returns-in-Err-count-clause-object : goal.returns-in-Err-count-clause-object
returns-in-Err-count-clause-object c = λ e fault. absurd (never_both (chosen_of c.args.choice) c.args.bytes.now c.in-Ok.program e c.in-Ok.ensures.program fault)

pub returns-in-Err-count-clause-refused : goal.returns-in-Err-count-clause-refused
returns-in-Err-count-clause-refused c = λ r refused.
    only_refusal (chosen_of c.args.choice) c.args.bytes.now c.in-Ok.program c.in-Ok.ensures.program c.in-Err-count.error c.refusal_of.result r c.in-Err-count.ensures.fails c.refusal_of.ensures refused

pub returns-in_err-text-clause-object : goal.returns-in_err-text-clause-object
returns-in_err-text-clause-object c = λ e fault. absurd (never_both (chosen_of c.args.choice) c.args.bytes.now c.in-Ok.program e c.in-Ok.ensures.program fault)

pub returns-in_err-text-clause-refused : goal.returns-in_err-text-clause-refused
returns-in_err-text-clause-refused c = λ r refused.
    let p = c.in-Ok.program in
    absurd (no_refusal (chosen_of c.args.choice) c.args.bytes.now p c.in-Ok.ensures.program r (accepted_of p c.in-Ok-count.counted c.in-Ok-count.ensures.counted) refused)

pub returns-clause-ok : goal.returns-clause-ok
returns-clause-ok c =
    let p = c.in-Ok.program in
    let counted = c.in-Ok-count.counted in
    let count : c.len.result ≡ length counted.graph.nodes.items = omega (arith, c.len.ensures) in
    record {
      program = p;
      object = c.in-Ok.ensures.program;
      is_program = c.decls.ensures.program;
      decls = c.in_ok-decls.ensures ∙ c.decls.ensures.decls;
      has_size = record { accepted = accepted_of p counted c.in-Ok-count.ensures.counted; stages = refl; records = refl; nodes = count };
      realizes = subst (λ n. Realizes c.in_ok-text.text.items p (record { stages = counted.stages.rows; records = counted.stages.records; nodes = n })) (sym count) c.in_ok-text.ensures;
    }

pub returns-clause-object : goal.returns-clause-object
returns-clause-object c = λ e fault. absurd (never_both (chosen_of c.args.choice) c.args.bytes.now c.in-Ok.program e c.in-Ok.ensures.program fault)

pub returns-clause-refused : goal.returns-clause-refused
returns-clause-refused c = λ r refused.
    let p = c.in-Ok.program in
    absurd (no_refusal (chosen_of c.args.choice) c.args.bytes.now p c.in-Ok.ensures.program r (accepted_of p c.in-Ok-count.counted c.in-Ok-count.ensures.counted) refused)
