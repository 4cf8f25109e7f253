use Rattle.std.specs.Prelude.{not}
use Rattle.std.proofs.Common.{true, false, ◌∙◌, [], ◌∷◌, ap, arith}
use Rattle.hazard_core.specs.cell_core.declared.site.Act.TheVariants as act
use Rattle.hazard_core.specs.cell_core.Cells.{bit, on}
use Rattle.hazard_core.specs.StageValues.{writes, writes_as}
use Rattle.cell_nets.specs.Operands.{number_in, IsAvailable}
use Rattle.cell_nets.specs.Wires.{wires_of}
use Rattle.overlay_net.specs.SiteOperands.Sites.{operands_of, all_of}
use Rattle.cell_nets.proofs.StepNets.ChainLaws.{starts, last, ends}
use Rattle.cell_nets.proofs.StepNets.StepLaws.{all_each}
use Rattle.overlay_net.proofs.WriteLemmas.{is_zero, and_none, and_all, shown_writes, others_write}
use Rattle.overlay_net.proofs.writing.writes.Goals as goal

pub returns-in_ok-out-in-Update : goal.returns-in_ok-out-in-Update
returns-in_ok-out-in-Update g c =
    let s = operands_of c.args.nets.now in
    let d = c.args.decl.now in
    let x = c.in_ok-out-in-Update.ensures in
    record {
      operand = x.operand;
      bits = x.bits;
      given = λ p decls h j is.
          last (starts c.args.part (wires_of c.args.wires.now.items) (all_of s) _) x (λ ins all. all_each (IsAvailable ins) (s.guard ∷ s.answer ∷ []) (all 0 s.guard (omega arith), (all 2 s.answer (omega arith), tt))) (λ v f k. tt) (λ v. bit (writes p decls h j))
          (λ v f k. shown_writes p decls h j c.args.act d is v s (λ n. not (on n)) (λ n. ap (λ a. writes_as a d.kind n) c.in-Update.is ∙ is_zero n) k);
    }

pub returns-in_ok-out-in-Hash : goal.returns-in_ok-out-in-Hash
returns-in_ok-out-in-Hash g c =
    let s = operands_of c.args.nets.now in
    let d = c.args.decl.now in
    let x = c.in_ok-out-in-Hash.ensures in
    record {
      operand = x.operand;
      bits = x.bits;
      given = λ p decls h j is.
          last (starts c.args.part (wires_of c.args.wires.now.items) (all_of s) _) x (λ ins all. all_each (IsAvailable ins) (s.guard ∷ s.answer ∷ []) (all 0 s.guard (omega arith), (all 2 s.answer (omega arith), tt))) (λ v f k. tt) (λ v. bit (writes p decls h j))
          (λ v f k. shown_writes p decls h j c.args.act d is v s (λ n. not (on n)) (λ n. ap (λ a. writes_as a d.kind n) c.in-Delete.is ∙ ap (λ b. writes_as act.Delete b n) c.in-Hash.is ∙ is_zero n) k);
    }

pub returns-in-Array : goal.returns-in-Array
returns-in-Array g c =
    let s = operands_of c.args.nets.now in
    let d = c.args.decl.now in
    record {
      operand = omega arith;
      bits = omega arith;
      given = λ p decls h j is.
          ends (starts c.args.part (wires_of c.args.wires.now.items) (all_of s) _) (λ v. bit (writes p decls h j)) 1 _ (λ ins all. tt) (omega arith) (omega arith)
          (λ v f k. and_none (on (number_in v s.guard)) ∙ shown_writes p decls h j c.args.act d is v s (λ n. false) (λ n. ap (λ a. writes_as a d.kind n) c.in-Delete.is ∙ ap (λ b. writes_as act.Delete b n) c.in-Array.is) k);
    }

pub returns-then-not-records : goal.returns-then-not-records
returns-then-not-records g c =
    let s = operands_of c.args.nets.now in
    let d = c.args.decl.now in
    record {
      operand = omega arith;
      bits = omega arith;
      given = λ p decls h j is.
          ends (starts c.args.part (wires_of c.args.wires.now.items) (all_of s) _) (λ v. bit (writes p decls h j)) 1 _ (λ ins all. tt) (omega arith) (omega arith)
          (λ v f k. and_none (on (number_in v s.guard)) ∙ shown_writes p decls h j c.args.act d is v s (λ n. false) (λ n. others_write c.args.act d.kind n c.in_default.not-Update c.in_default.not-Delete ∙ (let e = c.records.ensures in let f = c.if-not-records.true in cc)) k);
    }

pub returns-in_ok-out-in_default : goal.returns-in_ok-out-in_default
returns-in_ok-out-in_default g c =
    let s = operands_of c.args.nets.now in
    let d = c.args.decl.now in
    let x = c.in_ok-out-in_default.ensures in
    record {
      operand = x.operand;
      bits = x.bits;
      given = λ p decls h j is.
          last (starts c.args.part (wires_of c.args.wires.now.items) (all_of s) _) x (λ ins all. all_each (IsAvailable ins) (s.guard ∷ []) (all 0 s.guard (omega arith), tt)) (λ v f k. tt) (λ v. bit (writes p decls h j))
          (λ v f k. and_all (on (number_in v s.guard)) ∙ shown_writes p decls h j c.args.act d is v s (λ n. true) (λ n. others_write c.args.act d.kind n c.in_default.not-Update c.in_default.not-Delete ∙ (let e = c.records.ensures in let f = c.if-not-records.false in cc)) k);
    }
