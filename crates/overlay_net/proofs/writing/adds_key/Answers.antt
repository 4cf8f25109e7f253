use Rattle.std.proofs.Common.{[], ◌∷◌, arith}
use Rattle.hazard_core.specs.cell_core.Cells.{bit}
use Rattle.hazard_core.specs.StageValues.{adds_key}
use Rattle.cell_nets.specs.Operands.{number_in, IsAvailable}
use Rattle.cell_nets.specs.Wires.{wires_of}
use Rattle.overlay_net.specs.SiteOperands.Sites.{operands_of, all_of}
use Rattle.cell_nets.proofs.StepNets.ChainLaws.{starts, last, ends}
use Rattle.cell_nets.proofs.StepNets.StepLaws.{all_each}
use Rattle.overlay_net.proofs.WriteLemmas.{update_adds, other_adds}
use Rattle.overlay_net.proofs.writing.adds_key.Goals as goal

pub returns-in_ok-out-in-Update : goal.returns-in_ok-out-in-Update
returns-in_ok-out-in-Update g c =
    let s = operands_of c.args.nets.now in
    let w = c.args.wrote in
    let x = c.in_ok-out-in-Update.ensures in
    record {
      operand = x.operand;
      bits = x.bits;
      given = λ p decls h j is.
          last (starts c.args.part (wires_of c.args.wires.now.items) (w ∷ all_of s) _) x (λ ins all. all_each (IsAvailable ins) (w ∷ s.found ∷ []) (all 0 w (omega arith), (all 2 s.found (omega arith), tt))) (λ v f k. tt) (λ v. bit (adds_key p decls h j))
          (λ v f k. update_adds p decls h j c.args.act is (number_in v w) (number_in v s.found) c.in-Update.is k.1 k.0.found);
    }

pub returns-in_default : goal.returns-in_default
returns-in_default g c =
    record {
      operand = omega arith;
      bits = omega arith;
      given = λ p decls h j is.
          ends (starts c.args.part (wires_of c.args.wires.now.items) (c.args.wrote ∷ all_of (operands_of c.args.nets.now)) _) (λ v. bit (adds_key p decls h j)) 1 _ (λ ins all. tt) (omega arith) (omega arith)
          (λ v f k. other_adds p decls h j c.args.act is c.in_default.not-Update);
    }
