use Rattle.std.proofs.Common.{[], ◌∷◌, arith}
use Rattle.hazard_core.specs.cell_core.Cells.{bit}
use Rattle.hazard_core.specs.StageValues.{takes_key}
use Rattle.cell_nets.specs.Operands.{number_in}
use Rattle.cell_nets.specs.Wires.{wires_of}
use Rattle.cell_nets.proofs.StepNets.ChainLaws.{starts, last, ends}
use Rattle.overlay_net.proofs.WriteLemmas.{delete_takes, other_takes}
use Rattle.overlay_net.proofs.writing.takes_key.Goals as goal

pub returns-in_ok-out-in-Delete : goal.returns-in_ok-out-in-Delete
returns-in_ok-out-in-Delete g c =
    let x = c.in_ok-out-in-Delete.ensures in
    record {
      operand = x.operand;
      bits = x.bits;
      given = λ p decls h j is.
          last (starts c.args.part (wires_of c.args.wires.now.items) (c.args.wrote ∷ []) _) x (λ ins all. all) (λ v f k. tt) (λ v. bit (takes_key p decls h j))
          (λ v f k. delete_takes p decls h j c.args.act is (number_in v c.args.wrote) c.in-Delete.is k);
    }

pub returns-in_default : goal.returns-in_default
returns-in_default g c =
    record {
      operand = omega arith;
      bits = omega arith;
      given = λ p decls h j is.
          ends (starts c.args.part (wires_of c.args.wires.now.items) (c.args.wrote ∷ []) _) (λ v. bit (takes_key p decls h j)) 1 _ (λ ins all. tt) (omega arith) (omega arith)
          (λ v f k. other_takes p decls h j c.args.act is c.in_default.not-Delete);
    }
