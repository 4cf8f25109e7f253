use Rattle.std.proofs.Common.{◌≡◌, ◌∙◌, ◌+◌, ◌*◌, ◌==◌, ◌&&◌, [], ◌∷◌, sym, ap, arith}
use Rattle.overlay_net.specs.cell_core.Cells.{bit}
use Rattle.overlay_net.specs.hazard_core.declared.pointer.Pointer.TheVariants.{Pending}
use Rattle.overlay_net.specs.hazard_core.StageValues.{same_pointer, is_update, written_pointer}
use Rattle.overlay_net.specs.hazard_core.Commits.{makes_entry}
use Rattle.overlay_net.specs.cell_nets.declared.operand.Operand.TheVariants.{Known}
use Rattle.overlay_net.specs.cell_nets.Operands.{number_in, IsAvailable}
use Rattle.overlay_net.specs.cell_nets.Wires.{wires_of}
use Rattle.commit_net.specs.Targets.{ShowsWritten}
use Rattle.overlay_net.proofs.cell_nets_laws.StepNets.ChainLaws.{starts, last, ends}
use Rattle.overlay_net.proofs.cell_nets_laws.StepNets.StepLaws.{all_each}
use Rattle.overlay_net.proofs.hazard_core_laws.ActsLaws.{no_update}
use Rattle.commit_net.proofs.TargetLemmas.{pending_test}
use Rattle.commit_net.proofs.target.makes_entry.Goals as goal

pub returns-in_ok-out-in-Update : goal.returns-in_ok-out-in-Update
returns-in_ok-out-in-Update g c =
    let n = c.args.written in
    let j = c.args.site in
    let x = c.in_ok-out-in-Update.ensures in
    let m = c.pending_number-number.result in
    let e : m ≡ 4 * j + 2 = c.pending_number-number.ensures in
    record {
      operand = x.operand;
      bits = x.bits;
      gives = λ p t h doing.
          let q = written_pointer p t h j in
          last (starts c.args.part (wires_of c.args.wires.now.items) (n ∷ []) (λ v. ShowsWritten v p t h j n)) x (λ ins h. all_each (IsAvailable ins) (n ∷ Known m ∷ []) (h 0 n (omega arith), (tt, tt))) (λ v f k. tt) (λ v. bit (makes_entry p t h j))
          (λ v f k.
          ap (λ y. bit (number_in v n == y)) e ∙ ap (λ y. bit (y == 4 * j + 2)) k ∙ ap bit (pending_test q j) ∙ ap (λ a. bit (is_update a && same_pointer q (Pending j))) (sym (doing ∙ c.in-Update.is)));
    }

pub returns-in_default : goal.returns-in_default
returns-in_default g c =
    let n = c.args.written in
    let j = c.args.site in
    record {
      operand = omega arith;
      bits = omega arith;
      gives = λ p t h doing.
          ends (starts c.args.part (wires_of c.args.wires.now.items) (n ∷ []) (λ v. ShowsWritten v p t h j n)) (λ v. bit (makes_entry p t h j)) 1 (Known 0) (λ ins h. tt) (omega arith) (omega arith)
          (λ v f k. ap (λ b. bit (b && same_pointer (written_pointer p t h j) (Pending j))) (sym (ap is_update doing ∙ no_update c.args.act c.in_default.not-Update)));
    }
