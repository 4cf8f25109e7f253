use Rattle.std.proofs.Common.{◌≡◌, ◌∙◌, ◌++◌, All, length, map, sym, ap, subst, arith}
use Rattle.std.proofs.lemmas.List.{length-map}
use Rattle.overlay_net.specs.cell_core.Cells.{bits_from}
use Rattle.overlay_net.specs.cell_nets.Operands.{IsOperand, IsAvailable}
use Rattle.overlay_net.specs.cell_nets.Wires.{wires_of, always}
use Rattle.commit_net.specs.Choosing.{asked_of, chosen_of, picked, all_read}
use Rattle.overlay_net.proofs.cell_nets_laws.StepNets.ChainLaws.{starts, last}
use Rattle.commit_net.proofs.ChooseLemmas.{each_chosen, each_asked, asks_there}
use Rattle.commit_net.proofs.choosing.asked_net.Goals as goal

pub select-requires : goal.select-requires
select-requires g c =
    let ns = c.args.sites.now in
    let e = c.deref.ensures.value ∙ c.in_ok-values.ensures in
    record {
      count = ap length e ∙ length-map ns (asked_of c.args.what);
      chosen = each_chosen IsOperand ns c.requires.operands;
      values = subst (All IsOperand) (sym e) (each_asked IsOperand (λ n l. omega (arith, l)) c.args.what ns c.requires.operands);
      width = c.requires.width;
    }

pub returns : goal.returns
returns g c =
    let ns = c.args.sites.now in
    let f = asked_of c.args.what in
    let w = c.args.width in
    let e : c.deref.result.now ≡ map f ns = c.deref.ensures.value ∙ c.in_ok-values.ensures in
    last (starts c.args.part (wires_of c.args.wires.now.items) (all_read ns) always) c.in_ok-n.ensures (λ ins h. subst (λ l. All (IsAvailable ins) (chosen_of ns ++ l)) (sym e) (asks_there (IsAvailable ins) (λ n l. tt) c.args.what ns h)) (λ v g h. h) (λ v. bits_from (picked ns (map f ns) v) 0 w)
    (λ v g h. ap (λ l. bits_from (picked ns l v) 0 w) e)
