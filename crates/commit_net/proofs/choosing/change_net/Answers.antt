use Rattle.std.proofs.Common.{◌∙◌, map, sym, ap}
use Rattle.overlay_net.specs.cell_core.Cells.{bit, bits_from}
use Rattle.overlay_net.specs.cell_core.Sites.{site_at}
use Rattle.overlay_net.specs.cell_nets.Wires.{wires_of}
use Rattle.overlay_net.specs.hazard_core.Tables.{decl_of}
use Rattle.overlay_net.specs.hazard_core.StageValues.{stage_value}
use Rattle.commit_net.specs.Choosing.{changes_word, all_read, IsChosen}
use Rattle.commit_net.specs.declared.choosing.Asked.TheVariants.{Change}
use Rattle.overlay_net.proofs.cell_nets_laws.StepNets.ChainLaws.{starts, last}
use Rattle.commit_net.proofs.ChooseLemmas.{asked_picked, known_bit, word_stays}
use Rattle.commit_net.proofs.choosing.change_net.Goals as goal

pub returns-clause-gives : goal.returns-clause-gives
returns-clause-gives g c = λ p j.
    let ns = c.args.sites.now in
    let w = c.args.w in
    last (starts c.args.part (wires_of c.args.wires.now.items) (all_read ns) (λ v. IsChosen v p j ns)) c.in_ok-n.ensures (λ ins a. a) (λ v f s. tt) (λ v. bit (changes_word (site_at p.sites j).act w))
    (λ v f s. ap (λ x. bits_from x 0 1) (asked_picked v p j ns (Change w) s) ∙ known_bit v (changes_word s.nets.act w) ∙ ap (λ a. bit (changes_word a w)) (sym s.act))

pub returns-clause-stays : goal.returns-clause-stays
returns-clause-stays g c = λ p decls h j value same aligned inside b.
    let s = site_at p.sites j in
    word_stays (decl_of decls s.map) s.act (map (stage_value h) s.key) (map (stage_value h) s.operands) value c.args.w same aligned inside b

pub returns-in_err-n-clause-stays : goal.returns-in_err-n-clause-stays
returns-in_err-n-clause-stays g c = λ p decls h j value same aligned inside b.
    let s = site_at p.sites j in
    word_stays (decl_of decls s.map) s.act (map (stage_value h) s.key) (map (stage_value h) s.operands) value c.args.w same aligned inside b
