use Rattle.std.proofs.Common.{◌≡◌, ◌∙◌, ◌≤◌, length, ap, subst}
use Rattle.overlay_net.specs.cell_core.Cells.{bits_from}
use Rattle.overlay_net.specs.cell_core.Sites.{site_at}
use Rattle.overlay_net.specs.cell_nets.declared.operand.Operand.TheVariants.{Net}
use Rattle.overlay_net.specs.cell_nets.Wires.{wires_of, Gives}
use Rattle.overlay_net.specs.hazard_core.Tables.{decl_of}
use Rattle.overlay_net.specs.hazard_core.Commits.{word_at, word_count}
use Rattle.overlay_net.specs.hazard_core.StageValues.{asked_key}
use Rattle.hash_net.specs.array_net.Words.{word_width}
use Rattle.commit_net.specs.Choosing.{all_read, Commits}
use Rattle.commit_net.specs.declared.choosing.Asked.TheVariants.{Key}
use Rattle.overlay_net.proofs.cell_nets_laws.StepNets.ChainLaws.{starts, last}
use Rattle.commit_net.proofs.ChooseLemmas.{asked_picked, key_word, key_long, asked_key_is}
use Rattle.commit_net.proofs.choosing.key_net.Goals as goal

pub returns : goal.returns
returns g c = λ p t taken h j.
    let ns = c.args.sites.now in
    let d = c.args.decl.now in
    let bytes = d.key in
    let w = c.args.w in
    let width = c.word_width-width.result in
    let e : width ≡ word_width bytes w = c.word_width-width.ensures.width in
    let s = site_at p.sites j in
    let key = word_at (asked_key t.decls h s) w in
    subst (λ u. Gives c.args.part (wires_of c.args.wires.now.items) (wires_of c.asked_net.new.wires.items) (all_read ns) (λ v. Commits v p t taken h j ns × (decl_of t.decls s.map ≡ d) × (word_count bytes ≤ length s.key)) (λ v. key) u (Net c.in_ok-n.n u)) e
    (last (starts c.args.part (wires_of c.args.wires.now.items) (all_read ns) (λ v. Commits v p t taken h j ns × (decl_of t.decls s.map ≡ d) × (word_count bytes ≤ length s.key))) c.in_ok-n.ensures (λ ins a. a) (λ v f x. tt) (λ v. key)
    (λ v f x.
    let keys = x.0.chosen.nets.nets.now.key.items in
    let shown = x.0.shows.asked.key in
    ap (λ y. bits_from y 0 width) (asked_picked v p j ns (Key w) x.0.chosen) ∙ key_word v h bytes w width keys s.key c.requires.there (key_long v h (word_count bytes) keys s.key x.2 shown) e shown ∙ ap (λ l. word_at l w) (asked_key_is t.decls h s d x.1)))
