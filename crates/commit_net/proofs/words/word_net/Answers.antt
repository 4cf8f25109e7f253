use Rattle.std.proofs.Common.{◌≡◌, ◌∙◌, ◌+◌, ◌^◌, ◌<◌, ◌∷◌, [], ◌++◌, All, length, refl, sym, ap, subst, arith}
use Rattle.std.proofs.lemmas.List.{length_push}
use Rattle.std.proofs.lemmas.List.Elements.{All-nil}
use Rattle.overlay_net.specs.cell_core.Sites.{site_at}
use Rattle.overlay_net.specs.cell_core.Cells.{bits_from}
use Rattle.overlay_net.specs.hazard_core.StageValues.{asked}
use Rattle.overlay_net.specs.hazard_core.Overlay.{value_as}
use Rattle.overlay_net.specs.hazard_core.Commits.{word_at}
use Rattle.hash_net.specs.array_net.Words.{word_width}
use Rattle.overlay_net.specs.cell_nets.declared.operand.Operand.TheVariants.{Net}
use Rattle.overlay_net.specs.cell_nets.Operands.{IsOperand, IsAvailable}
use Rattle.overlay_net.specs.cell_nets.Wires.{wires_of, Gives}
use Rattle.overlay_net.proofs.ValueNet.ByteLaws.{bytes_zero}
use Rattle.commit_net.specs.Choosing.{chosen_of, picked, all_read, HasOperands}
use Rattle.commit_net.specs.Words.{IsFitting}
use Rattle.overlay_net.proofs.cell_nets_laws.StepNets.ChainLaws.{last}
use Rattle.overlay_net.proofs.cell_core_laws.BitLaws.{small_bits}
use Rattle.commit_net.proofs.ChooseLemmas.{each_chosen, picked_only}
use Rattle.commit_net.proofs.WordLemmas.{Needs, Far, far_none, far_more, push_all, item_at, operands_last, like_program, nothing_held, chosen_small, words_choose}
use Rattle.commit_net.proofs.words.word_net.Goals as goal

pub loop-site-init : goal.loop-site-init
loop-site-init g c = record {
  count = ap length c.new-all.ensures.items;
  operands = subst (All IsOperand) (sym c.new-all.ensures.items) (All-nil IsOperand);
  stands = λ p t taken h j value.
      subst (λ l. Far c.args.part c.args.decl.now c.args.sites.now c.args.w c.args.old p t taken h j value (wires_of c.args.wires.now.items) (wires_of c.args.wires.now.items) l 0) (sym c.new-all.ensures.items)
      (far_none c.args.part c.args.decl.now c.args.sites.now c.args.w c.args.old p t taken h j value (wires_of c.args.wires.now.items));
}

pub word_after-requires : goal.word_after-requires
word_after-requires g c =
    let ns = c.args.sites.now in
    let i = c.loop-site.site-index in
    let n = c.site-item.result in
    let fit : IsFitting c.args.decl.now n = item_at (IsFitting c.args.decl.now) ns i n (omega arith) c.site-item.is c.requires.fitting in
    record {
      old = c.requires.old;
      word = c.requires.word;
      operands = operands_last IsOperand n (item_at HasOperands ns i n (omega arith) c.site-item.is c.requires.operands);
      few = c.requires.few;
      words = fit.words;
      inside = fit.inside;
      aligned = fit.aligned;
    }

pub loop-site-preserved : goal.loop-site-preserved
loop-site-preserved g c =
    let l = c.loop-site in
    let i = l.site-index in
    let n = c.site-item.result in
    let word = c.in_ok-word.word in
    let x = c.in_ok-word.ensures in
    let e = c.in_ok-push.ensures.items in
    record {
      count = ap length e ∙ length_push l.all.items word ∙ omega (arith, l.invariant.count);
      operands = subst (All IsOperand) (sym e) (push_all IsOperand l.all.items word l.invariant.operands x.operand);
      stands = λ p t taken h j value.
          let ns = c.args.sites.now in
          subst (λ outs. Far c.args.part c.args.decl.now ns c.args.w c.args.old p t taken h j value (wires_of c.args.wires.now.items) (wires_of c.word_after.new.wires.items) outs (i + 1)) (sym e)
          (far_more c.args.part c.args.decl.now ns c.args.w c.args.old p t taken h j value (wires_of c.args.wires.now.items) _ _ l.all.items i n word (l.invariant.stands p t taken h j value) l.invariant.count (omega arith) c.site-item.is
          (x.gives (like_program n) (c.args.decl.now ∷ []) nothing_held 0 _ refl refl (bytes_zero c.args.decl.now.value)) (λ q. x.gives p t.decls h j value q.0 q.1 q.2));
    }

pub select-requires : goal.select-requires
select-requires g c =
    let l = c.loop-site in
    let e = c.deref.ensures.value in
    record {
      count = ap length e ∙ l.invariant.count ∙ omega arith;
      chosen = each_chosen IsOperand c.args.sites.now c.requires.operands;
      values = subst (All IsOperand) (sym e) l.invariant.operands;
      width = record { some = omega (arith, c.word_width-width.ensures.some); most = omega (arith, c.word_width-width.ensures.whole) };
    }

pub returns : goal.returns
returns g c = λ p t taken h j value.
    let l = c.loop-site in
    let ns = c.args.sites.now in
    let decl = c.args.decl.now in
    let w = c.args.w in
    let a = c.args.old in
    let width = c.word_width-width.result in
    let e : width ≡ word_width decl.value w = c.word_width-width.ensures.width in
    let items : c.deref.result.now ≡ l.all.items = c.deref.ensures.value in
    let new = word_at (value_as (asked t.decls h (site_at p.sites j)) value) w in
    subst (λ u. Gives c.args.part (wires_of c.args.wires.now.items) (wires_of c.select.new.wires.items) (a ∷ all_read ns) (Needs c.args.part decl ns w a p t taken h j value) (λ v. new) u (Net c.in_ok-n.n u)) e
    (last (l.invariant.stands p t taken h j value) c.in_ok-n.ensures (λ ins s. subst (λ ys. All (IsAvailable ins) (chosen_of ns ++ ys)) (sym items) (words_choose (IsAvailable ins) l.all.items a ns s)) (λ v f s. tt) (λ v. new)
    (λ v f s.
    let x = s.0.0.chosen in
    let small : new < 2 ^ word_width decl.value w = chosen_small v ns p t.decls h j decl value w c.requires.fitting x s.0.0.shows.asked s.0.1 s.0.2 in
    ap (λ ys. bits_from (picked ns ys v) 0 width) items
    ∙ ap (λ y. bits_from y 0 width) (picked_only v ns l.all.items x.place a (l.invariant.count ∙ omega arith) x.only x.within ∙ s.1 x.place x.nets a (omega (arith, x.within)) x.is (x.act, s.0.1, s.0.2) (s.0.3, s.0.0.shows.asked))
    ∙ small_bits new width (subst (λ u. new < 2 ^ u) (sym e) small)))
