use Rattle.std.proofs.Common.{◌∙◌, ◌++◌, length, sym, ap, subst, arith}
use Rattle.std.proofs.lemmas.List.{length_push}
use Rattle.overlay_net.specs.cell_core.Sites.{site_at}
use Rattle.overlay_net.specs.hazard_core.StageValues.{asked}
use Rattle.overlay_net.specs.hazard_core.Overlay.{value_as}
use Rattle.hash_net.specs.array_net.declared.words.WordNets.{WordNets}
use Rattle.overlay_net.specs.cell_nets.Wires.{wires_of}
use Rattle.commit_net.specs.Choosing.{changes_word}
use Rattle.commit_net.specs.Wiring.{outside_of, value_operands, ShowChanges}
use Rattle.commit_net.proofs.WordLemmas.{stands_as}
use Rattle.commit_net.proofs.GatherLemmas.{Values, values_none, values_next}
use Rattle.commit_net.proofs.whole.value_nets.Goals as goal

pub loop-w-init : goal.loop-w-init
loop-w-init g c =
    let a = c.args in
    let ws = wires_of a.wires.now.items in
    let e = c.new-values.ensures.items in
    record { count = ap length e; stands = λ p t taken h j value. subst (Values a.part a.decl.now a.sites.now a.words.now p t taken h j value ws ws) (sym e) (values_none a.part a.decl.now a.sites.now a.words.now p t taken h j value ws) }

pub loop-w-preserved : goal.loop-w-preserved
loop-w-preserved g c =
    let a = c.args in
    let l = c.loop-w in
    let e = c.in_ok-push.ensures.items in
    let n : WordNets _ = record { sets = c.in_ok-sets.sets; word = c.in_ok-word.word } in
    let word = c.index-words-w.result in
    record {
      count = ap length e ∙ length_push l.values.items n ∙ omega (arith, l.invariant.count);
      stands = λ p t taken h j value.
          subst (Values a.part a.decl.now a.sites.now a.words.now p t taken h j value (wires_of a.wires.now.items) (wires_of c.word_net.new.wires.items)) (sym e)
          (values_next a.part a.decl.now a.sites.now a.words.now p t taken h j value l.values.items n word l.w l.invariant.count (omega arith) c.index-words-w.is (l.invariant.stands p t taken h j value) (c.in_ok-sets.ensures.gives p j) (c.in_ok-word.ensures p t taken h j value));
    }

pub returns-clause-count : goal.returns-clause-count
returns-clause-count g c = c.loop-w.invariant.count ∙ omega (arith, c.word_count-w-end.ensures.count)

pub returns-clause-stands : goal.returns-clause-stands
returns-clause-stands g c = λ p t taken h j value.
    let a = c.args in
    let values = c.loop-w.values.items in
    stands_as (value_operands a.decl.now.value 0 values ++ outside_of a.sites.now a.words.now) (λ v. ShowChanges v (changes_word (site_at p.sites j).act) 0 values (value_as (asked t.decls h (site_at p.sites j)) value)) (c.loop-w.invariant.stands p t taken h j value)
    (λ ins q. q) (λ v k. k.1)
