use Rattle.std.proofs.Common.{◌∙◌, All, length, sym, ap, subst, arith}
use Rattle.std.proofs.lemmas.List.{length_push}
use Rattle.std.proofs.lemmas.List.Elements.{All-nil, All-push}
use Rattle.overlay_net.specs.cell_nets.Operands.{IsOperand}
use Rattle.overlay_net.specs.cell_nets.Wires.{wires_of}
use Rattle.commit_net.proofs.ChangeNet.PairLemmas.{Words, words_none, words_next, words_all}
use Rattle.commit_net.proofs.change_net.keys.key_words.Goals as goal

pub loop-w-init : goal.loop-w-init
loop-w-init g c =
    let a = c.args in
    let ws = wires_of a.wires.now.items in
    let e = c.new-words.ensures.items in
    record {
      count = ap length e;
      operands = subst (All IsOperand) (sym e) (All-nil IsOperand);
      stands = subst (Words a.part a.sites.now a.commits a.keys.now ws ws) (sym e) (words_none a.part a.sites.now a.commits a.keys.now ws);
    }

pub loop-w-preserved : goal.loop-w-preserved
loop-w-preserved g c =
    let a = c.args in
    let l = c.loop-w in
    let o = c.in_ok-word.word in
    let e = c.in_ok-push.ensures.items in
    record {
      count = ap length e ∙ length_push l.words.items o ∙ omega (arith, l.invariant.count);
      operands = subst (All IsOperand) (sym e) (All-push IsOperand l.words.items o l.invariant.operands c.in_ok-word.ensures.operand);
      stands =
          subst (Words a.part a.sites.now a.commits a.keys.now (wires_of a.wires.now.items) (wires_of c.key_word.new.wires.items)) (sym e)
          (words_next a.part a.sites.now a.commits a.keys.now l.words.items o l.w c.index-keys-w.result l.invariant.count (omega arith) c.index-keys-w.is l.invariant.stands c.in_ok-word.ensures);
    }

pub returns : goal.returns
returns g c =
    let a = c.args in
    let l = c.loop-w in
    words_all a.part a.sites.now a.commits a.keys.now l.words.items (l.invariant.count ∙ omega arith) l.invariant.operands l.invariant.stands
