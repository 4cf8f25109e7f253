use Rattle.std.proofs.Common.{◌∙◌, ◌++◌, length, sym, ap, subst, arith}
use Rattle.std.proofs.lemmas.List.{length_push}
use Rattle.overlay_net.specs.cell_nets.Wires.{wires_of}
use Rattle.commit_net.specs.Choosing.{all_read}
use Rattle.commit_net.specs.Wiring.{key_operands, ShowWords}
use Rattle.overlay_net.specs.hazard_core.StageValues.{asked_key}
use Rattle.overlay_net.specs.cell_core.Sites.{site_at}
use Rattle.commit_net.proofs.WordLemmas.{stands_as}
use Rattle.commit_net.proofs.GatherLemmas.{Keys, keys_none, keys_next}
use Rattle.commit_net.proofs.whole.key_nets.Goals as goal

pub loop-w-init : goal.loop-w-init
loop-w-init g c =
    let a = c.args in
    let ws = wires_of a.wires.now.items in
    let e = c.new-keys.ensures.items in
    record { count = ap length e; stands = λ p t taken h j. subst (Keys a.part a.decl.now a.sites.now p t taken h j ws ws) (sym e) (keys_none a.part a.decl.now a.sites.now p t taken h j ws) }

pub loop-w-preserved : goal.loop-w-preserved
loop-w-preserved g c =
    let a = c.args in
    let l = c.loop-w in
    let e = c.in_ok-push.ensures.items in
    record {
      count = ap length e ∙ length_push l.keys.items c.in_ok-key_net.field-0 ∙ omega (arith, l.invariant.count);
      stands = λ p t taken h j.
          subst (Keys a.part a.decl.now a.sites.now p t taken h j (wires_of a.wires.now.items) (wires_of c.key_net.new.wires.items)) (sym e)
          (keys_next a.part a.decl.now a.sites.now p t taken h j l.keys.items c.in_ok-key_net.field-0 l.w l.invariant.count (l.invariant.stands p t taken h j) (c.in_ok-key_net.ensures p t taken h j));
    }

pub returns-clause-count : goal.returns-clause-count
returns-clause-count g c = c.loop-w.invariant.count ∙ omega (arith, c.word_count-w-end.ensures.count)

pub returns-clause-stands : goal.returns-clause-stands
returns-clause-stands g c = λ p t taken h j.
    let ns = c.args.sites.now in
    let keys = c.loop-w.keys.items in
    stands_as (key_operands c.args.decl.now.key 0 keys ++ all_read ns) (λ v. ShowWords v 0 keys (asked_key t.decls h (site_at p.sites j))) (c.loop-w.invariant.stands p t taken h j) (λ ins q. q) (λ v k. k.1)
