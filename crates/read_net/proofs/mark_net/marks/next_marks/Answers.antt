use Rattle.std.proofs.Common.{◌∙◌, ◌+◌, All, length, refl, sym, ap, subst, arith, map as map_list}
use Rattle.std.proofs.lemmas.List.{length_push, take_all}
use Rattle.std.proofs.lemmas.List.Elements.{All-nil, All-push}
use Rattle.overlay_net.specs.cell_nets.Operands.{IsAvailable}
use Rattle.overlay_net.specs.cell_nets.Wires.{wires_of}
use Rattle.overlay_net.proofs.cell_nets_laws.StepNets.StepLaws.{avail_at}
use Rattle.overlay_net.specs.cell_nets.declared.operand_blocks.registers.Taken.{Taken}
use Rattle.overlay_net.specs.cell_nets.OperandBlocks.Registers.{operand_in}
use Rattle.read_net.specs.MarkNet.Sites.{outside, HasOperands, IsMarkSite}
use Rattle.read_net.specs.MarkNet.Marks.{IsBit, TakeMarks}
use Rattle.read_net.proofs.MarkNet.StandLemmas.{left_of, stands_as}
use Rattle.read_net.proofs.MarkNet.GatherLemmas.{AreNext, none_next, more_next}
use Rattle.read_net.proofs.mark_net.marks.next_marks.Goals as goal

pub loop-site-init : goal.loop-site-init
loop-site-init g c =
    let a = c.args in
    let ws = wires_of a.wires.now.items in
    let e = c.new-all.ensures.items in
    record {
      count = ap length e;
      bits = subst (All IsBit) (sym e) (All-nil IsBit);
      stand = λ p decls are. subst (AreNext a.part a.advance p decls a.sites.now ws ws 0) (sym e) (none_next a.part a.advance p decls a.sites.now ws);
    }

pub next_mark-requires : goal.next_mark-requires
next_mark-requires g c = avail_at HasOperands c.args.sites.now c.loop-site.site-index c.site-item.result (omega arith) c.site-item.is c.requires

pub loop-site-preserved : goal.loop-site-preserved
loop-site-preserved g c =
    let a = c.args in
    let l = c.loop-site in
    let e = c.in_ok-push.ensures.items in
    let m = c.site-item.result in
    let t : Taken _ = record { operand = c.in_ok-operand.operand; width = 1 } in
    record {
      count = ap length e ∙ length_push l.all.items t ∙ omega (arith, l.invariant.count);
      bits = subst (All IsBit) (sym e) (All-push IsBit l.all.items t l.invariant.bits (record { operand = c.in_ok-operand.ensures.operand; width = refl }));
      stand = λ p decls are.
          subst (AreNext a.part a.advance p decls a.sites.now (wires_of a.wires.now.items) (wires_of c.next_mark.new.wires.items) (l.site-index + 1)) (sym e)
          (more_next a.part a.advance p decls a.sites.now _ _ _ l.site-index m l.all.items t (omega arith) c.site-item.is (l.invariant.stand p decls are) (c.in_ok-operand.ensures.stands p decls (avail_at (IsMarkSite p decls) a.sites.now l.site-index m (omega arith) c.site-item.is are)));
    }

pub returns-clause-count : goal.returns-clause-count
returns-clause-count g c = c.loop-site.invariant.count ∙ omega arith

pub returns-clause-bits : goal.returns-clause-bits
returns-clause-bits g c = c.loop-site.invariant.bits

pub returns-clause-stand : goal.returns-clause-stand
returns-clause-stand g c = λ p decls are.
    let l = c.loop-site in
    let ms = c.args.sites.now in
    let outs = map_list operand_in l.all.items in
    stands_as outs (λ v. TakeMarks v p decls c.args.advance ms l.all.items) (l.invariant.stand p decls are) (λ ins h. left_of (IsAvailable ins) outs (outside c.args.advance ms) h)
    (λ v k. subst (λ xs. TakeMarks v p decls c.args.advance xs l.all.items) (take_all l.site-index ms (omega arith)) k)
