use Rattle.std.specs.Prelude.{fold}
use Rattle.std.proofs.Common.{◌∙◌, ◌∷◌, ◌++◌, All, length, sym, ap, subst, arith}
use Rattle.std.proofs.lemmas.List.{take_all}
use Rattle.hazard_core.specs.xdp_maps.declared.decl.MapDecl.{MapDecl}
use Rattle.hazard_core.specs.cell_core.Sites.{site_at}
use Rattle.hazard_core.specs.Tables.{table_at}
use Rattle.hazard_core.specs.StageValues.{asked_key, slot_pointer}
use Rattle.hazard_core.specs.Overlay.{found_over, key_pointer}
use Rattle.cell_nets.specs.Operands.{IsOperand}
use Rattle.overlay_net.specs.SiteOperands.Pointers.{pointer_number}
use Rattle.overlay_net.specs.SiteOperands.Sites.{operands_of, all_of}
use Rattle.overlay_net.specs.Seen.{all_read, IsSeen}
use Rattle.overlay_net.proofs.FindLemmas.{over_key, over_more, hash_key, array_key}
use Rattle.cell_nets.proofs.StepNets.StepLaws.{cut_given, avail_at, gives_same}
use Rattle.overlay_net.proofs.finding.key_pointer.Goals as goal
use Rattle.overlay_net.proofs.SiteOperandLaws.{keys_of}

pub loop-seen-init : goal.loop-seen-init
loop-seen-init g c =
    let slot = c.args.slot in
    let x = c.in_ok-found.ensures in
    record {
      operand = x.operand;
      bits = x.bits;
      given = λ p t h before j e of.
          cut_given c.args.part _ _ (slot ∷ all_of (operands_of c.args.nets.now) ++ all_read c.args.pending.now) _ _ c.args.bits slot c.in_ok-found.found x c.requires.slot_narrow (λ Q all. all 0 slot (omega arith)) (λ v k. k.1);
    }

pub found_over-requires : goal.found_over-requires
found_over-requires g c = record {
  bits = c.requires.bits;
  key = subst (All IsOperand) (sym c.deref.ensures.value) (keys_of IsOperand (operands_of c.args.nets.now) c.requires.operands);
  words = omega (arith, c.requires.words, ap length c.deref.ensures.value);
  seen = avail_at (IsSeen c.args.decl.now.key c.args.bits) c.args.pending.now c.loop-seen.seen-index c.seen-item.result (omega arith) c.seen-item.is c.requires.pending;
  found = c.loop-seen.invariant.operand;
  found_bits = c.loop-seen.invariant.bits;
}

pub loop-seen-preserved : goal.loop-seen-preserved
loop-seen-preserved g c =
    let x = c.in_ok-found-in-Hash.ensures in
    let d = c.args.decl.now in
    let s = operands_of c.args.nets.now in
    let w = c.args.bits in
    let seen = c.seen-item.result in
    let found = c.loop-seen.found in
    let out = c.in_ok-found-in-Hash.found in
    record {
      operand = x.operand;
      bits = x.bits;
      given = λ p t h before j e of.
          let own = asked_key t.decls h (site_at p.sites j) in
          over_more c.args.part _ s c.args.pending.now c.args.slot p t h before j d e of _ _ w c.loop-seen.seen-index seen found out (omega arith) c.seen-item.is (c.loop-seen.invariant.given p t h before j e of)
          (λ i f is. over_key c.args.part _ _ seen c.deref.result.now c.args.nets.now.key.items found out w d.key p t h i own f c.deref.ensures.value (x.given p t h (site_at p.sites j).map i own f is (ap (λ (y : MapDecl). y.key) e)));
    }

pub returns-after-loop-seen : goal.returns-after-loop-seen
returns-after-loop-seen g c =
    let l = c.loop-seen.invariant in
    let slot = c.args.slot in
    record {
      operand = l.operand;
      bits = l.bits;
      given = λ p t h before j e of.
          let own = asked_key t.decls h (site_at p.sites j) in
          let start = slot_pointer (table_at t (site_at p.sites j).map) own in
          gives_same c.args.part _ _ (slot ∷ all_of (operands_of c.args.nets.now) ++ all_read c.args.pending.now) _ _ (λ v. pointer_number (key_pointer p t h before j)) c.args.bits c.loop-seen.found (l.given p t h before j e of)
          (λ v. ap (λ l. pointer_number (fold (found_over p t h own) start l)) (take_all c.loop-seen.seen-index before (omega (arith, of.count))) ∙ ap pointer_number (sym (hash_key p t h before j c.args.decl.now e c.in-Hash.is)));
    }

pub returns-in-Array : goal.returns-in-Array
returns-in-Array g c =
    let slot = c.args.slot in
    let x = c.in_ok-found.ensures in
    record {
      operand = x.operand;
      bits = x.bits;
      given = λ p t h before j e of.
          cut_given c.args.part _ _ (slot ∷ all_of (operands_of c.args.nets.now) ++ all_read c.args.pending.now) _ (λ v. pointer_number (key_pointer p t h before j)) c.args.bits slot c.in_ok-found.found x c.requires.slot_narrow (λ Q all. all 0 slot (omega arith))
          (λ v k. k.1 ∙ ap pointer_number (sym (array_key p t h before j c.args.decl.now e c.in-Array.is)));
    }
