use Rattle.std.proofs.Common.{◌≡◌, ◌∙◌, ◌+◌, ◌<◌, ◌∷◌, [], All, length, get_or, sym, ap, subst, arith}
use Rattle.std.proofs.lemmas.List.{length_push}
use Rattle.std.proofs.lemmas.List.Elements.{All-append, All-nil}
use Rattle.overlay_net.specs.cell_nets.Wires.{wires_of}
use Rattle.overlay_net.specs.Seen.{IsSeen}
use Rattle.read_net.specs.Sites.{IsWhole, IsOwn, IsSeenOf}
use Rattle.read_net.proofs.StandLemmas.{one_of}
use Rattle.read_net.proofs.SiteLemmas.{each_more}
use Rattle.read_net.proofs.PendingLemmas.{Far, far_none, far_more, far_all}
use Rattle.read_net.proofs.pendings.pendings.Goals as goal

pub loop-own-init : goal.loop-own-init
loop-own-init g c =
    let e = c.new-all.ensures.items in
    let map = c.args.map.now in
    let ws = wires_of c.args.wires.now.items in
    record {
      count = ap length e;
      seen = subst (All (IsSeen map.decl.now.key map.bits)) (sym e) (All-nil (IsSeen map.decl.now.key map.bits));
      of = λ n s d lt. absurd (omega (arith, lt));
      stands = λ p t h m own of. subst (λ l. Far c.args.part map c.args.earlier.now p t h m ws ws l 0) (sym e) (far_none c.args.part map c.args.earlier.now p t h m ws);
    }

pub pending-requires-clause-own : goal.pending-requires-clause-own
pending-requires-clause-own g c = subst (IsWhole c.args.map.now) (sym c.own-item.is) (c.requires.earlier c.loop-own.own-index c.own-item.result (omega arith))

pub loop-own-preserved : goal.loop-own-preserved
loop-own-preserved g c =
    let l = c.loop-own in
    let i = l.own-index in
    let ss = c.args.earlier.now in
    let map = c.args.map.now in
    let own = c.own-item.result in
    let seen = c.in_ok-seen.seen in
    let x = c.in_ok-seen.ensures in
    let e = c.in_ok-push.ensures.items in
    let lt : i < length ss = omega arith in
    record {
      count = ap length e ∙ length_push l.all.items seen ∙ omega (arith, l.invariant.count);
      seen = subst (All (IsSeen map.decl.now.key map.bits)) (sym e) (All-append (IsSeen map.decl.now.key map.bits) l.all.items (seen ∷ []) l.invariant.seen (one_of (IsSeen map.decl.now.key map.bits) seen x.seen));
      of = λ n s d less. subst (λ ds. IsSeenOf (get_or ss n s) (get_or ds n d)) (sym e) (each_more IsSeenOf ss l.all.items i own seen l.invariant.count lt c.own-item.is l.invariant.of x.of n s d less);
      stands = λ p t h m is of.
          subst (λ ds. Far c.args.part map ss p t h m (wires_of c.args.wires.now.items) (wires_of c.pending.new.wires.items) ds (i + 1)) (sym e)
          (far_more c.args.part map ss p t h m (wires_of c.args.wires.now.items) _ _ l.all.items i own seen (l.invariant.stands p t h m is of) l.invariant.count lt c.own-item.is
          (x.stands p t h m (subst (λ o. IsOwn p m o) (sym c.own-item.is) (is i own lt)) of));
    }

pub returns : goal.returns
returns g c =
    let l = c.loop-own in
    let ss = c.args.earlier.now in
    let all : l.own-index ≡ length ss = omega arith in
    record {
      seen = l.invariant.seen;
      of = record { count = l.invariant.count ∙ all; each = λ n s d lt. l.invariant.of n s d (omega (arith, lt, l.invariant.count)) };
      stands = λ p t h m is of. far_all c.args.part c.args.map.now ss p t h m (wires_of c.args.wires.now.items) (wires_of l.wires.items) l.all.items l.own-index all (l.invariant.stands p t h m is of);
    }
