use Rattle.std.proofs.Common.{◌∙◌, ◌+◌, ◌-◌, ◌++◌, ap, length, map, sym}
use Rattle.xdp_object.specs.Relocations.{Reference, references_from}
use Rattle.xdp_object.proofs.MapLemmas.{referring_more, referring_same, pushed_front}
use Rattle.xdp_object.proofs.numbers.referring.Goals as goal
use Rattle.xdp_object.proofs.numbers.referring.Goals.{in-Refers+in_ok-push, in_default}

pub loop-i-preserved : goal.loop-i-preserved
loop-i-preserved c =
    let later = map (λ (r : Reference). r.place) (references_from c.args.places.now (c.loop-i.i + 1) (length c.args.places.now - (c.loop-i.i + 1))) in
    elim c.match-said.branch [
      | in-Refers+in_ok-push w ↦
          pushed_front c.match-said.refs.items c.loop-i.refs.items later _ _ c.loop-i.i
          (ap (λ v. v.items) w.refs-is ∙ w.in_ok-push.ensures.items) (referring_more c.args.places.now c.loop-i.i w.in-Refers.symbol c.loop-i-test.true w.in-Refers.is) c.loop-i.invariant
      | in_default w ↦
          ap (λ v. v.items ++ later) w.refs-is ∙ ap (λ xs. c.loop-i.refs.items ++ xs) (sym (referring_same c.args.places.now c.loop-i.i c.loop-i-test.true w.in_default.not-Refers))
          ∙ c.loop-i.invariant
    ]
