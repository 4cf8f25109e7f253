use Rattle.std.proofs.Common.{◌<◌, ◌∙◌, length, sym, ap, subst, rules}
use Rattle.beat_core.specs.Beats.{frame_of, IsWhole}
use Rattle.beat_core.proofs.BeatLaws.{beats_more, beats_done, rest_after, IsWhole-beats_of, frame_of-beats_of, length-beats_of}
use Rattle.beat_core.proofs.beat.beats_of.Goals as goal

pub loop-rest-preserved : goal.loop-rest-preserved
loop-rest-preserved c =
    let some : 0 < length c.loop-rest.rest.now = search rules in
    rw c.in_ok-push.ensures.items (beats_more c.loop-rest.beats.items _ _ _ _ some c.first_beat.ensures (rest_after _ c.min.result c.min.ensures) c.loop-rest.invariant)

pub returns-clause-beats : goal.returns-clause-beats
returns-clause-beats c = beats_done c.loop-rest.beats.items _ c.loop-rest.rest.now (search rules) c.loop-rest.invariant

-- the other clauses are laws of the beats of a list
pub returns-clause-whole : goal.returns-clause-whole
returns-clause-whole c =
    subst IsWhole (sym (returns-clause-beats c)) (IsWhole-beats_of c.args.frame.now c.bytes-rest.ensures.some)

pub returns-clause-frame : goal.returns-clause-frame
returns-clause-frame c =
    ap frame_of (returns-clause-beats c) ∙ frame_of-beats_of c.args.frame.now c.bytes-rest.ensures.range

pub returns-clause-count : goal.returns-clause-count
returns-clause-count c = ap length (returns-clause-beats c) ∙ length-beats_of c.args.frame.now
