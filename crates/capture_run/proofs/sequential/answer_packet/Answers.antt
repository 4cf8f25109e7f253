use Rattle.std.proofs.Common.{◌≡◌, ◌<◌, ◌≤◌, ℕ, length, Result, IsErrOf, refl, arith}
use Rattle.beat_core.specs.declared.frame.TheConstants.{FRAME_LIMIT}
use Rattle.pcap_core.specs.Format.{Packet}
use Rattle.xdp_state.specs.xdp_machine.State.{PacketIn}
use Rattle.xdp_state.specs.xdp_machine.Runs.{Leaves}
use Rattle.command_line.specs.Request.{Names, names_of}
use Rattle.capture_run.specs.States.{ShelfState, state_of}
use Rattle.capture_run.specs.Captures.{packet_with}
use Rattle.capture_run.specs.Runs.{answer_left}
use Rattle.capture_run.specs.declared.error.RunError.TheVariants.{NoMemory}
use Rattle.capture_run.proofs.EndLaws.{put_out}
use Rattle.capture_run.proofs.RunLaws.{out_of_run}
use Rattle.capture_run.proofs.sequential.answer_packet.Goals as goal

-- The frame that the run left is no longer than the one that came.
pub returns-clause-errors : goal.returns-clause-errors
returns-clause-errors g c = λ none.
    let long : FRAME_LIMIT < length c.run_bytes.new.frame = (c.put_answer.ensures.memory none).0 in
    let short : length c.run_bytes.new.frame ≡ length c.args.frame.now = c.run_bytes.ensures.frame in
    let room : length c.args.frame.now ≤ FRAME_LIMIT = c.requires.frame in
    omega (arith, long, short, room)

pub returns-clause-out : goal.returns-clause-out
returns-clause-out g c = λ e ran.
    let names : Names = names_of c.args.files.now in
    let old : ShelfState = state_of g.S.Shelf c.args.shelf.now in
    let new : ShelfState = state_of g.S.Shelf c.put_answer.new.shelf in
    let p : Packet = packet_with c.args.stamp c.args.frame.now in
    let came : PacketIn = record { frame = c.args.frame.now; ifindex = c.args.meta.ifindex; time = c.args.meta.time } in
    let made : Leaves = record { verdict = c.in-Ok.ended.verdict; target = c.in-Ok.ended.target; frame = c.run_bytes.new.frame; maps = c.run_bytes.new.maps } in
    out_of_run c.args.plan.now came c.args.maps.now c.run_bytes.new.maps made e names p c.args.index c.put_answer.result old new (1048576, c.in-Ok.ensures.answer) ran
    (put_out names p c.args.index (answer_left made) (c.run_bytes.new.maps ≡ made.maps) c.put_answer.result old new refl c.put_answer.ensures.done c.put_answer.ensures.failed (returns-clause-errors g c) c.put_answer.ensures.errors)
