use Rattle.std.proofs.Common.{◌≡◌, drop}
use Rattle.hazard_core.specs.cell_core.Sites.{with_bytes}
use Rattle.hazard_core.specs.StageValues.{stage_value}
use Rattle.pipe_core.proofs.packet.Packet.put_bytes.Given as goal

-- with the bytes that are left it becomes the frame that leaves
abbrev pub invariant-loop-byte : goal.invariant-loop-byte
invariant-loop-byte l =
    record l.frame { frame = with_bytes (stage_value l.self.held) l.frame.frame (drop l.byte-index l.program.frame.items) }
    ≡ record l.fn.frame { frame = with_bytes (stage_value l.self.held) l.fn.frame.frame l.program.frame.items }
