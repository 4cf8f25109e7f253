-- The numbers of the reasons for which a program is refused, and the most stages of one that is not.
use Rattle.std.specs.Prelude.{ℕ}
use Rattle.xdp_state.specs.declared.refusal.Why.{Why}
use Rattle.xdp_state.specs.declared.refusal.Why.TheVariants.{Instruction, Jump, Helper, Loop, Unset, Mixed, Unchecked, Misaligned, Offset, Use, Null, Stale, Argument, Size, Stages}

abbrev pub reason_number : Why → ℕ
reason_number Instruction = 1
reason_number Jump = 2
reason_number (Helper id) = 3
reason_number Loop = 4
reason_number Unset = 5
reason_number Mixed = 6
reason_number Unchecked = 7
reason_number Misaligned = 8
reason_number Offset = 9
reason_number Use = 10
reason_number Null = 11
reason_number Stale = 12
reason_number Argument = 13
reason_number Size = 14
reason_number Stages = 15

-- the most stages of a program
abbrev pub most_stages : ℕ
most_stages = 256
