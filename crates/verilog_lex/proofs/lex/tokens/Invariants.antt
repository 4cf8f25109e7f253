use Rattle.std.proofs.Common.{length, ◌-◌, ◌≤◌}
use Rattle.verilog_lex.specs.Tokens.{Leads}
use Rattle.verilog_lex.proofs.lex.tokens.Given as goal

abbrev pub invariant-loop-at : goal.invariant-loop-at
invariant-loop-at l = record { leads : Leads l.text 0 l.all.items l.at; within : l.at ≤ length l.text }

abbrev pub decreases-loop-at : goal.decreases-loop-at
decreases-loop-at l = length l.text - l.at
