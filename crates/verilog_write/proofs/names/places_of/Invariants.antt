-- The places of what was seen so far.
use Rattle.verilog_write.specs.Sorts.{is_of}
use Rattle.verilog_write.proofs.Places.{AreFound}
use Rattle.verilog_write.proofs.names.places_of.Given as goal

abbrev pub invariant-loop-place : goal.invariant-loop-place
invariant-loop-place l = AreFound (is_of l.sort) l.declared l.place l.places.items
