use Rattle.std.proofs.Common.{rules}
use Rattle.clap.specs.Matches.{found_of}
use Rattle.clap.specs.Walk.{rows_of}
use Rattle.command_line.proofs.read.read_matches.Goals as goal

pub returns-in-Some-read_command-clause-ok : goal.returns-in-Some-read_command-clause-ok
returns-in-Some-read_command-clause-ok c = record {
  command = c.in-Some.name.now;
  rows = rows_of (found_of c.in-Some.options.now);
  taken = c.in_ok-matches.ensures.ok.0;
  matched = search rules;
  meant = c.in-Some-read_command.ensures.some;
}
