-- What the steps of reading words say.
use Rattle.clap.specs.Walk.{texts}
use Rattle.clap.specs.Matches.{found_of}
use Rattle.clap.specs.Walk.{rows_of}
use Rattle.clap.specs.declared.parser.matches.ArgMatches.{ArgMatches}
use Rattle.command_line.specs.Commands.{CommandForm}
use Rattle.command_line.specs.Means.{Values}
use Rattle.command_line.specs.AsksFor.{values_in}
use Rattle.command_line.specs.declared.parse.CommandRow.{CommandRow}

abbrev pub form_of : CommandRow → CommandForm
form_of row = record { name = row.name.now; required = texts row.required.now; optional = texts row.optional.now }

-- the values of the options in a command's matches
abbrev pub values_from : ArgMatches → Values
values_from matches = values_in (rows_of (found_of matches))
