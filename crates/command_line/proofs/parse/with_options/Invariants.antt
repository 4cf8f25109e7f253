use Rattle.std.proofs.Common.{◌≡◌, take}
use Rattle.clap.specs.Walk.{texts}
use Rattle.clap.specs.Simple.{app_of}
use Rattle.clap.specs.declared.builder.command.Command.TheViews.{out-Command}
use Rattle.command_line.specs.Commands.{with_options}
use Rattle.command_line.proofs.parse.with_options.Given as goal

abbrev pub invariant-loop-name : goal.invariant-loop-name
invariant-loop-name l = record {
  app : app_of l.command ≡ with_options (app_of l.initial.command) l.required (texts (take l.name-index l.names));
  local : (out-Command l.command).has_globals ≡ (out-Command l.initial.command).has_globals;
}
