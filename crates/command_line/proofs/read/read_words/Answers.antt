use Rattle.command_line.proofs.Once.{one_request}
use Rattle.command_line.proofs.Help.{help_refused}
use Rattle.command_line.proofs.Taken.{takes_plain}
use Rattle.command_line.proofs.read.read_words.Goals as goal

pub returns-clause-once : goal.returns-clause-once
returns-clause-once c = one_request c.args.words.now

pub returns-clause-plain : goal.returns-clause-plain
returns-clause-plain c = takes_plain c.args.words.now

pub returns-clause-help : goal.returns-clause-help
returns-clause-help c = help_refused c.args.words.now
