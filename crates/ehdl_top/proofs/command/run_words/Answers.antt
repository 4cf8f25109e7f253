use Rattle.std.proofs.Common.{rules, subst}
use Rattle.command_line.specs.Request.{Request, request_of}
use Rattle.ehdl_top.specs.declared.error.CommandError.TheVariants as error
use Rattle.capture_run.specs.States.{state_of}
use Rattle.ehdl_top.specs.Steps.{EndsIn}
use Rattle.ehdl_top.proofs.NameLemmas.{names_apart}
use Rattle.ehdl_top.proofs.CauseLemmas.{stops_of, never_usage, early_of}
use Rattle.ehdl_top.proofs.EndLemmas.{out_of_memory}
use Rattle.ehdl_top.proofs.FinishLemmas.{lines_asked}
use Rattle.ehdl_top.proofs.command.run_words.Goals as goal

pub run_command-requires : goal.run_command-requires
run_command-requires g c = names_apart c.args.words.now (request_of c.in-Ok.command) c.in-Ok.ensures.ok

pub returns-in-Ok-clause-ends : goal.returns-in-Ok-clause-ends
returns-in-Ok-clause-ends g c = λ request asks.
    let P : Request → Type 0 = λ a. EndsIn a (state_of g.S.Shelf c.args.shelf.now) (state_of g.S.Shelf c.run_command.new.shelf) c.run_command.result in
    subst P (c.read_words.ensures.once _ request c.in-Ok.ensures.ok asks) c.run_command.ensures.ends

pub returns-in-Ok-clause-lines : goal.returns-in-Ok-clause-lines
returns-in-Ok-clause-lines g c = lines_asked c.args.words.now (state_of g.S.Shelf c.args.shelf.now) (state_of g.S.Shelf c.run_command.new.shelf) (request_of c.in-Ok.command) c.run_command.result
    (λ request asks. c.read_words.ensures.once _ request c.in-Ok.ensures.ok asks) c.run_command.ensures.lines

pub returns-in-Ok-clause-usage : goal.returns-in-Ok-clause-usage
returns-in-Ok-clause-usage g c = λ e.
    absurd (never_usage (request_of c.in-Ok.command) (state_of g.S.Shelf c.args.shelf.now) (state_of g.S.Shelf c.run_command.new.shelf)
    (stops_of (request_of c.in-Ok.command) (state_of g.S.Shelf c.args.shelf.now) (state_of g.S.Shelf c.run_command.new.shelf) c.run_command.result error.Usage e c.run_command.ensures.ends))

pub returns-in-Ok-clause-early : goal.returns-in-Ok-clause-early
returns-in-Ok-clause-early g c = early_of (request_of c.in-Ok.command) (state_of g.S.Shelf c.args.shelf.now) (state_of g.S.Shelf c.run_command.new.shelf) c.run_command.result c.run_command.ensures.ends

pub returns-in-Ok-clause-unread : goal.returns-in-Ok-clause-unread
returns-in-Ok-clause-unread g c = λ none. absurd (none (request_of c.in-Ok.command) c.in-Ok.ensures.ok)

pub returns-in-Ok-clause-unasked : goal.returns-in-Ok-clause-unasked
returns-in-Ok-clause-unasked g c = λ none. absurd (none (request_of c.in-Ok.command) c.in-Ok.ensures.ok)

pub returns-in-Err-NoMemory-clause-ends : goal.returns-in-Err-NoMemory-clause-ends
returns-in-Err-NoMemory-clause-ends g c = λ request asks. out_of_memory request (state_of g.S.Shelf c.args.shelf.now)

pub returns-in-Err-Usage-clause-ends : goal.returns-in-Err-Usage-clause-ends
returns-in-Err-Usage-clause-ends g c = λ request asks. absurd (c.read_words.ensures.usage (search rules) request asks)

pub returns-in-Err-Usage-clause-usage : goal.returns-in-Err-Usage-clause-usage
returns-in-Err-Usage-clause-usage g c = λ is. c.read_words.ensures.usage (search rules)
