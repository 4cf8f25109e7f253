use Rattle.capture_run.specs.States.{state_of, sink_of}
use Rattle.ehdl_top.proofs.CauseLemmas.{ended_outcome, ended_complete, ended_read, ended_write, ended_can, ended_inputs, ended_driven, ended_loses}
use Rattle.ehdl_top.proofs.FinishLemmas.{finished_ended, finished_put, finished_silent, finished_why, finished_usage, finished_unread, finished_early, lines_of}
use Rattle.ehdl_top.proofs.command.top.Goals as goal

pub returns-clause-outcome : goal.returns-clause-outcome
returns-clause-outcome g c = λ all told request asks.
    ended_outcome request (state_of g.S.Shelf c.args.shelf.now) (state_of g.S.Shelf c.run_words-end.new.shelf) (sink_of g.O.Sink c.args.out.now) (sink_of g.O.Sink c.finish.new.out) c.finish.result
    (finished_ended request (state_of g.S.Shelf c.args.shelf.now) (state_of g.S.Shelf c.run_words-end.new.shelf) (sink_of g.O.Sink c.args.out.now) (sink_of g.O.Sink c.finish.new.out) c.finish.result c.run_words-end.result (c.run_words-end.ensures.ends request asks) (lines_of c.args.words.now (state_of g.S.Shelf c.args.shelf.now) (state_of g.S.Shelf c.run_words-end.new.shelf) c.run_words-end.result request asks c.run_words-end.ensures.lines) c.finish.ensures.finished) all told

pub returns-clause-complete : goal.returns-clause-complete
returns-clause-complete g c = λ request asks told ready quiet calm.
    ended_complete request (state_of g.S.Shelf c.args.shelf.now) (state_of g.S.Shelf c.run_words-end.new.shelf) (sink_of g.O.Sink c.args.out.now) (sink_of g.O.Sink c.finish.new.out) c.finish.result
    (finished_ended request (state_of g.S.Shelf c.args.shelf.now) (state_of g.S.Shelf c.run_words-end.new.shelf) (sink_of g.O.Sink c.args.out.now) (sink_of g.O.Sink c.finish.new.out) c.finish.result c.run_words-end.result (c.run_words-end.ensures.ends request asks) (lines_of c.args.words.now (state_of g.S.Shelf c.args.shelf.now) (state_of g.S.Shelf c.run_words-end.new.shelf) c.run_words-end.result request asks c.run_words-end.ensures.lines) c.finish.ensures.finished) told ready quiet calm

pub returns-clause-inputs : goal.returns-clause-inputs
returns-clause-inputs g c = λ request asks told e stop.
    ended_inputs request (state_of g.S.Shelf c.args.shelf.now) (state_of g.S.Shelf c.run_words-end.new.shelf) (sink_of g.O.Sink c.args.out.now) (sink_of g.O.Sink c.finish.new.out) c.finish.result
    (finished_ended request (state_of g.S.Shelf c.args.shelf.now) (state_of g.S.Shelf c.run_words-end.new.shelf) (sink_of g.O.Sink c.args.out.now) (sink_of g.O.Sink c.finish.new.out) c.finish.result c.run_words-end.result (c.run_words-end.ensures.ends request asks) (lines_of c.args.words.now (state_of g.S.Shelf c.args.shelf.now) (state_of g.S.Shelf c.run_words-end.new.shelf) c.run_words-end.result request asks c.run_words-end.ensures.lines) c.finish.ensures.finished) told e stop

pub returns-clause-driven : goal.returns-clause-driven
returns-clause-driven g c = λ request asks told e outputs outcome.
    ended_driven request (state_of g.S.Shelf c.args.shelf.now) (state_of g.S.Shelf c.run_words-end.new.shelf) (sink_of g.O.Sink c.args.out.now) (sink_of g.O.Sink c.finish.new.out) c.finish.result c.has_one_meaning.ensures
    (finished_ended request (state_of g.S.Shelf c.args.shelf.now) (state_of g.S.Shelf c.run_words-end.new.shelf) (sink_of g.O.Sink c.args.out.now) (sink_of g.O.Sink c.finish.new.out) c.finish.result c.run_words-end.result (c.run_words-end.ensures.ends request asks) (lines_of c.args.words.now (state_of g.S.Shelf c.args.shelf.now) (state_of g.S.Shelf c.run_words-end.new.shelf) c.run_words-end.result request asks c.run_words-end.ensures.lines) c.finish.ensures.finished) told e outputs outcome

pub returns-clause-read_fault : goal.returns-clause-read_fault
returns-clause-read_fault g c = λ is request asks.
    ended_read request (state_of g.S.Shelf c.args.shelf.now) (state_of g.S.Shelf c.run_words-end.new.shelf) (sink_of g.O.Sink c.args.out.now) (sink_of g.O.Sink c.finish.new.out) c.finish.result
    (finished_ended request (state_of g.S.Shelf c.args.shelf.now) (state_of g.S.Shelf c.run_words-end.new.shelf) (sink_of g.O.Sink c.args.out.now) (sink_of g.O.Sink c.finish.new.out) c.finish.result c.run_words-end.result (c.run_words-end.ensures.ends request asks) (lines_of c.args.words.now (state_of g.S.Shelf c.args.shelf.now) (state_of g.S.Shelf c.run_words-end.new.shelf) c.run_words-end.result request asks c.run_words-end.ensures.lines) c.finish.ensures.finished) is

pub returns-clause-write_fault : goal.returns-clause-write_fault
returns-clause-write_fault g c = λ is request asks.
    ended_write request (state_of g.S.Shelf c.args.shelf.now) (state_of g.S.Shelf c.run_words-end.new.shelf) (sink_of g.O.Sink c.args.out.now) (sink_of g.O.Sink c.finish.new.out) c.finish.result
    (finished_ended request (state_of g.S.Shelf c.args.shelf.now) (state_of g.S.Shelf c.run_words-end.new.shelf) (sink_of g.O.Sink c.args.out.now) (sink_of g.O.Sink c.finish.new.out) c.finish.result c.run_words-end.result (c.run_words-end.ensures.ends request asks) (lines_of c.args.words.now (state_of g.S.Shelf c.args.shelf.now) (state_of g.S.Shelf c.run_words-end.new.shelf) c.run_words-end.result request asks c.run_words-end.ensures.lines) c.finish.ensures.finished) is

pub returns-clause-never : goal.returns-clause-never
returns-clause-never g c = λ request asks.
    ended_can request (state_of g.S.Shelf c.args.shelf.now) (state_of g.S.Shelf c.run_words-end.new.shelf) (sink_of g.O.Sink c.args.out.now) (sink_of g.O.Sink c.finish.new.out) c.finish.result
    (finished_ended request (state_of g.S.Shelf c.args.shelf.now) (state_of g.S.Shelf c.run_words-end.new.shelf) (sink_of g.O.Sink c.args.out.now) (sink_of g.O.Sink c.finish.new.out) c.finish.result c.run_words-end.result (c.run_words-end.ensures.ends request asks) (lines_of c.args.words.now (state_of g.S.Shelf c.args.shelf.now) (state_of g.S.Shelf c.run_words-end.new.shelf) c.run_words-end.result request asks c.run_words-end.ensures.lines) c.finish.ensures.finished)

pub returns-clause-broken : goal.returns-clause-broken
returns-clause-broken g c = λ told request asks.
    ended_loses request (state_of g.S.Shelf c.args.shelf.now) (state_of g.S.Shelf c.run_words-end.new.shelf) (sink_of g.O.Sink c.args.out.now) (sink_of g.O.Sink c.finish.new.out) c.finish.result
    (finished_ended request (state_of g.S.Shelf c.args.shelf.now) (state_of g.S.Shelf c.run_words-end.new.shelf) (sink_of g.O.Sink c.args.out.now) (sink_of g.O.Sink c.finish.new.out) c.finish.result c.run_words-end.result (c.run_words-end.ensures.ends request asks) (lines_of c.args.words.now (state_of g.S.Shelf c.args.shelf.now) (state_of g.S.Shelf c.run_words-end.new.shelf) c.run_words-end.result request asks c.run_words-end.ensures.lines) c.finish.ensures.finished) told

pub returns-clause-usage : goal.returns-clause-usage
returns-clause-usage g c = finished_usage c.args.words.now (state_of g.S.Shelf c.args.shelf.now) (state_of g.S.Shelf c.run_words-end.new.shelf) (sink_of g.O.Sink c.args.out.now) (sink_of g.O.Sink c.finish.new.out) c.finish.result c.run_words-end.result _ c.run_words-end.ensures.usage c.finish.ensures.finished

pub returns-clause-untouched : goal.returns-clause-untouched
returns-clause-untouched g c = finished_usage c.args.words.now (state_of g.S.Shelf c.args.shelf.now) (state_of g.S.Shelf c.run_words-end.new.shelf) (sink_of g.O.Sink c.args.out.now) (sink_of g.O.Sink c.finish.new.out) c.finish.result c.run_words-end.result _ c.run_words-end.ensures.untouched c.finish.ensures.finished

pub returns-clause-unread : goal.returns-clause-unread
returns-clause-unread g c = λ none. finished_unread c.args.words.now (state_of g.S.Shelf c.args.shelf.now) (state_of g.S.Shelf c.run_words-end.new.shelf) (sink_of g.O.Sink c.args.out.now) (sink_of g.O.Sink c.finish.new.out) c.finish.result c.run_words-end.result (c.run_words-end.ensures.unread none) c.finish.ensures.finished

pub returns-clause-unasked : goal.returns-clause-unasked
returns-clause-unasked g c = c.run_words-end.ensures.unasked

pub returns-clause-early : goal.returns-clause-early
returns-clause-early g c = finished_early c.args.words.now (state_of g.S.Shelf c.args.shelf.now) (state_of g.S.Shelf c.run_words-end.new.shelf) (sink_of g.O.Sink c.args.out.now) (sink_of g.O.Sink c.finish.new.out) c.finish.result c.run_words-end.result c.run_words-end.ensures.early c.finish.ensures.finished

pub returns-clause-put : goal.returns-clause-put
returns-clause-put g c = finished_put c.args.words.now (state_of g.S.Shelf c.args.shelf.now) (state_of g.S.Shelf c.run_words-end.new.shelf) (sink_of g.O.Sink c.args.out.now) (sink_of g.O.Sink c.finish.new.out) c.finish.result c.run_words-end.result c.run_words-end.ensures.lines c.finish.ensures.finished

pub returns-clause-silent : goal.returns-clause-silent
returns-clause-silent g c = λ done request asks none.
    finished_silent c.args.words.now (state_of g.S.Shelf c.args.shelf.now) (state_of g.S.Shelf c.run_words-end.new.shelf) (sink_of g.O.Sink c.args.out.now) (sink_of g.O.Sink c.finish.new.out) c.finish.result c.run_words-end.result request _ c.run_words-end.ensures.lines c.finish.ensures.finished c.finish.ensures.silent done asks none

pub returns-clause-why : goal.returns-clause-why
returns-clause-why g c = finished_why c.args.words.now (state_of g.S.Shelf c.args.shelf.now) (state_of g.S.Shelf c.run_words-end.new.shelf) (sink_of g.O.Sink c.args.out.now) (sink_of g.O.Sink c.finish.new.out) c.finish.result c.run_words-end.result c.run_words-end.ensures.lines c.run_words-end.ensures.ends c.finish.ensures.finished

pub returns-clause-others : goal.returns-clause-others
returns-clause-others g c = λ request asks. (c.run_words-end.ensures.ends request asks).kept
