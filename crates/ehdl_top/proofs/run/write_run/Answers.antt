use Rattle.std.proofs.Common.{◌≡◌, ◌∙◌, ◌≤◌, List, Ok, Err, length, refl, sym, ap, arith}
use Rattle.command_line.specs.Request.{names_of}
use Rattle.xdp_maps.specs.declared.decl.MapDecl.{MapDecl}
use Rattle.xdp_maps.specs.State.{MapState}
use Rattle.maps_text.specs.Writing.{text_of}
use Rattle.capture_run.specs.States.{state_of}
use Rattle.capture_run.specs.Results.{timed_packets}
use Rattle.capture_run.proofs.StateLaws.{changes_none, changes_within}
use Rattle.ehdl_top.specs.Steps.{NoOther, run_names}
use Rattle.ehdl_top.proofs.RealizedLemmas.{declared_of, sequential_of}
use Rattle.ehdl_top.proofs.RunLemmas.{legal_of, pipeline_for, undriven_as, pipeline_driven, run_of_capture, streams_as, over_out, over_some, kept_some, over_final, over_whole, out_first, writes_stopped, out_last, shows_last, last_decls, finals_failed, finals_done, shows_some}
use Rattle.ehdl_top.proofs.run.write_run.Goals as goal

pub returns-in_err-behind-clause-told : goal.returns-in_err-behind-clause-told
returns-in_err-behind-clause-told g c = λ told program realized packets holds count.
    let names = names_of c.args.files.now in
    let verilog = c.args.verilog.now in
    let built = c.args.built.now in
    let first = c.args.first.now in
    let opened = c.args.survey.now.stream in
    let old = state_of g.S.Shelf c.args.shelf.now in
    out_first names verilog built.text.items program first c.args.ifindex opened.magic packets c.from_residual.result old old c.from_residual.ensures.1
    (sequential_of built program realized first c.args.ifindex (timed_packets opened.magic packets) c.requires.decls c.decls-decls.ensures.sound (legal_of opened (old.held names.capture) packets holds) c.ranges.ifindex.fits) (changes_none old)

pub returns-in_err-behind-clause-over : goal.returns-in_err-behind-clause-over
returns-in_err-behind-clause-over g c =
    let names = names_of c.args.files.now in
    let verilog = c.args.verilog.now in
    let built = c.args.built.now in
    let first = c.args.first.now in
    let opened = c.args.survey.now.stream in
    let old = state_of g.S.Shelf c.args.shelf.now in
    over_out NoOther names.capture (run_names names verilog) c.from_residual.result old old c.from_residual.ensures.1 (changes_within (run_names names verilog) old old (changes_none old))

pub returns-in_err-room-clause-told : goal.returns-in_err-room-clause-told
returns-in_err-room-clause-told g c = λ told program realized packets holds count.
    let names = names_of c.args.files.now in
    let verilog = c.args.verilog.now in
    let built = c.args.built.now in
    let first = c.args.first.now in
    let opened = c.args.survey.now.stream in
    let old = state_of g.S.Shelf c.args.shelf.now in
    out_first names verilog built.text.items program first c.args.ifindex opened.magic packets c.from_residual-in_err-room.result old old c.from_residual-in_err-room.ensures.1
    (sequential_of built program realized first c.args.ifindex (timed_packets opened.magic packets) c.requires.decls c.decls-decls.ensures.sound (legal_of opened (old.held names.capture) packets holds) c.ranges.ifindex.fits) (changes_none old)

pub returns-in_err-room-clause-over : goal.returns-in_err-room-clause-over
returns-in_err-room-clause-over g c =
    let names = names_of c.args.files.now in
    let verilog = c.args.verilog.now in
    let built = c.args.built.now in
    let first = c.args.first.now in
    let opened = c.args.survey.now.stream in
    let old = state_of g.S.Shelf c.args.shelf.now in
    over_out NoOther names.capture (run_names names verilog) c.from_residual-in_err-room.result old old c.from_residual-in_err-room.ensures.1 (changes_within (run_names names verilog) old old (changes_none old))

pub returns-in_err-driver-clause-told : goal.returns-in_err-driver-clause-told
returns-in_err-driver-clause-told g c = λ told program realized packets holds count.
    let names = names_of c.args.files.now in
    let verilog = c.args.verilog.now in
    let built = c.args.built.now in
    let first = c.args.first.now in
    let opened = c.args.survey.now.stream in
    let old = state_of g.S.Shelf c.args.shelf.now in
    out_first names verilog built.text.items program first c.args.ifindex opened.magic packets c.from_residual-in_err-driver.result old old c.from_residual-in_err-driver.ensures.1
    (sequential_of built program realized first c.args.ifindex (timed_packets opened.magic packets) c.requires.decls c.decls-decls.ensures.sound (legal_of opened (old.held names.capture) packets holds) c.ranges.ifindex.fits) (changes_none old)

pub returns-in_err-driver-clause-over : goal.returns-in_err-driver-clause-over
returns-in_err-driver-clause-over g c =
    let names = names_of c.args.files.now in
    let verilog = c.args.verilog.now in
    let built = c.args.built.now in
    let first = c.args.first.now in
    let opened = c.args.survey.now.stream in
    let old = state_of g.S.Shelf c.args.shelf.now in
    over_out NoOther names.capture (run_names names verilog) c.from_residual-in_err-driver.result old old c.from_residual-in_err-driver.ensures.1 (changes_within (run_names names verilog) old old (changes_none old))

pub returns-in_err-sim-clause-told : goal.returns-in_err-sim-clause-told
returns-in_err-sim-clause-told g c = λ told program realized packets holds count.
    let names = names_of c.args.files.now in
    let verilog = c.args.verilog.now in
    let built = c.args.built.now in
    let first = c.args.first.now in
    let opened = c.args.survey.now.stream in
    let old = state_of g.S.Shelf c.args.shelf.now in
    out_first names verilog built.text.items program first c.args.ifindex opened.magic packets c.from_residual-in_err-sim.result old old c.from_residual-in_err-sim.ensures.1
    (sequential_of built program realized first c.args.ifindex (timed_packets opened.magic packets) c.requires.decls c.decls-decls.ensures.sound (legal_of opened (old.held names.capture) packets holds) c.ranges.ifindex.fits) (changes_none old)

pub returns-in_err-sim-clause-over : goal.returns-in_err-sim-clause-over
returns-in_err-sim-clause-over g c =
    let names = names_of c.args.files.now in
    let verilog = c.args.verilog.now in
    let built = c.args.built.now in
    let first = c.args.first.now in
    let opened = c.args.survey.now.stream in
    let old = state_of g.S.Shelf c.args.shelf.now in
    over_out NoOther names.capture (run_names names verilog) c.from_residual-in_err-sim.result old old c.from_residual-in_err-sim.ensures.1 (changes_within (run_names names verilog) old old (changes_none old))

pub stream_run-requires-clause-undriven : goal.stream_run-requires-clause-undriven
stream_run-requires-clause-undriven g c =
    undriven_as c.in_ok-driver.driver c.args.ifindex c.clock_limit-limit.result c.in_ok-driver.ensures.view

pub stream_run-requires-clause-pipeline : goal.stream_run-requires-clause-pipeline
stream_run-requires-clause-pipeline g c =
    let r = c.requires.realized in
    let sim = c.in_ok-sim.sim in
    let pipeline = pipeline_driven r.0 c.args.first.now sim.netlist sim.stored c.in_ok-driver.driver c.args.ifindex c.clock_limit-limit.result c.args.survey.now.count c.in_ok-driver.ensures.view
    (pipeline_for c.args.built.now r.0 c.args.first.now sim.netlist sim.stored c.args.ifindex c.clock_limit-limit.result c.args.survey.now.count (c.in_ok-sim.ensures.pipeline r.0 r.1) c.ranges.ifindex.fits c.clock_limit-limit.ensures) in
    (r.0, c.args.first.now, pipeline)

pub shown_maps-requires-clause-limits : goal.shown_maps-requires-clause-limits
shown_maps-requires-clause-limits g c =
    let r = c.requires.realized in
    (declared_of r.0 c.decls-decls.result.now r.1.is_program (c.decls-decls.ensures.decls ∙ c.requires.decls ∙ r.1.decls)).limits

pub shown_maps-requires-clause-few : goal.shown_maps-requires-clause-few
shown_maps-requires-clause-few g c =
    let r = c.requires.realized in
    (declared_of r.0 c.decls-decls.result.now r.1.is_program (c.decls-decls.ensures.decls ∙ c.requires.decls ∙ r.1.decls)).few

pub shown_maps-requires-clause-shows : goal.shown_maps-requires-clause-shows
shown_maps-requires-clause-shows g c =
    let r = c.requires.realized in
    let sim = c.in_ok-sim.sim in
    let pipeline = pipeline_driven r.0 c.args.first.now sim.netlist sim.stored c.in_ok-driver.driver c.args.ifindex c.clock_limit-limit.result c.args.survey.now.count c.in_ok-driver.ensures.view
    (pipeline_for c.args.built.now r.0 c.args.first.now sim.netlist sim.stored c.args.ifindex c.clock_limit-limit.result c.args.survey.now.count (c.in_ok-sim.ensures.pipeline r.0 r.1) c.ranges.ifindex.fits c.clock_limit-limit.ensures) in
    let driver = c.in_ok-driver.driver in
    let shown = shows_some r.0 c.args.first.now c.decls-decls.result.now sim.netlist c.stream_run.new.sim.netlist sim.stored c.stream_run.new.sim.stored driver.ifindex driver.limit c.args.survey.now.count c.decls-decls.ensures.decls c.in_ok-stream_run.ensures.netlist pipeline c.in_ok-stream_run.ensures.driven in
    shown

pub write_maps_text-requires : goal.write_maps_text-requires
write_maps_text-requires g c =
    let r = c.requires.realized in
    let sim = c.in_ok-sim.sim in
    let pipeline = pipeline_driven r.0 c.args.first.now sim.netlist sim.stored c.in_ok-driver.driver c.args.ifindex c.clock_limit-limit.result c.args.survey.now.count c.in_ok-driver.ensures.view
    (pipeline_for c.args.built.now r.0 c.args.first.now sim.netlist sim.stored c.args.ifindex c.clock_limit-limit.result c.args.survey.now.count (c.in_ok-sim.ensures.pipeline r.0 r.1) c.ranges.ifindex.fits c.clock_limit-limit.ensures) in
    let driver = c.in_ok-driver.driver in
    let shown = shows_some r.0 c.args.first.now c.decls-decls.result.now sim.netlist c.stream_run.new.sim.netlist sim.stored c.stream_run.new.sim.stored driver.ifindex driver.limit c.args.survey.now.count c.decls-decls.ensures.decls c.in_ok-stream_run.ensures.netlist pipeline c.in_ok-stream_run.ensures.driven in
    let few : length c.decls-decls.result.now ≤ 16 = (declared_of r.0 c.decls-decls.result.now r.1.is_program (c.decls-decls.ensures.decls ∙ c.requires.decls ∙ r.1.decls)).few in
    let same : c.in_ok-maps.maps ≡ shown.0 = c.in_ok-maps.ensures shown.0 shown.1 shown.2 in
    omega (arith, few, ap (λ (m : MapState). length m.decls) same, ap (λ (ds : List MapDecl). length ds) shown.1)

pub returns-in_err-stream_run-clause-told : goal.returns-in_err-stream_run-clause-told
returns-in_err-stream_run-clause-told g c = λ told program realized packets holds count.
    let names = names_of c.args.files.now in
    let verilog = c.args.verilog.now in
    let built = c.args.built.now in
    let first = c.args.first.now in
    let opened = c.args.survey.now.stream in
    let old = state_of g.S.Shelf c.args.shelf.now in
    let new = state_of g.S.Shelf c.stream_run.new.shelf in
    let sim = c.in_ok-sim.sim in
    let driver = c.in_ok-driver.driver in
    let last = c.stream_run.new.sim.stored in
    let limit = c.clock_limit-limit.result in
    let pipeline = pipeline_for built program first sim.netlist sim.stored c.args.ifindex limit c.args.survey.now.count (c.in_ok-sim.ensures.pipeline program realized) c.ranges.ifindex.fits c.clock_limit-limit.ensures in
    let run = run_of_capture program first sim.netlist sim.stored c.args.ifindex limit c.args.survey.now.count opened (old.held names.capture) packets pipeline holds count in
    let drives = streams_as names verilog c.deref.result.now built.text.items sim.netlist sim.stored last driver c.args.ifindex limit opened.magic packets (Err c.in_err-stream_run.field-0.0) old new c.in_ok-driver.ensures.view c.deref.ensures.value (c.in_err-stream_run.ensures.told told packets holds count) in
    writes_stopped names verilog built.text.items program first c.args.ifindex opened.magic packets sim.netlist sim.stored last limit run c.from_residual-in_err-stream_run.result c.in_err-stream_run.field-0.0 old new c.from_residual-in_err-stream_run.ensures.1 drives

pub returns-in_err-stream_run-clause-over : goal.returns-in_err-stream_run-clause-over
returns-in_err-stream_run-clause-over g c =
    let names = names_of c.args.files.now in
    let verilog = c.args.verilog.now in
    let built = c.args.built.now in
    let first = c.args.first.now in
    let opened = c.args.survey.now.stream in
    let old = state_of g.S.Shelf c.args.shelf.now in
    over_some names verilog c.from_residual-in_err-stream_run.result c.in_err-stream_run.field-0.0 old (state_of g.S.Shelf c.stream_run.new.shelf) c.from_residual-in_err-stream_run.ensures.1 c.in_err-stream_run.ensures.over

pub returns-in_err-maps-clause-told : goal.returns-in_err-maps-clause-told
returns-in_err-maps-clause-told g c = λ told program realized packets holds count.
    let names = names_of c.args.files.now in
    let verilog = c.args.verilog.now in
    let built = c.args.built.now in
    let first = c.args.first.now in
    let opened = c.args.survey.now.stream in
    let old = state_of g.S.Shelf c.args.shelf.now in
    let new = state_of g.S.Shelf c.stream_run.new.shelf in
    let sim = c.in_ok-sim.sim in
    let driver = c.in_ok-driver.driver in
    let last = c.stream_run.new.sim.stored in
    let limit = c.clock_limit-limit.result in
    let pipeline = pipeline_for built program first sim.netlist sim.stored c.args.ifindex limit c.args.survey.now.count (c.in_ok-sim.ensures.pipeline program realized) c.ranges.ifindex.fits c.clock_limit-limit.ensures in
    let run = run_of_capture program first sim.netlist sim.stored c.args.ifindex limit c.args.survey.now.count opened (old.held names.capture) packets pipeline holds count in
    let drives = streams_as names verilog c.deref.result.now built.text.items sim.netlist sim.stored last driver c.args.ifindex limit opened.magic packets (Ok tt) old new c.in_ok-driver.ensures.view c.deref.ensures.value (c.in_ok-stream_run.ensures.told told packets holds count) in
    out_last names verilog built.text.items program first c.args.ifindex opened.magic packets sim.netlist sim.stored last limit run c.from_residual-in_err-maps.result old new c.from_residual-in_err-maps.ensures.1 drives

pub returns-in_err-maps-clause-over : goal.returns-in_err-maps-clause-over
returns-in_err-maps-clause-over g c =
    let names = names_of c.args.files.now in
    let verilog = c.args.verilog.now in
    let built = c.args.built.now in
    let first = c.args.first.now in
    let opened = c.args.survey.now.stream in
    let old = state_of g.S.Shelf c.args.shelf.now in
    let new = state_of g.S.Shelf c.stream_run.new.shelf in
    over_out NoOther names.capture (run_names names verilog) c.from_residual-in_err-maps.result old new c.from_residual-in_err-maps.ensures.1 (kept_some names verilog old new c.in_ok-stream_run.ensures.over.kept)

pub returns-in_err-text-clause-told : goal.returns-in_err-text-clause-told
returns-in_err-text-clause-told g c = λ told program realized packets holds count.
    let names = names_of c.args.files.now in
    let verilog = c.args.verilog.now in
    let built = c.args.built.now in
    let first = c.args.first.now in
    let opened = c.args.survey.now.stream in
    let old = state_of g.S.Shelf c.args.shelf.now in
    let new = state_of g.S.Shelf c.stream_run.new.shelf in
    let sim = c.in_ok-sim.sim in
    let driver = c.in_ok-driver.driver in
    let last = c.stream_run.new.sim.stored in
    let limit = c.clock_limit-limit.result in
    let pipeline = pipeline_for built program first sim.netlist sim.stored c.args.ifindex limit c.args.survey.now.count (c.in_ok-sim.ensures.pipeline program realized) c.ranges.ifindex.fits c.clock_limit-limit.ensures in
    let run = run_of_capture program first sim.netlist sim.stored c.args.ifindex limit c.args.survey.now.count opened (old.held names.capture) packets pipeline holds count in
    let drives = streams_as names verilog c.deref.result.now built.text.items sim.netlist sim.stored last driver c.args.ifindex limit opened.magic packets (Ok tt) old new c.in_ok-driver.ensures.view c.deref.ensures.value (c.in_ok-stream_run.ensures.told told packets holds count) in
    out_last names verilog built.text.items program first c.args.ifindex opened.magic packets sim.netlist sim.stored last limit run c.from_residual-in_err-text.result old new c.from_residual-in_err-text.ensures.1 drives

pub returns-in_err-text-clause-over : goal.returns-in_err-text-clause-over
returns-in_err-text-clause-over g c =
    let names = names_of c.args.files.now in
    let verilog = c.args.verilog.now in
    let built = c.args.built.now in
    let first = c.args.first.now in
    let opened = c.args.survey.now.stream in
    let old = state_of g.S.Shelf c.args.shelf.now in
    let new = state_of g.S.Shelf c.stream_run.new.shelf in
    over_out NoOther names.capture (run_names names verilog) c.from_residual-in_err-text.result old new c.from_residual-in_err-text.ensures.1 (kept_some names verilog old new c.in_ok-stream_run.ensures.over.kept)

pub returns-in_err-put_file-clause-told : goal.returns-in_err-put_file-clause-told
returns-in_err-put_file-clause-told g c = λ told program realized packets holds count.
    let names = names_of c.args.files.now in
    let verilog = c.args.verilog.now in
    let built = c.args.built.now in
    let first = c.args.first.now in
    let opened = c.args.survey.now.stream in
    let old = state_of g.S.Shelf c.args.shelf.now in
    let new = state_of g.S.Shelf c.stream_run.new.shelf in
    let sim = c.in_ok-sim.sim in
    let driver = c.in_ok-driver.driver in
    let last = c.stream_run.new.sim.stored in
    let limit = c.clock_limit-limit.result in
    let pipeline = pipeline_for built program first sim.netlist sim.stored c.args.ifindex limit c.args.survey.now.count (c.in_ok-sim.ensures.pipeline program realized) c.ranges.ifindex.fits c.clock_limit-limit.ensures in
    let run = run_of_capture program first sim.netlist sim.stored c.args.ifindex limit c.args.survey.now.count opened (old.held names.capture) packets pipeline holds count in
    let drives = streams_as names verilog c.deref.result.now built.text.items sim.netlist sim.stored last driver c.args.ifindex limit opened.magic packets (Ok tt) old new c.in_ok-driver.ensures.view c.deref.ensures.value (c.in_ok-stream_run.ensures.told told packets holds count) in
    let end = state_of g.S.Shelf c.put_file.new.shelf in
    let left = last_decls names verilog built.text.items program first c.args.ifindex opened.magic packets sim.netlist sim.stored last limit run ∙ sym c.decls-decls.ensures.decls in
    let shows = shows_last names verilog built.text.items program first c.args.ifindex opened.magic packets sim.netlist sim.stored last limit run c.stream_run.new.sim.netlist last old new c.in_ok-stream_run.ensures.netlist refl drives in
    let bytes : c.deref-2.result.now ≡ text_of run.last = c.deref-2.ensures.value ∙ (c.in_ok-text.ensures ∙ ap text_of (c.in_ok-maps.ensures run.last left shows)) in
    finals_failed names verilog built.text.items program first c.args.ifindex opened.magic packets sim.netlist sim.stored last limit run c.deref-2.result.now c.from_residual-in_err-put_file.result old new end bytes c.from_residual-in_err-put_file.ensures.1 drives c.in_err-put_file.ensures.failed

pub returns-in_err-put_file-clause-over : goal.returns-in_err-put_file-clause-over
returns-in_err-put_file-clause-over g c =
    let names = names_of c.args.files.now in
    let verilog = c.args.verilog.now in
    let built = c.args.built.now in
    let first = c.args.first.now in
    let opened = c.args.survey.now.stream in
    let old = state_of g.S.Shelf c.args.shelf.now in
    let new = state_of g.S.Shelf c.stream_run.new.shelf in
    let end = state_of g.S.Shelf c.put_file.new.shelf in
    over_final names verilog c.deref-2.result.now c.from_residual-in_err-put_file.result old new end c.from_residual-in_err-put_file.ensures.1 c.in_ok-stream_run.ensures.over.kept c.in_err-put_file.ensures.failed

pub returns-clause-told : goal.returns-clause-told
returns-clause-told g c = λ told program realized packets holds count.
    let names = names_of c.args.files.now in
    let verilog = c.args.verilog.now in
    let built = c.args.built.now in
    let first = c.args.first.now in
    let opened = c.args.survey.now.stream in
    let old = state_of g.S.Shelf c.args.shelf.now in
    let new = state_of g.S.Shelf c.stream_run.new.shelf in
    let sim = c.in_ok-sim.sim in
    let driver = c.in_ok-driver.driver in
    let last = c.stream_run.new.sim.stored in
    let limit = c.clock_limit-limit.result in
    let pipeline = pipeline_for built program first sim.netlist sim.stored c.args.ifindex limit c.args.survey.now.count (c.in_ok-sim.ensures.pipeline program realized) c.ranges.ifindex.fits c.clock_limit-limit.ensures in
    let run = run_of_capture program first sim.netlist sim.stored c.args.ifindex limit c.args.survey.now.count opened (old.held names.capture) packets pipeline holds count in
    let drives = streams_as names verilog c.deref.result.now built.text.items sim.netlist sim.stored last driver c.args.ifindex limit opened.magic packets (Ok tt) old new c.in_ok-driver.ensures.view c.deref.ensures.value (c.in_ok-stream_run.ensures.told told packets holds count) in
    let end = state_of g.S.Shelf c.put_file.new.shelf in
    let left = last_decls names verilog built.text.items program first c.args.ifindex opened.magic packets sim.netlist sim.stored last limit run ∙ sym c.decls-decls.ensures.decls in
    let shows = shows_last names verilog built.text.items program first c.args.ifindex opened.magic packets sim.netlist sim.stored last limit run c.stream_run.new.sim.netlist last old new c.in_ok-stream_run.ensures.netlist refl drives in
    let bytes : c.deref-2.result.now ≡ text_of run.last = c.deref-2.ensures.value ∙ (c.in_ok-text.ensures ∙ ap text_of (c.in_ok-maps.ensures run.last left shows)) in
    finals_done names verilog built.text.items program first c.args.ifindex opened.magic packets sim.netlist sim.stored last limit run c.deref-2.result.now old new end bytes drives c.in_ok-put_file.ensures.done

pub returns-clause-over : goal.returns-clause-over
returns-clause-over g c =
    let names = names_of c.args.files.now in
    let verilog = c.args.verilog.now in
    let built = c.args.built.now in
    let first = c.args.first.now in
    let opened = c.args.survey.now.stream in
    let old = state_of g.S.Shelf c.args.shelf.now in
    let new = state_of g.S.Shelf c.stream_run.new.shelf in
    let end = state_of g.S.Shelf c.put_file.new.shelf in
    over_whole names verilog c.deref-2.result.now old new end c.in_ok-stream_run.ensures.over.kept c.in_ok-put_file.ensures.done
