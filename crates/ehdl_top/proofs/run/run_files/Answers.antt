use Rattle.std.proofs.Common.{◌≡◌, [], ◌∷◌, ◌++◌, None, Some, refl, sym, ◌∙◌}
use Rattle.xdp_object.specs.Choice.{chosen_of}
use Rattle.maps_text.specs.Writing.{text_of}
use Rattle.command_line.specs.Request.{AskRun, names_of}
use Rattle.capture_run.specs.States.{state_of}
use Rattle.capture_run.proofs.StateLaws.{changes_none, changes_then, tells_later}
use Rattle.ehdl_top.specs.Results.{run_outputs}
use Rattle.ehdl_top.specs.Forms.{built, program_form, maps_form, held_decls, capture_form}
use Rattle.ehdl_top.specs.Inputs.{input, may_input}
use Rattle.ehdl_top.specs.Steps.{NoOther}
use Rattle.ehdl_top.proofs.OutcomeLemmas.{may_ready, starts_from, read_as, run_makes}
use Rattle.ehdl_top.proofs.FormLemmas.{decls_held}
use Rattle.ehdl_top.proofs.RealizedLemmas.{declared_of}
use Rattle.ehdl_top.proofs.EndLemmas.{was_ready, ends_out, ends_unread, ends_mapless, ends_over}
use Rattle.ehdl_top.proofs.run.run_files.Goals as goal
use Rattle.ehdl_top.proofs.StreamLemmas.{holds_still}

pub read_maps-requires : goal.read_maps-requires
read_maps-requires g c =
    let object = c.in_ok-built.ensures.read in
    declared_of object.2.program c.deref.result.now object.2.realized.is_program (c.deref.ensures.value ∙ object.2.realized.decls)

pub returns-in_err-built : goal.returns-in_err-built
returns-in_err-built g c =
    let names = names_of c.args.files.now in
    let choice = chosen_of c.args.choice in
    let old = state_of g.S.Shelf c.args.shelf.now in
    let new = state_of g.S.Shelf c.read_input.new.shelf in
    ends_unread (AskRun names c.args.verilog.now choice c.args.ifindex) old old new c.in_err-built.field-0.0 (changes_none old) c.read_input.ensures.kept c.from_residual.result
    [] (input names.object (program_form choice built)) (may_input names.maps (maps_form (held_decls choice (old.held names.object))) ++ input names.capture capture_form ∷ []) c.from_residual.ensures.1 refl (λ told. tt) c.in_err-built.ensures.unread

pub returns-in_err-first : goal.returns-in_err-first
returns-in_err-first g c =
    let names = names_of c.args.files.now in
    let choice = chosen_of c.args.choice in
    let old = state_of g.S.Shelf c.args.shelf.now in
    let read = state_of g.S.Shelf c.read_input.new.shelf in
    let new = state_of g.S.Shelf c.read_maps.new.shelf in
    let object = c.in_ok-built.ensures.read in
    ends_mapless (AskRun names c.args.verilog.now choice c.args.ifindex) old read new c.in_err-first.field-0.0 c.read_input.ensures.kept c.read_maps.ensures.kept c.from_residual-in_err-first.result
    (input names.object (program_form choice built) ∷ []) (input names.capture capture_form ∷ []) names.maps c.deref.result.now (held_decls choice (old.held names.object)) c.from_residual-in_err-first.ensures.1 refl
    (λ told. (was_ready (program_form choice built) names.object old old object.0 (changes_none old) object.1 told, tt))
    (λ told. decls_held choice (old.held names.object) object.0 object.2.program (object.1.there told) object.2.taken.object ∙ sym (c.deref.ensures.value ∙ object.2.realized.decls)) c.in_err-first.ensures.unread

pub returns-in_err-survey : goal.returns-in_err-survey
returns-in_err-survey g c =
    let names = names_of c.args.files.now in
    let choice = chosen_of c.args.choice in
    let old = state_of g.S.Shelf c.args.shelf.now in
    let read = state_of g.S.Shelf c.read_input.new.shelf in
    let later = state_of g.S.Shelf c.read_maps.new.shelf in
    let new = state_of g.S.Shelf c.survey_capture.new.shelf in
    let object = c.in_ok-built.ensures.read in
    let decls = object.2.program.decls in
    let declared = held_decls choice (old.held names.object) in
    let own : c.deref.result.now ≡ decls = c.deref.ensures.value ∙ object.2.realized.decls in
    ends_unread (AskRun names c.args.verilog.now choice c.args.ifindex) old later new c.in_err-survey.field-0.0 (changes_then [] old read later c.read_input.ensures.kept c.read_maps.ensures.kept) c.survey_capture.ensures.kept c.from_residual-in_err-survey.result
    (input names.object (program_form choice built) ∷ may_input names.maps (maps_form declared)) (input names.capture capture_form) [] c.from_residual-in_err-survey.ensures.1 refl
    (λ told. (
      was_ready (program_form choice built) names.object old old object.0 (changes_none old) object.1 told,
      may_ready names.maps decls declared old.held c.in_ok-first.first (decls_held choice (old.held names.object) object.0 object.2.program (object.1.there told) object.2.taken.object)
          (starts_from names.maps decls old read c.in_ok-first.first c.read_input.ensures.kept (read_as names.maps _ _ read c.in_ok-first.first own c.in_ok-first.ensures.read) told),
    ))
    c.in_err-survey.ensures.unread

pub returns : goal.returns
returns g c =
    let names = names_of c.args.files.now in
    let choice = chosen_of c.args.choice in
    let request = AskRun names c.args.verilog.now choice c.args.ifindex in
    let old = state_of g.S.Shelf c.args.shelf.now in
    let read = state_of g.S.Shelf c.read_input.new.shelf in
    let later = state_of g.S.Shelf c.read_maps.new.shelf in
    let mid = state_of g.S.Shelf c.survey_capture.new.shelf in
    let new = state_of g.S.Shelf c.write_run.new.shelf in
    let object = c.in_ok-built.ensures.read in
    let pipeline = c.in_ok-built.built in
    let decls = object.2.program.decls in
    let opened = c.in_ok-survey.survey.stream in
    let declared = held_decls choice (old.held names.object) in
    let own : c.deref.result.now ≡ decls = c.deref.ensures.value ∙ object.2.realized.decls in
    let both = changes_then [] old read later c.read_input.ensures.kept c.read_maps.ensures.kept in
    let all = changes_then [] old later mid both c.survey_capture.ensures.kept in
    let maps = read_as names.maps _ _ read c.in_ok-first.first own c.in_ok-first.ensures.read in
    ends_over request NoOther (record { done = refl; other = λ s x. absurd x; plain = λ s x. absurd x; no_input = λ x. x; reads = λ rest. tt }) old mid new all c.write_run.result
    (input names.object (program_form choice built) ∷ may_input names.maps (maps_form declared)) names.capture refl
    (λ told. (
      was_ready (program_form choice built) names.object old old object.0 (changes_none old) object.1 told,
      may_ready names.maps decls declared old.held c.in_ok-first.first (decls_held choice (old.held names.object) object.0 object.2.program (object.1.there told) object.2.taken.object)
          (starts_from names.maps decls old read c.in_ok-first.first c.read_input.ensures.kept maps told),
    ))
    (λ told.
    let s = c.in_ok-survey.ensures.survey (tells_later old later both.later told) in
    let holds = holds_still opened s.0 later mid names.capture (c.survey_capture.ensures.kept.others names.capture tt) s.1 in
    let w = c.write_run.ensures.told (tells_later old mid all.later told) object.2.program object.2.realized s.0 holds s.2 in
    record {
      end = None;
      ws = (run_outputs names c.args.verilog.now pipeline.text.items opened.magic s.0 w.answers (text_of w.final)).writes;
      makes = run_makes names c.args.verilog.now choice c.args.ifindex old read mid object.0 pipeline c.in_ok-first.first opened s.0 w.answers w.final c.requires.apart c.requires.text c.read_input.ensures.kept all object.1 object.2 maps holds w.runs told;
      out = w.out;
    })
    c.write_run.ensures.over
