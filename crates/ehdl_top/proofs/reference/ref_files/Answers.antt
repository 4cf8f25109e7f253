use Rattle.std.proofs.Common.{[], ◌∷◌, None, Some, refl, sym, ◌∙◌}
use Rattle.xdp_object.specs.Choice.{chosen_of}
use Rattle.maps_text.specs.Writing.{text_of}
use Rattle.command_line.specs.Request.{AskRef, names_of}
use Rattle.capture_run.specs.States.{state_of}
use Rattle.capture_run.proofs.StateLaws.{changes_none, changes_then, tells_later}
use Rattle.ehdl_top.specs.Results.{result_outputs}
use Rattle.ehdl_top.specs.Forms.{accepted, program_form, maps_form, held_decls, capture_form}
use Rattle.ehdl_top.specs.Inputs.{input, may_input}
use Rattle.ehdl_top.specs.Steps.{NoOther}
use Rattle.ehdl_top.proofs.OutcomeLemmas.{may_ready, starts_from, read_as, ref_makes}
use Rattle.ehdl_top.proofs.FormLemmas.{decls_held}
use Rattle.ehdl_top.proofs.EndLemmas.{was_ready, ends_unread, ends_mapless, ends_over}
use Rattle.ehdl_top.proofs.reference.ref_files.Goals as goal
use Rattle.ehdl_top.proofs.StreamLemmas.{holds_still}

pub returns-in_err-maps : goal.returns-in_err-maps
returns-in_err-maps g c =
    let names = names_of c.args.files.now in
    let choice = chosen_of c.args.choice in
    let old = state_of g.S.Shelf c.args.shelf.now in
    let read = state_of g.S.Shelf c.read_input.new.shelf in
    let new = state_of g.S.Shelf c.read_maps.new.shelf in
    let object = c.in_ok-accepted.ensures.read in
    ends_mapless (AskRef names choice c.args.ifindex) old read new c.in_err-maps.field-0.0 c.read_input.ensures.kept c.read_maps.ensures.kept c.from_residual-in_err-maps.result
    (input names.object (program_form choice accepted) ∷ []) (input names.capture capture_form ∷ []) names.maps c.decls.result.now (held_decls choice (old.held names.object)) c.from_residual-in_err-maps.ensures.1 refl
    (λ told. (was_ready (program_form choice accepted) names.object old old object.0 (changes_none old) object.1 told, tt))
    (λ told. decls_held choice (old.held names.object) object.0 c.in_ok-accepted.accepted.program (object.1.there told) object.2.taken.object ∙ sym c.decls.ensures.decls) c.in_err-maps.ensures.unread

pub returns-in_err-survey : goal.returns-in_err-survey
returns-in_err-survey g c =
    let names = names_of c.args.files.now in
    let choice = chosen_of c.args.choice in
    let old = state_of g.S.Shelf c.args.shelf.now in
    let read = state_of g.S.Shelf c.read_input.new.shelf in
    let later = state_of g.S.Shelf c.read_maps.new.shelf in
    let new = state_of g.S.Shelf c.survey_capture.new.shelf in
    let object = c.in_ok-accepted.ensures.read in
    let declared = held_decls choice (old.held names.object) in
    ends_unread (AskRef names choice c.args.ifindex) old later new c.in_err-survey.field-0.0 (changes_then [] old read later c.read_input.ensures.kept c.read_maps.ensures.kept) c.survey_capture.ensures.kept c.from_residual-in_err-survey.result
    (input names.object (program_form choice accepted) ∷ may_input names.maps (maps_form declared)) (input names.capture capture_form) [] c.from_residual-in_err-survey.ensures.1 refl
    (λ told. (
      was_ready (program_form choice accepted) names.object old old object.0 (changes_none old) object.1 told,
      may_ready names.maps c.in_ok-accepted.accepted.program.decls declared old.held c.in_ok-maps.maps (decls_held choice (old.held names.object) object.0 c.in_ok-accepted.accepted.program (object.1.there told) object.2.taken.object)
          (starts_from names.maps c.in_ok-accepted.accepted.program.decls old read c.in_ok-maps.maps c.read_input.ensures.kept (read_as names.maps _ _ read c.in_ok-maps.maps c.decls.ensures.decls c.in_ok-maps.ensures.read) told),
    ))
    c.in_err-survey.ensures.unread

pub write_runs-requires-clause-unfolded : goal.write_runs-requires-clause-unfolded
write_runs-requires-clause-unfolded g c = let counts = c.in_ok-accepted.ensures.read.2.counts in (counts.graph, counts.unfolded)

pub returns : goal.returns
returns g c =
    let names = names_of c.args.files.now in
    let choice = chosen_of c.args.choice in
    let request = AskRef names choice c.args.ifindex in
    let old = state_of g.S.Shelf c.args.shelf.now in
    let read = state_of g.S.Shelf c.read_input.new.shelf in
    let later = state_of g.S.Shelf c.read_maps.new.shelf in
    let mid = state_of g.S.Shelf c.survey_capture.new.shelf in
    let new = state_of g.S.Shelf c.write_runs.new.shelf in
    let object = c.in_ok-accepted.ensures.read in
    let program = c.in_ok-accepted.accepted.program in
    let opened = c.in_ok-survey.survey.stream in
    let declared = held_decls choice (old.held names.object) in
    let both = changes_then [] old read later c.read_input.ensures.kept c.read_maps.ensures.kept in
    let all = changes_then [] old later mid both c.survey_capture.ensures.kept in
    let maps = read_as names.maps _ _ read c.in_ok-maps.maps c.decls.ensures.decls c.in_ok-maps.ensures.read in
    ends_over request NoOther (record { done = refl; other = λ s x. absurd x; plain = λ s x. absurd x; no_input = λ x. x; reads = λ rest. tt }) old mid new all c.write_runs.result
    (input names.object (program_form choice accepted) ∷ may_input names.maps (maps_form declared)) names.capture refl
    (λ told. (
      was_ready (program_form choice accepted) names.object old old object.0 (changes_none old) object.1 told,
      may_ready names.maps program.decls declared old.held c.in_ok-maps.maps (decls_held choice (old.held names.object) object.0 program (object.1.there told) object.2.taken.object)
          (starts_from names.maps program.decls old read c.in_ok-maps.maps c.read_input.ensures.kept maps told),
    ))
    (λ told.
    let s = c.in_ok-survey.ensures.survey (tells_later old later both.later told) in
    let holds = holds_still opened s.0 later mid names.capture (c.survey_capture.ensures.kept.others names.capture tt) s.1 in
    let w = c.write_runs.ensures.told (tells_later old mid all.later told) s.0 holds s.2 in
    record {
      end = None;
      ws = (result_outputs names opened.magic s.0 w.answers (Some (text_of w.final))).writes;
      makes = ref_makes names choice c.args.ifindex old read mid object.0 program c.in_ok-maps.maps opened s.0 w.answers w.final c.requires c.read_input.ensures.kept all object.1 object.2.taken maps holds w.runs told;
      out = w.out;
    })
    c.write_runs.ensures.over
