use Rattle.std.proofs.Common.{◌≡◌, [], ◌∷◌, ◌++◌, List, All, Some, refl, sym, ◌∙◌, inl, inr, subst, arith, ap, length}
use Rattle.net_core.specs.View.{netlist_of}
use Rattle.xdp_maps.specs.declared.decl.MapDecl.{MapDecl}
use Rattle.xdp_maps.specs.Contents.{IsWithinLimits}
use Rattle.xdp_object.specs.Choice.{chosen_of}
use Rattle.command_line.specs.Request.{AskSim, names_of}
use Rattle.capture_run.specs.States.{state_of}
use Rattle.capture_run.proofs.StateLaws.{changes_none, changes_then, tells_later}
use Rattle.ehdl_top.specs.declared.status.Status.{Status}
use Rattle.ehdl_top.specs.declared.status.Status.TheVariants as status
use Rattle.ehdl_top.specs.Results.{sim_outputs}
use Rattle.ehdl_top.specs.Forms.{object_form, text_form, maps_form, held_decls, capture_form}
use Rattle.ehdl_top.specs.Inputs.{input, may_input}
use Rattle.ehdl_top.specs.Simulation.{given_up}
use Rattle.ehdl_top.specs.Steps.{IsGivenUpDrive}
use Rattle.ehdl_top.proofs.OutcomeLemmas.{may_ready, starts_from, read_as, sim_makes}
use Rattle.ehdl_top.proofs.FormLemmas.{decls_held}
use Rattle.ehdl_top.proofs.RealizedLemmas.{limits_of, declared_of}
use Rattle.ehdl_top.proofs.EndLemmas.{IsPlainEnd, was_ready, ends_unread, ends_mapless, ends_over}
use Rattle.ehdl_top.proofs.sim.sim_files.Goals as goal
use Rattle.ehdl_top.proofs.StreamLemmas.{holds_still}

pub read_maps-requires : goal.read_maps-requires
read_maps-requires g c = declared_of c.in_ok-program.program c.decls.result.now c.decls.ensures.program c.decls.ensures.decls

pub simulate-requires-clause-few : goal.simulate-requires-clause-few
simulate-requires-clause-few g c = (declared_of c.in_ok-program.program c.in_ok-maps.maps.decls c.decls.ensures.program (c.in_ok-maps.ensures.decls ∙ c.decls.ensures.decls)).few

pub simulate-requires-clause-limits : goal.simulate-requires-clause-limits
simulate-requires-clause-limits g c = limits_of c.in_ok-program.program c.in_ok-maps.maps.decls c.decls.ensures.program (c.in_ok-maps.ensures.decls ∙ c.decls.ensures.decls)

pub returns-in_err-design : goal.returns-in_err-design
returns-in_err-design g c =
    let names = names_of c.args.files.now in
    let choice = chosen_of c.args.choice in
    let old = state_of g.S.Shelf c.args.shelf.now in
    let first = state_of g.S.Shelf c.read_input.new.shelf in
    let new = state_of g.S.Shelf c.read_input-2.new.shelf in
    let object = c.in_ok-program.ensures.read in
    ends_unread (AskSim names c.args.verilog.now choice c.args.ifindex c.args.clocks c.args.events) old first new c.in_err-design.field-0.0 c.read_input.ensures.kept c.read_input-2.ensures.kept c.from_residual-in_err-design.result
    (input names.object (object_form choice) ∷ []) (input c.args.verilog.now text_form) (may_input names.maps (maps_form (held_decls choice (old.held names.object))) ++ input names.capture capture_form ∷ []) c.from_residual-in_err-design.ensures.1 refl
    (λ told. (was_ready (object_form choice) names.object old old object.0 (changes_none old) object.1 told, tt)) c.in_err-design.ensures.unread

pub returns-in_err-maps : goal.returns-in_err-maps
returns-in_err-maps g c =
    let names = names_of c.args.files.now in
    let choice = chosen_of c.args.choice in
    let old = state_of g.S.Shelf c.args.shelf.now in
    let first = state_of g.S.Shelf c.read_input.new.shelf in
    let second = state_of g.S.Shelf c.read_input-2.new.shelf in
    let new = state_of g.S.Shelf c.read_maps.new.shelf in
    let object = c.in_ok-program.ensures.read in
    let text = c.in_ok-design.ensures.read in
    ends_mapless (AskSim names c.args.verilog.now choice c.args.ifindex c.args.clocks c.args.events) old second new c.in_err-maps.field-0.0 (changes_then [] old first second c.read_input.ensures.kept c.read_input-2.ensures.kept) c.read_maps.ensures.kept c.from_residual-in_err-maps.result
    (input names.object (object_form choice) ∷ input c.args.verilog.now text_form ∷ []) (input names.capture capture_form ∷ []) names.maps c.decls.result.now (held_decls choice (old.held names.object)) c.from_residual-in_err-maps.ensures.1 refl
    (λ told. (
      was_ready (object_form choice) names.object old old object.0 (changes_none old) object.1 told,
      (was_ready text_form c.args.verilog.now old first text.0 c.read_input.ensures.kept text.1 told, tt),
    ))
    (λ told. decls_held choice (old.held names.object) object.0 c.in_ok-program.program (object.1.there told) object.2 ∙ sym c.decls.ensures.decls) c.in_err-maps.ensures.unread

pub returns-in_err-survey : goal.returns-in_err-survey
returns-in_err-survey g c =
    let names = names_of c.args.files.now in
    let choice = chosen_of c.args.choice in
    let old = state_of g.S.Shelf c.args.shelf.now in
    let first = state_of g.S.Shelf c.read_input.new.shelf in
    let second = state_of g.S.Shelf c.read_input-2.new.shelf in
    let third = state_of g.S.Shelf c.read_maps.new.shelf in
    let new = state_of g.S.Shelf c.survey_capture.new.shelf in
    let object = c.in_ok-program.ensures.read in
    let text = c.in_ok-design.ensures.read in
    let both = changes_then [] old first second c.read_input.ensures.kept c.read_input-2.ensures.kept in
    let declared = held_decls choice (old.held names.object) in
    ends_unread (AskSim names c.args.verilog.now choice c.args.ifindex c.args.clocks c.args.events) old third new c.in_err-survey.field-0.0 (changes_then [] old second third both c.read_maps.ensures.kept) c.survey_capture.ensures.kept c.from_residual-in_err-survey.result
    (input names.object (object_form choice) ∷ input c.args.verilog.now text_form ∷ may_input names.maps (maps_form declared)) (input names.capture capture_form) [] c.from_residual-in_err-survey.ensures.1 refl
    (λ told. (
      was_ready (object_form choice) names.object old old object.0 (changes_none old) object.1 told,
      (
        was_ready text_form c.args.verilog.now old first text.0 c.read_input.ensures.kept text.1 told,
        may_ready names.maps c.in_ok-program.program.decls declared old.held c.in_ok-maps.maps (decls_held choice (old.held names.object) object.0 c.in_ok-program.program (object.1.there told) object.2)
            (starts_from names.maps c.in_ok-program.program.decls old second c.in_ok-maps.maps both (read_as names.maps _ _ second c.in_ok-maps.maps c.decls.ensures.decls c.in_ok-maps.ensures.read) told),
      ),
    ))
    c.in_err-survey.ensures.unread

pub returns : goal.returns
returns g c =
    let names = names_of c.args.files.now in
    let choice = chosen_of c.args.choice in
    let request = AskSim names c.args.verilog.now choice c.args.ifindex c.args.clocks c.args.events in
    let old = state_of g.S.Shelf c.args.shelf.now in
    let first = state_of g.S.Shelf c.read_input.new.shelf in
    let second = state_of g.S.Shelf c.read_input-2.new.shelf in
    let third = state_of g.S.Shelf c.read_maps.new.shelf in
    let mid = state_of g.S.Shelf c.survey_capture.new.shelf in
    let new = state_of g.S.Shelf c.simulate.new.shelf in
    let object = c.in_ok-program.ensures.read in
    let text = c.in_ok-design.ensures.read in
    let program = c.in_ok-program.program in
    let opened = c.in_ok-survey.survey.stream in
    let declared = held_decls choice (old.held names.object) in
    let both = changes_then [] old first second c.read_input.ensures.kept c.read_input-2.ensures.kept in
    let all = changes_then [] old second third both c.read_maps.ensures.kept in
    let same = changes_then [] old third mid all c.survey_capture.ensures.kept in
    let maps = read_as names.maps _ _ second c.in_ok-maps.maps c.decls.ensures.decls c.in_ok-maps.ensures.read in
    ends_over request IsGivenUpDrive (record { done = inl refl; other = λ s x. inr x; plain = plain_end; no_input = no_input; reads = λ rest. tt }) old mid new same c.simulate.result
    (input names.object (object_form choice) ∷ input c.args.verilog.now text_form ∷ may_input names.maps (maps_form declared)) names.capture refl
    (λ told. (
      was_ready (object_form choice) names.object old old object.0 (changes_none old) object.1 told,
      (
        was_ready text_form c.args.verilog.now old first text.0 c.read_input.ensures.kept text.1 told,
        may_ready names.maps program.decls declared old.held c.in_ok-maps.maps (decls_held choice (old.held names.object) object.0 program (object.1.there told) object.2)
            (starts_from names.maps program.decls old second c.in_ok-maps.maps both maps told),
      ),
    ))
    (λ told.
    let s = c.in_ok-survey.ensures.survey (tells_later old third all.later told) in
    let holds = holds_still opened s.0 third mid names.capture (c.survey_capture.ensures.kept.others names.capture tt) s.1 in
    let w = c.simulate.ensures.told (tells_later old mid same.later told) s.0 holds s.2 in
    record {
      end = given_up w.given.end;
      ws = (sim_outputs names opened.magic s.0 w.given).writes;
      makes = sim_makes names c.args.verilog.now choice c.args.ifindex c.args.clocks c.args.events old first second mid object.0 text.0 program (netlist_of c.in_ok-design.design) c.in_ok-maps.maps opened s.0 w.given c.requires c.read_input.ensures.kept both same object.1 object.2 text.1 text.2 maps holds w.is_given told;
      out = w.out;
    })
    c.simulate.ensures.over
  where
    plain_end : (s : Status) → IsGivenUpDrive s → IsPlainEnd s
    plain_end s (inl e) = subst IsPlainEnd (sym e) tt
    plain_end s (inr e) = subst IsPlainEnd (sym e) tt

    no_input : ¬ IsGivenUpDrive status.Input
    no_input (inl e) = absurd cc
    no_input (inr e) = absurd cc
