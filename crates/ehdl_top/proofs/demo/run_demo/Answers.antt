use Rattle.std.proofs.Common.{◌≡◌, ◌<◌, ◌^◌, ℕ, List, length, map, None, Ok, sym, subst, ◌∙◌}
use Rattle.std.specs.List.{AllByRecursion}
use Rattle.beat_core.specs.declared.frame.Timed.{Timed}
use Rattle.pcap_core.specs.Reading.{content_of}
use Rattle.xdp_object.specs.Choice.{chosen}
use Rattle.flow_demo.specs.Program.{IsDemoObject}
use Rattle.flow_demo.specs.Packets.{demo_content}
use Rattle.xdp_maps.specs.declared.decl.MapDecl.{MapDecl}
use Rattle.xdp_maps.specs.State.{opened_state}
use Rattle.port_drive.specs.realization.Bounds.{clock_bound, most_beats}
use Rattle.ehdl_top.specs.Forms.{built, program_form, capture_form}
use Rattle.capture_run.specs.Runs.{IsLegal}
use Rattle.ehdl_top.specs.Steps.{IsGivenUp}
use Rattle.ehdl_top.proofs.DemoLemmas.{object_given_up, capture_given_up, program_is, has_map, is_hash, bytes_fit, demo_of, stops_at}
use Rattle.ehdl_top.proofs.demo.run_demo.Goals as goal

pub returns-in_err-built-clause-memory : goal.returns-in_err-built-clause-memory
returns-in_err-built-clause-memory c =
    let e = c.in_err-built.field-0.0 in
    stops_at c.from_residual-in_err-built.result e c.from_residual-in_err-built.ensures.1
    (object_given_up c.demo_is_accepted.ensures c.in_ok-demo.demo.object.items e c.in_ok-demo.ensures.object
    (subst (λ (bytes : List ℕ). IsGivenUp (program_form (chosen None 256) built) bytes e) c.deref.ensures.value c.in_err-built.ensures.given_up))

pub returns-in_err-capture-clause-memory : goal.returns-in_err-capture-clause-memory
returns-in_err-capture-clause-memory c =
    let e = c.in_err-capture.field-0.0 in
    stops_at c.from_residual-in_err-capture.result e c.from_residual-in_err-capture.ensures.1
    (capture_given_up c.args.seed c.args.packets c.in_ok-demo.demo.capture.items e c.in_ok-demo.ensures.packets
    (subst (λ (bytes : List ℕ). IsGivenUp capture_form bytes e) c.deref-2.ensures.value c.in_err-capture.ensures.given_up))

pub demo_lines-requires-clause-few : goal.demo_lines-requires-clause-few
demo_lines-requires-clause-few c =
    let gives = c.in_ok-built.ensures.gives in
    let of = c.in_ok-capture.ensures.captured.of in
    let same = sym c.deref-4.ensures.value in
    bytes_fit gives.program c.in_ok-first.first c.in_ok-ran.ran.maps 1 c.deref-4.result.now c.in_ok-ran.ran.answers (c.in_ok-ran.ensures.sequential gives.program gives.realized)
    (subst (λ (timed : List Timed). AllByRecursion IsLegal timed) same of.are) (subst (λ (timed : List Timed). length timed < 2 ^ 32) same of.few)

pub demo_lines-requires-clause-map : goal.demo_lines-requires-clause-map
demo_lines-requires-clause-map c =
    let gives = c.in_ok-built.ensures.gives in
    let same = program_is c.deref.result.now gives.program (subst IsDemoObject (sym c.deref.ensures.value) c.in_ok-demo.ensures.object) gives.taken.object in
    let opened = subst (λ (ds : List MapDecl). c.in_ok-first.first ≡ opened_state ds) c.deref-3.ensures.value c.in_ok-first.ensures in
    has_map c.in_ok-built.built gives.program c.in_ok-first.first c.in_ok-ran.ran.maps c.deref-4.result.now c.in_ok-ran.ran.answers gives.realized same opened (c.in_ok-ran.ensures.sequential gives.program gives.realized)

pub demo_lines-requires-clause-hash : goal.demo_lines-requires-clause-hash
demo_lines-requires-clause-hash c =
    let gives = c.in_ok-built.ensures.gives in
    let same = program_is c.deref.result.now gives.program (subst IsDemoObject (sym c.deref.ensures.value) c.in_ok-demo.ensures.object) gives.taken.object in
    let opened = subst (λ (ds : List MapDecl). c.in_ok-first.first ≡ opened_state ds) c.deref-3.ensures.value c.in_ok-first.ensures in
    is_hash c.in_ok-built.built gives.program c.in_ok-first.first c.in_ok-ran.ran.maps c.deref-4.result.now c.in_ok-ran.ran.answers gives.realized same opened (c.in_ok-ran.ensures.sequential gives.program gives.realized)

pub returns-clause-lines : goal.returns-clause-lines
returns-clause-lines c =
    let gives = c.in_ok-built.ensures.gives in
    let seen = c.in_ok-capture.ensures.captured in
    let same = program_is c.deref.result.now gives.program (subst IsDemoObject (sym c.deref.ensures.value) c.in_ok-demo.ensures.object) gives.taken.object in
    let opened = subst (λ (ds : List MapDecl). c.in_ok-first.first ≡ opened_state ds) c.deref-3.ensures.value c.in_ok-first.ensures in
    let content = subst (λ (bytes : List ℕ). content_of bytes ≡ Ok (demo_content c.args.seed c.args.packets)) (sym c.deref-2.ensures.value) c.in_ok-demo.ensures.packets in
    let limit = subst (λ (timed : List Timed). c.clock_limit-limit.result ≡ clock_bound (length timed) c.in_ok-built.built.rows (most_beats (map (λ p. p.frame) timed)) c.in_ok-built.built.records) (c.deref-5.ensures.value ∙ sym c.deref-4.ensures.value) c.clock_limit-limit.ensures in
    demo_of c.args.seed c.args.packets c.in_ok-built.built gives.program c.in_ok-capture.capture seen.packets c.deref-2.result.now c.deref-4.result.now c.in_ok-first.first c.in_ok-ran.ran.maps c.in_ok-ran.ran.answers c.clock_limit-limit.result c.in_ok-demo_lines.field-0.items
    gives.realized same content seen.is seen.of c.deref-4.ensures.value opened (c.in_ok-ran.ensures.sequential gives.program gives.realized) limit c.in_ok-demo_lines.ensures
