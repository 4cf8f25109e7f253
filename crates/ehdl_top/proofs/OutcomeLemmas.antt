-- What a command is to leave: its inputs are in their forms, and it comes to one end.
use Rattle.std.proofs.Common.{◌≡◌, ℕ, ◌≤◌, IsTrue, List, [], ◌∷◌, ◌++◌, suc, length, map, Option, Some, None, refl, sym, ap, subst, ◌∙◌, inl, arith}
use Rattle.std.proofs.lemmas.List.{length-map}
use Rattle.shelf_core.specs.Shelf.{Holding}
use Rattle.pcap_core.specs.Format.{Packet, Content}
use Rattle.pcap_core.specs.Streaming.{Opened}
use Rattle.net_core.specs.Nets.{Netlist}
use Rattle.port_drive.specs.realization.History.{Arrival}
use Rattle.beat_core.specs.declared.answer.Answer.{Answer}
use Rattle.beat_core.specs.declared.frame.Timed.{Timed}
use Rattle.beat_core.specs.Laws.{arrival_of}
use Rattle.xdp_maps.specs.declared.decl.MapDecl.{MapDecl}
use Rattle.xdp_maps.specs.State.{MapState, opened_state}
use Rattle.xdp_object.specs.xdp_machine.Program.{XdpProgram}
use Rattle.kind_core.proofs.xdp_machine_laws.RunLaws.{runs_length}
use Rattle.ehdl_build.specs.declared.built.Built.{Built}
use Rattle.ehdl_build.specs.Compiled.{size_of, code_of, packets_in, answer_of, IsSequential}
use Rattle.xdp_object.specs.Choice.{Chosen}
use Rattle.xdp_object.specs.Object.{IsObject}
use Rattle.command_line.specs.Request.{Request, AskCompile, AskRun, AskSim, AskRef, AskReport, AskPrepare, AskDemo, Names}
use Rattle.maps_text.specs.Text.{IsMapsText}
use Rattle.maps_text.specs.Writing.{text_of}
use Rattle.maps_text.specs.Laws.{HasOneMeaning}
use Rattle.capture_run.specs.declared.records.TheConstants.{CAPTURE_LIMIT}
use Rattle.ehdl_top.specs.declared.limits.TheConstants.{OBJECT_LIMIT, VERILOG_LIMIT, MAPS_LIMIT}
use Rattle.ehdl_top.specs.declared.error.CommandError.{CommandError}
use Rattle.ehdl_top.specs.declared.error.CommandError.TheVariants as error
use Rattle.ehdl_top.specs.declared.object.Accepted.{Accepted}
use Rattle.ehdl_top.specs.Status.{ended}
use Rattle.capture_run.specs.States.{ShelfState, Changes}
use Rattle.capture_run.specs.Captures.{IsCaptured, HoldsCapture}
use Rattle.ehdl_top.specs.Forms.{Holds, ProgramRule, IsReady, IsTaken, IsTextOf, StartsFrom, built, accepted, program_form, object_form, text_form, maps_form, held_decls, capture_form}
use Rattle.ehdl_top.specs.Inputs.{input, may_input, AreReady}
use Rattle.capture_run.specs.Writes.{Outputs, names_in, Write, AreDone, OneFailed}
use Rattle.capture_run.specs.Results.{timed_packets, came_by}
use Rattle.ehdl_top.specs.Results.{compile_outputs, result_outputs, run_outputs, sim_outputs, no_outputs}
use Rattle.ehdl_top.specs.Simulation.{Simulation, simulation, final_text, given_up}
use Rattle.ehdl_top.specs.Report.{report_lines}
use Rattle.ehdl_top.specs.Outcome.{IsSimulated, IsReported, IsDemo}
use Rattle.ehdl_top.specs.Preparing.{MayDecline}
use Rattle.ehdl_top.specs.Ends.{HasBroken, HasStopped}
use Rattle.ehdl_top.specs.Requests.{inputs_of, outputs_of, IsOutcome, Declines, EndsItself}
use Rattle.ehdl_top.specs.Steps.{IsRead, AreRead, IsBuiltOf, IsAcceptedBy, AreDistinct, IsTextApart, FailsWrite, WritesAll}
use Rattle.capture_run.proofs.StateLaws.{tells_later}
use Rattle.prepare_core.proofs.CountingLaws.{accepted_of}
use Rattle.kind_core.specs.declared.kind.Offsets.TheVariants.{Varying}
use Rattle.ehdl_top.proofs.InputLemmas.{holds_both, ready_both}
use Rattle.ehdl_top.proofs.FormLemmas.{one_captured, decls_held}
use Rattle.capture_run.proofs.WriteLaws.{AreOf, AreBuilt, of_front, some_prefixes, done_from, failed_from, done_changes, failed_changes, failed_rose, done_whole, failed_prefixes}
use Rattle.ehdl_top.proofs.ResultLemmas.{compile_built, result_built, result_names, run_built, run_of}

-- ---- where the inputs are in their forms
-- what a name holds of which this is so, so is that
pub holds_as : (limit : ℕ) (held : Option (List ℕ)) (A B : List ℕ → Type 0) → ((bytes : List ℕ) → A bytes → B bytes) → Holds limit held A → Holds limit held B
holds_as limit held A B f h = record { bytes = h.bytes; there = h.there; within = h.within; is = f h.bytes h.is }

-- maps that are started from
pub may_ready : (name : Option (List ℕ)) (decls of_held : List MapDecl) (held : Holding) (first : MapState) → of_held ≡ decls → StartsFrom name decls held first → AreReady (may_input name (maps_form of_held)) held
may_ready (Some name) decls of_held held first same starts =
    let P : List MapDecl → Type 0 = λ ds. IsReady (maps_form ds) (held name) in
    (subst P (sym same) (holds_as MAPS_LIMIT (held name) _ (maps_form decls).Fits (λ bytes is. (first, is)) starts), tt)
may_ready None decls of_held held first same starts = tt

-- the declarations of the object of a program
object_decls : (choice : Chosen) (program : XdpProgram) (held : Option (List ℕ)) → Holds OBJECT_LIMIT held (λ bytes. IsObject choice bytes program) → held_decls choice held ≡ program.decls
object_decls choice program held h = decls_held choice held h.bytes program h.there h.is

taken_decls : (choice : Chosen) (rule : ProgramRule) (program : XdpProgram) (held : Option (List ℕ)) → Holds OBJECT_LIMIT held (λ bytes. IsTaken choice rule bytes program) → held_decls choice held ≡ program.decls
taken_decls choice rule program held h = object_decls choice program held (holds_as OBJECT_LIMIT held _ (λ bytes. IsObject choice bytes program) (λ bytes is. is.object) h)

capture_ready : (held : Holding) (name : List ℕ) (magic : ℕ) (packets : List Packet) → Holds CAPTURE_LIMIT (held name) (λ bytes. IsCaptured bytes magic packets) → AreReady (input name capture_form ∷ []) held
capture_ready held name magic packets h = (holds_as CAPTURE_LIMIT (held name) _ capture_form.Fits (λ bytes is. (magic, packets, is)) h, tt)

pub outcome_ready : (request : Request) (held : Holding) (end : Option CommandError) (outputs : Outputs) → IsOutcome request held end outputs → AreReady (inputs_of request held) held
outcome_ready (AskCompile object verilog chosen) held end outputs o =
    (holds_as OBJECT_LIMIT (held object) _ (program_form chosen built).Fits (λ bytes is. (o.1.program, is)) o.1.held_program, tt)
outcome_ready (AskRun names verilog chosen ifindex) held end outputs o = (
  holds_as OBJECT_LIMIT (held names.object) _ (program_form chosen built).Fits (λ bytes is. (o.1.program, is)) o.1.held_program,
  ready_both _ _ held (may_ready names.maps o.1.program.decls _ held o.1.first (taken_decls chosen built o.1.program (held names.object) o.1.held_program) o.1.starts)
      (capture_ready held names.capture o.1.magic o.1.packets o.1.held_capture),
)
outcome_ready (AskSim names verilog chosen ifindex clocks events) held end outputs o = (
  holds_as OBJECT_LIMIT (held names.object) _ (object_form chosen).Fits (λ bytes is. (o.program, is)) o.held_object,
  (
    holds_as VERILOG_LIMIT (held verilog) _ text_form.Fits (λ bytes is. (o.design, is.spells)) o.held_text,
    ready_both _ _ held (may_ready names.maps o.program.decls _ held o.first (object_decls chosen o.program (held names.object) o.held_object) o.starts)
        (capture_ready held names.capture o.magic o.packets o.held_capture),
  ),
)
outcome_ready (AskRef names chosen ifindex) held end outputs o = (
  holds_as OBJECT_LIMIT (held names.object) _ (program_form chosen accepted).Fits (λ bytes is. (o.1.program, is)) o.1.held_program,
  ready_both _ _ held (may_ready names.maps o.1.program.decls _ held o.1.first (taken_decls chosen accepted o.1.program (held names.object) o.1.held_program) o.1.starts)
      (capture_ready held names.capture o.1.magic o.1.packets o.1.held_capture),
)
outcome_ready (AskReport object chosen) held end outputs o =
    (holds_as OBJECT_LIMIT (held object) _ (program_form chosen accepted).Fits (λ bytes is. (o.3.program, record { object = is; takes = o.3.accepted })) o.3.held_object, tt)
outcome_ready (AskPrepare object output chosen) held end outputs o =
    (holds_as OBJECT_LIMIT (held object) _ (object_form chosen).Fits (λ bytes is. (o.1.program, is)) o.1.held_object, tt)
outcome_ready (AskDemo seed packets) held end outputs o = tt

object_ready : (object : List ℕ) (chosen : Chosen) (held : Holding) (e : CommandError) → MayDecline object chosen held e → IsReady (object_form chosen) (held object)
object_ready object chosen held (error.Refused r) declines = holds_as OBJECT_LIMIT (held object) _ (object_form chosen).Fits (λ bytes is. (is.program, is.object)) declines
object_ready object chosen held e declines = absurd declines

pub declined_ready : (request : Request) (held : Holding) (e : CommandError) → Declines request held e → AreReady (inputs_of request held) held
declined_ready (AskPrepare object output chosen) held e declines = (object_ready object chosen held e declines, tt)
declined_ready request held e declines = absurd declines

-- ---- one end of a simulation
same_packets : (held : Option (List ℕ)) (m n : ℕ) (ps qs : List Packet) → Holds CAPTURE_LIMIT held (λ bytes. IsCaptured bytes m ps) → Holds CAPTURE_LIMIT held (λ bytes. IsCaptured bytes n qs) → (n ≡ m) × (qs ≡ ps)
same_packets held m n ps qs a b =
    holds_both CAPTURE_LIMIT held (λ bytes. IsCaptured bytes m ps) (λ bytes. IsCaptured bytes n qs) (λ bytes. (n ≡ m) × (qs ≡ ps))
    (λ bytes c d. let same = one_captured bytes _ _ d c in (ap (λ (x : Content). x.magic) same, ap (λ (x : Content). x.packets) same)) a b

same_design : (held : Option (List ℕ)) (d e : Netlist) → Holds VERILOG_LIMIT held (λ bytes. IsTextOf bytes d) → Holds VERILOG_LIMIT held (λ bytes. IsTextOf bytes e) → e ≡ d
same_design held d e a b =
    holds_both VERILOG_LIMIT held (λ bytes. IsTextOf bytes d) (λ bytes. IsTextOf bytes e) (λ bytes. e ≡ d) (λ bytes c f. c.only e f.spells) a b

same_first : (name : Option (List ℕ)) (decls decls' : List MapDecl) (held : Holding) (first first' : MapState) → HasOneMeaning → decls' ≡ decls → StartsFrom name decls held first → StartsFrom name decls' held first' → first' ≡ first
same_first (Some name) decls decls' held first first' one same a b =
    holds_both MAPS_LIMIT (held name) (λ bytes. IsMapsText decls bytes first) (λ bytes. IsMapsText decls bytes first') (λ bytes. first' ≡ first) (λ bytes c d. one decls bytes first' first d c) a
    (subst (λ (ds : List MapDecl). StartsFrom (Some name) ds held first') same b)
same_first None decls decls' held first first' one same a b = b ∙ ap opened_state same ∙ sym a

one_end : (names : Names) (verilog : List ℕ) (chosen : Chosen) (ifindex clocks : ℕ) (held : Holding) (end end' : Option CommandError) (outputs outputs' : Outputs) → HasOneMeaning
    → IsSimulated names verilog chosen ifindex clocks held end outputs → IsSimulated names verilog chosen ifindex clocks held end' outputs' → end ≡ end'
one_end names verilog chosen ifindex clocks held end end' outputs outputs' one a b =
    let design : b.design ≡ a.design = same_design (held verilog) a.design b.design a.held_text b.held_text in
    let capture = same_packets (held names.capture) a.magic b.magic a.packets b.packets a.held_capture b.held_capture in
    let decls : b.program.decls ≡ a.program.decls = sym (object_decls chosen b.program (held names.object) b.held_object) ∙ object_decls chosen a.program (held names.object) a.held_object in
    let first : b.first ≡ a.first = same_first names.maps a.program.decls b.program.decls held a.first b.first one decls a.starts b.starts in
    let F : Netlist → MapState → ℕ → List Packet → Option CommandError = λ d maps magic ps. given_up (simulation d maps ifindex (timed_packets magic ps) clocks).end in
    let E : Simulation → Option CommandError = λ g. given_up g.end in
    a.end_is ∙ ap E a.is_given ∙ ap (λ (d : Netlist). F d a.first a.magic a.packets) (sym design) ∙ ap (λ (maps : MapState). F b.design maps a.magic a.packets) (sym first)
    ∙ ap (λ m. F b.design b.first m a.packets) (sym capture.0) ∙ ap (λ ps. F b.design b.first b.magic ps) (sym capture.1)
    ∙ ap E (sym b.is_given) ∙ sym b.end_is

pub ends_one : (request : Request) (held : Holding) (end end' : Option CommandError) (outputs outputs' : Outputs) → HasOneMeaning → IsOutcome request held end outputs → IsOutcome request held end' outputs' → end ≡ end'
ends_one (AskCompile object verilog chosen) held end end' outputs outputs' one a b = a.0 ∙ sym b.0
ends_one (AskRun names verilog chosen ifindex) held end end' outputs outputs' one a b = a.0 ∙ sym b.0
ends_one (AskSim names verilog chosen ifindex clocks events) held end end' outputs outputs' one a b = one_end names verilog chosen ifindex clocks held end end' outputs outputs' one a b
ends_one (AskRef names chosen ifindex) held end end' outputs outputs' one a b = a.0 ∙ sym b.0
ends_one (AskReport object chosen) held end end' outputs outputs' one a b = a.0 ∙ sym b.0
ends_one (AskPrepare object output chosen) held end end' outputs outputs' one a b = a.0 ∙ sym b.0
ends_one (AskDemo seed packets) held end end' outputs outputs' one a b = a.0 ∙ sym b.0

-- ---- from what was read to what is written
-- these writes make what the command is to leave, and come to this end
pub record Makes (request : Request) (held : Holding) (end : Option CommandError) (ws : List Write) : Type 0 where
  pub outputs : Outputs
  pub outcome : IsOutcome request held end outputs
  pub writes_are : ws ≡ outputs.writes
  pub built : AreBuilt outputs.files outputs.writes
  pub of : AreOf (names_in outputs.files) outputs.writes

-- a part of these writes was made, and no others were begun
pub stopped_part : (request : Request) (end : Option CommandError) (Left : List Write → Type 0) (old mid new : ShelfState) (ws done rest : List Write) → Changes [] old mid → IsTrue old.tells → Makes request old.held end ws → ws ≡ done ++ rest → Left rest → AreDone done mid new → HasStopped request Left old new
stopped_part request end Left old mid new ws done rest same told m all left are =
    let whole : m.outputs.writes ≡ done ++ rest = sym m.writes_are ∙ all in
    let P : List Write → Type 0 = AreBuilt m.outputs.files in
    let Q : List Write → Type 0 = AreOf (names_in m.outputs.files) in
    let made : AreDone done old new = done_from done old mid new same are in
    record {
      end = end;
      outputs = m.outputs;
      outcome = m.outcome;
      done = done;
      rest = rest;
      all = whole;
      left = left;
      prefixes = some_prefixes m.outputs.files done rest old new (subst P whole m.built) made told;
      others = done_changes (names_in m.outputs.files) done old new (of_front (names_in m.outputs.files) done rest (subst Q whole m.of)) made;
      in_order = made;
    }

pub writes_all : (request : Request) (end : Option CommandError) (old mid new : ShelfState) (ws : List Write) → EndsItself request (ended end) → Changes [] old mid → (IsTrue old.tells → Makes request old.held end ws) → AreDone ws mid new → WritesAll request end old new
writes_all request end old mid new ws can same makes done = record {
  can = can;
  has = λ told.
      let m = makes told in
      let P : List Write → Type 0 = λ vs. AreDone vs old new in
      let d : AreDone m.outputs.writes old new = subst P m.writes_are (done_from ws old mid new same done) in
      record {
        outputs = m.outputs;
        outcome = m.outcome;
        whole = done_whole m.outputs.files m.outputs.writes old new m.built d told;
        others = done_changes (names_in m.outputs.files) m.outputs.writes old new m.of d;
        in_order = d;
      };
}

pub broken_write : (request : Request) (end : Option CommandError) (old mid new : ShelfState) (ws : List Write) → Changes [] old mid → IsTrue old.tells → Makes request old.held end ws → OneFailed ws mid new → HasBroken request old new
broken_write request end old mid new ws same told m failed =
    let P : List Write → Type 0 = λ vs. OneFailed vs old new in
    let f : OneFailed m.outputs.writes old new = subst P m.writes_are (failed_from ws old mid new same failed) in
    record {
      end = end;
      outputs = m.outputs;
      outcome = m.outcome;
      prefixes = failed_prefixes m.outputs.files m.outputs.writes old new m.built f told;
      others = failed_changes (names_in m.outputs.files) m.outputs.writes old new m.of f;
      in_order = f;
    }

pub fails_write : (request : Request) (end : Option CommandError) (old mid new : ShelfState) (ws : List Write) → AreOf (outputs_of request) ws → Changes [] old mid → (IsTrue old.tells → Makes request old.held end ws) → OneFailed ws mid new → FailsWrite request old new
fails_write request end old mid new ws of same makes failed = record {
  rose = failed_rose (outputs_of request) ws old new of (failed_from ws old mid new same failed);
  broken = λ told. broken_write request end old mid new ws same told (makes told) failed;
}

-- ---- each command
-- an input that was read from a later state, in which nothing has changed
pub was_held : (limit : ℕ) (name : List ℕ) (a b : ShelfState) (bytes : List ℕ) (Is : List ℕ → Type 0) → Changes [] a b → (IsTrue b.tells → b.held name ≡ Some bytes) → length bytes ≤ limit → Is bytes → IsTrue a.tells → Holds limit (a.held name) Is
was_held limit name a b bytes Is same there within is told = record {
  bytes = bytes;
  there = sym (same.others name tt) ∙ there (tells_later a b same.later told);
  within = within;
  is = is;
}

-- the maps that were read from a later state, in which nothing has changed
pub starts_from : (name : Option (List ℕ)) (decls : List MapDecl) (a b : ShelfState) (first : MapState) → Changes [] a b → AreRead name decls b first → IsTrue a.tells → StartsFrom name decls a.held first
starts_from (Some name) decls a b first same read told = was_held MAPS_LIMIT name a b read.0 (λ bytes. IsMapsText decls bytes first) same read.1.there read.1.within read.2 told
starts_from None decls a b first same read told = read

-- the same, of equal declarations
pub read_as : (name : Option (List ℕ)) (decls decls' : List MapDecl) (old : ShelfState) (first : MapState) → decls ≡ decls' → AreRead name decls old first → AreRead name decls' old first
read_as name decls decls' old first same read = subst (λ (ds : List MapDecl). AreRead name ds old first) same read

pub compile_makes : (object verilog : List ℕ) (chosen : Chosen) (old : ShelfState) (bytes : List ℕ) (pipeline : Built) (ws : List Write) → IsRead (program_form chosen built) object old bytes → IsBuiltOf chosen bytes pipeline
    → ws ≡ (compile_outputs verilog pipeline.text.items).writes → IsTrue old.tells → Makes (AskCompile object verilog chosen) old.held None ws
compile_makes object verilog chosen old bytes pipeline ws read is e told = record {
  outputs = compile_outputs verilog pipeline.text.items;
  outcome = (
    refl,
    record {
      program = is.program;
      held_program = record { bytes = bytes; there = read.there told; within = read.within; is = is.taken };
      text = pipeline.text.items;
      size = size_of pipeline;
      has_size = is.realized.has_size;
      realizes = is.realized.realizes;
      outputs_are = refl;
    },
  );
  writes_are = e;
  built = compile_built verilog pipeline.text.items;
  of = (inl refl, (inl refl, tt));
}

-- the capture that was read through in a later state, in which nothing has changed
pub capture_held : (name : List ℕ) (a b : ShelfState) (opened : Opened) (packets : List Packet) → Changes [] a b → HoldsCapture opened (b.held name) packets → Holds CAPTURE_LIMIT (a.held name) (λ bytes. IsCaptured bytes opened.magic packets)
capture_held name a b opened packets same holds = record { bytes = holds.content; there = sym (same.others name tt) ∙ holds.there; within = holds.within; is = holds.is }

pub run_makes : (names : Names) (verilog : List ℕ) (chosen : Chosen) (ifindex : ℕ) (a b c : ShelfState) (object : List ℕ) (pipeline : Built) (first : MapState) (opened : Opened) (packets : List Packet) (answers : List Answer) (final : MapState) → AreDistinct names → IsTextApart names verilog → Changes [] a b → Changes [] a c
    → IsRead (program_form chosen built) names.object a object → (is : IsBuiltOf chosen object pipeline) → AreRead names.maps is.program.decls b first → HoldsCapture opened (c.held names.capture) packets
    → IsSequential is.program first (came_by ifindex (timed_packets opened.magic packets)) answers final → IsTrue a.tells → Makes (AskRun names verilog chosen ifindex) a.held None (run_outputs names verilog pipeline.text.items opened.magic packets answers (text_of final)).writes
run_makes names verilog chosen ifindex a b c object pipeline first opened packets answers final apart own same same' read is starts captured runs told = record {
  outputs = run_outputs names verilog pipeline.text.items opened.magic packets answers (text_of final);
  outcome = (
    refl,
    record {
      program = is.program;
      held_program = record { bytes = object; there = read.there told; within = read.within; is = is.taken };
      text = pipeline.text.items;
      size = size_of pipeline;
      has_size = is.realized.has_size;
      realizes = is.realized.realizes;
      first = first;
      starts = starts_from names.maps is.program.decls a b first same starts told;
      magic = opened.magic;
      packets = packets;
      held_capture = capture_held names.capture a c opened packets same' captured;
      answers = answers;
      final = final;
      runs = runs;
      outputs_are = refl;
    },
  );
  writes_are = refl;
  built = run_built names verilog pipeline.text.items opened.magic packets answers (text_of final) apart own;
  of = run_of names verilog pipeline.text.items opened.magic packets answers (text_of final);
}

pub sim_makes : (names : Names) (verilog : List ℕ) (chosen : Chosen) (ifindex clocks : ℕ) (events : Option ℕ) (a b c d : ShelfState) (object text : List ℕ) (program : XdpProgram) (design : Netlist) (first : MapState) (opened : Opened) (packets : List Packet) (given : Simulation) → AreDistinct names → Changes [] a b → Changes [] a c → Changes [] a d
    → IsRead (object_form chosen) names.object a object → IsObject chosen object program → IsRead text_form verilog b text → IsTextOf text design → AreRead names.maps program.decls c first → HoldsCapture opened (d.held names.capture) packets
    → given ≡ simulation design first ifindex (timed_packets opened.magic packets) clocks → IsTrue a.tells → Makes (AskSim names verilog chosen ifindex clocks events) a.held (given_up given.end) (sim_outputs names opened.magic packets given).writes
sim_makes names verilog chosen ifindex clocks events a b c d object text program design first opened packets given apart same same' same'' read is read' spells starts captured is_given told = record {
  outputs = sim_outputs names opened.magic packets given;
  outcome = record {
    program = program;
    held_object = record { bytes = object; there = read.there told; within = read.within; is = is };
    design = design;
    held_text = was_held VERILOG_LIMIT verilog a b text (λ bytes. IsTextOf bytes design) same read'.there read'.within spells told;
    first = first;
    starts = starts_from names.maps program.decls a c first same' starts told;
    magic = opened.magic;
    packets = packets;
    held_capture = capture_held names.capture a d opened packets same'' captured;
    given = given;
    is_given = is_given;
    end_is = refl;
    outputs_are = refl;
  };
  writes_are = refl;
  built = result_built names opened.magic packets given.answers (final_text given.end) apart;
  of = result_names names opened.magic packets given.answers (final_text given.end);
}

pub ref_makes : (names : Names) (chosen : Chosen) (ifindex : ℕ) (a b c : ShelfState) (object : List ℕ) (program : XdpProgram) (first : MapState) (opened : Opened) (packets : List Packet) (answers : List Answer) (final : MapState) → AreDistinct names → Changes [] a b → Changes [] a c
    → IsRead (program_form chosen accepted) names.object a object → IsTaken chosen accepted object program → AreRead names.maps program.decls b first → HoldsCapture opened (c.held names.capture) packets
    → IsSequential program first (came_by ifindex (timed_packets opened.magic packets)) answers final → IsTrue a.tells → Makes (AskRef names chosen ifindex) a.held None (result_outputs names opened.magic packets answers (Some (text_of final))).writes
ref_makes names chosen ifindex a b c object program first opened packets answers final apart same same' read is starts captured runs told = record {
  outputs = result_outputs names opened.magic packets answers (Some (text_of final));
  outcome = (
    refl,
    record {
      program = program;
      held_program = record { bytes = object; there = read.there told; within = read.within; is = is };
      first = first;
      starts = starts_from names.maps program.decls a b first same starts told;
      magic = opened.magic;
      packets = packets;
      held_capture = capture_held names.capture a c opened packets same' captured;
      answers = answers;
      final = final;
      runs = runs;
      outputs_are = refl;
    },
  );
  writes_are = refl;
  built = result_built names opened.magic packets answers (Some (text_of final)) apart;
  of = result_names names opened.magic packets answers (Some (text_of final));
}

-- ---- as many answers as frames
packets_count : (arrivals : List Arrival) → length (packets_in arrivals) ≡ length arrivals
packets_count [] = refl
packets_count (a ∷ rest) = ap suc (packets_count rest)

pub answers_count : (program : XdpProgram) (maps last : MapState) (ifindex : ℕ) (packets : List Timed) (answers : List Answer) → IsSequential program maps (came_by ifindex packets) answers last → length answers ≡ length packets
answers_count program maps last ifindex packets answers is =
    ap length is.answers_are ∙ length-map is.leaves answer_of ∙ runs_length (code_of program) maps (packets_in (came_by ifindex packets)) is.leaves last is.runs
    ∙ packets_count (came_by ifindex packets) ∙ length-map packets (arrival_of ifindex)

-- the lines of a program that was accepted
pub reported_of : (object : List ℕ) (chosen : Chosen) (old : ShelfState) (bytes : List ℕ) (a : Accepted) (lines : List (List ℕ)) → IsRead (program_form chosen accepted) object old bytes → IsAcceptedBy chosen bytes a
    → lines ≡ report_lines a.program a.counts.nodes a.counts.stages → IsTrue old.tells → IsReported object chosen old.held lines
reported_of object chosen old bytes a lines read is are told = record {
  program = a.program;
  held_object = record { bytes = bytes; there = read.there told; within = read.within; is = is.taken.object };
  accepted = accepted_of Varying a.program is.counts.graph a.counts.stages is.counts.unfolded is.counts.varying is.counts.has_stages;
  lines_are = are ∙ ap (λ n. report_lines a.program n a.counts.stages) is.counts.nodes;
}

pub report_makes : (object : List ℕ) (chosen : Chosen) (held : Holding) (lines : List (List ℕ)) → IsReported object chosen held lines → Makes (AskReport object chosen) held None []
report_makes object chosen held lines is = record { outputs = no_outputs; outcome = (refl, refl, lines, is); writes_are = refl; built = tt; of = tt }

pub demo_makes : (seed packets : ℕ) (held : Holding) (lines : List (List ℕ)) → IsDemo seed packets lines → Makes (AskDemo seed packets) held None []
demo_makes seed packets held lines is = record { outputs = no_outputs; outcome = (refl, refl, lines, is); writes_are = refl; built = tt; of = tt }
