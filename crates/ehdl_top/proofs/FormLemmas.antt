-- Each form is sound: bytes are in it or have a fault, and not both.
use Rattle.std.proofs.Common.{◌≡◌, ◌≢◌, ◌⊎◌, ℕ, List, Option, Some, None, Result, Ok, Err, refl, sym, ap, subst, ◌∙◌, inl, inr}
use Rattle.net_core.specs.Nets.{Netlist}
use Rattle.ehdl_build.specs.verilog_write.VerilogGrammar.Spelling.{Spells}
use Rattle.pcap_core.specs.declared.error.PcapError.{PcapError}
use Rattle.pcap_core.specs.Format.{Packet, Content, IsContent}
use Rattle.pcap_core.specs.Reading.{content_of}
use Rattle.pcap_core.proofs.ContentLaws.{is-content_of, fault-content_of}
use Rattle.xdp_object.specs.declared.error.ObjectError.{ObjectError}
use Rattle.xdp_object.specs.declared.error.ObjectError.TheVariants as object
use Rattle.xdp_object.specs.xdp_machine.Program.{XdpProgram}
use Rattle.xdp_object.specs.Choice.{Chosen}
use Rattle.xdp_object.specs.Object.{FirstFault, IsObject}
use Rattle.xdp_object.proofs.OutcomeLaws.{one_outcome}
use Rattle.xdp_maps.specs.declared.decl.MapDecl.{MapDecl}
use Rattle.xdp_maps.specs.State.{MapState}
use Rattle.maps_text.specs.Text.{IsMapsText}
use Rattle.maps_text.proofs.TextLaws.{never_both}
use Rattle.xdp_state.specs.declared.refusal.Refusal.{Refusal}
use Rattle.kind_core.specs.declared.kind.Offsets.TheVariants.{Varying}
use Rattle.row_rules.proofs.NodeRows.OneOutcomeLaws.{has_one_outcome}
use Rattle.shelf_core.specs.Shelf.{Holding}
use Rattle.command_line.specs.Request.{Request, AskCompile, AskRun, AskSim, AskRef, AskReport, AskPrepare, AskDemo}
use Rattle.ehdl_top.specs.declared.status.Status.{Status}
use Rattle.ehdl_top.specs.declared.status.Status.TheVariants as status
use Rattle.ehdl_top.specs.declared.error.CommandError.{CommandError}
use Rattle.ehdl_top.specs.declared.error.CommandError.TheVariants as error
use Rattle.ehdl_top.specs.Status.{status_of}
use Rattle.capture_run.specs.Captures.{IsCaptured, IsCaptureFault}
use Rattle.ehdl_top.specs.Forms.{ProgramRule, ProgramFaults, ObjectFaults, TextFaults, MapsFaults, CaptureFaults, IsTaken, built, accepted, program_form, object_form, text_form, maps_form, decls_in, held_decls, capture_form}
use Rattle.ehdl_top.specs.Requests.{inputs_of}
use Rattle.ehdl_top.specs.Steps.{IsGivenUp}
use Rattle.ehdl_top.proofs.InputLemmas.{IsSound, AreSound, IsInputStatus, may_sound}

-- these statuses are of inputs
input_status : (s t : Status) → s ≡ t → IsInputStatus t → IsInputStatus s
input_status s t e is = let P : Status → Type 0 = IsInputStatus in subst P (sym e) is

-- ---- objects
object_apart : (choice : Chosen) (bytes : List ℕ) (fault : ObjectError) → (program : XdpProgram) × IsObject choice bytes program → ¬ FirstFault choice bytes fault
object_apart choice bytes fault is u = (one_outcome choice bytes).apart is.0 fault is.1 u

-- an object that is none, or that is refused
abbrev IsProgramFault : Chosen → List ℕ → CommandError → Type 0
IsProgramFault choice bytes e =
    ((fault : ObjectError) × FirstFault choice bytes fault × (status_of e ≡ status.Object)) ⊎ ((status_of e ≡ status.Refused) × (program : XdpProgram) × IsObject choice bytes program)

program_fault : (choice : Chosen) (rule : ProgramRule) (bytes : List ℕ) (e : CommandError) → ProgramFaults choice rule bytes e → IsProgramFault choice bytes e
program_fault choice rule bytes (error.Object fault) u = inl (fault, u, refl)
program_fault choice rule bytes (error.Refused r) u = inr (refl, u.program, u.object)
program_fault choice rule bytes e u = absurd u

program_one : (choice : Chosen) (bytes : List ℕ) (e f : CommandError) → IsProgramFault choice bytes e → IsProgramFault choice bytes f → status_of e ≡ status_of f
program_one choice bytes e f (inl a) (inl b) = a.2 ∙ sym b.2
program_one choice bytes e f (inl a) (inr b) = absurd (object_apart choice bytes a.0 (b.1, b.2) a.1)
program_one choice bytes e f (inr a) (inl b) = absurd (object_apart choice bytes b.0 (a.1, a.2) b.1)
program_one choice bytes e f (inr a) (inr b) = a.0 ∙ sym b.0

-- no program is taken that is refused
abbrev IsRule : ProgramRule → Type 0
IsRule rule = (p : XdpProgram) (r : Refusal) → rule.Takes p → ¬ rule.Refuses p r

program_apart : (choice : Chosen) (rule : ProgramRule) → IsRule rule → (bytes : List ℕ) (e : CommandError) → (program : XdpProgram) × IsTaken choice rule bytes program → ¬ ProgramFaults choice rule bytes e
program_apart choice rule is bytes (error.Object fault) taken u = object_apart choice bytes fault (taken.0, taken.1.object) u
program_apart choice rule is bytes (error.Refused r) taken u =
    is taken.0 r taken.1.takes (subst (λ (p : XdpProgram). rule.Refuses p r) ((one_outcome choice bytes).program u.program taken.0 u.object taken.1.object) u.refuses)
program_apart choice rule is bytes e taken u = u

program_ends : (s : Status) → (s ≡ status.Object) ⊎ (s ≡ status.Refused) → IsInputStatus s
program_ends s (inl e) = input_status s status.Object e tt
program_ends s (inr e) = input_status s status.Refused e tt

program_sound : (choice : Chosen) (rule : ProgramRule) → IsRule rule → IsSound (program_form choice rule)
program_sound choice rule is = record {
  apart = program_apart choice rule is;
  one = λ bytes e f a b. program_one choice bytes e f (program_fault choice rule bytes e a) (program_fault choice rule bytes f b);
  ends = program_ends;
}

built_apart : IsRule built
built_apart p r takes refuses = takes r refuses

accepted_apart : IsRule accepted
accepted_apart p r takes refuses = (has_one_outcome Varying p).never_both r refuses takes

-- objects alone
alone_apart : (choice : Chosen) (bytes : List ℕ) (e : CommandError) → (program : XdpProgram) × IsObject choice bytes program → ¬ ObjectFaults choice bytes e
alone_apart choice bytes (error.Object fault) is u = object_apart choice bytes fault is u
alone_apart choice bytes e is u = u

alone_status : (choice : Chosen) (bytes : List ℕ) (e : CommandError) → ObjectFaults choice bytes e → status_of e ≡ status.Object
alone_status choice bytes (error.Object fault) u = refl
alone_status choice bytes e u = absurd u

object_sound : (choice : Chosen) → IsSound (object_form choice)
object_sound choice = record {
  apart = alone_apart choice;
  one = λ bytes e f a b. alone_status choice bytes e a ∙ sym (alone_status choice bytes f b);
  ends = λ s e. input_status s status.Object e tt;
}

-- the declarations of the object that a name holds are those of its program
pub decls_held : (choice : Chosen) (held : Option (List ℕ)) (bytes : List ℕ) (program : XdpProgram) → held ≡ Some bytes → IsObject choice bytes program → held_decls choice held ≡ program.decls
decls_held choice held bytes program there is = ap (held_decls choice) there ∙ ap decls_in is.has_maps ∙ sym is.decls_are

-- ---- Verilog texts
text_apart : (bytes : List ℕ) (e : CommandError) → (design : Netlist) × Spells bytes design → ¬ TextFaults bytes e
text_apart bytes (error.Verilog fault) is u = u.none is.0 is.1
text_apart bytes e is u = u

text_status : (bytes : List ℕ) (e : CommandError) → TextFaults bytes e → status_of e ≡ status.Input
text_status bytes (error.Verilog fault) u = refl
text_status bytes e u = absurd u

text_sound : IsSound text_form
text_sound = record {
  apart = text_apart;
  one = λ bytes e f a b. text_status bytes e a ∙ sym (text_status bytes f b);
  ends = λ s e. input_status s status.Input e tt;
}

-- ---- texts of maps
maps_apart : (decls : List MapDecl) (bytes : List ℕ) (e : CommandError) → (maps : MapState) × IsMapsText decls bytes maps → ¬ MapsFaults decls bytes e
maps_apart decls bytes (error.Maps fault) is u = never_both decls bytes is.0 fault is.1 u
maps_apart decls bytes e is u = u

maps_status : (decls : List MapDecl) (bytes : List ℕ) (e : CommandError) → MapsFaults decls bytes e → status_of e ≡ status.Input
maps_status decls bytes (error.Maps fault) u = refl
maps_status decls bytes e u = absurd u

maps_sound : (decls : List MapDecl) → IsSound (maps_form decls)
maps_sound decls = record {
  apart = maps_apart decls;
  one = λ bytes e f a b. maps_status decls bytes e a ∙ sym (maps_status decls bytes f b);
  ends = λ s e. input_status s status.Input e tt;
}

-- ---- captures
pub one_result : (r : Result Content PcapError) (c d : Content) → r ≡ Ok c → r ≡ Ok d → c ≡ d
one_result r c d e f = cc

pub no_result : (r : Result Content PcapError) (c : Content) (fault : PcapError) → r ≡ Ok c → ¬ (r ≡ Err fault)
no_result r c fault e f = cc

pub no_fault : (fault : PcapError) (f : Option PcapError) → f ≡ None → ¬ (f ≡ Some fault)
no_fault fault f e g = cc

-- one capture has one content
pub one_captured : (bytes : List ℕ) (c d : Content) → IsContent bytes c → IsContent bytes d → c ≡ d
one_captured bytes c d a b = one_result (content_of bytes) c d (is-content_of bytes c a) (is-content_of bytes d b)

captured_apart : (bytes : List ℕ) (c : Content) (fault : PcapError) → IsContent bytes c → c.fault ≡ None → ¬ IsCaptureFault bytes fault
captured_apart bytes c fault is whole none = elim none.first [
  | inl h ↦ no_result (content_of bytes) c fault (is-content_of bytes c is) (fault-content_of bytes fault none.are_bytes h)
  | inr d ↦ no_fault fault c.fault whole (ap (λ (x : Content). x.fault) (one_captured bytes c d.0 is d.1) ∙ d.2)
]

capture_apart : (bytes : List ℕ) (e : CommandError) → (magic : ℕ) × (packets : List Packet) × IsCaptured bytes magic packets → ¬ CaptureFaults bytes e
capture_apart bytes (error.Capture fault) is u = captured_apart bytes _ fault is.2 refl u
capture_apart bytes e is u = u

capture_status : (bytes : List ℕ) (e : CommandError) → CaptureFaults bytes e → status_of e ≡ status.Input
capture_status bytes (error.Capture fault) u = refl
capture_status bytes e u = absurd u

capture_sound : IsSound capture_form
capture_sound = record {
  apart = capture_apart;
  one = λ bytes e f a b. capture_status bytes e a ∙ sym (capture_status bytes f b);
  ends = λ s e. input_status s status.Input e tt;
}

-- ---- the inputs of each command
pub inputs_sound : (request : Request) (held : Holding) → AreSound (inputs_of request held)
inputs_sound (AskCompile object verilog chosen) held = (program_sound chosen built built_apart, tt)
inputs_sound (AskRun names verilog chosen ifindex) held =
    (program_sound chosen built built_apart, may_sound names.maps _ _ (maps_sound (held_decls chosen (held names.object))) (capture_sound, tt))
inputs_sound (AskSim names verilog chosen ifindex clocks events) held =
    (object_sound chosen, (text_sound, may_sound names.maps _ _ (maps_sound (held_decls chosen (held names.object))) (capture_sound, tt)))
inputs_sound (AskRef names chosen ifindex) held =
    (program_sound chosen accepted accepted_apart, may_sound names.maps _ _ (maps_sound (held_decls chosen (held names.object))) (capture_sound, tt))
inputs_sound (AskReport object chosen) held = (program_sound chosen accepted accepted_apart, tt)
inputs_sound (AskPrepare object output chosen) held = (object_sound chosen, tt)
inputs_sound (AskDemo seed packets) held = tt

-- ---- what bytes are given up for
module _ (choice : Chosen) (bytes : List ℕ) (fault : ObjectError) (e : CommandError) (first : fault ≢ object.NoMemory → FirstFault choice bytes fault) where
  abbrev IsErrorOf : Type 0
  IsErrorOf = ((fault ≡ object.NoMemory) × (e ≡ error.NoMemory)) ⊎ ((fault ≢ object.NoMemory) × (e ≡ error.Object fault))

  pub program_given_up : (rule : ProgramRule) → IsErrorOf → IsGivenUp (program_form choice rule) bytes e
  program_given_up rule (inl is) = inl is.1
  program_given_up rule (inr is) = let P : CommandError → Type 0 = IsGivenUp (program_form choice rule) bytes in subst P (sym is.1) (inr (inl refl, first is.0))

  pub object_given_up : IsErrorOf → IsGivenUp (object_form choice) bytes e
  object_given_up (inl is) = inl is.1
  object_given_up (inr is) = let P : CommandError → Type 0 = IsGivenUp (object_form choice) bytes in subst P (sym is.1) (inr (refl, first is.0))
