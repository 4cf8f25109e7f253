-- What is prepared of an object that was read: what it makes, the lines that are put, and the refusal for which it is declined.
use Rattle.std.proofs.Common.{◌≡◌, ℕ, IsTrue, List, [], ◌∷◌, Some, None, refl, sym, ap, ◌∙◌, inl}
use Rattle.xdp_object.specs.Choice.{Chosen}
use Rattle.xdp_state.specs.declared.refusal.Refusal.{Refusal}
use Rattle.command_line.specs.Request.{AskPrepare}
use Rattle.prepare_core.specs.declared.preparing.Counts.{Counts}
use Rattle.prepare_core.specs.declared.preparing.Prepared.{Prepared}
use Rattle.capture_run.specs.States.{ShelfState, Changes}
use Rattle.capture_run.specs.Writes.{Write, AreDone, file, file_writes, HoldWhole}
use Rattle.capture_run.proofs.StateLaws.{tells_later}
use Rattle.capture_run.proofs.WriteLaws.{done_whole}
use Rattle.ehdl_top.specs.declared.limits.TheConstants.{OBJECT_LIMIT}
use Rattle.ehdl_top.specs.declared.error.CommandError.TheVariants as error
use Rattle.ehdl_top.specs.Forms.{Holds, IsRefusedBy, built, object_form}
use Rattle.ehdl_top.specs.Results.{compile_outputs}
use Rattle.ehdl_top.specs.Preparing.{ArePrepareLines, MayDecline, prepare_lines}
use Rattle.ehdl_top.specs.Steps.{IsRead, IsGivenOf}
use Rattle.ehdl_top.proofs.OutcomeLemmas.{Makes}
use Rattle.ehdl_top.proofs.ResultLemmas.{compile_built}

module _ (object output : List ℕ) (chosen : Chosen) (old : ShelfState) (bytes : List ℕ) (read : IsRead (object_form chosen) object old bytes) where
  pub prepare_makes : (p : Prepared) (ws : List Write) → IsGivenOf chosen bytes p → ws ≡ file_writes output p.object.items → IsTrue old.tells → Makes (AskPrepare object output chosen) old.held None ws
  prepare_makes p ws is e told = record {
    outputs = compile_outputs output p.object.items;
    outcome = (
      refl,
      record {
        program = is.program;
        held_object = record { bytes = bytes; there = read.there told; within = read.within; is = is.object };
        prepared = is.given.prepares.program;
        bytes = p.object.items;
        is = is.given.prepares.is;
        itself = λ accepted. read.there told ∙ ap Some (sym (is.given.itself accepted));
        outputs_are = refl;
      },
    );
    writes_are = e;
    built = compile_built output p.object.items;
    of = (inl refl, (inl refl, tt));
  }

  -- the lines, once the file is written
  pub prepare_lines_of : (mid new : ShelfState) (p : Prepared) (lines : List (List ℕ)) → IsGivenOf chosen bytes p → lines ≡ prepare_lines p.counts.before p.counts.slots p.counts.stages → Changes [] old mid
      → AreDone (file_writes output p.object.items) mid new → IsTrue old.tells → ArePrepareLines object output chosen old.held new.held lines
  prepare_lines_of mid new p lines is are same done told =
      let whole : HoldWhole (file output p.object.items ∷ []) new.held = done_whole (file output p.object.items ∷ []) (file_writes output p.object.items) mid new (compile_built output p.object.items) done (tells_later old mid same.later told) in
      record {
        program = is.program;
        held_object = record { bytes = bytes; there = read.there told; within = read.within; is = is.object };
        prepared = is.given.prepares.program;
        bytes = p.object.items;
        is = is.given.prepares.is;
        held_output = whole.0;
        lines_are = are ∙ ap (λ (c : Counts). prepare_lines c.before c.slots c.stages) is.given.prepares.counts;
      }

  -- the refusal of its program
  pub declines_for : (r : Refusal) → IsRefusedBy chosen built bytes r → IsTrue old.tells → MayDecline object chosen old.held (error.Refused r)
  declines_for r refused told = record { bytes = bytes; there = read.there told; within = read.within; is = refused }
