-- The outputs show what the machine does.
use Rattle.std.specs.Prelude.{◌≡◌, ℕ, Some}
use Rattle.std.proofs.Common.{ap, ◌∙◌, arith}
use Rattle.beat_core.specs.declared.beat.Beat.{Beat}
use Rattle.block_core.specs.net_core.declared.tree.Word.{Word}
use Rattle.block_core.specs.net_core.declared.ports.Inputs.{Inputs}
use Rattle.block_core.specs.net_core.Value.{bit, Env}
use Rattle.block_core.specs.net_core.Clock.{Stored}
use Rattle.block_core.specs.declared.name.Name.{Name}
use Rattle.block_core.specs.Blocks.{Whole}
use Rattle.block_core.specs.Parts.{shown_by}
use Rattle.pipe_core.specs.Machine.{State, Output, shown_beat, output}
use Rattle.pipe_core.specs.History.{Trace}
use Rattle.pipe_net.specs.declared.parts.Part.{Part}
use Rattle.pipe_net.specs.Machine.{input_of, Shows, ShowsBeat}
use Rattle.pipe_net.specs.Layout.{Layout}
use Rattle.pipe_net.specs.PipeForms.Parts.{outputs_of}
use Rattle.pipe_net.proofs.PipeClocks.Clock as clock
use Rattle.pipe_net.proofs.PipeClocks.Clock.{ClockLaws, IsSeen}
use Rattle.pipe_net.proofs.PipeClocks.Reloading.{reloaded}

module _ (laws : ClockLaws) (l : Layout) (d : Whole Part) (i : Inputs) (t : Trace) (ss : Part → Stored) (v : Env (Name Part)) (h : IsSeen l d i t ss v) where
  abbrev s : State
  s = t.state

  abbrev at : ℕ → Word
  at = shown_by v (outputs_of l)

  shows_beat : (x : Beat) → shown_beat s ≡ Some x → ShowsBeat (output l.build (input_of i) s) x at
  unfolding output
  shows_beat x e =
      let b = (clock.frames laws l d i t ss v h).beat x e in
      record { content = b.content; bytes = b.bytes; last = b.last; verdict = b.verdict; target = b.target }

  pub all_shown : Shows (output l.build (input_of i) s) at
  unfolding output
  all_shown =
      let f = clock.frames laws l d i t ss v h in
      record {
        ready = f.ready;
        valid = f.shown;
        beat = shows_beat;
        reload = (clock.returns laws l d i t ss v h).back 0 (omega arith) ∙ ap bit (reloaded l.build s.places);
        host_value = laws.value l d h.pipe.parts.actions (clock.has_maps laws l d i t ss v h) i s ss v h.related.maps h.sees (clock.host laws l d i t ss v h).ready;
        host_ready = (clock.host laws l d i t ss v h).ready;
        passed = f.passed;
      }

-- what ports show stands for the same of others
pub shown_as : (o : Output) (f g : ℕ → Word) → ((port : ℕ) → f port ≡ g port) → Shows o g → Shows o f
shown_as o f g e h = record {
  ready = e _ ∙ h.ready;
  valid = e _ ∙ h.valid;
  beat = λ x q. let y = h.beat x q in record { content = e _ ∙ y.content; bytes = e _ ∙ y.bytes; last = e _ ∙ y.last; verdict = e _ ∙ y.verdict; target = e _ ∙ y.target };
  reload = e _ ∙ h.reload;
  host_value = e _ ∙ h.host_value;
  host_ready = e _ ∙ h.host_ready;
  passed = e _ ∙ h.passed;
}
