-- What the parts of frames see in a clock, where they store what a state of the machine says.
use Rattle.std.specs.Prelude.{◌≡◌, ℕ, ◌+◌, ◌^◌, ◌<◌, Bool, not, Some, is_some, List, length}
use Rattle.std.proofs.Common.{get_or, sym, ap, ◌∙◌, subst, arith}
use Rattle.block_core.specs.net_core.declared.ports.Inputs.{Inputs}
use Rattle.block_core.specs.net_core.declared.ports.TheConstants.{IN_VALID, IN_LAST, OUT_READY}
use Rattle.block_core.specs.net_core.Ports.{words_of}
use Rattle.block_core.specs.net_core.Value.{bit, nothing, Env}
use Rattle.block_core.specs.net_core.Clock.{Stored, done}
use Rattle.block_core.specs.declared.name.Name.{Name}
use Rattle.block_core.specs.declared.name.Name.TheVariants as name
use Rattle.block_core.specs.Blocks.{Whole, Among, registers_of}
use Rattle.block_core.specs.Parts.{Sees}
use Rattle.pipe_core.specs.Machine.{Packet, State, place_at, must_reload}
use Rattle.control_net.specs.RingNet.Ring.{slot}
use Rattle.control_net.proofs.RingNet.RingLaws.{slot_small}
use Rattle.control_net.specs.Control as control
use Rattle.control_net.specs.Control.{Signals, step}
use Rattle.control_net.specs.Block.{stored_words, code, Shows, Sees as SeesControl}
use Rattle.commit_net.specs.frame_net.ScatterNet.Scatter.{last_name}
use Rattle.pipe_net.specs.declared.parts.Part.{Part}
use Rattle.pipe_net.specs.Parts as part
use Rattle.pipe_net.specs.Parts.{parts_of}
use Rattle.pipe_net.specs.Machine.{input_of}
use Rattle.pipe_net.specs.Layout.{Layout, IsSized}
use Rattle.pipe_net.specs.Relation.{IsStored, counts, HoldFrames}
use Rattle.pipe_net.specs.Saying.{moves_in}
use Rattle.pipe_net.specs.PipeFrames.Parts.{AreFrameParts, has_begun, read_by_control}
use Rattle.pipe_net.specs.PipeFrames.Following.{HasBytes, OthersSay}
use Rattle.pipe_net.proofs.PipeFrames.Reload.{reload, reload_net, reload_is}
use Rattle.pipe_net.proofs.PipeFrames.Parts.{has_returns, has_control, has_gather}
use Rattle.pipe_net.proofs.PipeFrames.Returning.{holds_net}

-- the hypotheses of a clock
pub record IsSeen (l : Layout) (d : Whole Part) (i : Inputs) (s : State) (ss : Part → Stored) (v : Env (Name Part)) : Type 0 where
  pub sized : IsSized l
  pub has_bytes : HasBytes l
  pub parts : AreFrameParts l d
  pub listed : d.parts ≡ parts_of l.sizes
  pub stored : (p : Part) → Among p d.parts → IsStored (d.block p) (ss p)
  pub given : ℕ
  pub packet_numbers : List ℕ
  pub held : HoldFrames l given packet_numbers s ss
  pub sees : Sees d (words_of i) ss v
  pub says : OthersSay l i s v

module _ (l : Layout) (d : Whole Part) (i : Inputs) (s : State) (ss : Part → Stored) (v : Env (Name Part)) (h : IsSeen l d i s ss v) where
  abbrev pub now : control.State
  now = counts h.given h.packet_numbers s

  abbrev pub told : ℕ → Bool
  told = reload l s v h.says.reload

  -- what control sees, where a shown beat is the last one or not
  abbrev pub signals_with : Bool → Signals
  signals_with last = record { partial = is_some s.part; in_valid = i.in_valid; in_last = i.in_last; out_ready = i.out_ready; last = last; stalls = not (moves_in l.build (input_of i) s); reload = told }

  control_register : (k : ℕ) → k < registers_of (d.block (part.control l.sizes)) → v.net (name.Register (part.control l.sizes) k) ≡ get_or (stored_words l.shape now) k nothing
  control_register k lt =
      let there = has_control l.sizes d h.listed in
      let size = (h.stored (part.control l.sizes) there).registers in
      h.sees.register (part.control l.sizes) k there (omega (arith, size, lt)) ∙ ap (λ (x : Stored). get_or x.registers k nothing) h.held.control

  begun_is : v.net (has_begun l.sizes) ≡ bit (is_some s.part)
  begun_is =
      let size = h.held.gather.registers in
      h.sees.register (part.gather l.sizes) 0 (has_gather l.sizes d h.listed) (subst (λ rs. 0 < length rs) (sym size) (omega arith)) ∙ ap (λ rs. get_or rs 0 nothing) size

  module _ (last : Bool) (is_last : v.net (last_name part.scatter) ≡ bit last) where
    sees_control : SeesControl l.shape (part.control l.sizes) (part.returns l.sizes) (read_by_control l) (d.block (part.control l.sizes)) (signals_with last) now v
    sees_control =
        let n = h.sized.commits in
        let w = l.shape.within in
        record {
          register = control_register;
          partial = begun_is;
          in_valid = h.sees.port IN_VALID;
          in_last = h.sees.port IN_LAST;
          out_ready = h.sees.port OUT_READY;
          last = is_last;
          stalls = h.says.stays;
          back = λ k q.
              h.parts.returns.shows v now.holds told (h.sees.wires (part.returns l.sizes) (has_returns l.sizes d h.listed))
              (λ j m. holds_net l d h.sized h.parts h.listed i s ss v h.given h.packet_numbers h.held h.sees h.says.reload j (omega (arith, w, m)))
              (λ j m. reload_net l s v h.says.reload j (omega (arith, n, m)))
              k q;
          wires = h.sees.wires (part.control l.sizes) (has_control l.sizes d h.listed);
        }

    pub control_shows : Shows l.shape (part.control l.sizes) (signals_with last) now v
    control_shows = h.parts.control.shows (signals_with last) now v h.held.sound sees_control

    pub control_clock : done v (d.block (part.control l.sizes)).statement (ss (part.control l.sizes)) ≡ code l.shape (step l.shape (signals_with last) now)
    control_clock = ap (done v (d.block (part.control l.sizes)).statement) h.held.control ∙ h.parts.control.clock (signals_with last) now v h.held.sound sees_control

  pub tells : (k : ℕ) (x : Packet) → place_at s.places k ≡ Some x → told (0 + k) ≡ must_reload l.build (0 + k) x
  tells k x e = let z : k ≡ 0 + k = omega arith in subst (λ n. told n ≡ must_reload l.build n x) z (reload_is l s v h.says.reload k x e)

  -- numbers of slots fit their bits
  pub slot_fits : (k : ℕ) → slot l.shape.slots k < 2 ^ l.shape.slot_bits
  slot_fits k = let lt = slot_small l.shape.slots k l.shape.some in let f = l.shape.fits in omega (arith, lt, f)
