-- What the parts of frames store before the first clock.
use Rattle.std.specs.Prelude.{◌≡◌, ℕ, zero, suc, ◌+◌, false, Option, None, is_some, List, ◌∷◌, map, replicate}
use Rattle.std.proofs.Common.{refl, sym, ap, ◌∙◌, subst, arith}
use Rattle.hazard_core.specs.xdp_maps.State.{MapState}
use Rattle.block_core.specs.net_core.Clock.{Stored}
use Rattle.block_core.specs.Blocks.{Whole, first_of}
use Rattle.pipe_core.specs.Machine.{Packet, State, inside, new_state}
use Rattle.control_net.specs.Control.{first_state, IsSound, StartsSound}
use Rattle.control_net.specs.Block.{code}
use Rattle.pipe_net.specs.declared.parts.Part.{Part}
use Rattle.pipe_net.specs.Layout.{Layout, IsSized, last_of}
use Rattle.pipe_net.specs.Relation.{counts, HoldFrames}
use Rattle.pipe_net.specs.PipeFrames.Parts.{AreFrameParts}
use Rattle.pipe_net.specs.PipeFrames.Following.{FramesBegin}

none_inside : (n : ℕ) → inside (replicate n None) ≡ 0
none_inside zero = refl
none_inside (suc n) = none_inside n

abbrev no_packet : Option Packet
no_packet = None

none_hold : (n : ℕ) → map is_some (replicate n no_packet) ≡ replicate n false
none_hold zero = refl
none_hold (suc n) = ap (λ xs. false ∷ xs) (none_hold n)

module _ (starts : StartsSound) (l : Layout) (d : Whole Part) (maps : MapState) (sized : IsSized l) (parts : AreFrameParts l d) where
  abbrev numbers : List ℕ
  numbers = replicate (suc l.shape.commit) 0

  abbrev first : State
  first = new_state l.build maps

  first_counts : first_state l.shape ≡ counts 0 numbers first
  first_counts =
      let a : replicate (suc l.shape.stages) false ≡ map is_some (replicate (suc (last_of l)) no_packet) = ap (λ n. replicate (suc n) false) sized.stages ∙ sym (none_hold (suc (last_of l))) in
      let b : 0 ≡ 0 + 0 + inside (replicate (suc (last_of l)) None) = (let n = none_inside (suc (last_of l)) in omega (arith, n)) in
      λ j. record { given = 0; answered = 0; injected = b j; gathered = 0; holds = a j; numbers = numbers; passed = 0 }

  first_held : HoldFrames l 0 numbers first (λ p. first_of (d.block p))
  first_held = record {
    sound = subst (IsSound l.shape false) first_counts (starts l.shape);
    control = parts.control.first ∙ ap (code l.shape) first_counts;
    gather = parts.gather.first _;
    frames = λ j lt. absurd (omega (arith, lt));
    answers = λ j lt. absurd (omega (arith, lt));
    scatter = ap (λ (x : Stored). x.registers) parts.scatter.first;
    position = refl;
  }

pub frames_begin : StartsSound → FramesBegin
frames_begin starts l d maps sized parts = (replicate (suc l.shape.commit) 0, first_held starts l d maps sized parts)
