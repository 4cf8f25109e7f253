-- Which places send back.
use Rattle.std.specs.Prelude.{◌≡◌, ℕ, ◌+◌, ◌<◌, ◌≤◌, false, None, is_some, List, length, drop, map}
use Rattle.std.proofs.Common.{get_or, sym, ap, ◌∙◌, subst, arith}
use Rattle.std.proofs.Math.ListN.{get_or-map}
use Rattle.std.proofs.lemmas.List.{drop-map, get_or-drop}
use Rattle.block_core.specs.net_core.Value.{bit, nothing, Env}
use Rattle.block_core.specs.net_core.Clock.{Stored}
use Rattle.block_core.specs.net_core.declared.ports.Inputs.{Inputs}
use Rattle.block_core.specs.net_core.Ports.{words_of}
use Rattle.block_core.specs.declared.name.Name.{Name}
use Rattle.block_core.specs.Blocks.{Whole}
use Rattle.block_core.specs.Parts.{Sees}
use Rattle.pipe_core.specs.Machine.{State, some_send}
use Rattle.control_net.specs.declared.ring_net.names.Register.TheVariants.{Holds}
use Rattle.control_net.specs.RingNet.Names.{register_name}
use Rattle.control_net.specs.Control.{some_returns}
use Rattle.control_net.specs.Names.{back_name}
use Rattle.pipe_net.specs.declared.parts.Part.{Part}
use Rattle.pipe_net.specs.Parts as part
use Rattle.pipe_net.specs.Parts.{parts_of}
use Rattle.pipe_net.specs.Layout.{Layout, IsSized, commit_of}
use Rattle.pipe_net.specs.Relation.{counts, HoldFrames}
use Rattle.pipe_net.specs.Saying.{ShowReloads, ShowReturns}
use Rattle.pipe_net.specs.PipeFrames.Parts.{AreFrameParts}
use Rattle.pipe_net.specs.PipeFrames.Returning.{PlacesReturn}
use Rattle.pipe_net.proofs.PipeFrames.Reload.{reload, reload_net, reload_is}
use Rattle.pipe_net.proofs.PipeFrames.Sending.{sends_is}
use Rattle.pipe_net.proofs.PipeFrames.Parts.{has_returns, has_control, holds_stored, holds_at}

module _ (l : Layout) (d : Whole Part) (sized : IsSized l) (parts : AreFrameParts l d) (listed : d.parts ≡ parts_of l.sizes) (i : Inputs) (s : State) (ss : Part → Stored) (v : Env (Name Part)) (given : ℕ) (ns : List ℕ)
    (held : HoldFrames l given ns s ss) (sees : Sees d (words_of i) ss v) (reloads : ShowReloads l s v) where
  pub holds_net : (k : ℕ) → k ≤ l.shape.stages → v.net (register_name (part.control l.sizes) (Holds k)) ≡ bit (get_or (map is_some s.places) k false)
  holds_net k q =
      let c = counts given ns s in
      let there = subst (λ (t : Stored). 9 + k < length t.registers) (sym held.control) (holds_stored l.shape c held.sound.places k q) in
      sees.register (part.control l.sizes) (9 + k) (has_control l.sizes d listed) there
      ∙ ap (λ (t : Stored). get_or t.registers (9 + k) nothing) held.control
      ∙ holds_at l.shape c held.sound.places k q

  back_net : (k : ℕ) → k ≤ commit_of l → v.net (back_name l.shape (part.returns l.sizes) k) ≡ bit (some_send l.build k (drop k s.places))
  back_net k q =
      let n = sized.commits in
      let w = l.shape.within in
      parts.returns.shows v (map is_some s.places) (reload l s v reloads) (sees.wires (part.returns l.sizes) (has_returns l.sizes d listed)) (λ j h. holds_net j (omega (arith, w, h))) (λ j h. reload_net l s v reloads j (omega (arith, n, h))) k (omega (arith, n, q))
      ∙ ap (λ hs. bit (some_returns l.shape (reload l s v reloads) k hs)) (drop-map is_some k s.places)
      ∙ ap bit (sends_is l.build l.shape sized.commits (reload l s v reloads) (drop k s.places) k (λ j x e. reload_is l s v reloads (k + j) x (sym (get_or-drop k s.places j None) ∙ e)))

  pub returns_shown : ShowReturns l s v
  returns_shown = record {
    back = back_net;
    holds = λ k q. let n = sized.stages in holds_net k (omega (arith, n, q)) ∙ ap bit (get_or-map is_some s.places k None);
  }

pub places_return : PlacesReturn
places_return l d sized parts listed i s ss v given ns held sees reloads = returns_shown l d sized parts listed i s ss v given ns held sees reloads
