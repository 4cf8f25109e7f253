-- What parts read of one another has numbers of its widths.
use Rattle.std.specs.Prelude.{◌≡◌, ℕ, ◌<◌, ◌^◌, List, ◌++◌}
use Rattle.std.proofs.Common.{sym, ◌∙◌, subst, inl, inr}
use Rattle.std.proofs.lemmas.List.Elements.{Contains-append_right}
use Rattle.block_core.specs.net_core.Ports.{port_list}
use Rattle.block_core.specs.net_core.Value.{Env}
use Rattle.block_core.specs.declared.name.Name.{Name}
use Rattle.block_core.specs.Blocks.{Whole}
use Rattle.block_core.specs.Formed.{name_width, names_scope, IsThere}
use Rattle.turn_net.specs.cell_nets.declared.operand.Operand.{Operand}
use Rattle.turn_net.specs.cell_nets.declared.operand.Operand.TheVariants.{Known, Net, Part as Bits}
use Rattle.turn_net.specs.cell_nets.Operands.{HasWidth, AreFit}
use Rattle.pipe_net.specs.declared.parts.Part.{Part}
use Rattle.pipe_net.specs.PipeForms.Declared.{Declares}
use Rattle.pipe_net.proofs.PipeClocks.Fitting.{AreOfWidths}
use Rattle.pipe_net.proofs.PipeClocks.Some.{AreSome, some_bits}

module _ (d : Whole Part) (v : Env (Name Part)) (fit : AreOfWidths (names_scope d port_list) (IsThere d) v) where
  net_fits : (n : Name Part) (w : ℕ) → IsThere d n → name_width d port_list n ≡ w → 0 < w → HasWidth v n w
  net_fits n w there e some =
      let f = fit.net n there (subst (λ k. 0 < k) (sym e) some) in
      record { width = f.width ∙ e; small = subst (λ k. (v.net n).value < 2 ^ k) (f.width ∙ e) f.fits.small }

  pub are_fit : (ops : List (Operand (Name Part))) → Declares d ops → AreSome ops → AreFit v ops
  are_fit ops h some (Known n) c = tt
  are_fit ops h some (Net n w) c = net_fits n w (h.there n (w, inl c)) (h.widths (Net n w) c) (some_bits ops some n w (inl c))
  are_fit ops h some (Bits n of from w) c = net_fits n of (h.there n (of, inr (from, w, c))) (h.widths (Bits n of from w) c) (some_bits ops some n of (inr (from, w, c)))

-- of operands in two lists those of the second
pub fit_behind : (v : Env (Name Part)) (xs ys : List (Operand (Name Part))) → AreFit v (xs ++ ys) → AreFit v ys
fit_behind v xs ys h a c = h a (Contains-append_right xs ys a c)
