-- Clocks of the host of which none stops.
use Rattle.std.proofs.Common.{◌≡◌, ℕ, ◌∙◌, ◌++◌, List, [], ◌∷◌, None, Some, sym, ap, subst}
use Rattle.net_core.specs.declared.ports.Inputs.{Inputs}
use Rattle.net_core.specs.Nets.{Netlist}
use Rattle.net_core.specs.Clock.{Stored, after, stopping}
use Rattle.net_core.specs.Ports.{words_of}
use Rattle.net_core.specs.Trace.{NeverStops, stored_after}
use Rattle.port_drive.specs.Hosting.{StopsAt}

never_at : (d : Netlist) (s : Stored) (before : List Inputs) (i : Inputs) (behind : List Inputs) → NeverStops d s (before ++ i ∷ behind) → stopping d (words_of i) (stored_after d s before) ≡ None
never_at d s [] i behind never = never.0
never_at d s (x ∷ before) i behind never = never_at d (after d (words_of x) s) before i behind never.1

-- so no stop is among them
pub never_stops : (d : Netlist) (s t : Stored) (clocks : List Inputs) (wire : ℕ) → NeverStops d s clocks → StopsAt d s clocks wire t → ⊥
never_stops d s t clocks wire never p =
    none_some (sym (never_at d s p.before p.at p.behind (subst (NeverStops d s) p.all never)) ∙ ap (λ x. stopping d (words_of p.at) x) (sym p.left) ∙ p.stops)
  where
    none_some : None ≡ Some wire → ⊥
    none_some e = cc
