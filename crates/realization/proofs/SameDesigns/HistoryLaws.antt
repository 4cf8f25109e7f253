-- Two designs that show the same go through the same clocks.
use Rattle.std.specs.Prelude.{◌≡◌, List, [], ◌∷◌, ◌++◌}
use Rattle.std.proofs.Common.{refl, sym, ap, ap₂, ◌∙◌}
use Rattle.net_core.specs.declared.ports.Inputs.{Inputs}
use Rattle.net_core.specs.Nets.{Netlist}
use Rattle.net_core.specs.Clock.{Stored, first_stored, after}
use Rattle.net_core.specs.Ports.{words_of, outputs_at}
use Rattle.net_core.specs.Trace.{Cycle, cycle_of, trace, stored_after}
use Rattle.net_core.specs.SameClocks.Same.{reached, ShowTheSame}
use Rattle.net_core.proofs.SameClocks.SameLaws.{reached_next}
use Rattle.realization.specs.SameDesigns.Laws.{SameDesignsGoOn}

pub same_cycle : (a b : Netlist) → ShowTheSame a b → (before : List Inputs) (i : Inputs) → cycle_of b (reached b before) i ≡ cycle_of a (reached a before) i
same_cycle a b same before i = λ k. record { given = i; shown = outputs_at (λ port. (same.shows before i port k).value) }

pub same_designs_go_on : SameDesignsGoOn
same_designs_go_on a b same before [] = refl
same_designs_go_on a b same before (i ∷ is) =
    ap₂ (λ (m : Cycle) (ms : List Cycle). m ∷ ms) (same_cycle a b same before i)
    (ap (λ (s : Stored). trace b s is) (sym (reached_next b (first_stored b) before i))
    ∙ same_designs_go_on a b same (before ++ i ∷ []) is
    ∙ ap (λ (s : Stored). trace a s is) (reached_next a (first_stored a) before i))

-- what is stored after more clocks
pub behind : (d : Netlist) (before is : List Inputs) → stored_after d (reached d before) is ≡ reached d (before ++ is)
behind d before is = from (first_stored d) before
  where
    from : (s : Stored) (xs : List Inputs) → stored_after d (stored_after d s xs) is ≡ stored_after d s (xs ++ is)
    from s [] = refl
    from s (x ∷ xs) = from (after d (words_of x) s) xs
