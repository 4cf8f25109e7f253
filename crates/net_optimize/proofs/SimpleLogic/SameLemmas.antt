-- A design of the same nets whose expressions have the same values shows the same.
use Rattle.std.specs.Prelude.{◌≡◌, ℕ, List, [], ◌∷◌}
use Rattle.std.proofs.Common.{refl, ap, ◌∙◌, arith}
use Rattle.net_core.specs.declared.tree.Word.{Word}
use Rattle.net_core.specs.declared.tree.Net.{Net}
use Rattle.net_core.specs.declared.tree.Net.TheVariants.{Port, Register, Memory, Wire}
use Rattle.net_core.specs.declared.design.Declared.{Declared}
use Rattle.net_core.specs.declared.ports.Inputs.{Inputs}
use Rattle.net_core.specs.Nets.{Netlist}
use Rattle.net_core.specs.Value.{Env}
use Rattle.net_core.specs.Clock.{Stored, first_stored, first_words, first_memories, env, with_wires, edge, assigned, rights, stopped_at, stopping, shown, after}
use Rattle.net_core.specs.Ports.{words_of}
use Rattle.net_core.specs.Trace.{stored_after}
use Rattle.net_core.specs.SameClocks.Same.{reached, ShowTheSame}
use Rattle.design_rules.proofs.SolvedWires.SolvingLaws.{solved, unique, wires_counted}
use Rattle.net_rules.specs.NetSizes.Fitting.{AreFitting}
use Rattle.net_rules.specs.NetSizes.Staying.{HaveSizes, StaySized, PortsHaveSizes}
use Rattle.net_optimize.specs.SimpleLogic.Simple.{registers_alone, IsSameWire, AreSized, IsSimplified}
use Rattle.net_optimize.specs.Reading.{ReadsWhatIsThere}
use Rattle.net_optimize.proofs.ReadingLemmas.{known_rights}
use Rattle.net_optimize.proofs.SimpleLogic.ListLemmas.{each_counted, assigned_same, solves_same, stops_same}

abbrev firsts : List Declared → Stored
firsts ds = record { registers = first_words ds; memories = first_memories ds }

module _ (sizes : List ℕ) (a b : Netlist) (formed : ReadsWhatIsThere a) (formed_too : ReadsWhatIsThere b) (ports : PortsHaveSizes) (stay : StaySized a sizes) (k : IsSimplified sizes a b) where
  module _ (i : Inputs) (s : Stored) (have : HaveSizes sizes s) where
    abbrev ins : List Word
    ins = words_of i

    abbrev ws : List Word
    ws = with_wires ins s [] a.wires

    abbrev v : Env Net
    v = env ins s ws

    fit : AreFitting (registers_alone sizes) v
    fit (Port p) = ports i p
    fit (Register r) = have r
    fit (Memory m) = λ z. absurd (omega arith)
    fit (Wire w) = λ z. absurd (omega arith)

    sized : AreSized a sizes v
    sized = record { fit = fit; solve = solved a ins s 0 [] a.wires refl (known_rights a formed) }

    -- its wires have the same values
    are_same : with_wires ins s [] b.wires ≡ ws
    are_same =
        unique b ins s 0 [] ws b.wires refl (known_rights b formed_too) (solves_same v 0 a.wires b.wires sized.solve (k.wires v sized))
        (wires_counted a ins s a.wires ∙ each_counted (IsSameWire v) a.wires b.wires (k.wires v sized))

    shows : (port : ℕ) → shown b ins s port ≡ shown a ins s port
    shows port = ap (λ xs. assigned (env ins s xs) b.assigns port) are_same ∙ assigned_same v a.assigns b.assigns (k.assigns v sized) port

    stores : after b ins s ≡ after a ins s
    stores = ap (λ xs. edge (env ins s xs) b.always s) are_same ∙ k.always v s sized

    goes : stopping b ins s ≡ stopping a ins s
    goes = ap (λ xs. stopped_at (env ins s xs) 0 (rights b.wires)) are_same ∙ stops_same v 0 a.wires b.wires (k.wires v sized)

  stored_sized : (s : Stored) (is : List Inputs) → HaveSizes sizes s → HaveSizes sizes (stored_after a s is)
  stored_sized s [] have = have
  stored_sized s (i ∷ is) have = stored_sized (after a (words_of i) s) is (stay.stays i s have)

  stored_same : (s : Stored) (is : List Inputs) → HaveSizes sizes s → stored_after b s is ≡ stored_after a s is
  stored_same s [] have = refl
  stored_same s (i ∷ is) have = ap (λ t. stored_after b t is) (stores i s have) ∙ stored_same (after a (words_of i) s) is (stay.stays i s have)

  reached_same : (is : List Inputs) → reached b is ≡ reached a is
  reached_same is = ap (λ ds. stored_after b (firsts ds) is) k.declared ∙ stored_same (first_stored a) is stay.begins

  pub show_the_same : ShowTheSame a b
  show_the_same = record {
    shows = λ is i port. ap (λ s. shown b (words_of i) s port) (reached_same is) ∙ shows i (reached a is) (stored_sized (first_stored a) is stay.begins) port;
    goes = λ is i h. ap (λ s. stopping b (words_of i) s) (reached_same is) ∙ goes i (reached a is) (stored_sized (first_stored a) is stay.begins) ∙ h;
  }
