-- Where each register repeats the one that is listed for it, all hold what those hold.
use Rattle.std.specs.Prelude.{◌≡◌, ℕ, List, [], length}
use Rattle.std.proofs.Common.{get_or, refl, sym, ap, ◌∙◌, subst}
use Rattle.net_core.specs.declared.tree.Word.{Word}
use Rattle.net_core.specs.Nets.{Netlist}
use Rattle.net_core.specs.Value.{nothing}
use Rattle.net_core.specs.Clock.{Stored, first_words, env_of, with_wires}
use Rattle.register_rules.specs.EqualRegisters.Equal.{StayEqual}
use Rattle.register_rules.specs.EqualRegisters.Alike.{HoldFirsts, AreAlike, Repeats}
use Rattle.register_rules.proofs.EqualRegisters.CountLaws.{edge_count}

module _ (d : Netlist) (registers wires : List ℕ) where
  all_alike : (ins : List Word) (s : Stored) → HoldFirsts registers s.registers → HoldFirsts wires (with_wires ins s [] d.wires) → AreAlike registers wires wires (env_of d ins s) (env_of d ins s)
  all_alike ins s held told = record {
    port = λ i. refl;
    register = λ i k e. held i ∙ ap (λ n. get_or s.registers n nothing) e ∙ sym (held k);
    wire = λ i k x y e. told i ∙ ap (λ n. get_or (with_wires ins s [] d.wires) n nothing) e ∙ sym (told k);
    memory_word = λ m i. refl;
  }

  pub stay_equal : (words : List Word) → words ≡ first_words d.declared → ((k : ℕ) → Repeats words registers wires d.always k)
      → ((ins : List Word) (s : Stored) → HoldFirsts registers s.registers → HoldFirsts wires (with_wires ins s [] d.wires)) → StayEqual d registers
  stay_equal words e repeats told = record {
    begins = record { count = refl; same = λ k. subst (λ ws. get_or ws k nothing ≡ get_or ws (get_or registers k k) nothing) e (repeats k).begins };
    stays = λ ins s h. record {
      count = edge_count (env_of d ins s) d.always s ∙ h.count;
      same = λ k. (repeats k).stays (env_of d ins s) s (all_alike ins s h.same (told ins s h.same)) h.same (h.count ∙ sym (ap (λ ws. length ws) e));
    };
  }
