-- A design of which expressions have become wires shows what it showed.
use Rattle.std.specs.Prelude.{◌≡◌, ℕ, zero, suc, ◌<◌, ◌≤◌, None, List, [], ◌∷◌, length, map as map_list}
use Rattle.std.proofs.Common.{get_or, refl, sym, ap, ◌∙◌, arith}
use Rattle.std.proofs.lemmas.List.{length-map}
use Rattle.net_core.specs.declared.tree.Word.{Word}
use Rattle.net_core.specs.declared.design.Declared.{Declared}
use Rattle.net_core.specs.Nets.{Netlist}
use Rattle.net_core.specs.Value.{nothing}
use Rattle.net_core.specs.Clock.{Stored, env, with_wires, edge, assigned, first_words, first_memories, rights, stopped_at, stopping, shown, after}
use Rattle.net_core.specs.SameClocks.Same.{ShowTheSame, Follows}
use Rattle.net_core.proofs.SameClocks.SameLaws.{followers_show_the_same}
use Rattle.design_rules.proofs.SolvedWires.SolvingLaws.{solved, unique}
use Rattle.net_optimize.specs.SharedExpressions.Standing.{Stand, IsShared}
use Rattle.net_optimize.specs.Reading.{ReadsWhatIsThere}
use Rattle.net_optimize.proofs.ReadingLemmas.{known_rights}
use Rattle.net_optimize.proofs.SharedExpressions.ListLemmas.{assigned_shown, placed_counted, solves_placed, none_stops, none_stopped}

picked_at : (f : ℕ → Word) (ns : List ℕ) (i : ℕ) → i < length ns → f (get_or ns i 0) ≡ get_or (map_list f ns) i nothing
picked_at f [] i l = absurd (omega arith)
picked_at f (n ∷ ns) zero l = refl
picked_at f (n ∷ ns) (suc i) l = picked_at f ns i (omega (arith, l))

past_end : (ws : List Word) (i : ℕ) → length ws ≤ i → get_or ws i nothing ≡ nothing
past_end [] i l = refl
past_end (w ∷ ws) zero l = absurd (omega arith)
past_end (w ∷ ws) (suc i) l = past_end ws i (omega (arith, l))

abbrev firsts : List Declared → Stored
firsts ds = record { registers = first_words ds; memories = first_memories ds }

module _ (a b : Netlist) (formed : ReadsWhatIsThere a) (formed_too : ReadsWhatIsThere b) (k : IsShared a b) where
  module _ (ins : List Word) (s : Stored) where
    abbrev ws : List Word
    ws = with_wires ins s [] b.wires

    -- the values of the wires by their former numbers
    abbrev old : List Word
    old = map_list (λ n. get_or ws n nothing) k.numbers

    counted : length old ≡ length k.numbers
    counted = length-map k.numbers (λ n. get_or ws n nothing)

    stand : Stand k.numbers b.wires (env ins s ws) (env ins s old)
    stand = record {
      placed = λ i l. picked_at (λ n. get_or ws n nothing) k.numbers i l;
      beyond = λ i l. past_end old i (omega (arith, counted, l));
      ports = λ i. refl;
      registers = λ i. refl;
      memories = λ i. refl;
      memories_before = λ i. refl;
      words = λ m i. refl;
      solved = solved b ins s 0 [] b.wires refl (known_rights b formed_too);
    }

    are_old : with_wires ins s [] a.wires ≡ old
    are_old =
        let p = k.placed (env ins s ws) (env ins s old) stand in
        unique a ins s 0 [] old a.wires refl (known_rights a formed)
        (solves_placed (env ins s ws) (env ins s old) 0 k.numbers a.wires (λ i l. stand.placed i l ∙ ap (λ n. get_or old n nothing) (omega arith)) p)
        (counted ∙ placed_counted (env ins s ws) (env ins s old) k.numbers a.wires p)

    shows : (port : ℕ) → shown b ins s port ≡ shown a ins s port
    shows port =
        assigned_shown (env ins s ws) (env ins s old) a.assigns b.assigns (k.shows (env ins s ws) (env ins s old) stand) port
        ∙ ap (λ xs. assigned (env ins s xs) a.assigns port) (sym are_old)

    stores : after b ins s ≡ after a ins s
    stores = k.stores (env ins s ws) (env ins s old) s stand ∙ ap (λ xs. edge (env ins s xs) a.always s) (sym are_old)

    goes : stopping a ins s ≡ None → stopping b ins s ≡ None
    goes h =
        none_stopped (env ins s ws) 0 b.wires (k.goes (env ins s ws) (env ins s old) stand
        (none_stops (env ins s old) 0 a.wires (ap (λ xs. stopped_at (env ins s xs) 0 (rights a.wires)) (sym are_old) ∙ h)))

  abbrev AreSame : Stored → Stored → Type 0
  AreSame s t = t ≡ s

  follows : Follows a b AreSame
  follows = record {
    begins = ap firsts k.declared;
    shows = λ ins s t e port. ap (λ x. shown b ins x port) e ∙ shows ins s port;
    stores = λ ins s t e. ap (after b ins) e ∙ stores ins s;
    goes = λ ins s t e h. ap (stopping b ins) e ∙ goes ins s h;
  }

  pub shared_show_the_same : ShowTheSame a b
  shared_show_the_same = followers_show_the_same a b AreSame follows
