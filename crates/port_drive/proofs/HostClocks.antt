-- Clocks that a call gives one part after the other.
use Rattle.std.specs.Prelude.{option_map}
use Rattle.std.proofs.Common.{◌≡◌, ℕ, suc, Option, Some, None, List, [], ◌∷◌, ◌++◌, length, refl, sym, ap, ◌∙◌, subst, append_assoc, Result, Ok, Err}
use Rattle.std.proofs.lemmas.List.{append-nil}
use Rattle.net_core.specs.declared.tree.Net.{Net}
use Rattle.net_core.specs.declared.tree.Net.TheVariants.{Wire}
use Rattle.net_core.specs.declared.ports.Inputs.{Inputs}
use Rattle.net_core.specs.Nets.{Netlist}
use Rattle.net_core.specs.Clock.{Stored, after, stopping, clock}
use Rattle.net_core.specs.Ports.{words_of}
use Rattle.net_core.specs.Trace.{cycle_of, NeverStops, stored_after, trace}
use Rattle.net_core.proofs.ClockLaws.{clock_leaves}
use Rattle.clock_sim.specs.declared.sim.XValue.{XValue}
use Rattle.clock_sim.specs.Running.{stopped_net}
use Rattle.realization.specs.HostHistory.Host.{shown_words}
use Rattle.port_drive.specs.Hosting.{StopsAt, Clocks}

-- ---- one part after another
pub stored-append : (d : Netlist) (s : Stored) (a b : List Inputs) → stored_after d s (a ++ b) ≡ stored_after d (stored_after d s a) b
stored-append d s [] b = refl
stored-append d s (i ∷ a) b = stored-append d (after d (words_of i) s) a b

never-append : (d : Netlist) (s : Stored) (a b : List Inputs) → NeverStops d s a → NeverStops d (stored_after d s a) b → NeverStops d s (a ++ b)
never-append d s [] b none more = more
never-append d s (i ∷ a) b some more = (some.0, never-append d (after d (words_of i) s) a b some.1 more)

pub shown-append : (d : Netlist) (s : Stored) (a b : List Inputs) → shown_words (trace d s (a ++ b)) ≡ shown_words (trace d s a) ++ shown_words (trace d (stored_after d s a) b)
shown-append d s [] b = refl
shown-append d s (i ∷ a) b = ap (λ (ws : List ℕ). (cycle_of d s i).shown.host_value ∷ ws) (shown-append d (after d (words_of i) s) a b)

pub length-shown : (d : Netlist) (s : Stored) (is : List Inputs) → length (shown_words (trace d s is)) ≡ length is
length-shown d s [] = refl
length-shown d s (i ∷ is) = ap (λ n. suc n) (length-shown d (after d (words_of i) s) is)

-- ---- one clock, at inputs that are equal to these
pub one_goes : (d : Netlist) (s t : Stored) (given i : Inputs) → given ≡ i → stopping d (words_of given) s ≡ None → clock d (words_of given) s ≡ Ok t → NeverStops d s (i ∷ []) × (t ≡ stored_after d s (i ∷ []))
one_goes d s t given i is runs stored = subst (λ x. NeverStops d s (x ∷ []) × (t ≡ stored_after d s (x ∷ []))) is ((runs, tt), clock_leaves d (words_of given) s t runs stored)

pub one_stops : (d : Netlist) (s t : Stored) (given i : Inputs) (net : Net) → given ≡ i → stopped_net d (words_of given) s ≡ Some net → t ≡ s → (wire : ℕ) × StopsAt d s (i ∷ []) wire t × (net ≡ Wire wire)
one_stops d s t given i net is stop same = by_stop (stopping d (words_of i) s) refl (subst (λ x. stopped_net d (words_of x) s ≡ Some net) is stop)
  where
    none_some : None ≡ Some net → ⊥
    none_some e = cc

    some_inj : (a : Net) → Some a ≡ Some net → net ≡ a
    some_inj a e = cc

    by_stop : (o : Option ℕ) → stopping d (words_of i) s ≡ o → option_map Wire o ≡ Some net → (wire : ℕ) × StopsAt d s (i ∷ []) wire t × (net ≡ Wire wire)
    by_stop None e f = absurd (none_some f)
    by_stop (Some w) e f = (
      w,
      record { before = []; at = i; behind = []; all = refl; goes = tt; left = same; stops = ap (λ x. stopping d (words_of i) x) same ∙ e },
      some_inj (Wire w) f,
    )

-- ---- between two parts
-- Of these clocks some went, these are left, and t is what is stored.
pub record UnderWay (d : Netlist) (s : Stored) (whole rest : List Inputs) (t : Stored) : Type 0 where
  pub done : List Inputs
  pub all : whole ≡ done ++ rest
  pub goes : NeverStops d s done
  pub left : t ≡ stored_after d s done

module _ (d : Netlist) (s : Stored) (whole : List Inputs) where
  pub begins : UnderWay d s whole whole s
  begins = record { done = []; all = refl; goes = tt; left = refl }

  pub goes_on : (part rest before : List Inputs) (t u : Stored) → UnderWay d s whole before t → before ≡ part ++ rest → NeverStops d t part × (u ≡ stored_after d t part) → UnderWay d s whole rest u
  goes_on part rest before t u h is went = record {
    done = h.done ++ part;
    all = h.all ∙ ap (λ l. h.done ++ l) is ∙ sym (append_assoc h.done part rest);
    goes = never-append d s h.done part h.goes (subst (λ x. NeverStops d x part) h.left went.0);
    left = went.1 ∙ ap (λ x. stored_after d x part) h.left ∙ sym (stored-append d s h.done part);
  }

  pub stops_in : (part rest before : List Inputs) (t u : Stored) (net : Net) → UnderWay d s whole before t → before ≡ part ++ rest → (wire : ℕ) × StopsAt d t part wire u × (net ≡ Wire wire) → (wire : ℕ) × StopsAt d s whole wire u × (net ≡ Wire wire)
  stops_in part rest before t u net h is stop =
      let p = stop.1 in
      let cut : part ++ rest ≡ p.before ++ (p.at ∷ (p.behind ++ rest)) = ap (λ l. l ++ rest) p.all ∙ append_assoc p.before (p.at ∷ p.behind) rest in (
        stop.0,
        record {
          before = h.done ++ p.before;
          at = p.at;
          behind = p.behind ++ rest;
          all = h.all ∙ ap (λ l. h.done ++ l) (is ∙ cut) ∙ sym (append_assoc h.done p.before (p.at ∷ (p.behind ++ rest)));
          goes = never-append d s h.done p.before h.goes (subst (λ x. NeverStops d x p.before) h.left p.goes);
          left = p.left ∙ ap (λ x. stored_after d x p.before) h.left ∙ sym (stored-append d s h.done p.before);
          stops = p.stops;
        },
        stop.2,
      )

  pub ends : (rest : List Inputs) (t : Stored) → UnderWay d s whole rest t → rest ≡ [] → NeverStops d s whole × (t ≡ stored_after d s whole)
  ends rest t h none =
      let all : h.done ≡ whole = sym (h.all ∙ ap (λ l. h.done ++ l) none ∙ append-nil h.done) in
      (subst (NeverStops d s) all h.goes, h.left ∙ ap (stored_after d s) all)

  -- the last part, however it ends
  pub last_part : {A : Type 0} (r : Result A XValue) (part before : List Inputs) (t u : Stored) → UnderWay d s whole before t → before ≡ part ++ [] → Clocks d t part r u → Clocks d s whole r u
  last_part (Ok a) part before t u h is went = ends [] u (goes_on part [] before t u h is went) refl
  last_part (Err x) part before t u h is stop = stops_in part [] before t u x.net h is stop

  -- the words that are shown in a part, and those that are shown in the clocks left
  pub shown-part : (part rest before : List Inputs) (t u : Stored) → before ≡ part ++ rest → u ≡ stored_after d t part → shown_words (trace d t before) ≡ shown_words (trace d t part) ++ shown_words (trace d u rest)
  shown-part part rest before t u is went =
      ap (λ l. shown_words (trace d t l)) is ∙ shown-append d t part rest ∙ ap (λ x. shown_words (trace d t part) ++ shown_words (trace d x rest)) (sym went)
