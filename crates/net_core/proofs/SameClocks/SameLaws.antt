-- Designs that show the same.
use Rattle.std.specs.Prelude.{◌≡◌, List, [], ◌∷◌, ◌++◌}
use Rattle.std.proofs.Common.{refl, sym, ◌∙◌, subst}
use Rattle.net_core.specs.declared.ports.Inputs.{Inputs}
use Rattle.net_core.specs.Nets.{Netlist}
use Rattle.net_core.specs.Clock.{Stored, first_stored, after}
use Rattle.net_core.specs.Ports.{words_of}
use Rattle.net_core.specs.Trace.{NeverStops, stored_after}
use Rattle.net_core.specs.SameClocks.Same.{reached, ShowTheSame, Follows}
use Rattle.net_core.specs.SameClocks.Laws.{DesignsShowTheirOwn, SameInTurn, SameNeverStops, FollowersShowTheSame}

pub designs_show_their_own : DesignsShowTheirOwn
designs_show_their_own a = record { shows = λ is i port. refl; goes = λ is i h. h }

pub same_in_turn : SameInTurn
same_in_turn a b c p q = record { shows = λ is i port. q.shows is i port ∙ p.shows is i port; goes = λ is i h. q.goes is i (p.goes is i h) }

-- one clock more
pub reached_next : (d : Netlist) (s : Stored) (is : List Inputs) (i : Inputs) → stored_after d s (is ++ i ∷ []) ≡ after d (words_of i) (stored_after d s is)
reached_next d s [] i = refl
reached_next d s (x ∷ is) i = reached_next d (after d (words_of x) s) is i

module _ (a b : Netlist) (same : ShowTheSame a b) where
  pub never_from : (before is : List Inputs) → NeverStops a (reached a before) is → NeverStops b (reached b before) is
  never_from before [] h = tt
  never_from before (i ∷ is) h = (
    same.goes before i h.0,
    subst (λ (s : Stored). NeverStops b s is) (reached_next b (first_stored b) before i)
        (never_from (before ++ i ∷ []) is (subst (λ (s : Stored). NeverStops a s is) (sym (reached_next a (first_stored a) before i)) h.1)),
  )

pub same_never_stops : SameNeverStops
same_never_stops a b same is h = never_from a b same [] is h

module _ (a b : Netlist) (related : Stored → Stored → Type 0) (follow : Follows a b related) where
  related_after : (s t : Stored) (is : List Inputs) → related s t → related (stored_after a s is) (stored_after b t is)
  related_after s t [] r = r
  related_after s t (i ∷ is) r = related_after (after a (words_of i) s) (after b (words_of i) t) is (follow.stores (words_of i) s t r)

pub followers_show_the_same : FollowersShowTheSame
followers_show_the_same a b related follow =
    let r = λ (is : List Inputs). related_after a b related follow (first_stored a) (first_stored b) is follow.begins in
    record {
      shows = λ is i port. follow.shows (words_of i) (reached a is) (reached b is) (r is) port;
      goes = λ is i h. follow.goes (words_of i) (reached a is) (reached b is) (r is) h;
    }
