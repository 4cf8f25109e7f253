-- What a clock of the machine does, by the packet at the commit place and the host.
use Rattle.std.specs.Prelude.{◌≡◌, ℕ, zero, suc, ◌+◌, if◌then◌else◌, Bool, true, false, not, ◌&&◌, ◌||◌, Option, None, Some, is_some, List, [], ◌∷◌, drop}
use Rattle.std.proofs.Common.{refl, sym, ap, ◌∙◌, arith}
use Rattle.hazard_core.specs.xdp_maps.declared.decl.MapDecl.{MapDecl}
use Rattle.hazard_core.specs.declared.access.Access.{Access}
use Rattle.hazard_core.specs.StageValues.{StageValues, writes}
use Rattle.pipe_core.specs.Machine.{Packet, State, Build, Action, Commits, Writes, Moves, place_at, some_send, flushed, chosen, commits_as, commits_or_moves, action_as}
use Rattle.turn_net.specs.Actions.{Signals, first_open, committing, record_sites, RecordsAlone}
use Rattle.pipe_net.specs.Saying.{is_host, moves}
use Rattle.pipe_net.specs.PipeTurns.Acting.{site_of}

pub none_some : {X Y : Type 0} (x : X) → None ≡ Some x → Y
none_some x e = cc

-- ---- the places once those are emptied that are sent back
pub flushed_at : (b : Build) (from at k : ℕ) (places : List (Option Packet)) → from + k ≡ at → place_at (flushed b from places) k ≡ (if some_send b at (drop k places) then None else place_at places k)
flushed_at b from at k [] e = none_past k
  where
    none_past : (n : ℕ) → place_at [] n ≡ (if some_send b at (drop n []) then None else place_at [] n)
    none_past zero = refl
    none_past (suc n) = refl
flushed_at b from at zero (x ∷ xs) e = let z : from ≡ at = omega (arith, e) in ap (λ n. if some_send b n (x ∷ xs) then None else x) z
flushed_at b from at (suc k) (x ∷ xs) e = flushed_at b (suc from) at k xs (omega (arith, e))

pub kept_was : (b : Build) (k : ℕ) (places : List (Option Packet)) (x : Packet) → place_at (flushed b 0 places) k ≡ Some x → place_at places k ≡ Some x
kept_was b k places x e = by (some_send b k (drop k places)) (sym (flushed_at b 0 k k places (omega arith)) ∙ e)
  where
    by : (back : Bool) → (if back then None else place_at places k) ≡ Some x → place_at places k ≡ Some x
    by true f = none_some x f
    by false f = f

-- ---- what a clock does
pub host_is : (b : Build) (s : State) (rest : List (Option Packet)) (w : Option (Access × ℕ)) → is_some w ≡ is_host (action_as b s rest w)
host_is b s rest (Some w) = refl
host_is b s rest None = by (place_at rest b.plan.commit)
  where
    by_choice : (x : Packet) (c : Option ℕ) → false ≡ is_host (commits_as x c)
    by_choice x None = refl
    by_choice x (Some j) = refl

    by : (o : Option Packet) → false ≡ is_host (commits_or_moves b s o)
    by None = refl
    by (Some x) = by_choice x (chosen b s.tables s.done x)

pub stays_is : (action : Action) → (is_some (site_of action) || is_host action) ≡ not (moves action)
stays_is (Commits j x) = refl
stays_is (Writes a n) = refl
stays_is Moves = refl

-- the operation that commits is the one that is chosen, of the packet at the commit place
pub record IsCommitting (b : Build) (s : State) (rest : List (Option Packet)) (j : ℕ) (x : Packet) : Type 0 where
  pub packet : place_at rest b.plan.commit ≡ Some x
  pub choice : chosen b s.tables s.done x ≡ Some j

pub commits_is : (b : Build) (s : State) (rest : List (Option Packet)) (w : Option (Access × ℕ)) (j : ℕ) (x : Packet) → action_as b s rest w ≡ Commits j x → IsCommitting b s rest j x
commits_is b s rest (Some w) j x e = absurd (apart e)
  where
    apart : Writes w.0 w.1 ≡ Commits j x → ⊥
    apart f = cc
commits_is b s rest None j x e = by (place_at rest b.plan.commit) refl e
  where
    by_choice : (y : Packet) (c : Option ℕ) → chosen b s.tables s.done y ≡ c → place_at rest b.plan.commit ≡ Some y → commits_as y c ≡ Commits j x → IsCommitting b s rest j x
    by_choice y None f g h = absurd (apart h)
      where
        apart : Moves ≡ Commits j x → ⊥
        apart z = cc
    by_choice y (Some i) f g h = let p : Commits i y ≡ Commits j x = h in let n : i ≡ j = cc in let z : y ≡ x = cc in record {
      packet = g ∙ ap (λ k. Some k) z;
      choice = ap (λ k. chosen b s.tables s.done k) (sym z) ∙ f ∙ ap (λ k. Some k) n;
    }

    by : (o : Option Packet) → place_at rest b.plan.commit ≡ o → commits_or_moves b s o ≡ Commits j x → IsCommitting b s rest j x
    by None f g = absurd (apart g)
      where
        apart : Moves ≡ Commits j x → ⊥
        apart z = cc
    by (Some y) f g = by_choice y (chosen b s.tables s.done y) refl f g

-- ---- the site whose operation commits, as the part says it by what it sees of others
-- what the packet in a place holds; where there is none this is not looked at
abbrev pub held_in : Option Packet → StageValues
held_in None = record { values = []; pointers = [] }
held_in (Some x) = x.held

module _ (b : Build) (s : State) (decls : List MapDecl) (js : List ℕ) (same : s.tables.decls ≡ decls) (all : js ≡ record_sites b.program) (law : RecordsAlone) where
  abbrev first : Option Packet → Option ℕ
  first o = first_open s.done (writes b.program decls (held_in o)) js

  first_is : (x : Packet) → first (Some x) ≡ chosen b s.tables s.done x
  first_is x = (λ j. first_open s.done (writes b.program (sym same j) x.held) (all j)) ∙ sym (law b s.tables s.done x)

  by_choice : (x : Packet) (c f : Option ℕ) → f ≡ c → (if not (is_host (commits_as x c)) then f else None) ≡ site_of (commits_as x c)
  by_choice x None f e = e
  by_choice x (Some j) f e = e

  by_packet : (o : Option Packet) (back : Bool) → committing (record { present = is_some o; back = back; host = is_host (commits_or_moves b s (if back then None else o)) }) (first o) ≡ site_of (commits_or_moves b s (if back then None else o))
  by_packet None true = refl
  by_packet None false = refl
  by_packet (Some x) true = refl
  by_packet (Some x) false = by_choice x (chosen b s.tables s.done x) (first (Some x)) (first_is x)

  silent : (p : Bool) (f : Option ℕ) → (if p && false then f else None) ≡ None
  silent true f = refl
  silent false f = refl

  -- what the part sees of the packet at the commit place, and of the host
  abbrev pub seen : Action → Signals
  seen action = record { present = is_some (place_at s.places b.plan.commit); back = some_send b b.plan.commit (drop b.plan.commit s.places); host = is_host action }

  pub site_is : (w : Option (Access × ℕ)) → committing (seen (action_as b s (flushed b 0 s.places) w)) (first (place_at s.places b.plan.commit)) ≡ site_of (action_as b s (flushed b 0 s.places) w)
  site_is (Some w) = silent (is_some (place_at s.places b.plan.commit) && not (some_send b b.plan.commit (drop b.plan.commit s.places))) (first (place_at s.places b.plan.commit))
  site_is None =
      let o = place_at s.places b.plan.commit in
      let back = some_send b b.plan.commit (drop b.plan.commit s.places) in
      let at : place_at (flushed b 0 s.places) b.plan.commit ≡ (if back then None else o) = flushed_at b 0 b.plan.commit b.plan.commit s.places (omega arith) in
      ap (λ y. committing (record { present = is_some o; back = back; host = is_host (commits_or_moves b s y) }) (first o)) at ∙ by_packet o back ∙ sym (ap (λ y. site_of (commits_or_moves b s y)) at)
