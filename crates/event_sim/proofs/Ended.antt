-- Every order of events ends in the values of a clock.
use Rattle.std.specs.Prelude.{if◌then◌else◌, All}
use Rattle.std.proofs.Common.{◌≡◌, ℕ, zero, suc, ◌+◌, ◌^◌, ◌<◌, ◌≤◌, Bool, true, false, List, [], ◌∷◌, length, refl, sym, ap, ◌∙◌, subst, arith}
use Rattle.std.proofs.lemmas.List.{length-set}
use Rattle.net_core.specs.declared.tree.Word.{Word}
use Rattle.net_core.specs.Nets.{Netlist}
use Rattle.net_core.specs.Value.{number_of}
use Rattle.net_core.specs.Clock.{Stored, env, rights, stopped_at, stopping}
use Rattle.design_rules.specs.Formed.{IsWellFormed}
use Rattle.event_sim.specs.Events.{State, value_at, net_count, passed, ran, events_in, swept, IsQuiet, Happen}
use Rattle.event_sim.specs.Ends.{settled, IsSettled, Ends, EndsFromAny}
use Rattle.event_sim.specs.Orders.{IsOrder}
use Rattle.event_sim.proofs.Ending.{active, fire, pass, passes, turns, Happens, Quiets, happens_length, few, turns_few, passes_gain, none_fires, none_active}
use Rattle.event_sim.proofs.Settling.{rights_local, quiet_settles, clock_settles, stop_is}

-- a state of a well-formed design, with a word for each net
pub record IsFormed (s : State) : Type 0 where
  pub formed : IsWellFormed s.netlist
  pub count : length s.nets ≡ net_count s.netlist

module _ (d : Netlist) (ins : List Word) (stored : Stored) where
  -- the state with these words in its nets
  abbrev at : List Word → State
  at ws = record { netlist = d; ins = ins; stored = stored; nets = ws }

  abbrev f : ℕ → List Word → Word
  f = value_at d ins stored

  abbrev sweeps : List Word → List ℕ → ℕ → List Word
  sweeps ws order zero = ws
  sweeps ws order (suc k) = passes f (sweeps ws order k) order

  record Comes (ws : List Word) (ns : List ℕ) (t : State) : Type 0 where
    happens : Happens f ws ns t.nets
    is : t ≡ at t.nets

  comes : (ns : List ℕ) (ws : List Word) (t : State) → length ws ≡ net_count d → Happen (at ws) ns t → Comes ws ns t
  comes [] ws t count h = record { happens = ap (λ (s : State). s.nets) h; is = subst (λ (s : State). s ≡ at s.nets) h refl }
  comes (n ∷ ns) ws t count h =
      let rest = comes ns (fire f ws n) t (length-set ws n (f n ws) ∙ count) h.2 in
      record { happens = (omega (arith, h.0, count), h.1, rest.happens); is = rest.is }

  passed_is : (ws : List Word) (n : ℕ) → passed (at ws) n ≡ at (pass f ws n)
  passed_is ws n = by_test (active f ws n)
    where
      by_test : (b : Bool) → (if b then at (fire f ws n) else at ws) ≡ at (if b then fire f ws n else ws)
      by_test true = refl
      by_test false = refl

  ran_is : (ns : List ℕ) (ws : List Word) → ran (at ws) ns ≡ at (passes f ws ns)
  ran_is [] ws = refl
  ran_is (n ∷ ns) ws = ap (λ s. ran s ns) (passed_is ws n) ∙ ran_is ns (pass f ws n)

  events_are : (ns : List ℕ) (ws : List Word) → events_in (at ws) ns ≡ turns f ws ns
  events_are [] ws = refl
  events_are (n ∷ ns) ws = ap (λ k. number_of (active f ws n) + k) (ap (λ s. events_in s ns) (passed_is ws n) ∙ events_are ns (pass f ws n))

  swept_is : (order : List ℕ) (k : ℕ) (ws : List Word) → swept (at ws) order k ≡ at (sweeps ws order k)
  swept_is order zero ws = refl
  swept_is order (suc k) ws = ap (λ s. ran s order) (swept_is order k ws) ∙ ran_is order (sweeps ws order k)

  passes_length : (ns : List ℕ) (ws : List Word) → length (passes f ws ns) ≡ length ws
  passes_length [] ws = refl
  passes_length (n ∷ ns) ws = passes_length ns (pass f ws n) ∙ pass_count ws n
    where
      pass_count : (us : List Word) (m : ℕ) → length (pass f us m) ≡ length us
      pass_count us m = by_test (active f us m)
        where
          by_test : (b : Bool) → length (if b then fire f us m else us) ≡ length us
          by_test true = length-set us m (f m us)
          by_test false = refl

  sweeps_length : (order : List ℕ) (k : ℕ) (ws : List Word) → length (sweeps ws order k) ≡ length ws
  sweeps_length order zero ws = refl
  sweeps_length order (suc k) ws = passes_length order (sweeps ws order k) ∙ sweeps_length order k ws

  module _ (formed : IsWellFormed d) where
    settled_at : (ws : List Word) → length ws ≡ net_count d → IsQuiet (at ws) → IsSettled (at ws)
    settled_at ws count quiet =
        let values = quiet_settles d ins stored formed ws count quiet in
        record { values = values; clock = λ none. values ∙ clock_settles d ins stored formed none }

    sweeps_quiet : (order : List ℕ) → IsOrder (net_count d) order → (ws : List Word) → length ws ≡ net_count d → (k : ℕ) → k ≤ net_count d → Quiets f (sweeps ws order k) k
    sweeps_quiet order is ws count zero le = λ j l. absurd (omega arith)
    sweeps_quiet order is ws count (suc k) le =
        let place = is.each k (omega arith) in
        passes_gain f (rights_local d ins stored formed) order (sweeps ws order k) k place.0 place.1 place.2 (omega (arith, sweeps_length order k ws, count)) (sweeps_quiet order is ws count k (omega arith))

-- ---- states
ends : (s : State) → IsFormed s → Ends s
ends s f0 = record {
  short = λ ns t h.
      let c = comes s.netlist s.ins s.stored ns s.nets t f0.count h in
      subst (λ k. length ns < 2 ^ k) f0.count (few (value_at s.netlist s.ins s.stored) (rights_local s.netlist s.ins s.stored f0.formed) ns s.nets t.nets c.happens);
  settles = λ ns t h quiet.
      let c = comes s.netlist s.ins s.stored ns s.nets t f0.count h in
      subst IsSettled (sym c.is)
      (settled_at s.netlist s.ins s.stored f0.formed t.nets (happens_length (value_at s.netlist s.ins s.stored) (rights_local s.netlist s.ins s.stored f0.formed) ns s.nets t.nets c.happens ∙ f0.count) (subst IsQuiet c.is quiet));
}

pub ends_from_any : (s : State) → IsFormed s → EndsFromAny s
ends_from_any s f0 nets count = ends (record s { nets = nets }) (record { formed = f0.formed; count = count })

pub quiet_settled : (s : State) → IsFormed s → IsQuiet s → IsSettled s
quiet_settled s f0 quiet = settled_at s.netlist s.ins s.stored f0.formed s.nets f0.count quiet

pub events_few : (s : State) → IsFormed s → (ns : List ℕ) → All (λ n. n < net_count s.netlist) ns → events_in s ns < 2 ^ net_count s.netlist
events_few s f0 ns inside =
    let small = turns_few (value_at s.netlist s.ins s.stored) (rights_local s.netlist s.ins s.stored f0.formed) ns s.nets (subst (λ k. All (λ n. n < k) ns) (sym f0.count) inside) in
    subst (λ k. k < 2 ^ net_count s.netlist) (sym (events_are s.netlist s.ins s.stored ns s.nets)) (subst (λ k. turns (value_at s.netlist s.ins s.stored) s.nets ns < 2 ^ k) f0.count small)

-- ---- sweeps
pub swept_netlist : (s : State) (order : List ℕ) (k : ℕ) → (swept s order k).netlist ≡ s.netlist
swept_netlist s order k = ap (λ (t : State). t.netlist) (swept_is s.netlist s.ins s.stored order k s.nets)

-- after as many sweeps as there are nets none is active
pub swept_quiet : (s : State) → IsFormed s → (order : List ℕ) → IsOrder (net_count s.netlist) order → IsQuiet (swept s order (net_count s.netlist))
swept_quiet s f0 order is =
    subst IsQuiet (sym (swept_is s.netlist s.ins s.stored order (net_count s.netlist) s.nets))
    (sweeps_quiet s.netlist s.ins s.stored f0.formed order is s.nets f0.count (net_count s.netlist) (omega arith))

-- nor after one in which none fires, which changes nothing
pub idle_quiet : (s : State) → IsFormed s → (order : List ℕ) → IsOrder (net_count s.netlist) order → events_in s order ≡ 0 → IsQuiet s
idle_quiet s f0 order is none n l =
    let place = is.each n l in
    none_active (value_at s.netlist s.ins s.stored) (rights_local s.netlist s.ins s.stored f0.formed) order s.nets n place.0 (sym (events_are s.netlist s.ins s.stored order s.nets) ∙ none) place.1 place.2

pub idle_same : (s : State) → IsFormed s → (order : List ℕ) → events_in s order ≡ 0 → ran s order ≡ s
idle_same s f0 order none =
    ran_is s.netlist s.ins s.stored order s.nets
    ∙ ap (λ ws. at s.netlist s.ins s.stored ws) (none_fires (value_at s.netlist s.ins s.stored) (rights_local s.netlist s.ins s.stored f0.formed) order s.nets (sym (events_are s.netlist s.ins s.stored order s.nets) ∙ none))

pub swept_formed : (s : State) → IsFormed s → (order : List ℕ) (k : ℕ) → IsFormed (swept s order k)
swept_formed s f0 order k = subst IsFormed (sym (swept_is s.netlist s.ins s.stored order k s.nets)) (record { formed = f0.formed; count = sweeps_length s.netlist s.ins s.stored order k s.nets ∙ f0.count })

-- and then the nets have the values of a clock
pub swept_settles : (s t : State) → IsFormed s → (order : List ℕ) (k : ℕ) → t ≡ swept s order k → IsQuiet t → t ≡ record s { nets = settled s }
swept_settles s t f0 order k e quiet =
    let is = swept_is s.netlist s.ins s.stored order k s.nets in
    let values = (quiet_settled (swept s order k) (swept_formed s f0 order k) (subst IsQuiet e quiet)).values in
    let nets : sweeps s.netlist s.ins s.stored s.nets order k ≡ settled s = subst (λ (x : State). x.nets ≡ settled x) is values in
    e ∙ is ∙ ap (λ ws. at s.netlist s.ins s.stored ws) nets

-- ---- how a settling stops
pub record Stops (s t : State) (order : List ℕ) (k : ℕ) : Type 0 where
  pub settles : t ≡ record s { nets = settled s }
  pub quiet : IsQuiet t
  pub settled : IsSettled t
  pub sweeps : t ≡ swept s order k

stopped : (s t : State) → IsFormed s → (order : List ℕ) (k : ℕ) → t ≡ swept s order k → IsQuiet t → Stops s t order k
stopped s t f0 order k e quiet = record {
  settles = swept_settles s t f0 order k e quiet;
  quiet = quiet;
  settled = quiet_settled t (subst IsFormed (sym e) (swept_formed s f0 order k)) quiet;
  sweeps = e;
}

-- at a sweep in which none fires
pub stopped_idle : (s m t : State) → IsFormed s → (order : List ℕ) → IsOrder (net_count s.netlist) order → (k : ℕ) → m ≡ swept s order k → events_in m order ≡ 0 → t ≡ ran m order → Stops s t order k
stopped_idle s m t f0 order is k e none done =
    let formed : IsFormed m = subst IsFormed (sym e) (swept_formed s f0 order k) in
    let same : t ≡ m = done ∙ idle_same m formed order none in
    let netlist : s.netlist ≡ m.netlist = sym (ap (λ (x : State). x.netlist) e ∙ swept_netlist s order k) in
    let quiet = idle_quiet m formed order (subst (λ (d : Netlist). IsOrder (net_count d) order) netlist is) none in
    stopped s t f0 order k (same ∙ e) (subst IsQuiet (sym same) quiet)

-- after as many sweeps as there are nets
pub stopped_all : (s t : State) → IsFormed s → (order : List ℕ) → IsOrder (net_count s.netlist) order → (k : ℕ) → k ≡ net_count s.netlist → t ≡ swept s order k → Stops s t order k
stopped_all s t f0 order is k all e =
    stopped s t f0 order k e (subst IsQuiet (sym (e ∙ ap (swept s order) all)) (swept_quiet s f0 order is))

-- the first divisor that is zero is that of the clock
pub quiet_stop : (s : State) → IsFormed s → IsQuiet s → stopped_at (env s.ins s.stored s.nets) 0 (rights s.netlist.wires) ≡ stopping s.netlist s.ins s.stored
quiet_stop s f0 quiet =
    ap (λ ws. stopped_at (env s.ins s.stored ws) 0 (rights s.netlist.wires)) (quiet_settled s f0 quiet).values ∙ stop_is s.netlist s.ins s.stored f0.formed
