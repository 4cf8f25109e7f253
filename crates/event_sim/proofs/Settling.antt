-- The right sides of a well-formed design depend on earlier nets alone, and values at which no net is active are those of a
-- clock.
use Rattle.std.proofs.Common.{◌≡◌, ℕ, zero, suc, ◌-◌, ◌<◌, ◌≤◌, Bool, true, false, Some, None, List, [], ◌∷◌, ◌++◌, length, map, get_or, refl, sym, ap, ◌∙◌, subst, arith, inl, inr, append_assoc, length-append}
use Rattle.std.proofs.lemmas.Bool.{ltb-true, cases_lt, cond-true, cond-false}
use Rattle.std.proofs.lemmas.List.{append-nil, get_or_append_left, get_or-append_right, get_or_at, get_or_default, get_or_past, get_or-map, length-map, length_push}
use Rattle.net_core.specs.declared.tree.Word.{Word}
use Rattle.net_core.specs.declared.tree.Net.{Net}
use Rattle.net_core.specs.declared.tree.Net.TheVariants.{Port, Register, Memory, Wire}
use Rattle.net_core.specs.Nets.{RightTree, RPlain, WireTree, AssignTree, Netlist}
use Rattle.net_core.specs.Value.{nothing, value, right_value, stops}
use Rattle.net_core.specs.Clock.{Stored, net_value, env, with_wires, rights, stopped_at, stopping}
use Rattle.net_core.proofs.WireLaws.{length_rights}
use Rattle.design_rules.specs.FormedScope.{sorts, is_value, reads_known, right_known}
use Rattle.design_rules.specs.Formed.{IsWellFormed}
use Rattle.design_rules.proofs.FormedItemLaws.{wire_kept, assign_kept}
use Rattle.design_rules.proofs.SolvedWires.SolvingLaws.{AreKnownRights, rights_known, wires_counted}
use Rattle.event_sim.specs.Events.{assigned_rights, right_sides, net_count, no_right, no_assign, event_value, value_at}
use Rattle.event_sim.specs.Ends.{with_nets, clock_values}
use Rattle.event_sim.proofs.Locality.{same_value, same_event, same_stops, event_is_right}
use Rattle.event_sim.proofs.Ending.{IsLocal, Quiets, inactive_is}

pub no_wire : WireTree
no_wire = record { width = 0; right = no_right }

-- ---- the right side of a net
pub rights_counted : (d : Netlist) → length (right_sides d) ≡ net_count d
rights_counted d = omega (arith, length-append (rights d.wires) (assigned_rights d.assigns), length_rights d.wires, length-map d.assigns (λ a. RPlain a.value))

pub right_in : (ws : List WireTree) (k : ℕ) (w : WireTree) (r : RightTree Net) → k < length ws → get_or (rights ws) k r ≡ (get_or ws k w).right
right_in [] k w r l = absurd (omega arith)
right_in (x ∷ ws) zero w r l = refl
right_in (x ∷ ws) (suc k) w r l = right_in ws k w r (omega arith)

pub wire_right : (d : Netlist) (n : ℕ) (w : WireTree) → n < length d.wires → get_or (right_sides d) n no_right ≡ (get_or d.wires n w).right
wire_right d n w l = get_or_append_left (rights d.wires) (assigned_rights d.assigns) no_right n (omega (arith, l, length_rights d.wires)) ∙ right_in d.wires n w no_right l

behind_wires : (d : Netlist) (n : ℕ) → length d.wires ≤ n → get_or (right_sides d) n no_right ≡ get_or (assigned_rights d.assigns) (n - length d.wires) no_right
behind_wires d n l = get_or-append_right (rights d.wires) (assigned_rights d.assigns) (length d.wires) n no_right (length_rights d.wires) l

pub assign_right : (d : Netlist) (n : ℕ) (a : AssignTree) → length d.wires ≤ n → n < net_count d → get_or (right_sides d) n no_right ≡ RPlain (get_or d.assigns (n - length d.wires) a).value
assign_right d n a l m = behind_wires d n l ∙ get_or-map (λ a. RPlain a.value) d.assigns (n - length d.wires) a no_right (omega arith)

-- it reads wires before the net
record ReadsBefore (d : Netlist) (n : ℕ) : Type 0 where
  before : ℕ
  most : before ≤ n
  known : right_known (sorts d before) (get_or (right_sides d) n no_right) ≡ true

assign_reads : (d : Netlist) → IsWellFormed d → (n : ℕ) → length d.wires ≤ n → ReadsBefore d n
assign_reads d formed n l = elim (cases_lt n (net_count d)) [
  | inl inside ↦
      let k = n - length d.wires in
      let m : k < length d.assigns = omega arith in
      let kept = assign_kept d formed k (get_or d.assigns k no_assign) m (get_or_default d.assigns k no_assign _ m) in
      record { before = length d.wires; most = l; known = subst (λ r. right_known (sorts d (length d.wires)) r ≡ true) (sym (assign_right d n no_assign l inside)) kept.known }
  | inr past ↦
      let count = rights_counted d in
      record { before = 0; most = omega arith; known = subst (λ r. right_known (sorts d 0) r ≡ true) (sym (get_or_past (right_sides d) n no_right (omega arith))) refl }
]

reads_before : (d : Netlist) → IsWellFormed d → (n : ℕ) → ReadsBefore d n
reads_before d formed n = elim (cases_lt n (length d.wires)) [
  | inl l ↦
      let kept = wire_kept d formed n (get_or d.wires n no_wire) l (get_or_default d.wires n no_wire _ l) in
      record { before = n; most = omega arith; known = subst (λ r. right_known (sorts d n) r ≡ true) (sym (wire_right d n no_wire l)) kept.known }
  | inr l ↦ assign_reads d formed n l
]

module _ (d : Netlist) (ins : List Word) (s : Stored) where
  -- nets that agree below a number agree on what can be read there
  pub nets_agree : (before n : ℕ) (us ws : List Word) → before ≤ n → ((k : ℕ) → k < n → get_or us k nothing ≡ get_or ws k nothing) → (net : Net) → is_value d before net ≡ true → net_value ins s us net ≡ net_value ins s ws net
  nets_agree before n us ws le same (Wire k) h = let l = ltb-true k before h in same k (omega arith)
  nets_agree before n us ws le same (Port k) h = refl
  nets_agree before n us ws le same (Register k) h = refl
  nets_agree before n us ws le same (Memory k) h = refl

  module _ (formed : IsWellFormed d) where
    pub rights_local : IsLocal (value_at d ins s)
    unfolding value_at
    rights_local = record {
      same = λ n us ws h.
          let r = reads_before d formed n in
          same_event (sorts d r.before) (env ins s us) (env ins s ws) (λ m a. refl) (nets_agree r.before n us ws r.most h) (get_or (right_sides d) n no_right) r.known;
    }

    -- ---- values that do not change are those in text order
    next_is : (front : List Word) (done rest : List (RightTree Net)) (r : RightTree Net) → right_sides d ≡ done ++ r ∷ rest → length front ≡ length done → value_at d ins s (length front) front ≡ event_value (env ins s front) r
    unfolding value_at
    next_is front done rest r e count =
        ap (event_value (env ins s front)) (ap (λ l. get_or l (length front) no_right) e ∙ get_or_at done r rest no_right (length front) (sym count))

    settles_from : (front rest : List Word) (done rs : List (RightTree Net)) → right_sides d ≡ done ++ rs → length front ≡ length done → length rest ≡ length rs
        → ((k : ℕ) → k < length (front ++ rest) → get_or (front ++ rest) k nothing ≡ value_at d ins s k (front ++ rest)) → with_nets ins s front rs ≡ front ++ rest
    settles_from front [] done [] e count left h = sym (append-nil front)
    settles_from front [] done (r ∷ rs) e count left h = absurd (omega (arith, left))
    settles_from front (x ∷ rest) done [] e count left h = absurd (omega (arith, left))
    settles_from front (x ∷ rest) done (r ∷ rs) e count left h =
        let n = length front in
        let inside : n < length (front ++ x ∷ rest) = omega (arith, length-append front (x ∷ rest)) in
        let here : get_or (front ++ x ∷ rest) n nothing ≡ x = get_or_at front x rest nothing n refl in
        let same = rights_local.same n (front ++ x ∷ rest) front (λ k l. get_or_append_left front (x ∷ rest) nothing k l) in
        let is : event_value (env ins s front) r ≡ x = sym (next_is front done rs r e count) ∙ sym same ∙ sym (h n inside) ∙ here in
        let whole : (front ++ x ∷ []) ++ rest ≡ front ++ x ∷ rest = append_assoc front (x ∷ []) rest in
        ap (λ y. with_nets ins s (front ++ y ∷ []) rs) is
        ∙ settles_from (front ++ x ∷ []) rest (done ++ r ∷ []) rs (e ∙ sym (append_assoc done (r ∷ []) rs)) (omega (arith, length_push front x, length_push done r, count)) (omega (arith, left))
        (subst (λ l. (k : ℕ) → k < length l → get_or l k nothing ≡ value_at d ins s k l) (sym whole) h)
        ∙ whole

    pub quiet_settles : (ws : List Word) → length ws ≡ net_count d → Quiets (value_at d ins s) ws (net_count d) → ws ≡ with_nets ins s [] (right_sides d)
    quiet_settles ws count quiet =
        sym (settles_from [] ws [] (right_sides d) refl refl (omega (arith, count, rights_counted d)) (λ k l. inactive_is (value_at d ins s) rights_local ws k (quiet k (omega (arith, l, count)))))

  -- ---- the values of a clock
  front_nets : (rs : List (RightTree Net)) (ws : List Word) (k : ℕ) → k < length ws → get_or (with_nets ins s ws rs) k nothing ≡ get_or ws k nothing
  front_nets [] ws k l = refl
  front_nets (r ∷ rs) ws k l =
      let x = event_value (env ins s ws) r in
      front_nets rs (ws ++ x ∷ []) k (omega (arith, l, length_push ws x)) ∙ get_or_append_left ws (x ∷ []) nothing k l

  pub front_wires : (rest : List WireTree) (ws : List Word) (k : ℕ) → k < length ws → get_or (with_wires ins s ws rest) k nothing ≡ get_or ws k nothing
  front_wires [] ws k l = refl
  front_wires (w ∷ rest) ws k l =
      let x = right_value (env ins s ws) w.right in
      front_wires rest (ws ++ x ∷ []) k (omega (arith, l, length_push ws x)) ∙ get_or_append_left ws (x ∷ []) nothing k l

  -- whether a right side stops is settled by the wires before it
  stops_as : (at : ℕ) (all front : List Word) (r : RightTree Net) → length front ≡ at → right_known (sorts d at) r ≡ true → ((k : ℕ) → k < length front → get_or all k nothing ≡ get_or front k nothing)
      → stops (env ins s all) r ≡ stops (env ins s front) r
  stops_as at all front r count known same =
      same_stops (sorts d at) (env ins s all) (env ins s front) (λ m a. refl) (nets_agree at at all front (omega arith) (λ k l. same k (omega (arith, l, count)))) r known

  module _ (more : List (RightTree Net)) where
    -- the first divisor that is zero is the same as in a clock
    pub same_stop : (rest : List WireTree) (front : List Word) (at : ℕ) → length front ≡ at → AreKnownRights d at rest
        → stopped_at (env ins s (with_wires ins s front rest)) at (rights rest) ≡ stopped_at (env ins s (with_nets ins s front (rights rest ++ more))) at (rights rest)
    same_stop [] front at count known = refl
    same_stop (w ∷ rest) front at count known =
        by_test (stops (env ins s front) w.right) refl (same_stop rest (front ++ right_value (env ins s front) w.right ∷ []) (suc at) (length_push front (right_value (env ins s front) w.right) ∙ omega (arith, count)) known.1)
      where
        clock_stops : stops (env ins s (with_wires ins s front (w ∷ rest))) w.right ≡ stops (env ins s front) w.right
        clock_stops = stops_as at (with_wires ins s front (w ∷ rest)) front w.right count known.0 (front_wires (w ∷ rest) front)

        events_stop : stops (env ins s (with_nets ins s front (rights (w ∷ rest) ++ more))) w.right ≡ stops (env ins s front) w.right
        events_stop = stops_as at (with_nets ins s front (rights (w ∷ rest) ++ more)) front w.right count known.0 (front_nets (rights (w ∷ rest) ++ more) front)

        by_test : (b : Bool) → stops (env ins s front) w.right ≡ b
            → stopped_at (env ins s (with_wires ins s (front ++ right_value (env ins s front) w.right ∷ []) rest)) (suc at) (rights rest) ≡ stopped_at (env ins s (with_nets ins s (front ++ right_value (env ins s front) w.right ∷ []) (rights rest ++ more))) (suc at) (rights rest)
            → stopped_at (env ins s (with_wires ins s front (w ∷ rest))) at (rights (w ∷ rest)) ≡ stopped_at (env ins s (with_nets ins s front (rights (w ∷ rest) ++ more))) at (rights (w ∷ rest))
        by_test true e later = cond-true _ _ _ (clock_stops ∙ e) ∙ sym (cond-true _ _ _ (events_stop ∙ e))
        by_test false e later =
            cond-false _ _ _ (clock_stops ∙ e) ∙ later
            ∙ ap (λ y. stopped_at (env ins s (with_nets ins s (front ++ y ∷ []) (rights rest ++ more))) (suc at) (rights rest)) (sym (event_is_right (env ins s front) w.right e))
            ∙ sym (cond-false _ _ _ (events_stop ∙ e))

    -- where none is zero the wires have the clock's values
    unstopped : (rest : List WireTree) (front : List Word) (at : ℕ) → length front ≡ at → AreKnownRights d at rest → stopped_at (env ins s (with_wires ins s front rest)) at (rights rest) ≡ None
        → with_nets ins s front (rights rest ++ more) ≡ with_nets ins s (with_wires ins s front rest) more
    unstopped [] front at count known none = refl
    unstopped (w ∷ rest) front at count known none =
        by_test (stops (env ins s front) w.right) refl (unstopped rest (front ++ right_value (env ins s front) w.right ∷ []) (suc at) (length_push front (right_value (env ins s front) w.right) ∙ omega (arith, count)) known.1)
      where
        clock_stops : stops (env ins s (with_wires ins s front (w ∷ rest))) w.right ≡ stops (env ins s front) w.right
        clock_stops = stops_as at (with_wires ins s front (w ∷ rest)) front w.right count known.0 (front_wires (w ∷ rest) front)

        by_test : (b : Bool) → stops (env ins s front) w.right ≡ b
            → (stopped_at (env ins s (with_wires ins s (front ++ right_value (env ins s front) w.right ∷ []) rest)) (suc at) (rights rest) ≡ None → with_nets ins s (front ++ right_value (env ins s front) w.right ∷ []) (rights rest ++ more) ≡ with_nets ins s (with_wires ins s (front ++ right_value (env ins s front) w.right ∷ []) rest) more)
            → with_nets ins s front (rights (w ∷ rest) ++ more) ≡ with_nets ins s (with_wires ins s front (w ∷ rest)) more
        by_test true e later =
            let some : Some at ≡ None = sym (cond-true _ _ _ (clock_stops ∙ e)) ∙ none in
            absurd cc
        by_test false e later =
            ap (λ y. with_nets ins s (front ++ y ∷ []) (rights rest ++ more)) (event_is_right (env ins s front) w.right e)
            ∙ later (sym (cond-false _ _ _ (clock_stops ∙ e)) ∙ none)

  -- ---- assigns
  abbrev AreKnownAssigns : List AssignTree → Type 0
  AreKnownAssigns [] = Unit {0}
  AreKnownAssigns (a ∷ rest) = (reads_known (sorts d (length d.wires)) a.value ≡ true) × AreKnownAssigns rest

  known_from : (as_ : List AssignTree) → ((i : ℕ) (a : AssignTree) → i < length as_ → a ≡ get_or as_ i a → reads_known (sorts d (length d.wires)) a.value ≡ true) → AreKnownAssigns as_
  known_from [] h = tt
  known_from (a ∷ as_) h = (h 0 a (omega arith) refl, known_from as_ (λ i x l e. h (suc i) x (omega arith) e))

  assigned_after : (wires : List Word) → length wires ≡ length d.wires → (as_ : List AssignTree) (front : List Word) → AreKnownAssigns as_
      → with_nets ins s (wires ++ front) (assigned_rights as_) ≡ (wires ++ front) ++ map (λ a. value (env ins s wires) a.value) as_
  assigned_after wires count [] front known = sym (append-nil (wires ++ front))
  assigned_after wires count (a ∷ as_) front known =
      let x = value (env ins s wires) a.value in
      let is : value (env ins s (wires ++ front)) a.value ≡ x =
      same_value (sorts d (length d.wires)) (env ins s (wires ++ front)) (env ins s wires) (λ m i. refl)
      (nets_agree (length d.wires) (length d.wires) (wires ++ front) wires (omega arith) (λ k l. get_or_append_left wires front nothing k (omega (arith, l, count)))) a.value known.0 in
      let longer : (wires ++ front) ++ x ∷ [] ≡ wires ++ (front ++ x ∷ []) = append_assoc wires front (x ∷ []) in
      ap (λ y. with_nets ins s ((wires ++ front) ++ y ∷ []) (assigned_rights as_)) is
      ∙ ap (λ l. with_nets ins s l (assigned_rights as_)) longer
      ∙ assigned_after wires count as_ (front ++ x ∷ []) known.1
      ∙ ap (λ l. l ++ map (λ a. value (env ins s wires) a.value) as_) (sym longer)
      ∙ append_assoc (wires ++ front) (x ∷ []) (map (λ a. value (env ins s wires) a.value) as_)

  module _ (formed : IsWellFormed d) where
    pub stop_is : stopped_at (env ins s (with_nets ins s [] (right_sides d))) 0 (rights d.wires) ≡ stopping d ins s
    stop_is = sym (same_stop (assigned_rights d.assigns) d.wires [] 0 refl (rights_known d formed))

    pub clock_settles : stopping d ins s ≡ None → with_nets ins s [] (right_sides d) ≡ clock_values d ins s
    clock_settles none =
        let wires = with_wires ins s [] d.wires in
        unstopped (assigned_rights d.assigns) d.wires [] 0 refl (rights_known d formed) none
        ∙ ap (λ l. with_nets ins s l (assigned_rights d.assigns)) (sym (append-nil wires))
        ∙ assigned_after wires (wires_counted d ins s d.wires) d.assigns [] (known_from d.assigns (λ i a l e. (assign_kept d formed i a l e).known))
        ∙ ap (λ l. l ++ map (λ a. value (env ins s wires) a.value) d.assigns) (append-nil wires)
