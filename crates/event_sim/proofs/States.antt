-- What a well-formed design can have between two events: all is readable and fits, and an event keeps it so.
use Rattle.std.specs.Prelude.{nat_le, ◌==◌, nat_lt, if◌then◌else◌, slice_set}
use Rattle.std.proofs.Common.{◌≡◌, ℕ, ◌+◌, ◌-◌, ◌^◌, ◌<◌, ◌≤◌, Bool, true, false, List, length, map, take, get_or, refl, sym, ap, ◌∙◌, subst, arith, inl, inr}
use Rattle.std.proofs.lemmas.Bool.{and_parts, eqb-true, leb-true, ltb-true, ltb-false, false≢true, cases_lt, cases_eq}
use Rattle.std.proofs.lemmas.List.{get_or_append_left, get_or-append_right, get_or_default, get_or_past, get_or-map, get_or-take, get_or-set_same, get_or-set_other, length-map, length-append, length-set, length-take, take_all}
use Rattle.std.proofs.lemmas.Nat.{pow_pos}
use Rattle.net_core.specs.declared.ports.TheConstants.{PORT_COUNT, SILENT}
use Rattle.net_core.specs.declared.ports.Inputs.{Inputs}
use Rattle.net_core.specs.declared.tree.Word.{Word}
use Rattle.net_core.specs.declared.tree.Net.{Net}
use Rattle.net_core.specs.declared.tree.Net.TheVariants as net
use Rattle.net_core.specs.Nets.{SBlock, SEnd, RightTree, RPlain, WireTree, AssignTree, Netlist}
use Rattle.net_core.specs.Value.{Env, word, nothing, value, right_value, stops}
use Rattle.net_core.specs.declared.design.Port as port
use Rattle.net_core.specs.Clock.{Stored, first_stored, env, env_of, net_value, memory_word_value}
use Rattle.net_core.specs.Names.{name_place}
use Rattle.net_core.specs.Ports.{words_of, AreInputs, FitInputs}
use Rattle.net_core.specs.Width.{port_width, register_widths, memory_widths, memory_width, net_width, scope, scope_before, full_scope, wire_widths, same, width_of, right_width}
use Rattle.net_core.specs.Suits.{IsOfWidth, Suits}
use Rattle.net_core.proofs.WireLaws.{width_at, length_widths}
use Rattle.net_core.proofs.WidthLaws.{value_fits, right_fits}
use Rattle.design_rules.specs.FormedScope.{is_output}
use Rattle.design_rules.specs.Formed.{IsWellFormed}
use Rattle.design_rules.proofs.FormedItemLaws.{wire_kept, assign_kept, block_kept, last_kept}
use Rattle.design_rules.proofs.FormedWidthLaws.{typed, ports_listed, same_some}
use Rattle.list_laws.proofs.PlaceLaws.{some_below}
use Rattle.clock_sim.specs.Ready.{ArePorts, IsStored}
use Rattle.clock_sim.proofs.FitLaws.{ports_fit}
use Rattle.clock_sim.proofs.StoredLaws.{first_is_stored}
use Rattle.clock_sim.proofs.ReadableLaws.{all_suit}
use Rattle.event_sim.specs.Events.{State, right_sides, net_count, no_right, no_assign, net_named, event_value, value_at, right_side, fired}
use Rattle.event_sim.specs.Readable.{IsReadable, IsRight, AreBlocks}
use Rattle.event_sim.specs.Inside.{assigned_width, net_widths, IsState}
use Rattle.event_sim.proofs.Settling.{no_wire, wire_right, assign_right}
use Rattle.event_sim.proofs.Ended.{IsFormed}

-- both sides of an assignment have one width
sides_same : (a b : ℕ) → same a b ≡ true → a ≡ b
sides_same a b h = eqb-true a b (and_parts (nat_lt 0 a) (a == b) h).1

-- ---- the widths of nets
pub widths_counted : (d : Netlist) → length (net_widths d) ≡ net_count d
widths_counted d = omega (arith, length-append (wire_widths d.wires) (map (assigned_width d) d.assigns), length_widths d.wires, length-map d.assigns (assigned_width d))

pub wire_width : (d : Netlist) (n : ℕ) (w : WireTree) → n < length d.wires → get_or (net_widths d) n 0 ≡ (get_or d.wires n w).width
wire_width d n w l = get_or_append_left (wire_widths d.wires) (map (assigned_width d) d.assigns) 0 n (omega (arith, l, length_widths d.wires)) ∙ width_at d.wires n w l

pub assign_width : (d : Netlist) (n : ℕ) (a : AssignTree) → length d.wires ≤ n → n < net_count d → get_or (net_widths d) n 0 ≡ assigned_width d (get_or d.assigns (n - length d.wires) a)
assign_width d n a l m =
    get_or-append_right (wire_widths d.wires) (map (assigned_width d) d.assigns) (length d.wires) n 0 (length_widths d.wires) l
    ∙ get_or-map (assigned_width d) d.assigns (n - length d.wires) a 0 (omega arith)

-- the value of a right side fits, also where a divisor is zero
event_fits : {N : Type 0} (v : Env N) (r : RightTree N) (w : ℕ) → IsOfWidth w (right_value v r) → IsOfWidth w (event_value v r)
event_fits v r w f = by_test (stops v r)
  where
    by_test : (b : Bool) → IsOfWidth w (if b then word (right_value v r).width 0 else right_value v r)
    by_test true = record { width = f.width; fits = record { some = f.fits.some; most = f.fits.most; small = pow_pos (right_value v r).width } }
    by_test false = f

output_there : (ports : List port.Port) (k : ℕ) → is_output ports k ≡ true → k < length ports
output_there ports k h = elim (cases_lt k (length ports)) [
  | inl below ↦ below
  | inr past ↦ let e = ap (λ (p : port.Port). p.output) (get_or_past ports k (record { output = false; width = 0 }) past) in absurd (false≢true (sym e ∙ h))
]

module _ (s : State) (is : IsState s) where
  pub formed_of : IsFormed s
  formed_of = record { formed = is.formed; count = is.count }

  net_fits : (n k : ℕ) → 0 < get_or (take n (wire_widths s.netlist.wires)) k 0 → IsOfWidth (get_or (take n (wire_widths s.netlist.wires)) k 0) (get_or s.nets k nothing)
  net_fits n k h =
      let widths = wire_widths s.netlist.wires in
      let below = some_below (λ m. m) 0 (take n widths) k refl h in
      let long = length-take n widths in
      let count = length_widths s.netlist.wires in
      let same : get_or (take n widths) k 0 ≡ get_or widths k 0 = get_or-take n widths k 0 (omega arith) in
      let whole : get_or (net_widths s.netlist) k 0 ≡ get_or widths k 0 = get_or_append_left widths (map (assigned_width s.netlist) s.netlist.assigns) 0 k (omega arith) in
      subst (λ w. IsOfWidth w (get_or s.nets k nothing)) (whole ∙ sym same) (is.fit k (omega arith))

  net_at : (n : ℕ) (k : Net) → 0 < net_width s.netlist (take n (wire_widths s.netlist.wires)) k → IsOfWidth (net_width s.netlist (take n (wire_widths s.netlist.wires)) k) (net_value s.ins s.stored s.nets k)
  net_at n (net.Port k) h =
      subst (λ ps. 0 < port_width ps k → IsOfWidth (port_width ps k) (get_or s.ins k nothing)) (sym (ports_listed s.netlist is.formed)) (is.ports.fit k) h
  net_at n (net.Register k) h = is.stored.register k (some_below (λ m. m) 0 (register_widths s.netlist.declared) k refl h)
  net_at n (net.Memory k) h = absurd (omega (arith, h))
  net_at n (net.Wire k) h = net_fits n k h

  memory_word_at : (m : Net) (a : ℕ) → 0 < (memory_width s.netlist m).1 → a < 2 ^ (memory_width s.netlist m).0 → IsOfWidth (memory_width s.netlist m).1 (memory_word_value s.stored m a)
  memory_word_at (net.Port k) a h lt = absurd (omega (arith, h))
  memory_word_at (net.Register k) a h lt = absurd (omega (arith, h))
  memory_word_at (net.Memory k) a h lt = (is.stored.memory k (some_below (λ (p : ℕ × ℕ). p.1) (0, 0) (memory_widths s.netlist.declared) k refl h)).fit a lt
  memory_word_at (net.Wire k) a h lt = absurd (omega (arith, h))

  -- what can be read where so many wires stand before
  suits : (n : ℕ) → Suits (scope_before s.netlist n) (env s.ins s.stored s.nets)
  suits n = record { net = net_at n; memory_word = memory_word_at }

  suits_all : Suits (full_scope s.netlist) (env s.ins s.stored s.nets)
  suits_all =
      subst (λ ws. Suits (scope s.netlist ws) (env s.ins s.stored s.nets)) (take_all (length (wire_widths s.netlist.wires)) (wire_widths s.netlist.wires) (omega arith))
      (suits (length (wire_widths s.netlist.wires)))

  -- ---- wires and assigns
  module _ (n : ℕ) (w : WireTree) (l : n < length s.netlist.wires) (e : w ≡ get_or s.netlist.wires n w) where
    wire_sides : same w.width (right_width (scope_before s.netlist n) w.right) ≡ true
    wire_sides = (and_parts (same w.width (right_width (scope_before s.netlist n) w.right)) (nat_le w.width 64) (wire_kept s.netlist is.formed n w l e).fits).0

    pub wire_read : IsRight (env s.ins s.stored s.nets) w.right
    wire_read = record { scope = scope_before s.netlist n; suits = suits n; typed = (same_some w.width (right_width (scope_before s.netlist n) w.right) wire_sides).1 }

    wire_value_fits : IsOfWidth w.width (event_value (env s.ins s.stored s.nets) w.right)
    wire_value_fits =
        let typed = (same_some w.width (right_width (scope_before s.netlist n) w.right) wire_sides).1 in
        event_fits (env s.ins s.stored s.nets) w.right w.width
        (subst (λ m. IsOfWidth m (right_value (env s.ins s.stored s.nets) w.right)) (sym (sides_same w.width (right_width (scope_before s.netlist n) w.right) wire_sides)) (right_fits (scope_before s.netlist n) (env s.ins s.stored s.nets) (suits n) w.right typed))

  module _ (k : ℕ) (a : AssignTree) (l : k < length s.netlist.assigns) (e : a ≡ get_or s.netlist.assigns k a) where
    assign_sides : same (assigned_width s.netlist a) (width_of (full_scope s.netlist) a.value) ≡ true
    assign_sides = (assign_kept s.netlist is.formed k a l e).fits

    pub assign_read : IsReadable (env s.ins s.stored s.nets) a.value
    assign_read = record { scope = full_scope s.netlist; suits = suits_all; typed = (same_some (assigned_width s.netlist a) (width_of (full_scope s.netlist) a.value) assign_sides).1 }

    assign_value_fits : IsOfWidth (assigned_width s.netlist a) (value (env s.ins s.stored s.nets) a.value)
    assign_value_fits =
        let typed = (same_some (assigned_width s.netlist a) (width_of (full_scope s.netlist) a.value) assign_sides).1 in
        subst (λ m. IsOfWidth m (value (env s.ins s.stored s.nets) a.value)) (sym (sides_same (assigned_width s.netlist a) (width_of (full_scope s.netlist) a.value) assign_sides)) (value_fits (full_scope s.netlist) (env s.ins s.stored s.nets) suits_all a.value typed)

  -- ---- an event
  right_side_is : (n : ℕ) (r : RightTree Net) → get_or (right_sides s.netlist) n no_right ≡ r → right_side s n ≡ event_value (env s.ins s.stored s.nets) r
  unfolding value_at
  right_side_is n r e = ap (event_value (env s.ins s.stored s.nets)) e

  pub wire_side : (n : ℕ) (w : WireTree) → n < length s.netlist.wires → w ≡ get_or s.netlist.wires n w → right_side s n ≡ event_value (env s.ins s.stored s.nets) w.right
  wire_side n w l e = right_side_is n w.right (wire_right s.netlist n w l ∙ ap (λ (x : WireTree). x.right) (sym e))

  pub assign_side : (n : ℕ) (a : AssignTree) → length s.netlist.wires ≤ n → n < net_count s.netlist → a ≡ get_or s.netlist.assigns (n - length s.netlist.wires) a → right_side s n ≡ value (env s.ins s.stored s.nets) a.value
  assign_side n a l m e = right_side_is n (RPlain a.value) (assign_right s.netlist n a l m ∙ ap (λ (x : AssignTree). RPlain x.value) (sym e))

  side_fits : (n : ℕ) → n < net_count s.netlist → IsOfWidth (get_or (net_widths s.netlist) n 0) (right_side s n)
  side_fits n m = elim (cases_lt n (length s.netlist.wires)) [
    | inl l ↦
        let w = get_or s.netlist.wires n no_wire in
        let e = get_or_default s.netlist.wires n no_wire w l in
        subst (λ x. IsOfWidth (get_or (net_widths s.netlist) n 0) x) (sym (wire_side n w l e)) (subst (λ k. IsOfWidth k (event_value (env s.ins s.stored s.nets) w.right)) (sym (wire_width s.netlist n no_wire l)) (wire_value_fits n w l e))
    | inr l ↦
        let k = n - length s.netlist.wires in
        let inside : k < length s.netlist.assigns = omega arith in
        let a = get_or s.netlist.assigns k no_assign in
        let e = get_or_default s.netlist.assigns k no_assign a inside in
        subst (λ x. IsOfWidth (get_or (net_widths s.netlist) n 0) x) (sym (assign_side n a l m e)) (subst (λ j. IsOfWidth j (value (env s.ins s.stored s.nets) a.value)) (sym (assign_width s.netlist n no_assign l m)) (assign_value_fits k a inside e))
  ]

  pub fired_state : (n : ℕ) → n < net_count s.netlist → IsState (fired s n)
  fired_state n l = record {
    formed = is.formed;
    room = is.room;
    ports = is.ports;
    stored = is.stored;
    count = length-set s.nets n (right_side s n) ∙ is.count;
    fit = λ k m. elim (cases_eq k n) [
      | inl e ↦
          let inside : n < length s.nets = let c = is.count in omega arith in
          subst (λ j. IsOfWidth (get_or (net_widths s.netlist) j 0) (get_or (slice_set s.nets n (right_side s n)) j nothing)) (sym e)
          (subst (λ x. IsOfWidth (get_or (net_widths s.netlist) n 0) x) (sym (get_or-set_same s.nets n (right_side s n) nothing inside)) (side_fits n l))
      | inr ne ↦ subst (λ x. IsOfWidth (get_or (net_widths s.netlist) k 0) x) (sym (get_or-set_other s.nets n k (right_side s n) nothing ne)) (is.fit k m)
    ];
    few = is.few;
  }

  -- ---- always blocks
  pub blocks_read : AreBlocks (env s.ins s.stored s.nets) s.netlist.always
  blocks_read k l =
      let a = get_or s.netlist.always k (SBlock SEnd) in
      record {
        scope = full_scope s.netlist;
        registers = register_widths s.netlist.declared;
        memories = memory_widths s.netlist.declared;
        suits = suits_all;
        typed = (block_kept s.netlist is.formed k a l (get_or_default s.netlist.always k (SBlock SEnd) a l)).fits;
      }

  -- ---- other inputs, other registers and memories
  pub with_inputs : (ins : List Word) → length ins ≡ PORT_COUNT → ArePorts ins → IsState (record s { ins = ins })
  with_inputs ins room ports = record { formed = is.formed; room = room; ports = ports; stored = is.stored; count = is.count; fit = is.fit; few = is.few }

  pub with_stored : (t : Stored) → IsStored s.netlist.declared t → IsState (record s { stored = t })
  with_stored t stored = record { formed = is.formed; room = is.room; ports = is.ports; stored = stored; count = is.count; fit = is.fit; few = is.few }

  -- ---- names
  pub named : (n : ℕ) → n < net_count s.netlist → name_place s.netlist (net_named s.netlist n) < length s.netlist.names
  named n l = by_test (nat_lt n (length s.netlist.wires)) refl
    where
      count : length s.netlist.names ≡ length s.netlist.ports + length s.netlist.declared + length s.netlist.wires
      count = (last_kept s.netlist is.formed).names

      by_test : (b : Bool) → nat_lt n (length s.netlist.wires) ≡ b → name_place s.netlist (if b then net.Wire n else net.Port (get_or s.netlist.assigns (n - length s.netlist.wires) no_assign).port) < length s.netlist.names
      by_test true e = let below = ltb-true n (length s.netlist.wires) e in omega (arith, count, below)
      by_test false e =
          let from = ltb-false n (length s.netlist.wires) e in
          let k = n - length s.netlist.wires in
          let inside : k < length s.netlist.assigns = omega (arith, l, from) in
          let a = get_or s.netlist.assigns k no_assign in
          let there = output_there s.netlist.ports a.port (assign_kept s.netlist is.formed k a inside (get_or_default s.netlist.assigns k no_assign a inside)).output in
          omega (arith, count, there)

-- ---- inputs
pub words_counted : (i : Inputs) → length (words_of i) ≡ PORT_COUNT
words_counted i = refl

pub set_state : (s : State) → IsState s → (i : Inputs) → AreInputs i → FitInputs i → (ws : List Word) → ws ≡ words_of i → IsState (record s { ins = ws })
set_state s is i are fit ws e = subst (λ l. IsState (record s { ins = l })) (sym e) (with_inputs s is (words_of i) (words_counted i) (ports_fit i are fit))

pub silent_inputs : AreInputs SILENT
silent_inputs = record { bytes = omega arith; map = omega arith; word = omega arith }

-- ---- the first state
pub first_state : (d : Netlist) → IsWellFormed d → net_count d ≤ 2 ^ 32 → (ins nets : List Word) (t : Stored) → ArePorts ins → length ins ≡ PORT_COUNT → IsStored d.declared t → nets ≡ map (λ w. word w 0) (net_widths d) → IsState (record { netlist = d; ins = ins; stored = t; nets = nets })
first_state d formed few ins nets t ports room stored zeros = record {
  formed = formed;
  room = room;
  ports = ports;
  stored = stored;
  count = ap length zeros ∙ length-map (net_widths d) (λ w. word w 0) ∙ widths_counted d;
  fit = λ n l.
      let inside : n < length (net_widths d) = omega (arith, l, widths_counted d) in
      let at : get_or nets n nothing ≡ word (get_or (net_widths d) n 0) 0 = ap (λ ws. get_or ws n nothing) zeros ∙ get_or-map (λ w. word w 0) (net_widths d) n 0 nothing inside in
      subst (λ x. IsOfWidth (get_or (net_widths d) n 0) x) (sym at) (zero_fits (get_or (net_widths d) n 0) (width_fits n l));
  few = few;
}
  where
    zero_fits : (w : ℕ) → (0 < w) × (w ≤ 64) → IsOfWidth w (word w 0)
    zero_fits w f = record { width = refl; fits = record { some = f.0; most = f.1; small = pow_pos w } }

    wire_fits_at : (n : ℕ) → n < length d.wires → (0 < get_or (net_widths d) n 0) × (get_or (net_widths d) n 0 ≤ 64)
    wire_fits_at n l =
        let w = get_or d.wires n no_wire in
        let kept = (wire_kept d formed n w l (get_or_default d.wires n no_wire w l)).fits in
        let p = and_parts (same w.width (right_width (scope_before d n) w.right)) (nat_le w.width 64) kept in
        let some = (same_some w.width (right_width (scope_before d n) w.right) p.0).0 in
        let most = leb-true w.width 64 p.1 in
        let is = wire_width d n no_wire l in
        (omega (arith, some, is), omega (arith, most, is))

    assign_fits_at : (n : ℕ) → length d.wires ≤ n → n < net_count d → (0 < get_or (net_widths d) n 0) × (get_or (net_widths d) n 0 ≤ 64)
    assign_fits_at n l m =
        let k = n - length d.wires in
        let inside : k < length d.assigns = omega (arith, l, m) in
        let a = get_or d.assigns k no_assign in
        let kept = (assign_kept d formed k a inside (get_or_default d.assigns k no_assign a inside)).fits in
        let some = same_some (assigned_width d a) (width_of (full_scope d) a.value) kept in
        let typed_d = typed d formed in
        let x = value_fits (full_scope d) (env_of d ins t) (all_suit d typed_d.ports ins ports t stored typed_d.wires) a.value some.1 in
        let width = x.width in
        let most = x.fits.most in
        let sides = sides_same (assigned_width d a) (width_of (full_scope d) a.value) kept in
        let is = assign_width d n no_assign l m in
        (omega (arith, some.0, is), omega (arith, most, width, sides, is))

    width_fits : (n : ℕ) → n < net_count d → (0 < get_or (net_widths d) n 0) × (get_or (net_widths d) n 0 ≤ 64)
    width_fits n l = elim (cases_lt n (length d.wires)) [ inl below ↦ wire_fits_at n below | inr from ↦ assign_fits_at n from l ]

pub opened : (d : Netlist) → IsWellFormed d → net_count d ≤ 2 ^ 32 → (ins nets : List Word) (t : Stored) → FitInputs SILENT → ins ≡ words_of SILENT → t ≡ first_stored d → nets ≡ map (λ w. word w 0) (net_widths d) → IsState (record { netlist = d; ins = ins; stored = t; nets = nets })
opened d formed few ins nets t fit inputs held zeros =
    first_state d formed few ins nets t (subst ArePorts (sym inputs) (ports_fit SILENT silent_inputs fit)) (ap length inputs ∙ words_counted SILENT) (subst (IsStored d.declared) (sym held) (first_is_stored d.declared (typed d formed).declared)) zeros
