-- In a clock of a typed design all is readable, and fits.
use Rattle.std.specs.Prelude.{nat_le, ◌==◌, if◌then◌else◌, IsTrue}
use Rattle.std.proofs.Common.{◌≡◌, ℕ, ◌^◌, ◌<◌, Bool, true, false, ◌&&◌, List, [], ◌∷◌, ◌++◌, length, get_or, refl, sym, ap, ◌∙◌, subst, arith, ⊎_elim}
use Rattle.std.proofs.lemmas.Bool.{and_parts, cases_lt, eqb-true}
use Rattle.std.proofs.lemmas.List.{get_or_append_left, get_or_at, get_or_past, append-nil, append_assoc, length_push}
use Rattle.std.proofs.lemmas.Nat.{pow_pos}
use Rattle.net_core.specs.declared.tree.Word.{Word}
use Rattle.net_core.specs.declared.tree.Net.{Net}
use Rattle.net_core.specs.declared.tree.Net.TheVariants as net
use Rattle.net_core.specs.Nets.{Netlist, WireTree, AssignTree, StatementTree}
use Rattle.net_core.specs.Value.{nothing, value, right_value}
use Rattle.net_core.specs.Width.{port_width, output_width, register_widths, memory_widths, net_width, memory_width, scope, full_scope, wire_widths, wires_typed, same, width_of, right_width, statement_typed, statements_all_typed, assigns_typed}
use Rattle.net_core.specs.Clock.{Stored, net_value, memory_word_value, env, env_of, with_wires, edge, after, assigned}
use Rattle.net_core.specs.Ports.{port_list, FitOutputs}
use Rattle.net_core.specs.Suits.{IsOfWidth, Suits}
use Rattle.net_core.proofs.WidthLaws.{value_fits, right_fits}
use Rattle.list_laws.proofs.PlaceLaws.{some_below}
use Rattle.clock_sim.specs.Ready.{ArePorts, IsStored}
use Rattle.clock_sim.proofs.StoredLaws.{same_sides, done_kept}

-- what has a width is there
pair_there : (ns : List (ℕ × ℕ)) (i : ℕ) → 0 < (get_or ns i (0, 0)).1 → i < length ns
pair_there ns i h = ⊎_elim (λ lt. lt) (λ le. let e = ap (λ (p : ℕ × ℕ). p.1) (get_or_past ns i (0, 0) le) in absurd (omega (arith, e, h))) (cases_lt i (length ns))

-- these words have these widths
pub record AreOfWidths (ns : List ℕ) (ws : List Word) : Type 0 where
  pub count : length ws ≡ length ns
  pub fit : (k : ℕ) → k < length ns → IsOfWidth (get_or ns k 0) (get_or ws k nothing)

one_wire : (ns : List ℕ) (ws : List Word) (n : ℕ) (w : Word) → AreOfWidths ns ws → IsOfWidth n w → AreOfWidths (ns ++ n ∷ []) (ws ++ w ∷ [])
one_wire ns ws n w h f = record {
  count = length_push ws w ∙ (let c = h.count in omega (arith, length_push ns n));
  fit = λ k lt. ⊎_elim (λ before. rw (get_or_append_left ns (n ∷ []) 0 k before, get_or_append_left ws (w ∷ []) nothing k (inside k before)) (h.fit k before)) (λ from. last k (omega (arith, length_push ns n))) (cases_lt k (length ns));
}
  where
    inside : (k : ℕ) → k < length ns → k < length ws
    inside k lt = let c = h.count in omega arith

    last : (k : ℕ) → length ns ≡ k → IsOfWidth (get_or (ns ++ n ∷ []) k 0) (get_or (ws ++ w ∷ []) k nothing)
    last k e = rw (get_or_at ns n [] 0 k e, get_or_at ws w [] nothing k (h.count ∙ e)) f

module _ (d : Netlist) (ports : d.ports ≡ port_list) (ins : List Word) (are : ArePorts ins) (s : Stored) (stored : IsStored d.declared s) where
  port_at : (k : ℕ) → 0 < port_width d.ports k → IsOfWidth (port_width d.ports k) (get_or ins k nothing)
  port_at k = subst (λ ps. 0 < port_width ps k → IsOfWidth (port_width ps k) (get_or ins k nothing)) (sym ports) (are.fit k)

  net_at : (ns : List ℕ) (ws : List Word) → AreOfWidths ns ws → (n : Net) → 0 < net_width d ns n → IsOfWidth (net_width d ns n) (net_value ins s ws n)
  net_at ns ws f (net.Port k) h = port_at k h
  net_at ns ws f (net.Register k) h = stored.register k (some_below (λ n. n) 0 (register_widths d.declared) k refl h)
  net_at ns ws f (net.Memory k) h = absurd (omega (arith, h))
  net_at ns ws f (net.Wire k) h = f.fit k (some_below (λ n. n) 0 ns k refl h)

  memory_word_at : (m : Net) (a : ℕ) → 0 < (memory_width d m).1 → a < 2 ^ (memory_width d m).0 → IsOfWidth (memory_width d m).1 (memory_word_value s m a)
  memory_word_at (net.Port k) a h lt = absurd (omega (arith, h))
  memory_word_at (net.Register k) a h lt = absurd (omega (arith, h))
  memory_word_at (net.Memory k) a h lt = (stored.memory k (pair_there (memory_widths d.declared) k h)).fit a lt
  memory_word_at (net.Wire k) a h lt = absurd (omega (arith, h))

  suits_at : (ns : List ℕ) (ws : List Word) → AreOfWidths ns ws → Suits (scope d ns) (env ins s ws)
  suits_at ns ws f = record { net = net_at ns ws f; memory_word = memory_word_at }

  -- ---- wires
  walk : (ns : List ℕ) (ws : List Word) (rest : List WireTree) → AreOfWidths ns ws → IsTrue (wires_typed d ns rest) → AreOfWidths (ns ++ wire_widths rest) (with_wires ins s ws rest)
  walk ns ws [] f h = subst (λ l. AreOfWidths l ws) (sym (append-nil ns)) f
  walk ns ws (w ∷ rest) f h =
      let p = and_parts (same w.width (right_width (scope d ns) w.right) && nat_le w.width 64) (wires_typed d (ns ++ w.width ∷ []) rest) h in
      let q = and_parts (same w.width (right_width (scope d ns) w.right)) (nat_le w.width 64) p.0 in
      let r = same_sides w.width (right_width (scope d ns) w.right) q.0 in
      let some : 0 < right_width (scope d ns) w.right = subst (λ k. 0 < k) r.is r.some in
      let x = right_fits (scope d ns) (env ins s ws) (suits_at ns ws f) w.right some in
      let t = walk (ns ++ w.width ∷ []) (ws ++ right_value (env ins s ws) w.right ∷ []) rest (one_wire ns ws w.width (right_value (env ins s ws) w.right) f (record { width = x.width ∙ sym r.is; fits = x.fits })) p.1 in
      subst (λ l. AreOfWidths l (with_wires ins s (ws ++ right_value (env ins s ws) w.right ∷ []) rest)) (append_assoc ns (w.width ∷ []) (wire_widths rest)) t

  none : AreOfWidths [] []
  none = record { count = refl; fit = λ k lt. absurd (omega arith) }

  module _ (wires : IsTrue (wires_typed d [] d.wires)) where
    pub all_suit : Suits (full_scope d) (env_of d ins s)
    all_suit = suits_at (wire_widths d.wires) (with_wires ins s [] d.wires) (walk [] [] d.wires none wires)

    -- ---- statements
    side : (n m : ℕ) → IsTrue (same n m) → 0 < m
    side n m h = let p = same_sides n m h in subst (λ k. 0 < k) p.is p.some

    edge_kept : (executes : List (StatementTree Net)) (t : Stored) → IsTrue (statements_all_typed d executes) → IsStored d.declared t → IsStored d.declared (edge (env_of d ins s) executes t)
    edge_kept [] t h k = k
    edge_kept (a ∷ rest) t h k =
        let p = and_parts (statement_typed (full_scope d) (register_widths d.declared) (memory_widths d.declared) a) (statements_all_typed d rest) h in
        edge_kept rest _ p.1 (done_kept (full_scope d) (env_of d ins s) all_suit d.declared a t p.0 k)

    pub after_stored : IsTrue (statements_all_typed d d.always) → IsStored d.declared (after d ins s)
    after_stored h = edge_kept d.always s h stored

    -- ---- outputs
    shown_small : (as_ : List AssignTree) → IsTrue (assigns_typed d as_) → (port : ℕ) → (assigned (env_of d ins s) as_ port).value < 2 ^ output_width (get_or d.ports port (record { output = false; width = 0 }))
    shown_small [] h port = pow_pos (output_width (get_or d.ports port (record { output = false; width = 0 })))
    shown_small (a ∷ rest) h port =
        let n = output_width (get_or d.ports a.port (record { output = false; width = 0 })) in
        let p = and_parts (same n (width_of (full_scope d) a.value)) (assigns_typed d rest) h in
        let r = same_sides n (width_of (full_scope d) a.value) p.0 in
        let x = value_fits (full_scope d) (env_of d ins s) all_suit a.value (side n (width_of (full_scope d) a.value) p.0) in
        by_test (a.port == port) refl (subst (λ k. (value (env_of d ins s) a.value).value < 2 ^ k) (x.width ∙ sym r.is) x.fits.small) (shown_small rest p.1 port)
      where
        by_test : (t : Bool) → (a.port == port) ≡ t → (value (env_of d ins s) a.value).value < 2 ^ output_width (get_or d.ports a.port (record { output = false; width = 0 })) → (assigned (env_of d ins s) rest port).value < 2 ^ output_width (get_or d.ports port (record { output = false; width = 0 })) → (if t then value (env_of d ins s) a.value else assigned (env_of d ins s) rest port).value < 2 ^ output_width (get_or d.ports port (record { output = false; width = 0 }))
        by_test true e x y = subst (λ k. (value (env_of d ins s) a.value).value < 2 ^ output_width (get_or d.ports k (record { output = false; width = 0 }))) (eqb-true a.port port e) x
        by_test false e x y = y

    pub outputs_fit : (as_ : List AssignTree) → IsTrue (assigns_typed d as_) → FitOutputs (λ port. (assigned (env_of d ins s) as_ port).value)
    outputs_fit as_ h port = subst (λ ps. (assigned (env_of d ins s) as_ port).value < 2 ^ output_width (get_or ps port (record { output = false; width = 0 }))) ports (shown_small as_ h port)
