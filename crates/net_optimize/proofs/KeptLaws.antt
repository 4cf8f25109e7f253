-- A design of which wires and registers are dropped shows what it showed with them, where it reads what is there: it then reads none that is dropped.
use Rattle.std.specs.Prelude.{◌≡◌, ℕ, suc, ◌+◌, ◌<◌, ◌≤◌, if◌then◌else◌, Bool, true, false, Option, Some, None, List, [], ◌∷◌, length, map}
use Rattle.std.proofs.Common.{get_or, refl, sym, ap, ◌∙◌, subst, arith, zero-add}
use Rattle.std.proofs.lemmas.Bool.{ltb-true}
use Rattle.std.proofs.lemmas.List.{length-map}
use Rattle.net_core.specs.declared.tree.Word.{Word}
use Rattle.net_core.specs.declared.tree.Net.{Net}
use Rattle.net_core.specs.declared.tree.Net.TheVariants as net
use Rattle.net_core.specs.Nets.{StatementTree, WireTree, AssignTree, Netlist}
use Rattle.net_core.specs.Value.{nothing, Env, right_value, stops}
use Rattle.net_core.specs.Clock.{Stored, edge, memory_word_value, env, stopped_at, rights, assigned}
use Rattle.design_rules.specs.FormedSyntax.{trees_pass}
use Rattle.design_rules.specs.FormedScope.{Sorts, reads_known, right_known, is_value, sorts, registers_of}
use Rattle.block_core.specs.Rename.{rename_right}
use Rattle.register_rules.specs.EqualRegisters.Equal.{AreEqual}
use Rattle.net_optimize.specs.Folding.{SectionTrees}
use Rattle.net_optimize.specs.Reading.{ReadsWhatIsThere}
use Rattle.net_optimize.specs.Renumber.{dropped, numbers, kept, kept_stored, NewNumbers, renumber, renumber_wire, renumber_assign}
use Rattle.net_optimize.specs.Short.{new_numbers, IsShort}
use Rattle.design_rules.specs.SolvedWires.Solving.{Solves}
use Rattle.net_optimize.proofs.KeptLists.{length_kept_same, placed, registers_counted}
use Rattle.net_optimize.proofs.SameValues.{value_same, right_same, stops_same}
use Rattle.net_optimize.proofs.StatementLaws.{edge_same}

-- right sides that have the values that they had, and stop where they stopped
abbrev AllSame : (Net → Net) → Env Net → Env Net → List WireTree → Type 0
AllSame f v2 v [] = Unit {0}
AllSame f v2 v (w ∷ ws) = (right_value v2 (rename_right f w.right) ≡ right_value v w.right) × (stops v2 (rename_right f w.right) ≡ stops v w.right) × AllSame f v2 v ws

-- these words, from a wire on, are the values of wires
abbrev Follows : Env Net → ℕ → List Word → Type 0
Follows v at ws = (i : ℕ) → v.net (net.Wire (at + i)) ≡ get_or ws i nothing

follows_first : (v : Env Net) (at : ℕ) (w : Word) (ws : List Word) → Follows v at (w ∷ ws) → v.net (net.Wire at) ≡ w
follows_first v at w ws h = ap (λ n. v.net (net.Wire n)) (omega arith) ∙ h 0

follows_rest : (v : Env Net) (at : ℕ) (w : Word) (ws : List Word) → Follows v at (w ∷ ws) → Follows v (suc at) ws
follows_rest v at w ws h i = ap (λ n. v.net (net.Wire n)) (omega arith) ∙ h (suc i)

not_stopped : (stop : Bool) (at : ℕ) (later : Option ℕ) → (if stop then Some at else later) ≡ None → (stop ≡ false) × (later ≡ None)
not_stopped true at later h = cc
not_stopped false at later h = (refl, h)

module _ (ns : NewNumbers) (v2 v : Env Net) where
  solves_from : (ks : List Bool) (xs : List WireTree) (ws : List Word) (at to : ℕ) → length ks ≡ length ws → AllSame (renumber ns) v2 v (kept ks xs) → Follows v at ws → Follows v2 to (kept ks ws)
      → Solves v at xs → Solves v2 to (map (renumber_wire ns) (kept ks xs))
  solves_from [] xs ws at to l same old new h = tt
  solves_from (k ∷ ks) [] ws at to l same old new h = tt
  solves_from (k ∷ ks) (x ∷ xs) [] at to l same old new h = absurd (omega arith)
  solves_from (true ∷ ks) (x ∷ xs) (w ∷ ws) at to l same old new h = (
    same.0 ∙ h.0 ∙ follows_first v at w ws old ∙ sym (follows_first v2 to w (kept ks ws) new),
    solves_from ks xs ws (suc at) (suc to) (omega arith) same.2 (follows_rest v at w ws old) (follows_rest v2 to w (kept ks ws) new) h.1,
  )
  solves_from (false ∷ ks) (x ∷ xs) (w ∷ ws) at to l same old new h = solves_from ks xs ws (suc at) to (omega arith) same (follows_rest v at w ws old) new h.1

  stopped_from : (ks : List Bool) (xs : List WireTree) (at to : ℕ) → AllSame (renumber ns) v2 v (kept ks xs) → stopped_at v at (rights xs) ≡ None → stopped_at v2 to (rights (map (renumber_wire ns) (kept ks xs))) ≡ None
  stopped_from [] xs at to same h = refl
  stopped_from (k ∷ ks) [] at to same h = refl
  stopped_from (true ∷ ks) (x ∷ xs) at to same h =
      let g = not_stopped (stops v x.right) at (stopped_at v (suc at) (rights xs)) h in
      let z : stops v2 (rename_right (renumber ns) x.right) ≡ false = same.1 ∙ g.0 in
      rw z (stopped_from ks xs (suc at) (suc to) same.2 g.1)
  stopped_from (false ∷ ks) (x ∷ xs) at to same h = stopped_from ks xs (suc at) to same (not_stopped (stops v x.right) at (stopped_at v (suc at) (rights xs)) h).1

module _ (a b : Netlist) (short : SectionTrees) (firsts : List ℕ) (k : IsShort a short firsts b) (formed : ReadsWhatIsThere b)
    (ins : List Word) (s : Stored) (equal : AreEqual a firsts s) (ws : List Word) (fit : length ws ≡ length short.wires) where
  abbrev ks : List Bool
  ks = k.wires_kept

  abbrev rs : List Bool
  rs = k.registers_kept

  abbrev ns : NewNumbers
  ns = new_numbers ks rs firsts

  abbrev f : Net → Net
  f = renumber ns

  abbrev v : Env Net
  v = env ins s ws

  abbrev v2 : Env Net
  v2 = env ins (kept_stored rs s) (kept ks ws)

  pub length-kept : length b.wires ≡ length (kept k.wires_kept ws)
  length-kept = ap length k.wires ∙ length-map (kept ks short.wires) (renumber_wire ns) ∙ length_kept_same ks short.wires ws k.all_wires (k.all_wires ∙ sym fit)

  count_kept : registers_of b ≡ length (kept rs s.registers)
  count_kept = registers_counted b.declared ∙ ap length k.words ∙ length_kept_same rs _ s.registers k.all_registers (k.all_registers ∙ sym equal.count)

  nets : (before : ℕ) → before ≤ length b.wires → (n : Net) → is_value b before (f n) ≡ true → v2.net (f n) ≡ v.net n
  nets before l (net.Port i) h = refl
  nets before l (net.Register i) h =
      let first = get_or firsts i i in
      let below : get_or (numbers 0 rs) first dropped < registers_of b = ltb-true _ (registers_of b) h in
      let p = placed rs s.registers nothing 0 first (k.all_registers ∙ sym equal.count) (omega (arith, k.few_registers)) (omega (arith, below, count_kept)) in
      ap (λ n. get_or (kept rs s.registers) n nothing) (p.is ∙ zero-add p.place) ∙ p.same ∙ sym (equal.same i)
  nets before l (net.Memory i) h = refl
  nets before l (net.Wire i) h =
      let below : get_or (numbers 0 ks) i dropped < before = ltb-true _ before h in
      let p = placed ks ws nothing 0 i (k.all_wires ∙ sym fit) (omega (arith, k.few_wires)) (omega (arith, below, l, length-kept)) in
      ap (λ n. get_or (kept ks ws) n nothing) (p.is ∙ zero-add p.place) ∙ p.same

  words : (m : Net) (i : ℕ) → memory_word_value (kept_stored rs s) (f m) i ≡ memory_word_value s m i
  words (net.Port n) i = refl
  words (net.Register n) i = refl
  words (net.Memory n) i = refl
  words (net.Wire n) i = refl

  all_same : (xs : List WireTree) (at : ℕ) → at + length xs ≤ length b.wires
      → ((i : ℕ) (w : WireTree) → i < length (map (renumber_wire ns) xs) → w ≡ get_or (map (renumber_wire ns) xs) i w → right_known (sorts b (at + i)) w.right ≡ true) → AllSame f v2 v xs
  all_same [] at l h = tt
  all_same (x ∷ xs) at l h =
      let e : right_known (sorts b at) (rename_right f x.right) ≡ true = ap (λ n. right_known (sorts b n) (rename_right f x.right)) (omega arith) ∙ h 0 (renumber_wire ns x) (omega arith) refl in (
        right_same (sorts b at) f v2 v (nets at (omega arith)) words x.right e,
        stops_same (sorts b at) f v2 v (nets at (omega arith)) words x.right e,
        all_same xs (suc at) (omega arith) (λ i w below is. ap (λ n. right_known (sorts b n) w.right) (omega arith) ∙ h (suc i) w (omega arith) is),
      )

  kept_same : AllSame f v2 v (kept ks short.wires)
  kept_same =
      let P : List WireTree → Type 0 = λ xs. (i : ℕ) (w : WireTree) → i < length xs → w ≡ get_or xs i w → right_known (sorts b (0 + i)) w.right ≡ true in
      all_same (kept ks short.wires) 0 (omega (arith, ap length k.wires, length-map (kept ks short.wires) (renumber_wire ns)))
      (subst P k.wires (λ i w l e. ap (λ n. right_known (sorts b n) w.right) (zero-add i) ∙ formed.wires i w l e))

  pub solves-kept : Solves (env ins s ws) 0 short.wires → Solves (env ins (kept_stored k.registers_kept s) (kept k.wires_kept ws)) 0 b.wires
  solves-kept h = subst (Solves v2 0) (sym k.wires)
      (solves_from ns v2 v ks short.wires ws 0 0 (k.all_wires ∙ sym fit) kept_same (λ i. ap (λ n. get_or ws n nothing) (zero-add i)) (λ i. ap (λ n. get_or (kept ks ws) n nothing) (zero-add i)) h)

  pub stopped_at-kept : stopped_at (env ins s ws) 0 (rights short.wires) ≡ None → stopped_at (env ins (kept_stored k.registers_kept s) (kept k.wires_kept ws)) 0 (rights b.wires) ≡ None
  stopped_at-kept h = rw k.wires (stopped_from ns v2 v ks short.wires 0 0 kept_same h)

  abbrev all : Sorts Net
  all = sorts b (length b.wires)

  assigned_from : (xs : List AssignTree) → ((i : ℕ) (x : AssignTree) → i < length (map (renumber_assign ns) xs) → x ≡ get_or (map (renumber_assign ns) xs) i x → reads_known all x.value ≡ true)
      → (port : ℕ) → assigned v2 (map (renumber_assign ns) xs) port ≡ assigned v xs port
  assigned_from [] h port = refl
  assigned_from (x ∷ xs) h port =
      let y = value_same all f v2 v (nets (length b.wires) (omega arith)) words x.value (h 0 (renumber_assign ns x) (omega arith) refl) in
      let z = assigned_from xs (λ i x l e. h (suc i) x (omega arith) e) port in
      rw (y, z)

  pub assigned-kept : (port : ℕ) → assigned (env ins (kept_stored k.registers_kept s) (kept k.wires_kept ws)) b.assigns port ≡ assigned (env ins s ws) short.assigns port
  assigned-kept port =
      let P : List AssignTree → Type 0 = λ xs. (i : ℕ) (x : AssignTree) → i < length xs → x ≡ get_or xs i x → reads_known all x.value ≡ true in
      ap (λ xs. assigned v2 xs port) k.assigns ∙ assigned_from short.assigns (subst P k.assigns (λ i x l e. formed.assigns i x l e)) port

  pub edge-kept : edge (env ins (kept_stored k.registers_kept s) (kept k.wires_kept ws)) b.always (kept_stored k.registers_kept s) ≡ kept_stored k.registers_kept (edge (env ins s ws) short.always s)
  edge-kept =
      let P : List (StatementTree Net) → Type 0 = λ xs. (i : ℕ) (x : StatementTree Net) → i < length xs → x ≡ get_or xs i x → trees_pass (reads_known all) x ≡ true in
      ap (λ xs. edge v2 xs (kept_stored rs s)) k.always
      ∙ edge_same ks rs firsts k.few_registers all v2 v (nets (length b.wires) (omega arith)) words short.always s
      (subst P k.always (λ i x l e. formed.always i x l e))
