-- A linked design breaks no rule of the subset.
use Rattle.std.specs.Prelude.{◌≡◌, ℕ, zero, suc, ◌+◌, ◌<◌, ◌≤◌, ◌==◌, nat_lt, nat_le, cond, Bool, true, false, ◌&&◌, ◌||◌, None, List, [], ◌∷◌, ◌++◌, length, map, take, count_by}
use Rattle.std.specs.List.{list_all}
use Rattle.std.proofs.Common.{get_or, not, refl, sym, ap, ◌∙◌, subst, append_assoc, length-append, arith, inl, inr}
use Rattle.std.proofs.lemmas.Bool.{and_parts, and_from, eqb-true, lt-ltb, eq-eqb}
use Rattle.std.proofs.lemmas.List.{append-nil}
use Rattle.std.proofs.lemmas.List.Recursion.{is_count_by}
use Rattle.list_laws.proofs.PlaceLaws.{some_below}
use Rattle.net_core.specs.declared.tree.Word.{Word}
use Rattle.net_core.specs.declared.tree.Net.{Net}
use Rattle.net_core.specs.declared.design.Port as port
use Rattle.net_core.specs.declared.design.Declared.{Declared}
use Rattle.net_core.specs.declared.design.Declared.TheVariants as declared
use Rattle.net_core.specs.Names.{is_integer}
use Rattle.net_core.specs.Nets.{StatementTree, AssignTree, Netlist}
use Rattle.net_core.specs.Ports.{port_list, port_names}
use Rattle.net_core.specs.Width.{width_of, right_width, same, statement_typed, register_widths, memory_widths, scope, full_scope, wire_widths, word_fits, declared_typed, output_width, assigns_typed, is_assigned, statements_all_typed, IsTyped}
use Rattle.net_core.proofs.WireLaws.{length_widths}
use Rattle.design_rules.specs.FormedSyntax.{tree_spelled, right_spelled, statement_spelled}
use Rattle.design_rules.specs.FormedScope.{sorts, reads_known, right_known, is_output, integer_known, registers_of as registers_in, memories_of as memories_in}
use Rattle.design_rules.specs.Formed.{first_broken, section_fault, first_fault, has_name, is_new, declared_place, wire_place, declared_fits, wire_fits, assign_fits, targets_free, block_known, block_fits, declared_rules, wire_rules, assign_rules, always_rules, last_rules, wires_start, assigns_start, always_start}
use Rattle.design_rules.proofs.FormedWidthLaws.{same_some}
use Rattle.block_core.specs.declared.name.Name.{Name}
use Rattle.block_core.specs.declared.block.BlockMemory.{BlockMemory}
use Rattle.block_core.specs.Blocks.{BlockTree, OutputTree, registers_of, memories_of, Whole, Among, start}
use Rattle.block_core.specs.Link.{resolve, link_output, all_registers, all_memories, all_statements, declare_register, declare_memory, link}
use Rattle.block_core.specs.Formed.{word_width, block_memory_width, block_registers, block_memories, names_scope, IsFormed}
use Rattle.block_core.proofs.GatheredLaws.{runs, length_map}
use Rattle.block_core.proofs.TypedLaws.{linked_is_typed}
use Rattle.block_core.specs.BlockForms.WellFormed.{output_spelled, is_shown, shown_once, IsSpelled, AreNames, LinkedIsWellFormed}
use Rattle.block_core.proofs.BlockForms.Rules.{four_kept, three_kept, section_none, no_faults}
use Rattle.block_core.proofs.BlockForms.Known.{tree_known, right_all_known, statement_known, register_there, memory_there, scope_holds, wires_at}
use Rattle.block_core.proofs.BlockForms.Spelled.{same_tree, same_statement, passes_at, tree_passes, all_wires_pass}
use Rattle.block_core.proofs.BlockForms.NamesLaws.{FreshAt, fresh_at, fresh_from}
use Rattle.block_core.proofs.BlockForms.Apart.{below, free_at}

-- ---- what is declared
fits_at : (ds : List Declared) → declared_typed ds ≡ true → (i : ℕ) (x : Declared) → i < length ds → x ≡ get_or ds i x → declared_fits x ≡ true
fits_at [] h i x l e = absurd (omega arith)
fits_at (declared.Integer ∷ ds) h zero x l e = ap declared_fits e
fits_at (declared.Integer ∷ ds) h (suc i) x l e = fits_at ds h i x (omega arith) e
fits_at (declared.Register w ∷ ds) h zero x l e = ap declared_fits e ∙ (and_parts (word_fits w) (declared_typed ds) h).0
fits_at (declared.Register w ∷ ds) h (suc i) x l e = fits_at ds (and_parts (word_fits w) (declared_typed ds) h).1 i x (omega arith) e
fits_at (declared.Memory k w n ∷ ds) h zero x l e =
    let p = and_parts (nat_le 1 k && nat_le k 16) (word_fits w && declared_typed ds) h in
    ap declared_fits e ∙ and_from (nat_le 1 k && nat_le k 16) (word_fits w) p.0 (and_parts (word_fits w) (declared_typed ds) p.1).0
fits_at (declared.Memory k w n ∷ ds) h (suc i) x l e =
    let p = and_parts (nat_le 1 k && nat_le k 16) (word_fits w && declared_typed ds) h in
    fits_at ds (and_parts (word_fits w) (declared_typed ds) p.1).1 i x (omega arith) e

-- an integer stands first, and fills every memory
abbrev is_filled : Declared → Bool
is_filled declared.Integer = true
is_filled (declared.Register w) = true
is_filled (declared.Memory i w n) = n == 0

memories_filled : (ms : List BlockMemory) → list_all is_filled (map declare_memory ms) ≡ true
memories_filled [] = refl
memories_filled (m ∷ ms) = memories_filled ms

all_filled : (rs : List Word) (ms : List BlockMemory) → list_all is_filled (map declare_register rs ++ map declare_memory ms) ≡ true
all_filled [] ms = memories_filled ms
all_filled (r ∷ rs) ms = all_filled rs ms

abbrev integers : List Declared → ℕ
integers [] = 0
integers (x ∷ xs) = cond (is_integer x) (1 + integers xs) (integers xs)

integer_first : (ds : List Declared) → nat_lt 0 (count_by is_integer (declared.Integer ∷ ds)) ≡ true
integer_first ds = let e = is_count_by integers is_integer refl (λ x xs. refl) (declared.Integer ∷ ds) in lt-ltb 0 (count_by is_integer (declared.Integer ∷ ds)) (omega (arith, e))

known_behind : (ds : List Declared) (x : Declared) → is_filled x ≡ true → integer_known (declared.Integer ∷ ds) x ≡ true
known_behind ds declared.Integer h = refl
known_behind ds (declared.Register w) h = refl
known_behind ds (declared.Memory i w n) h = ap (λ k. nat_lt k (count_by is_integer (declared.Integer ∷ ds))) (eqb-true n 0 h) ∙ integer_first ds

integers_known : (rest : List Declared) → list_all is_filled rest ≡ true → (i : ℕ) (x : Declared) → i < length (declared.Integer ∷ rest) → x ≡ get_or (declared.Integer ∷ rest) i x → integer_known (take i (declared.Integer ∷ rest)) x ≡ true
integers_known rest h zero x l e = ap (integer_known []) e
integers_known rest h (suc i) x l e = known_behind (take i rest) x (passes_at is_filled rest h i x (omega arith) e)

-- ---- outputs
abbrev lift : {P : Type 0} → Whole P → List (OutputTree (Name P)) → List AssignTree
lift d os = map (link_output (resolve d)) os

lifted : {P : Type 0} (d : Whole P) (os : List (OutputTree (Name P))) (k : ℕ) → is_assigned (lift d os) k ≡ is_shown os k
lifted d [] k = refl
lifted d (o ∷ os) k = ap (λ t. (o.port == k) || t) (lifted d os k)

lift_append : {P : Type 0} (d : Whole P) (xs ys : List (OutputTree (Name P))) → lift d (xs ++ ys) ≡ lift d xs ++ lift d ys
lift_append d [] ys = refl
lift_append d (x ∷ xs) ys = ap (λ l. link_output (resolve d) x ∷ l) (lift_append d xs ys)

once_at : {P : Type 0} (d : Whole P) (before os : List (OutputTree (Name P))) → shown_once before os ≡ true → (i : ℕ) (a : AssignTree) → i < length (lift d os) → a ≡ get_or (lift d os) i a → not (is_assigned (lift d before ++ take i (lift d os)) a.port) ≡ true
once_at d before [] h i a l e = absurd (omega arith)
once_at d before (o ∷ os) h zero a l e =
    let p = and_parts (not (is_shown before o.port)) (shown_once (before ++ o ∷ []) os) h in
    ap (λ b. not (is_assigned b a.port)) (append-nil (lift d before)) ∙ ap (λ (x : AssignTree). not (is_assigned (lift d before) x.port)) e ∙ ap not (lifted d before o.port) ∙ p.0
once_at d before (o ∷ os) h (suc i) a l e =
    let p = and_parts (not (is_shown before o.port)) (shown_once (before ++ o ∷ []) os) h in
    ap (λ b. not (is_assigned b a.port)) (sym (append_assoc (lift d before) (link_output (resolve d) o ∷ []) (take i (lift d os))) ∙ ap (λ b. b ++ take i (lift d os)) (sym (lift_append d before (o ∷ []))))
    ∙ once_at d (before ++ o ∷ []) os p.1 i a (omega arith) e

outputs_spelled : {P : Type 0} (d : Whole P) (os : List (OutputTree (Name P))) → list_all output_spelled os ≡ true → list_all (λ (a : AssignTree). tree_spelled a.value) (lift d os) ≡ true
outputs_spelled d [] h = refl
outputs_spelled d (o ∷ os) h =
    let p = and_parts (output_spelled o) (list_all output_spelled os) h in
    and_from _ _ (same_tree (resolve d) o.value ∙ p.0) (outputs_spelled d os p.1)

assigns_at : (n : Netlist) (xs : List AssignTree) → assigns_typed n xs ≡ true → (i : ℕ) (x : AssignTree) → i < length xs → x ≡ get_or xs i x → assign_fits n x ≡ true
assigns_at n [] h i x l e = absurd (omega arith)
assigns_at n (y ∷ xs) h zero x l e = ap (assign_fits n) e ∙ (and_parts (assign_fits n y) (assigns_typed n xs) h).0
assigns_at n (y ∷ xs) h (suc i) x l e = assigns_at n xs (and_parts (assign_fits n y) (assigns_typed n xs) h).1 i x (omega arith) e

output_there : (p : port.Port) → 0 < output_width p → p.output ≡ true
output_there p h = (elim p.output as (λ o. 0 < (cond o p.width 0) → o ≡ true) [ true ↦ λ h. refl | false ↦ λ h. absurd (omega arith) ]) h

-- ---- always blocks
blocks_at : (n : Netlist) (xs : List (StatementTree Net)) → statements_all_typed n xs ≡ true → (i : ℕ) (x : StatementTree Net) → i < length xs → x ≡ get_or xs i x → block_fits n x ≡ true
blocks_at n [] h i x l e = absurd (omega arith)
blocks_at n (y ∷ xs) h zero x l e = ap (block_fits n) e ∙ (and_parts (block_fits n y) (statements_all_typed n xs) h).0
blocks_at n (y ∷ xs) h (suc i) x l e = blocks_at n xs (and_parts (block_fits n y) (statements_all_typed n xs) h).1 i x (omega arith) e

statements_spelled : {P : Type 0} (d : Whole P) (ps : List P) → ((p : P) → Among p ps → statement_spelled (d.block p).statement ≡ true) → list_all statement_spelled (all_statements d ps) ≡ true
statements_spelled d [] h = refl
statements_spelled d (p ∷ ps) h = and_from _ _ (same_statement (resolve d) (start registers_of d p) (start memories_of d p) (d.block p).statement ∙ h p (inl refl)) (statements_spelled d ps (λ q a. h q (inr a)))

-- a well typed statement sets what its block has
sets_own : {P : Type 0} (d : Whole P) (b : BlockTree (Name P)) → statement_typed (names_scope d port_list) (block_registers b) (block_memories b) b.statement ≡ true → below (registers_of b) (memories_of b) b.statement ≡ true
sets_own d b h =
    let s = names_scope d port_list in
    (and_parts _ _ (statement_known s (record { value = λ n. nat_lt 0 (s.net n); memory = λ m. nat_lt 0 (s.memory_word m) })
    (record { net = λ n k. lt-ltb 0 (s.net n) k; memory = λ m k. lt-ltb 0 (s.memory_word m) k }) (block_registers b) (block_memories b) (λ k. nat_lt k (registers_of b)) (λ k. nat_lt k (memories_of b))
    (λ i k. let l = some_below (λ n. n) 0 (block_registers b) i refl k in let e = length_map word_width b.registers in lt-ltb i (registers_of b) (omega (arith, l, e)))
    (λ i k. let l = some_below (λ (x : ℕ × ℕ). x.1) (0, 0) (block_memories b) i refl k in let e = length_map block_memory_width b.memories in lt-ltb i (memories_of b) (omega (arith, l, e))) b.statement h)).0

taken : (k : ℕ) (xs : List ℕ) → k ≤ length xs → length (take k xs) ≡ k
taken zero xs l = refl
taken (suc k) [] l = absurd (omega arith)
taken (suc k) (x ∷ xs) l = ap (λ (n : ℕ). suc n) (taken k xs (omega arith))

module _ {P : Type 0} (d : Whole P) (names : List (List ℕ)) (outputs : List (OutputTree (Name P))) (h : IsFormed d port_list outputs) (s : IsSpelled d outputs) (own : AreNames d names) where
  abbrev whole : Netlist
  whole = link d (port_names ++ names) port_list outputs

  typed : IsTyped whole
  typed = linked_is_typed P d (port_names ++ names) port_list outputs h

  count : length names ≡ length whole.declared + length whole.wires
  count =
      let rs = all_registers d d.parts in
      let ms = all_memories d d.parts in
      let a = own.count in
      let b = length-append (map declare_register rs) (map declare_memory ms) in
      let x = length_map declare_register rs in
      let y = length_map declare_memory ms in
      omega (arith, a, b, x, y)

  fresh : (i : ℕ) → i < length whole.declared + length whole.wires → FreshAt whole.names (length port_names + i)
  fresh i l = let e = count in fresh_at port_names names (fresh_from port_names names own.new) i (omega (arith, e, l))

  declared_none : section_fault (declared_rules whole) 0 0 whole.declared ≡ None
  declared_none = section_none (declared_rules whole) 0 0 whole.declared (λ i x l e.
      let z : 0 + i ≡ i = omega arith in
      let f = fresh i (omega arith) in
      ap (λ k. first_broken (declared_rules whole k x)) z
      ∙ four_kept (has_name whole (declared_place whole i)) (integer_known (take i whole.declared) x) (is_new whole (declared_place whole i)) (declared_fits x)
      f.0 (integers_known (map declare_register (all_registers d d.parts) ++ map declare_memory (all_memories d d.parts)) (all_filled (all_registers d d.parts) (all_memories d d.parts)) i x l e) (ap not f.1) (fits_at whole.declared typed.declared i x l e))

  wires_none : section_fault (wire_rules whole) (wires_start whole) 0 whole.wires ≡ None
  wires_none = section_none (wire_rules whole) (wires_start whole) 0 whole.wires (λ i w l e.
      let z : 0 + i ≡ i = omega arith in
      let place : length port_names + (length whole.declared + i) ≡ wire_place whole i = omega arith in
      let f = subst (λ k. FreshAt whole.names k) place (fresh (length whole.declared + i) (omega arith)) in
      let fits : wire_fits whole i w ≡ true = wires_at whole [] whole.wires typed.wires i w l e in
      let before = take i (wire_widths whole.wires) in
      let some = same_some w.width (right_width (scope whole before) w.right) (and_parts (same w.width (right_width (scope whole before) w.right)) (nat_le w.width 64) fits).0 in
      let known = right_all_known (scope whole before) (sorts whole i) (scope_holds whole before i (taken i (wire_widths whole.wires) (let c = length_widths whole.wires in omega (arith, c, l)))) w.right some.1 in
      ap (λ k. first_broken (wire_rules whole k w)) z
      ∙ four_kept (has_name whole (wire_place whole i) && right_spelled w.right) (right_known (sorts whole i) w.right) (is_new whole (wire_place whole i)) (wire_fits whole i w)
      (and_from _ _ f.0 (passes_at tree_passes whole.wires (all_wires_pass d d.parts s.wires) i w l e)) known (ap not f.1) fits)

  assigns_none : section_fault (assign_rules whole) (assigns_start whole) 0 whole.assigns ≡ None
  assigns_none = section_none (assign_rules whole) (assigns_start whole) 0 whole.assigns (λ i a l e.
      let z : 0 + i ≡ i = omega arith in
      let fits = assigns_at whole whole.assigns typed.assigns i a l e in
      let p = get_or port_list a.port (record { output = false; width = 0 }) in
      let some = same_some (output_width p) (width_of (full_scope whole) a.value) fits in
      let known = tree_known (full_scope whole) (sorts whole (length whole.wires)) (scope_holds whole (wire_widths whole.wires) (length whole.wires) (length_widths whole.wires)) a.value some.1 in
      ap (λ k. first_broken (assign_rules whole k a)) z
      ∙ four_kept (tree_spelled a.value) (is_output whole.ports a.port && reads_known (sorts whole (length whole.wires)) a.value) (not (is_assigned (take i whole.assigns) a.port)) (assign_fits whole a)
      (passes_at (λ (x : AssignTree). tree_spelled x.value) whole.assigns (outputs_spelled d outputs s.shows) i a l e) (and_from _ _ (output_there p some.0) known) (once_at d [] outputs s.once i a l e) fits)

  always_none : section_fault (always_rules whole) (always_start whole) 0 whole.always ≡ None
  always_none = section_none (always_rules whole) (always_start whole) 0 whole.always (λ i a l e.
      let z : 0 + i ≡ i = omega arith in
      let fits = blocks_at whole whole.always typed.always i a l e in
      let known = statement_known (full_scope whole) (sorts whole (length whole.wires)) (scope_holds whole (wire_widths whole.wires) (length whole.wires) (length_widths whole.wires)) (register_widths whole.declared) (memory_widths whole.declared)
      (λ k. nat_lt k (registers_in whole)) (λ k. nat_lt k (memories_in whole)) (register_there whole) (memory_there whole) a fits in
      ap (λ k. first_broken (always_rules whole k a)) z
      ∙ four_kept (statement_spelled a) (block_known whole a) (targets_free (take i whole.always) a) (block_fits whole a)
      (passes_at statement_spelled whole.always (statements_spelled d d.parts s.statements) i a l e) known
      (free_at d [] 0 0 d.parts refl (runs registers_of d h.placed) (runs memories_of d h.placed) (λ p a. sets_own d (d.block p) (h.blocks p a).statement) i a l e) fits)

  last_none : first_broken (last_rules whole) ≡ None
  last_none =
      let all : length whole.names ≡ length whole.ports + length whole.declared + length whole.wires = (let a = count in let b = length-append port_names names in omega (arith, a, b)) in
      three_kept _ _ _ (eq-eqb _ _ all) refl h.assigned

pub linked_is_well_formed : (P : Type 0) → LinkedIsWellFormed P
unfolding first_fault
linked_is_well_formed P d names outputs h s own =
    no_faults _ _ _ _ _ _ (declared_none d names outputs h s own) (wires_none d names outputs h s own) (assigns_none d names outputs h s own) (always_none d names outputs h s own) (last_none d names outputs h s own)
