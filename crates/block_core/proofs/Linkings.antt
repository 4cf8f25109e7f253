-- The sections that were made are those of the design.
use Rattle.std.specs.Prelude.{◌≡◌, ℕ, ◌+◌, ◌-◌, ◌&&◌, true, false, List, [], ◌∷◌, ◌++◌, length, map, sum, sum_by}
use Rattle.std.specs.List.{list_all}
use Rattle.std.proofs.Common.{refl, sym, ap, ◌∙◌, arith, get_or, inl, inr}
use Rattle.std.proofs.lemmas.Bool.{and_left, and_right, and_from}
use Rattle.std.proofs.lemmas.List.Sums.{sum-map}
use Rattle.net_core.specs.declared.tree.Net.{Net}
use Rattle.net_core.specs.declared.tree.Net.TheVariants as net
use Rattle.net_core.specs.declared.design.Assign.{Assign}
use Rattle.net_core.specs.declared.design.Declared.{Declared}
use Rattle.net_core.specs.declared.design.Declared.TheVariants as declared
use Rattle.net_core.specs.declared.design.Port.{Port}
use Rattle.net_core.specs.declared.design.Wire.{Wire}
use Rattle.net_core.specs.Nets.{Tree, RightTree, StatementTree, WireTree, AssignTree, Netlist}
use Rattle.net_core.specs.View.{tree_of, right_of, wire_of, assign_of}
use Rattle.block_core.specs.declared.name.Name.{Name}
use Rattle.block_core.specs.declared.name.Name.TheVariants as name
use Rattle.block_core.specs.declared.block.Placed.{Placed}
use Rattle.block_core.specs.declared.starts.Starts.{Starts}
use Rattle.block_core.specs.Rename.{rename_statement}
use Rattle.block_core.specs.Blocks.{BlockTree, OutputTree, Whole, Among, gather, running, start, registers_of, memories_of, wires_of}
use Rattle.block_core.specs.Link.{resolve, link_wires, link_output, link_statement, all_registers, all_memories, all_wires, all_statements, declare_register, declare_memory, net_names, numbered_names, link}
use Rattle.block_core.specs.View.{block_of, resolve_in, linked_statement, StartsOf, Makes}
use Rattle.block_core.specs.Range.{in_range, wires_in_range, assigns_in_range, statement_in_range, totals_in_range, total, design_in_range}
use Rattle.block_core.proofs.GatheredLaws.{map_gather}
use Rattle.block_core.proofs.GatheredLaws.{length_map}

pub assign_same : (a : Assign) (port : ℕ) (v : Tree Net) → a.port ≡ port → tree_of a.value ≡ v → assign_of a ≡ record { port = port; value = v }
assign_same a port v p e = λ i. record { port = p i; value = e i }

pub wire_same : (w : Wire) (width : ℕ) (r : RightTree Net) → w.width ≡ width → right_of w.right ≡ r → wire_of w ≡ record { width = width; right = r }
wire_same w width r p e = λ i. record { width = p i; right = e i }

gather_made : {P A : Type 0} (g : Placed P → List A) (h : P → List A) (ms : List (Placed P)) → ((m : Placed P) → Among m ms → g m ≡ h m.part) → gather g ms ≡ gather h (map (λ m. m.part) ms)
gather_made g h [] e = refl
gather_made g h (m ∷ ms) e = λ i. e m (inl refl) i ++ gather_made g h ms (λ n a. e n (inr a)) i

map_made : {P A : Type 0} (g : Placed P → A) (h : P → A) (ms : List (Placed P)) → ((m : Placed P) → Among m ms → g m ≡ h m.part) → map g ms ≡ map h (map (λ m. m.part) ms)
map_made g h [] e = refl
map_made g h (m ∷ ms) e = λ i. e m (inl refl) i ∷ map_made g h ms (λ n a. e n (inr a)) i

module _ {P : Type 0} (place : P → ℕ) (placed : List (Placed P)) (d : Whole P) (made : Makes place placed d) where
  counts : (count : BlockTree (Name P) → ℕ) → map (λ m. count (block_of m.block)) placed ≡ map (λ p. count (d.block p)) d.parts
  counts count = map_made (λ m. count (block_of m.block)) (λ p. count (d.block p)) placed (λ m a. ap count (made.blocks m a)) ∙ ap (map (λ p. count (d.block p))) (sym made.parts)

  total_made : (count : BlockTree (Name P) → ℕ) → sum_by (λ m. count (block_of m.block)) placed ≡ total count d
  total_made count = sym (sum-map (λ m. count (block_of m.block)) placed) ∙ ap sum (counts count) ∙ sum-map (λ p. count (d.block p)) d.parts

  totals_made : totals_in_range placed ≡ (in_range (total registers_of d) && (in_range (total memories_of d) && in_range (total wires_of d)))
  totals_made = λ i. in_range (total_made registers_of i) && (in_range (total_made memories_of i) && in_range (total_made wires_of i))

  pub past_totals : (outputs : List (OutputTree (Name P))) → totals_in_range placed ≡ false → design_in_range d outputs ≡ false
  past_totals outputs h = and_left _ _ (sym totals_made ∙ h)

module _ {P : Type 0} (place : P → ℕ) (placed : List (Placed P)) (d : Whole P) (s : Starts) (made : Makes place placed d) (at : StartsOf placed s) where
  gathered : {A : Type 0} (g : Placed P → List A) (h : P → List A) → ((m : Placed P) → Among m placed → g m ≡ h m.part) → gather g placed ≡ gather h d.parts
  gathered g h e = gather_made g h placed e ∙ ap (gather h) (sym made.parts)

  counted : (count : BlockTree (Name P) → ℕ) → running 0 (map (λ m. count (block_of m.block)) placed) ≡ running 0 (map (λ p. count (d.block p)) d.parts)
  counted count = ap (running 0) (counts place placed d made count)

  start_at : (count : BlockTree (Name P) → ℕ) (starts : List ℕ) → starts ≡ running 0 (map (λ m. count (block_of m.block)) placed) → (p : P) → get_or starts (place p) 0 ≡ start count d p
  start_at count starts e p = λ i. get_or ((e ∙ counted count) i) (sym made.places i p) 0

  resolve_name : (n : Name P) → resolve_in place s n ≡ resolve d n
  resolve_name (name.Port i) = refl
  resolve_name (name.Register p i) = ap (λ k. net.Register (k + i)) (start_at registers_of s.registers.items at.registers p)
  resolve_name (name.Memory p i) = ap (λ k. net.Memory (k + i)) (start_at memories_of s.memories.items at.memories p)
  resolve_name (name.Wire p i) = ap (λ k. net.Wire (k + i)) (start_at wires_of s.wires.items at.wires p)

  resolves : resolve_in place s ≡ resolve d
  resolves = λ i n. resolve_name n i

  statement_made : (m : Placed P) → Among m placed → linked_statement place s m ≡ link_statement d m.part
  statement_made m a = λ i. rename_statement (resolves i) (start_at registers_of s.registers.items at.registers m.part i) (start_at memories_of s.memories.items at.memories m.part i) (made.blocks m a i).statement

  registers_made : gather (λ m. map declare_register (block_of m.block).registers) placed ≡ map declare_register (all_registers d d.parts)
  registers_made = gathered (λ m. map declare_register (block_of m.block).registers) (λ p. map declare_register (d.block p).registers) (λ m a. ap (λ b. map declare_register b.registers) (made.blocks m a)) ∙ sym (map_gather declare_register (λ p. (d.block p).registers) d.parts)

  memories_made : gather (λ m. map declare_memory (block_of m.block).memories) placed ≡ map declare_memory (all_memories d d.parts)
  memories_made = gathered (λ m. map declare_memory (block_of m.block).memories) (λ p. map declare_memory (d.block p).memories) (λ m a. ap (λ b. map declare_memory b.memories) (made.blocks m a)) ∙ sym (map_gather declare_memory (λ p. (d.block p).memories) d.parts)

  wires_made : gather (λ m. link_wires (resolve_in place s) (block_of m.block).wires) placed ≡ all_wires d d.parts
  wires_made = gathered (λ m. link_wires (resolve_in place s) (block_of m.block).wires) (λ p. link_wires (resolve d) (d.block p).wires) (λ m a i. link_wires (resolves i) (made.blocks m a i).wires)

  registers_count : length (gather (λ m. map declare_register (block_of m.block).registers) placed) ≡ length (all_registers d d.parts)
  registers_count = ap length registers_made ∙ length_map declare_register (all_registers d d.parts)

  memories_count : length (gather (λ m. map declare_memory (block_of m.block).memories) placed) ≡ length (all_memories d d.parts)
  memories_count = ap length memories_made ∙ length_map declare_memory (all_memories d d.parts)

  statements_made : map (linked_statement place s) placed ≡ all_statements d d.parts
  statements_made = map_made (linked_statement place s) (link_statement d) placed statement_made ∙ ap (map (link_statement d)) (sym made.parts)

  -- what was found of each section is what the design says
  module _ (outputs : List (OutputTree (Name P))) where
    wires_asked : wires_in_range (gather (λ m. link_wires (resolve_in place s) (block_of m.block).wires) placed) ≡ wires_in_range (all_wires d d.parts)
    wires_asked = ap wires_in_range wires_made

    assigns_asked : assigns_in_range (map (link_output (resolve_in place s)) outputs) ≡ assigns_in_range (map (link_output (resolve d)) outputs)
    assigns_asked = ap (λ g. assigns_in_range (map (link_output g) outputs)) resolves

    statements_asked : list_all statement_in_range (map (linked_statement place s) placed) ≡ list_all statement_in_range (all_statements d d.parts)
    statements_asked = ap (list_all statement_in_range) statements_made

    pub past_wires : wires_in_range (gather (λ m. link_wires (resolve_in place s) (block_of m.block).wires) placed) ≡ false → design_in_range d outputs ≡ false
    past_wires h = and_right _ _ (and_left _ _ (sym wires_asked ∙ h))

    pub past_assigns : assigns_in_range (map (link_output (resolve_in place s)) outputs) ≡ false → design_in_range d outputs ≡ false
    past_assigns h = and_right _ _ (and_right _ _ (and_left _ _ (sym assigns_asked ∙ h)))

    pub past_statements : list_all statement_in_range (map (linked_statement place s) placed) ≡ false → design_in_range d outputs ≡ false
    past_statements h =
        and_right (in_range (total registers_of d) && (in_range (total memories_of d) && in_range (total wires_of d))) _
        (and_right (wires_in_range (all_wires d d.parts)) _ (and_right (assigns_in_range (map (link_output (resolve d)) outputs)) _ (sym statements_asked ∙ h)))

    pub all_in_range : totals_in_range placed ≡ true → wires_in_range (gather (λ m. link_wires (resolve_in place s) (block_of m.block).wires) placed) ≡ true → assigns_in_range (map (link_output (resolve_in place s)) outputs) ≡ true
        → list_all statement_in_range (map (linked_statement place s) placed) ≡ true → design_in_range d outputs ≡ true
    all_in_range t w a z =
        and_from _ _ (sym (totals_made place placed d made) ∙ t)
        (and_from _ _ (sym wires_asked ∙ w) (and_from _ _ (sym assigns_asked ∙ a) (sym statements_asked ∙ z)))

  -- a netlist with these sections is the design
  pub link_made : (port_names names : List (List ℕ)) (ports : List Port) (outputs : List (OutputTree (Name P))) (first all : List Declared) (wires : List WireTree) (assigns : List AssignTree) (always : List (StatementTree Net)) (r n w : ℕ)
      → first ≡ declared.Integer ∷ gather (λ m. map declare_register (block_of m.block).registers) placed
      → all ≡ first ++ gather (λ m. map declare_memory (block_of m.block).memories) placed
      → wires ≡ gather (λ m. link_wires (resolve_in place s) (block_of m.block).wires) placed
      → assigns ≡ map (link_output (resolve_in place s)) outputs
      → always ≡ map (linked_statement place s) placed
      → names ≡ port_names ++ net_names (r - 1) (n - r) w
      → r ≡ length first → n ≡ length all → w ≡ length wires
      → ◌≡◌ {A = Netlist} (record { names = names; ports = ports; declared = all; wires = wires; assigns = assigns; always = always }) (link d (numbered_names d port_names) ports outputs)
  link_made port_names names ports outputs first all wires assigns always r n w f x y z u is a b c =
      let rs : r - 1 ≡ length (all_registers d d.parts) = (let k = ap length f in omega (arith, a, k)) ∙ registers_count in
      let ms : n - r ≡ length (all_memories d d.parts) = (let k = ap length x ∙ length_append first (gather (λ m. map declare_memory (block_of m.block).memories) placed) in omega (arith, a, b, k)) ∙ memories_count in
      let ws : w ≡ length (all_wires d d.parts) = c ∙ ap length (y ∙ wires_made) in
      let is_names : names ≡ numbered_names d port_names = is ∙ (λ i. port_names ++ net_names (rs i) (ms i) (ws i)) in
      let is_declared : all ≡ declared.Integer ∷ (map declare_register (all_registers d d.parts) ++ map declare_memory (all_memories d d.parts)) =
      x ∙ ap (λ l. l ++ gather (λ m. map declare_memory (block_of m.block).memories) placed) f ∙ (λ i. declared.Integer ∷ (registers_made i ++ memories_made i)) in
      let is_wires : wires ≡ all_wires d d.parts = y ∙ wires_made in
      let is_assigns : assigns ≡ map (link_output (resolve d)) outputs = z ∙ ap (λ g. map (link_output g) outputs) resolves in
      let is_always : always ≡ map (link_statement d) d.parts = u ∙ statements_made in
      λ i. record { names = is_names i; ports = ports; declared = is_declared i; wires = is_wires i; assigns = is_assigns i; always = is_always i }
    where
      length_append : {A : Type 0} (xs ys : List A) → length (xs ++ ys) ≡ length xs + length ys
      length_append [] ys = omega arith
      length_append (x ∷ xs) ys = let k = length_append xs ys in omega arith
