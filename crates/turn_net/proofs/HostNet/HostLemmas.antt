-- The part that says what the host may do.
use Rattle.std.specs.Prelude.{◌≡◌, ℕ, ◌+◌, ◌<◌, ◌≤◌, ◌==◌, nat_lt, nat_le, if◌then◌else◌, not, Bool, true, ◌&&◌, All, List, [], ◌∷◌, length}
use Rattle.std.specs.List.{list_any, range_with_len}
use Rattle.std.proofs.Common.{get_or, refl, sym, subst, ap, ◌∙◌, arith, inl}
use Rattle.std.proofs.lemmas.Bool.{and_from, lt-ltb, le-leb}
use Rattle.std.proofs.lemmas.List.Elements.{All-weaker}
use Rattle.net_core.specs.declared.tree.Op.TheVariants.{And, Or, NotEqual}
use Rattle.net_core.specs.declared.tree.UnaryOp.TheVariants.{Not, ReduceOr}
use Rattle.net_core.specs.declared.ports.TheConstants.{HOST_WRITE}
use Rattle.net_core.specs.Nets.{Tree, TConst}
use Rattle.net_core.specs.Ports.{port_list}
use Rattle.net_core.specs.Value.{word, bit, nothing, apply, apply_unary, Env, value}
use Rattle.net_core.specs.Width.{Scope, width_of, test_width, unary_width, op_width, same}
use Rattle.block_core.specs.design_rules.FormedSyntax.{depth, prefixes_apart, tree_spelled}
use Rattle.net_core.specs.ProductRules.Products.{is_flat}
use Rattle.net_core.proofs.BitLaws.{and_bits, or_bits, not_bit}
use Rattle.block_core.specs.declared.name.Name.{Name}
use Rattle.block_core.specs.declared.name.Name.TheVariants as name
use Rattle.block_core.specs.Blocks.{BlockTree, Whole, Among}
use Rattle.block_core.specs.Parts.{Solve}
use Rattle.block_core.specs.Order.{Reads, IsBefore, InOrder}
use Rattle.block_core.specs.Formed.{block_wires, block_wires_typed, names_scope}
use Rattle.block_core.proofs.OrderLaws.{still_before}
use Rattle.control_net.specs.declared.ring_net.names.Counter.TheVariants.{Given, Gathered}
use Rattle.control_net.specs.declared.ring_net.names.Register.TheVariants.{Slot}
use Rattle.control_net.specs.RingNet.Names.{register_name}
use Rattle.control_net.specs.RingNet.Trees.{compared}
use Rattle.cell_nets.proofs.frame_net_laws.FormLaws.{same_is}
use Rattle.turn_net.specs.declared.host_net.names.HostNets.{HostNets}
use Rattle.turn_net.specs.declared.host_net.names.Wire.TheVariants.{Idle, Ready, Writes}
use Rattle.turn_net.specs.HostNet.Names.{wire_name}
use Rattle.turn_net.specs.HostNet.Trees as trees
use Rattle.cell_nets.specs.OperandBlocks.Wiring.{wires_block}
use Rattle.turn_net.specs.HostNet.Trees.{any_of, host_wires}
use Rattle.turn_net.specs.HostNet.Host.{Signals, idle, ready, writes, Sees, may_tree, HaveWidths, AreNets, IsShallow, IsHost}
use Rattle.turn_net.proofs.HostNet.TreeLemmas.{each, low, wide}
use Rattle.turn_net.proofs.HostNet.BitLemmas.{some_number, counted, any_bit}

module _ {P : Type 0} (part : P) (nets : HostNets P) (may : List (Tree (Name P))) where
  abbrev block : BlockTree (Name P)
  block = wires_block (host_wires part nets may)

  abbrev none : Tree (Name P)
  none = TConst (word 1 0)

  -- ---- widths
  module _ (d : Whole P) (here : d.block part ≡ block) (h : HaveWidths (names_scope d port_list) nets) (one : All (λ t. width_of (names_scope d port_list) t ≡ 1) may) where
    abbrev s : Scope (Name P)
    s = names_scope d port_list

    own : (k : ℕ) → s.net (name.Wire part k) ≡ get_or (1 ∷ 1 ∷ 1 ∷ []) k 0
    own k = ap (λ (b : BlockTree (Name P)). get_or (block_wires b) k 0) here

    slots_width : test_width (s.net (register_name nets.control (Slot Gathered))) (s.net (register_name nets.control (Slot Given))) ≡ 1
    slots_width = ap (λ b. if b then 1 else 0) (same_is (s.net (register_name nets.control (Slot Gathered))) (s.net (register_name nets.control (Slot Given))) (subst (λ n. 0 < n) (sym h.slots) h.slot_some) (sym h.slots))

    counted_width : width_of s (compared nets.control NotEqual Gathered Given) ≡ 1
    counted_width = λ j. op_width Or (slots_width j) (op_width NotEqual (h.gathered_lap j) (h.given_lap j))

    idle_width : width_of s (trees.idle nets) ≡ 1
    idle_width = λ j. op_width And (unary_width Not (h.partial j)) (unary_width Not (counted_width j))

    done_width : unary_width ReduceOr (s.net nets.done) ≡ 1
    done_width = ap (λ b. if b then 1 else 0) (lt-ltb 0 (s.net nets.done) h.done)

    ready_width : width_of s (trees.ready part nets) ≡ 1
    ready_width = λ j. op_width Or (own 0 j) (unary_width Not (op_width And (h.present j) (done_width j)))

    writes_width : width_of s (trees.writes part may) ≡ 1
    writes_width = λ j. op_width And (op_width And (own 1 j) (s.net (name.Port HOST_WRITE))) (wide s 1 may none one refl j)

    abbrev one_bit : ℕ → Bool
    one_bit w = same 1 w && nat_le 1 64

    wires_typed : block_wires_typed s block.wires ≡ true
    wires_typed = λ j. one_bit (idle_width j) && (one_bit (ready_width j) && (one_bit (writes_width j) && true))

  -- ---- in order
  in_order : (d : Whole P) (before : List P) → Among nets.control d.parts → AreNets (IsBefore d before part 0) nets → All (Reads (IsBefore d before part 2)) may → InOrder d before part 0 block.wires
  in_order d before there h reads = (
    (h.partial, ((there, there), (there, there))),
    (
      (inl (refl, omega arith), (still_before d before part 1 nets.present h.present, still_before d before part 1 nets.done h.done)),
      (((inl (refl, omega arith), tt), each (Reads (IsBefore d before part 2)) may none (λ a b x y. (x, y)) reads tt), tt),
    ),
  )

  -- ---- spelled, and no products
  writes_spelled : length may ≤ 16 → All IsShallow may → tree_spelled (trees.writes part may) ≡ true
  writes_spelled few shallow =
      let deep = low 32 may none (All-weaker IsShallow (λ t. depth t ≤ 32) (λ t x. x.low) may shallow) (omega arith) in
      and_from _ _ (le-leb (depth (trees.writes part may)) 64 (omega (arith, deep, few)))
      (each (λ t. prefixes_apart t ≡ true) may none (λ a b x y. and_from _ _ x y) (All-weaker IsShallow (λ t. prefixes_apart t ≡ true) (λ t x. x.apart) may shallow) refl)

  writes_flat : (made : Name P → Bool) → All (λ t. is_flat made t ≡ true) may → is_flat made (trees.writes part may) ≡ true
  writes_flat made h = each (λ t. is_flat made t ≡ true) may none (λ a b x y. and_from _ _ x y) h refl

  -- ---- values
  module _ (v : Env (Name P)) (slots slot_bits done_bits : ℕ) (i : Signals) (solved : Solve v part 0 block.wires) (e : Sees slots slot_bits done_bits nets i v) where
    idle_value : v.net (wire_name part Idle) ≡ bit (idle i)
    idle_value =
        solved.0
        ∙ (λ j. apply And (apply_unary Not (e.partial j)) (apply_unary Not (apply Or (apply NotEqual (e.gathered.slot j) (e.given.slot j)) (apply NotEqual (e.gathered.lap j) (e.given.lap j)))))
        ∙ (λ j. apply And (not_bit i.partial j) (counted slots slot_bits i.given i.gathered e.near j))
        ∙ and_bits (not i.partial) (i.gathered == i.given)

    amid_value : apply_unary Not (apply And (v.net nets.present) (apply_unary ReduceOr (v.net nets.done))) ≡ bit (not (i.present && nat_lt 0 i.done))
    amid_value =
        (λ j. apply_unary Not (apply And (e.present j) ((ap (apply_unary ReduceOr) e.done ∙ some_number done_bits i.done) j))) ∙ ap (apply_unary Not) (and_bits i.present (nat_lt 0 i.done)) ∙ not_bit (i.present && nat_lt 0 i.done)

    ready_value : v.net (wire_name part Ready) ≡ bit (ready i)
    ready_value = solved.1.0 ∙ (λ j. apply Or (idle_value j) (amid_value j)) ∙ or_bits (idle i) (not (i.present && nat_lt 0 i.done))

    writes_value : (lets : ℕ → Bool) → ((k : ℕ) → k < length may → value v (may_tree may k) ≡ bit (lets k)) → v.net (wire_name part Writes) ≡ bit (writes i lets (length may))
    writes_value lets h =
        let each_bit : (k : ℕ) → k < length may → value v (may_tree may k) ≡ bit (lets (0 + k)) = λ k l. let z : k ≡ 0 + k = omega arith in h k l ∙ ap (λ n. bit (lets n)) z in
        solved.1.1.0
        ∙ (λ j. apply And (apply And (ready_value j) (e.write j)) (any_bit v may (TConst nothing) lets 0 each_bit j))
        ∙ ap (λ x. apply And x (bit (list_any lets (range_with_len 0 (length may))))) (and_bits (ready i) i.write)
        ∙ and_bits (ready i && i.write) (list_any lets (range_with_len 0 (length may)))

  is_host : IsHost part nets may block
  is_host = record {
    registers = refl;
    memories = refl;
    wires = refl;
    typed = λ d here h one. record { registers = refl; memories = refl; wires = wires_typed d here h one; statement = refl };
    ordered = in_order;
    reads = λ d. tt;
    within = tt;
    wires_spelled = λ few shallow. and_from (tree_spelled (trees.writes part may)) true (writes_spelled few shallow) refl;
    statement_spelled = refl;
    free = λ h. record { wires = λ made. and_from (is_flat made (trees.writes part may)) true (writes_flat made (h made)) refl; statement = λ made. refl };
    goes = λ v. (refl, (refl, (refl, tt)));
    stays = λ v s. refl;
    idle = idle_value;
    ready = ready_value;
    writes = λ v slots slot_bits done_bits i lets solved e h. writes_value v slots slot_bits done_bits i solved e lets h;
  }

  pub made : (b : BlockTree (Name P)) → b ≡ block → IsHost part nets may b
  made b e = subst (IsHost part nets may) (sym e) is_host
