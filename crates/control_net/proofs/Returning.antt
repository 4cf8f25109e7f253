-- The block that says which places send back.
use Rattle.std.specs.Prelude.{◌≡◌, ◌≢◌, ℕ, zero, suc, ◌+◌, ◌-◌, ◌<◌, ◌≤◌, ◌==◌, nat_le, cond, Bool, true, false, ◌&&◌, ◌||◌, List, drop, replicate}
use Rattle.std.proofs.Common.{get_or, refl, sym, subst, ap, ◌∙◌, arith, inl}
use Rattle.std.proofs.lemmas.Bool.{le-leb, eqb-false}
use Rattle.std.proofs.lemmas.List.{get_or-replicate}
use Rattle.net_core.specs.declared.tree.Op.TheVariants.{And, Or}
use Rattle.net_core.specs.Nets.{Tree, TRead, TBinary}
use Rattle.net_core.specs.Ports.{port_list}
use Rattle.net_core.specs.Value.{bit, apply, Env, value}
use Rattle.net_core.specs.Width.{Scope, width_of, op_width, same}
use Rattle.block_core.specs.design_rules.FormedSyntax.{tree_spelled}
use Rattle.net_core.specs.ProductRules.Products.{is_flat}
use Rattle.net_core.proofs.BitLaws.{and_bits, or_bits}
use Rattle.block_core.specs.ProductBlocks.Alone.{wire_flat}
use Rattle.block_core.specs.declared.name.Name.{Name}
use Rattle.block_core.specs.declared.name.Name.TheVariants as name
use Rattle.block_core.specs.Blocks.{BlockTree, BlockWireTree, Whole, Among}
use Rattle.block_core.specs.Parts.{Solve}
use Rattle.block_core.specs.Order.{Reads, IsBefore}
use Rattle.block_core.specs.Formed.{block_wires, name_width, names_scope}
use Rattle.block_core.specs.BlockForms.WellFormed.{wire_spelled}
use Rattle.block_core.proofs.list_laws_laws.BoolLaws.{by_test}
use Rattle.block_core.proofs.OrderLaws.{still_before}
use Rattle.control_net.specs.declared.ring_net.shape.ControlShape.{ControlShape}
use Rattle.control_net.specs.declared.ring_net.names.Register.TheVariants.{Holds}
use Rattle.control_net.specs.RingNet.Names.{register_name}
use Rattle.control_net.specs.Control.{returns, some_returns}
use Rattle.control_net.specs.Trees.{sent, back_tree, back_wire, returns_tree}
use Rattle.control_net.specs.Returns.{reload_name, IsReturns}
use Rattle.control_net.proofs.Lists.{not_zero, all_widths, all_wires, wires_typed, all_go, all_in_order, solved_at}
use Rattle.control_net.proofs.Flushing.{past, by_next}

or_false : (b : Bool) → b || false ≡ b
or_false true = refl
or_false false = refl

one_bit : (w : ℕ) → w ≡ 1 → (same 1 w && nat_le 1 64) ≡ true
one_bit w e = ap (λ w. same 1 w && nat_le 1 64) e

module _ {P : Type 0} (c : ControlShape) (part control : P) (reload : List (Name P)) where
  abbrev f : ℕ → BlockWireTree (Name P)
  f = back_wire c part control reload

  abbrev older : ℕ → Tree (Name P)
  older i = TBinary Or (sent control reload (c.commit - i)) (TRead (name.Wire part (i - 1)))

  -- the first wire and the others
  by_first : (q : Tree (Name P) → Type 0) (i : ℕ) → q (sent control reload (c.commit - i)) → (0 < i → q (older i)) → q (back_tree c part control reload i)
  by_first q i h k = by_test (λ b. q (cond b (sent control reload (c.commit - i)) (older i))) (i == 0) (λ e. h) (λ e. let o : i ≢ 0 = eqb-false i 0 e in k (omega arith))

  widths : block_wires (returns_tree c part control reload) ≡ replicate (suc c.commit) 1
  widths = all_widths f 0 (suc c.commit) (λ i. refl)

  one_typed : (d : Whole P) → d.block part ≡ returns_tree c part control reload → ((k : ℕ) → k ≤ c.commit → name_width d port_list (register_name control (Holds k)) ≡ 1) → ((k : ℕ) → k ≤ c.commit → name_width d port_list (reload_name reload k) ≡ 1)
      → (i : ℕ) → i < 0 + suc c.commit → (same 1 (width_of (names_scope d port_list) (back_tree c part control reload i)) && nat_le 1 64) ≡ true
  one_typed d e held told i l =
      let s : Scope (Name P) = names_scope d port_list in
      let k = c.commit - i in
      let own : width_of s (sent control reload k) ≡ 1 = λ j. op_width And (held k (omega arith) j) (told k (omega arith) j) in
      let before : 0 < i → width_of s (TRead (name.Wire part (i - 1))) ≡ 1 = λ some. ap (λ b. get_or (block_wires b) (i - 1) 0) e ∙ ap (λ ws. get_or ws (i - 1) 0) (widths) ∙ get_or-replicate (suc c.commit) (i - 1) 1 0 (omega (arith, l)) in
      one_bit (width_of s (back_tree c part control reload i)) (by_first (λ t. width_of s t ≡ 1) i own (λ some j. op_width Or (own j) (before some j)))

  one_reads : (d : Whole P) (before : List P) → Among control d.parts → ((k : ℕ) → k ≤ c.commit → IsBefore d before part 0 (reload_name reload k)) → (i : ℕ) → i < 0 + suc c.commit → Reads (IsBefore d before part i) (back_tree c part control reload i)
  one_reads d before there told i l =
      let k = c.commit - i in
      let own : Reads (IsBefore d before part i) (sent control reload k) = (there, still_before d before part i (reload_name reload k) (told k (omega arith))) in
      by_first (Reads (IsBefore d before part i)) i own (λ some. (own, inl (refl, omega (arith, some))))

  module _ (v : Env (Name P)) (holds : List Bool) (must_reload : ℕ → Bool) (solved : Solve v part 0 (returns_tree c part control reload).wires) (held : (k : ℕ) → k ≤ c.commit → v.net (register_name control (Holds k)) ≡ bit (get_or holds k false))
      (told : (k : ℕ) → k ≤ c.commit → v.net (reload_name reload k) ≡ bit (must_reload k)) where
    one_value : (k : ℕ) → k ≤ c.commit → value v (sent control reload k) ≡ bit (returns c must_reload k (get_or holds k false))
    one_value k l = (λ j. apply And (held k l j) (told k l j)) ∙ and_bits (get_or holds k false) (must_reload k) ∙ ap (λ b. bit (b && (get_or holds k false && must_reload k))) (sym (le-leb k c.commit l))

    abbrev does : ℕ → Bool
    does k = some_returns c must_reload k (drop k holds)

    wire_value : (i : ℕ) → i ≤ c.commit → v.net (name.Wire part i) ≡ bit (does (c.commit - i))
    wire_value zero l =
        let k = c.commit - 0 in
        let none = past c must_reload (drop (suc k) holds) (suc k) (omega arith) in
        solved_at f v part 0 0 (suc c.commit) 0 refl solved (omega arith) (omega arith)
        ∙ one_value k (omega arith)
        ∙ ap bit (sym (by_next c must_reload holds k k ∙ ap (λ b. returns c must_reload k (get_or holds k false) || b) none ∙ or_false (returns c must_reload k (get_or holds k false))))
    wire_value (suc i) l =
        let k = c.commit - suc i in
        let next : c.commit - i ≡ suc k = omega (arith, l) in
        let same : i ≡ suc i - 1 = omega arith in
        let older_value : v.net (name.Wire part (suc i - 1)) ≡ bit (does (suc k)) = subst (λ n. v.net (name.Wire part n) ≡ bit (does (suc k))) same (wire_value i (omega (arith, l)) ∙ ap (λ n. bit (does n)) next) in
        solved_at f v part 0 0 (suc c.commit) (suc i) refl solved (omega arith) (omega (arith, l))
        ∙ ap (λ b. value v (cond b (sent control reload k) (older (suc i)))) (not_zero i)
        ∙ (λ j. apply Or (one_value k (omega arith) j) (older_value j))
        ∙ or_bits (returns c must_reload k (get_or holds k false)) (does (suc k))
        ∙ ap bit (sym (by_next c must_reload holds k k))

    back_value : (k : ℕ) → k ≤ c.commit → v.net (name.Wire part (c.commit - k)) ≡ bit (does k)
    back_value k l = let e : c.commit - (c.commit - k) ≡ k = omega (arith, l) in wire_value (c.commit - k) (omega arith) ∙ ap (λ n. bit (does n)) e

  is_returns : IsReturns c part control reload (returns_tree c part control reload)
  is_returns = record {
    registers = refl;
    memories = refl;
    wires = widths;
    typed = λ d e held told. record { registers = refl; memories = refl; wires = wires_typed f (names_scope d port_list) 0 (suc c.commit) (one_typed d e held told); statement = refl };
    ordered = λ d before there told. all_in_order f d before part 0 0 (suc c.commit) refl (one_reads d before there told);
    reads = λ d. tt;
    within = tt;
    wires_spelled = all_wires f wire_spelled 0 (suc c.commit) (λ i. by_first (λ t. tree_spelled t ≡ true) i refl (λ some. refl));
    statement_spelled = refl;
    free = record { wires = λ made. all_wires f (wire_flat made) 0 (suc c.commit) (λ i. by_first (λ t. is_flat made t ≡ true) i refl (λ some. refl)); statement = λ made. refl };
    goes = λ v. all_go f v 0 (suc c.commit) (λ i. (refl, tt));
    stays = λ v s. refl;
    shows = λ v holds must_reload solved held told k l. back_value v holds must_reload solved held told k l;
  }

  pub made : (b : BlockTree (Name P)) → b ≡ returns_tree c part control reload → IsReturns c part control reload b
  made b e = subst (IsReturns c part control reload) (sym e) is_returns
