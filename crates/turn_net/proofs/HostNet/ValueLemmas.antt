-- The part with the word that the host reads.
use Rattle.std.specs.Prelude.{◌≡◌, ℕ, ◌+◌, ◌<◌, ◌≤◌, nat_lt, nat_le, if◌then◌else◌, Bool, true, false, ◌&&◌, All, List, length, map}
use Rattle.std.proofs.Common.{refl, sym, subst, ap, ◌∙◌, arith, inr}
use Rattle.std.proofs.lemmas.Bool.{and_from, le-leb}
use Rattle.std.proofs.lemmas.Bool.Decides.{nat_tests}
use Rattle.std.proofs.lemmas.List.{length-map}
use Rattle.std.proofs.lemmas.List.Elements.{All-map, All-from_get_or}
use Rattle.net_core.specs.Nets.{Tree, TConst, TRead}
use Rattle.net_core.specs.Ports.{port_list}
use Rattle.net_core.specs.Value.{word, bit, conditional, Env, value}
use Rattle.net_core.specs.Width.{Scope, width_of, conditional_width, same}
use Rattle.block_core.specs.design_rules.FormedSyntax.{depth, prefixes_apart, tree_spelled}
use Rattle.net_core.specs.ProductRules.Products.{is_flat}
use Rattle.block_core.specs.declared.name.Name.{Name}
use Rattle.block_core.specs.declared.name.Name.TheVariants as name
use Rattle.block_core.specs.Blocks.{BlockTree, Whole}
use Rattle.block_core.specs.Parts.{Solve}
use Rattle.block_core.specs.Order.{Reads, IsBefore, InOrder}
use Rattle.block_core.specs.Formed.{block_wires_typed, name_width, names_scope}
use Rattle.turn_net.specs.HostNet.Names.{value_name}
use Rattle.cell_nets.specs.OperandBlocks.Wiring.{wires_block}
use Rattle.turn_net.specs.HostNet.Trees.{any_of, shown, value_wires}
use Rattle.turn_net.specs.HostNet.Values.{word_name, one_word, read, IsValue}
use Rattle.turn_net.proofs.HostNet.TreeLemmas.{each, low, wide}
use Rattle.turn_net.proofs.HostNet.BitLemmas.{no_word, some_word}

module _ {P : Type 0} (part : P) (ready : Name P) (words : List (Name P)) (few : length words ≤ 16) where
  abbrev block : BlockTree (Name P)
  block = wires_block (value_wires ready words)

  abbrev none : Tree (Name P)
  none = TConst (word 64 0)

  abbrev reads : List (Tree (Name P))
  reads = map TRead words

  -- what each name is, each of these trees is
  all_reads : (q : Tree (Name P) → Type 0) → ((k : ℕ) → k < length words → q (TRead (word_name words k))) → All q reads
  all_reads q h = All-map q TRead words (All-from_get_or (λ n. q (TRead n)) words (name.Port 0) h)

  module _ (d : Whole P) (one : name_width d port_list ready ≡ 1) (h : (k : ℕ) → k < length words → name_width d port_list (word_name words k) ≡ 64) where
    abbrev s : Scope (Name P)
    s = names_scope d port_list

    shown_width : width_of s (shown ready words) ≡ 64
    shown_width = λ j. conditional_width (one j) (wide s 64 reads none (all_reads (λ t. width_of s t ≡ 64) h) refl j) 64

    wires_typed : block_wires_typed s block.wires ≡ true
    wires_typed = ap (λ w. (same 64 w && nat_le 64 64) && true) shown_width

  in_order : (d : Whole P) (before : List P) → IsBefore d before part 0 ready → ((k : ℕ) → k < length words → IsBefore d before part 0 (word_name words k)) → InOrder d before part 0 block.wires
  in_order d before r h = ((r, each (Reads (IsBefore d before part 0)) reads none (λ a b x y. (x, y)) (all_reads (Reads (IsBefore d before part 0)) h) tt, tt), tt)

  spelled : tree_spelled (shown ready words) ≡ true
  spelled =
      let deep = low 1 reads none (all_reads (λ t. depth t ≤ 1) (λ k l. omega arith)) (omega arith) in
      let count = length-map words TRead in
      and_from _ _ (le-leb (depth (shown ready words)) 64 (omega (arith, deep, count, few)))
      (and_from _ _ (each (λ t. prefixes_apart t ≡ true) reads none (λ a b x y. and_from _ _ x y) (all_reads (λ t. prefixes_apart t ≡ true) (λ k l. refl)) refl) refl)

  flat : (made : Name P → Bool) → is_flat made (shown ready words) ≡ true
  flat made = and_from _ _ (each (λ t. is_flat made t ≡ true) reads none (λ a b x y. and_from _ _ x y) (all_reads (λ t. is_flat made t ≡ true) (λ k l. refl)) refl) refl

  module _ (v : Env (Name P)) (r : Bool) (named number : ℕ) (h : (k : ℕ) → k < length words → v.net (word_name words k) ≡ word 64 (one_word named number k)) where
    shows_word : (k : ℕ) → k < length words → v.net (word_name words k) ≡ word 64 (one_word named number (0 + k))
    shows_word k l = let z : k ≡ 0 + k = omega arith in h k l ∙ ap (λ i. word 64 (one_word named number i)) z

    any_value : value v (any_of reads none) ≡ word 64 (if nat_lt named (length words) then number else 0)
    any_value = by (nat_lt named (length words)) refl
      where
        by : (t : Bool) → nat_lt named (length words) ≡ t → value v (any_of reads none) ≡ word 64 (if nat_lt named (length words) then number else 0)
        by true e = let l : named < length words = grind (arith, nat_tests) in some_word v (name.Port 0) named number words 0 (omega arith) (omega (arith, l)) shows_word ∙ sym (ap (λ t. word 64 (if t then number else 0)) e)
        by false e = let l : length words ≤ named = grind (arith, nat_tests) in no_word v (name.Port 0) named number words 0 (inr (omega (arith, l))) shows_word ∙ sym (ap (λ t. word 64 (if t then number else 0)) e)

    shown_as : (r : Bool) → conditional (bit r) (word 64 (if nat_lt named (length words) then number else 0)) (word 64 0) ≡ word 64 (read r named number (length words))
    shown_as true = refl
    shown_as false = refl

    shown_value : Solve v part 0 block.wires → v.net ready ≡ bit r → v.net (value_name part) ≡ word 64 (read r named number (length words))
    shown_value solved e = solved.0 ∙ (λ j. conditional (e j) (any_value j) (word 64 0)) ∙ shown_as r

  is_value : IsValue part ready words block
  is_value = record {
    registers = refl;
    memories = refl;
    wires = refl;
    typed = λ d one h. record { registers = refl; memories = refl; wires = wires_typed d one h; statement = refl };
    ordered = in_order;
    reads = λ d. tt;
    within = tt;
    wires_spelled = and_from (tree_spelled (shown ready words)) true spelled refl;
    statement_spelled = refl;
    free = record { wires = λ made. and_from (is_flat made (shown ready words)) true (flat made) refl; statement = λ made. refl };
    goes = λ v. (refl, tt);
    stays = λ v s. refl;
    shows = λ v r named number solved e h. shown_value v r named number h solved e;
  }

  pub made : (b : BlockTree (Name P)) → b ≡ block → IsValue part ready words b
  made b e = subst (IsValue part ready words) (sym e) is_value
