-- The block is what it is to be.
use Rattle.std.proofs.Common.{◌≡◌, ◌+◌, ◌^◌, true, All, List, [], ◌∷◌, get_or, refl, ◌∙◌, ap, arith, map as map_list}
use Rattle.std.proofs.lemmas.Nat.{pow_pos}
use Rattle.std.proofs.lemmas.Bool.{le-leb, lt-ltb}
use Rattle.std.proofs.lemmas.List.{length-map}
use Rattle.std.proofs.lemmas.List.Elements.{All-head, All-tail}
use Rattle.net_core.specs.Chains.{all_of}
use Rattle.net_core.specs.Nets.{StatementTree}
use Rattle.net_core.specs.Ports.{port_list}
use Rattle.block_core.specs.declared.name.Name.{Name}
use Rattle.block_core.specs.Blocks.{BlockTree, BlockWireTree}
use Rattle.block_core.specs.Formed.{names_scope, word_width, block_registers, words_fit, IsThere}
use Rattle.cell_nets.specs.declared.operand.Operand.{Operand}
use Rattle.cell_nets.specs.Operands.{IsWide, IsAvailable}
use Rattle.cell_nets.specs.Wires.{behind, AreWires}
use Rattle.cell_nets.specs.declared.operand_blocks.registers.Taken.{Taken}
use Rattle.cell_nets.specs.OperandBlocks.Sets.{AreSets}
use Rattle.cell_nets.specs.OperandBlocks.Registers.{operand_in, width_in, zero_word, IsRegistered}
use Rattle.cell_nets.proofs.OperandBlocks.WiringLaws.{behind_declared}
use Rattle.cell_nets.proofs.OperandBlocks.SetLemmas.{AreThere, are_there, are_some, sets_typed, sets_read, sets_within, sets_spelled, sets_flat, sets_leave}

zero_widths : {N : Type 0} (ts : List (Taken N)) → map_list word_width (map_list zero_word ts) ≡ map_list width_in ts
zero_widths [] = refl
zero_widths (t ∷ ts) = ap (λ l. t.width ∷ l) (zero_widths ts)

zeros_fit : {N : Type 0} (ts : List (Taken N)) → All (λ t. IsWide (width_in t)) ts → words_fit (map_list zero_word ts) ≡ true
zeros_fit [] h = refl
zeros_fit (t ∷ ts) h =
    let w = All-head (λ t. IsWide (width_in t)) t ts h in
    rw (lt-ltb 0 t.width w.some, le-leb t.width 64 w.most, lt-ltb 0 (2 ^ t.width) (pow_pos t.width)) (zeros_fit ts (All-tail (λ t. IsWide (width_in t)) t ts h))

module _
    {P : Type 0} (part : P) (outside : List (Operand (Name P))) (all : List (Taken (Name P))) (ws : List (BlockWireTree (Name P))) (ss : List (StatementTree (Name P))) (wide : All (λ t. IsWide (width_in t)) all) (sets : AreSets 0 all ss) (wires : AreWires part outside ws)
    (available : All (IsAvailable (behind part outside ws)) (map_list operand_in all)) where
  abbrev b : BlockTree (Name P)
  b = record { registers = map_list zero_word all; memories = []; wires = ws; statement = all_of ss }

  abbrev ins : List (Operand (Name P))
  ins = behind part outside ws

  there : AreThere ins all
  there = are_there ins all available

  pub is_registered : IsRegistered part outside all ws b
  is_registered = record {
    wires = refl;
    registers = zero_widths all;
    memories = refl;
    typed = λ w here declared.
        let known = behind_declared part w b outside here declared in
        record {
          registers = zeros_fit all wide;
          memories = refl;
          wires = wires.typed (names_scope w port_list) known;
          statement = sets_typed (names_scope w port_list) ins known (block_registers b) [] all ss 0 (λ k l. let z : 0 + k ≡ k = omega arith in ap (λ i. get_or (block_registers b) i 0) z ∙ ap (λ ns. get_or ns k 0) (zero_widths all)) there (are_some all wide) sets;
        };
    ordered = wires.ordered;
    reads = λ w h. sets_read ins (IsThere w) h all ss 0 there sets;
    within = sets_within _ 0 all ss 0 (omega (arith, length-map all zero_word)) sets;
    wires_spelled = wires.spelled;
    spelled = sets_spelled ins all ss there sets;
    flat = λ made. sets_flat made ins all ss 0 there sets;
    goes = wires.goes;
    first = refl;
    takes = λ v s fit solved count none.
        let left = sets_leave v ins (wires.fits v fit solved) all ss s there sets count in
        λ i. record { registers = left.0 i; memories = (left.1 ∙ none) i };
  }
