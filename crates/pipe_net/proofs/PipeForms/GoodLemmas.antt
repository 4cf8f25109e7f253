-- What is to be shown of each part of a design, and that blocks of wires alone have it.
use Rattle.std.specs.Prelude.{◌≡◌, ℕ, zero, suc, ◌^◌, ◌<◌, List, [], ◌∷◌, length, map, IsTrue, nat_lt, nat_le, ◌&&◌, true}
use Rattle.std.specs.List.{list_all}
use Rattle.std.proofs.Common.{get_or, refl, sym, subst, arith}
use Rattle.std.proofs.lemmas.Bool.{and_parts, ltb-true}
use Rattle.block_core.specs.net_core.declared.tree.Word.{Word}
use Rattle.block_core.specs.net_core.Ports.{port_list}
use Rattle.block_core.specs.net_core.Width.{word_fits}
use Rattle.block_core.specs.design_rules.FormedSyntax.{statement_spelled}
use Rattle.block_core.specs.ProductBlocks.Alone.{IsApartAlone}
use Rattle.block_core.proofs.ProductBlocks.AloneLaws.{free_alone}
use Rattle.block_core.specs.declared.name.Name.{Name}
use Rattle.block_core.specs.Blocks.{BlockTree, Whole, registers_of, memories_of}
use Rattle.block_core.specs.Parts.{Within}
use Rattle.block_core.specs.Order.{InOrder}
use Rattle.block_core.specs.Formed.{word_width, words_fit, IsTypedBlock, StatementReads, IsThere}
use Rattle.block_core.specs.BlockForms.WellFormed.{wire_spelled}
use Rattle.turn_net.specs.cell_nets.declared.operand.Operand.{Operand}
use Rattle.turn_net.specs.cell_nets.OperandBlocks.Wiring.{wires_block, IsWiring}
use Rattle.pipe_net.specs.declared.parts.Part.{Part}
use Rattle.pipe_net.specs.Parts as part
use Rattle.pipe_net.proofs.PipeForms.EarlierLemmas.{earlier, AreReady, ready_declared, ready_early, ready_none}

-- The part of a number is well typed and in order, reads what is there, sets what is its own, can be spelled, and has its products apart.
pub record IsGood (d : Whole Part) (n : ℕ) : Type 0 where
  pub typed : IsTypedBlock d port_list (d.block (part.part n))
  pub ordered : InOrder d (earlier n) (part.part n) 0 (d.block (part.part n)).wires
  pub reads : StatementReads (IsThere d) (d.block (part.part n)).statement
  pub within : Within (registers_of (d.block (part.part n))) (memories_of (d.block (part.part n))) (d.block (part.part n)).statement
  pub wires_spelled : IsTrue (list_all wire_spelled (d.block (part.part n)).wires)
  pub spelled : IsTrue (statement_spelled (d.block (part.part n)).statement)
  pub alone : IsApartAlone (part.part n) (d.block (part.part n))

-- ---- blocks that store nothing
pub within_idle : {N : Type 0} (b : BlockTree N) → b.registers ≡ [] → b.memories ≡ [] → Within 0 0 b.statement → Within (registers_of b) (memories_of b) b.statement
within_idle b e f h = subst (λ rs. Within (length rs) (memories_of b) b.statement) (sym e) (subst (λ ms. Within 0 (length ms) b.statement) (sym f) h)

pub good_wiring : (d : Whole Part) (n : ℕ) (outside : List (Operand (Name Part))) → IsWiring (part.part n) outside (d.block (part.part n)) → AreReady d n outside → IsGood d n
good_wiring d n outside is h = record {
  typed = is.typed d refl (ready_declared d n outside h);
  ordered = is.ordered d (earlier n) (ready_early d n outside h);
  reads = is.reads d;
  within = within_idle (d.block (part.part n)) is.registers is.memories is.within;
  wires_spelled = is.wires_spelled;
  spelled = is.spelled;
  alone = free_alone (part.part n) (d.block (part.part n)) is.free;
}

empty_wiring : (p : Part) → IsWiring p [] (wires_block [])
empty_wiring p = record {
  registers = refl;
  memories = refl;
  typed = λ w here declared. record { registers = refl; memories = refl; wires = refl; statement = refl };
  ordered = λ w before h. tt;
  reads = λ w. tt;
  within = tt;
  wires_spelled = refl;
  spelled = refl;
  free = record { wires = λ made. refl; statement = λ made. refl };
  goes = λ v f s. tt;
  stays = λ v s. refl;
}

pub good_empty : (d : Whole Part) (n : ℕ) → d.block (part.part n) ≡ wires_block [] → IsGood d n
good_empty d n e = good_wiring d n [] (subst (IsWiring (part.part n) []) (sym e) (empty_wiring (part.part n))) (ready_none d n)

-- ---- registers of a well typed block have bits
pub some_bits : (ws : List Word) → words_fit ws ≡ true → (i : ℕ) → i < length ws → 0 < get_or (map word_width ws) i 0
some_bits [] h i lt = absurd (omega (arith, lt))
some_bits (w ∷ ws) h zero lt =
    let both = and_parts (word_fits w) (words_fit ws) h in
    let some = and_parts (nat_lt 0 w.width) (nat_le w.width 64 && nat_lt w.value (2 ^ w.width)) both.0 in
    ltb-true 0 w.width some.0
some_bits (w ∷ ws) h (suc i) lt = some_bits ws (and_parts (word_fits w) (words_fit ws) h).1 i (omega (arith, lt))
