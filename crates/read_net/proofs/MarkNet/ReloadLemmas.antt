-- The part that says whether a mark calls for a reload is what it is to be.
use Rattle.std.specs.List.{list_any}
use Rattle.std.proofs.Common.{◌≡◌, ◌∙◌, ℕ, Bool, true, false, List, [], ◌∷◌, refl, ap, arith}
use Rattle.block_core.specs.net_core.Value.{word, bit as bit_word, Env}
use Rattle.block_core.specs.declared.name.Name.{Name}
use Rattle.block_core.specs.Blocks.{BlockWireTree}
use Rattle.block_core.proofs.list_laws_laws.AllLaws.{all_one}
use Rattle.overlay_net.specs.cell_core.Cells.{bit, bits_from}
use Rattle.overlay_net.specs.cell_core.Sites.{ProgramView}
use Rattle.overlay_net.specs.hazard_core.StageValues.{StageValues}
use Rattle.overlay_net.specs.cell_nets.declared.operand.Operand.{Operand}
use Rattle.overlay_net.specs.cell_nets.declared.operand.Operand.TheVariants.{Net}
use Rattle.overlay_net.specs.cell_nets.Operands.{number_in, IsOperand, IsAvailable}
use Rattle.overlay_net.specs.cell_nets.Wires.{always, Gives}
use Rattle.overlay_net.specs.cell_nets.StepNets.Standing.{Stands}
use Rattle.overlay_net.proofs.cell_nets_laws.StepNets.ChainLaws.{starts, next}
use Rattle.overlay_net.proofs.cell_nets_laws.StepNets.StepLaws.{all_each}
use Rattle.overlay_net.specs.cell_nets.OperandBlocks.Wiring.{wires_block}
use Rattle.overlay_net.proofs.cell_nets_laws.OperandBlocks.WiringLaws.{all_there, all_known, is_wiring, word_is, offers}
use Rattle.overlay_net.proofs.cell_core_laws.BitLaws.{bit_bits}
use Rattle.read_net.specs.declared.touch_net.marks.MarkNets.{MarkNets}
use Rattle.read_net.specs.TouchNet.Marking.{mark_operands, shown_reload, AreKnown, ShowMarks}
use Rattle.read_net.specs.MarkNet.Reload.{some_reload, MustReload}
use Rattle.read_net.proofs.MarkNet.StandLemmas.{stands_as}

word_of : (c : Bool) → word 1 (bit c) ≡ bit_word c
word_of true = refl
word_of false = refl

module _ {P : Type 0} (part : P) (ms : List (MarkNets (Name P))) (reload : Name P) (any : Operand (Name P)) (mid ws : List (BlockWireTree (Name P))) (y : Gives part mid ws (any ∷ []) always (λ v. bits_from (number_in v any) 0 1) 1 (Net reload 1)) where
  abbrev ins : List (Operand (Name P))
  ins = mark_operands ms

  abbrev outs : List (Operand (Name P))
  outs = Net reload 1 ∷ []

  abbrev Says : (Env (Name P) → Bool) → Env (Name P) → Type 0
  Says f v = (v.net reload).value ≡ bit (f v)

  -- the net says what the operand does
  says : (needs : Env (Name P) → Type 0) (f : Env (Name P) → Bool) → Gives part [] mid ins needs (λ v. bit (f v)) 1 any → Stands part [] ws ins needs outs (Says f)
  says needs f x =
      stands_as outs (Says f) (next (next (starts part [] ins needs) x (λ ins h. h) (λ v fit k. k)) y (λ ins h. all_each (IsAvailable ins) (any ∷ []) (h 0 any (omega arith), tt)) (λ v fit k. tt))
      (λ ins h. all_one (IsAvailable ins) (Net reload 1) (h 0 (Net reload 1) (omega arith))) (λ v k. k.1 ∙ ap (λ n. bits_from n 0 1) k.0.1 ∙ bit_bits (f v))

  module _ (x : Gives part [] mid ins always (λ v. bit (list_any (shown_reload v) ms)) 1 any)
      (means : (p : ProgramView) (row : ℕ → ℕ) (r : ℕ) (h : StageValues) (js : List ℕ) (marked : ℕ → Bool) → AreKnown p row r js ms → Gives part [] mid ins (λ v. ShowMarks v p row r h marked js ms) (λ v. bit (some_reload p row r h marked js)) 1 any) where
    abbrev some : Env (Name P) → Bool
    some v = list_any (shown_reload v) ms

    base : Stands part [] ws ins always outs (Says some)
    base = says always some x

    pub reload_part : MustReload part ms reload (wires_block ws)
    reload_part = record {
      wiring = is_wiring part ws ins outs always (Says some) base;
      offers = offers part ws ins outs always (Says some) base (all_one IsOperand (Net reload 1) (record { some = omega arith; most = omega arith }));
      says = λ v fit solved.
          word_is part ws ins outs always (Says some) base v fit solved reload 1 (bit (some v)) (all_there part ws ins outs always (Says some) base 0 (Net reload 1) (omega arith)) (all_known part ws ins outs always (Says some) base v fit solved tt)
          ∙ word_of (some v);
      shows = λ v p row r h js marked fit solved known shown.
          let needs : Env (Name P) → Type 0 = λ v. ShowMarks v p row r h marked js ms in
          let f : Env (Name P) → Bool = λ v. some_reload p row r h marked js in
          word_is part ws ins outs always (Says some) base v fit solved reload 1 (bit (some_reload p row r h marked js)) (all_there part ws ins outs always (Says some) base 0 (Net reload 1) (omega arith))
          (all_known part ws ins outs needs (Says f) (says needs f (means p row r h js marked known)) v fit solved shown)
          ∙ word_of (some_reload p row r h marked js);
    }
