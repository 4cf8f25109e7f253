use Rattle.std.specs.Prelude.{nat_lt, if◌then◌else◌}
use Rattle.std.proofs.Common.{All, ◌∙◌, subst, sym, ◌^◌, map as map_list, [], ◌∷◌, ap, arith, slice_index}
use Rattle.std.proofs.lemmas.Nat.{pow_pos}
use Rattle.hazard_core.specs.cell_core.Cells.{bit, on, bits_from}
use Rattle.hazard_core.specs.cell_core.Sites.{site_at}
use Rattle.hazard_core.specs.StageValues.{stage_value}
use Rattle.hazard_core.proofs.cell_core_laws.BitLaws.{small_bits}
use Rattle.cell_nets.specs.declared.operand.Operand.TheVariants.{Known}
use Rattle.cell_nets.specs.Operands.{number_in, IsOperand, IsAvailable}
use Rattle.cell_nets.specs.Wires.{wires_of}
use Rattle.overlay_net.specs.SiteOperands.Pointers.{pointer_number}
use Rattle.overlay_net.specs.SiteOperands.Sites.{operands_of, all_of}
use Rattle.cell_nets.proofs.StepNets.ChainLaws.{starts, next, last}
use Rattle.overlay_net.proofs.FindLemmas.{tail_of, update_found, other_found}
use Rattle.cell_nets.proofs.StepNets.StepLaws.{all_each, on_bit, narrow_small, choice_small, cut_given}
use Rattle.overlay_net.proofs.finding.found_pointer.Goals as goal
use Rattle.overlay_net.proofs.SiteOperandLaws.{others_of}

pub returns-in_ok-out-in-Update : goal.returns-in_ok-out-in-Update
returns-in_ok-out-in-Update g c =
    let s = operands_of c.args.nets.now in
    let key = c.args.key in
    let flags = c.operand_at-flags.result in
    let unknown = c.in_ok-unknown-in-Update.unknown in
    let w = c.args.bits in
    let x = c.in_ok-out-in-Update.ensures in
    record {
      operand = x.operand;
      bits = x.bits;
      given = λ p t h before j e.
          last
          (next (starts c.args.part (wires_of c.args.wires.now.items) (key ∷ all_of s) _) c.in_ok-unknown-in-Update.ensures (λ ins h. all_each (IsAvailable ins) (Known 2 ∷ flags ∷ []) (tt, (c.operand_at-flags.ensures.there ins (subst (All (IsAvailable ins)) (sym c.deref.ensures.value) (others_of (IsAvailable ins) s (tail_of (IsAvailable ins) key (all_of s) h))), tt))) (λ v f k. tt))
          x (λ ins h. all_each (IsAvailable ins) (unknown ∷ Known 0 ∷ key ∷ []) (h 0 unknown (omega arith), (tt, (h 1 key (omega arith), tt)))) (λ v f k. tt) _
          (λ v f k.
          let n = slice_index (map_list (stage_value h) (site_at p.sites j).operands) 0 in
          let flagged = k.1 ∙ ap (λ n. bit (nat_lt 2 n)) (c.operand_at-flags.ensures.number v ∙ ap (λ l. slice_index (map_list (number_in v) l) 0) c.deref.ensures.value ∙ ap (λ l. slice_index l 0) k.0.0.operands) in
          ap (λ b. bits_from (if b then 0 else number_in v key) 0 w) (ap on flagged ∙ on_bit (nat_lt 2 n))
          ∙ small_bits (if nat_lt 2 n then 0 else number_in v key) w (choice_small (nat_lt 2 n) 0 (number_in v key) (2 ^ w) (pow_pos w) (narrow_small v w key c.requires.key_narrow (f 1 key (omega arith))))
          ∙ ap (λ m. if nat_lt 2 n then 0 else m) k.0.1
          ∙ update_found p t h before j c.args.act e c.in-Update.is);
    }

pub returns-in_ok-out-in_default : goal.returns-in_ok-out-in_default
returns-in_ok-out-in_default g c =
    let x = c.in_ok-out-in_default.ensures in
    record {
      operand = x.operand;
      bits = x.bits;
      given = λ p t h before j e.
          cut_given c.args.part _ _ (c.args.key ∷ all_of (operands_of c.args.nets.now)) _ (λ v. pointer_number _) c.args.bits c.args.key c.in_ok-out-in_default.out x c.requires.key_narrow (λ Q h. h 0 c.args.key (omega arith))
          (λ v k. k.1 ∙ other_found p t h before j c.args.act e c.in_default.not-Update);
    }

pub operand_at-flags-requires : goal.operand_at-flags-requires
operand_at-flags-requires g c = subst (All IsOperand) (sym c.deref.ensures.value) (others_of IsOperand (operands_of c.args.nets.now) c.requires.operands)
