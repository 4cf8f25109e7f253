use Rattle.std.specs.Prelude.{◌==◌, if◌then◌else◌}
use Rattle.std.proofs.Common.{◌≡◌, ◌*◌, ◌%◌, ◌<◌, ◌^◌, [], ◌∷◌, ◌∙◌, ap, sym, subst, arith}
use Rattle.block_core.proofs.list_laws_laws.AllLaws.{all_one, all_two}
use Rattle.hazard_core.specs.cell_core.declared.operator.Operator.TheVariants.{Add, Or, And, Xor}
use Rattle.hazard_core.specs.cell_core.Cells.{number}
use Rattle.cell_nets.specs.Operands.{number_in, IsAvailable}
use Rattle.overlay_net.specs.ValueNet.Words.{change_bits}
use Rattle.overlay_net.proofs.ValueNet.Holding.{no_packet, step_gives, wide_gives}
use Rattle.overlay_net.proofs.ValueNet.ChangeLaws.{arm_gives, add_is, or_is, and_is, xor_is, source_is, exchange_is}
use Rattle.overlay_net.proofs.value_net.changing.change_result.Goals as goal

pub returns-in_ok-out-in-Add : goal.returns-in_ok-out-in-Add
returns-in_ok-out-in-Add g c =
    let a = c.args.atomic in
    let old = c.args.old in
    let source = c.args.source in
    let compare = c.args.compare in
    let e : c.change_bytes-width.result * 8 ≡ change_bits a.wide = omega (arith, c.change_bytes-width.ensures.value) in
    arm_gives c.args.part _ _ (old ∷ source ∷ compare ∷ []) (old ∷ source ∷ []) (λ v. number_in v old < 2 ^ change_bits a.wide) (λ v. number no_packet Add (number_in v old ∷ number_in v source ∷ [])) _ (c.change_bytes-width.result * 8) (change_bits a.wide) c.in_ok-out-in-Add.out e
    (c.in_ok-out-in-Add.ensures.gives no_packet) (λ ins h. all_two (IsAvailable ins) old source (h 0 old (omega arith)) (h 1 source (omega arith))) (λ v small. add_is no_packet a (number_in v old) (number_in v source) (number_in v compare) small c.in-Add.is)

pub returns-in_ok-out-in-Or : goal.returns-in_ok-out-in-Or
returns-in_ok-out-in-Or g c =
    let a = c.args.atomic in
    let old = c.args.old in
    let source = c.args.source in
    let compare = c.args.compare in
    let e : c.change_bytes-width.result * 8 ≡ change_bits a.wide = omega (arith, c.change_bytes-width.ensures.value) in
    arm_gives c.args.part _ _ (old ∷ source ∷ compare ∷ []) (old ∷ source ∷ []) (λ v. number_in v old < 2 ^ change_bits a.wide) (λ v. number no_packet Or (number_in v old ∷ number_in v source ∷ [])) _ (c.change_bytes-width.result * 8) (change_bits a.wide) c.in_ok-out-in-Or.out e
    (c.in_ok-out-in-Or.ensures.gives no_packet) (λ ins h. all_two (IsAvailable ins) old source (h 0 old (omega arith)) (h 1 source (omega arith))) (λ v small. or_is no_packet a (number_in v old) (number_in v source) (number_in v compare) small c.in-Or.is)

pub returns-in_ok-out-in-And : goal.returns-in_ok-out-in-And
returns-in_ok-out-in-And g c =
    let a = c.args.atomic in
    let old = c.args.old in
    let source = c.args.source in
    let compare = c.args.compare in
    let e : c.change_bytes-width.result * 8 ≡ change_bits a.wide = omega (arith, c.change_bytes-width.ensures.value) in
    arm_gives c.args.part _ _ (old ∷ source ∷ compare ∷ []) (old ∷ source ∷ []) (λ v. number_in v old < 2 ^ change_bits a.wide) (λ v. number no_packet And (number_in v old ∷ number_in v source ∷ [])) _ (c.change_bytes-width.result * 8) (change_bits a.wide) c.in_ok-out-in-And.out e
    (c.in_ok-out-in-And.ensures.gives no_packet) (λ ins h. all_two (IsAvailable ins) old source (h 0 old (omega arith)) (h 1 source (omega arith))) (λ v small. and_is no_packet a (number_in v old) (number_in v source) (number_in v compare) small c.in-And.is)

pub returns-in_ok-out-in-Xor : goal.returns-in_ok-out-in-Xor
returns-in_ok-out-in-Xor g c =
    let a = c.args.atomic in
    let old = c.args.old in
    let source = c.args.source in
    let compare = c.args.compare in
    let e : c.change_bytes-width.result * 8 ≡ change_bits a.wide = omega (arith, c.change_bytes-width.ensures.value) in
    arm_gives c.args.part _ _ (old ∷ source ∷ compare ∷ []) (old ∷ source ∷ []) (λ v. number_in v old < 2 ^ change_bits a.wide) (λ v. number no_packet Xor (number_in v old ∷ number_in v source ∷ [])) _ (c.change_bytes-width.result * 8) (change_bits a.wide) c.in_ok-out-in-Xor.out e
    (c.in_ok-out-in-Xor.ensures.gives no_packet) (λ ins h. all_two (IsAvailable ins) old source (h 0 old (omega arith)) (h 1 source (omega arith))) (λ v small. xor_is no_packet a (number_in v old) (number_in v source) (number_in v compare) small c.in-Xor.is)

pub returns-in_ok-out-in-Xchg : goal.returns-in_ok-out-in-Xchg
returns-in_ok-out-in-Xchg g c =
    let a = c.args.atomic in
    let old = c.args.old in
    let source = c.args.source in
    let compare = c.args.compare in
    let e : c.change_bytes-width.result * 8 ≡ change_bits a.wide = omega (arith, c.change_bytes-width.ensures.value) in
    arm_gives c.args.part _ _ (old ∷ source ∷ compare ∷ []) (source ∷ []) (λ v. number_in v old < 2 ^ change_bits a.wide) (λ v. number_in v source) _ (c.change_bytes-width.result * 8) (change_bits a.wide) c.in_ok-out-in-Xchg.out e
    c.in_ok-out-in-Xchg.ensures (λ ins h. all_one (IsAvailable ins) source (h 1 source (omega arith))) (λ v small. source_is no_packet a (number_in v old) (number_in v source) (number_in v compare) small c.in-Xchg.is)

pub returns-in_ok-out-in-Cmpxchg : goal.returns-in_ok-out-in-Cmpxchg
returns-in_ok-out-in-Cmpxchg g c =
    let a = c.args.atomic in
    let old = c.args.old in
    let source = c.args.source in
    let compare = c.args.compare in
    let w = c.change_bytes-width.result * 8 in
    let e : w ≡ change_bits a.wide = omega (arith, c.change_bytes-width.ensures.value) in
    let args = old ∷ source ∷ compare ∷ [] in
    wide_gives c.args.part _ _ args _ _ w (change_bits a.wide) c.in_ok-out-in-Cmpxchg.out e
    (step_gives c.args.part _ _ args args (λ v. number_in v old < 2 ^ change_bits a.wide) (λ v. number_in v old < 2 ^ w) _ _ w c.in_ok-out-in-Cmpxchg.out c.in_ok-out-in-Cmpxchg.ensures (λ ins h. h)
    (λ v f small. (
      subst (λ k. number_in v old < 2 ^ k) (sym e) small,
      ap (λ k. if number_in v old == number_in v compare % 2 ^ k then number_in v source % 2 ^ k else number_in v old) e ∙ exchange_is no_packet a (number_in v old) (number_in v source) (number_in v compare) small c.in-Cmpxchg.is,
    )))
