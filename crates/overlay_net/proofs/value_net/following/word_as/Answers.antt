use Rattle.std.proofs.Common.{◌≡◌, [], ◌∷◌, ◌∙◌, ap, ap₂, sym, subst, arith}
use Rattle.std.proofs.lemmas.List.Elements.{All-tail}
use Rattle.block_core.proofs.list_laws_laws.AllLaws.{all_two, all_three}
use Rattle.byteorder.specs.Endian.{little_bytes}
use Rattle.hazard_core.specs.xdp_machine.Memory.{bytes_in}
use Rattle.hazard_core.specs.xdp_maps.Calls.{patched, with_change}
use Rattle.hazard_core.specs.cell_core.Formed.{IsInside}
use Rattle.hazard_core.specs.cell_core.Sites.{operation_with, change_of}
use Rattle.hazard_core.specs.Commits.{word_at}
use Rattle.hazard_core.specs.Overlay.{value_as}
use Rattle.cell_nets.specs.Operands.{number_in, IsAvailable}
use Rattle.cell_nets.specs.Wires.{always}
use Rattle.overlay_net.specs.ValueNet.Lists.{numbers_in}
use Rattle.overlay_net.proofs.ValueNet.Holding.{step_gives, there_gives}
use Rattle.overlay_net.proofs.ValueNet.FollowLemmas.{unwritten}
use Rattle.overlay_net.proofs.value_net.following.word_as.Goals as goal

pub returns-in_ok-out-in-Update : goal.returns-in_ok-out-in-Update
returns-in_ok-out-in-Update g c = λ key value b.
    let old = c.args.old in
    let operands = c.args.operands.now in
    step_gives c.args.part _ _ (old ∷ operands) operands (λ v. number_in v old ≡ word_at value c.args.w) always _ _ 64 c.in_ok-out-in-Update.out c.in_ok-out-in-Update.ensures (λ ins h. All-tail (IsAvailable ins) old operands h)
    (λ v f e. (tt, ap (λ a. word_at (value_as (operation_with c.args.decl.now a key (numbers_in v operands)) value) c.args.w) (sym c.in-Update.is)))

pub returns-in_ok-out-in-Store : goal.returns-in_ok-out-in-Store
returns-in_ok-out-in-Store g c = λ key value b.
    let old = c.args.old in
    let operands = c.args.operands.now in
    let number = c.operand_at-number.result in
    let at = c.in-Store.at in
    let size = c.in-Store.size in
    step_gives c.args.part _ _ (old ∷ operands) (old ∷ number ∷ []) (λ v. number_in v old ≡ word_at value c.args.w) (λ v. number_in v old ≡ word_at value c.args.w) _ _ 64 c.in_ok-out-in-Store.out (c.in_ok-out-in-Store.ensures c.args.decl.now.value value b (subst (IsInside c.args.decl.now.value) c.in-Store.is c.requires.inside))
    (λ ins h. all_two (IsAvailable ins) old number (h 0 old (omega arith)) (c.operand_at-number.ensures.available ins (All-tail (IsAvailable ins) old operands h)))
    (λ v f e. (e, ap (λ k. word_at (patched value at (little_bytes (bytes_in size) k)) c.args.w) (c.operand_at-number.ensures.number v) ∙ ap (λ a. word_at (value_as (operation_with c.args.decl.now a key (numbers_in v operands)) value) c.args.w) (sym c.in-Store.is)))

pub returns-in_ok-out-in-Atomic : goal.returns-in_ok-out-in-Atomic
returns-in_ok-out-in-Atomic g c = λ key value b.
    let old = c.args.old in
    let operands = c.args.operands.now in
    let source = c.operand_at-source.result in
    let compare = c.operand_at-compare.result in
    let at = c.in-Atomic.at in
    let x = c.in-Atomic.atomic in
    step_gives c.args.part _ _ (old ∷ operands) (old ∷ source ∷ compare ∷ []) (λ v. number_in v old ≡ word_at value c.args.w) (λ v. number_in v old ≡ word_at value c.args.w) _ _ 64 c.in_ok-out-in-Atomic.out (c.in_ok-out-in-Atomic.ensures c.args.decl.now.value value b (subst (IsInside c.args.decl.now.value) c.in-Atomic.is c.requires.inside))
    (λ ins h. let rest = All-tail (IsAvailable ins) old operands h in all_three (IsAvailable ins) old source compare (h 0 old (omega arith)) (c.operand_at-source.ensures.available ins rest) (c.operand_at-compare.ensures.available ins rest))
    (λ v f e. (e, ap₂ (λ s k. word_at (with_change (change_of x s k) at value) c.args.w) (c.operand_at-source.ensures.number v) (c.operand_at-compare.ensures.number v) ∙ ap (λ a. word_at (value_as (operation_with c.args.decl.now a key (numbers_in v operands)) value) c.args.w) (sym c.in-Atomic.is)))

pub returns-in_default : goal.returns-in_default
returns-in_default g c = λ key value b.
    let old = c.args.old in
    let operands = c.args.operands.now in
    there_gives c.args.part _ (old ∷ operands) (λ v. number_in v old ≡ word_at value c.args.w) _ 64 old c.requires.old c.requires.word (λ ins h. h 0 old (omega arith))
    (λ v f e. e ∙ ap (λ ys. word_at ys c.args.w) (sym (unwritten c.args.decl.now c.args.act key (numbers_in v operands) value c.in_default.not-Update (λ at size is. c.in_default.not-Store at size is) (λ at x is. c.in_default.not-Atomic at x is))))
