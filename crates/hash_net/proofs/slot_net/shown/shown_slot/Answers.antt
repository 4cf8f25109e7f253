use Rattle.std.specs.List.{range_with_len}
use Rattle.std.proofs.Common.{◌≡◌, ◌+◌, ◌*◌, ◌∙◌, map, ap, arith}
use Rattle.block_core.specs.declared.name.Name.TheVariants as name
use Rattle.overlay_net.specs.hazard_core.Commits.{word_count}
use Rattle.array_net.specs.Words.{word_width}
use Rattle.cell_nets.specs.declared.operand.Operand.TheVariants.{Net}
use Rattle.hash_net.specs.SlotNet.Shown.{per_slot}
use Rattle.hash_net.proofs.SlotNet.ShownLemmas.{pushed}
use Rattle.hash_net.proofs.slot_net.shown.shown_slot.Goals as goal

pub loop-w-preserved : goal.loop-w-preserved
loop-w-preserved g c =
    let d = c.args.decl.now in
    let w = c.loop-w.w in
    pushed (λ w. Net (name.Wire c.args.part (c.args.n * per_slot d + 1 + w)) (word_width d.key w)) c.loop-w.key.items c.push.new.self.items (Net (name.Wire c.args.part (c.args.n * c.per_slot.result + 1 + w)) c.word_width.result) w c.in_ok-push.ensures.items
    (λ i. Net (name.Wire c.args.part (c.args.n * c.per_slot.ensures.count i + 1 + w)) (c.word_width.ensures.width i)) c.loop-w.invariant

pub returns : goal.returns
returns g c =
    let d = c.args.decl.now in
    let e : c.loop-w.w ≡ word_count d.key = omega arith in
    let words = c.loop-w.invariant ∙ ap (λ k. map (λ w. Net (name.Wire c.args.part (c.args.n * per_slot d + 1 + w)) (word_width d.key w)) (range_with_len 0 k)) e in
    λ i. record { used = Net (name.Wire c.args.part (c.args.n * c.per_slot.ensures.count i)) 1; key = words i }
