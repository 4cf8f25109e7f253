use Rattle.std.specs.List.{filter}
use Rattle.std.specs.declared.alloc.Global.{Global}
use Rattle.std.specs.declared.vec.Vec.{Vec}
use Rattle.std.proofs.Common.{◌≡◌, ◌∙◌, ℕ, ◌+◌, ◌<◌, Bool, true, false, length, get_or, sym, ap, subst, arith}
use Rattle.std.proofs.lemmas.List.{take_all, get_or_default}
use Rattle.block_core.specs.declared.name.Name.{Name}
use Rattle.commit_net.specs.declared.target.TakenSlot.{TakenSlot}
use Rattle.pipe_net.specs.declared.parts.Part.{Part}
use Rattle.pipe_parts.specs.PipeDraft.PipelinePlan.{program_in, decls_in}
use Rattle.pipe_parts.specs.TurnParts.Sites.{keeps_at, taken_at}
use Rattle.pipe_parts.proofs.TurnParts.Siting.{read_there, listed_few}
use Rattle.pipe_parts.proofs.TurnParts.Taking.{slot_at, slot_of, taken_more, taken_less, taken_few}
use Rattle.pipe_parts.proofs.turn_parts.sites.taken_slots.Goals as goal
use Rattle.pipe_parts.proofs.turn_parts.sites.taken_slots.Goals.{then-keeps_at+in_ok-push, else-keeps_at}

pub keeps_at-requires-clause-site : goal.keeps_at-requires-clause-site
keeps_at-requires-clause-site c = read_there c.args.pipeline_plan.now c.requires c.loop-i.i c.index-site.result.now (omega (arith, c.loop-i-test.true, c.len-i-end.ensures)) c.index-site.ensures

pub overflow_cast-register : goal.overflow_cast-register
overflow_cast-register c =
    let d = c.args.pipeline_plan.now in
    let lt : c.loop-i.i < length d.records.items = omega (arith, c.loop-i-test.true, c.len-i-end.ensures) in
    let few = taken_few d.sizes c.args.shape.now.slot_bits (keeps_at (program_in d) (decls_in d)) d.records.items c.loop-i.i c.loop-i.taken.items (omega (arith, lt)) c.loop-i.invariant in
    omega (arith, c.len.ensures, lt, few, listed_few d c.requires, c.requires.few_sites)

pub overflow_add-register : goal.overflow_add-register
overflow_add-register c =
    let d = c.args.pipeline_plan.now in
    let lt : c.loop-i.i < length d.records.items = omega (arith, c.loop-i-test.true, c.len-i-end.ensures) in
    let few = taken_few d.sizes c.args.shape.now.slot_bits (keeps_at (program_in d) (decls_in d)) d.records.items c.loop-i.i c.loop-i.taken.items (omega (arith, lt)) c.loop-i.invariant in
    omega (arith, c.len.ensures, lt, few, listed_few d c.requires, c.requires.few_sites)

pub loop-i-preserved : goal.loop-i-preserved
loop-i-preserved c =
    let d = c.args.pipeline_plan.now in
    let bits : ℕ = c.args.shape.now.slot_bits in
    let js = d.records.items in
    let i : ℕ = c.loop-i.i in
    let q : ℕ → Bool = keeps_at (program_in d) (decls_in d) in
    let lt : i < length js = omega (arith, c.loop-i-test.true, c.len-i-end.ensures) in
    let here : c.index-site.result.now ≡ get_or js i 0 = c.index-site.ensures ∙ get_or_default js i c.index-site.result.now 0 lt in
    elim c.if-keeps_at.branch [
      | then-keeps_at+in_ok-push w ↦
          let j : ℕ = c.index-site.result.now in
          let ss = c.loop-i.taken.items in
          let many : w.len.result ≡ length ss = omega (arith, w.len.ensures) in
          let on : q (get_or js i 0) ≡ true = subst (λ j. q j ≡ true) here (sym c.keeps_at.ensures ∙ w.if-keeps_at.true) in
          let same : slot_at c.action-action.result bits j (1 + w.len.result) ≡ slot_of d.sizes bits (get_or js i 0) (1 + length ss) =
          ap (λ p. slot_at p bits j (1 + w.len.result)) c.action-action.ensures ∙ ap (λ n. slot_of d.sizes bits j (1 + n)) many ∙ ap (λ k. slot_of d.sizes bits k (1 + length ss)) here in
          ap (λ (v : Vec (TakenSlot (Name Part)) Global). v.items) w.taken-is ∙ w.in_ok-push.ensures.items ∙ taken_more d.sizes bits q js i lt ss (slot_at c.action-action.result bits j (1 + w.len.result)) c.loop-i.invariant on same
      | else-keeps_at w ↦
          let off : q (get_or js i 0) ≡ false = subst (λ j. q j ≡ false) here (sym c.keeps_at.ensures ∙ w.if-keeps_at.false) in
          ap (λ (v : Vec (TakenSlot (Name Part)) Global). v.items) w.taken-is ∙ c.loop-i.invariant ∙ taken_less d.sizes bits q js i lt off
    ]

pub returns : goal.returns
returns c =
    let d = c.args.pipeline_plan.now in
    let q : ℕ → Bool = keeps_at (program_in d) (decls_in d) in
    c.loop-i.invariant ∙ ap (λ js. taken_at d.sizes c.args.shape.now.slot_bits 1 (filter q js)) (take_all c.loop-i.i d.records.items (omega (arith, c.loop-i-test.false, c.len-i-end.ensures)) ∙ c.requires.records)
