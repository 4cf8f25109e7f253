use Rattle.std.proofs.Common.{◌≡◌, suc, [], ◌∷◌, ◌∙◌, ap, arith}
use Rattle.std.proofs.lemmas.List.Elements.{All-cons, All-tail}
use Rattle.block_core.proofs.list_laws_laws.AllLaws.{all_two, all_three}
use Rattle.hazard_core.specs.cell_core.Sites.{site_at}
use Rattle.cell_nets.specs.Operands.{number_in, IsOperand, IsAvailable}
use Rattle.cell_nets.specs.Wires.{always}
use Rattle.cell_nets.proofs.ChoiceLaws.{number_small}
use Rattle.hazard_core.specs.Commits.{word_at}
use Rattle.hazard_core.specs.StageValues.{asked, writes, written_pointer}
use Rattle.hazard_core.specs.Overlay.{value_as}
use Rattle.overlay_net.specs.SiteOperands.Pointers.{pointer_number}
use Rattle.hazard_core.specs.Tables.{decl_of}
use Rattle.overlay_net.specs.SiteOperands.Sites.{operands_of, ShowsAsked}
use Rattle.overlay_net.specs.ValueNet.Pendings.{taken_of, ShowsPending}
use Rattle.overlay_net.proofs.ValueNet.Holding.{no_packet, hold_none, hold_more, hold_gives}
use Rattle.overlay_net.proofs.ValueNet.EntryLaws.{over_is}
use Rattle.overlay_net.proofs.value_net.entry.word_over.Goals as goal

pub word_after-requires-clause-operands : goal.word_after-requires-clause-operands
word_after-requires-clause-operands g c =
    let n = c.args.pending.now in
    All-tail IsOperand n.written n.nets.now.operands.items (All-tail IsOperand n.writes (n.written ∷ n.nets.now.operands.items) c.requires.fitting.operands)

pub pair-requires-clause-left : goal.pair-requires-clause-left
pair-requires-clause-left g c = c.requires.fitting.operands 1 c.args.pending.now.written (omega arith)

pub pair-requires-2-clause-left : goal.pair-requires-2-clause-left
pair-requires-2-clause-left g c = c.requires.fitting.operands 0 c.args.pending.now.writes (omega arith)

pub returns-clause-gives : goal.returns-clause-gives
returns-clause-gives g c = λ view t h m i at value of declared b.
    let p = c.args.part in
    let d = c.args.decl.now in
    let n = c.args.pending.now in
    let site = site_at view.sites i in
    let old = c.args.old in
    let under = c.args.under in
    let operands = n.nets.now.operands.items in
    let w = c.args.w in
    let new = c.in_ok-new.new in
    let same = c.in_ok-same.same in
    let over = c.in_ok-over.over in
    let out = c.in_ok-out.out in
    let args = old ∷ under ∷ taken_of n in
    let told = ap (decl_of t.decls) of.map ∙ declared in
    let made = c.in_ok-new.ensures.gives view t.decls h i value of.act told b in
    let x = hold_more p _ _ _ args args (old ∷ operands) (λ v. (number_in v old ≡ word_at value w) × (number_in v under ≡ pointer_number at) × ShowsPending v view t h i n) (λ v. (number_in v old ≡ word_at value w) × (number_in v under ≡ pointer_number at) × ShowsPending v view t h i n) (λ v. (number_in v old ≡ word_at value w) × ShowsAsked v view h i (operands_of n.nets.now)) _ 64 new (hold_none p _ args (λ v. (number_in v old ≡ word_at value w) × (number_in v under ≡ pointer_number at) × ShowsPending v view t h i n)) made
    (λ ins a. All-cons (IsAvailable ins) old operands (a 0 old (omega arith)) (λ k e lt. a (suc (suc (suc (suc k)))) e (omega (arith, lt)))) (λ v f k. (k.0, k.2.asked)) in
    let y = hold_more p _ _ _ args (new ∷ args) (n.written ∷ under ∷ []) (λ v. (number_in v old ≡ word_at value w) × (number_in v under ≡ pointer_number at) × ShowsPending v view t h i n) _ always _ 1 same x (c.in_ok-same.ensures.gives no_packet) (λ ins a. all_two (IsAvailable ins) n.written under (a 4 old (omega arith)) (a 2 old (omega arith))) (λ v f k. tt) in
    let z = hold_more p _ _ _ args (same ∷ new ∷ args) (n.writes ∷ same ∷ []) (λ v. (number_in v old ≡ word_at value w) × (number_in v under ≡ pointer_number at) × ShowsPending v view t h i n) _ always _ 1 over y (c.in_ok-over.ensures.gives no_packet) (λ ins a. all_two (IsAvailable ins) n.writes same (a 4 old (omega arith)) (a 0 old (omega arith))) (λ v f k. tt) in
    let u = hold_more p _ _ _ args (over ∷ same ∷ new ∷ args) (over ∷ new ∷ old ∷ []) (λ v. (number_in v old ≡ word_at value w) × (number_in v under ≡ pointer_number at) × ShowsPending v view t h i n) _ always _ 64 out z c.in_ok-out.ensures (λ ins a. all_three (IsAvailable ins) over new old (a 0 old (omega arith)) (a 2 old (omega arith)) (a 3 old (omega arith))) (λ v f k. tt) in
    hold_gives p _ _ args (out ∷ over ∷ same ∷ new ∷ args) (λ v. (number_in v old ≡ word_at value w) × (number_in v under ≡ pointer_number at) × ShowsPending v view t h i n) _ _ 64 out u c.in_ok-out.ensures.operand c.in_ok-out.ensures.bits (λ ins a. a 0 out (omega arith))
    (λ v f k.
    let needed = k.0.0.0.0 in
    let shown = needed.2 in
    over_is no_packet (writes view t.decls h i) (written_pointer view t h i) at (number_in v new) (number_in v old) (number_in v n.written) (number_in v under) (number_in v same) (number_in v over) (number_in v out) (value_as (asked t.decls h site) value) value w
    (number_in v n.writes)
    (number_small v new made.operand (f 3 new (omega arith)))
    (number_small v old c.requires.old (f 4 old (omega arith)))
    (number_small v n.written (c.requires.fitting.operands 1 n.written (omega arith)) (f 7 old (omega arith)))
    (number_small v under c.requires.under (f 5 old (omega arith)))
    k.0.0.0.1
    needed.0 shown.writes shown.written needed.1 k.0.0.1 k.0.1 k.1)
