use Rattle.std.specs.Prelude.{if◌then◌else◌, slice_range}
use Rattle.std.proofs.Common.{◌≡◌, ◌+◌, ◌/◌, ◌%◌, ◌≤◌, [], ◌∷◌, ◌∙◌, ap, sym, subst, arith}
use Rattle.block_core.proofs.list_laws_laws.AllLaws.{all_two}
use Rattle.byteorder.specs.Endian.{little_number}
use Rattle.hazard_core.specs.cell_core.Cells.{bits_from, on}
use Rattle.hazard_core.specs.cell_core.Sites.{site_at}
use Rattle.cell_nets.specs.Operands.{number_in, IsAvailable}
use Rattle.hazard_core.specs.Commits.{word_at}
use Rattle.hazard_core.specs.StageValues.{access_pointer, asked}
use Rattle.hazard_core.specs.Overlay.{entry_value, where_some, answer_as}
use Rattle.overlay_net.specs.ValueNet.Pendings.{all_taken, ShowPendings, ShowsEntry}
use Rattle.overlay_net.specs.ValueNet.Words.{access_start, access_bytes}
use Rattle.overlay_net.proofs.ValueNet.Holding.{hold_none, hold_more, hold_gives}
use Rattle.overlay_net.proofs.ValueNet.ChangeLaws.{access_one}
use Rattle.overlay_net.proofs.ValueNet.EntryLaws.{entry_bytes, null_choice, answer_is}
use Rattle.overlay_net.proofs.value_net.answering.access_answer.Goals as goal

pub number_under-requires-clause-one : goal.number_under-requires-clause-one
number_under-requires-clause-one g c =
    let ea : c.access-at.result.0 ≡ access_start c.args.act = c.access-at.ensures.start in
    let eb : c.access-at.result.1 ≡ access_bytes c.args.act = c.access-at.ensures.bytes in
    let h : access_start c.args.act % 8 + access_bytes c.args.act ≤ 8 = access_one c.args.act c.requires.aligned in
    subst (λ x. x % 8 + c.access-at.result.1 ≤ 8) (sym ea) (subst (λ x. access_start c.args.act % 8 + x ≤ 8) (sym eb) h)

pub returns : goal.returns
returns g c = λ view t h before j doing of declared has.
    let p = c.args.part in
    let s = site_at view.sites j in
    let a = c.args.act in
    let d = c.args.decl.now in
    let ns = c.args.pendings.now in
    let under = c.args.under in
    let first = c.args.first in
    let word = c.in_ok-word.word in
    let out = c.in_ok-out.out in
    let at = c.access-at.result.0 in
    let bytes = c.access-at.result.1 in
    let q = access_pointer h s in
    let ea : at ≡ access_start a = c.access-at.ensures.start in
    let eb : bytes ≡ access_bytes a = c.access-at.ensures.bytes in
    let value = entry_value view t h before s.map q in
    let args = under ∷ first ∷ all_taken ns in
    let b = entry_bytes p view t h s.map (at / 8) q under first before ns d of c.requires.fitting declared has in
    let made = c.in_ok-out.ensures d.value value b in
    let x = hold_more p _ _ _ args args args (λ v. ShowsEntry v t s.map (access_start a / 8) q under first × ShowPendings v view t h before ns) (λ v. ShowsEntry v t s.map (access_start a / 8) q under first × ShowPendings v view t h before ns) (λ v. ShowsEntry v t s.map (at / 8) q under first × ShowPendings v view t h before ns) _ 64 word (hold_none p _ args (λ v. ShowsEntry v t s.map (access_start a / 8) q under first × ShowPendings v view t h before ns)) (c.in_ok-word.ensures.gives view t h before s.map q of declared has) (λ ins a. a)
    (λ v f k. (subst (λ i. ShowsEntry v t s.map (i / 8) q under first) (sym ea) k.0, k.1)) in
    let y = hold_more p _ _ _ args (word ∷ args) (under ∷ word ∷ []) (λ v. ShowsEntry v t s.map (access_start a / 8) q under first × ShowPendings v view t h before ns) _ (λ v. number_in v word ≡ word_at value (at / 8)) _ c.args.width out x made (λ ins a. all_two (IsAvailable ins) under word (a 1 word (omega arith)) (a 0 word (omega arith))) (λ v f k. k.1) in
    hold_gives p _ _ args (out ∷ word ∷ args) (λ v. ShowsEntry v t s.map (access_start a / 8) q under first × ShowPendings v view t h before ns) _ _ c.args.width out y made.operand made.bits (λ ins a. a 0 out (omega arith))
    (λ v f k.
    k.1 ∙ ap (λ u. bits_from (if on u then little_number bytes (slice_range value at (at + bytes)) else 0) c.args.from c.args.width) k.0.0.0.pointer
    ∙ ap (λ u. bits_from u c.args.from c.args.width)
    (null_choice q (little_number bytes (slice_range value at (at + bytes)))
    ∙ ap (λ i. where_some q (little_number bytes (slice_range value i (i + bytes)))) ea
    ∙ ap (λ i. where_some q (little_number i (slice_range value (access_start a) (access_start a + i)))) eb
    ∙ sym (answer_is a (asked t.decls h s) view t h before j c.requires.number)
    ∙ ap (λ i. answer_as i (asked t.decls h s) view t h before j) (sym doing)))
