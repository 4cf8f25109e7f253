use Rattle.std.specs.Prelude.{if◌then◌else◌, fold}
use Rattle.std.proofs.Common.{◌≡◌, ◌∙◌, suc, ◌+◌, ◌*◌, ◌==◌, [], ◌∷◌, take, refl, sym, ap, arith}
use Rattle.std.proofs.lemmas.List.{take_all}
use Rattle.std.proofs.lemmas.List.Sums.{fold_more}
use Rattle.overlay_net.specs.cell_core.Cells.{on, bits_from}
use Rattle.overlay_net.specs.cell_core.Sites.{site_at}
use Rattle.overlay_net.specs.hazard_core.Tables.{table_at}
use Rattle.overlay_net.specs.hazard_core.StageValues.{written_pointer}
use Rattle.overlay_net.specs.hazard_core.Commits.{written_slot}
use Rattle.overlay_net.specs.cell_nets.Operands.{number_in, IsOperand, IsAvailable}
use Rattle.overlay_net.specs.cell_nets.Wires.{wires_of, always}
use Rattle.commit_net.specs.Targets.{slots_of, ShowsTarget}
use Rattle.overlay_net.proofs.cell_nets_laws.StepNets.ChainLaws.{starts, next, last}
use Rattle.overlay_net.proofs.cell_nets_laws.StepNets.StepLaws.{all_each}
use Rattle.commit_net.proofs.TargetLemmas.{over, slot_there, target_is}
use Rattle.commit_net.proofs.target.target.Goals as goal

pub loop-own-init : goal.loop-own-init
loop-own-init g c =
    let free = c.args.free in
    let x = c.in_ok-slot.ensures in
    record {
      operand = x.operand;
      bits = x.bits;
      gives =
          last (starts c.args.part (wires_of c.args.wires.now.items) (c.args.written ∷ free ∷ slots_of c.args.taken.now) always) x (λ ins h. all_each (IsAvailable ins) (free ∷ []) (h 1 free (omega arith), tt)) (λ v f k. tt)
          (λ v. bits_from (number_in v free) 0 c.args.bits) (λ v f k. refl);
    }

pub where_pending-requires-clause-slot : goal.where_pending-requires-clause-slot
where_pending-requires-clause-slot g c = slot_there IsOperand c.args.taken.now c.loop-own.own-index c.own-item.result (omega arith) c.own-item.is c.requires.taken

pub loop-own-preserved : goal.loop-own-preserved
loop-own-preserved g c =
    let n = c.args.written in
    let free = c.args.free in
    let ss = c.args.taken.now in
    let w = c.args.bits in
    let own = c.own-item.result in
    let i = c.loop-own.own-index in
    let slot = c.loop-own.slot in
    let x = c.in_ok-slot-2.ensures in
    record {
      operand = x.operand;
      bits = x.bits;
      gives =
          last (next (starts c.args.part (wires_of c.args.wires.now.items) (n ∷ free ∷ slots_of ss) always) c.loop-own.invariant.gives (λ ins h. h) (λ v f k. tt)) x
          (λ ins h. all_each (IsAvailable ins) (n ∷ own.slot ∷ slot ∷ []) (h 1 n (omega arith), (slot_there (IsAvailable ins) ss i own (omega arith) c.own-item.is (λ k d lt. h (suc (suc (suc k))) d (omega (arith, lt))), (h 0 slot (omega arith), tt)))) (λ v f k. tt)
          (λ v. fold (over v w (number_in v n)) (bits_from (number_in v free) 0 w) (take (i + 1) ss))
          (λ v f k.
          ap (λ y. bits_from (if number_in v n == 4 * own.site + 2 then number_in v own.slot else y) 0 w) k.1 ∙ ap (over v w (number_in v n) (fold (over v w (number_in v n)) (bits_from (number_in v free) 0 w) (take i ss))) c.own-item.is
          ∙ sym (fold_more (over v w (number_in v n)) (bits_from (number_in v free) 0 w) ss i own (omega arith)));
    }

pub returns-clause-gives : goal.returns-clause-gives
returns-clause-gives g c = λ p t took h.
    let n = c.args.written in
    let free = c.args.free in
    let ss = c.args.taken.now in
    let w = c.args.bits in
    let j = c.args.site in
    let i = c.loop-own.own-index in
    let slot = c.loop-own.slot in
    let new = c.in_ok-new.new in
    let bit0 = c.in_ok-in_slot.in_slot in
    let index = c.in_ok-index.index in
    let slots = table_at t (site_at p.sites j).map in
    let a = next (starts c.args.part (wires_of c.args.wires.now.items) (n ∷ free ∷ slots_of ss) (λ v. ShowsTarget v p t took h j w n free ss)) c.loop-own.invariant.gives (λ ins h. h) (λ v f k. tt) in
    let b = next a c.in_ok-new.ensures (λ ins h. all_each (IsAvailable ins) (n ∷ free ∷ slot ∷ []) (h 1 n (omega arith), (h 2 n (omega arith), (h 0 n (omega arith), tt)))) (λ v f k. tt) in
    let d = next b c.in_ok-in_slot.ensures (λ ins h. all_each (IsAvailable ins) (n ∷ []) (h 2 n (omega arith), tt)) (λ v f k. tt) in
    let e = next d c.in_ok-index.ensures (λ ins h. all_each (IsAvailable ins) (n ∷ []) (h 3 n (omega arith), tt)) (λ v f k. tt) in
    last e c.in_ok-out.ensures (λ ins h. all_each (IsAvailable ins) (bit0 ∷ index ∷ new ∷ []) (h 1 n (omega arith), (h 0 n (omega arith), (h 2 n (omega arith), tt)))) (λ v f k. tt) (λ v. written_slot p t took h j)
    (λ v f k.
    let start = bits_from (number_in v free) 0 w in
    let all : number_in v slot ≡ fold (over v w (number_in v n)) start ss = k.0.0.0.1 ∙ ap (fold (over v w (number_in v n)) start) (take_all i ss (omega arith)) in
    let s = k.0.0.0.0 in
    ap (λ y. bits_from (if on y then number_in v index else number_in v new) 0 w) k.0.1 ∙ ap (λ y. bits_from (if on (bits_from (number_in v n) 0 1) then y else number_in v new) 0 w) k.1
    ∙ ap (λ y. bits_from (if on (bits_from (number_in v n) 0 1) then bits_from (number_in v n) 2 w else y) 0 w) (k.0.0.1 ∙ ap (λ y. bits_from (if number_in v n == 4 * j + 2 then number_in v free else y) 0 w) all)
    ∙ target_is v w j (number_in v free) slots took ss s.free s.taken s.room (written_pointer p t h j) (number_in v n) s.written s.made s.within)
