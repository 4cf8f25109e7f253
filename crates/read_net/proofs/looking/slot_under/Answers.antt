use Rattle.std.proofs.Common.{◌∙◌, [], ◌∷◌, ◌++◌, All, refl, sym, ap, subst, arith, map as map_list}
use Rattle.std.proofs.lemmas.List.Elements.{All-append}
use Rattle.overlay_net.specs.cell_core.Sites.{site_at, bytes_of}
use Rattle.pipe_core.specs.hazard_core.StageValues.{asked_key, slot_pointer}
use Rattle.pipe_core.specs.hazard_core.Tables.{table_at}
use Rattle.overlay_net.specs.cell_nets.Operands.{number_in, IsOperand, IsAvailable}
use Rattle.overlay_net.specs.cell_nets.Wires.{wires_of}
use Rattle.overlay_net.specs.SiteOperands.Pointers.{pointer_number}
use Rattle.overlay_net.specs.SiteOperands.Sites.{operands_of, all_of}
use Rattle.overlay_net.proofs.cell_nets_laws.StepNets.ChainLaws.{starts, last}
use Rattle.hash_net.specs.SlotNet.Slots.{slots_of, operands_of as operands_in}
use Rattle.read_net.specs.Sites.{slot_cells}
use Rattle.read_net.proofs.StandLemmas.{left_of, right_of, tail_of}
use Rattle.read_net.proofs.SiteLemmas.{keys_of, shown_key}
use Rattle.read_net.proofs.looking.slot_under.Goals as goal

pub find_slot-requires-clause-key : goal.find_slot-requires-clause-key
find_slot-requires-clause-key g c = subst (All IsOperand) (sym c.deref.ensures.value) (keys_of IsOperand (operands_of c.args.nets.now) c.requires.operands)

pub index_pointer-requires-clause-key : goal.index_pointer-requires-clause-key
index_pointer-requires-clause-key g c = subst (All IsOperand) (sym c.deref-in-Array.ensures.value) (keys_of IsOperand (operands_of c.args.nets.now) c.requires.operands)

pub returns-in_ok-out-in-Hash : goal.returns-in_ok-out-in-Hash
returns-in_ok-out-in-Hash g c =
    let s = operands_of c.args.nets.now in
    let map = c.args.map.now in
    let shown = operands_in (slots_of map.slots.now) in
    let slots = map.used ∷ shown in
    let e = c.deref.ensures.value in
    let x = c.in_ok-out-in-Hash.ensures in
    let any = x [] [] (λ n lt. absurd (omega (arith, lt))) in
    record {
      operand = any.operand;
      bits = any.bits;
      gives = λ p t h j of.
          let k = (site_at p.sites j).map in
          last (starts c.args.part (wires_of c.args.wires.now.items) (all_of s ++ slots) _) (x (table_at t k) (asked_key t.decls h (site_at p.sites j)) of.table.keys)
          (λ ins a.
          let Q = IsAvailable ins in
          subst (λ l. All Q (l ++ shown)) (sym e) (All-append Q s.key shown (keys_of Q s (left_of Q (all_of s) slots a)) (tail_of Q map.used shown (right_of Q (all_of s) slots a))))
          (λ v f n. ((n.1 c.in-Hash.is).0, ap (λ l. bytes_of map.decl.now.key (map_list (number_in v) l)) e ∙ shown_key v p t h j map.decl.now s of.decl n.0)) (λ v. pointer_number (slot_pointer (table_at t k) (asked_key t.decls h (site_at p.sites j)))) (λ v f n. refl);
    }

pub returns-in_ok-out-in-Array : goal.returns-in_ok-out-in-Array
returns-in_ok-out-in-Array g c =
    let s = operands_of c.args.nets.now in
    let map = c.args.map.now in
    let slots = slot_cells map in
    let e = c.deref-in-Array.ensures.value in
    let x = c.in_ok-out-in-Array.ensures in
    record {
      operand = x.operand;
      bits = x.bits;
      gives = λ p t h j of.
          let k = (site_at p.sites j).map in
          last (starts c.args.part (wires_of c.args.wires.now.items) (all_of s ++ slots) _) (x.gives (table_at t k) (asked_key t.decls h (site_at p.sites j)) of.table)
          (λ ins a. subst (All (IsAvailable ins)) (sym e) (keys_of (IsAvailable ins) s (left_of (IsAvailable ins) (all_of s) slots a)))
          (λ v f n. ap (λ l. bytes_of map.decl.now.key (map_list (number_in v) l)) e ∙ shown_key v p t h j map.decl.now s of.decl n.0) (λ v. pointer_number (slot_pointer (table_at t k) (asked_key t.decls h (site_at p.sites j)))) (λ v f n. refl);
    }
