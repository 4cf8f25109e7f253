use Rattle.std.proofs.Common.{◌≡◌, false, ◌∙◌, sym, subst, arith}
use Rattle.std.proofs.lemmas.List.{get_or_default}
use Rattle.std.proofs.lemmas.List.Elements.{All-get_or}
use Rattle.overlay_net.specs.hazard_core.StageValues.{slot_pointer}
use Rattle.overlay_net.specs.SiteOperands.Pointers.{pointer_number}
use Rattle.net_core.specs.Value.{Env}
use Rattle.net_core.specs.View.{tree_of}
use Rattle.block_core.specs.declared.name.Name.{Name}
use Rattle.cell_nets.specs.declared.operand.Operand.TheVariants.{Known}
use Rattle.cell_nets.specs.Operands.{IsAvailable, number_in}
use Rattle.cell_nets.specs.Wires.{wires_of}
use Rattle.cell_nets.proofs.ExpressionPartLaws.{part_computes}
use Rattle.hash_net.specs.SlotNet.Slots.{HoldsKey}
use Rattle.hash_net.specs.SlotNet.Choosing.{indexed_pointer}
use Rattle.hash_net.proofs.SlotNet.ChainLemmas.{first_gives}
use Rattle.hash_net.proofs.SlotNet.IndexLemmas.{index_found, indexed_small}
use Rattle.hash_net.proofs.slot_net.indexing.index_pointer.Goals as goal

pub returns : goal.returns
returns g c =
    let a = c.args in
    let r = c.requires in
    let d = a.decl.now in
    let key = a.key.now in
    let e = c.index-key-0.is ∙ get_or_default key 0 c.index-key-0.result (Known 0) (omega arith) in
    let f = λ (v : Env (Name g.row.P.Denot)). indexed_pointer d.cap a.bits (number_in v c.index-key-0.result) in
    let given =
    c.in_ok-out.ensures.gives false key f (λ v. indexed_small d.cap a.bits (number_in v c.index-key-0.result) r.some r.most r.room)
    (λ ins all. part_computes ins 5 a.bits f (tree_of c.in_ok-e.e) (omega arith) (c.in_ok-e.ensures ins (subst (IsAvailable ins) (sym c.index-key-0.is) (All-get_or (IsAvailable ins) key 0 c.index-key-0.result (omega arith) all)))) in
    record {
      operand = given.operand;
      bits = given.bits;
      gives = λ table bytes is.
          first_gives a.part (wires_of a.wires.now.items) (wires_of c.add_wire.new.wires.items) key (λ v. HoldsKey v d key bytes) f (λ v. pointer_number (slot_pointer table bytes)) a.bits c.in_ok-out.out given
          (λ v h. subst (λ y. indexed_pointer d.cap a.bits (number_in v y) ≡ pointer_number (slot_pointer table bytes)) (sym e) (index_found v d key bytes table a.bits r.kind r.limits is r.words r.some r.most r.room h));
    }
