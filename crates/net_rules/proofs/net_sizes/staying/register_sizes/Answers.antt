use Rattle.std.proofs.Common.{◌≡◌, ◌∙◌, ◌++◌, map, ap, sym, subst, arith, get_or, length, take, drop}
use Rattle.std.proofs.Math.Seq.{take-append_seam}
use Rattle.net_core.specs.View.{netlist_of, wire_of, statement_of}
use Rattle.net_core.specs.Value.{nothing}
use Rattle.net_core.specs.Clock.{first_words, edge, env_of}
use Rattle.net_core.specs.Ports.{words_of}
use Rattle.net_rules.specs.NetSizes.Fitting.{Fits, sizes_of}
use Rattle.net_rules.specs.NetSizes.Keeping.{WiresFit, Keeps}
use Rattle.net_rules.proofs.net_sizes.staying.register_sizes.Goals as goal

pub returns-then-edge_keeps : goal.returns-then-edge_keeps
returns-then-edge_keeps c =
    let design = netlist_of c.args.design.now in
    let sizes = sizes_of c.in_ok-sizes.sizes in
    let wires = subst (λ ws. WiresFit sizes (map wire_of ws)) c.deref-in-loop.ensures.value c.in_ok-sizes.ensures.wires in
    let keeps = subst (λ all. Keeps sizes (λ v s. edge v (map statement_of all) s)) c.deref-in-loop-2.ensures.value (c.edge_keeps.ensures c.if-edge_keeps.true) in
    record {
      begins = λ k. subst (λ v. Fits (get_or v.items k 0) (get_or (first_words design.declared) k nothing)) (sym c.in_ok-sizes.ensures.registers) (c.loop.invariant k);
      stays = λ i s h. keeps (env_of design (words_of i) s) (wires i s h) s h;
    }

pub loop-preserved : goal.loop-preserved
loop-preserved c k =
    let old = c.in_ok-sizes.sizes.registers in
    let new = c.clear.new.sizes in
    let word = get_or (first_words c.args.design.now.declared.items) k nothing in
    let count : old.len ≡ length new = omega (arith, c.clear.auto.sizes, c.deref_mut-in-loop.ensures.len, old.ok) in
    let is = ap (λ n. take n (new ++ drop (length new) old.items)) count ∙ take-append_seam new (drop (length new) old.items) in
    let was = c.deref_mut-in-loop.ensures.value ∙ ap (λ v. v.items) c.in_ok-sizes.ensures.registers in
    subst (λ ns. Fits (get_or ns k 0) word) (sym is) (c.clear.ensures k word (subst (λ ns. Fits (get_or ns k 0) word) (sym was) (c.loop.invariant k)))
