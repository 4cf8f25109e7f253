use Rattle.std.specs.List.{range_with_len}
use Rattle.std.proofs.Common.{◌≡◌, ℕ, ◌∙◌, ◌+◌, [], ◌∷◌, ◌++◌, length, map, append_assoc, length-append, sym, ap, arith}
use Rattle.std.proofs.lemmas.List.FromFn.{map-range_with_len_more, length-map-range_with_len}
use Rattle.block_core.specs.View.{block_wire_of}
use Rattle.block_core.specs.declared.name.Name.TheVariants as name
use Rattle.overlay_net.specs.cell_nets.Wires.{wires_of}
use Rattle.commit_net.specs.Fetching.{fetched_wire}
use Rattle.commit_net.proofs.change_net.pointed.add_words.Goals as goal

pub loop-i-preserved : goal.loop-i-preserved
loop-i-preserved g c =
    let a = c.args in
    let l = c.loop-i in
    let f = λ (i : ℕ). fetched_wire a.of a.first a.bytes a.slot (a.from + i) in
    let base = wires_of a.wires.now.items in
    let more = map f (range_with_len 0 l.i) in
    let n = length base in
    let long : length (wires_of l.wires.items) ≡ n + l.i = ap length l.invariant.wires ∙ length-append base more ∙ ap (λ k. n + k) (length-map-range_with_len f 0 l.i) in
    let called = c.in_ok-name.ensures.name ∙ ap (λ k. name.Wire a.part k) long in
    record {
      wires =
          c.in_ok-name.ensures.wires
          ∙ ap (λ ws. ws ++ block_wire_of c.in_ok-there.there ∷ []) l.invariant.wires
          ∙ append_assoc base more (block_wire_of c.in_ok-there.there ∷ [])
          ∙ ap (λ w. base ++ (more ++ w ∷ [])) c.in_ok-there.ensures
          ∙ ap (λ ws. base ++ ws) (sym (map-range_with_len_more f 0 l.i l.i (omega arith)));
      names = c.in_ok-push.ensures.items ∙ (λ k. l.invariant.names k ++ called k ∷ []) ∙ sym (map-range_with_len_more (λ k. name.Wire a.part (n + k)) 0 l.i l.i (omega arith));
    }
