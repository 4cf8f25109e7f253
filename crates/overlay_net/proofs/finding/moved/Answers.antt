use Rattle.std.specs.Prelude.{if◌then◌else◌}
use Rattle.std.specs.Str.{bytes_eq}
use Rattle.std.proofs.Common.{◌∙◌, ◌&&◌, [], ◌∷◌, ◌++◌, All, length, map, sym, ap, subst, arith}
use Rattle.std.proofs.lemmas.List.Elements.{All-append}
use Rattle.hazard_core.specs.cell_core.Cells.{on, bits_from}
use Rattle.hazard_core.specs.cell_core.Sites.{bytes_of}
use Rattle.hazard_core.proofs.cell_core_laws.BitLaws.{small_bits}
use Rattle.cell_nets.specs.Operands.{number_in, IsOperand, IsAvailable}
use Rattle.cell_nets.specs.Wires.{wires_of, always}
use Rattle.overlay_net.specs.Seen.{read_of}
use Rattle.cell_nets.proofs.StepNets.ChainLaws.{starts, next, last}
use Rattle.overlay_net.proofs.FindLemmas.{left_of, right_of, tail_of, keys_read, key_given}
use Rattle.cell_nets.proofs.StepNets.StepLaws.{all_each, on_bit, narrow_small, choice_small}
use Rattle.overlay_net.proofs.finding.moved.Goals as goal

pub same_key-requires-clause-left : goal.same_key-requires-clause-left
same_key-requires-clause-left g c = subst (All IsOperand) (sym c.deref.ensures.value) (keys_read IsOperand c.args.seen.now c.requires.seen.operands)

pub same_key-requires-clause-left_words : goal.same_key-requires-clause-left_words
same_key-requires-clause-left_words g c = omega (arith, c.requires.seen.key, ap length c.deref.ensures.value)

pub both-requires-clause-left : goal.both-requires-clause-left
both-requires-clause-left g c = c.requires.seen.operands 0 c.args.seen.now.writes (omega arith)

pub returns : goal.returns
returns g c =
    let d = c.args.seen.now in
    let key = c.args.key.now in
    let own = d.nets.now.key.items in
    let n = c.args.bytes in
    let w = c.args.bits in
    let new = c.args.new in
    let found = c.args.found in
    let same = c.in_ok-same.same in
    let hit = c.in_ok-hit.hit in
    let args = new ∷ found ∷ read_of d ++ key in
    let first = key_given c.args.part _ _ n c.deref.result.now own key same c.deref.ensures.value c.in_ok-same.ensures in
    last
    (next
    (next (starts c.args.part (wires_of c.args.wires.now.items) args always) first
    (λ ins h.
    let all = tail_of (IsAvailable ins) found (read_of d ++ key) (tail_of (IsAvailable ins) new (found ∷ read_of d ++ key) h) in
    All-append (IsAvailable ins) own key (keys_read (IsAvailable ins) d (left_of (IsAvailable ins) (read_of d) key all)) (right_of (IsAvailable ins) (read_of d) key all))
    (λ v f k. tt))
    c.in_ok-hit.ensures (λ ins h. all_each (IsAvailable ins) (d.writes ∷ same ∷ []) (h 3 d.writes (omega arith), (h 0 same (omega arith), tt))) (λ v f k. tt))
    c.in_ok-out.ensures (λ ins h. all_each (IsAvailable ins) (hit ∷ new ∷ found ∷ []) (h 0 hit (omega arith), (h 2 new (omega arith), (h 3 found (omega arith), tt)))) (λ v f k. tt) _
    (λ v f k.
    let moves = on (number_in v d.writes) && bytes_eq (bytes_of n (map (number_in v) own)) (bytes_of n (map (number_in v) key)) in
    ap (λ b. bits_from (if b then number_in v new else number_in v found) 0 w) (ap on k.1 ∙ on_bit _ ∙ ap (λ b. on (number_in v d.writes) && b) (ap on k.0.1 ∙ on_bit _))
    ∙ small_bits (if moves then number_in v new else number_in v found) w
    (choice_small moves (number_in v new) (number_in v found) _ (narrow_small v w new c.requires.new_narrow (f 2 new (omega arith))) (narrow_small v w found c.requires.found_narrow (f 3 found (omega arith)))))
