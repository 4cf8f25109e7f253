use Rattle.std.specs.Str.{bytes_eq}
use Rattle.std.proofs.Common.{◌≡◌, ◌∙◌, ◌+◌, ◌-◌, ◌*◌, ◌/◌, ◌&&◌, [], ◌∷◌, ◌++◌, drop, map, sym, ap, ap₂, arith}
use Rattle.hazard_core.specs.cell_core.Cells.{bit, on}
use Rattle.hazard_core.specs.cell_core.Sites.{bytes_of}
use Rattle.cell_nets.specs.Operands.{number_in, IsAvailable}
use Rattle.cell_nets.specs.Wires.{wires_of, always}
use Rattle.cell_nets.proofs.StepNets.ChainLaws.{starts, next, last, ends}
use Rattle.overlay_net.proofs.FindLemmas.{left_of, right_of, tail_of}
use Rattle.overlay_net.proofs.KeyLemmas.{key_step}
use Rattle.cell_nets.proofs.StepNets.StepLaws.{all_each, on_bit, avail_at, gives_same}
use Rattle.overlay_net.proofs.keys.same_key.Goals as goal

pub loop-at-init : goal.loop-at-init
loop-at-init g c =
    let n = c.args.bytes in
    let at = (n + 7) / 8 in
    let a = c.args.a.now in
    let b = c.args.b.now in
    let none : n - 8 * at ≡ 0 = omega arith in
    record {
      within = omega arith;
      given = ends (starts c.args.part (wires_of c.args.wires.now.items) (a ++ b) always) _ 1 _ (λ ins h. tt) (omega arith) (omega arith)
          (λ v f k. sym (ap (λ m. bit (bytes_eq (bytes_of m (map (number_in v) (drop at a))) (bytes_of m (map (number_in v) (drop at b))))) none));
    }

pub loop-at-preserved : goal.loop-at-preserved
loop-at-preserved g c =
    let n = c.args.bytes in
    let at = c.loop-at.at in
    let a = c.args.a.now in
    let b = c.args.b.now in
    let x = c.index-a-at.result in
    let y = c.index-b-at.result in
    let w = 8 * c.min.result in
    let same = c.loop-at.same in
    let word = c.in_ok-word.word in
    record {
      within = omega (arith, c.loop-at.invariant.within);
      given = last
          (next (next (starts c.args.part (wires_of c.args.wires.now.items) (a ++ b) always) c.loop-at.invariant.given (λ ins h. h) (λ v f k. tt)) c.in_ok-word.ensures
          (λ ins h.
          let all = tail_of (IsAvailable ins) same (a ++ b) h in
          all_each (IsAvailable ins) (x ∷ y ∷ []) (avail_at (IsAvailable ins) a (at - 1) x (omega arith) c.index-a-at.is (left_of (IsAvailable ins) a b all), (avail_at (IsAvailable ins) b (at - 1) y (omega arith) c.index-b-at.is (right_of (IsAvailable ins) a b all), tt)))
          (λ v f k. tt))
          c.in_ok-same.ensures (λ ins h. all_each (IsAvailable ins) (same ∷ word ∷ []) (h 1 same (omega arith), (h 0 word (omega arith), tt))) (λ v f k. tt) _
          (λ v f k.
          ap bit (ap₂ ◌&&◌ (ap on k.0.1 ∙ on_bit _) (ap on k.1 ∙ on_bit _) ∙ key_step v a b x y n (at - 1) at w (omega arith) (omega arith) (omega arith) c.index-a-at.is c.index-b-at.is (omega arith)));
    }

pub returns : goal.returns
returns g c =
    let n = c.args.bytes in
    let a = c.args.a.now in
    let b = c.args.b.now in
    let none : c.loop-at.at ≡ 0 = omega arith in
    let whole : n - 8 * 0 ≡ n = omega arith in
    gives_same c.args.part _ _ (a ++ b) always _ (λ v. bit (bytes_eq (bytes_of n (map (number_in v) a)) (bytes_of n (map (number_in v) b)))) 1 c.loop-at.same c.loop-at.invariant.given
    (λ v.
    ap (λ k. bit (bytes_eq (bytes_of (n - 8 * k) (map (number_in v) (drop k a))) (bytes_of (n - 8 * k) (map (number_in v) (drop k b))))) none
    ∙ ap (λ m. bit (bytes_eq (bytes_of m (map (number_in v) a)) (bytes_of m (map (number_in v) b)))) whole)
