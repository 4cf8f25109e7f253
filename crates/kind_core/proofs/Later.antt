-- Later nodes of a run.
use Rattle.std.proofs.Common.{◌≡◌, ◌+◌, ◌==◌, pos, ◌+ℤ◌, true, false, cond, refl, sym, ap, ◌∙◌, subst, arith, get_or}
use Rattle.std.specs.Prelude.{◌≤ℤ◌}
use Rattle.std.proofs.lemmas.Bool.Decides.{nat_tests}
use Rattle.xdp_machine.specs.xdp_maps.State.{MapState}
use Rattle.xdp_machine.specs.Values.{Value}
use Rattle.xdp_machine.specs.Values as is
use Rattle.xdp_machine.specs.State.{Machine}
use Rattle.kind_core.specs.declared.kind.Kind.{Kind}
use Rattle.kind_core.specs.declared.kind.Kind.TheVariants.{Unset, Var, End, Maybe}
use Rattle.kind_core.specs.declared.kind.Kinds.{Kinds}
use Rattle.kind_core.specs.Describes.{World, Describes, DescribesMachine}
use Rattle.kind_core.specs.Soundness.{IsLater}

later_kind : (w v : World) (maps : MapState) → IsLater w v → (k : Kind) (x : Value) → Describes w maps k x → Describes v maps k x
later_kind w v maps h (Maybe q n) x d = (omega (arith, h.node, d.0), d.1 ∙ sym (h.gave n d.0), d.2)
later_kind w v maps h (Var b f) x d = record {
  place = d.place;
  before = omega (arith, h.node, d.before);
  gave = h.gave b.node d.before ∙ d.gave;
  low = d.low;
  high = d.high;
  inside = d.inside;
  least = d.least;
  most = d.most;
  checked = subst (λ n. (pos d.place +ℤ b.checked) ≤ℤ pos n) (sym h.frame) d.checked;
  value = d.value;
}
later_kind w v maps h End x d = d ∙ ap (λ f. is.Packet (pos f)) (sym h.frame)
later_kind w v maps h k x d = d

pub later_machine : (w v : World) (k : Kinds) (m : Machine) → IsLater w v → DescribesMachine w k m → DescribesMachine v k m
later_machine w v k m h d = record {
  registers = λ r. later_kind w v m.maps h (get_or k.registers r Unset) (get_or m.registers r is.Unset) (d.registers r);
  slots = λ s. later_kind w v m.maps h (get_or k.slots s Unset) (get_or m.stack s is.Unset) (d.slots s);
  checked = d.checked;
  frame = d.frame ∙ sym h.frame;
}

-- the next node, which was given nothing
abbrev pub next : World → World
next w = record w { node = w.node + 1 }

pub next_later : (w : World) → IsLater w (next w)
next_later w = record { frame = refl; node = omega arith; gave = λ n h. refl }

-- and where a lookup, or the sum that makes a base, gave a value
abbrev pub looked : World → Value → World
looked w x = record w { node = w.node + 1; gave = λ n. cond (n == w.node) x (w.gave n) }

pub looked_later : (w : World) (x : Value) → IsLater w (looked w x)
looked_later w x = record { frame = refl; node = omega arith; gave = λ n h. let t : n == w.node ≡ false = grind (arith, nat_tests) in ap (λ b. cond b x (w.gave n)) t }

pub looked_here : (w : World) (x : Value) → (looked w x).gave w.node ≡ x
looked_here w x = let t : w.node == w.node ≡ true = grind (arith, nat_tests) in ap (λ b. cond b x (w.gave w.node)) t
