use Rattle.std.proofs.Common.{◌≡◌, ◌∙◌, ◌∷◌, ◌++◌, sym, subst, arith}
use Rattle.std.proofs.lemmas.Nat.{pow_pos}
use Rattle.overlay_net.specs.xdp_maps.declared.decl.MapKind.TheVariants as kind
use Rattle.overlay_net.specs.cell_nets.Wires.{wires_of}
use Rattle.overlay_net.proofs.cell_nets_laws.StepNets.ChainLaws.{starts, next}
use Rattle.read_net.specs.Sites.{cells_of, slot_cells, IsMapOf, ShowsOwn, ShowsTable}
use Rattle.read_net.proofs.StandLemmas.{stands_as, stands_none}
use Rattle.read_net.proofs.pendings.written_slot.Goals as goal

clash : kind.Hash ≡ kind.Array → ⊥
clash e = cc

pub returns-in-Hash-clause-stands : goal.returns-in-Hash-clause-stands
returns-in-Hash-clause-stands g c = λ p t h m is of. stands_none _ (λ v n. (n, λ u k. absurd (clash (sym c.in-Hash.is ∙ k))))

pub returns-in_ok-out-in-Update : goal.returns-in_ok-out-in-Update
returns-in_ok-out-in-Update g c =
    let own = c.args.own.now in
    let map = c.args.map.now in
    let x = c.in_ok-out-in-Update.ensures in
    let out = c.in_ok-out-in-Update.out in
    let args = cells_of own ++ slot_cells map in
    record {
      operand = x.operand;
      bits = x.bits;
      stands = λ p t h m is of.
          stands_as (out ∷ args) _
          (next (starts c.args.part (wires_of c.args.wires.now.items) args (λ v. ShowsOwn v p h own × ShowsTable v t m map)) (x.gives p t h own.site (subst (λ k. IsMapOf t k map.decl.now) (sym is.map) of)) (λ ins a. a)
          (λ v f n. (n.0.asked, subst (λ k. ShowsTable v t k map) (sym is.map) n.1)))
          (λ ins a. a) (λ v n. (n.0, λ u k. n.1));
    }

pub returns-in_default : goal.returns-in_default
returns-in_default g c = record {
  operand = omega arith;
  bits = pow_pos c.args.map.now.bits;
  stands = λ p t h m is of. stands_none _ (λ v n. (n, λ u k. absurd (c.in_default.not-Update u)));
}
