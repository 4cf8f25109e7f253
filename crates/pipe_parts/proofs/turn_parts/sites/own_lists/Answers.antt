use Rattle.std.specs.declared.alloc.Global.{Global}
use Rattle.std.specs.declared.vec.Vec.{Vec}
use Rattle.std.proofs.Common.{◌≡◌, ℕ, ◌+◌, ◌<◌, List, length, get_or, sym, subst, arith}
use Rattle.block_core.proofs.list_laws_laws.PlaceLaws.{each_more, one_more}
use Rattle.block_core.specs.declared.name.Name.{Name}
use Rattle.read_net.specs.declared.sites.OwnSite.{OwnSite}
use Rattle.pipe_net.specs.declared.parts.Part.{Part}
use Rattle.pipe_parts.proofs.SlotParts.Showing.{maps_many}
use Rattle.pipe_parts.specs.TurnParts.Sites.{AreOwnOf}
use Rattle.pipe_parts.proofs.turn_parts.sites.own_lists.Goals as goal

pub loop-m-preserved : goal.loop-m-preserved
loop-m-preserved c =
    let inv = c.loop-m.invariant in
    let x = c.in_ok-own_sites.field-0 in
    let P : ℕ → Vec (OwnSite (Name Part)) Global → Type 0 = λ m r. AreOwnOf c.args.pipeline_plan.now c.args.at.now m r.items in
    subst (λ (xs : List (Vec (OwnSite (Name Part)) Global)). record { count : length xs ≡ c.loop-m.m + 1; each : (m : ℕ) (r : Vec (OwnSite (Name Part)) Global) → m < c.loop-m.m + 1 → P m (get_or xs m r) }) (sym {A = List (Vec (OwnSite (Name Part)) Global)} c.in_ok-push.ensures.items)
    (record {
      count = one_more c.loop-m.lists.items c.loop-m.m x inv.count;
      each = each_more P c.loop-m.lists.items c.loop-m.m x inv.count inv.each c.in_ok-own_sites.ensures;
    })

pub returns : goal.returns
returns c =
    let inv = c.loop-m.invariant in
    let all : c.loop-m.m ≡ length c.args.pipeline_plan.now.forms.items = omega (arith, maps_many c.args.pipeline_plan.now c.requires.pipeline_plan) in
    record { count = omega (arith, inv.count, all); each = λ m r lt. inv.each m r (omega (arith, lt, all)) }
