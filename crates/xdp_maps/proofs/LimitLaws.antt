-- How many entries a map may have at most.
use Rattle.std.proofs.Common.{◌≤◌, arith}
use Rattle.xdp_maps.specs.declared.decl.MapKind.{MapKind}
use Rattle.xdp_maps.specs.declared.decl.MapKind.TheVariants.{Hash, Array}
use Rattle.xdp_maps.specs.declared.decl.MapDecl.{MapDecl}
use Rattle.xdp_maps.specs.Contents.{IsWithinLimits, limits_as}

pub few_slots : (k : MapKind) (d : MapDecl) → limits_as k d → d.cap ≤ 65536
few_slots Hash d l = omega (arith, l)
few_slots Array d l = l.1

pub cap_few : (d : MapDecl) → IsWithinLimits d → d.cap ≤ 65536
cap_few d l = few_slots d.kind d l.by_kind
