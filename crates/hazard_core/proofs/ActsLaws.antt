-- Which operations may write, which insert, and the keys that they ask for.
use Rattle.std.proofs.Common.{◌≡◌, ◌≢◌, ℕ, true, false, List, refl}
use Rattle.xdp_maps.specs.declared.decl.MapDecl.{MapDecl}
use Rattle.xdp_maps.specs.declared.decl.MapKind.{MapKind}
use Rattle.xdp_maps.specs.Operations.{key_in}
use Rattle.cell_core.specs.declared.site.Act.{Act}
use Rattle.cell_core.specs.declared.site.Act.TheVariants as act
use Rattle.cell_core.specs.Sites.{records, bytes_of, operation_with}
use Rattle.hazard_core.specs.StageValues.{is_update, writes_as}

-- what writes is an operation that may
pub recorded : (a : Act) (k : MapKind) (n : ℕ) → writes_as a k n ≡ true → records a ≡ true
recorded act.Lookup k n e = cc
recorded (act.Load at size) k n e = cc
recorded act.Update k n e = refl
recorded act.Delete k n e = refl
recorded (act.Store at size) k n e = refl
recorded (act.Atomic at a) k n e = refl

pub no_update : (a : Act) → a ≢ act.Update → is_update a ≡ false
no_update act.Update u = absurd (u refl)
no_update act.Lookup u = refl
no_update (act.Load at size) u = refl
no_update act.Delete u = refl
no_update (act.Store at size) u = refl
no_update (act.Atomic at a) u = refl

pub key_is : (d : MapDecl) (a : Act) (ks xs : List ℕ) → key_in (operation_with d a ks xs) ≡ bytes_of d.key ks
key_is d act.Lookup ks xs = refl
key_is d (act.Load at size) ks xs = refl
key_is d act.Update ks xs = refl
key_is d act.Delete ks xs = refl
key_is d (act.Store at size) ks xs = refl
key_is d (act.Atomic at a) ks xs = refl
