-- Cases of options and of truth values.
use Rattle.std.specs.Prelude.{◌≡◌, Bool, true, false, not, if◌then◌else◌, Some, None}
use Rattle.std.proofs.Common.{refl}

pub same_some : {X : Type 0} (x y : X) → Some x ≡ Some y → x ≡ y
same_some x y e = cc

pub none_some : {X Y : Type 0} (x : X) → None ≡ Some x → Y
none_some x e = cc

pub by_bool : (P : Bool → Type 0) (b : Bool) → P true → P false → P b
by_bool P true h k = h
by_bool P false h k = k

pub not_not : (b : Bool) → not (not b) ≡ b
not_not true = refl
not_not false = refl

pub if_not : {X : Type 0} (b : Bool) (x y : X) → (if not b then x else y) ≡ (if b then y else x)
if_not true x y = refl
if_not false x y = refl
