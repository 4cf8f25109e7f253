-- Trees that have what one of many has.
use Rattle.std.specs.Prelude.{◌≡◌, ℕ, ◌+◌, ◌<◌, ◌≤◌, if◌then◌else◌, All, List, [], ◌∷◌, ◌++◌, length, map, take}
use Rattle.std.proofs.Common.{get_or, refl, sym, ap, ◌∙◌, arith}
use Rattle.std.proofs.lemmas.Bool.{eq-eqb}
use Rattle.std.proofs.lemmas.List.{map-append, map_more}
use Rattle.std.proofs.lemmas.List.Elements.{All-head, All-tail}
use Rattle.net_core.specs.declared.tree.Expr.{Expr}
use Rattle.net_core.specs.declared.tree.Op.TheVariants.{Or}
use Rattle.net_core.specs.Nets.{Tree, TRead, TBinary}
use Rattle.net_core.specs.View.{tree_of}
use Rattle.net_core.specs.Width.{Scope, width_of, op_width}
use Rattle.block_core.specs.design_rules.FormedSyntax.{depth}
use Rattle.block_core.specs.declared.name.Name.TheVariants as name
use Rattle.turn_net.specs.HostNet.Trees.{any_of}

-- one more of them
more : {N : Type 0} (ts : List (Tree N)) (t last : Tree N) → any_of (ts ++ t ∷ []) last ≡ any_of ts (TBinary Or t last)
more [] t last = refl
more (s ∷ ts) t last = ap (TBinary Or s) (more ts t last)

pub moved : {N : Type 0} (xs rest : List (Expr N)) (x : Expr N) (any next whole : Tree N) → xs ≡ rest ++ x ∷ [] → next ≡ TBinary Or (tree_of x) any → any_of (map tree_of xs) any ≡ whole → any_of (map tree_of rest) next ≡ whole
moved xs rest x any next whole e m h =
    ap (any_of (map tree_of rest)) m ∙ sym (more (map tree_of rest) (tree_of x) any) ∙ sym (ap (λ ts. any_of ts any) (ap (map tree_of) e ∙ map-append tree_of rest (x ∷ []))) ∙ h

-- what each of them is, and two of such are as one
pub each : {N : Type 0} (q : Tree N → Type 0) (ts : List (Tree N)) (last : Tree N) → ((a b : Tree N) → q a → q b → q (TBinary Or a b)) → All q ts → q last → q (any_of ts last)
each q [] last join h e = e
each q (t ∷ ts) last join h e = join t (any_of ts last) (All-head q t ts h) (each q ts last join (All-tail q t ts h) e)

pub low : {N : Type 0} (m : ℕ) (ts : List (Tree N)) (last : Tree N) → All (λ t. depth t ≤ m) ts → depth last ≤ m → depth (any_of ts last) ≤ m + length ts
low m [] last h e = omega arith
low m (t ∷ ts) last h e =
    let first = All-head (λ t. depth t ≤ m) t ts h in
    let rest = low m ts last (All-tail (λ t. depth t ≤ m) t ts h) e in
    omega (arith, first, rest)

pub wide : {N : Type 0} (s : Scope N) (w : ℕ) (ts : List (Tree N)) (last : Tree N) → All (λ t. width_of s t ≡ w) ts → width_of s last ≡ w → width_of s (any_of ts last) ≡ w
wide s w ts last = each (λ t. width_of s t ≡ w) ts last (λ a b e f. (λ j. op_width Or (e j) (f j)) ∙ ap (λ t. if t then w else 0) (eq-eqb w w refl))

-- one more name that is read
pub more_read : {N : Type 0} (names : List N) (all next : List (Expr N)) (e : Expr N) (name none : N) (k : ℕ) → k < length names → name ≡ get_or names k none → next ≡ all ++ e ∷ [] → tree_of e ≡ TRead name → map tree_of all ≡ map TRead (take k names)
    → map tree_of next ≡ map TRead (take (k + 1) names)
more_read names all next e name none k l is n t h =
    ap (map tree_of) n ∙ map-append tree_of all (e ∷ []) ∙ (λ j. h j ++ (t j ∷ [])) ∙ (λ j. map TRead (take k names) ++ TRead (is j) ∷ []) ∙ sym (map_more TRead names k none l)
