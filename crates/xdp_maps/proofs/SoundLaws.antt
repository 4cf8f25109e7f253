-- Operations that fit their map keep all maps as their declarations allow.
use Rattle.std.proofs.Common.{ℕ, ◌<◌, length, inl, inr, sym, subst, ◌∙◌, arith, get_or-set_same, get_or-set_other, length-set}
use Rattle.std.specs.FinMap as map
use Rattle.xdp_maps.specs.declared.decl.MapDecl.{MapDecl}
use Rattle.xdp_maps.specs.Contents.{Contents, IsOver}
use Rattle.xdp_maps.specs.State.{MapState, IsSound, decl_at, contents_at, with_contents}
use Rattle.xdp_maps.specs.Operations.{Operation, Lookup, Load, Update, Delete, Store, Atomic, Fits, left_by}
use Rattle.xdp_maps.specs.Laws.{OperationsKeepSound}
use Rattle.xdp_maps.proofs.Over.{updated_over, deleted_over, stored_over, changed_over}
use Rattle.xdp_maps.proofs.StateLemmas.{equal_or_not}

left_over : (d : MapDecl) (c : Contents) (op : Operation) → IsOver d c → Fits d op → IsOver d (left_by d c op)
left_over d c (Lookup key) over fits = over
left_over d c (Load key) over fits = over
left_over d c (Update key value flags) over fits = updated_over d c key value flags over fits.0 fits.1
left_over d c (Delete key) over fits = deleted_over d c key over
left_over d c (Store key at bytes) over fits = stored_over d c key at bytes over fits.1.0 fits.1.1
left_over d c (Atomic key at x fetch) over fits = changed_over d c key at x over fits.1

set_sound : (s : MapState) (q : ℕ) (c : Contents) → IsSound s → q < length s.decls → IsOver (decl_at s q) c → IsSound (with_contents s q c)
set_sound s q c sound lt over = record {
  beside = length-set s.contents q c ∙ sound.beside;
  limits = sound.limits;
  over = λ m within. elim (equal_or_not m q) [
    | inl is ↦
        let at_m : ℕ → Type 0 = λ i. IsOver (decl_at s i) (contents_at (with_contents s q c) i) in
        subst at_m (sym is) (subst (IsOver (decl_at s q)) (sym (get_or-set_same s.contents q c map.empty (omega (arith, sound.beside)))) over)
    | inr differ ↦ subst (IsOver (decl_at s m)) (sym (get_or-set_other s.contents q m c map.empty differ)) (sound.over m within)
  ];
}

pub operations_keep_sound : OperationsKeepSound
operations_keep_sound s q op sound lt fits =
    set_sound s q (left_by (decl_at s q) (contents_at s q) op) sound lt (left_over (decl_at s q) (contents_at s q) op (sound.over q lt) fits)
