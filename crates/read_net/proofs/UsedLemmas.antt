-- How many slots of an array are used.
use Rattle.std.specs.Prelude.{if◌then◌else◌, filter}
use Rattle.std.proofs.Common.{◌≡◌, ◌∙◌, ℕ, suc, ◌<◌, true, List, [], ◌∷◌, length, refl, sym, ap, subst, arith}
use Rattle.std.proofs.lemmas.Bool.{and_parts}
use Rattle.std.proofs.lemmas.List.Sums.{length-filter}
use Rattle.std.specs.Str.{bytes_eq}
use Rattle.overlay_net.specs.xdp_maps.Contents.{IsWithinLimits, limits_as, index_key}
use Rattle.overlay_net.specs.xdp_maps.declared.decl.MapDecl.{MapDecl}
use Rattle.overlay_net.specs.xdp_maps.declared.decl.MapKind.TheVariants.{Array}
use Rattle.pipe_core.specs.hazard_core.declared.slot.Slot.{Slot}
use Rattle.pipe_core.specs.hazard_core.Tables.{slot_at, has_key, used_count}
use Rattle.pipe_core.specs.hazard_core.Tabled.{IsTable, IsFilledTable}

kept : (slots : List Slot) (keys : ℕ → List ℕ) → ((n : ℕ) → n < length slots → has_key (keys n) (slot_at slots n) ≡ true) → length (filter (λ (s : Slot). s.used) slots) ≡ length slots
kept [] keys h = refl
kept (s ∷ slots) keys h =
    let used : s.used ≡ true = (and_parts s.used (bytes_eq s.key (keys 0)) (h 0 (omega arith))).0 in
    let others = filter (λ (o : Slot). o.used) slots in
    ap (λ b. length (if b then s ∷ others else others)) used ∙ ap suc (kept slots (λ n. keys (suc n)) (λ n lt. h (suc n) (omega (arith, lt))))

pub array_used : (d : MapDecl) (slots : List Slot) → d.kind ≡ Array → IsTable d slots → used_count slots ≡ d.cap
array_used d slots e is = sym (length-filter (λ (s : Slot). s.used) slots) ∙ kept slots index_key (subst (λ k. IsFilledTable k slots) e is.filled) ∙ is.count

pub index_key_bytes : (d : MapDecl) → IsWithinLimits d → d.kind ≡ Array → d.key ≡ 4
index_key_bytes d l e = (subst (λ k. limits_as k d) e l.by_kind).0
