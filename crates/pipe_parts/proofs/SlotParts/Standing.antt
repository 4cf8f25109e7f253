-- What stands for a map is of operands of the widths that are asked.
use Rattle.std.specs.Prelude.{◌*◌, ◌^◌, ◌≤◌}
use Rattle.std.specs.List.{range_with_len}
use Rattle.std.proofs.Common.{◌≡◌, ◌∙◌, ℕ, zero, suc, ◌+◌, ◌<◌, All, [], length, get_or, map as map_list, refl, sym, ap, subst, arith}
use Rattle.std.proofs.lemmas.List.{length-map, get_or-map, get_or_default}
use Rattle.std.proofs.lemmas.List.FromFn.{length-range_with_len}
use Rattle.std.proofs.lemmas.List.Elements.{All-nil, All-cons, All-map}
use Rattle.hazard_core.specs.xdp_maps.declared.decl.MapDecl.{MapDecl}
use Rattle.hazard_core.specs.xdp_maps.declared.decl.MapKind.{MapKind}
use Rattle.hazard_core.specs.xdp_maps.Contents.{IsWithinLimits}
use Rattle.hazard_core.specs.xdp_maps.State.{no_decl}
use Rattle.hazard_core.specs.xdp_maps.declared.decl.MapKind.TheVariants.{Hash, Array}
use Rattle.block_core.specs.declared.name.Name.{Name}
use Rattle.block_core.specs.declared.name.Name.TheVariants as name
use Rattle.hazard_core.specs.Commits.{word_count}
use Rattle.hash_net.specs.array_net.Words.{word_width}
use Rattle.hash_net.proofs.array_net_laws.WordLaws.{width_some, width_most}
use Rattle.hash_net.specs.Hash.{count_name}
use Rattle.overlay_net.specs.cell_nets.declared.operand.Operand.TheVariants.{Known, Net}
use Rattle.overlay_net.specs.cell_nets.Operands.{IsOperand, IsNarrow}
use Rattle.hash_net.specs.SlotNet.Slots.{slot_operands, slots_of, IsSlot}
use Rattle.hash_net.specs.SlotNet.Shown.{per_slot, shown_slot, shown_slots}
use Rattle.read_net.specs.declared.sites.MapNets.{MapNets}
use Rattle.read_net.specs.Sites.{IsMap}
use Rattle.commit_net.specs.declared.map_block.form.MapForm.{MapForm}
use Rattle.commit_net.specs.MapBlock.Forms.{FormFits}
use Rattle.pipe_net.specs.declared.parts.Part.{Part}
use Rattle.pipe_net.specs.declared.parts.Sizes.{Sizes}
use Rattle.pipe_net.specs.Parts as part
use Rattle.pipe_parts.specs.declared.slot_parts.slots.SlotsPart.{SlotsPart}
use Rattle.pipe_parts.specs.declared.pipe_draft.pipeline_plan.PipelinePlan.{PipelinePlan}
use Rattle.pipe_parts.specs.PipeDraft.PipelinePlan.{decls_in, IsPipelinePlan}
use Rattle.pipe_parts.specs.SlotParts.Slots.{IsSlotsPartOf, IsSlotsPartIn}
use Rattle.pipe_parts.specs.SlotParts.Nets.{IsMapOfForm, IsMapIn}
use Rattle.pipe_parts.proofs.SlotParts.Showing.{one_kind}

-- ---- what shows the slots of a hash
keys_are : (p : Part) (bytes first from count : ℕ) → from + count ≤ word_count bytes → All IsOperand (map_list (λ w. Net (name.Wire p (first + w)) (word_width bytes w)) (range_with_len from count))
keys_are p bytes first from zero h = All-nil IsOperand
keys_are p bytes first from (suc count) h =
    All-cons IsOperand (Net (name.Wire p (first + from)) (word_width bytes from)) (map_list (λ w. Net (name.Wire p (first + w)) (word_width bytes w)) (range_with_len (from + 1) count))
    (record { some = omega (arith, width_some bytes from (omega (arith, h))); most = width_most bytes from }) (keys_are p bytes first (from + 1) count (omega (arith, h)))

shown_is : (p : Part) (d : MapDecl) (n : ℕ) → IsSlot d.key (shown_slot p d n)
shown_is p d n = record {
  operands = All-cons IsOperand (shown_slot p d n).used (shown_slot p d n).key (record { some = omega arith; most = omega arith }) (keys_are p d.key (n * per_slot d + 1) 0 (word_count d.key) (omega arith));
  words = omega (arith, length-map (range_with_len 0 (word_count d.key)) (λ w. Net (name.Wire p (n * per_slot d + 1 + w)) (word_width d.key w)), length-range_with_len 0 (word_count d.key));
}

shown_are : (p : Part) (d : MapDecl) → All (IsSlot d.key) (shown_slots p d)
shown_are p d = All-map (IsSlot d.key) (shown_slot p d) (range_with_len 0 d.cap) (λ i e lt. shown_is p d (get_or (range_with_len 0 d.cap) i e))

-- ---- a map
module _ (z : Sizes) (bits m : ℕ) (f : MapForm) (r : SlotsPart) (n : MapNets (Name Part)) (form_fits : FormFits f) (of : IsSlotsPartOf z m f r) (decl : n.decl.now ≡ f.decl) (same_bits : n.bits ≡ bits) (same : n.slots.now ≡ r.slots.items)
    (some : 3 ≤ bits) (most : bits ≤ 34) (room : 4 * f.decl.cap + 1 < 2 ^ bits) where
  slots_are : slots_of n.slots.now ≡ slots_of r.slots.items
  slots_are = ap slots_of same

  many : length n.slots.now ≡ length (slots_of n.slots.now)
  many = sym (length-map n.slots.now slot_operands)

  is_map : All (IsSlot f.decl.key) (slots_of n.slots.now) → length (slots_of n.slots.now) ≤ f.decl.cap → IsOperand n.used → IsNarrow 17 n.used → IsMap n
  is_map slots few used narrow = record {
    limits = subst IsWithinLimits (sym decl) form_fits.limits;
    slots = subst (λ (d : MapDecl). All (IsSlot d.key) (slots_of n.slots.now)) (sym decl) slots;
    used = used;
    used_narrow = narrow;
    few = omega (arith, few, many, ap (λ (d : MapDecl). d.cap) decl);
    some = omega (arith, some, same_bits);
    most = omega (arith, most, same_bits);
    room = subst (λ (d : MapDecl). 4 * d.cap + 1 < 2 ^ n.bits) (sym decl) (subst (λ b. 4 * f.decl.cap + 1 < 2 ^ b) (sym same_bits) room);
  }

  pub hash_map : f.decl.kind ≡ Hash → n.used ≡ Net (count_name (part.own z m)) (f.bits + 1) → IsMapOfForm z bits m f n
  hash_map is used =
      let shown : slots_of n.slots.now ≡ shown_slots (part.slots z m) f.decl = slots_are ∙ of.shown is in
      let count : length (slots_of n.slots.now) ≡ f.decl.cap = ap length shown ∙ length-map (range_with_len 0 f.decl.cap) (shown_slot (part.slots z m) f.decl) ∙ length-range_with_len 0 f.decl.cap in
      record {
        is =
            is_map (subst (All (IsSlot f.decl.key)) (sym shown) (shown_are (part.slots z m) f.decl)) (omega (arith, count))
            (subst IsOperand (sym used) (record { some = omega arith; most = omega (arith, form_fits.most) })) (subst (IsNarrow 17) (sym used) (omega (arith, form_fits.most)));
        decl = decl;
        bits = same_bits;
        slots = λ k. shown;
        used = λ k. used;
        none = λ k. absurd (one_kind f.decl.kind is k);
        uncounted = λ k. absurd (one_kind f.decl.kind is k);
      }

  pub array_map : f.decl.kind ≡ Array → n.used ≡ Known 0 → IsMapOfForm z bits m f n
  array_map is used =
      let none : n.slots.now ≡ [] = same ∙ of.none is in
      let empty : slots_of n.slots.now ≡ [] = ap slots_of none in
      record {
        is =
            is_map (subst (All (IsSlot f.decl.key)) (sym empty) (All-nil (IsSlot f.decl.key))) (omega (arith, ap length empty))
            (subst IsOperand (sym used) (omega arith)) (subst (IsNarrow 17) (sym used) (omega arith));
        decl = decl;
        bits = same_bits;
        slots = λ k. absurd (one_kind f.decl.kind k is);
        used = λ k. absurd (one_kind f.decl.kind k is);
        none = λ k. none;
        uncounted = λ k. used;
      }

-- ---- a map of a pipeline plan, by the form that stands at its number
module _ (d : PipelinePlan) (is : IsPipelinePlan d) (m : ℕ) (f : MapForm) (lt : m < length d.forms.items) (same : f ≡ get_or d.forms.items m f) where
  pub form_fits_at : FormFits f
  form_fits_at = subst FormFits (sym same) (is.forms.form_fits m f lt)

  room_at : 4 * f.decl.cap + 1 < 2 ^ d.bits
  room_at =
      let decl : get_or (decls_in d) m no_decl ≡ f.decl = get_or-map (λ (g : MapForm). g.decl) d.forms.items m f no_decl lt ∙ ap (λ (g : MapForm). g.decl) (sym same) in
      subst (λ (e : MapDecl). 4 * e.cap + 1 < 2 ^ d.bits) decl (is.bits.slots m no_decl (omega (arith, lt, length-map d.forms.items (λ (g : MapForm). g.decl))))

  pub map_in :
      (r : SlotsPart) (n : MapNets (Name Part)) → IsSlotsPartIn d m r → n.decl.now ≡ f.decl → n.bits ≡ d.bits → n.slots.now ≡ r.slots.items → (f.decl.kind ≡ Hash → n.used ≡ Net (count_name (part.own d.sizes m)) (f.bits + 1))
      → (f.decl.kind ≡ Array → n.used ≡ Known 0) → IsMapIn d m n
  map_in r n of decl bits slots hash array g = subst (λ x. IsMapOfForm d.sizes d.bits m x n) (same ∙ get_or_default d.forms.items m f g lt) (by_kind f.decl.kind refl)
    where
      shows : IsSlotsPartOf d.sizes m f r
      shows = subst (λ x. IsSlotsPartOf d.sizes m x r) (sym same) (of f)

      by_kind : (k : MapKind) → f.decl.kind ≡ k → IsMapOfForm d.sizes d.bits m f n
      by_kind Hash k = hash_map d.sizes d.bits m f r n form_fits_at shows decl bits slots is.bits.some is.bits.most room_at k (hash k)
      by_kind Array k = array_map d.sizes d.bits m f r n form_fits_at shows decl bits slots is.bits.some is.bits.most room_at k (array k)
