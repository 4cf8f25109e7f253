-- In a pipeline by a pipeline plan the parts show the slots of its maps.
use Rattle.std.proofs.Common.{◌≡◌, ◌∙◌, ℕ, ◌+◌, ◌<◌, List, length, get_or, sym, ap, subst, arith}
use Rattle.std.proofs.lemmas.List.{length-map, get_or-map}
use Rattle.block_core.proofs.list_laws_laws.PlaceLaws.{some_of}
use Rattle.block_core.specs.declared.name.Name.{Name}
use Rattle.block_core.specs.Blocks.{BlockTree, Whole}
use Rattle.block_core.specs.View.{block_of}
use Rattle.hazard_core.specs.xdp_maps.declared.decl.MapDecl.{MapDecl}
use Rattle.hazard_core.specs.xdp_maps.declared.decl.MapKind.{MapKind}
use Rattle.hazard_core.specs.xdp_maps.declared.decl.MapKind.TheVariants.{Hash, Array}
use Rattle.hazard_core.specs.xdp_maps.State.{no_decl}
use Rattle.hazard_core.specs.Tables.{decl_of}
use Rattle.overlay_net.specs.cell_nets.declared.operand.Operand.TheVariants.{Net}
use Rattle.hash_net.specs.Hash.{count_name}
use Rattle.hash_net.specs.SlotNet.Slots.{slots_of}
use Rattle.hash_net.specs.SlotNet.Shown.{shown_slots, IsSlots}
use Rattle.read_net.specs.declared.sites.MapNets.{MapNets}
use Rattle.stage_net.specs.Nets.{decls_of}
use Rattle.commit_net.specs.declared.map_block.form.MapForm.{MapForm}
use Rattle.pipe_net.specs.declared.parts.Part.{Part}
use Rattle.pipe_net.specs.declared.parts.Sizes.{Sizes}
use Rattle.pipe_net.specs.Parts as part
use Rattle.pipe_net.specs.Layout.{Layout}
use Rattle.pipe_net.specs.PipeTurns.Maps.{decl_at, IsSlotsPart}
use Rattle.pipe_parts.specs.declared.pipe_draft.pipeline_plan.PipelinePlan.{PipelinePlan}
use Rattle.pipe_parts.specs.declared.pipe_draft.places.StageSources.{StageSources}
use Rattle.pipe_parts.specs.PipeDraft.Laid.{IsPipelinePlanned}
use Rattle.pipe_parts.specs.declared.slot_parts.slots.SlotsPart.{SlotsPart}
use Rattle.pipe_parts.specs.SlotParts.Slots.{IsSlotsPartOf, AreSlotsParts}
use Rattle.pipe_parts.specs.SlotParts.Nets.{IsMapOfForm, AreMapNets}
use Rattle.pipe_parts.specs.SlotParts.Laws.{IsShownMap, AreShownMaps, HasSlotBlocks}
use Rattle.pipe_parts.proofs.SlotParts.Filling.{maps_same}

slots_as :
    (x z : Sizes) (m : ℕ) (e f : MapDecl) (a b : ℕ) (t u : BlockTree (Name Part)) → x ≡ z → e ≡ f → a ≡ b → t ≡ u → IsSlots (part.slots z m) (part.own z m) f b u → IsSlots (part.slots x m) (part.own x m) e a t
slots_as x z m e f a b t u sizes decl bits block h =
    subst (λ y. IsSlots (part.slots y m) (part.own y m) e a t) (sym sizes)
    (subst (λ g. IsSlots (part.slots z m) (part.own z m) g a t) (sym decl)
    (subst (λ c. IsSlots (part.slots z m) (part.own z m) f c t) (sym bits) (subst (λ v. IsSlots (part.slots z m) (part.own z m) f b v) (sym block) h)))

no_form : MapForm
no_form = record { number = 0; bits = 0; decl = no_decl }

module _ (d : PipelinePlan) (places : List StageSources) (l : Layout) (w : Whole Part) (rs : List SlotsPart) (nets : List (MapNets (Name Part))) (from : IsPipelinePlanned d places l) (parts : AreSlotsParts d rs) (maps : AreMapNets d nets)
    (blocks : HasSlotBlocks l w rs) where
  many : length l.decls ≡ length d.forms.items
  many = ap length from.decls ∙ length-map d.forms.items (λ (f : MapForm). f.decl)

  module _ (m : ℕ) (n : MapNets (Name Part)) (lt : m < length l.decls) where
    within : m < length d.forms.items
    within = omega (arith, many, lt)

    abbrev form : MapForm
    form = get_or d.forms.items m no_form

    decl : decl_at l m ≡ form.decl
    decl = ap (λ ds. decl_of ds m) from.decls ∙ get_or-map (λ (f : MapForm). f.decl) d.forms.items m no_form no_decl within

    kind : (k : MapKind) → (decl_at l m).kind ≡ k → form.decl.kind ≡ k
    kind k is = ap (λ (e : MapDecl). e.kind) (sym decl) ∙ is

    bits : l.slot_bits m ≡ form.bits
    bits = from.slot_bits m no_form lt

    some_part : SlotsPart
    some_part = some_of rs m (omega (arith, within, parts.count))

    shows : IsSlotsPartOf d.sizes m form (get_or rs m some_part)
    shows = parts.each m some_part within no_form

    slots_part : IsSlotsPart l w m
    slots_part = record {
      hash = λ k. slots_as l.sizes d.sizes m (decl_at l m) form.decl (l.slot_bits m) form.bits (w.block (part.slots l.sizes m)) (block_of (get_or rs m some_part).block) from.sizes decl bits (blocks m some_part lt) (shows.hash (kind Hash k));
      array = λ k. blocks m some_part lt ∙ shows.array (kind Array k);
    }

    of : IsMapOfForm d.sizes d.bits m form (get_or nets m n)
    of = maps.each m n within no_form

    shown : (decl_at l m).kind ≡ Hash → slots_of (get_or nets m n).slots.now ≡ shown_slots (part.slots l.sizes m) (decl_at l m)
    shown k = of.slots (kind Hash k) ∙ ap (λ (z : Sizes). shown_slots (part.slots z m) form.decl) (sym from.sizes) ∙ ap (λ e. shown_slots (part.slots l.sizes m) e) (sym decl)

    used : (decl_at l m).kind ≡ Hash → (get_or nets m n).used ≡ Net (count_name (part.own l.sizes m)) (l.slot_bits m + 1)
    used k = of.used (kind Hash k) ∙ ap (λ (z : Sizes). Net (count_name (part.own z m)) (form.bits + 1)) (sym from.sizes) ∙ ap (λ b. Net (count_name (part.own l.sizes m)) (b + 1)) (sym bits)

    shown_map : IsShownMap l w m (get_or nets m n)
    shown_map = record {
      actions = record { is = of.is; decl = of.decl ∙ sym decl; bits = of.bits ∙ sym from.bits; slots = shown; used = used; none = λ k. of.none (kind Array k) };
      part = slots_part;
      places = record { decl = of.decl ∙ sym decl; slots = shown; used = used; block = slots_part.hash };
      uncounted = λ k. of.uncounted (kind Array k);
    }

  decls : decls_of nets ≡ l.decls
  decls =
      maps_same (λ (n : MapNets (Name Part)). n.decl.now) (λ (f : MapForm). f.decl) nets d.forms.items maps.count (λ i a b lt. (maps.each i a lt b).decl) ∙ sym from.decls

  pub shown_maps : AreShownMaps l w nets
  shown_maps = record { count = maps.count ∙ sym many; decls = decls; each = shown_map }
