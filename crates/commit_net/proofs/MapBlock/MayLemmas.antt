-- The tree that says whether the host may write the word that it names.
use Rattle.std.specs.Prelude.{if◌then◌else◌}
use Rattle.std.proofs.Common.{◌≡◌, ◌∙◌, ℕ, ◌+◌, ◌-◌, ◌^◌, ◌<◌, ◌≤◌, get_or, refl, sym, ap, subst, arith}
use Rattle.std.proofs.lemmas.Bool.{lt-ltb}
use Rattle.std.proofs.Math.Nat.{pow-le-pow_right}
use Rattle.net_core.specs.declared.tree.Op.TheVariants.{And, Or, Less, LessEqual}
use Rattle.net_core.specs.declared.ports.TheConstants.{HOST_WORD}
use Rattle.net_core.specs.Nets.{TBinary}
use Rattle.net_core.specs.Ports.{port_list}
use Rattle.net_core.specs.Width.{Scope, width_of, op_width, memory_word_width}
use Rattle.block_core.specs.declared.name.Name.{Name}
use Rattle.block_core.specs.Blocks.{BlockTree, Whole}
use Rattle.block_core.specs.Formed.{names_scope, block_memories}
use Rattle.overlay_net.specs.xdp_maps.declared.decl.MapDecl.{MapDecl}
use Rattle.overlay_net.specs.xdp_maps.declared.decl.MapKind.TheVariants.{Hash, Array}
use Rattle.overlay_net.specs.hazard_core.Commits.{word_count}
use Rattle.frame_net.specs.GatherNets.{port, constant}
use Rattle.frame_net.specs.SourcesNets.{held}
use Rattle.frame_net.proofs.FormLaws.{same_is}
use Rattle.hash_net.specs.array_net.WordTrees.{host_index}
use Rattle.hash_net.specs.array_net.ArrayNets.{names_slot, has_word as array_has_word}
use Rattle.hash_net.proofs.array_net_laws.WordStoreLaws.{select_is}
use Rattle.hash_net.specs.HashNets.{value_first, hash_memories, has_word as hash_has_word}
use Rattle.commit_net.specs.declared.map_block.form.MapForm.{MapForm}
use Rattle.commit_net.specs.declared.map_block.parts.MapParts.{MapParts}
use Rattle.commit_net.specs.declared.map_block.parts.ControlNets.{ControlNets}
use Rattle.commit_net.specs.MapBlock.Forms.{FormFits}
use Rattle.commit_net.specs.MapBlock.Parts.{MapTrees}
use Rattle.commit_net.specs.MapBlock.Stored.{host_may_as, host_may}
use Rattle.commit_net.specs.MapBlock.Block.{IsMayTree}

module _ {P : Type 0} (f : MapForm) (ps : MapParts P) (c : ControlNets (Name P)) (bs : MapTrees (Name P)) where
  abbrev d : MapDecl
  d = f.decl

  -- ---- widths in a design
  module _ (w : Whole P) (form_fits : FormFits f) where
    abbrev s : Scope (Name P)
    s = names_scope w port_list

    few_slots : d.cap - 1 < 2 ^ 16
    few_slots =
        let n : 2 ^ f.bits ≤ 2 ^ 16 = pow-le-pow_right {n = 2} (omega arith) {i = f.bits} {j = 16} form_fits.most in
        omega (arith, n, form_fits.room, form_fits.limits.cap_some)

    slot_width : width_of s (names_slot f.number d.cap) ≡ 1
    slot_width = let m : f.number < 2 ^ 4 = omega (arith, form_fits.number) in rw (lt-ltb f.number (2 ^ 4) m, lt-ltb (d.cap - 1) (2 ^ 16) few_slots) refl

    below_width : (n : ℕ) → n < 16 → width_of s (TBinary Less (port {P = P} HOST_WORD) (constant 4 n)) ≡ 1
    below_width n l = let m : n < 2 ^ 4 = omega (arith, l) in rw (lt-ltb n (2 ^ 4) m) refl

    behind_width : (n : ℕ) → n < 16 → width_of s (TBinary LessEqual (constant 4 n) (port {P = P} HOST_WORD)) ≡ 1
    behind_width n l = let m : n < 2 ^ 4 = omega (arith, l) in rw (lt-ltb n (2 ^ 4) m) refl

    used_width : get_or (block_memories (w.block ps.own)) 0 (0, 0) ≡ (f.bits, 1) → width_of s (held ps.own 0 (host_index f.bits)) ≡ 1
    used_width e =
        (λ i. memory_word_width (select_is 16 f.bits (omega arith) form_fits.some form_fits.most i) (e i).0 (e i).1) ∙ ap (λ t. if t then 1 else 0) (same_is f.bits f.bits form_fits.some refl)

  few_words : FormFits f → value_first d + word_count d.value < 16
  few_words form_fits = let k = form_fits.limits.key_short in let v = form_fits.limits.value_short in omega arith

  array_tree : FormFits f → IsMayTree ps c bs (array_has_word f.number d)
  array_tree form_fits = record {
    typed = λ w is one. let l = few_words form_fits in λ j. op_width And (slot_width w form_fits j) (below_width w form_fits (word_count d.value) (omega (arith, l)) j);
    reads = λ w before p at there idle. (((tt, tt), (tt, tt)), (tt, tt));
    low = omega arith;
    apart = refl;
    flat = λ made. refl;
  }

  hash_tree : FormFits f → block_memories bs.stores ≡ hash_memories f.bits d → IsMayTree ps c bs (hash_has_word ps.own f.number f.bits d c.idle)
  hash_tree form_fits memories = record {
    typed = λ w is one.
        let l = few_words form_fits in
        let here : get_or (block_memories (w.block ps.own)) 0 (0, 0) ≡ (f.bits, 1) = ap (λ (b : BlockTree (Name P)). get_or (block_memories b) 0 (0, 0)) is.blocks.3 ∙ ap (λ ms. get_or ms 0 (0, 0)) memories in
        λ j. op_width And (op_width And (slot_width w form_fits j) (below_width w form_fits (value_first d + word_count d.value) l j)) (op_width Or (one j) (op_width And (behind_width w form_fits (value_first d) (omega (arith, l)) j) (used_width w form_fits here j)));
    reads = λ w before p at there idle. ((((tt, tt), (tt, tt)), (tt, tt)), (idle, ((tt, tt), (there, tt))));
    low = omega arith;
    apart = refl;
    flat = λ made. refl;
  }

  pub array_may : d.kind ≡ Array → FormFits f → IsMayTree ps c bs (host_may f ps.own c.idle)
  array_may kind form_fits = subst (λ k. IsMayTree ps c bs (host_may_as k f ps.own c.idle)) (sym kind) (array_tree form_fits)

  pub hash_may : d.kind ≡ Hash → FormFits f → block_memories bs.stores ≡ hash_memories f.bits d → IsMayTree ps c bs (host_may f ps.own c.idle)
  hash_may kind form_fits memories = subst (λ k. IsMayTree ps c bs (host_may_as k f ps.own c.idle)) (sym kind) (hash_tree form_fits memories)
