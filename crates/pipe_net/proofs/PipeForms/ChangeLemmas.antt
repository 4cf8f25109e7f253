-- What the parts of maps read stands before them, and so does what they say for the parts behind.
use Rattle.std.specs.Prelude.{◌≡◌, ℕ, suc, ◌+◌, ◌*◌, ◌<◌, ◌≤◌, List, [], ◌∷◌, ◌++◌, length, slice_index}
use Rattle.std.proofs.Common.{get_or, refl, sym, ap, ◌∙◌, subst, arith, inr}
use Rattle.std.proofs.lemmas.List.{length-map}
use Rattle.std.proofs.lemmas.List.Elements.{Contains-get_or}
use Rattle.block_core.specs.net_core.Ports.{port_list}
use Rattle.hazard_core.specs.xdp_maps.declared.decl.MapKind.{MapKind}
use Rattle.hazard_core.specs.xdp_maps.declared.decl.MapKind.TheVariants.{Hash, Array}
use Rattle.block_core.specs.declared.name.Name.{Name}
use Rattle.block_core.specs.Blocks.{Whole, BlockWireTree}
use Rattle.block_core.specs.Formed.{name_width}
use Rattle.turn_net.specs.cell_nets.declared.operand.Operand.{Operand}
use Rattle.turn_net.specs.cell_nets.declared.operand.Operand.TheVariants.{Known, Net}
use Rattle.read_net.specs.overlay_net.SiteOperands.Sites.{SiteOperands, operands_of, all_of}
use Rattle.read_net.specs.declared.sites.OwnSite.{OwnSite}
use Rattle.turn_net.specs.declared.target_net.targets.Target.{Target}
use Rattle.commit_net.specs.declared.choosing.CommitNets.{CommitNets}
use Rattle.commit_net.specs.Choosing.{read_of, all_read}
use Rattle.commit_net.specs.ChangeNet.Pointed.{word_operands, pointed_operands, IsPointedWords}
use Rattle.commit_net.specs.ChangeNet.Written.{written_outside}
use Rattle.commit_net.specs.ChangeNet.Changes.{host_map, change_outside, change_given}
use Rattle.commit_net.specs.MapBlock.Stored.{host_word, host_word_as}
use Rattle.pipe_net.specs.declared.parts.Part.{Part}
use Rattle.pipe_net.specs.Parts as part
use Rattle.pipe_net.specs.Parts.{behind_words}
use Rattle.pipe_net.specs.Layout.{Layout, program_of, commit_of}
use Rattle.pipe_net.specs.PipeTurns.Maps.{records_on}
use Rattle.pipe_net.specs.PipeTurns.Parts.{form_at, writes_net}
use Rattle.pipe_net.specs.PipeMaps.Parts.{commits_net, IsOperation}
use Rattle.pipe_net.specs.PipeForms.Parts.{AreParts}
use Rattle.pipe_net.proofs.PipeForms.EarlierLemmas.{earlier, IsReady, AreReady, among_earlier, early_later, ready_declared, ready_early, ready_both, ready_none, ready_list, ready_append, ready_offers}
use Rattle.pipe_net.proofs.PipeForms.HeldLemmas.{commit_within, site_ready}
use Rattle.pipe_net.proofs.PipeForms.MapLemmas.{wire_within, map_parts}
use Rattle.pipe_net.proofs.PipeForms.ActionLemmas.{target_ready, chosen_ready, writes_ready, commits_ready}

-- what the part of words of an earlier number gives
pub pointed_ready :
    (d : Whole Part) (k n : ℕ) → k < n → {of : Part} {outside : List (Operand (Name Part))} {ws : List (BlockWireTree (Name Part))} {a : Operand (Name Part)} {shift bits first bytes from count : ℕ} {slot : Name Part} {words : List (Name Part)}
    → IsPointedWords (part.part k) of outside ws a shift bits first bytes from count slot words (d.block (part.part k)) → AreReady d k outside → AreReady d n (pointed_operands bits slot words)
pointed_ready d k n lt {outside = outside} {bits = bits} {slot = slot} {words = words} is h =
    ready_both d n (pointed_operands bits slot words) (is.declared d refl (ready_declared d k outside h))
    (is.before d (earlier n) (part.part n) refl (among_earlier n k lt) (λ x c. early_later d k n (omega (arith, lt)) x (ready_early d k outside h x c)))

-- the key and the operands of a site are among its operands
pub asked_ready : (d : Whole Part) (n : ℕ) (s : SiteOperands (Name Part)) → AreReady d n (all_of s) → AreReady d n (s.key ++ s.operands)
asked_ready d n s h a (k, lt, e) = h a (suc (suc (suc (suc k))), omega (arith, lt), e)

module _ (l : Layout) (d : Whole Part) (parts : AreParts l d) (m : ℕ) (there : m < length l.decls) where
  abbrev first : ℕ
  first = behind_words l.sizes + l.sizes.maps + 3 + 6 * m

  -- ---- what stands for the operations
  own_count : length (parts.actions.own m) ≡ length (records_on (program_of l) m)
  own_count = sym (length-map (parts.actions.own m) (λ (s : OwnSite (Name Part)). s.site)) ∙ ap length (parts.actions.writes m there).sites

  operation_ready : (n : ℕ) → behind_words l.sizes + l.sizes.maps + 1 < n → (i : ℕ) (c : CommitNets (Name Part)) → i < length (parts.actions.own m) → IsOperation l d parts.actions m i c → AreReady d n (read_of c)
  operation_ready n late i c lt is =
      let none : Target (Name Part) = record { slot = Known 0; makes = Known 0 } in
      let count = parts.actions.action.count in
      let within = is.there in
      let targets = target_ready l d parts n (omega (arith, late)) m there i none lt in
      let says = chosen_ready l d parts n late (get_or parts.actions.chosen is.place (Known 0)) (Contains-get_or parts.actions.chosen is.place (Known 0) (omega (arith, within, count))) in
      ready_append d n (c.chosen ∷ c.target ∷ c.makes ∷ []) (c.nets.now.key.items ++ c.nets.now.operands.items)
      (ready_list d n (c.chosen ∷ c.target ∷ c.makes ∷ []) (subst (IsReady d n) (sym (is.chosen (Known 0))) says, (subst (IsReady d n) (sym (is.target none)) targets.0, (subst (IsReady d n) (sym (is.makes none)) targets.1, tt))))
      (asked_ready d n (operands_of c.nets.now) (site_ready l d parts (commit_of l) (commit_within l d parts) n (slice_index (records_on (program_of l) m) i) (operands_of c.nets.now) is.nets))

  operations_from : (n : ℕ) → behind_words l.sizes + l.sizes.maps + 1 < n → (at : ℕ) (ns : List (CommitNets (Name Part))) → at + length ns ≤ length (parts.actions.own m) → ((i : ℕ) (c : CommitNets (Name Part)) → i < length ns → IsOperation l d parts.actions m (at + i) (get_or ns i c))
      → AreReady d n (all_read ns)
  operations_from n late at [] few h = ready_none d n
  operations_from n late at (c ∷ ns) few h =
      let z : at + 0 ≡ at = omega arith in
      ready_append d n (read_of c) (all_read ns) (operation_ready n late at c (omega (arith, few)) (subst (λ i. IsOperation l d parts.actions m i c) z (h 0 c (omega arith))))
      (operations_from n late (suc at) ns (omega (arith, few)) (λ i e lt. let y : at + suc i ≡ suc at + i = omega arith in subst (λ j. IsOperation l d parts.actions m j (get_or ns i e)) y (h (suc i) e (omega (arith, lt)))))

  pub operations_ready : (n : ℕ) → behind_words l.sizes + l.sizes.maps + 1 < n → AreReady d n (all_read (parts.maps.maps m there).operations)
  operations_ready n late =
      let of = parts.maps.maps m there in
      let count = of.count in
      operations_from n late 0 of.operations (omega (arith, count, own_count)) (λ i c lt. let z : 0 + i ≡ i = omega arith in subst (λ j. IsOperation l d parts.actions m j (get_or of.operations i c)) (sym z) (of.each i c lt))

  -- ---- the slot that is written
  pub slot_ready : (n : ℕ) → first < n → IsReady d n (Net (parts.maps.maps m there).trees.slot (l.slot_bits m))
  slot_ready n late =
      let formed = (parts.maps.maps m there).map.formed in
      let is = map_parts l d parts m there in
      let ops = (parts.maps.maps m there).operations in (
        formed.slot_before d (earlier n) (part.part n) is (among_earlier n (first + 0) (omega (arith, late))) (λ x h. ready_early d n (all_read ops) (operations_ready n (omega (arith, late))) x h),
        formed.slot_width d is (ready_declared d n (all_read ops) (operations_ready n (omega (arith, late)))),
      )

  pub written_read : (n : ℕ) → first < n → AreReady d n (written_outside (l.slot_bits m) (commits_net l d parts.actions m) (parts.maps.maps m there).trees.slot)
  written_read n late =
      ready_list d n (written_outside (l.slot_bits m) (commits_net l d parts.actions m) (parts.maps.maps m there).trees.slot) (commits_ready l d parts n (omega (arith, late)) m there, (slot_ready n late, ((tt, refl), tt)))

  pub written_ready : (n : ℕ) → first + 4 < n → AreReady d n (pointed_operands (l.slot_bits m) (parts.maps.maps m there).slot (parts.maps.maps m there).keys)
  written_ready n late = pointed_ready d (first + 4) n late (parts.maps.maps m there).written.words_of (written_read (first + 4) (omega arith))

  -- ---- what it changes
  pub change_read : (n : ℕ) → first + 4 < n → AreReady d n (change_outside (l.slot_bits m) (commits_net l d parts.actions m) (writes_net l) (parts.maps.maps m there).slot (parts.maps.maps m there).keys (parts.maps.maps m there).operations)
  change_read n late =
      let of = parts.maps.maps m there in
      let both = written_ready n late in
      let front = Net (commits_net l d parts.actions m) 1 ∷ Net (writes_net l) 1 ∷ Net of.slot (l.slot_bits m) ∷ host_map ∷ [] in
      ready_append d n front (word_operands of.keys ++ all_read of.operations)
      (ready_list d n front (commits_ready l d parts n (omega (arith, late)) m there, (writes_ready l d parts n (omega (arith, late)), (both (Net of.slot (l.slot_bits m)) (0, omega arith, refl), ((tt, refl), tt)))))
      (ready_append d n (word_operands of.keys) (all_read of.operations) (λ a c. let lt = c.1 in both a (suc c.0, omega (arith, lt), c.2)) (operations_ready n (omega (arith, late))))

  pub change_ready : (n : ℕ) → first + 5 < n → AreReady d n (change_given (l.changes m).slot (l.changes m).key (l.changes m).presence (l.changes m).any (l.changes m).by_host)
  change_ready n late =
      let of = parts.maps.maps m there in
      ready_offers d (first + 5) n late (change_outside (l.slot_bits m) (commits_net l d parts.actions m) (writes_net l) of.slot of.keys of.operations) _ of.change.offers (change_read (first + 5) (omega arith))

  -- ---- what the host reads
  pub word_ready : (n : ℕ) → first + 3 < n → IsReady d n (Net (host_word (form_at l m) (part.own l.sizes m)) 64)
  word_ready n late = by_kind (form_at l m).decl.kind ((parts.maps.maps m there).map.formed.shown d (map_parts l d parts m there))
    where
      by_kind : (kind : MapKind) → name_width d port_list (host_word_as kind (part.own l.sizes m)) ≡ 64 → IsReady d n (Net (host_word_as kind (part.own l.sizes m)) 64)
      by_kind Hash e = (inr (among_earlier n (first + 3) late, wire_within d (part.own l.sizes m) _ 64 e (omega arith)), e)
      by_kind Array e = (inr (among_earlier n (first + 3) late, wire_within d (part.own l.sizes m) _ 64 e (omega arith)), e)
