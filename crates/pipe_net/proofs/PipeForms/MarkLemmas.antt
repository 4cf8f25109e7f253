-- What the parts of marks read stands before them.
use Rattle.std.specs.Prelude.{◌≡◌, ℕ, zero, suc, ◌+◌, ◌<◌, ◌≤◌, ◌==◌, Bool, true, false, if◌then◌else◌, Option, Some, None, All, List, [], ◌∷◌, ◌++◌, length, slice_index}
use Rattle.std.proofs.Common.{get_or, refl, sym, ap, ◌∙◌, subst, arith}
use Rattle.std.proofs.lemmas.List.Elements.{All-head, All-tail, Contains-append_left}
use Rattle.block_core.specs.declared.name.Name.{Name}
use Rattle.block_core.specs.Blocks.{Whole}
use Rattle.hazard_core.specs.cell_core.Sites.{site_at}
use Rattle.turn_net.specs.cell_nets.declared.operand.Operand.{Operand}
use Rattle.turn_net.specs.cell_nets.declared.operand.Operand.TheVariants.{Net}
use Rattle.read_net.specs.overlay_net.SiteOperands.Sites.{SiteOperands, operands_of, all_of}
use Rattle.read_net.specs.declared.touch_net.change.OwnKey.{OwnKey}
use Rattle.read_net.specs.declared.touch_net.marks.MarkNets.{MarkNets}
use Rattle.read_net.specs.TouchNet.Touching.{change_operands, own_operands}
use Rattle.read_net.specs.TouchNet.Marking.{guard_operands, mark_operands}
use Rattle.commit_net.specs.ChangeNet.Changes.{change_given}
use Rattle.read_net.specs.declared.mark_net.nets.MarkSite.{MarkSite}
use Rattle.read_net.specs.MarkNet.Sites.{read_operands, site_operands, all_operands, outside}
use Rattle.hazard_core.specs.Marks.{has_read}
use Rattle.pipe_net.specs.declared.parts.Part.{Part}
use Rattle.pipe_net.specs.Parts.{behind_maps}
use Rattle.pipe_net.specs.Layout.{Layout, program_of, commit_of, last_of}
use Rattle.pipe_net.specs.Relation.{read_sites}
use Rattle.pipe_net.specs.PipeMarks.Parts.{advances, mark_register, IsMarkOf, Unread, Read, IsMarkBefore, comes_by, IsOwnAt, IsMarkAt, IsMarkNets}
use Rattle.pipe_net.specs.PipeForms.Parts.{AreParts}
use Rattle.pipe_net.proofs.PipeForms.EarlierLemmas.{IsReady, AreReady, ready_none, ready_cons, ready_list, ready_append}
use Rattle.pipe_net.proofs.PipeForms.HeldLemmas.{among, commit_within, site_ready}
use Rattle.pipe_net.proofs.PipeForms.MapLemmas.{number_within}
use Rattle.pipe_net.proofs.PipeForms.ActionLemmas.{each_same, sites_below, map_within, told_ready}
use Rattle.pipe_net.proofs.PipeForms.ChangeLemmas.{change_ready}

module _ (l : Layout) (d : Whole Part) (parts : AreParts l d) where
  -- ---- marks of a place
  pub mark_ready : (n k i : ℕ) → k ≤ commit_of l → i < length (read_sites l k) → IsReady d n (mark_register l k i)
  mark_ready n k i q lt =
      let m = parts.marks k q in
      let count = m.count in
      let small = parts.sized.commit in (
        among l d parts _ (omega (arith, q, small)),
        ap (λ ws. get_or ws i 0) m.block.registers ∙ each_same 1 m.sites i (omega (arith, lt, count)),
      )

  mark_of_ready : (n k j : ℕ) (a : Operand (Name Part)) → k ≤ commit_of l → IsMarkOf l k j a → IsReady d n a
  mark_of_ready n k j a q (Unread none e) = subst (IsReady d n) (sym e) tt
  mark_of_ready n k j a q (Read i lt is e) = subst (IsReady d n) (sym e) (mark_ready n k i q lt)

  before_is_ready : (n k j : ℕ) (a : Operand (Name Part)) → k ≤ commit_of l → IsMarkBefore l j k a → IsReady d n a
  before_is_ready n zero j a q e = subst (IsReady d n) (sym e) tt
  before_is_ready n (suc k) j a q h = mark_of_ready n k j a (omega (arith, q)) h

  -- ---- changes
  module _ (n : ℕ) (late : behind_maps l.sizes < n) (m : ℕ) (there : m < length l.decls) where
    given : AreReady d n (change_given (l.changes m).slot (l.changes m).key (l.changes m).presence (l.changes m).any (l.changes m).by_host)
    given = let h = number_within l d parts m there in change_ready l d parts m there n (omega (arith, h, late))

    slot_given : IsReady d n (l.changes m).slot
    slot_given = given (l.changes m).slot (0, omega arith, refl)

    presence_given : IsReady d n (l.changes m).presence
    presence_given = given (l.changes m).presence (1, omega arith, refl)

    key_given : AreReady d n (l.changes m).key
    key_given a (k, lt, e) = given a (suc (suc (suc (suc k))), omega (arith, lt), e)

    comes_given : (k : ℕ) → IsReady d n (Net (comes_by l k m) 1)
    comes_given k = by (k == commit_of l)
      where
        by : (b : Bool) → IsReady d n (Net (if b then (l.changes m).by_host else (l.changes m).any) 1)
        by true = given (Net (l.changes m).by_host 1) (3, omega arith, refl)
        by false = given (Net (l.changes m).any 1) (2, omega arith, refl)

  module _ (n : ℕ) (late : behind_maps l.sizes < n) (k : ℕ) (q : k ≤ commit_of l) where
    inside : k ≤ last_of l
    inside = let c = commit_within l d parts in omega (arith, q, c)

    key_ready : (s : SiteOperands (Name Part)) → AreReady d n (all_of s) → AreReady d n s.key
    key_ready s h a c = let x = Contains-append_left s.key s.operands a c in let lt = x.1 in h a (suc (suc (suc (suc x.0))), omega (arith, lt), x.2)

    owns_ready : (os : List (OwnKey (Name Part))) → All (IsOwnAt l k) os → AreReady d n (own_operands os)
    owns_ready [] h = ready_none d n
    owns_ready (o ∷ os) h =
        let x = All-head (IsOwnAt l k) o os h in
        ready_append d n o.key.now (own_operands os) (subst (AreReady d n) (sym x.key) (key_ready x.nets (site_ready l d parts k inside n o.site x.nets x.at))) (owns_ready os (All-tail (IsOwnAt l k) o os h))

    site_known : (i : ℕ) → i < length (read_sites l k) → slice_index (read_sites l k) i < length (program_of l).sites
    site_known i lt = sites_below (has_read (program_of l) l.build.plan.row k) (length (program_of l).sites) i 0 lt

    mark_site_ready : (i : ℕ) (m : MarkSite (Name Part)) → i < length (read_sites l k) → IsMarkAt l k i m → AreReady d n (site_operands m)
    mark_site_ready i m lt is =
        let known : m.site < length (program_of l).sites = subst (λ j. j < length (program_of l).sites) (sym is.site) (site_known i lt) in
        let map = (site_at (program_of l).sites m.site).map in
        let there = map_within l d parts m.site known in
        let front = m.was ∷ m.before ∷ m.comes ∷ [] in
        let change = m.change.slot ∷ m.change.presence ∷ [] in
        ready_append d n front (read_operands m)
        (ready_list d n front (subst (IsReady d n) (sym is.was) (mark_ready n k i q lt), (before_is_ready n k m.site m.before q is.before, (subst (IsReady d n) (sym is.comes) (comes_given n late map there k), tt))))
        (ready_append d n (all_of (operands_of m.nets.now)) (change_operands m.change ++ own_operands m.owns.now) (site_ready l d parts k inside n m.site (operands_of m.nets.now) is.nets)
        (ready_append d n (change_operands m.change) (own_operands m.owns.now)
        (ready_append d n change m.change.key.now
        (ready_list d n change (subst (IsReady d n) (sym is.slot) (slot_given n late map there), (subst (IsReady d n) (sym is.presence) (presence_given n late map there), tt)))
        (subst (AreReady d n) (sym is.key) (key_given n late map there)))
        (owns_ready m.owns.now is.owns)))

    marks_from : (at : ℕ) (ms : List (MarkSite (Name Part))) → at + length ms ≤ length (read_sites l k) → ((i : ℕ) (m : MarkSite (Name Part)) → i < length ms → IsMarkAt l k (at + i) (get_or ms i m)) → AreReady d n (all_operands ms)
    marks_from at [] few h = ready_none d n
    marks_from at (m ∷ ms) few h =
        let z : at + 0 ≡ at = omega arith in
        ready_append d n (site_operands m) (all_operands ms) (mark_site_ready at m (omega (arith, few)) (subst (λ i. IsMarkAt l k i m) z (h 0 m (omega arith))))
        (marks_from (suc at) ms (omega (arith, few)) (λ i e lt. let y : at + suc i ≡ suc at + i = omega arith in subst (λ j. IsMarkAt l k j (get_or ms i e)) y (h (suc i) e (omega (arith, lt)))))

    pub marks_ready : AreReady d n (outside (advances l) (parts.marks k q).sites)
    marks_ready =
        let m = parts.marks k q in
        let count = m.count in
        ready_cons d n (Net (advances l) 1) (all_operands m.sites) (told_ready l d parts n late 3 (omega arith))
        (marks_from 0 m.sites (omega (arith, count)) (λ i e lt. let z : 0 + i ≡ i = omega arith in subst (λ j. IsMarkAt l k j (get_or m.sites i e)) (sym z) (m.each i e lt)))

  -- ---- which packets must reload
  module _ (n k : ℕ) (q : k ≤ commit_of l) where
    reload_at : k ≤ last_of l
    reload_at = let c = commit_within l d parts in omega (arith, q, c)

    guard_ready : (i : ℕ) (guard : Option (Operand (Name Part))) → ((g : Operand (Name Part)) → guard ≡ Some g → AreReady d n (g ∷ [])) → AreReady d n (guard_operands guard)
    guard_ready i None h = ready_none d n
    guard_ready i (Some g) h = h g refl

    reloads_from : (at : ℕ) (ms : List (MarkNets (Name Part))) → at + length ms ≤ length (read_sites l k) → ((i : ℕ) (m : MarkNets (Name Part)) → i < length ms → IsMarkNets l k (at + i) (get_or ms i m)) → AreReady d n (mark_operands ms)
    reloads_from at [] few h = ready_none d n
    reloads_from at (m ∷ ms) few h =
        let z : at + 0 ≡ at = omega arith in
        let is = subst (λ i. IsMarkNets l k i m) z (h 0 m (omega arith)) in
        ready_cons d n m.marked (guard_operands m.guard ++ mark_operands ms) (subst (IsReady d n) (sym is.marked) (mark_ready n k at q (omega (arith, few))))
        (ready_append d n (guard_operands m.guard) (mark_operands ms)
        (guard_ready at m.guard (λ g e. let x = is.guard g e in ready_cons d n g [] (subst (IsReady d n) (sym x.2) (site_ready l d parts k reload_at n (slice_index (read_sites l k) at) x.0 x.1 x.0.guard (0, omega arith, refl))) (ready_none d n)))
        (reloads_from (suc at) ms (omega (arith, few)) (λ i e lt. let y : at + suc i ≡ suc at + i = omega arith in subst (λ j. IsMarkNets l k j (get_or ms i e)) y (h (suc i) e (omega (arith, lt))))))

    pub reloads_ready : AreReady d n (mark_operands (parts.marks k q).reloads)
    reloads_ready =
        let m = parts.marks k q in
        let count = m.known.count in
        reloads_from 0 m.reloads (omega (arith, count)) (λ i e lt. let z : 0 + i ≡ i = omega arith in subst (λ j. IsMarkNets l k j (get_or m.reloads i e)) (sym z) (m.nets i e lt))
