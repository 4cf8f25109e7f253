-- A linked design has its products apart where its blocks have.
use Rattle.std.specs.Prelude.{◌≡◌, ℕ, suc, ◌+◌, Bool, true, false, List, [], ◌∷◌, ◌++◌, length, map}
use Rattle.std.proofs.Common.{refl, sym, ap, ◌∙◌, arith, get_or, append_assoc, length-append, subst, inl, inr}
use Rattle.std.proofs.lemmas.Bool.{and_parts, and_from, cases_lt}
use Rattle.std.proofs.lemmas.List.{get_or_append_left, get_or_at, get_or_past}
use Rattle.net_core.specs.Nets.{WireTree}
use Rattle.net_core.specs.ProductRules.Products.{made_by_product, right_product, is_flat, wire_products, wires_flat, assigns_flat, always_flat}
use Rattle.block_core.specs.declared.name.Name.{Name}
use Rattle.block_core.specs.declared.name.Name.TheVariants as name
use Rattle.block_core.specs.Rename.{rename_right}
use Rattle.block_core.specs.Blocks.{BlockWireTree, OutputTree, registers_of, memories_of, wires_of, Whole, IsPlaced, Among, gather, start}
use Rattle.block_core.specs.Link.{resolve, link_wires, link_output, all_wires, all_statements}
use Rattle.block_core.specs.Order.{IsBefore, InOrder, AllInOrder}
use Rattle.block_core.specs.Formed.{IsThere, StatementReads, OutputsRead}
use Rattle.block_core.proofs.GatheredLaws.{runs, get_gather}
use Rattle.block_core.specs.ProductBlocks.Apart.{is_marked, AreMarked, IsApart, outputs_flat, LinkedHasNoProductChains}
use Rattle.block_core.proofs.ProductBlocks.Renamed.{flat_still, right_less, right_still, statement_still}

-- ---- marks that were found, beside those that were given for all wires
-- no wire is found to be made by a product that has no mark
abbrev Covers : List Bool → List Bool → Type 0
Covers g found = (k : ℕ) → get_or g k true ≡ false → get_or found k false ≡ false

covers_next : (g found : List Bool) (x : Bool) → Covers g found → (get_or g (length found) true ≡ false → x ≡ false) → Covers g (found ++ x ∷ [])
covers_next g found x h last k e = elim (cases_lt k (length found)) [
  | inl below ↦ get_or_append_left found (x ∷ []) false k below ∙ h k e
  | inr past ↦ elim (cases_lt (length found) k) [
    | inl beyond ↦ get_or_past (found ++ x ∷ []) k false (omega (arith, length-append found (x ∷ []), beyond))
    | inr not_beyond ↦
        let same : k ≡ length found = omega (arith, past, not_beyond) in
        get_or_at found x [] false k (sym same) ∙ last (subst (λ n. get_or g n true ≡ false) same e)
  ]
]

-- what is found of wires, after marks that were found before
record Walked (g found : List Bool) (ws : List WireTree) : Type 0 where
  flat : wires_flat found ws ≡ true
  covered : Covers g (wire_products found ws)

marked_length : {N : Type 0} (made : N → Bool) (own : List Bool) (ws : List (BlockWireTree N)) → AreMarked made own ws → length own ≡ length ws
marked_length made [] [] h = refl
marked_length made (m ∷ own) (w ∷ ws) h = ap (λ (n : ℕ). suc n) (marked_length made own ws h.2)
marked_length made [] (w ∷ ws) h = absurd h
marked_length made (m ∷ own) [] h = absurd h

module _ {P : Type 0} (d : Whole P) (placed : IsPlaced d) (marks : P → List Bool) (blocks : (p : P) → Among p d.parts → IsApart (is_marked marks) (marks p) (d.block p)) where
  abbrev all_marks : List Bool
  all_marks = gather marks d.parts

  -- what has no mark is not found to be made by a product
  unmarked : (found : List Bool) → Covers all_marks found → (n : Name P) → IsThere d n → is_marked marks n ≡ false → made_by_product found (resolve d n) ≡ false
  unmarked found h (name.Port i) a e = refl
  unmarked found h (name.Register q i) a e = refl
  unmarked found h (name.Memory q i) a e = refl
  unmarked found h (name.Wire q i) a e = elim (cases_lt i (length (marks q))) [
    | inl below ↦ h (start wires_of d q + i) (
        get_gather marks (λ p. wires_of (d.block p)) (start wires_of d) [] 0 d.parts refl (runs wires_of d placed)
        (λ p b. marked_length (is_marked marks) (marks p) (d.block p).wires (blocks p b).wires) q i true a below ∙ e)
    | inr past ↦ let x = get_or_past (marks q) i true past in cc
  ]

  -- the wires of a part, from one on, and what comes after them
  one_part : (before : List P) (p : P) → ((at : ℕ) (n : Name P) → IsBefore d before p at n → IsThere d n)
      → (front own more : List Bool) (at : ℕ) (found : List Bool) (xs : List (BlockWireTree (Name P))) (rest : List WireTree)
      → all_marks ≡ front ++ (own ++ more) → length front ≡ length found → Covers all_marks found → InOrder d before p at xs → AreMarked (is_marked marks) own xs
      → ((front found : List Bool) → all_marks ≡ front ++ more → length front ≡ length found → Covers all_marks found → Walked all_marks found rest)
      → Walked all_marks found (link_wires (resolve d) xs ++ rest)
  one_part before p there front [] more at found [] rest g l h o a behind = behind front found g l h
  one_part before p there front [] more at found (x ∷ xs) rest g l h o a behind = absurd a
  one_part before p there front (m ∷ own) more at found [] rest g l h o a behind = absurd a
  one_part before p there front (m ∷ own) more at found (x ∷ xs) rest g l h o a behind =
      let fewer = λ (n : Name P) (b : IsBefore d before p at n). unmarked found h n (there at n b) in
      let y = right_product (made_by_product found) (rename_right (resolve d) x.right) in
      let mark : get_or all_marks (length found) true ≡ m = ap (λ b. get_or b (length found) true) g ∙ get_or_at front m (own ++ more) true (length found) l in
      let covers = covers_next all_marks found y h (λ e. right_less (resolve d) (IsBefore d before p at) (is_marked marks) (made_by_product found) fewer x.right o.0 (a.0 (sym mark ∙ e))) in
      let long : length (front ++ m ∷ []) ≡ length (found ++ y ∷ []) = omega (arith, length-append front (m ∷ []), length-append found (y ∷ []), l) in
      let next = one_part before p there (front ++ m ∷ []) own more (suc at) (found ++ y ∷ []) xs rest (g ∙ sym (append_assoc front (m ∷ []) (own ++ more))) long covers o.1 a.2 behind in
      record {
        flat = and_from _ _ (right_still (resolve d) (IsBefore d before p at) (is_marked marks) (made_by_product found) fewer x.right o.0 a.1) next.flat;
        covered = next.covered;
      }

  known : (before : List P) (p : P) → ((q : P) → Among q before → Among q d.parts) → Among p d.parts → (at : ℕ) (n : Name P) → IsBefore d before p at n → IsThere d n
  known before p b a at (name.Port i) h = tt
  known before p b a at (name.Register q i) h = h
  known before p b a at (name.Memory q i) h = h
  known before p b a at (name.Wire q i) (inl h) = rw h.0 a
  known before p b a at (name.Wire q i) (inr h) = b q h.0

  parts_walked : (before ps : List P) → ((q : P) → Among q before → Among q d.parts) → ((q : P) → Among q ps → Among q d.parts) → (front found : List Bool)
      → all_marks ≡ front ++ gather marks ps → length front ≡ length found → Covers all_marks found → AllInOrder d before ps → Walked all_marks found (all_wires d ps)
  parts_walked before [] b c front found g l h o = record { flat = refl; covered = h }
  parts_walked before (p ∷ ps) b c front found g l h o =
      let a = c p (inl refl) in
      let more : (q : P) → Among q (p ∷ before) → Among q d.parts = λ q i. elim i [ inl e ↦ rw e a | inr i ↦ b q i ] in
      one_part before p (known before p b a) front (marks p) (gather marks ps) 0 found (d.block p).wires (all_wires d ps) g l h o.0 (blocks p a).wires
      (λ front found g l h. parts_walked (p ∷ before) ps more (λ q i. c q (inr i)) front found g l h o.1)

  -- ---- what is set and shown
  module _ (found : List Bool) (h : Covers all_marks found) where
    statements_apart : (ps : List P) → ((q : P) → Among q ps → Among q d.parts) → ((q : P) → Among q d.parts → StatementReads (IsThere d) (d.block q).statement) → always_flat found (all_statements d ps) ≡ true
    statements_apart [] c r = refl
    statements_apart (p ∷ ps) c r =
        let a = c p (inl refl) in
        and_from _ _ (statement_still (resolve d) (IsThere d) (is_marked marks) (made_by_product found) (unmarked found h) (start registers_of d p) (start memories_of d p) (d.block p).statement (r p a) (blocks p a).statement)
        (statements_apart ps (λ q i. c q (inr i)) r)

    outputs_apart : (os : List (OutputTree (Name P))) → OutputsRead (IsThere d) os → outputs_flat (is_marked marks) os ≡ true → assigns_flat found (map (link_output (resolve d)) os) ≡ true
    outputs_apart [] r e = refl
    outputs_apart (o ∷ os) r e =
        let x = and_parts (is_flat (is_marked marks) o.value) (outputs_flat (is_marked marks) os) e in
        and_from _ _ (flat_still (resolve d) (IsThere d) (is_marked marks) (made_by_product found) (unmarked found h) o.value r.0 x.0) (outputs_apart os r.1 x.1)

pub linked_has_no_product_chains : (P : Type 0) → LinkedHasNoProductChains P
linked_has_no_product_chains P d names ports outputs f a =
    let all = gather a.marks d.parts in
    let walked = parts_walked d f.placed a.marks a.blocks [] d.parts (λ q i. absurd i) (λ q i. i) [] [] refl refl (λ k e. refl) f.ordered in
    let found = wire_products [] (all_wires d d.parts) in
    and_from _ _ walked.flat
    (and_from _ _ (outputs_apart d f.placed a.marks a.blocks found walked.covered outputs f.shows a.shows)
    (statements_apart d f.placed a.marks a.blocks found walked.covered d.parts (λ q i. i) f.statements))
