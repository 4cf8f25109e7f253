-- A design has its products apart where each of its blocks has, by itself.
use Rattle.std.specs.Prelude.{◌≡◌, ℕ, suc, Bool, true, List, [], ◌∷◌, ◌++◌, length}
use Rattle.std.proofs.Common.{refl, sym, ap, ◌∙◌, arith, get_or, append_assoc, length-append, subst, inl, inr}
use Rattle.std.proofs.lemmas.List.{get_or_at}
use Rattle.block_core.specs.declared.name.Name.{Name}
use Rattle.block_core.specs.Blocks.{BlockTree, OutputTree, Whole, IsPlaced, PlacedFrom, Among}
use Rattle.block_core.specs.ProductBlocks.Apart.{is_marked, IsApart, outputs_flat, HasNoProductChains}
use Rattle.block_core.specs.ProductBlocks.Alone.{IsApartAlone, IsFree}
use Rattle.block_core.proofs.ProductBlocks.FreeLaws.{all_marked, free_is_apart}

pub free_alone : {P : Type 0} (p : P) (b : BlockTree (Name P)) → IsFree b → IsApartAlone p b
free_alone p b f = record { marks = all_marked b.wires; apart = λ all e. free_is_apart b f (is_marked all) }

module _ {P : Type 0} (d : Whole P) where
  -- the marks of parts, one after another
  abbrev marks_of : (ps : List P) → ((p : P) → Among p ps → IsApartAlone p (d.block p)) → List (List Bool)
  marks_of [] h = []
  marks_of (p ∷ ps) h = (h p (inl refl)).marks ∷ marks_of ps (λ q a. h q (inr a))

  module _ (every : List (List Bool)) where
    abbrev marks_in : P → List Bool
    marks_in p = get_or every (d.place p) []

    each_apart : (front : List (List Bool)) (at : ℕ) (ps : List P) (h : (p : P) → Among p ps → IsApartAlone p (d.block p)) → every ≡ front ++ marks_of ps h → length front ≡ at → PlacedFrom d.place at ps
        → (p : P) → Among p ps → IsApart (is_marked marks_in) (marks_in p) (d.block p)
    each_apart front at [] h e l s p a = absurd a
    each_apart front at (q ∷ ps) h e l s p (inl i) =
        let one = h q (inl refl) in
        let own : marks_in q ≡ one.marks = ap (λ ms. get_or ms (d.place q) []) e ∙ get_or_at front one.marks (marks_of ps (λ q a. h q (inr a))) [] (d.place q) (l ∙ sym s.0) in
        rw i (subst (λ m. IsApart (is_marked marks_in) m (d.block q)) (sym own) (one.apart marks_in own))
    each_apart front at (q ∷ ps) h e l s p (inr a) =
        let one = h q (inl refl) in
        each_apart (front ++ one.marks ∷ []) (suc at) ps (λ q a. h q (inr a)) (e ∙ sym (append_assoc front (one.marks ∷ []) (marks_of ps (λ q a. h q (inr a))))) (length-append front (one.marks ∷ []) ∙ omega (arith, l)) s.1 p a

pub alone_apart : {P : Type 0} (d : Whole P) (outputs : List (OutputTree (Name P))) → IsPlaced d → ((p : P) → Among p d.parts → IsApartAlone p (d.block p)) → ((made : Name P → Bool) → outputs_flat made outputs ≡ true) → HasNoProductChains d outputs
alone_apart d outputs placed h shows =
    let every = marks_of d d.parts h in
    record { marks = marks_in d every; blocks = each_apart d every [] 0 d.parts h refl refl placed.placed; shows = shows (is_marked (marks_in d every)) }
