-- Other names for nets change nothing of how a tree is spelled.
use Rattle.std.specs.Prelude.{◌≡◌, ℕ, zero, suc, ◌<◌, nat_le, max, Bool, true, ◌&&◌, List, [], ◌∷◌, length}
use Rattle.std.specs.List.{list_all}
use Rattle.std.proofs.Common.{get_or, not, refl, ap, ◌∙◌, arith, inl, inr}
use Rattle.std.proofs.lemmas.Bool.{and_parts, and_from}
use Rattle.std.proofs.lemmas.List.Folds.{list_all-append}
use Rattle.net_core.specs.Nets.{Tree, TConst, TRead, TBit, TPartSelect, TMemoryWord, TUnary, TBinary, TConditional, TConcatenation, Trees, TLast, TMore, RightTree, RPlain, RQuotient, RRemainder, StatementTree, SBlock, SIf, SIfElse, SSet, SStore, StatementTrees, SEnd, SThen, WireTree}
use Rattle.net_core.specs.declared.tree.Net.{Net}
use Rattle.design_rules.specs.FormedSyntax.{depth, parts_depth, is_prefixed, prefixes_apart, parts_apart, tree_spelled, right_spelled, statement_depth, statements_depth, ends_open, elses_placed, all_placed, trees_pass, all_trees_pass, statement_spelled}
use Rattle.block_core.specs.Rename.{rename, rename_parts, rename_right, rename_statement, rename_statements}
use Rattle.block_core.specs.Blocks.{BlockWireTree, Whole, Among}
use Rattle.block_core.specs.Link.{resolve, link_wires, all_wires}
use Rattle.block_core.specs.BlockForms.WellFormed.{wire_spelled}

module _ {M N : Type 0} (f : M → N) where
  mutual
    same_depth : (e : Tree M) → depth (rename f e) ≡ depth e
    same_depth (TConst w) = refl
    same_depth (TRead n) = refl
    same_depth (TBit n i) = refl
    same_depth (TPartSelect n hi lo) = refl
    same_depth (TMemoryWord m i) = ap (λ (k : ℕ). suc k) (same_depth i)
    same_depth (TUnary p a) = ap (λ (k : ℕ). suc k) (same_depth a)
    same_depth (TBinary op a b) = λ i. suc (max (same_depth a i) (same_depth b i))
    same_depth (TConditional c a b) = λ i. suc (max (same_depth c i) (max (same_depth a i) (same_depth b i)))
    same_depth (TConcatenation ps) = ap (λ (k : ℕ). suc k) (same_parts_depth ps)

    same_parts_depth : (ps : Trees M) → parts_depth (rename_parts f ps) ≡ parts_depth ps
    same_parts_depth (TLast a) = same_depth a
    same_parts_depth (TMore a ps) = λ i. max (same_depth a i) (same_parts_depth ps i)

  same_prefix : (e : Tree M) → is_prefixed (rename f e) ≡ is_prefixed e
  same_prefix (TConst w) = refl
  same_prefix (TRead n) = refl
  same_prefix (TBit n i) = refl
  same_prefix (TPartSelect n hi lo) = refl
  same_prefix (TMemoryWord m i) = refl
  same_prefix (TUnary p a) = refl
  same_prefix (TBinary op a b) = refl
  same_prefix (TConditional c a b) = refl
  same_prefix (TConcatenation ps) = refl

  mutual
    same_apart : (e : Tree M) → prefixes_apart (rename f e) ≡ prefixes_apart e
    same_apart (TConst w) = refl
    same_apart (TRead n) = refl
    same_apart (TBit n i) = refl
    same_apart (TPartSelect n hi lo) = refl
    same_apart (TMemoryWord m i) = same_apart i
    same_apart (TUnary p a) = λ i. not (same_prefix a i) && same_apart a i
    same_apart (TBinary op a b) = λ i. same_apart a i && same_apart b i
    same_apart (TConditional c a b) = λ i. same_apart c i && (same_apart a i && same_apart b i)
    same_apart (TConcatenation ps) = same_parts_apart ps

    same_parts_apart : (ps : Trees M) → parts_apart (rename_parts f ps) ≡ parts_apart ps
    same_parts_apart (TLast a) = same_apart a
    same_parts_apart (TMore a ps) = λ i. same_apart a i && same_parts_apart ps i

  pub same_tree : (e : Tree M) → tree_spelled (rename f e) ≡ tree_spelled e
  same_tree e = λ i. nat_le (same_depth e i) 64 && same_apart e i

  pub same_right : (r : RightTree M) → right_spelled (rename_right f r) ≡ right_spelled r
  same_right (RPlain e) = same_tree e
  same_right (RQuotient a b) = refl
  same_right (RRemainder a b) = refl

  module _ (r m : ℕ) where
    mutual
      same_statement_depth : (a : StatementTree M) → statement_depth (rename_statement f r m a) ≡ statement_depth a
      same_statement_depth (SBlock more) = ap (λ (k : ℕ). suc k) (same_statements_depth more)
      same_statement_depth (SIf c a) = ap (λ (k : ℕ). suc k) (same_statement_depth a)
      same_statement_depth (SIfElse c a b) = λ i. suc (max (same_statement_depth a i) (same_statement_depth b i))
      same_statement_depth (SSet k e) = refl
      same_statement_depth (SStore k j e) = refl

      same_statements_depth : (a : StatementTrees M) → statements_depth (rename_statements f r m a) ≡ statements_depth a
      same_statements_depth SEnd = refl
      same_statements_depth (SThen a more) = λ i. max (same_statement_depth a i) (same_statements_depth more i)

    same_open : (a : StatementTree M) → ends_open (rename_statement f r m a) ≡ ends_open a
    same_open (SBlock more) = refl
    same_open (SIf c a) = refl
    same_open (SIfElse c a b) = same_open b
    same_open (SSet k e) = refl
    same_open (SStore k j e) = refl

    mutual
      same_placed : (a : StatementTree M) → elses_placed (rename_statement f r m a) ≡ elses_placed a
      same_placed (SBlock more) = same_all_placed more
      same_placed (SIf c a) = same_placed a
      same_placed (SIfElse c a b) = λ i. not (same_open a i) && (same_placed a i && same_placed b i)
      same_placed (SSet k e) = refl
      same_placed (SStore k j e) = refl

      same_all_placed : (a : StatementTrees M) → all_placed (rename_statements f r m a) ≡ all_placed a
      same_all_placed SEnd = refl
      same_all_placed (SThen a more) = λ i. same_placed a i && same_all_placed more i

    mutual
      same_pass : (a : StatementTree M) → trees_pass tree_spelled (rename_statement f r m a) ≡ trees_pass tree_spelled a
      same_pass (SBlock more) = same_all_pass more
      same_pass (SIf c a) = λ i. same_tree c i && same_pass a i
      same_pass (SIfElse c a b) = λ i. same_tree c i && (same_pass a i && same_pass b i)
      same_pass (SSet k e) = same_tree e
      same_pass (SStore k j e) = λ i. same_tree j i && same_tree e i

      same_all_pass : (a : StatementTrees M) → all_trees_pass tree_spelled (rename_statements f r m a) ≡ all_trees_pass tree_spelled a
      same_all_pass SEnd = refl
      same_all_pass (SThen a more) = λ i. same_pass a i && same_all_pass more i

    pub same_statement : (a : StatementTree M) → statement_spelled (rename_statement f r m a) ≡ statement_spelled a
    same_statement a = λ i. nat_le (same_statement_depth a i) 64 && (same_placed a i && same_pass a i)

-- ---- lists of these
pub passes_at : {A : Type 0} (t : A → Bool) (xs : List A) → list_all t xs ≡ true → (i : ℕ) (x : A) → i < length xs → x ≡ get_or xs i x → t x ≡ true
passes_at t [] h i x l e = absurd (omega arith)
passes_at t (y ∷ xs) h zero x l e = ap t e ∙ (and_parts (t y) (list_all t xs) h).0
passes_at t (y ∷ xs) h (suc i) x l e = passes_at t xs (and_parts (t y) (list_all t xs) h).1 i x (omega arith) e

abbrev pub tree_passes : WireTree → Bool
tree_passes w = right_spelled w.right

wires_pass : {N : Type 0} (f : N → Net) (ws : List (BlockWireTree N)) → list_all wire_spelled ws ≡ true → list_all tree_passes (link_wires f ws) ≡ true
wires_pass f [] h = refl
wires_pass f (w ∷ ws) h =
    let p = and_parts (wire_spelled w) (list_all wire_spelled ws) h in
    and_from (right_spelled (rename_right f w.right)) (list_all tree_passes (link_wires f ws)) (same_right f w.right ∙ p.0) (wires_pass f ws p.1)

pub all_wires_pass : {P : Type 0} (d : Whole P) (ps : List P) → ((p : P) → Among p ps → list_all wire_spelled (d.block p).wires ≡ true) → list_all tree_passes (all_wires d ps) ≡ true
all_wires_pass d [] h = refl
all_wires_pass d (p ∷ ps) h =
    list_all-append tree_passes (link_wires (resolve d) (d.block p).wires) (all_wires d ps)
    ∙ and_from (list_all tree_passes (link_wires (resolve d) (d.block p).wires)) (list_all tree_passes (all_wires d ps)) (wires_pass (resolve d) (d.block p).wires (h p (inl refl))) (all_wires_pass d ps (λ q a. h q (inr a)))
