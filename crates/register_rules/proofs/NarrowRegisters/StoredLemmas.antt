-- What designs of narrower registers store.
use Rattle.std.specs.Prelude.{◌≡◌, ◌==◌, Bool, true, false, if◌then◌else◌, List, [], ◌∷◌, ◌++◌, map as map_list}
use Rattle.std.proofs.Common.{refl, sym, ap, ◌∙◌, subst}
use Rattle.net_core.specs.declared.tree.Word.{Word}
use Rattle.net_core.specs.declared.tree.Net.{Net}
use Rattle.net_core.specs.declared.tree.Stmt.{Stmt}
use Rattle.net_core.specs.Nets.{StatementTree, StatementTrees, SEnd, SThen}
use Rattle.net_core.specs.View.{statement_of}
use Rattle.net_core.specs.Chains.{statements_before}
use Rattle.net_core.specs.Value.{Env}
use Rattle.net_core.specs.Clock.{Stored, done, all_done, edge}
use Rattle.register_rules.specs.declared.narrow_registers.codes.Code.{Code}
use Rattle.register_rules.specs.NarrowRegisters.Narrow.{Coding, IsNarrowed, IsSameStatement}

-- one of two ways
pub either_narrowed : (codes : List Code) (c d : Word) (p q x y : Stored) → c ≡ d → IsNarrowed codes p x → IsNarrowed codes q y
    → IsNarrowed codes (if c.value == 0 then p else q) (if d.value == 0 then x else y)
either_narrowed codes c d p q x y e f g =
    let by_test : (t : Bool) → IsNarrowed codes (if t then p else q) (if t then x else y) = λ (t : Bool). elim t as (λ t. IsNarrowed codes (if t then p else q) (if t then x else y)) [ true ↦ f | false ↦ g ] in
    subst (λ (w : Word). IsNarrowed codes (if c.value == 0 then p else q) (if w.value == 0 then x else y)) e (by_test (c.value == 0))

-- ---- statements in a row
edge_one_more : (t : Env Net) (xs : List (Stmt Net)) (x : Stmt Net) (s : Stored) → edge t (map_list statement_of (xs ++ x ∷ [])) s ≡ done t (statement_of x) (edge t (map_list statement_of xs) s)
edge_one_more t [] x s = refl
edge_one_more t (y ∷ xs) x s = edge_one_more t xs x (done t (statement_of y) s)

pub all_done_before : (t : Env Net) (xs : List (StatementTree Net)) (s : Stored) → all_done t (statements_before xs SEnd) s ≡ edge t xs s
all_done_before t [] s = refl
all_done_before t (x ∷ xs) s = all_done_before t xs (done t x s)

-- one statement more
pub statements_step : (codes : List Code) (v t : Env Net) (old new : List (Stmt Net)) (x : Stmt Net) (next : StatementTree Net) (left rest : StatementTrees Net) (s whole : Stored)
    → new ≡ old ++ x ∷ [] → ((p q : Stored) → IsNarrowed codes p q → IsNarrowed codes (done v next p) (done t (statement_of x) q)) → left ≡ SThen next rest
    → (now : Stored) × (all_done v left now ≡ whole) × IsNarrowed codes now (edge t (map_list statement_of old) s)
    → (now : Stored) × (all_done v rest now ≡ whole) × IsNarrowed codes now (edge t (map_list statement_of new) s)
statements_step codes v t old new x next left rest s whole e h is (now, all, narrowed) = (
  done v next now,
  sym (ap (λ (l : StatementTrees Net). all_done v l now) is) ∙ all,
  subst (λ (z : Stored). IsNarrowed codes (done v next now) z) (sym (ap (λ xs. edge t (map_list statement_of xs) s) e ∙ edge_one_more t old x s)) (h now (edge t (map_list statement_of old) s) narrowed),
)

-- no statement more
pub statements_end : (codes : List Code) (v t : Env Net) (left made : StatementTrees Net) (ts : List (StatementTree Net)) (s whole : Stored) → left ≡ SEnd → made ≡ statements_before ts SEnd
    → (now : Stored) × (all_done v left now ≡ whole) × IsNarrowed codes now (edge t ts s) → IsNarrowed codes whole (all_done t made s)
statements_end codes v t left made ts s whole is e (now, all, narrowed) =
    subst (λ (x : Stored). IsNarrowed codes x (all_done t made s)) (sym (ap (λ (l : StatementTrees Net). all_done v l now) is) ∙ all)
    (subst (λ (z : Stored). IsNarrowed codes now z) (sym (ap (λ (l : StatementTrees Net). all_done t l s) e ∙ all_done_before t ts s)) narrowed)

-- statements of these trees
pub of_trees : (codes : Coding) (a c b d : StatementTree Net) → a ≡ c → b ≡ d → IsSameStatement codes c d → IsSameStatement codes a b
of_trees codes a c b d p q h = subst (λ x. IsSameStatement codes x b) (sym p) (subst (λ y. IsSameStatement codes c y) (sym q) h)
