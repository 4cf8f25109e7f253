-- Lists of stores, one after another.
use Rattle.std.specs.Prelude.{◌≡◌, ℕ, suc, ◌+◌, List, [], ◌∷◌, ◌++◌, length}
use Rattle.std.proofs.Common.{sym, ap, ◌∙◌, arith}
use Rattle.frame_net.specs.Stores.{Store, store_statement, store_statements}

-- stores after others stand in the memories after theirs
pub statements_append : {N : Type 0} (at : ℕ) (xs ys : List (Store N)) → store_statements at (xs ++ ys) ≡ store_statements at xs ++ store_statements (at + length xs) ys
statements_append at [] ys = let z : at ≡ at + 0 = omega arith in ap (λ k. store_statements k ys) z
statements_append at (x ∷ xs) ys = let z : suc at + length xs ≡ at + suc (length xs) = omega arith in ap (λ l. store_statement at x ∷ l) (statements_append (suc at) xs ys ∙ ap (λ k. store_statements (suc at) xs ++ store_statements k ys) z)

pub laid : {N : Type 0} (first n : ℕ) (ks vs : List (Store N)) → length ks ≡ n → first ≡ suc n → store_statements 1 ks ++ store_statements first vs ≡ store_statements 1 (ks ++ vs)
laid first n ks vs e f = let z : first ≡ 1 + length ks = omega (arith, e, f) in ap (λ k. store_statements 1 ks ++ store_statements k vs) z ∙ sym (statements_append 1 ks vs)
