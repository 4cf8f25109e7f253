-- Reading functions that look no further than what they take and what their faults depend on, and how they are put together.
use Rattle.std.proofs.Common.{◌≡◌, ◌≢◌, ℕ, suc, ◌+◌, ◌≤◌, Ok, Err, List, [], ◌∷◌, ◌++◌, length, length-append, refl, ap, subst, arith}
use Rattle.verilog_lex.specs.Lexeme.{Lexeme}
use Rattle.verilog_expression.specs.declared.fault.Code.{Code}
use Rattle.verilog_expression.specs.Reads.{Read, ◌>>=◌, fault}
use Rattle.verilog_read.specs.VerilogFaults.Faults.{lexemes_behind, fault_with}

-- What was read leaves at most so many lexemes; a fault's own, and those after on which it depends, begin at most so far in front.
abbrev pub Within : {A : Type 0} → ℕ → ℕ → Read A → Type 0
Within j k (Ok x) = length x.1 ≤ j
Within j k (Err f) = f.left ≤ lexemes_behind f.code + k

pub within_more : {A : Type 0} (j k m n : ℕ) (x : Read A) → j ≤ m → k ≤ n → Within j k x → Within m n x
within_more j k m n (Ok x) p q h = omega arith
within_more j k m n (Err f) p q h = omega arith

pub bind_within : {A B : Type 0} (j k : ℕ) (x : Read A) (g : A × List Lexeme → Read B) → j ≤ k → Within j k x → ((v : A) (l : List Lexeme) → length l ≤ j → Within j j (g (v, l))) → Within j k (x >>= g)
bind_within j k (Ok x) g p h f = within_more j j j k (g x) (omega arith) p (f x.0 x.1 h)
bind_within j k (Err e) g p h f = h

-- Two readings, of lexemes with these ends: both give the same and leave the same in front of the ends, or both have the same
-- fault in front of the ends, or the first goes on into its end.
pub data Follows {A : Type 0} (r u : List Lexeme) (x y : Read A) : Type 0 where
  Gives : (v : A) (b : List Lexeme) → x ≡ Ok (v, b ++ r) → y ≡ Ok (v, b ++ u) → Follows r u x y
  Fails : (c : Code) (n : ℕ) → x ≡ Err (fault_with c (n + length r)) → y ≡ Err (fault_with c (n + length u)) → Follows r u x y
  Goes : Within (length r) (length r) x → Follows r u x y

pub bind_follows : {A B : Type 0} (r u : List Lexeme) (x y : Read A) (g h : A × List Lexeme → Read B) → Follows r u x y
    → ((v : A) (b : List Lexeme) → x ≡ Ok (v, b ++ r) → y ≡ Ok (v, b ++ u) → Follows r u (g (v, b ++ r)) (h (v, b ++ u)))
    → ((v : A) (l : List Lexeme) → length l ≤ length r → Within (length r) (length r) (g (v, l))) → Follows r u (x >>= g) (y >>= h)
bind_follows r u x y g h (Gives v b e f) k p = rw (e, f) (k v b e f)
bind_follows r u x y g h (Fails c n e f) k p = rw (e, f) (Fails c n refl refl)
bind_follows r u x y g h (Goes q) k p = Goes (bind_within (length r) (length r) x g (omega arith) q p)

-- A reading function looks no further than what it takes, and than its faults depend on. Of a function of what stands after some
-- lexemes, as `λ ts. f (t ∷ ts)`, what it leaves may begin up to j of those before, and a fault may stand up to k before.
pub record Local {A : Type 0} (j k : ℕ) (f : List Lexeme → Read A) : Type 0 where
  pub bounded : (ts : List Lexeme) → Within (j + length ts) (k + length ts) (f ts)
  pub follows : (a r u : List Lexeme) → Follows r u (f (a ++ r)) (f (a ++ u))

pub within_local : {A : Type 0} (f : List Lexeme → Read A) → Local 0 0 f → (m : ℕ) (ts : List Lexeme) → length ts ≤ m → Within m m (f ts)
within_local f F m ts h = within_more (0 + length ts) (0 + length ts) m m (f ts) (omega arith) (omega arith) (F.bounded ts)

pub raised : {A : Type 0} {f : List Lexeme → Read A} (j k : ℕ) → Local 0 0 f → Local j k f
raised {f = f} j k F = record {
  bounded = λ ts. within_more (0 + length ts) (0 + length ts) (j + length ts) (k + length ts) (f ts) (omega arith) (omega arith) (F.bounded ts);
  follows = F.follows;
}

-- the same function, told of the first lexeme
pub from_head : {A : Type 0} {f : List Lexeme → Read A} → Local 0 0 f → (t : Lexeme) → Local 1 1 (λ ts. f (t ∷ ts))
from_head {f = f} F t = record {
  bounded = λ ts. within_more (0 + length (t ∷ ts)) (0 + length (t ∷ ts)) (1 + length ts) (1 + length ts) (f (t ∷ ts)) (omega arith) (omega arith) (F.bounded (t ∷ ts));
  follows = λ a r u. F.follows (t ∷ a) r u;
}

pub loose : {A : Type 0} {f : List Lexeme → Read A} → Local 0 1 f → Local 1 1 f
loose {f = f} F = record {
  bounded = λ ts. within_more (0 + length ts) (1 + length ts) (1 + length ts) (1 + length ts) (f ts) (omega arith) (omega arith) (F.bounded ts);
  follows = F.follows;
}

-- a function by the first lexeme
pub by_heads : {A : Type 0} (f : List Lexeme → Read A) → Within 0 0 (f []) → ((t : Lexeme) → Local 1 1 (λ ts. f (t ∷ ts))) → Local 0 0 f
by_heads f n h = record { bounded = bounds; follows = ends }
  where
    bounds : (ts : List Lexeme) → Within (0 + length ts) (0 + length ts) (f ts)
    bounds [] = n
    bounds (t ∷ ts) = within_more (1 + length ts) (1 + length ts) (0 + length (t ∷ ts)) (0 + length (t ∷ ts)) (f (t ∷ ts)) (omega arith) (omega arith) ((h t).bounded ts)

    ends : (a r u : List Lexeme) → Follows r u (f (a ++ r)) (f (a ++ u))
    ends [] r u = Goes (within_more (0 + length r) (0 + length r) (length r) (length r) (f r) (omega arith) (omega arith) (bounds r))
    ends (t ∷ a) r u = (h t).follows a r u

-- what is read has a lexeme at least
abbrev pub IsStrict : {A : Type 0} → (List Lexeme → Read A) → Type 0
IsStrict {A = A} f = (ts : List Lexeme) (v : A) (l : List Lexeme) → f ts ≡ Ok (v, l) → suc (length l) ≤ length ts

leaves : {A : Type 0} (j k : ℕ) (x : Read A) (v : A) (l : List Lexeme) → x ≡ Ok (v, l) → Within j k x → length l ≤ j
leaves j k x v l e h = subst (Within j k) e h

pub by_strict_heads : {A : Type 0} (f : List Lexeme → Read A) → ((v : A) (l : List Lexeme) → f [] ≢ Ok (v, l)) → ((t : Lexeme) → Local 0 1 (λ ts. f (t ∷ ts))) → IsStrict f
by_strict_heads f n h [] v l e = absurd (n v l e)
by_strict_heads f n h (t ∷ ts) v l e =
    let k : length l ≤ 0 + length ts = leaves (0 + length ts) (1 + length ts) (f (t ∷ ts)) v l e ((h t).bounded ts) in
    omega arith

-- ---- parts
pub gives_local : {A : Type 0} (v : A) → Local 0 0 (λ ts. let x : Read A = Ok (v, ts) in x)
gives_local v = record { bounded = λ ts. omega arith; follows = λ a r u. Gives v a refl refl }

-- a fault at the first of some lexemes in front
pub fails_local : {A : Type 0} (front : List Lexeme) (c : Code) (j k : ℕ) → length front ≤ lexemes_behind c + k → Local j k (λ ts. let x : Read A = fault c (front ++ ts) in x)
fails_local {A = A} front c j k h = record {
  bounded = λ ts. omega (arith, length-append front ts);
  follows = λ a r u. Fails c (length (front ++ a)) (at a r) (at a u);
}
  where
    at : (a r : List Lexeme) → (let x : Read A = fault c (front ++ (a ++ r)) in x) ≡ Err (fault_with c (length (front ++ a) + length r))
    at a r =
        let q : length (front ++ (a ++ r)) ≡ length (front ++ a) + length r = omega (arith, length-append front (a ++ r), length-append a r, length-append front a) in
        ap (λ (n : ℕ). let x : Read A = Err (fault_with c n) in x) q

pub bind_local : {A B : Type 0} (f : List Lexeme → Read A) (g : A × List Lexeme → Read B) → Local 0 0 f → ((v : A) → Local 0 0 (λ ts. g (v, ts))) → Local 0 0 (λ ts. f ts >>= g)
bind_local f g F G = record {
  bounded = λ ts. bind_within (0 + length ts) (0 + length ts) (f ts) g (omega arith) (F.bounded ts) (λ v l h. within_local (λ us. g (v, us)) (G v) (0 + length ts) l h);
  follows = λ a r u. bind_follows r u (f (a ++ r)) (f (a ++ u)) g g (F.follows a r u) (λ v b e e'. (G v).follows b r u) (λ v l h. within_local (λ us. g (v, us)) (G v) (length r) l h);
}

-- the same function, written otherwise
pub as_local : {A : Type 0} {j k : ℕ} (f g : List Lexeme → Read A) → ((ts : List Lexeme) → f ts ≡ g ts) → Local j k f → Local j k g
as_local {j = j} {k = k} f g e F = record {
  bounded = λ ts. subst (Within (j + length ts) (k + length ts)) (e ts) (F.bounded ts);
  follows = λ a r u. subst (λ y. Follows r u (g (a ++ r)) y) (e (a ++ u)) (subst (λ x. Follows r u x (f (a ++ u))) (e (a ++ r)) (F.follows a r u));
}

-- the rest of two readings that begin alike
pub bind_same : {A B : Type 0} (x : Read A) (g h : A × List Lexeme → Read B) → ((v : A) (l : List Lexeme) → x ≡ Ok (v, l) → g (v, l) ≡ h (v, l)) → (x >>= g) ≡ (x >>= h)
bind_same (Ok x) g h k = k x.0 x.1 refl
bind_same (Err f) g h k = refl

-- a function that takes as many turns as there are lexemes, where more turns change nothing
pub by_turns : {A : Type 0} (f : ℕ → List Lexeme → Read A) → ((n : ℕ) → Local 0 0 (f n)) → ((n m : ℕ) (ts : List Lexeme) → length ts ≤ n → length ts ≤ m → f n ts ≡ f m ts)
    → Local 0 0 (λ ts. f (length ts) ts)
by_turns f F same = record {
  bounded = λ ts. (F (length ts)).bounded ts;
  follows = λ a r u.
      let n = length (a ++ r) + length (a ++ u) in
      subst (λ y. Follows r u (f (length (a ++ r)) (a ++ r)) y) (same n (length (a ++ u)) (a ++ u) (omega arith) (omega arith))
      (subst (λ x. Follows r u x (f n (a ++ u))) (same n (length (a ++ r)) (a ++ r) (omega arith) (omega arith)) ((F n).follows a r u));
}

-- the same where the first part is told of its first lexeme
pub bind_head : {A B : Type 0} (f : List Lexeme → Read A) (g : A × List Lexeme → Read B) → Local 0 1 f → ((v : A) → Local 0 0 (λ ts. g (v, ts))) → Local 0 1 (λ ts. f ts >>= g)
bind_head f g F G = record {
  bounded = λ ts. bind_within (0 + length ts) (1 + length ts) (f ts) g (omega arith) (F.bounded ts) (λ v l h. within_local (λ us. g (v, us)) (G v) (0 + length ts) l h);
  follows = λ a r u. bind_follows r u (f (a ++ r)) (f (a ++ u)) g g (F.follows a r u) (λ v b e e'. (G v).follows b r u) (λ v l h. within_local (λ us. g (v, us)) (G v) (length r) l h);
}
