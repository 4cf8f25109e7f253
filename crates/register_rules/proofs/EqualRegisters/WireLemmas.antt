-- The values of wires, one by one.
use Rattle.std.specs.Prelude.{◌≡◌, ℕ, zero, suc, ◌+◌, ◌<◌, List, [], ◌∷◌, ◌++◌, length, take}
use Rattle.std.proofs.Common.{get_or, refl, sym, ap, ◌∙◌, arith, subst, append_assoc, length-append, ⊎_elim}
use Rattle.std.proofs.lemmas.Bool.{cases_lt}
use Rattle.std.proofs.lemmas.List.{append-nil, get_or-take, get_or_append_left, get_or_past, get_or_push, length-take-le}
use Rattle.std.proofs.Math.Seq.{take-append_seam, get_or-append_seam}
use Rattle.net_core.specs.declared.tree.Word.{Word}
use Rattle.net_core.specs.declared.tree.Net.{Net}
use Rattle.net_core.specs.Nets.{WireTree}
use Rattle.net_core.specs.Value.{nothing, Env, right_value}
use Rattle.net_core.specs.Clock.{Stored, env, with_wires}
use Rattle.register_rules.specs.EqualRegisters.Alike.{HoldFirsts, AreAlike}

module _ (ins : List Word) (s : Stored) where
  -- wires are only added
  added : (before : List Word) (rest : List WireTree) → (more : List Word) × (with_wires ins s before rest ≡ before ++ more)
  added before [] = ([], sym (append-nil before))
  added before (w ∷ rest) =
      let x = right_value (env ins s before) w.right in
      let later = added (before ++ x ∷ []) rest in
      (x ∷ later.0, later.1 ∙ append_assoc before (x ∷ []) later.0)

  value_from : (before : List Word) (rest : List WireTree) (i : ℕ) (d : WireTree) → i < length rest
      → get_or (with_wires ins s before rest) (length before + i) nothing ≡ right_value (env ins s (take (length before + i) (with_wires ins s before rest))) (get_or rest i d).right
  value_from before [] i d l = absurd (omega arith)
  value_from before (w ∷ rest) zero d l =
      let x = right_value (env ins s before) w.right in
      let later = added (before ++ x ∷ []) rest in
      let all : with_wires ins s before (w ∷ rest) ≡ before ++ x ∷ later.0 = later.1 ∙ append_assoc before (x ∷ []) later.0 in
      let at : length before + 0 ≡ length before = omega arith in
      rw (at, all) (get_or-append_seam before x later.0 nothing ∙ sym (ap (λ ws. right_value (env ins s ws) w.right) (take-append_seam before (x ∷ later.0))))
  value_from before (w ∷ rest) (suc i) d l =
      let x = right_value (env ins s before) w.right in
      let at : length (before ++ x ∷ []) + i ≡ length before + suc i = omega (arith, length-append before (x ∷ [])) in
      subst (λ n. get_or (with_wires ins s before (w ∷ rest)) n nothing ≡ right_value (env ins s (take n (with_wires ins s before (w ∷ rest)))) (get_or rest i d).right) at (value_from (before ++ x ∷ []) rest i d (omega arith))

  -- a wire has the value of its right side where the wires before it have theirs
  pub value_at : (wires : List WireTree) (i : ℕ) (d : WireTree) → i < length wires
      → get_or (with_wires ins s [] wires) i nothing ≡ right_value (env ins s (take i (with_wires ins s [] wires))) (get_or wires i d).right
  value_at wires i d l = subst (λ n. get_or (with_wires ins s [] wires) n nothing ≡ right_value (env ins s (take n (with_wires ins s [] wires))) (get_or wires i d).right) (omega arith) (value_from [] wires i d l)

  -- nets that are listed hold what those hold that are listed for them
  listed : (ws : List Word) (registers firsts : List ℕ) (j : ℕ) → j < length firsts → HoldFirsts registers s.registers → HoldFirsts firsts ws
      → AreAlike registers firsts (take j firsts) (env ins s (take (length firsts) ws)) (env ins s (take j ws))
  listed ws registers firsts j l held told = record {
    port = λ a. refl;
    register = λ a b e. held a ∙ ap (λ n. get_or s.registers n nothing) e ∙ sym (held b);
    wire = λ a b x y e.
        let z : b < j = omega (arith, length-take-le j firsts (omega arith)) in
        get_or-take (length firsts) ws a nothing x ∙ told a ∙ ap (λ n. get_or ws n nothing) (e ∙ get_or-take j firsts b b z) ∙ sym (told b) ∙ sym (get_or-take j ws b nothing z);
    memory_word = λ m n. refl;
  }

  -- wires of alike right sides have one value
  pub same_values : (wires : List WireTree) (registers firsts : List ℕ) (j : ℕ) (a b x y : WireTree) → j < length firsts → length firsts < length wires
      → a ≡ get_or wires (length firsts) x → b ≡ get_or wires j y → HoldFirsts registers s.registers → HoldFirsts firsts (with_wires ins s [] wires)
      → ((v w : Env Net) → AreAlike registers firsts (take j firsts) v w → right_value v a.right ≡ right_value w b.right)
      → get_or (with_wires ins s [] wires) (length firsts) nothing ≡ get_or (with_wires ins s [] wires) j nothing
  same_values wires registers firsts j a b x y l m at before held told alike =
      let ws = with_wires ins s [] wires in
      value_at wires (length firsts) x m ∙ sym (ap (λ (w : WireTree). right_value (env ins s (take (length firsts) ws)) w.right) at)
      ∙ alike (env ins s (take (length firsts) ws)) (env ins s (take j ws)) (listed ws registers firsts j l held told)
      ∙ ap (λ (w : WireTree). right_value (env ins s (take j ws)) w.right) before ∙ sym (value_at wires j y (omega arith))

-- one more is listed
pub hold_more : (firsts : List ℕ) (ws : List Word) (x : ℕ) → HoldFirsts firsts ws → get_or ws (length firsts) nothing ≡ get_or ws x nothing → HoldFirsts (firsts ++ x ∷ []) ws
hold_more firsts ws x told e k = ⊎_elim
    (λ lt. told k ∙ ap (λ n. get_or ws n nothing) (sym (get_or_append_left firsts (x ∷ []) k k lt)))
    (λ le. ⊎_elim
    (λ lt. ap (λ n. get_or ws n nothing) (sym (get_or_past (firsts ++ x ∷ []) k k (omega (arith, length-append firsts (x ∷ []))))))
    (λ ge. let at : length firsts ≡ k = omega arith in ap (λ n. get_or ws n nothing) (sym at) ∙ e ∙ ap (λ n. get_or ws n nothing) (sym (get_or_push firsts x k k at)))
    (cases_lt (length firsts) k))
    (cases_lt k (length firsts))
