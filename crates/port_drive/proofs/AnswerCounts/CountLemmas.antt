-- Counts with one more answer, and with one more entry.
use Rattle.std.specs.Prelude.{nat_lt, count_by}
use Rattle.std.specs.List.{slice_get}
use Rattle.std.specs.FinMap.{entries, len-entries}
use Rattle.std.proofs.Common.{◌≡◌, ◌≢◌, ◌∙◌, ℕ, ◌+◌, ◌<◌, ◌≤◌, ◌==◌, ◌^◌, inl, inr, Bool, true, false, Some, None, List, [], length, get_or, take, sym, ap, arith}
use Rattle.std.proofs.lemmas.Bool.{cases_lt, eq-eqb, lt-ltb, le-ltb}
use Rattle.std.proofs.lemmas.Bool.Decides.{eqb_tells}
use Rattle.std.proofs.lemmas.Option.{get_or_from_slice_get, slice_get-get_or, slice_get_within}
use Rattle.std.proofs.lemmas.List.Sums.{count_by_more_yes, count_by_more_no, sum_by_more, sum_by-take-le}
use Rattle.beat_core.specs.declared.answer.Answer.{Answer}
use Rattle.xdp_maps.specs.declared.decl.MapDecl.{MapDecl}
use Rattle.xdp_maps.specs.declared.decl.MapKind.{MapKind}
use Rattle.xdp_maps.specs.declared.decl.MapKind.TheVariants.{Hash}
use Rattle.xdp_maps.specs.Contents.{Contents}
use Rattle.xdp_maps.specs.Calls.{entry_as, entry_of}
use Rattle.xdp_maps.specs.State.{MapState, decl_at, contents_at}
use Rattle.port_drive.specs.AnswerCounts.Counts.{byte_count, entry_count}

-- ---- answers
module _ (p : Answer → Bool) (answers : List Answer) (i count : ℕ) (a : Answer) (here : slice_get answers i ≡ Some a) (inside : i < length answers) (so_far : count ≡ count_by p (take i answers)) where
  here_is : get_or answers i a ≡ a
  here_is = get_or_from_slice_get answers i a a here

  pub count_yes : p a ≡ true → count + 1 ≡ count_by p (take (i + 1) answers)
  count_yes is = ap (λ n. n + 1) so_far ∙ sym (count_by_more_yes p answers i a inside (ap p here_is ∙ is))

  pub count_no : p a ≡ false → count ≡ count_by p (take (i + 1) answers)
  count_no is = so_far ∙ sym (count_by_more_no p answers i a inside (ap p here_is ∙ is))

pub is_verdict : (a b : ℕ) → a ≡ b → (a == b) ≡ true
is_verdict a b e = eq-eqb a b e

pub other_verdict : (a b : ℕ) → a ≢ b → (a == b) ≡ false
other_verdict a b differ = elim (eqb_tells a b) [
  | inl same ↦ absurd (differ same.1)
  | inr other ↦ other.0
]

pub is_above : (a b : ℕ) → a < b → nat_lt a b ≡ true
is_above a b l = lt-ltb a b l

pub not_above : (a b : ℕ) → b ≤ a → nat_lt a b ≡ false
not_above a b l = le-ltb a b l

module _ (answers : List Answer) (i count : ℕ) (a : Answer) (here : slice_get answers i ≡ Some a) (inside : i < length answers) (so_far : count ≡ byte_count (take i answers)) where
  pub bytes_more : count + length a.frame ≡ byte_count (take (i + 1) answers)
  bytes_more =
      let f : Answer → ℕ = λ x. length x.frame in
      ap (λ n. n + length a.frame) so_far ∙ ap (λ (x : Answer). byte_count (take i answers) + length x.frame) (sym (get_or_from_slice_get answers i a a here)) ∙ sym (sum_by_more f answers i a inside)

  pub bytes_fit : byte_count answers < 2 ^ 64 → count + length a.frame < 2 ^ 64
  bytes_fit fits =
      let most : byte_count (take (i + 1) answers) ≤ byte_count answers = sum_by-take-le (λ (x : Answer). length x.frame) answers (i + 1) in
      omega (arith, bytes_more, most, fits)

-- ---- entries
hash_entry : (d : MapDecl) (c : Contents) (i : ℕ) → d.kind ≡ Hash → slice_get (entries c) i ≡ entry_of d c i
hash_entry d c i hash = ap (λ (k : MapKind). entry_as k c i) (sym hash)

nothing_there : {P : Type 0} (c : Contents) (i : ℕ) → slice_get (entries c) i ≡ None → i < length (entries c) → P
nothing_there c i past inside = let some = slice_get-get_or (entries c) i ([], []) inside in absurd cc

pub none_left : (maps : MapState) (m i : ℕ) → (decl_at maps m).kind ≡ Hash → entry_of (decl_at maps m) (contents_at maps m) i ≡ None → entry_count maps m ≤ i
none_left maps m i hash none =
    let c = contents_at maps m in
    let past : slice_get (entries c) i ≡ None = hash_entry (decl_at maps m) c i hash ∙ none in
    elim (cases_lt i (length (entries c))) [
      | inl inside ↦ nothing_there c i past inside
      | inr beyond ↦ omega (arith, beyond, len-entries c)
    ]

pub some_left : (maps : MapState) (m i : ℕ) (pair : List ℕ × List ℕ) → (decl_at maps m).kind ≡ Hash → entry_of (decl_at maps m) (contents_at maps m) i ≡ Some pair → i + 1 ≤ entry_count maps m
some_left maps m i pair hash some =
    let c = contents_at maps m in
    let inside : i < length (entries c) = slice_get_within (entries c) i pair (hash_entry (decl_at maps m) c i hash ∙ some) in
    omega (arith, inside, len-entries c)
