-- What is written is the text, line by line.
use Rattle.std.proofs.Common.{◌≡◌, ℕ, suc, ◌+◌, ◌-◌, ◌<◌, ◌≤◌, List, [], ◌∷◌, ◌++◌, length, Some, IfSome, sym, ap, subst, ◌∙◌, append_assoc, arith}
use Rattle.std.proofs.lemmas.List.{append-nil}
use Rattle.hex.specs.Hex.{encode_lower}
use Rattle.xdp_maps.specs.declared.decl.MapDecl.{MapDecl}
use Rattle.xdp_maps.specs.Contents.{Contents, IsBytes}
use Rattle.xdp_maps.specs.Calls.{entry_of}
use Rattle.xdp_maps.specs.Laws.{PairLaws}
use Rattle.xdp_maps.specs.State.{MapState, IsSound, decl_at, contents_at}
use Rattle.maps_text.specs.Lines.{space, line_feed}
use Rattle.maps_text.specs.Writing.{line_text, pair_text, pairs_text, map_text, all_text, text_of}

pub line_pushed : (t name key value : List ℕ) → (((((t ++ name) ++ space ∷ []) ++ encode_lower key) ++ space ∷ []) ++ encode_lower value) ++ line_feed ∷ [] ≡ t ++ line_text name key value
unfolding line_text
line_pushed t name key value =
    let k = space ∷ encode_lower key in
    let v = space ∷ encode_lower value in
    let end = line_feed ∷ [] in
    ap (λ (x : List ℕ). ((x ++ space ∷ []) ++ encode_lower value) ++ end) (append_assoc (t ++ name) (space ∷ []) (encode_lower key))
    ∙ ap (λ (x : List ℕ). x ++ end) (append_assoc ((t ++ name) ++ k) (space ∷ []) (encode_lower value))
    ∙ ap (λ (x : List ℕ). (x ++ v) ++ end) (append_assoc t name k)
    ∙ ap (λ (x : List ℕ). x ++ end) (append_assoc t (name ++ k) v)
    ∙ append_assoc t ((name ++ k) ++ v) end

-- a pair, and those after it
pairs_next : (d : MapDecl) (c : Contents) (i n : ℕ) → i < n → pairs_text d c i (n - i) ≡ pair_text d (entry_of d c i) ++ pairs_text d c (i + 1) (n - (i + 1))
unfolding pairs_text
pairs_next d c i n lt =
    let left : n - i ≡ suc (n - (i + 1)) = omega arith in
    let next : suc i ≡ i + 1 = omega arith in
    ap (pairs_text d c i) left ∙ ap (λ j. pair_text d (entry_of d c i) ++ pairs_text d c j (n - (i + 1))) next

pub pairs_on : (d : MapDecl) (c : Contents) (i n : ℕ) (old new all : List ℕ) → i < n → old ++ pairs_text d c i (n - i) ≡ all → new ≡ old ++ pair_text d (entry_of d c i) → new ++ pairs_text d c (i + 1) (n - (i + 1)) ≡ all
pairs_on d c i n old new all lt is pushed =
    ap (λ (x : List ℕ). x ++ pairs_text d c (i + 1) (n - (i + 1))) pushed
    ∙ append_assoc old (pair_text d (entry_of d c i)) (pairs_text d c (i + 1) (n - (i + 1)))
    ∙ ap (λ (x : List ℕ). old ++ x) (sym (pairs_next d c i n lt)) ∙ is

pub pairs_all : (d : MapDecl) (c : Contents) (i n : ℕ) (old all : List ℕ) → n ≤ i → old ++ pairs_text d c i (n - i) ≡ all → old ≡ all
unfolding pairs_text
pairs_all d c i n old all past is =
    let none : n - i ≡ 0 = omega arith in
    sym (append-nil old) ∙ ap (λ k. old ++ pairs_text d c i k) (sym none) ∙ is

-- a map, and those after it
maps_next : (s : MapState) (m n : ℕ) → m < n → all_text s m (n - m) ≡ map_text (decl_at s m) (contents_at s m) ++ all_text s (m + 1) (n - (m + 1))
unfolding all_text
maps_next s m n lt =
    let left : n - m ≡ suc (n - (m + 1)) = omega arith in
    let next : suc m ≡ m + 1 = omega arith in
    ap (all_text s m) left ∙ ap (λ j. map_text (decl_at s m) (contents_at s m) ++ all_text s j (n - (m + 1))) next

pub maps_on : (s : MapState) (m n : ℕ) (old new all : List ℕ) → m < n → old ++ all_text s m (n - m) ≡ all → new ≡ old ++ map_text (decl_at s m) (contents_at s m) → new ++ all_text s (m + 1) (n - (m + 1)) ≡ all
maps_on s m n old new all lt is pushed =
    ap (λ (x : List ℕ). x ++ all_text s (m + 1) (n - (m + 1))) pushed
    ∙ append_assoc old (map_text (decl_at s m) (contents_at s m)) (all_text s (m + 1) (n - (m + 1)))
    ∙ ap (λ (x : List ℕ). old ++ x) (sym (maps_next s m n lt)) ∙ is

pub maps_all : (s : MapState) (m n : ℕ) (old all : List ℕ) → n ≤ m → old ++ all_text s m (n - m) ≡ all → old ≡ all
unfolding all_text
maps_all s m n old all past is =
    let none : n - m ≡ 0 = omega arith in
    sym (append-nil old) ∙ ap (λ k. old ++ all_text s m k) (sym none) ∙ is

-- a value has no more than 64 bytes
pub value_short : (s : MapState) (m i : ℕ) (key value : List ℕ) → IsSound s → m < length s.decls → PairLaws (decl_at s m) (contents_at s m) → entry_of (decl_at s m) (contents_at s m) i ≡ Some (key, value) → length value ≤ 64
value_short s m i key value sound lt laws is =
    let fits : IsBytes (decl_at s m).value value = subst (λ o. IfSome o (IsBytes (decl_at s m).value)) (laws.found i key value is) ((sound.over m lt).values key) in
    omega (arith, fits.len, (sound.limits m lt).value_short)

pub maps_begun : (s : MapState) (old : List ℕ) → old ≡ [] → old ++ all_text s 0 (length s.decls - 0) ≡ text_of s
unfolding text_of
maps_begun s old is =
    let all : length s.decls - 0 ≡ length s.decls = omega arith in
    ap (λ (x : List ℕ). x ++ all_text s 0 (length s.decls - 0)) is ∙ ap (all_text s 0) all
