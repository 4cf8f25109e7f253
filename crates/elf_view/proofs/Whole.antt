-- The parts, written one after the other, are the object.
use Rattle.std.proofs.Common.{◌≡◌, ℕ, ◌-◌, ◌%◌, List, [], ◌++◌, length, replicate, ◌∙◌}
use Rattle.std.proofs.lemmas.List.{append_assoc}
use Rattle.elf_view.specs.Pieces.{elf_header}
use Rattle.elf_view.specs.Layout.{base_headers, headers_at, map_headers, object_layout, records, rels, section_count, sizes_of, strings, symbols}
use Rattle.elf_view.specs.declared.sizes.Sizes.{Sizes}
use Rattle.elf_view.specs.declared.object.MapRecord.{MapRecord}

regrouped : (h c s r m p t q b x : List ℕ)
    → h ++ c ++ s ++ r ++ m ++ p ++ t ++ q ++ b ++ x ≡ h ++ c ++ s ++ r ++ (m ++ p) ++ (t ++ q) ++ b ++ x
regrouped h c s r m p t q b x = simp append_assoc

-- the zeros after a part of n bytes
abbrev pub zeros : ℕ → List ℕ
zeros n = replicate ((8 - n % 8) % 8) 0

pub object_whole : (name code : List ℕ) (maps : List MapRecord) (refs : List (ℕ × ℕ)) (s : Sizes) (count n t : ℕ) (v : List ℕ)
    → s ≡ sizes_of name code maps refs → count ≡ section_count maps
    → n ≡ length (records maps) → t ≡ length (strings name maps)
    → v ≡ elf_header (headers_at s) count ++ code ++ symbols (length name) (length code) maps ++ rels refs
    ++ records maps ++ zeros n ++ strings name maps ++ zeros t ++ base_headers s ++ map_headers (length name) s maps
    → v ≡ object_layout name code maps refs
unfolding object_layout
object_whole name code maps refs s count n t v es ec en et ev =
    let z = sizes_of name code maps refs in
    let h = elf_header (headers_at z) (section_count maps) in
    (rw (es, ec, en, et) at ev)
    ∙ regrouped h code (symbols (length name) (length code) maps) (rels refs) (records maps) (zeros (length (records maps)))
    (strings name maps) (zeros (length (strings name maps))) (base_headers z) (map_headers (length name) z maps)

-- ten writes in a row
pub ten_writes : {v0 v1 v2 v3 v4 v5 v6 v7 v8 v9 v : List ℕ} (h c s r m p t q b x : List ℕ)
    → v0 ≡ [] → v1 ≡ v0 ++ h → v2 ≡ v1 ++ c → v3 ≡ v2 ++ s → v4 ≡ v3 ++ r → v5 ≡ v4 ++ m → v6 ≡ v5 ++ p
    → v7 ≡ v6 ++ t → v8 ≡ v7 ++ q → v9 ≡ v8 ++ b → v ≡ v9 ++ x
    → v ≡ h ++ c ++ s ++ r ++ m ++ p ++ t ++ q ++ b ++ x
ten_writes h c s r m p t q b x e0 e1 e2 e3 e4 e5 e6 e7 e8 e9 e = cc
