-- The header and the two parts of BTF as functions of its bytes (Documentation/bpf/btf.rst, "BTF Type and String
-- Encoding"). Offsets count from the end of the header.
use Rattle.std.specs.Prelude.{ℕ, ◌+◌, List, slice_index, take, drop}
use Rattle.btf_view.specs.Numbers.{u16_at, u32_at}

abbrev pub magic : List ℕ → ℕ
magic bytes = u16_at bytes 0

abbrev pub version : List ℕ → ℕ
version bytes = slice_index bytes 2

abbrev pub hdr_len : List ℕ → ℕ
hdr_len bytes = u32_at bytes 4

abbrev pub type_off : List ℕ → ℕ
type_off bytes = u32_at bytes 8

abbrev pub type_len : List ℕ → ℕ
type_len bytes = u32_at bytes 12

abbrev pub str_off : List ℕ → ℕ
str_off bytes = u32_at bytes 16

abbrev pub str_len : List ℕ → ℕ
str_len bytes = u32_at bytes 20

-- the types, and the names
pub record Parts : Type 0 where
  pub types : List ℕ
  pub strings : List ℕ

abbrev pub part : List ℕ → (off len : ℕ) → List ℕ
part bytes off len = take len (drop (hdr_len bytes + off) bytes)

unfoldable pub parts_of : List ℕ → Parts
parts_of bytes = record {
  types = part bytes (type_off bytes) (type_len bytes);
  strings = part bytes (str_off bytes) (str_len bytes);
}
