-- Numbers of fixed width as bytes, the lowest first: what ELF calls ELFDATA2LSB.
use Rattle.std.specs.Prelude.{ℕ, List, drop}
use Rattle.byteorder.specs.Endian.{little_bytes, little_number}

abbrev pub u16_le : ℕ → List ℕ
u16_le n = little_bytes 2 n

abbrev pub u32_le : ℕ → List ℕ
u32_le n = little_bytes 4 n

abbrev pub u64_le : ℕ → List ℕ
u64_le n = little_bytes 8 n

-- the numbers of 2, 4 and 8 bytes at a place
unfoldable pub u16_at : List ℕ → ℕ → ℕ
u16_at bytes at = little_number 2 (drop at bytes)

unfoldable pub u32_at : List ℕ → ℕ → ℕ
u32_at bytes at = little_number 4 (drop at bytes)

unfoldable pub u64_at : List ℕ → ℕ → ℕ
u64_at bytes at = little_number 8 (drop at bytes)
