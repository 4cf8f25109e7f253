-- Numbers in either order of bytes.
use Rattle.std.specs.Prelude.{ℕ, List}
use Rattle.byteorder.specs.Endian.{little_number, big_number, little_bytes, big_bytes}
use Rattle.pcap_core.specs.declared.order.Order.{Order}
use Rattle.pcap_core.specs.declared.order.Order.TheVariants.{Little, Big}

-- the number in the first n bytes
unfoldable pub number : Order → ℕ → List ℕ → ℕ
number Little n xs = little_number n xs
number Big n xs = big_number n xs

-- the lowest n bytes of a number
unfoldable pub spelled : Order → ℕ → ℕ → List ℕ
spelled Little n x = little_bytes n x
spelled Big n x = big_bytes n x
