-- The sizes are the lengths of the parts.
use Rattle.std.proofs.Common.{◌≡◌, ℕ, length, arith, sym}
use Rattle.elf_view.proofs.LengthLaws.{length-records, length-rels, length-symbols, small_object}
use Rattle.elf_view.specs.declared.sizes.Sizes.{Sizes}
use Rattle.elf_view.proofs.object.sizes_of.Goals as goal

pub strings_len-requires : goal.strings_len-requires
strings_len-requires c =
    let small = small_object c.args.name.now c.args.code.now c.args.maps.now c.args.refs.now c.requires in omega arith

abbrev sizes : ℕ → ℕ → ℕ → ℕ → ℕ → Sizes
sizes c s r m t = record { code = c; symbols = s; rels = r; records = m; strings = t }

same_sizes : (c s s' r r' m m' t t' : ℕ) → s ≡ s' → r ≡ r' → m ≡ m' → t ≡ t' → sizes c s r m t ≡ sizes c s' r' m' t'
same_sizes c s s' r r' m m' t t' e f g h = cc

pub returns : goal.returns
returns c =
    same_sizes _ _ _ _ _ _ _ _ _
    (sym (length-symbols (length c.args.name.now) (length c.args.code.now) c.args.maps.now))
    (sym (length-rels c.args.refs.now)) (sym (length-records c.args.maps.now)) c.strings_len.ensures
