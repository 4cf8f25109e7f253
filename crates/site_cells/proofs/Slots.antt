-- Bytes of the stack.
use Rattle.std.proofs.Common.{◌≡◌, ℕ, zero, suc, ◌+◌, ◌*◌, ◌/◌, ◌%◌, ◌^◌, ◌<◌, ◌≤◌, Option, Some, None, List, [], ◌∷◌, ◌++◌, length, length-append, get_or, slice_index, map as map_list, refl, sym, ◌∙◌, ap, subst, arith}
use Rattle.std.specs.Prelude.{All}
use Rattle.std.proofs.Math.Nat.{div-one}
use Rattle.std.proofs.lemmas.List.{map-append}
use Rattle.std.proofs.lemmas.List.Elements.{All-push}
use Rattle.byteorder.specs.Endian.{little_bytes}
use Rattle.cell_core.specs.xdp_maps.declared.decl.MapDecl.{MapDecl}
use Rattle.cell_core.specs.xdp_machine.Values.{Value, number_in, ◌>>=◌}
use Rattle.cell_core.specs.xdp_machine.Values as is
use Rattle.cell_core.specs.xdp_machine.State.{Machine, PacketIn}
use Rattle.cell_core.specs.xdp_machine.Helpers.{stack_byte, stack_bytes}
use Rattle.kind_core.proofs.xdp_machine_laws.ChangeLaws.{some_inj}
use Rattle.kind_core.specs.declared.number.Number.{Number}
use Rattle.kind_core.specs.declared.number.Number.TheVariants.{Known, Between}
use Rattle.kind_core.specs.declared.kind.Kind.{Kind}
use Rattle.kind_core.specs.declared.kind.Kind.TheVariants.{Unset, Num}
use Rattle.kind_core.specs.declared.kind.Kinds.{Kinds}
use Rattle.kind_core.specs.Describes.{Describes}
use Rattle.cell_core.specs.Cells.{CellView, bits_from}
use Rattle.operator_cells.specs.Making.{Makes}
use Rattle.operator_cells.proofs.MakingLaws.{grown, grown_none}
use Rattle.operator_cells.specs.declared.held_cells.machine_cells.RegisterCells.{RegisterCells}
use Rattle.operator_cells.specs.HeldCells.RegisterCells.{PointerView, Holds, Counts, number_of}
use Rattle.operator_cells.specs.HeldCells.Carrying.{IsKnown}
use Rattle.site_cells.specs.Words.{HasNumber, HoldsByte, HoldsBytes}

pub byte_from : (n i : ℕ) → i < 8 → bits_from n (8 * i) 8 ≡ slice_index (little_bytes 8 n) i
byte_from n zero h = ap (λ (k : ℕ). k % 256) (div-one n)
byte_from n (suc zero) h = refl
byte_from n (suc (suc zero)) h = refl
byte_from n (suc (suc (suc zero))) h = refl
byte_from n (suc (suc (suc (suc zero)))) h = refl
byte_from n (suc (suc (suc (suc (suc zero))))) h = refl
byte_from n (suc (suc (suc (suc (suc (suc zero)))))) h = refl
byte_from n (suc (suc (suc (suc (suc (suc (suc zero))))))) h = refl
byte_from n (suc (suc (suc (suc (suc (suc (suc (suc i)))))))) h = absurd (omega (arith, h))

pub byte_unknown : (old new : List CellView) (held at c : ℕ) → at < 8 → Makes old new c (λ packet v. bits_from (v held) (8 * at) 8) → Makes old new c (λ packet v. slice_index (little_bytes 8 (v held)) at)
byte_unknown old new held at c within made = record { grows = made.grows; there = made.there; value = λ packet v run. made.value packet v run ∙ byte_from (v held) at within }

pub byte_known : (old new : List CellView) (n m at c : ℕ) → at < 8 → m ≡ n / 2 ^ (8 * at) → Makes old new c (λ packet v. bits_from m 0 8) → Makes old new c (λ packet v. slice_index (little_bytes 8 n) at)
byte_known old new n m at c within shifted made =
    record { grows = made.grows; there = made.there; value = λ packet v run. made.value packet v run ∙ ap (λ (k : ℕ). k % 256) (div-one m ∙ shifted) ∙ byte_from n at within }

pub byte_number : (old new : List CellView) (number : Number) (held at c : ℕ) → Makes old new c (λ packet v. slice_index (little_bytes 8 (number_of v number held)) at) → HoldsByte old new (Num number) held at c
byte_number old new number held at c made = record {
  grows = made.grows;
  there = made.there;
  value = λ packet v x run e. let same : number ≡ x = cc in made.value packet v run ∙ ap (λ (y : Number). slice_index (little_bytes 8 (number_of v y held)) at) same;
}

-- ---- slots

pub bound : {A B : Type 0} (o : Option A) (f : A → Option B) (b : B) → (o >>= f) ≡ Some b → (a : A) × (o ≡ Some a) × (f a ≡ Some b)
bound (Some a) f b e = (a, refl, e)
bound None f b e = cc

pub slot_number : (decls : List MapDecl) (packet : PacketIn) (v : ℕ → ℕ) (ps : List PointerView) (node : ℕ) (k : Kinds) (h : RegisterCells) (m : Machine) (s : ℕ) (x : Number) → IsKnown decls packet v ps node k h m → s < 64
    → get_or k.slots s Unset ≡ Num x → get_or m.stack s is.Unset ≡ is.Number (number_of v x (slice_index h.slots s))
slot_number decls packet v ps node k h m s (Known n) known l e = subst (λ (y : Kind). Describes known.world m.maps y (get_or m.stack s is.Unset)) e (known.stands.described.slots s)
slot_number decls packet v ps node k h m s (Between lo hi) known l e = subst (λ (y : Kind). Holds decls v ps y (slice_index h.slots s) (get_or m.stack s is.Unset)) e (known.held.slots s l)

-- the last of some bytes
stack_last : (stack : List Value) (a n : ℕ) (xs : List ℕ) → stack_bytes stack a (suc n) ≡ Some xs
    → (ys : List ℕ) × (b : ℕ) × (stack_bytes stack a n ≡ Some ys) × (stack_byte stack (a + n) ≡ Some b) × (xs ≡ ys ++ b ∷ [])
stack_last stack a zero xs e =
    let b = bound (stack_byte stack a) _ xs e in
    let f : a ≡ a + 0 = omega arith in
    ([], b.0, refl, ap (stack_byte stack) (sym f) ∙ b.1, sym (some_inj (b.0 ∷ []) xs b.2))
stack_last stack a (suc n) xs e =
    let b = bound (stack_byte stack a) _ xs e in
    let r = bound (stack_bytes stack (suc a) (suc n)) _ xs b.2 in
    let l = stack_last stack (suc a) n r.0 r.1 in
    let f : suc a + n ≡ a + suc n = omega arith in (
      b.0 ∷ l.0,
      l.1,
      ap (λ (o : Option ℕ). o >>= (λ i. stack_bytes stack (suc a) n >>= (λ bs. Some (i ∷ bs)))) b.1 ∙ ap (λ (o : Option (List ℕ)). o >>= (λ bs. Some (b.0 ∷ bs))) l.2,
      ap (stack_byte stack) (sym f) ∙ l.3,
      sym (some_inj (b.0 ∷ r.0) xs r.2) ∙ ap (λ (bs : List ℕ). b.0 ∷ bs) l.4,
    )

pub bytes_none : (decls : List MapDecl) (ps : List PointerView) (node : ℕ) (k : Kinds) (h : RegisterCells) (cells : List CellView) (at : ℕ) → HoldsBytes decls ps node k h cells cells at 0 []
bytes_none decls ps node k h cells at = record {
  grows = grown_none;
  there = λ j d l. absurd (omega (arith, l));
  long = refl;
  value = λ packet v m xs numbers run known e. some_inj [] xs e;
}

pub bytes_more : (decls : List MapDecl) (ps : List PointerView) (node : ℕ) (k : Kinds) (h : RegisterCells) (old mid new : List CellView) (at count i c : ℕ) (bytes more : List ℕ) → at + count ≤ 512 → i < count → HoldsBytes decls ps node k h old mid at i bytes
    → HoldsByte mid new (get_or k.slots ((at + i) / 8) Unset) (slice_index h.slots ((at + i) / 8)) ((at + i) % 8) c → more ≡ bytes ++ c ∷ []
    → HoldsBytes decls ps node k h old new at (i + 1) more
bytes_more decls ps node k h old mid new at count i c bytes more within range before one is = record {
  grows = grown before.grows one.grows;
  there = subst (All (λ j. j < length new)) (sym is) (All-push (λ j. j < length new) bytes c (λ j d l. omega (arith, before.there j d l, one.grows.longer)) one.there);
  long = omega (arith, ap length is, length-append bytes (c ∷ []), before.long);
  value = λ packet v m xs numbers run known e.
      let f : i + 1 ≡ suc i = omega arith in
      let l = stack_last m.stack at i xs (ap (stack_bytes m.stack at) (sym f) ∙ e) in
      let s : ℕ = (at + i) / 8 in
      let x = numbers i (omega arith) in
      let slot = slot_number decls packet v ps node k h m s x.0 known (omega (arith, within, range)) x.1 in
      let byte : Some (slice_index (little_bytes 8 (number_of v x.0 (slice_index h.slots s))) ((at + i) % 8)) ≡ Some l.1 =
      sym (ap (λ (y : Value). number_in y >>= (λ n. Some (slice_index (little_bytes 8 n) ((at + i) % 8)))) slot) ∙ l.3 in
      let first = before.value packet v m l.0 (λ j b. numbers j (omega (arith, b))) (one.grows.run packet v run) known l.2 in
      ap (map_list v) is ∙ map-append v bytes (c ∷ [])
      ∙ ap (λ (ys : List ℕ). ys ++ v c ∷ []) first
      ∙ ap (λ (b : ℕ). l.0 ++ b ∷ []) (one.value packet v x.0 run x.1 ∙ some_inj _ l.1 byte)
      ∙ sym l.4;
}

-- ---- what is there

pub counts_number : (decls : List MapDecl) (n m : ℕ) (ps : List PointerView) (x : Kind) (c : ℕ) → n ≤ m → Counts decls n ps x c → HasNumber m x c
counts_number decls n m ps (Num (Between lo hi)) c l h = omega (arith, l, h)
counts_number decls n m ps (Num (Known a)) c l h = tt
counts_number decls n m ps x c l h = tt

pub register_number : (decls : List MapDecl) (packet : PacketIn) (v : ℕ → ℕ) (ps : List PointerView) (node : ℕ) (k : Kinds) (h : RegisterCells) (m : Machine) (r : ℕ) (x : Number) → IsKnown decls packet v ps node k h m → r ≤ 10
    → get_or k.registers r Unset ≡ Num x → get_or m.registers r is.Unset ≡ is.Number (number_of v x (slice_index h.registers r))
register_number decls packet v ps node k h m r (Known n) known l e = subst (λ (y : Kind). Describes known.world m.maps y (get_or m.registers r is.Unset)) e (known.stands.described.registers r)
register_number decls packet v ps node k h m r (Between lo hi) known l e = subst (λ (y : Kind). Holds decls v ps y (slice_index h.registers r) (get_or m.registers r is.Unset)) e (known.held.registers r l)
