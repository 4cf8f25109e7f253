-- What a site reads, by what its operation does.
use Rattle.std.specs.Prelude.{◌/◌, Result, Ok, Err, IfOk}
use Rattle.std.proofs.Common.{◌≡◌, ℕ, Bool, true, false, All, List, [], ◌∷◌, ◌++◌, length, length-append, refl, sym, ap, subst, arith}
use Rattle.std.proofs.lemmas.Nat.{pow_pos}
use Rattle.std.proofs.lemmas.List.{length-map}
use Rattle.std.proofs.lemmas.List.Elements.{All-cons, All-nil, All-head, All-tail}
use Rattle.hazard_core.specs.xdp_machine.State.{PacketIn}
use Rattle.block_core.specs.ProductBlocks.Apart.{is_marked, AreMarked}
use Rattle.block_core.proofs.ProductBlocks.FreeLaws.{all_marked}
use Rattle.block_core.proofs.ProductBlocks.CleanLaws.{marked_behind}
use Rattle.block_core.specs.declared.name.Name.{Name}
use Rattle.block_core.specs.Blocks.{BlockWireTree}
use Rattle.hazard_core.specs.cell_core.declared.site.Act.{Act}
use Rattle.hazard_core.specs.cell_core.declared.site.Act.TheVariants as act
use Rattle.hazard_core.specs.cell_core.Acts.{finds_key}
use Rattle.hazard_core.specs.cell_core.Cells.{no_cell, bits_from}
use Rattle.hazard_core.specs.cell_core.Sites.{ProgramView, site_at}
use Rattle.hazard_core.specs.Tables.{TableState}
use Rattle.hazard_core.specs.StageValues.{StageValues, access_pointer, pending}
use Rattle.hazard_core.specs.Overlay.{answer_over}
use Rattle.overlay_net.specs.cell_nets.declared.operand.Operand.{Operand}
use Rattle.overlay_net.specs.cell_nets.declared.operand.Operand.TheVariants.{Known}
use Rattle.overlay_net.specs.cell_nets.Operands.{IsOperand, IsAvailable}
use Rattle.overlay_net.specs.cell_nets.Apart.{Agrees, StayApart}
use Rattle.overlay_net.specs.cell_nets.Wires.{behind, HasBits, Gives}
use Rattle.overlay_net.proofs.cell_nets_laws.ApartLaws.{agrees_split, free_marked}
use Rattle.row_net.specs.Apart.{KeepApart}
use Rattle.overlay_net.specs.ValueNet.Words.{answers_number, access_start}
use Rattle.read_net.specs.declared.sites.OwnSite.{OwnSite}
use Rattle.read_net.specs.declared.sites.MapNets.{MapNets}
use Rattle.read_net.specs.declared.sites.ReadNets.{ReadNets}
use Rattle.read_net.specs.Reads.{taken, Shows, AreCells, Reads}
use Rattle.read_net.specs.Accesses.{ShowsWord}
use Rattle.stage_net.specs.Reads.{SiteReads}

-- ---- wires without products
pub keeps_apart :
    {P : Type 0} (p : P) (old new : List (BlockWireTree (Name P))) (args outs : List (Operand (Name P))) → StayApart false p old new args outs → (clean : ℕ → Bool) (marks : List Bool) (table : List _) → KeepApart p clean marks old table
    → (next : List Bool) × KeepApart p clean next new table
keeps_apart {P} p old new args outs stay clean marks table keep = (
  marks ++ all_marked stay.more,
  record {
    count = omega (arith, length-append marks (all_marked stay.more), keep.count, length-map stay.more (λ (w : BlockWireTree (Name P)). true), ap (λ (l : List (BlockWireTree (Name P))). length l) stay.added, length-append old stay.more);
    wires = λ all g.
        subst (AreMarked (is_marked all) (marks ++ all_marked stay.more)) (sym stay.added)
        (marked_behind (is_marked all) marks (all_marked stay.more) old stay.more (keep.wires all (front all g)) (free_marked stay.more (stay.free refl) (is_marked all)));
    stands = λ all g k a c s. keep.stands all (front all g) k a c s;
  },
)
  where
    front : (all : P → List Bool) → Agrees p 0 (marks ++ all_marked stay.more) (is_marked all) → Agrees p 0 marks (is_marked all)
    front all g = (agrees_split p 0 (length old) marks (all_marked stay.more) (is_marked all) (omega (arith, keep.count)) g).0

pub no_packet : PacketIn
no_packet = record { frame = []; ifindex = 0; time = 0 }

-- of what is there two facts give a third
pub ok_both : {A E : Type 0} (Q R S : A → Type 0) (x : Result A E) → IfOk x Q → IfOk x R → ((a : A) → Q a → R a → S a) → IfOk x S
ok_both Q R S (Ok a) q r both = both a q r
ok_both Q R S (Err e) q r both = tt

three : {X : Type 0} (Q : X → Type 0) (a b c : X) → Q a → Q b → Q c → All Q (a ∷ b ∷ c ∷ [])
three Q a b c x y z = All-cons Q a (b ∷ c ∷ []) x (All-cons Q b (c ∷ []) y (All-cons Q c [] z (All-nil Q)))

-- ---- what does not read, or does not look for a key
pub plain_access : (a : Act) → answers_number a ≡ true → finds_key a ≡ true → ⊥
plain_access act.Lookup e f = cc
plain_access act.Update e f = cc
plain_access act.Delete e f = cc
plain_access (act.Load at size) e f = cc
plain_access (act.Store at size) e f = cc
plain_access (act.Atomic at a) e f = cc

module _ {P : Type 0} (part : P) (old new : List (BlockWireTree (Name P))) (m : MapNets (Name P)) (s : OwnSite (Name P)) (ss : List (OwnSite (Name P))) (slot word : Operand (Name P)) (from width : ℕ) (p : ProgramView) (t : TableState) (h : StageValues) (row : ℕ → ℕ) (r : ℕ) where
  -- no pointer, and an answer
  plain_cells : (answer : Operand (Name P)) → IsOperand answer → HasBits width answer → AreCells m.bits width (record { found = Known 0; there = Known 0; answer = answer })
  plain_cells answer operand bits = record { found = omega arith; found_bits = pow_pos m.bits; there = omega arith; there_bits = omega arith; answer = operand; answer_bits = bits }

  -- without the word
  without_word : (Q : Operand (Name P) → Type 0) → All Q (slot ∷ word ∷ taken m s ss) → All Q (slot ∷ taken m s ss)
  without_word Q h = All-cons Q slot (taken m s ss) (All-head Q slot (word ∷ taken m s ss) h) (All-tail Q word (taken m s ss) (All-tail Q slot (word ∷ taken m s ss) h))

  -- what looks for a key
  pub key_reads : (packet : PacketIn) (o : ReadNets (Name P)) → AreCells m.bits width o → finds_key s.act ≡ true → Reads part old new m s ss slot from width p t h row r packet no_cell o → SiteReads part old new m s ss slot word from width p t h row r o
  key_reads packet o cells finds x = record {
    cells = cells;
    adds = record { before = x.found.before; stays = x.found.stays; apart = keeps_apart part old new (slot ∷ taken m s ss) (o.found ∷ []) x.found.apart };
    wires = λ outside a h. (x.found.given outside a (without_word (IsAvailable (behind part outside old)) h)).wires;
    there = λ outside a h.
        let rest = without_word (IsAvailable (behind part outside old)) h in
        three (IsAvailable (behind part outside new)) o.found o.there o.answer (x.found.given outside a rest).there (x.there.given outside a rest).there (x.answer.given outside a rest).there;
    found = λ e outside v a h f solved shows slotted.
        let rest = without_word (IsAvailable (behind part outside old)) h in
        ((x.found.given outside a rest).value v f solved (shows, slotted e), (x.there.given outside a rest).value v f solved (shows, slotted e));
    answer = λ e outside v a h f solved shows slotted under. (x.answer.given outside a (without_word (IsAvailable (behind part outside old)) h)).value v f solved (shows, slotted finds);
  }

  -- an access that answers
  pub access_reads :
      (answer : Operand (Name P)) → answers_number s.act ≡ true
      → Gives part old new (word ∷ taken m s ss) (λ v. Shows v p t h m s ss × ShowsWord v t (site_at p.sites s.site).map (access_start s.act / 8) (access_pointer h (site_at p.sites s.site)) word) (λ v. bits_from (answer_over p t h (pending p row r s.site) s.site) from width) width answer
      → SiteReads part old new m s ss slot word from width p t h row r (record { found = Known 0; there = Known 0; answer = answer })
  access_reads answer is x = record {
    cells = plain_cells answer x.operand x.bits;
    adds = record { before = x.before; stays = x.stays; apart = keeps_apart part old new (word ∷ taken m s ss) (answer ∷ []) x.apart };
    wires = λ outside a h. (x.given outside a (rest_of outside h)).wires;
    there = λ outside a h. three (IsAvailable (behind part outside new)) (Known 0) (Known 0) answer tt tt (x.given outside a (rest_of outside h)).there;
    found = λ e. absurd (plain_access s.act is e);
    answer = λ e outside v a h f solved shows slotted under. (x.given outside a (rest_of outside h)).value v f solved (shows, under is);
  }
    where
      rest_of : (outside : List (Operand (Name P))) → All (IsAvailable (behind part outside old)) (slot ∷ word ∷ taken m s ss) → All (IsAvailable (behind part outside old)) (word ∷ taken m s ss)
      rest_of outside h = All-tail (IsAvailable (behind part outside old)) slot (word ∷ taken m s ss) h
