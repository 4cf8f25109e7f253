-- The slots under the keys that a row looks for.
use Rattle.std.specs.Prelude.{Option, Result, Ok, Err, IfOk}
use Rattle.std.proofs.Common.{◌≡◌, ◌⊎◌, inl, inr, ℕ, ◌<◌, ◌≤◌, Bool, true, false, All, List, [], ◌∷◌, ◌++◌, length, length-append, get_or, refl, sym, subst, ap, arith}
use Rattle.std.proofs.lemmas.Bool.{cases_lt}
use Rattle.std.proofs.lemmas.Nat.{pow_pos}
use Rattle.std.proofs.lemmas.List.{get_or_append_left, get_or_push}
use Rattle.std.proofs.lemmas.List.Elements.{All-append, All-cons, All-nil}
use Rattle.block_core.specs.net_core.Value.{Env}
use Rattle.block_core.specs.declared.name.Name.{Name}
use Rattle.block_core.specs.Blocks.{BlockWireTree}
use Rattle.block_core.specs.Parts.{Solve}
use Rattle.hazard_core.specs.cell_core.Acts.{finds_key}
use Rattle.hazard_core.specs.cell_core.Cells.{site_in}
use Rattle.hazard_core.specs.cell_core.Sites.{ProgramView, site_at}
use Rattle.hazard_core.specs.Tables.{TableState, table_at}
use Rattle.hazard_core.specs.Tabled.{AreTables}
use Rattle.hazard_core.specs.StageValues.{StageValues, asked_key, slot_pointer}
use Rattle.overlay_net.specs.cell_nets.declared.operand.Operand.{Operand}
use Rattle.overlay_net.specs.cell_nets.declared.operand.Operand.TheVariants.{Known}
use Rattle.overlay_net.specs.cell_nets.Operands.{IsOperand, AreFit, IsAvailable}
use Rattle.overlay_net.specs.cell_nets.Wires.{behind, AreWires, HasBits, Gives}
use Rattle.overlay_net.specs.SiteOperands.Pointers.{pointer_number}
use Rattle.overlay_net.specs.SiteOperands.Sites.{operands_of, all_of, ShowsAsked}
use Rattle.overlay_net.specs.Reading.{ShowsSlot}
use Rattle.row_net.specs.SitePlace.PointerNets.{AddWires, BothThere}
use Rattle.read_net.specs.declared.sites.MapNets.{MapNets}
use Rattle.read_net.specs.declared.sites.OwnSite.{OwnSite}
use Rattle.read_net.specs.Sites.{cells_of, slot_cells, IsMapOf, ShowsTable}
use Rattle.read_net.proofs.KeyLaws.{same_slot}
use Rattle.stage_net.specs.declared.row.StageNets.{StageNets}
use Rattle.stage_net.specs.Nets.{IsOwnOf, decls_of, AreNets, NetsAreThere}
use Rattle.stage_net.specs.Staged.{HaveTables, IsStaged}
use Rattle.stage_net.specs.Rows.{IsSought, AsksSame, ShowsReads, AllAreThere, AreSought, AreRead}
use Rattle.stage_net.proofs.SiteLemmas.{keeps_apart, plain_access}
use Rattle.stage_net.proofs.RowLemmas.{nets_still_there}
use Rattle.stage_net.proofs.StepLemmas.{fc, ac, Hit, found_op, answer_op}
use Rattle.stage_net.proofs.OwnLemmas.{map_in, its_nets, is_map_of}

pub is_true : (b : Bool) → (b ≡ false → ⊥) → b ≡ true
is_true true h = refl
is_true false h = absurd (h refl)

-- ---- the sites that a row reads and that look for a key
pub sought_of : (p : ProgramView) (row : ℕ → ℕ) (r j : ℕ) → Hit p row j r → finds_key (site_at p.sites j).act ≡ true → IsSought p row r j
sought_of p row r j (inl h) f = (fc p row j, h.0, h.1, ap site_in (found_op p row j h.0), f)
sought_of p row r j (inr h) f = (ac p row j, h.0, h.1, ap site_in (answer_op p row j h.0), f)

module _ {P : Type 0} (part : P) (p : ProgramView) (row : ℕ → ℕ) (r : ℕ) (nets : StageNets (Name P)) where
  abbrev Wires : Type 0
  Wires = List (BlockWireTree (Name P))

  abbrev Operands : Type 0
  Operands = List (Operand (Name P))

  no_wires : (ws : Wires) → AddWires part ws ws
  no_wires ws = record { before = λ v s. s; stays = λ outside a h. h; apart = λ clean marks table keep. (marks, keep) }

  adds_then : (old mid new : Wires) → AddWires part old mid → AddWires part mid new → AddWires part old new
  adds_then old mid new x y = record {
    before = λ v s. x.before v (y.before v s);
    stays = λ outside a h. y.stays outside a (x.stays outside a h);
    apart = λ clean marks table keep. let first = x.apart clean marks table keep in y.apart clean first.0 table first.1;
  }

  -- One operand more: that of the site after those that there are.
  pub record IsSearched (base ws new : Wires) (j : ℕ) (slot : Operand (Name P)) : Type 0 where
    pub adds : AddWires part ws new
    pub operand : IsOperand slot
    pub bits : HasBits nets.bits slot
    pub wires : (outside : Operands) → AreWires part outside base → NetsAreThere (behind part outside base) nets → AreWires part outside new
    pub there : (outside : Operands) → AreWires part outside base → NetsAreThere (behind part outside base) nets → IsAvailable (behind part outside new) slot
    pub shows :
        (outside : Operands) (v : Env (Name P)) (t : TableState) (before : StageValues) → AreWires part outside base → NetsAreThere (behind part outside base) nets → AreFit v outside → Solve v part 0 new → IsSought p row r j → ShowsReads v p nets t before j
        → ShowsSlot v p t before j slot

  pub none_sought : (ws : Wires) → AreSought part p row r nets ws ws []
  none_sought ws = record {
    adds = no_wires ws;
    operands = All-nil IsOperand;
    bits = All-nil (HasBits nets.bits);
    wires = λ outside a hand. a;
    there = λ outside a hand. All-nil (IsAvailable (behind part outside ws));
    shows = λ outside v t before a hand fit solved j d lt. absurd (omega (arith, lt));
  }

  module _ (base ws : Wires) (slots : Operands) (x : AreSought part p row r nets base ws slots) where
    push : (Q : Operand (Name P) → Type 0) (slot : Operand (Name P)) → All Q slots → Q slot → All Q (slots ++ slot ∷ [])
    push Q slot h q = All-append Q slots (slot ∷ []) h (All-cons Q slot [] q (All-nil Q))

    pub sought_more : (new : Wires) (slot : Operand (Name P)) → IsSearched base ws new (length slots) slot → AreSought part p row r nets base new (slots ++ slot ∷ [])
    sought_more new slot y = record {
      adds = adds_then base ws new x.adds y.adds;
      operands = push IsOperand slot x.operands y.operand;
      bits = push (HasBits nets.bits) slot x.bits y.bits;
      wires = y.wires;
      there = λ outside a hand. push (IsAvailable (behind part outside new)) slot (λ k d lt. y.adds.stays outside _ (x.there outside a hand k d lt)) (y.there outside a hand);
      shows = λ outside v t before a hand fit solved j d lt sought reads. by outside v t before a hand fit solved j d lt sought reads (cases_lt j (length slots));
    }
      where
        by :
            (outside : Operands) (v : Env (Name P)) (t : TableState) (before : StageValues) → AreWires part outside base → NetsAreThere (behind part outside base) nets → AreFit v outside → Solve v part 0 new → (j : ℕ) (d : Operand (Name P)) → j < length (slots ++ slot ∷ []) → IsSought p row r j
            → ShowsReads v p nets t before j → (j < length slots) ⊎ (length slots ≤ j) → ShowsSlot v p t before j (get_or (slots ++ slot ∷ []) j d)
        by outside v t before a hand fit solved j d lt sought reads (inl less) = subst (ShowsSlot v p t before j) (sym (get_or_append_left slots (slot ∷ []) d j less)) (x.shows outside v t before a hand fit (y.adds.before v solved) j d less sought reads)
        by outside v t before a hand fit solved j d lt sought reads (inr over) =
            let e : j ≡ length slots = omega (arith, over, lt, length-append slots (slot ∷ [])) in
            subst (ShowsSlot v p t before j) (sym (get_or_push slots slot d j (sym e)))
            (subst (λ i. ShowsSlot v p t before i slot) (sym e) (y.shows outside v t before a hand fit solved (subst (IsSought p row r) e sought) (subst (ShowsReads v p nets t before) e reads)))

    -- of a site that is not read in the row, or looks for no key
    pub not_sought : (j : ℕ) → (IsSought p row r j → ⊥) → IsSearched base ws ws j (Known 0)
    not_sought j none = record {
      adds = no_wires ws;
      operand = omega arith;
      bits = pow_pos nets.bits;
      wires = x.wires;
      there = λ outside a hand. tt;
      shows = λ outside v t before a hand fit solved sought. absurd (none sought);
    }

    -- of one that looks for what an earlier one does
    pub same_sought : (i j : ℕ) (slot : Operand (Name P)) → i < length slots → slot ≡ get_or slots i slot → AsksSame p row r i j → IsSearched base ws ws j slot
    same_sought i j slot lt is same = record {
      adds = no_wires ws;
      operand = subst IsOperand (sym is) (x.operands i slot lt);
      bits = subst (HasBits nets.bits) (sym is) (x.bits i slot lt);
      wires = x.wires;
      there = λ outside a hand. subst (IsAvailable (behind part outside ws)) (sym is) (x.there outside a hand i slot lt);
      shows = λ outside v t before a hand fit solved sought reads.
          same_slot v p t before i j same.map same.key slot (subst (ShowsSlot v p t before i) (sym is) (x.shows outside v t before a hand fit solved i slot lt same.sought (record { maps = reads.maps; sites = reads.sites; entry = λ d e. absurd (plain_access (site_at p.sites i).act e same.sought.4) })));
    }

    -- of one that is looked for
    module _ (staged : IsStaged p row (decls_of nets.maps.now) nets.bits) (are : AreNets p nets) (tables : HaveTables (decls_of nets.maps.now)) (s : OwnSite (Name P)) (own : IsOwnOf p nets.sites.now s) (m : MapNets (Name P)) (is : m ≡ get_or nets.maps.now (site_at p.sites s.site).map m) (new : Wires) (slot : Operand (Name P)) (operand : IsOperand slot)
        (bits : HasBits m.bits slot)
        (gives : (t : TableState) (h : StageValues) → IsMapOf t (site_at p.sites s.site).map m.decl.now → Gives part ws new (cells_of s ++ slot_cells m) (λ v. ShowsAsked v p h s.site (operands_of s.nets.now) × ShowsTable v t (site_at p.sites s.site).map m)
        (λ v. pointer_number (slot_pointer (table_at t (site_at p.sites s.site).map) (asked_key t.decls h (site_at p.sites s.site)))) m.bits slot) where
      given : (t : TableState) (h : StageValues) → AreTables t → t.decls ≡ decls_of nets.maps.now → Gives part ws new (cells_of s ++ slot_cells m) (λ v. ShowsAsked v p h s.site (operands_of s.nets.now) × ShowsTable v t (site_at p.sites s.site).map m) (λ v. pointer_number (slot_pointer (table_at t (site_at p.sites s.site).map) (asked_key t.decls h (site_at p.sites s.site)))) m.bits slot
      given t h at decls = gives t h (is_map_of p row nets staged are s.site own.site m is t at decls)

      any : Gives part ws new (cells_of s ++ slot_cells m) (λ v. ShowsAsked v p (record { values = []; pointers = [] }) s.site (operands_of s.nets.now) × ShowsTable v tables.some (site_at p.sites s.site).map m) (λ v. pointer_number (slot_pointer (table_at tables.some (site_at p.sites s.site).map) (asked_key tables.some.decls (record { values = []; pointers = [] }) (site_at p.sites s.site)))) m.bits slot
      any = given tables.some (record { values = []; pointers = [] }) tables.tables tables.declared

      taken_at : (outside : Operands) → AreWires part outside base → NetsAreThere (behind part outside base) nets → All (IsAvailable (behind part outside ws)) (cells_of s ++ slot_cells m)
      taken_at outside a hand =
          let ins = behind part outside ws in
          let later = nets_still_there (behind part outside base) ins nets (x.adds.stays outside) hand in
          All-append (IsAvailable ins) (cells_of s) (slot_cells m) (subst (λ n. All (IsAvailable ins) (all_of (operands_of n))) (sym own.nets) (later.sites s.site s.nets.now (omega (arith, own.site, are.count))))
          (subst (λ n. All (IsAvailable ins) (slot_cells n)) (sym is) (later.maps (site_at p.sites s.site).map m (map_in p row nets staged are s.site own.site)))

      pub is_searched : IsSearched base ws new s.site slot
      is_searched = record {
        adds = record { before = any.before; stays = any.stays; apart = keeps_apart part ws new (cells_of s ++ slot_cells m) (slot ∷ []) any.apart };
        operand = operand;
        bits = subst (λ w. HasBits w slot) (its_nets p row nets staged are s.site own.site m is).same bits;
        wires = λ outside a hand. (any.given outside (x.wires outside a hand) (taken_at outside a hand)).wires;
        there = λ outside a hand. (any.given outside (x.wires outside a hand) (taken_at outside a hand)).there;
        shows = λ outside v t before a hand fit solved sought reads.
            ((given t before reads.maps.tables reads.maps.decls).given outside (x.wires outside a hand) (taken_at outside a hand)).value v fit solved (
              (subst (λ n. ShowsAsked v p before s.site (operands_of n)) (sym own.nets) (reads.sites s.site s.nets.now own.site).asked),
              subst (ShowsTable v t (site_at p.sites s.site).map) (sym is) (reads.maps.maps (site_at p.sites s.site).map m (map_in p row nets staged are s.site own.site)),
            );
      }

  -- the same of what may not be there
  pub ok_searched :
      {E : Type 0} (base ws new : Wires) (slots : Operands) (sought : AreSought part p row r nets base ws slots) (staged : IsStaged p row (decls_of nets.maps.now) nets.bits) (are : AreNets p nets) (tables : HaveTables (decls_of nets.maps.now)) (s : OwnSite (Name P)) (own : IsOwnOf p nets.sites.now s) (m : MapNets (Name P))
      (is : m ≡ get_or nets.maps.now (site_at p.sites s.site).map m) → s.site ≡ length slots → (x : Result (Operand (Name P)) E) → IfOk x IsOperand → IfOk x (HasBits m.bits)
      → ((t : TableState) (h : StageValues) → IsMapOf t (site_at p.sites s.site).map m.decl.now → IfOk x (Gives part ws new (cells_of s ++ slot_cells m) (λ v. ShowsAsked v p h s.site (operands_of s.nets.now) × ShowsTable v t (site_at p.sites s.site).map m)
      (λ v. pointer_number (slot_pointer (table_at t (site_at p.sites s.site).map) (asked_key t.decls h (site_at p.sites s.site)))) m.bits))
      → IfOk x (λ slot. AreSought part p row r nets base new (slots ++ slot ∷ []))
  ok_searched base ws new slots sought staged are tables s own m is number (Ok slot) operand bits gives =
      sought_more base ws slots sought new slot (subst (λ j. IsSearched base ws new j slot) number (is_searched base ws slots sought staged are tables s own m is new slot operand bits gives))
  ok_searched base ws new slots sought staged are tables s own m is number (Err e) operand bits gives = tt

  -- ---- the reads after them
  pub read_sought :
      (old mid new : Wires) (slots : Operands) (n : ℕ) (a b c d : List (Option (Operand (Name P)))) → AreSought part p row r nets old mid slots → AreRead part p row r nets slots 0 n mid new a b c d → AreRead part p row r nets [] 0 n old new a b c d
  read_sought old mid new slots n a b c d x y = record {
    cells_are = y.cells_are;
    pointers_are = y.pointers_are;
    found = y.found;
    read = y.read;
    grows = y.grows;
    grows_pointers = y.grows_pointers;
    earlier = λ v s. x.adds.before v (y.earlier v s);
    stays = λ outside o h. y.stays outside o (x.adds.stays outside o h);
    there = λ outside hand both. y.there outside (all_mid outside hand.nets_there both.wires) (both_mid outside hand.nets_there both);
    value = λ outside v t packet held h hand both fit solved shows made cells those.
        y.value outside v t packet held h (all_mid outside hand.nets_there both.wires) (both_mid outside hand.nets_there both) fit solved (record {
          alike = shows.alike;
          reads = λ k j l e o. record {
            reads = (shows.reads k j l e o).reads;
            slot = λ z lt finds. x.shows outside v t held both.wires hand.nets_there fit (y.earlier v solved) j z lt (k, l, e, o, finds) (shows.reads k j l e o).reads;
          };
        }) made cells those;
    apart = λ clean marks early keep. let first = x.adds.apart clean marks a keep in y.apart clean first.0 early first.1;
  }
    where
      all_mid : (outside : Operands) → NetsAreThere (behind part outside old) nets → AreWires part outside old → AllAreThere (behind part outside mid) nets slots
      all_mid outside hand wires = record { nets_there = nets_still_there (behind part outside old) (behind part outside mid) nets (x.adds.stays outside) hand; slots_there = x.there outside wires hand }

      both_mid : (outside : Operands) → NetsAreThere (behind part outside old) nets → BothThere part outside old a c → BothThere part outside mid a c
      both_mid outside hand both = record { wires = x.wires outside both.wires hand; cells = λ k z s. x.adds.stays outside z (both.cells k z s); pointers = λ k z s. x.adds.stays outside z (both.pointers k z s) }
