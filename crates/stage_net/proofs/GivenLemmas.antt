-- What a site of the program reads, over what stands at the place.
use Rattle.std.specs.Prelude.{Result, Ok, Err, IfOk}
use Rattle.std.proofs.Common.{◌≡◌, ◌∙◌, ℕ, zero, suc, ◌/◌, All, List, [], ◌∷◌, length, get_or, map, refl, sym, ap, subst, arith}
use Rattle.std.proofs.lemmas.List.Elements.{All-cons}
use Rattle.block_core.specs.net_core.Value.{Env}
use Rattle.block_core.specs.declared.name.Name.{Name}
use Rattle.block_core.specs.Blocks.{BlockWireTree}
use Rattle.hazard_core.specs.cell_core.Acts.{finds_key, reads}
use Rattle.hazard_core.specs.cell_core.Sites.{ProgramView, site_at}
use Rattle.hazard_core.specs.Tables.{TableState}
use Rattle.hazard_core.specs.Tabled.{AreTables}
use Rattle.hazard_core.specs.declared.pointer.Pointer.{Pointer}
use Rattle.hazard_core.specs.declared.pointer.Pointer.TheVariants.{Null, InSlot}
use Rattle.hazard_core.specs.StageValues.{StageValues, access_pointer, pending, pointer_operand}
use Rattle.overlay_net.specs.cell_nets.declared.operand.Operand.{Operand}
use Rattle.overlay_net.specs.cell_nets.Operands.{IsAvailable}
use Rattle.overlay_net.specs.cell_nets.Wires.{behind}
use Rattle.overlay_net.specs.ValueNet.Words.{answers_number, access_start}
use Rattle.read_net.specs.declared.sites.OwnSite.{OwnSite}
use Rattle.read_net.specs.declared.sites.MapNets.{MapNets}
use Rattle.read_net.specs.declared.sites.ReadNets.{ReadNets}
use Rattle.read_net.specs.Sites.{sites_of}
use Rattle.overlay_net.specs.Reading.{ShowsSlot}
use Rattle.read_net.specs.Reads.{taken, AreCells, IsReadOf}
use Rattle.read_net.specs.Accesses.{HaveOperands, ShowsWord}
use Rattle.stage_net.specs.declared.row.StageNets.{StageNets}
use Rattle.stage_net.specs.Nets.{IsOwnOf, decls_of, AreNets}
use Rattle.stage_net.specs.Reads.{HasEntry, ShowsUnder, ShowsUnderKey, SiteReads}
use Rattle.stage_net.specs.Staged.{HaveTables, IsStaged}
use Rattle.stage_net.specs.Rows.{ShowsReads, ShowsFound, AllAreThere, IsSiteRead}
use Rattle.stage_net.proofs.OwnLemmas.{its_nets, is_read_of, have_operands, taken_there, shows_all}

-- ---- a packet that holds nothing has no pointer
abbrev nothing : StageValues
nothing = record { values = []; pointers = [] }

null_at : (xs : List ℕ) (k : ℕ) → get_or (map (λ (c : ℕ). Null) xs) k Null ≡ Null
null_at [] k = refl
null_at (x ∷ xs) zero = refl
null_at (x ∷ xs) (suc k) = null_at xs k

no_slot : (p : Pointer) (n : ℕ) → p ≡ Null → p ≡ InSlot n → ⊥
no_slot p n e f = let g = sym e ∙ f in cc

-- ---- a site, and the operations that its read sees, as they are found
pub record IsReadSite {N : Type 0} (p : ProgramView) (row : ℕ → ℕ) (r : ℕ) (nets : StageNets N) (s : OwnSite N) (ss : List (OwnSite N)) (m : MapNets N) (word : Operand N) : Type 0 where
  pub own : IsOwnOf p nets.sites.now s
  pub owns : All (IsOwnOf p nets.sites.now) ss
  pub seen : sites_of ss ≡ pending p row r s.site
  pub map : m ≡ get_or nets.maps.now (site_at p.sites s.site).map m
  pub word_is : word ≡ get_or nets.words.now s.site word

pub read_site_of :
    {N : Type 0} (p : ProgramView) (row : ℕ → ℕ) (r : ℕ) (nets : StageNets N) (s : OwnSite N) (os ss : List (OwnSite N)) (m : MapNets N) (word : Operand N) (j at : ℕ) → IsOwnOf p nets.sites.now s → s.site ≡ j → All (IsOwnOf p nets.sites.now) os → sites_of os ≡ pending p row r j → ss ≡ os → at ≡ (site_at p.sites j).map
    → m ≡ get_or nets.maps.now at m → word ≡ get_or nets.words.now j word → IsReadSite p row r nets s ss m word
read_site_of p row r nets s os ss m word j at own number owns seen same map is word_is = record {
  own = own;
  owns = subst (All (IsOwnOf p nets.sites.now)) (sym same) owns;
  seen = ap sites_of same ∙ seen ∙ ap (pending p row r) (sym number);
  map = is ∙ ap (λ k. get_or nets.maps.now k m) (map ∙ ap (λ i. (site_at p.sites i).map) (sym number));
  word_is = word_is ∙ ap (λ i. get_or nets.words.now i word) (sym number);
}

module _ {P : Type 0} (part : P) (p : ProgramView) (row : ℕ → ℕ) (r : ℕ) (nets : StageNets (Name P)) (staged : IsStaged p row (decls_of nets.maps.now) nets.bits) (are : AreNets p nets) (tables : HaveTables (decls_of nets.maps.now)) (old new : List (BlockWireTree (Name P))) (s : OwnSite (Name P)) (ss : List (OwnSite (Name P))) (m : MapNets (Name P)) (slot word : Operand (Name P))
    (read : IsReadSite p row r nets s ss m word) (slots : List (Operand (Name P))) (many : length slots ≡ length p.sites) (slot_is : slot ≡ get_or slots s.site slot) (from width : ℕ) (o : ReadNets (Name P))
    (gives : (t : TableState) (h : StageValues) → IsReadOf p t row r m s ss → HaveOperands p ss → HasEntry p t h s → SiteReads part old new m s ss slot word from width p t h row r o) where
  abbrev own : IsOwnOf p nets.sites.now s
  own = read.own

  abbrev owns : All (IsOwnOf p nets.sites.now) ss
  owns = read.owns

  abbrev seen : sites_of ss ≡ pending p row r s.site
  seen = read.seen

  abbrev is : m ≡ get_or nets.maps.now (site_at p.sites s.site).map m
  is = read.map

  abbrev word_is : word ≡ get_or nets.words.now s.site word
  word_is = read.word_is

  given : (t : TableState) (h : StageValues) → AreTables t → t.decls ≡ decls_of nets.maps.now → HasEntry p t h s → SiteReads part old new m s ss slot word from width p t h row r o
  given t h tables decls entry = gives t h (is_read_of p row nets staged are r s own ss owns seen m is t tables decls) (have_operands p row nets staged are r s own ss owns seen m is) entry

  base : SiteReads part old new m s ss slot word from width p tables.some nothing row r o
  base = given tables.some nothing tables.tables tables.declared (λ e n f. absurd (no_slot (access_pointer nothing (site_at p.sites s.site)) n (null_at (site_at p.sites s.site).operands (pointer_operand (site_at p.sites s.site).act)) f))

  module _ (v : Env (Name P)) (t : TableState) (h : StageValues) (x : ShowsReads v p nets t h s.site) where
    has_entry : HasEntry p t h s
    has_entry e = (x.entry word (ap answers_number own.act ∙ e)).value

    shows_under : ShowsUnder v p t h s word
    shows_under e =
        let k = (site_at p.sites s.site).map in
        let under = access_pointer h (site_at p.sites s.site) in
        subst (λ a. ShowsWord v t k (access_start a / 8) under word) own.act (subst (ShowsWord v t k (access_start (site_at p.sites s.site).act / 8) under) (sym word_is) (x.entry word (ap answers_number own.act ∙ e)).under)

  under_key : (v : Env (Name P)) (t : TableState) (h : StageValues) → ShowsFound v p nets slots t h s.site → ShowsUnderKey v p t h s slot
  under_key v t h x e = subst (ShowsSlot v p t h s.site) (sym slot_is) (x.slot slot (omega (arith, many, own.site)) (ap finds_key own.act ∙ e))

  all_taken : (outside : List (Operand (Name P))) → AllAreThere (behind part outside old) nets slots → All (IsAvailable (behind part outside old)) (slot ∷ word ∷ taken m s ss)
  all_taken outside hand =
      let ins = behind part outside old in
      All-cons (IsAvailable ins) slot (word ∷ taken m s ss) (subst (IsAvailable ins) (sym slot_is) (hand.slots_there s.site slot (omega (arith, many, own.site)))) (taken_there p row nets staged are r s own ss owns seen m is ins hand.nets_there word word_is)

  its_read : IsSiteRead part p row r nets slots s.site from width old new o
  its_read = record {
    cells = subst (λ w. AreCells w width o) (its_nets p row nets staged are s.site own.site m is).same base.cells;
    adds = base.adds;
    wires = λ outside a hand. base.wires outside a (all_taken outside hand);
    there = λ outside a hand. base.there outside a (all_taken outside hand);
    found = λ e outside v t before a hand fit solved x.
        (given t before x.reads.maps.tables x.reads.maps.decls (has_entry v t before x.reads)).found (sym (ap finds_key own.act) ∙ e) outside v a (all_taken outside hand) fit solved
        (shows_all p row nets staged are r s own ss owns seen m is v t before x.reads) (under_key v t before x);
    answer = λ e outside v t before a hand fit solved x.
        (given t before x.reads.maps.tables x.reads.maps.decls (has_entry v t before x.reads)).answer (sym (ap reads own.act) ∙ e) outside v a (all_taken outside hand) fit solved
        (shows_all p row nets staged are r s own ss owns seen m is v t before x.reads) (under_key v t before x) (shows_under v t before x.reads);
  }

  pub site_given : (j : ℕ) → s.site ≡ j → IsSiteRead part p row r nets slots j from width old new o
  site_given j e = subst (λ i. IsSiteRead part p row r nets slots i from width old new o) e its_read

-- the same of what may not be there
pub ok_site :
    {P E : Type 0} (part : P) (p : ProgramView) (row : ℕ → ℕ) (r : ℕ) (nets : StageNets (Name P)) (staged : IsStaged p row (decls_of nets.maps.now) nets.bits) (are : AreNets p nets) (tables : HaveTables (decls_of nets.maps.now)) (old new : List (BlockWireTree (Name P))) (s : OwnSite (Name P)) (ss : List (OwnSite (Name P))) (m : MapNets (Name P)) (slot word : Operand (Name P))
    (read : IsReadSite p row r nets s ss m word) (slots : List (Operand (Name P))) (many : length slots ≡ length p.sites) (slot_is : slot ≡ get_or slots s.site slot) (j from width f w : ℕ) → s.site ≡ j → from ≡ f → width ≡ w → (x : Result (ReadNets (Name P)) E)
    → ((t : TableState) (h : StageValues) → IsReadOf p t row r m s ss → HaveOperands p ss → HasEntry p t h s → IfOk x (SiteReads part old new m s ss slot word from width p t h row r)) → IfOk x (IsSiteRead part p row r nets slots j f w old new)
ok_site part p row r nets staged are tables old new s ss m slot word read slots many slot_is j from width f w e is_from is_width (Ok o) gives =
    subst (λ n. IsSiteRead part p row r nets slots j f n old new o) is_width (subst (λ n. IsSiteRead part p row r nets slots j n width old new o) is_from (site_given part p row r nets staged are tables old new s ss m slot word read slots many slot_is from width o gives j e))
ok_site part p row r nets staged are tables old new s ss m slot word read slots many slot_is j from width f w e is_from is_width (Err x) gives = tt
