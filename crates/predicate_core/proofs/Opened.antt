-- The cells of what a machine holds at the start.
use Rattle.std.proofs.Common.{◌≡◌, ℕ, zero, suc, ◌+◌, ◌<◌, ◌≤◌, ◌⊎◌, inl, inr, List, [], ◌∷◌, length, get_or, pos, refl, sym, ◌∙◌, ap, subst, arith}
use Rattle.std.specs.Prelude.{slice_index, slice_set, All}
use Rattle.std.proofs.lemmas.Bool.{cases_lt}
use Rattle.std.proofs.lemmas.List.{get_or-set_same, get_or-set_other, get_or-replicate, get_or_past}
use Rattle.std.proofs.lemmas.List.Elements.{All-nil, All-cons}
use Rattle.xdp_machine.specs.xdp_maps.declared.decl.MapDecl.{MapDecl}
use Rattle.xdp_machine.specs.xdp_maps.State.{MapState, IsSound}
use Rattle.xdp_machine.specs.Values.{Value}
use Rattle.xdp_machine.specs.Values as is
use Rattle.xdp_machine.specs.State.{Machine, PacketIn, start}
use Rattle.xdp_machine.specs.MachineLaws.{StartsInRange}
use Rattle.kind_core.specs.declared.number.Number.TheVariants.{Known}
use Rattle.kind_core.specs.declared.kind.Kind.{Kind}
use Rattle.kind_core.specs.declared.kind.Kind.TheVariants.{Unset, Num, Stack, Ctx}
use Rattle.kind_core.specs.declared.kind.Kinds.{Kinds}
use Rattle.kind_core.specs.declared.kind.Offsets.TheVariants.{Fixed}
use Rattle.kind_core.specs.Kinds as kinds
use Rattle.kind_core.specs.Kinds.{value_bytes}
use Rattle.kind_core.specs.Describes.{StartIsDescribed}
use Rattle.cell_core.specs.declared.operator.Operator.TheVariants.{Constant, Byte}
use Rattle.cell_core.specs.Cells.{CellView, IsRun, bits_from, bit, on}
use Rattle.operator_cells.specs.Making.{Grows, Makes, operated}
use Rattle.operator_cells.specs.Rising.{Rises}
use Rattle.operator_cells.proofs.MakingLaws.{grown, grown_none}
use Rattle.operator_cells.specs.declared.held_cells.machine_cells.RegisterCells.{RegisterCells}
use Rattle.operator_cells.specs.declared.held_cells.way.Way.{Way}
use Rattle.operator_cells.specs.HeldCells.Paths.{GraphView, At, node_at, before, maps_in}
use Rattle.operator_cells.specs.HeldCells.RegisterCells.{PointerView, Holds, Counts, AreInside}
use Rattle.operator_cells.specs.HeldCells.Carrying.{IsKnown}
use Rattle.operator_cells.specs.HeldCells.Steps.{Leads, IsGood}
use Rattle.operator_cells.specs.HeldCells.Law.{IsPacket}
use Rattle.predicate_core.specs.Buildable.{AddsNoRow}
use Rattle.predicate_core.specs.Making.{Making, IsSoFar, IsCase}
use Rattle.predicate_core.specs.Opening.{HaveBytes, AreBytes, Opens, OpensFollow}
use Rattle.predicate_core.proofs.LastRow.{no_row_none, no_row_then, no_row_more}

-- ---- bytes

pub byte_below : (xs : List ℕ) (i : ℕ) → All (λ b. b < 256) xs → slice_index xs i < 256
byte_below xs i h = by (cases_lt i (length xs))
  where
    by : (i < length xs) ⊎ (length xs ≤ i) → slice_index xs i < 256
    by (inl l) = h i 0 l
    by (inr l) = omega (arith, get_or_past xs i 0 l)

eight : (x : ℕ) → x < 256 → bits_from x 0 8 ≡ x
eight x h = omega (arith, h)

pub bytes_none : (cells : List CellView) (window : List ℕ) → AreBytes cells cells 0 window
bytes_none cells window = record { grows = grown_none; no_row = no_row_none cells; bytes = record { there = λ i l. absurd (omega (arith, l)); value = λ packet v i l. absurd (omega (arith, l)) } }

first_row : (a b : List CellView) (c : ℕ) → Rises a b c (λ row. 0) → AddsNoRow a b
first_row a b c rises = no_row_more a b (λ row. 0) rises.grows (λ row n low. omega arith)

pub bytes_more : (old mid new : List CellView) (n : ℕ) (window : List ℕ) (c : ℕ) → n < length window → AreBytes old mid n window → Makes mid new c (operated (Byte n) [] 0 8) → Rises mid new c (λ row. 0)
    → AreBytes old new (n + 1) (slice_set window n c)
bytes_more old mid new n window c inside bytes made rises = record {
  grows = grown bytes.grows made.grows;
  no_row = no_row_then old mid new made.grows bytes.no_row (first_row mid new c rises);
  bytes = record { there = λ i l. there i l (cases_lt i n); value = λ packet v i l. value packet v i l (cases_lt i n) };
}
  where
    here : (i : ℕ) → n ≤ i → i < n + 1 → slice_index (slice_set window n c) i ≡ c
    here i l m = let e : n ≡ i = omega (arith, l, m) in subst (λ (j : ℕ). slice_index (slice_set window n c) j ≡ c) e (get_or-set_same window n c 0 inside)

    other : (i : ℕ) → i < n → slice_index (slice_set window n c) i ≡ slice_index window i
    other i l = get_or-set_other window n i c 0 (λ e. absurd (omega (arith, l, e)))

    there : (i : ℕ) → i < n + 1 → (i < n) ⊎ (n ≤ i) → slice_index (slice_set window n c) i < length new
    there i m (inl l) = omega (arith, other i l, bytes.bytes.there i l, made.grows.longer)
    there i m (inr l) = omega (arith, here i l m, made.there)

    value : (packet : PacketIn) (v : ℕ → ℕ) (i : ℕ) → i < n + 1 → (i < n) ⊎ (n ≤ i) → IsRun packet new v → All (λ b. b < 256) packet.frame → v (slice_index (slice_set window n c) i) ≡ slice_index packet.frame i
    value packet v i m (inl l) run short = ap v (other i l) ∙ bytes.bytes.value packet v i l (made.grows.run packet v run) short
    value packet v i m (inr l) run short =
        let e : n ≡ i = omega (arith, l, m) in
        ap v (here i l m) ∙ made.value packet v run ∙ eight (slice_index packet.frame n) (byte_below packet.frame n short) ∙ ap (slice_index packet.frame) e

pub bytes_later : (a b : List CellView) (n : ℕ) (window : List ℕ) → Grows a b → HaveBytes a n window → HaveBytes b n window
bytes_later a b n window g h = record { there = λ i l. omega (arith, h.there i l, g.longer); value = λ packet v i l run short. h.value packet v i l (g.run packet v run) short }

-- ---- the edge to the first node

pub opened : (a b c d : List CellView) (bit target : ℕ) (k : Kinds) (held : RegisterCells) → k ≡ kinds.start Fixed → Makes a b bit (operated (Constant 1) [] 0 1) → Rises a b bit (λ row. 0) → AreBytes b c 256 held.window → Makes c d target (operated (Constant 0) [] 0 32) → Rises c d target (λ row. 0)
    → held.target ≡ target → Opens a d (record { to = 0; bit = bit; kinds = k; held = held })
opened a b c d bit target k held first one one_row bytes zeros zeros_row is = record {
  grows = grown one.grows (grown bytes.grows zeros.grows);
  no_row = no_row_then a c d zeros.grows (no_row_then a b c bytes.grows (first_row a b bit one_row) bytes.no_row) (first_row c d target zeros_row);
  to_first = refl;
  kinds_are = first;
  bit_there = omega (arith, one.there, bytes.grows.longer, zeros.grows.longer);
  bit = λ packet v run. one.value packet v (bytes.grows.run packet v (zeros.grows.run packet v run));
  bytes = bytes_later c d 256 held.window zeros.grows bytes.bytes;
  target_there = omega (arith, is, zeros.there);
  target = λ packet v run. ap v is ∙ zeros.value packet v run;
}

-- ---- what is known and held there

start_register : (P : Kind → Type 0) → P Unset → P Ctx → P (Stack (pos 0)) → (r : ℕ) → P (get_or (kinds.start Fixed).registers r Unset)
start_register P u c s zero = u
start_register P u c s (suc zero) = c
start_register P u c s (suc (suc zero)) = u
start_register P u c s (suc (suc (suc zero))) = u
start_register P u c s (suc (suc (suc (suc zero)))) = u
start_register P u c s (suc (suc (suc (suc (suc zero))))) = u
start_register P u c s (suc (suc (suc (suc (suc (suc zero)))))) = u
start_register P u c s (suc (suc (suc (suc (suc (suc (suc zero))))))) = u
start_register P u c s (suc (suc (suc (suc (suc (suc (suc (suc zero)))))))) = u
start_register P u c s (suc (suc (suc (suc (suc (suc (suc (suc (suc zero))))))))) = u
start_register P u c s (suc (suc (suc (suc (suc (suc (suc (suc (suc (suc zero)))))))))) = s
start_register P u c s (suc (suc (suc (suc (suc (suc (suc (suc (suc (suc (suc r))))))))))) = u

start_slot : (s : ℕ) → s < 64 → get_or (kinds.start Fixed).slots s Unset ≡ Num (Known 0)
start_slot s l = get_or-replicate 64 s (Num (Known 0)) Unset l

inside_start : (decls : List MapDecl) (n : ℕ) (ps : List PointerView) (h : RegisterCells) → ((i : ℕ) → i < 256 → slice_index h.window i < n) → h.target < n → AreInside decls n ps h (kinds.start Fixed)
inside_start decls n ps h window target = record {
  registers = λ r l. start_register (λ k. Counts decls n ps k (slice_index h.registers r)) tt tt tt r;
  slots = λ s l. subst (λ (k : Kind). Counts decls n ps k (slice_index h.slots s)) (sym (start_slot s l)) tt;
  window = window;
  target = target;
  offsets = refl;
}

known_start : StartIsDescribed → StartsInRange → (g : GraphView) (packet : PacketIn) (maps : MapState) (v : ℕ → ℕ) (ps : List PointerView) (h : RegisterCells) → IsPacket packet → IsSound maps → maps.decls ≡ g.decls
    → ((q : ℕ) → value_bytes g.decls q ≤ 64) → ((i : ℕ) → i < 256 → v (slice_index h.window i) ≡ slice_index packet.frame i) → v h.target ≡ 0
    → IsKnown g.decls packet v ps 0 (kinds.start Fixed) h (start packet maps)
known_start described starts g packet maps v ps h came sound decls values window target = record {
  world = record { frame = length packet.frame; node = 0; gave = λ n. is.Unset };
  node_is = omega arith;
  stands = record {
    described = described Fixed (λ n. is.Unset) (start packet maps) refl refl;
    registers = refl;
    slots = refl;
    stack = refl;
    range = starts packet maps came.bytes (omega (arith, came.short)) came.ifindex came.time sound;
    values = λ q. subst (λ (ds : List MapDecl). value_bytes ds q ≤ 64) (sym decls) (values q);
  };
  in_range = starts packet maps came.bytes (omega (arith, came.short)) came.ifindex came.time sound;
  decls_are = decls;
  filled = λ s l e. absurd (let f : Num (Known 0) ≡ Unset = sym (start_slot s l) ∙ e in cc);
  held = record {
    registers = λ r l. start_register (λ k. Holds g.decls v ps k (slice_index h.registers r) (get_or (start packet maps).registers r is.Unset)) tt tt tt r;
    slots = λ s l. subst (λ (k : Kind). Holds g.decls v ps k (slice_index h.slots s) (get_or (start packet maps).stack s is.Unset)) (sym (start_slot s l)) tt;
    length_is = refl;
    window = λ i l. sym (window i l);
    rest = λ i l. refl;
    target = sym target;
    ifindex = refl;
    time = refl;
  };
}

module _ (described : StartIsDescribed) (starts : StartsInRange) (g : GraphView) (cells : List CellView) (e : Way) (opens : Opens [] cells e) (some : 0 < length g.nodes) (first : (node_at g.nodes 0).place ≡ 0) (values : (q : ℕ) → value_bytes g.decls q ≤ 64) where
  abbrev pub t : Making
  t = record { cells = cells; pointers = []; sites = []; ways = e ∷ []; exits = []; nodes = [] }

  known : (packet : PacketIn) (maps : MapState) (v : ℕ → ℕ) → IsCase g t packet maps v 0 → IsKnown g.decls packet v [] e.to e.kinds e.held (start packet maps)
  known packet maps v case =
      subst (λ (n : ℕ). IsKnown g.decls packet v [] n e.kinds e.held (start packet maps)) (sym opens.to_first)
      (subst (λ (k : Kinds). IsKnown g.decls packet v [] 0 k e.held (start packet maps)) (sym opens.kinds_are)
      (known_start described starts g packet maps v [] e.held case.is_packet case.sound case.decls values (λ i l. opens.bytes.value packet v i l case.run case.is_packet.bytes) (opens.target packet v case.run)))

  good : (packet : PacketIn) (maps : MapState) (v : ℕ → ℕ) → IsCase g t packet maps v 0 → IsGood g packet v [] 0 (e ∷ []) [] (At 0 (start packet maps))
  good packet maps v case = record {
    bits = All-cons (λ x. v x.bit < 2) e [] (omega (arith, opens.bit packet v case.run)) (All-nil (λ x. v x.bit < 2));
    ahead = λ n m at. (omega arith, let f : 0 ≡ n = cc at in omega (arith, some, f));
    placed = λ n m at. (let e : start packet maps ≡ m = cc at in let f : 0 ≡ n = cc at in sym (ap (λ (x : Machine). x.place) e) ∙ sym first ∙ ap (λ (j : ℕ). (node_at g.nodes j).place) f);
    each = All-cons (λ x. 0 ≤ x.to → Leads g packet v [] (At 0 (start packet maps)) x) e [] (λ l o. (start packet maps, ap (λ (n : ℕ). At n (start packet maps)) (sym opens.to_first), known packet maps v case))
        (All-nil (λ x. 0 ≤ x.to → Leads g packet v [] (At 0 (start packet maps)) x));
    some = λ n m at. (e, (0, omega arith, refl), (let f : 0 ≡ n = cc at in opens.to_first ∙ f), ap on (opens.bit packet v case.run));
    ends = All-nil _;
    ended = λ l at. absurd (cc at);
    somewhere = λ at. absurd (cc at);
  }

  pub so_far : IsSoFar g 0 [] t
  so_far = record {
    formed = opens.grows.formed (record { each = λ k l. absurd (omega (arith, l)) });
    numbers = opens.grows.alone (λ k l. absurd (omega (arith, l)));
    made = record {
      each_way = All-cons (λ x. (x.bit < length cells) × AreInside g.decls (length cells) [] x.held x.kinds) e []
          (opens.bit_there, subst (λ (k : Kinds). AreInside g.decls (length cells) [] e.held k) (sym opens.kinds_are) (inside_start g.decls (length cells) [] e.held opens.bytes.there opens.target_there)) (All-nil _);
      each_exit = All-nil _;
    };
    held_count = refl;
    inside = λ j l. absurd (omega (arith, l));
    laid = record {
      count = refl;
      places = λ j l. absurd (omega (arith, l));
      inside = λ j l. absurd (omega (arith, l));
      ascending = λ j l. absurd (omega (arith, l));
      low = All-nil _;
      split = λ j l. absurd (omega (arith, l));
      sites = λ i j d l h. absurd (omega (arith, h));
      guards = All-nil _;
      below = All-nil _;
    };
    rows = λ row rows c l. opens.no_row row 0 rows (λ k m. absurd (omega (arith, m))) c l;
    right = record {
      guards = λ packet maps v j l. absurd (omega (arith, l));
      holds = λ packet maps v j m l. absurd (omega (arith, l));
      does = λ packet maps v j m l. absurd (omega (arith, l));
      maps_are = λ packet maps v j l case. let f : 0 ≡ j = omega (arith, l) in subst (λ (i : ℕ). maps ≡ maps_in maps (before g packet maps i)) f refl;
      good = good;
    };
    sited = record {
      fits = λ j l. absurd (omega (arith, l));
      known = λ k j l is. absurd (opens.grows.reads k j (omega arith) l is);
      below = λ k j i l is. absurd (opens.grows.reads k j (omega arith) l is);
    };
  }

pub opens_follow : StartIsDescribed → StartsInRange → OpensFollow
opens_follow described starts g cells e opens some first values = so_far described starts g cells e opens some first values
