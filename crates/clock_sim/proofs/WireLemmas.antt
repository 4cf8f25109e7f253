-- Wires, one after another.
use Rattle.std.specs.Prelude.{if◌then◌else◌, ◌==◌, nat_le, ◌^◌}
use Rattle.std.proofs.Common.{◌≡◌, ℕ, zero, suc, ◌+◌, ◌<◌, ◌≤◌, true, ◌&&◌, Option, Some, None, List, [], ◌∷◌, ◌++◌, length, get_or, refl, sym, ap, ◌∙◌, subst, arith, ⊎_elim, append_assoc}
use Rattle.std.proofs.Math.Path.{fun_ext}
use Rattle.std.proofs.lemmas.Bool.{and_parts, cases_lt, cases_eq}
use Rattle.std.proofs.lemmas.List.{get_or_append_left, get_or_at, length_push, map_push}
use Rattle.net_core.specs.declared.tree.Word.{Word}
use Rattle.net_core.specs.declared.tree.Net.{Net}
use Rattle.net_core.specs.declared.tree.Net.TheVariants as net
use Rattle.net_core.specs.declared.design.Declared.{Declared}
use Rattle.net_core.specs.Nets.{RightTree, RPlain, RQuotient, RRemainder, WireTree, Netlist}
use Rattle.net_core.specs.Value.{nothing, right_value}
use Rattle.net_core.specs.Width.{Scope, scope, net_width, memory_width, same, right_width, wire_widths, wires_typed}
use Rattle.net_core.specs.Clock.{with_wires, stopped_at, rights, memory_word_value}
use Rattle.net_core.specs.Suits.{IsOfWidth}
use Rattle.net_core.proofs.WidthLaws.{same_parts}
use Rattle.list_laws.proofs.PlaceLaws.{some_below}
use Rattle.clock_sim.specs.declared.builder.Operand.{Operand}
use Rattle.clock_sim.specs.declared.operands.Operands.{Operands}
use Rattle.clock_sim.specs.declared.operands.Widths.{Widths}
use Rattle.clock_sim.specs.declared.wires.Divisor.{Divisor}
use Rattle.clock_sim.specs.Steps.{run}
use Rattle.clock_sim.specs.Flat.{Flat, Situation, IsFine, contents_of, Starts, Gives, Extends, Adds, RightValues, AreOperands, no_operand, no_widths, operand_in, widths_in, scope_of, env_at, AreCells, Knows}
use Rattle.clock_sim.specs.Edges.{Matches, widths_at, sizes_of, AreTyped, divisor_in, IsDivided, AreDivided, first_zero, AreDivisors, Stops, divisors_at, divisors_from}
use Rattle.clock_sim.proofs.StoredLaws.{same_sides}
use Rattle.clock_sim.proofs.BuilderLemmas.{extends_none, extends_more, gives_later}

-- ---- scopes
pub width_get : (ps : List Operand) (k : ℕ) → (get_or ps k no_operand).width ≡ get_or (widths_at ps) k 0
width_get [] k = refl
width_get (p ∷ ps) zero = refl
width_get (p ∷ ps) (suc k) = width_get ps k

pub word_get : (ws : List Widths) (k : ℕ) → (get_or ws k no_widths).word ≡ (get_or (sizes_of ws) k (0, 0)).1
word_get [] k = refl
word_get (w ∷ ws) zero = refl
word_get (w ∷ ws) (suc k) = word_get ws k

pub index_get : (ws : List Widths) (k : ℕ) → (get_or ws k no_widths).index ≡ (get_or (sizes_of ws) k (0, 0)).0
index_get [] k = refl
index_get (w ∷ ws) zero = refl
index_get (w ∷ ws) (suc k) = index_get ws k

module _ (d : Netlist) (n : Operands) (ns : List ℕ) (m : Matches d n) (wires : widths_at n.wires.items ≡ ns) where
  net_same : (k : Net) → (operand_in n k).width ≡ net_width d ns k
  net_same (net.Port k) = m.ports k
  net_same (net.Register k) = width_get n.registers.items k ∙ ap (λ l. get_or l k 0) m.registers
  net_same (net.Memory k) = refl
  net_same (net.Wire k) = width_get n.wires.items k ∙ ap (λ l. get_or l k 0) wires

  word_same : (k : Net) → (widths_in n k).word ≡ (memory_width d k).1
  word_same (net.Port k) = refl
  word_same (net.Register k) = refl
  word_same (net.Memory k) = word_get n.memories.items k ∙ ap (λ (l : List (ℕ × ℕ)). let q : ℕ × ℕ = get_or l k (0, 0) in q.1) m.memories
  word_same (net.Wire k) = refl

  index_same : (k : Net) → (widths_in n k).index ≡ (memory_width d k).0
  index_same (net.Port k) = refl
  index_same (net.Register k) = refl
  index_same (net.Memory k) = index_get n.memories.items k ∙ ap (λ (l : List (ℕ × ℕ)). let q : ℕ × ℕ = get_or l k (0, 0) in q.0) m.memories
  index_same (net.Wire k) = refl

  pub scope_same : scope_of n ≡ scope d ns
  scope_same =
      let make : (Net → ℕ) → (Net → ℕ) → (Net → ℕ) → Scope Net = λ a b c. record { net = a; memory_word = b; index = c } in
      let nets : (λ (k : Net). (operand_in n k).width) ≡ net_width d ns = fun_ext net_same in
      let words : (λ (k : Net). (widths_in n k).word) ≡ (λ (k : Net). (memory_width d k).1) = fun_ext word_same in
      let indexes : (λ (k : Net). (widths_in n k).index) ≡ (λ (k : Net). (memory_width d k).0) = fun_ext index_same in
      ap (λ a. make a (λ k. (widths_in n k).word) (λ k. (widths_in n k).index)) nets
      ∙ ap (λ b. make (net_width d ns) b (λ k. (widths_in n k).index)) words
      ∙ ap (λ c. make (net_width d ns) (λ k. (memory_width d k).1) c) indexes

-- ---- one more wire
pub record AddsOne (n n' : Operands) (p : Operand) : Type 0 where
  pub ports : n'.ports ≡ n.ports
  pub registers : n'.registers ≡ n.registers
  pub memories : n'.memories ≡ n.memories
  pub wires : n'.wires.items ≡ n.wires.items ++ p ∷ []

module _ (n n' : Operands) (p : Operand) (adds : AddsOne n n' p) where
  pub operand_kept : (k : Net) → 0 < (operand_in n k).width → operand_in n' k ≡ operand_in n k
  operand_kept (net.Port k) some = ap (λ v. get_or v.items k no_operand) adds.ports
  operand_kept (net.Register k) some = ap (λ v. get_or v.items k no_operand) adds.registers
  operand_kept (net.Memory k) some = refl
  operand_kept (net.Wire k) some = ap (λ l. get_or l k no_operand) adds.wires ∙ get_or_append_left n.wires.items (p ∷ []) no_operand k (some_below (λ p. p.width) no_operand n.wires.items k refl some)

  widths_kept : (m : Net) → widths_in n' m ≡ widths_in n m
  widths_kept (net.Port k) = refl
  widths_kept (net.Register k) = refl
  widths_kept (net.Memory k) = ap (λ v. get_or v.items k no_widths) adds.memories
  widths_kept (net.Wire k) = refl

  cells_kept : (ds : List Declared) → AreCells ds n → AreCells ds n'
  cells_kept ds h = record { fit = λ m a x fine. subst (λ (w : Widths). 0 < w.word → a < 2 ^ w.index → IsOfWidth w.word (memory_word_value x.stored m a)) (sym (widths_kept m)) (h.fit m a x fine) }

  pub divided_one : (o : Option Net) → IsDivided n o → IsDivided n' o
  divided_one None h = tt
  divided_one (Some b) h = subst (λ (q : Operand). 0 < q.width) (sym (operand_kept b h)) h

  pub divided_later : (ws : List WireTree) → AreDivided n ws → AreDivided n' ws
  divided_later [] h = tt
  divided_later (w ∷ ws) h = (divided_one (divisor_in w.right) h.0, divided_later ws h.1)

  -- where a wire's operand lies
  at_wire : (P : Operand → Type 0) (k : ℕ) → 0 < (operand_in n' (net.Wire k)).width → (k < length n.wires.items → P (operand_in n (net.Wire k))) → (k ≡ length n.wires.items → P p) → P (operand_in n' (net.Wire k))
  at_wire P k some before here =
      ⊎_elim
      (λ lt. subst P (sym (ap (λ l. get_or l k no_operand) adds.wires ∙ get_or_append_left n.wires.items (p ∷ []) no_operand k lt)) (before lt))
      (λ le. ⊎_elim
      (λ same. subst P (sym (ap (λ l. get_or l k no_operand) adds.wires ∙ get_or_at n.wires.items p [] no_operand k (sym same))) (here same))
      (λ other.
      let inside = some_below (λ p. p.width) no_operand n'.wires.items k refl some in
      let count = ap length adds.wires ∙ length_push n.wires.items p in
      absurd (other (omega arith)))
      (cases_eq k (length n.wires.items)))
      (cases_lt k (length n.wires.items))

  pub operands_more : (a b : ℕ) → a ≤ b → p.slot < b → AreOperands n a → AreOperands n' b
  operands_more a b le lt h = record { there = there }
    where
      kept : (k : Net) → 0 < (operand_in n k).width → (operand_in n k).slot < b
      kept k some = let l = h.there k some in omega arith

      there : (k : Net) → 0 < (operand_in n' k).width → (operand_in n' k).slot < b
      there (net.Port k) some = let e = ap (λ v. get_or v.items k no_operand) adds.ports in subst (λ (q : Operand). q.slot < b) (sym e) (kept (net.Port k) (subst (λ (q : Operand). 0 < q.width) e some))
      there (net.Register k) some = let e = ap (λ v. get_or v.items k no_operand) adds.registers in subst (λ (q : Operand). q.slot < b) (sym e) (kept (net.Register k) (subst (λ (q : Operand). 0 < q.width) e some))
      there (net.Memory k) some = absurd (omega (arith, some))
      there (net.Wire k) some = at_wire (λ q. 0 < q.width → q.slot < b) k some (λ l. kept (net.Wire k)) (λ same _. lt) some

  -- what is known of the wires so far, and one more
  pub known_more :
      (ds : List Declared) (c : Flat) (values : Situation → List Word) (v : Situation → Word)
      → ((k : Net) → 0 < (operand_in n k).width → Gives ds c (operand_in n k) (λ x. (env_at values x).net k)) → AreCells ds n → Gives ds c p v → ((x : Situation) → length (values x) ≡ length n.wires.items)
      → Knows ds c n' (λ x. values x ++ v x ∷ [])
  known_more ds c values v nets cells one counts = record { net = known; cells = cells_kept ds cells }
    where
      known : (k : Net) → 0 < (operand_in n' k).width → Gives ds c (operand_in n' k) (λ x. (env_at (λ y. values y ++ v y ∷ []) x).net k)
      known (net.Port k) some = let e = ap (λ w. get_or w.items k no_operand) adds.ports in subst (λ q. Gives ds c q (λ x. get_or x.ins k nothing)) (sym e) (nets (net.Port k) (subst (λ (q : Operand). 0 < q.width) e some))
      known (net.Register k) some = let e = ap (λ w. get_or w.items k no_operand) adds.registers in subst (λ q. Gives ds c q (λ x. get_or x.stored.registers k nothing)) (sym e) (nets (net.Register k) (subst (λ (q : Operand). 0 < q.width) e some))
      known (net.Memory k) some = absurd (omega (arith, some))
      known (net.Wire k) some =
          at_wire (λ q. 0 < q.width → Gives ds c q (λ x. get_or (values x ++ v x ∷ []) k nothing)) k some
          (λ lt old. subst (λ f. Gives ds c (operand_in n (net.Wire k)) f) (fun_ext (λ x. sym (get_or_append_left (values x) (v x ∷ []) nothing k (let e = counts x in omega arith)))) (nets (net.Wire k) old))
          (λ same _. subst (λ f. Gives ds c p f) (fun_ext (λ x. sym (get_or_at (values x) (v x) [] nothing k (counts x ∙ sym same)))) one)
          some

-- ---- all wires
pub record Wired (ds : List Declared) (c : Flat) (n : Operands) (all rest : List WireTree) : Type 0 where
  pub values : Situation → List Word
  pub knows : Knows ds c n values
  pub counts : (x : Situation) → length (values x) ≡ length n.wires.items
  pub settled : (x : Situation) → with_wires x.ins x.stored (values x) rest ≡ with_wires x.ins x.stored [] all

wired_more :
    (ds : List Declared) (old new : Flat) (n n' : Operands) (p : Operand) (all : List WireTree) (w : WireTree) (rest : List WireTree)
    → AddsOne n n' p → Extends old new → RightValues old new n w.right p → Wired ds old n all (w ∷ rest) → Wired ds new n' all rest
wired_more ds old new n n' p all w rest adds e made h = record {
  values = λ x. h.values x ++ right_value (env_at h.values x) w.right ∷ [];
  knows = known_more n n' p adds ds new h.values (λ x. right_value (env_at h.values x) w.right) (λ k some. gives_later ds old new (operand_in n k) (λ x. (env_at h.values x).net k) e (h.knows.net k some)) h.knows.cells (made.gives ds h.values h.knows) h.counts;
  counts = λ x. length_push (h.values x) (right_value (env_at h.values x) w.right) ∙ (let c = h.counts x in let l = ap length adds.wires ∙ length_push n.wires.items p in omega arith);
  settled = h.settled;
}

pub record Wiring (first now : Flat) (begun n : Operands) (all passed rest : List WireTree) : Type 0 where
  pub extends : Extends first now
  pub there : AreOperands n (length now.slots)
  pub ports : n.ports ≡ begun.ports
  pub registers : n.registers ≡ begun.registers
  pub memories : n.memories ≡ begun.memories
  pub widths : widths_at n.wires.items ++ wire_widths rest ≡ wire_widths all
  pub typed : AreTyped n rest
  pub divided : AreDivided n passed
  pub knows : (ds : List Declared) → Knows ds first begun (λ x. []) → Wired ds now n all rest

pub wiring_none : (first : Flat) (begun : Operands) (all : List WireTree) → begun.wires.items ≡ [] → AreOperands begun (length first.slots) → AreTyped begun all → Wiring first first begun begun all [] all
wiring_none first begun all none there typed = record {
  extends = extends_none first;
  there = there;
  ports = refl;
  registers = refl;
  memories = refl;
  widths = ap (λ l. widths_at l ++ wire_widths all) none;
  typed = typed;
  divided = tt;
  knows = λ ds k. record { values = λ x. []; knows = k; counts = λ x. ap length (sym none); settled = λ x. refl };
}

module _ (n : Operands) (w : WireTree) (rest : List WireTree) (t : AreTyped n (w ∷ rest)) where
  parts : (same w.width (right_width (scope t.netlist (widths_at n.wires.items)) w.right) ≡ true) × (wires_typed t.netlist (widths_at n.wires.items ++ w.width ∷ []) rest ≡ true)
  parts =
      let p = and_parts (same w.width (right_width (scope t.netlist (widths_at n.wires.items)) w.right) && nat_le w.width 64) (wires_typed t.netlist (widths_at n.wires.items ++ w.width ∷ []) rest) t.typed in
      let q = and_parts (same w.width (right_width (scope t.netlist (widths_at n.wires.items)) w.right)) (nat_le w.width 64) p.0 in
      (q.0, p.1)

  scopes : scope_of n ≡ scope t.netlist (widths_at n.wires.items)
  scopes = scope_same t.netlist n (widths_at n.wires.items) t.matches refl

  pub wire_width : w.width ≡ right_width (scope_of n) w.right
  wire_width = (same_sides w.width (right_width (scope t.netlist (widths_at n.wires.items)) w.right) parts.0).is ∙ ap (λ s. right_width s w.right) (sym scopes)

  pub right_some : 0 < right_width (scope_of n) w.right
  right_some = subst (λ k. 0 < k) wire_width (same_sides w.width (right_width (scope t.netlist (widths_at n.wires.items)) w.right) parts.0).some

  matches_more : (n' : Operands) (p : Operand) → AddsOne n n' p → Matches t.netlist n'
  matches_more n' p adds = record {
    ports = λ k. ap (λ v. (get_or v.items k no_operand).width) adds.ports ∙ t.matches.ports k;
    registers = ap (λ v. widths_at v.items) adds.registers ∙ t.matches.registers;
    memories = ap (λ v. sizes_of v.items) adds.memories ∙ t.matches.memories;
  }

  widths_more : (n' : Operands) (p : Operand) → AddsOne n n' p → p.width ≡ right_width (scope_of n) w.right → widths_at n'.wires.items ≡ widths_at n.wires.items ++ w.width ∷ []
  widths_more n' p adds width =
      ap widths_at adds.wires ∙ map_push (λ (q : Operand). q.width) n.wires.items p ∙ ap (λ k. widths_at n.wires.items ++ k ∷ []) (width ∙ sym wire_width)

  typed_more : (n' : Operands) (p : Operand) → AddsOne n n' p → p.width ≡ right_width (scope_of n) w.right → AreTyped n' rest
  typed_more n' p adds width = record {
    netlist = t.netlist;
    matches = matches_more n' p adds;
    typed = subst (λ l. wires_typed t.netlist l rest ≡ true) (sym (widths_more n' p adds width)) parts.1;
  }

right_divided : (n : Operands) (r : RightTree Net) → 0 < right_width (scope_of n) r → IsDivided n (divisor_in r)
right_divided n (RPlain e) h = tt
right_divided n (RQuotient a b) h = let p = same_parts (operand_in n a).width (operand_in n b).width h in subst (λ k. 0 < k) p.sides (subst (λ k. 0 < k) p.is h)
right_divided n (RRemainder a b) h = let p = same_parts (operand_in n a).width (operand_in n b).width h in subst (λ k. 0 < k) p.sides (subst (λ k. 0 < k) p.is h)

divided_push : (n : Operands) (ws : List WireTree) (w : WireTree) → AreDivided n ws → IsDivided n (divisor_in w.right) → AreDivided n (ws ++ w ∷ [])
divided_push n [] w h i = (i, tt)
divided_push n (v ∷ ws) w h i = (h.0, divided_push n ws w h.1 i)

pub wiring_more :
    (first old new : Flat) (begun n n' : Operands) (p : Operand) (all passed passed' left rest : List WireTree) (w : WireTree)
    → left ≡ w ∷ rest → passed' ≡ passed ++ w ∷ [] → AddsOne n n' p → Adds old new p.slot → p.width ≡ right_width (scope_of n) w.right → RightValues old new n w.right p
    → Wiring first old begun n all passed left → Wiring first new begun n' all passed' rest
wiring_more first old new begun n n' p all passed passed' left rest w e e' adds more width made h0 =
    let h = subst (λ l. Wiring first old begun n all passed l) e h0 in
    let ext = more.extends in
    record {
      extends = extends_more first old new h.extends ext;
      there = operands_more n n' p adds (length old.slots) (length new.slots) ext.grows more.there h.there;
      ports = adds.ports ∙ h.ports;
      registers = adds.registers ∙ h.registers;
      memories = adds.memories ∙ h.memories;
      widths = ap (λ l. l ++ wire_widths rest) (widths_more n w rest h.typed n' p adds width) ∙ append_assoc (widths_at n.wires.items) (w.width ∷ []) (wire_widths rest) ∙ h.widths;
      typed = typed_more n w rest h.typed n' p adds width;
      divided = subst (λ l. AreDivided n' l) (sym e') (divided_push n' passed w (divided_later n n' p adds passed h.divided) (divided_one n n' p adds (divisor_in w.right) (right_divided n w.right (right_some n w rest h.typed))));
      knows = λ ds k. wired_more ds old new n n' p all w rest adds ext made (h.knows ds k);
    }

pub wiring_first : (first now : Flat) (begun n : Operands) (all passed left rest : List WireTree) (w : WireTree) → left ≡ w ∷ rest → Wiring first now begun n all passed left → 0 < right_width (scope_of n) w.right
wiring_first first now begun n all passed left rest w e h = right_some n w rest (subst (λ l. AreTyped n l) e h.typed)

-- ---- divisors
there_by : (n : Operands) (count : ℕ) → AreOperands n count → (at : ℕ) (o : Option Net) (rest : List Divisor) → IsDivided n o → AreDivisors rest count → AreDivisors (divisors_at n at o ++ rest) count
there_by n count h at None rest i r = r
there_by n count h at (Some b) rest i r = (h.there b i, r)

pub divisors_there : (n : Operands) (count : ℕ) → AreOperands n count → (at : ℕ) (ws : List WireTree) → AreDivided n ws → AreDivisors (divisors_from n at ws) count
divisors_there n count h at [] d = tt
divisors_there n count h at (w ∷ ws) d = there_by n count h at (divisor_in w.right) (divisors_from n (suc at) ws) d.0 (divisors_there n count h (suc at) ws d.1)

module _ (ds : List Declared) (c : Flat) (n : Operands) (wires : Situation → List Word) (knows : Knows ds c n wires) (x : Situation) (slots : List ℕ) (fine : IsFine ds x) (starts : Starts c x slots) where
  divides : (at : ℕ) (b : Net) (more : List Divisor) (rs : List (RightTree Net)) → 0 < (operand_in n b).width → first_zero more (run (contents_of x.stored) c.steps slots) ≡ stopped_at (env_at wires x) (suc at) rs
      → (if get_or (run (contents_of x.stored) c.steps slots) (operand_in n b).slot 0 == 0 then Some at else first_zero more (run (contents_of x.stored) c.steps slots)) ≡ (if ((env_at wires x).net b).value == 0 then Some at else stopped_at (env_at wires x) (suc at) rs)
  divides at b more rs some rest =
      ap (λ k. if k == 0 then Some at else first_zero more (run (contents_of x.stored) c.steps slots)) ((knows.net b some).number.at x slots fine starts)
      ∙ ap (λ o. if ((env_at wires x).net b).value == 0 then Some at else o) rest

  by_right : (at : ℕ) (r : RightTree Net) (more : List Divisor) (rs : List (RightTree Net)) → IsDivided n (divisor_in r) → first_zero more (run (contents_of x.stored) c.steps slots) ≡ stopped_at (env_at wires x) (suc at) rs
      → first_zero (divisors_at n at (divisor_in r) ++ more) (run (contents_of x.stored) c.steps slots) ≡ stopped_at (env_at wires x) at (r ∷ rs)
  by_right at (RPlain e) more rs i rest = rest
  by_right at (RQuotient a b) more rs i rest = divides at b more rs i rest
  by_right at (RRemainder a b) more rs i rest = divides at b more rs i rest

  zero_at : (at : ℕ) (ws : List WireTree) → AreDivided n ws → first_zero (divisors_from n at ws) (run (contents_of x.stored) c.steps slots) ≡ stopped_at (env_at wires x) at (rights ws)
  zero_at at [] d = refl
  zero_at at (w ∷ ws) d = by_right at w.right (divisors_from n (suc at) ws) (rights ws) d.0 (zero_at (suc at) ws d.1)

pub stops_all : (ds : List Declared) (c : Flat) (n : Operands) (wires : Situation → List Word) (ws : List WireTree) → Knows ds c n wires → AreDivided n ws → Stops ds c (divisors_from n 0 ws) (λ x. stopped_at (env_at wires x) 0 (rights ws))
stops_all ds c n wires ws knows d = record { at = λ x slots fine starts. zero_at ds c n wires knows x slots fine starts 0 ws d }

-- ---- divisors, one wire after another
module _ (n : Operands) (w : WireTree) (left rest : List WireTree) (e : left ≡ w ∷ rest) where
  pub divided_first : AreDivided n left → IsDivided n (divisor_in w.right)
  divided_first h = (subst (λ l. AreDivided n l) e h).0

  pub divided_rest : AreDivided n left → AreDivided n rest
  divided_rest h = (subst (λ l. AreDivided n l) e h).1

  pub divisors_more : (at number : ℕ) (old new total : List Divisor) → number ≡ at → new ≡ old ++ divisors_at n number (divisor_in w.right) → old ++ divisors_from n at left ≡ total → new ++ divisors_from n (at + 1) rest ≡ total
  divisors_more at number old new total is made h =
      let s : at + 1 ≡ suc at = omega arith in
      ap (λ l. l ++ divisors_from n (at + 1) rest) made
      ∙ append_assoc old (divisors_at n number (divisor_in w.right)) (divisors_from n (at + 1) rest)
      ∙ ap (λ k. old ++ (divisors_at n k (divisor_in w.right) ++ divisors_from n (at + 1) rest)) is
      ∙ ap (λ k. old ++ (divisors_at n at (divisor_in w.right) ++ divisors_from n k rest)) s
      ∙ sym (ap (λ l. old ++ divisors_from n at l) e)
      ∙ h
