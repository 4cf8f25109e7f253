-- Words ask for one thing at most.
use Rattle.std.proofs.Common.{◌≡◌, inl, inr, ◌∙◌, sym, ap, subst, refl, ℕ, ◌<◌, ◌^◌, true, false, true≢false, List, Option, Some, None, codes, decimal, arith, unwrap_or}
use Rattle.std.proofs.lemmas.Fmt.{decimal_injective}
use Rattle.std.specs.Str.{bytes_eq}
use Rattle.std.proofs.lemmas.Slice.Eq.{bytes_eq-Decides}
use Rattle.clap.specs.Walk.{Row}
use Rattle.clap.specs.Simple.{subcommand_of}
use Rattle.xdp_object.specs.Choice.{Chosen}
use Rattle.command_line.specs.Request.{Names, Request, AskCompile, AskRun, AskSim, AskRef, AskReport, AskPrepare, AskDemo, files_of}
use Rattle.command_line.specs.Commands.{app}
use Rattle.command_line.specs.Means.{AreDistinct, GivesFiles, GivesNames, GivesText, GivesNumber, GivesRun, GivesChosen, MayGiveNumber, GivesNumberIfThere, Means, MeansCompile, MeansRun, MeansSim, MeansRef, MeansReport, MeansPrepare, MeansDemo, Values}
use Rattle.command_line.specs.AsksFor.{AsksFor, values_in}

-- ---- an option
pub same_value : (v : Option (List ℕ)) (a b : List ℕ) → v ≡ Some a → v ≡ Some b → a ≡ b
same_value v a b e f = cc

pub one_number : (values : Values) (option : List ℕ) (low high a b : ℕ) → high < 2 ^ 64 → GivesNumber values option low high a → GivesNumber values option low high b → a ≡ b
one_number values option low high a b small g h =
    decimal_injective a b (omega (arith, g.greatest)) (omega (arith, h.greatest)) (same_value (values option) (decimal a) (decimal b) g.given h.given)

absent : {P : Type 0} (v : Option (List ℕ)) (a : List ℕ) → v ≡ None → v ≡ Some a → P
absent v a e f = absurd cc

one_optional_number : (values : Values) (option : List ℕ) (low high usual a b : ℕ) → high < 2 ^ 64 → MayGiveNumber values option low high usual a → MayGiveNumber values option low high usual b → a ≡ b
one_optional_number values option low high usual a b small (inl g) (inl h) = one_number values option low high a b small g h
one_optional_number values option low high usual a b small (inl g) (inr h) = absent (values option) (decimal a) h.0 g.given
one_optional_number values option low high usual a b small (inr g) (inl h) = absent (values option) (decimal b) g.0 h.given
one_optional_number values option low high usual a b small (inr g) (inr h) = g.1 ∙ sym h.1

one_number_if_there : (values : Values) (option : List ℕ) (low high : ℕ) (a b : Option ℕ) → high < 2 ^ 64 → GivesNumberIfThere values option low high a → GivesNumberIfThere values option low high b → a ≡ b
one_number_if_there values option low high (Some a) (Some b) small g h = ap Some (one_number values option low high a b small g h)
one_number_if_there values option low high (Some a) None small g h = absent (values option) (decimal a) h g.given
one_number_if_there values option low high None (Some b) small g h = absent (values option) (decimal b) g h.given
one_number_if_there values option low high None None small g h = refl

-- ---- what is asked for
made : (object capture answer verdicts final_maps : List ℕ) → Option (List ℕ) → Names
made o c n d f m = record { object = o; capture = c; answer = n; verdicts = d; final_maps = f; maps = m }

same_names : (a b : Names) → a.object ≡ b.object → a.capture ≡ b.capture → a.answer ≡ b.answer → a.verdicts ≡ b.verdicts → a.final_maps ≡ b.final_maps → a.maps ≡ b.maps → a ≡ b
unfolding made
same_names a b o c n d f m = λ i. made (o i) (c i) (n i) (d i) (f i) (m i)

one_names : (values : Values) (a b : Names) → GivesNames values a → GivesNames values b → a ≡ b
one_names values a b g h = same_names a b
    (same_value _ a.object b.object g.object h.object) (same_value _ a.capture b.capture g.capture h.capture) (same_value _ a.answer b.answer g.answer h.answer) (same_value _ a.verdicts b.verdicts g.verdicts h.verdicts) (same_value _ a.final_maps b.final_maps g.final_maps h.final_maps)
    (sym g.maps ∙ h.maps)

-- the names that are given are apart where any are
pub apart_of : (values : Values) (a b : Names) → GivesNames values a → GivesFiles values b → AreDistinct (files_of a)
apart_of values a b given g = let P : Names → Type 0 = λ n. AreDistinct (files_of n) in subst P (one_names values b a g.gives_names given) g.apart

-- the name of a text that is none of theirs
pub text_of : (values : Values) (a b : Names) (verilog : List ℕ) → GivesFiles values a → GivesFiles values b → GivesText values a verilog → GivesText values b verilog
text_of values a b verilog g h t = let P : Names → Type 0 = λ n. GivesText values n verilog in subst P (one_names values a b g.gives_names h.gives_names) t

selected : Option (List ℕ) → ℕ → Chosen
selected p n = record { program = p; hash_cap = n }

same_selected : (a b : Chosen) → a.program ≡ b.program → a.hash_cap ≡ b.hash_cap → a ≡ b
unfolding selected
same_selected a b p n = λ i. selected (p i) (n i)

one_selected : (values : Values) (a b : Chosen) → GivesChosen values a → GivesChosen values b → a ≡ b
one_selected values a b g h = same_selected a b (sym g.program ∙ h.program) (one_optional_number values _ 1 1024 256 a.hash_cap b.hash_cap (omega arith) g.hash_cap h.hash_cap)

one_ifindex : (values : Values) (n m : Names) (s t : Chosen) (i j : ℕ) → GivesRun values n s i → GivesRun values m t j → i ≡ j
one_ifindex values n m s t i j g h = one_optional_number values _ 0 4294967295 1 i j (omega arith) g.gives_ifindex h.gives_ifindex

-- no two commands have one name
two_commands : {P : Type 0} (command a b : List ℕ) → command ≡ a → command ≡ b → bytes_eq a b ≡ false → P
two_commands command a b e f differ = let same : bytes_eq a b ≡ true = (bytes_eq-Decides a b).1 (sym e ∙ f) in absurd (true≢false (sym same ∙ differ))

one_meant : (command : List ℕ) (values : Values) (a b : Request) → Means command values a → Means command values b → a ≡ b
one_meant command values (AskCompile o v s) (AskCompile p w t) g h =
    λ i. AskCompile (same_value _ o p g.gives_object h.gives_object i) (same_value _ v w g.gives_verilog h.gives_verilog i) (one_selected values s t g.gives_selected h.gives_selected i)
one_meant command values (AskRun n v s i) (AskRun m w t j) g h =
    λ k. AskRun (one_names values n m g.gives_run.gives_files.gives_names h.gives_run.gives_files.gives_names k) (same_value _ v w g.gives_text.given h.gives_text.given k) (one_selected values s t g.gives_run.gives_selected h.gives_run.gives_selected k) (one_ifindex values n m s t i j g.gives_run h.gives_run k)
one_meant command values (AskSim n v s i c e) (AskSim m w t j d f) g h =
    λ k. AskSim (one_names values n m g.gives_run.gives_files.gives_names h.gives_run.gives_files.gives_names k) (same_value _ v w g.gives_text.given h.gives_text.given k) (one_selected values s t g.gives_run.gives_selected h.gives_run.gives_selected k) (one_ifindex values n m s t i j g.gives_run h.gives_run k)
    (one_number values _ 0 500000000 c d (omega arith) g.gives_clocks h.gives_clocks k) (one_number_if_there values _ 0 4294967295 e f (omega arith) g.gives_events h.gives_events k)
one_meant command values (AskRef n s i) (AskRef m t j) g h =
    λ k. AskRef (one_names values n m g.gives_run.gives_files.gives_names h.gives_run.gives_files.gives_names k) (one_selected values s t g.gives_run.gives_selected h.gives_run.gives_selected k) (one_ifindex values n m s t i j g.gives_run h.gives_run k)
one_meant command values (AskReport o s) (AskReport p t) g h = λ i. AskReport (same_value _ o p g.gives_object h.gives_object i) (one_selected values s t g.gives_selected h.gives_selected i)
one_meant command values (AskPrepare o v s) (AskPrepare p w t) g h =
    λ i. AskPrepare (same_value _ o p g.gives_object h.gives_object i) (same_value _ v w g.gives_output h.gives_output i) (one_selected values s t g.gives_selected h.gives_selected i)
one_meant command values (AskDemo s n) (AskDemo t m) g h =
    λ i. AskDemo (one_number values _ 0 4294967295 s t (omega arith) g.gives_seed h.gives_seed i) (one_number values _ 0 100000 n m (omega arith) g.gives_packets h.gives_packets i)
one_meant command values a b g h = two_commands command _ _ g.called h.called refl

-- what words ask for is what the command and the values of their matches mean
pub asks_means : (words : List (List ℕ)) (command : List ℕ) (rows : List Row) (request : Request) → subcommand_of app words ≡ Some (command, rows) → AsksFor words request → Means command (values_in rows) request
asks_means words command rows request matched asks =
    let both : (asks.command, asks.rows) ≡ (command, rows) = ap (λ o. unwrap_or o (asks.command, asks.rows)) (sym asks.matched ∙ matched) in
    let P : List ℕ × List Row → Type 0 = λ p. Means p.0 (values_in p.1) request in
    subst P both asks.meant

pub one_request : (words : List (List ℕ)) (a b : Request) → AsksFor words a → AsksFor words b → a ≡ b
one_request words a b g h = one_meant g.command (values_in g.rows) a b g.meant (asks_means words g.command g.rows b g.matched h)

-- ---- the command is this one
pub compile_alone : (command : List ℕ) (values : Values) → command ≡ codes "compile" → ((o v : List ℕ) (s : Chosen) → ¬ MeansCompile command values o v s) → (request : Request) → ¬ Means command values request
compile_alone command values is none (AskCompile o v s) means = none o v s means
compile_alone command values is none other means = two_commands command _ _ is means.called refl

pub run_alone : (command : List ℕ) (values : Values) → command ≡ codes "run" → ((n : Names) (v : List ℕ) (s : Chosen) (i : ℕ) → ¬ MeansRun command values n v s i) → (request : Request) → ¬ Means command values request
run_alone command values is none (AskRun n v s i) means = none n v s i means
run_alone command values is none other means = two_commands command _ _ is means.called refl

pub sim_alone : (command : List ℕ) (values : Values) → command ≡ codes "sim" → ((n : Names) (v : List ℕ) (s : Chosen) (i c : ℕ) (e : Option ℕ) → ¬ MeansSim command values n v s i c e) → (request : Request) → ¬ Means command values request
sim_alone command values is none (AskSim n v s i c e) means = none n v s i c e means
sim_alone command values is none other means = two_commands command _ _ is means.called refl

pub ref_alone : (command : List ℕ) (values : Values) → command ≡ codes "ref" → ((n : Names) (s : Chosen) (i : ℕ) → ¬ MeansRef command values n s i) → (request : Request) → ¬ Means command values request
ref_alone command values is none (AskRef n s i) means = none n s i means
ref_alone command values is none other means = two_commands command _ _ is means.called refl

pub report_alone : (command : List ℕ) (values : Values) → command ≡ codes "report" → ((o : List ℕ) (s : Chosen) → ¬ MeansReport command values o s) → (request : Request) → ¬ Means command values request
report_alone command values is none (AskReport o s) means = none o s means
report_alone command values is none other means = two_commands command _ _ is means.called refl

pub prepare_alone : (command : List ℕ) (values : Values) → command ≡ codes "prepare" → ((o v : List ℕ) (s : Chosen) → ¬ MeansPrepare command values o v s) → (request : Request) → ¬ Means command values request
prepare_alone command values is none (AskPrepare o v s) means = none o v s means
prepare_alone command values is none other means = two_commands command _ _ is means.called refl

pub demo_alone : (command : List ℕ) (values : Values) → command ≡ codes "demo" → ((s n : ℕ) → ¬ MeansDemo command values s n) → (request : Request) → ¬ Means command values request
demo_alone command values is none (AskDemo s n) means = none s n means
demo_alone command values is none other means = two_commands command _ _ is means.called refl
