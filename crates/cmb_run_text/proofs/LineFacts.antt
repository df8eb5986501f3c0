-- One more step of a loop that writes, and the parts of a line.
use Rattle.std.proofs.Common.{◌≡◌, ◌≤◌, ◌<◌, ◌+◌, ℕ, suc, ◌-◌, List, [], ◌++◌, length, drop, get_or, refl, sym, ap, arith, ◌∙◌, append_assoc, add-one, drop-cons}
use Rattle.std.specs.Prelude.{codes, if◌then◌else◌, is_ok, Ok, Err, OnOk, Result}
use Rattle.std.proofs.lemmas.List.{append-nil, drop_all}
use Rattle.cmb_wave.specs.declared.level.Level.{Level}
use Rattle.cmb_design_model.proofs.LevelFacts.{push-rest}
use Rattle.cmb_run_text.specs.Vcd.{header, level_line, level_lines, var_line, var_lines}

-- all written
pub rest_none : {X A : Type 0} (f : List A → List X) (xs : List A) (i : ℕ) (old all : List X) → length xs ≤ i → f [] ≡ [] → old ++ f (drop i xs) ≡ all → old ≡ all
rest_none f xs i old all h e g = sym (append-nil old) ∙ ap (λ t. old ++ t) (sym e ∙ ap f (sym (drop_all i xs h))) ∙ g

-- two pieces written in turn
pub joined : {X : Type 0} (a b c x y : List X) → b ≡ a ++ x → c ≡ b ++ y → c ≡ a ++ (x ++ y)
joined a b c x y e f = rw e at f ∙ append_assoc a x y

-- the last piece, which is written or refused
pub appended : {T E X : Type 0} (result : Result T E) (P : Type 0) (old new piece : List X) → new ≡ (if is_ok result then old ++ piece else old) → (new ≡ old ++ piece → P) → OnOk result P
appended (Ok done) P old new piece is then-P = then-P is
appended (Err fault) P old new piece is then-P = tt

-- the lines up to the end of the declarations, written in turn
pub header-written : (names : List (List ℕ)) (start opened declared all : List ℕ) → opened ≡ start ++ codes "$version cmbsim 1 $end\n$timescale 1 ns $end\n$scope module top $end\n"
    → declared ≡ opened ++ var_lines 0 names → all ≡ declared ++ codes "$upscope $end\n$enddefinitions $end\n" → all ≡ start ++ header names
unfolding header
header-written names start opened declared all a b d =
    let head = codes "$version cmbsim 1 $end\n$timescale 1 ns $end\n$scope module top $end\n" in
    let vars = var_lines 0 names in
    joined start declared all (head ++ vars) (codes "$upscope $end\n$enddefinitions $end\n") (joined start opened declared head vars a b) d
    ∙ ap (λ t. start ++ t) (sym (append_assoc (head ++ vars) (codes "$upscope $end\n") (codes "$enddefinitions $end\n")))

var_lines-next : (names : List (List ℕ)) (net : ℕ) → net < length names → var_lines net (drop net names) ≡ var_line net (get_or names net []) ++ var_lines (net + 1) (drop (net + 1) names)
unfolding var_lines
var_lines-next names net h = rw (add-one, drop-cons names net [] h) refl

-- a declaration more
pub vars-more : (names : List (List ℕ)) (net : ℕ) (name old new all : List ℕ) → net < length names → name ≡ get_or names net [] → new ≡ old ++ var_line net name
    → old ++ var_lines net (drop net names) ≡ all → new ++ var_lines (net + 1) (drop (net + 1) names) ≡ all
vars-more names net name old new all inside is written so_far =
    push-rest old new (var_line net (get_or names net [])) (var_lines (net + 1) (drop (net + 1) names)) all (written ∙ ap (λ t. old ++ var_line net t) is)
    (ap (λ t. old ++ t) (sym (var_lines-next names net inside)) ∙ so_far)

-- all declarations
pub vars-done : (names : List (List ℕ)) (net : ℕ) (old all : List ℕ) → length names ≤ net → old ++ var_lines net (drop net names) ≡ all → old ≡ all
unfolding var_lines
vars-done names net old all past so_far = rest_none (var_lines net) names net old all past refl so_far

pub level_lines-next : (level : ℕ → ℕ → Level) (tick net nets : ℕ) → net < nets → level_lines level tick net (nets - net) ≡ level_line (level net tick) net ++ level_lines level tick (net + 1) (nets - (net + 1))
unfolding level_lines
level_lines-next level tick net nets h = let more : nets - net ≡ suc (nets - (net + 1)) = omega arith in rw (more, add-one) refl

pub level_lines-none : (level : ℕ → ℕ → Level) (tick net nets : ℕ) → nets ≤ net → level_lines level tick net (nets - net) ≡ []
unfolding level_lines
level_lines-none level tick net nets h = let none : nets - net ≡ 0 = omega arith in rw none refl
