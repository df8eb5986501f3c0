-- Declarations, as they are written in turn.
use Rattle.std.proofs.Common.{◌≡◌, ℕ, zero, suc, ◌+◌, ◌<◌, ◌≤◌, true, false, List, [], ◌∷◌, ◌++◌, length, drop, get_or, map, filter, refl, sym, ap, ◌∙◌, arith, append_assoc, drop-cons}
use Rattle.std.specs.Prelude.{All, codes, flat_map}
use Rattle.std.specs.List.{range_with_len}
use Rattle.std.proofs.lemmas.Bool.{eq-eqb, ne_eqb}
use Rattle.std.proofs.lemmas.List.{append-nil, drop_all, get_or-map, get_or_default, length-map}
use Rattle.std.proofs.lemmas.List.Concat.{flat_map-append}
use Rattle.std.proofs.lemmas.List.Elements.{All-filter}
use Rattle.std.proofs.lemmas.List.Folds.{flat_map-map}
use Rattle.std.proofs.lemmas.List.FromFn.{get_or-range_with_len, length-range_with_len}
use Rattle.cmb_design_model.proofs.LevelFacts.{push-rest}
use Rattle.cmb_run_text.proofs.LineFacts.{joined}
use Rattle.cmb_run_text.specs.Vcd.{code, reference}
use Rattle.cmb_run_scopes.specs.Inner.Grouped.{Scope, grouped}
use Rattle.cmb_run_scopes.specs.Scopes.{Declaration, declaration_line, declaration_lines, declarations, declarations_of, declared_name, is_here, is_in, part_at, parts, scoped_header, scopes as scope_names}
use Rattle.cmb_run_scopes.specs.Scopes.Declaration.{net, scope, upscope}

abbrev pair : List ℕ → List ℕ → Scope
pair name places = (name, places)

-- ---- lines

pub net-written : (place : ℕ) (part o a b d e f : List ℕ) → a ≡ o ++ codes "$var wire 1 " → b ≡ a ++ code place → d ≡ b ++ codes " " → e ≡ d ++ declared_name part → f ≡ e ++ codes " $end\n"
    → f ≡ o ++ declaration_line (net place part)
unfolding declaration_line
net-written place part o a b d e f h1 h2 h3 h4 h5 =
    let head = codes "$var wire 1 " in
    let id = code place in
    let ref = declared_name part in
    joined o e f (head ++ id ++ codes " " ++ ref) (codes " $end\n") (
    joined o d e (head ++ id ++ codes " ") ref (
    joined o b d (head ++ id) (codes " ") (joined o a b head id h1 h2) h3
    ) h4
    ) h5 ∙ ap (λ t. o ++ t) (sym (append_assoc (head ++ id ++ codes " " ++ ref) (codes " $end") (codes "\n")))

pub scope-written : (part o a b d : List ℕ) → a ≡ o ++ codes "$scope module " → b ≡ a ++ reference part → d ≡ b ++ codes " $end\n" → d ≡ o ++ declaration_line (scope part)
unfolding declaration_line
scope-written part o a b d h1 h2 h3 =
    let head = codes "$scope module " in
    let ref = reference part in
    joined o b d (head ++ ref) (codes " $end\n") (joined o a b head ref h1 h2) h3 ∙ ap (λ t. o ++ t) (sym (append_assoc (head ++ ref) (codes " $end") (codes "\n")))

pub upscope-is : codes "$upscope $end\n" ≡ declaration_line upscope
unfolding declaration_line
upscope-is = refl

-- ---- the nets of a scope

abbrev pub own_lines : List (List (List ℕ)) → ℕ → List ℕ → List ℕ
own_lines paths level places = declaration_lines (map (λ place. net place (part_at paths level place)) (filter (is_here paths level) places))

pub own-here : (paths : List (List (List ℕ))) (level : ℕ) (places : List ℕ) (i : ℕ) → i < length places → is_here paths level (get_or places i 0) ≡ true
    → own_lines paths level (drop i places) ≡ declaration_line (net (get_or places i 0) (part_at paths level (get_or places i 0))) ++ own_lines paths level (drop (i + 1) places)
own-here paths level places i inside here = let next : i + 1 ≡ suc i = omega arith in rw (next, drop-cons places i 0 inside, here)

pub own-other : (paths : List (List (List ℕ))) (level : ℕ) (places : List ℕ) (i : ℕ) → i < length places → is_here paths level (get_or places i 0) ≡ false
    → own_lines paths level (drop i places) ≡ own_lines paths level (drop (i + 1) places)
own-other paths level places i inside other = let next : i + 1 ≡ suc i = omega arith in rw (next, drop-cons places i 0 inside, other)

pub own-none : (paths : List (List (List ℕ))) (level : ℕ) (places : List ℕ) (i : ℕ) → length places ≤ i → own_lines paths level (drop i places) ≡ []
own-none paths level places i past = rw (drop_all i places past)

-- ---- its scopes

abbrev pub inside_of : ℕ → List (List (List ℕ)) → ℕ → Scope → List ℕ
inside_of depth paths level found = declaration_lines (declarations depth paths (level + 1) found.1)

abbrev pub scope_lines : ℕ → List (List (List ℕ)) → ℕ → Scope → List ℕ
scope_lines depth paths level found = declaration_line (scope found.0) ++ (inside_of depth paths level found ++ declaration_line upscope)

abbrev pub all_scopes : ℕ → List (List (List ℕ)) → ℕ → List Scope → List ℕ
all_scopes depth paths level found = flat_map (scope_lines depth paths level) found

pub scopes-more : (depth : ℕ) (paths : List (List (List ℕ))) (level : ℕ) (found : List Scope) (i : ℕ) (d : Scope) → i < length found
    → all_scopes depth paths level (drop i found) ≡ scope_lines depth paths level (get_or found i d) ++ all_scopes depth paths level (drop (i + 1) found)
scopes-more depth paths level found i d inside = let next : i + 1 ≡ suc i = omega arith in rw (next, drop-cons found i d inside)

pub scopes-none : (depth : ℕ) (paths : List (List (List ℕ))) (level : ℕ) (found : List Scope) (i : ℕ) → length found ≤ i → all_scopes depth paths level (drop i found) ≡ []
scopes-none depth paths level found i past = rw (drop_all i found past)

-- the nets of a scope that was found are among those that were looked at
pub scope-places : (P : ℕ → Type 0) (paths : List (List (List ℕ))) (level : ℕ) (places : List ℕ) (i : ℕ) (d : Scope) → i < length (grouped paths level places) → All P places
    → All P (get_or (grouped paths level places) i d).1
scope-places P paths level places i d inside all =
    let names = scope_names paths level places in
    let long = length-map names (λ name. pair name (filter (is_in paths level name) places)) in
    let here = get_or-map (λ name. pair name (filter (is_in paths level name) places)) names i [] d (omega arith) in
    rw here (All-filter (is_in paths level (get_or names i [])) P places all)

one_scope : (depth : ℕ) (paths : List (List (List ℕ))) (level : ℕ) (places : List ℕ) (name : List ℕ)
    → declaration_lines (scope name ∷ declarations depth paths (level + 1) (filter (is_in paths level name) places) ++ upscope ∷ [])
    ≡ scope_lines depth paths level (name, filter (is_in paths level name) places)
one_scope depth paths level places name =
    let lines = declarations depth paths (level + 1) (filter (is_in paths level name) places) in
    ap (λ t. declaration_line (scope name) ++ t) (flat_map-append declaration_line lines (upscope ∷ []) ∙ ap (λ t. declaration_lines lines ++ t) (append-nil (declaration_line upscope)))

abbrev scope_of : ℕ → List (List (List ℕ)) → ℕ → List ℕ → List ℕ → List Declaration
scope_of depth paths level places name = scope name ∷ declarations depth paths (level + 1) (filter (is_in paths level name) places) ++ upscope ∷ []

each_scope : (depth : ℕ) (paths : List (List (List ℕ))) (level : ℕ) (places : List ℕ) (names : List (List ℕ))
    → declaration_lines (flat_map (scope_of depth paths level places) names) ≡ flat_map (λ name. scope_lines depth paths level (pair name (filter (is_in paths level name) places))) names
each_scope depth paths level places [] = refl
each_scope depth paths level places (name ∷ names) =
    flat_map-append declaration_line (scope_of depth paths level places name) (flat_map (scope_of depth paths level places) names)
    ∙ ap (λ t. t ++ declaration_lines (flat_map (scope_of depth paths level places) names)) (one_scope depth paths level places name)
    ∙ ap (λ t. scope_lines depth paths level (pair name (filter (is_in paths level name) places)) ++ t) (each_scope depth paths level places names)

-- a scope's declarations are those of its nets and of its scopes
pub declarations-parts : (depth : ℕ) (paths : List (List (List ℕ))) (level : ℕ) (places : List ℕ)
    → declaration_lines (declarations (suc depth) paths level places) ≡ own_lines paths level places ++ all_scopes depth paths level (grouped paths level places)
unfolding declarations
declarations-parts depth paths level places =
    let own = map (λ place. net place (part_at paths level place)) (filter (is_here paths level) places) in
    let names = scope_names paths level places in
    flat_map-append declaration_line own (flat_map (scope_of depth paths level places) names)
    ∙ ap (λ t. declaration_lines own ++ t) (each_scope depth paths level places names ∙ sym (flat_map-map (scope_lines depth paths level) (λ name. pair name (filter (is_in paths level name) places)) names))

-- ---- the whole header

pub header-written : (names : List (List ℕ)) (o a b d : List ℕ) → a ≡ o ++ codes "$version cmbsim 1 $end\n$timescale 1 ns $end\n$scope module top $end\n"
    → b ≡ a ++ declaration_lines (declarations_of names) → d ≡ b ++ codes "$upscope $end\n$enddefinitions $end\n" → d ≡ o ++ scoped_header names
unfolding scoped_header
header-written names o a b d h1 h2 h3 =
    let head = codes "$version cmbsim 1 $end\n$timescale 1 ns $end\n$scope module top $end\n" in
    let lines = declaration_lines (declarations_of names) in
    joined o b d (head ++ lines) (codes "$upscope $end\n$enddefinitions $end\n") (joined o a b head lines h1 h2) h3
    ∙ ap (λ t. o ++ t) (sym (append_assoc (head ++ lines) (codes "$upscope $end\n") (codes "$enddefinitions $end\n")))

pub range-more : (a n : ℕ) → range_with_len a (n + 1) ≡ range_with_len a n ++ (a + n) ∷ []
range-more a n = grown a n (n + 1) (omega arith)
  where
    grown : (a n m : ℕ) → m ≡ suc n → range_with_len a m ≡ range_with_len a n ++ (a + n) ∷ []
    grown a zero m e = let same : a ≡ a + 0 = omega arith in rw e (ap (λ t. t ∷ []) same)
    grown a (suc n) m e =
        let same : a + 1 + n ≡ a + suc n = omega arith in
        rw e (ap (λ t. a ∷ t) (grown (a + 1) n (suc n) refl ∙ ap (λ t. range_with_len (a + 1) n ++ t ∷ []) same))

-- ---- as the code goes on

-- a net of the scope
pub own-more : (paths : List (List (List ℕ))) (level : ℕ) (places : List ℕ) (i : ℕ) (place : ℕ) (part old new all : List ℕ) → i < length places → place ≡ get_or places i 0
    → is_here paths level place ≡ true → part ≡ part_at paths level place → new ≡ old ++ declaration_line (net place part)
    → old ++ own_lines paths level (drop i places) ≡ all → new ++ own_lines paths level (drop (i + 1) places) ≡ all
own-more paths level places i place part old new all inside is here named written so_far =
    let here' : is_here paths level (get_or places i 0) ≡ true = rw (sym is) here in
    push-rest old new (declaration_line (net (get_or places i 0) (part_at paths level (get_or places i 0)))) (own_lines paths level (drop (i + 1) places)) all
    (written ∙ ap (λ t. old ++ declaration_line (net place t)) named ∙ ap (λ t. old ++ declaration_line (net t (part_at paths level t))) is)
    (ap (λ t. old ++ t) (sym (own-here paths level places i inside here')) ∙ so_far)

-- one of another scope
pub own-past : (paths : List (List (List ℕ))) (level : ℕ) (places : List ℕ) (i : ℕ) (place : ℕ) (old all : List ℕ) → i < length places → place ≡ get_or places i 0
    → is_here paths level place ≡ false → old ++ own_lines paths level (drop i places) ≡ all → old ++ own_lines paths level (drop (i + 1) places) ≡ all
own-past paths level places i place old all inside is other so_far =
    let other' : is_here paths level (get_or places i 0) ≡ false = rw (sym is) other in
    ap (λ t. old ++ t) (sym (own-other paths level places i inside other')) ∙ so_far

-- a scope
pub scope-more : (depth : ℕ) (paths : List (List (List ℕ))) (level : ℕ) (found : List Scope) (i : ℕ) (s : Scope) (name places old a b new all : List ℕ) → i < length found → s ≡ get_or found i s
    → name ≡ s.0 → places ≡ s.1 → a ≡ old ++ declaration_line (scope name) → b ≡ a ++ declaration_lines (declarations depth paths (level + 1) places) → new ≡ b ++ codes "$upscope $end\n"
    → old ++ all_scopes depth paths level (drop i found) ≡ all → new ++ all_scopes depth paths level (drop (i + 1) found) ≡ all
scope-more depth paths level found i s name places old a b new all inside is named placed h1 h2 h3 so_far =
    let open_line = declaration_line (scope s.0) in
    let inner = inside_of depth paths level s in
    let r1 : a ≡ old ++ open_line = h1 ∙ ap (λ t. old ++ declaration_line (scope t)) named in
    let r2 : b ≡ a ++ inner = h2 ∙ ap (λ t. a ++ declaration_lines (declarations depth paths (level + 1) t)) placed in
    let r3 : new ≡ b ++ declaration_line upscope = h3 ∙ ap (λ t. b ++ t) upscope-is in
    let written : new ≡ old ++ (open_line ++ inner ++ declaration_line upscope) = joined old b new (open_line ++ inner) (declaration_line upscope) (joined old a b open_line inner r1 r2) r3 in
    let assoc = append_assoc open_line inner (declaration_line upscope) in
    push-rest old new (scope_lines depth paths level s) (all_scopes depth paths level (drop (i + 1) found)) all (written ∙ ap (λ t. old ++ t) assoc)
    (ap (λ t. old ++ (scope_lines depth paths level t ++ all_scopes depth paths level (drop (i + 1) found))) is
    ∙ ap (λ t. old ++ t) (sym (scopes-more depth paths level found i s inside)) ∙ so_far)

-- all of a scope
pub all-declared : (depth more : ℕ) (paths : List (List (List ℕ))) (level : ℕ) (places : List ℕ) (found : List Scope) (i : ℕ) (o a b : List ℕ) → depth ≡ suc more → found ≡ grouped paths level places
    → a ≡ o ++ own_lines paths level places → length found ≤ i → b ++ all_scopes more paths level (drop i found) ≡ a ++ all_scopes more paths level found
    → b ≡ o ++ declaration_lines (declarations depth paths level places)
all-declared depth more paths level places found i o a b deeper grouped_so own past so_far =
    let none = scopes-none more paths level found i past in
    let done : b ≡ a ++ all_scopes more paths level found = sym (append-nil b) ∙ ap (λ t. b ++ t) (sym none) ∙ so_far in
    let whole : b ≡ o ++ (own_lines paths level places ++ all_scopes more paths level found) = joined o a b (own_lines paths level places) (all_scopes more paths level found) own done in
    whole ∙ ap (λ t. o ++ (own_lines paths level places ++ all_scopes more paths level t)) grouped_so
    ∙ ap (λ t. o ++ t) (sym (declarations-parts more paths level places)) ∙ ap (λ t. o ++ declaration_lines (declarations t paths level places)) (sym deeper)

-- no depth is left
pub none-declared : (depth : ℕ) (paths : List (List (List ℕ))) (level : ℕ) (places o : List ℕ) → depth ≡ 0 → o ≡ o ++ declaration_lines (declarations depth paths level places)
unfolding declarations
none-declared depth paths level places o none = rw none (sym (append-nil o))

-- the nets of a scope that the code looks at
pub item-places : (P : ℕ → Type 0) (paths : List (List (List ℕ))) (level : ℕ) (places : List ℕ) (found : List Scope) (i : ℕ) (s : Scope) (inner : List ℕ) → found ≡ grouped paths level places
    → i < length found → s ≡ get_or found i s → inner ≡ s.1 → All P places → All P inner
item-places P paths level places found i s inner grouped_so inside is at all =
    let within : i < length (grouped paths level places) = rw grouped_so at inside in
    let there : inner ≡ (get_or (grouped paths level places) i s).1 = at ∙ ap (λ (t : Scope). t.1) (is ∙ ap (λ (t : List Scope). get_or t i s) grouped_so) in
    rw there (scope-places P paths level places i s within all)

-- the test of a net's level
pub here-test : (paths : List (List (List ℕ))) (level place n : ℕ) (p : List (List ℕ)) → place < length paths → p ≡ get_or paths place p → n ≡ length p → n ≡ level + 1 → is_here paths level place ≡ true
here-test paths level place n p inside is long here =
    let path_is : get_or paths place [] ≡ p = get_or_default paths place [] p inside ∙ sym is in
    rw path_is (eq-eqb (length p) (level + 1) (omega arith))

pub other-test : (paths : List (List (List ℕ))) (level place n : ℕ) (p : List (List ℕ)) → place < length paths → p ≡ get_or paths place p → n ≡ length p → (n ≡ level + 1 → ⊥) → is_here paths level place ≡ false
other-test paths level place n p inside is long other =
    let path_is : get_or paths place [] ≡ p = get_or_default paths place [] p inside ∙ sym is in
    let apart : length p ≡ level + 1 → ⊥ = λ e. other (long ∙ e) in
    rw path_is (ne_eqb (length p) (level + 1) apart)

pub part-is : (paths : List (List (List ℕ))) (level place : ℕ) (p : List (List ℕ)) (part : List ℕ) → place < length paths → p ≡ get_or paths place p → part ≡ get_or p level [] → part ≡ part_at paths level place
part-is paths level place p part inside is at =
    let path_is : get_or paths place [] ≡ p = get_or_default paths place [] p inside ∙ sym is in
    at ∙ ap (λ q. get_or q level []) (sym path_is)

-- ---- the whole header, as the code makes it

pub range-within : (paths : List (List (List ℕ))) (places : List ℕ) (n : ℕ) → places ≡ range_with_len 0 n → length paths ≡ n → All (λ place. place < length paths) places
range-within paths places n is long k d inside =
    let many : length places ≡ n = ap length is ∙ length-range_with_len 0 n in
    let at : get_or places k d ≡ 0 + k = ap (λ t. get_or t k d) is ∙ get_or-range_with_len 0 n k d (omega arith) in
    omega arith

pub all-written : (names : List (List ℕ)) (n : ℕ) (paths : List (List (List ℕ))) (places o a b d : List ℕ) → paths ≡ map parts names → length names ≡ n → places ≡ range_with_len 0 n → o ≡ []
    → a ≡ o ++ codes "$version cmbsim 1 $end\n$timescale 1 ns $end\n$scope module top $end\n" → b ≡ a ++ declaration_lines (declarations 256 paths 0 places)
    → d ≡ b ++ codes "$upscope $end\n$enddefinitions $end\n" → d ≡ scoped_header names
all-written names n paths places o a b d named long placed none h1 h2 h3 =
    let placed' : places ≡ range_with_len 0 (length names) = placed ∙ ap (range_with_len 0) (sym long) in
    let h2' : b ≡ a ++ declaration_lines (declarations_of names) =
    h2 ∙ ap (λ t. a ++ declaration_lines (declarations 256 t 0 places)) named ∙ ap (λ t. a ++ declaration_lines (declarations 256 (map parts names) 0 t)) placed' in
    header-written names o a b d h1 h2' h3 ∙ ap (λ t. t ++ scoped_header names) none
