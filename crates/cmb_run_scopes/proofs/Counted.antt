-- How often nets are declared.
use Rattle.std.proofs.Common.{◌≡◌, ℕ, zero, suc, ◌+◌, ◌-◌, ◌<◌, ◌≤◌, Bool, true, false, List, [], ◌∷◌, ◌++◌, length, take, get_or, cond, map, filter, refl, sym, ap, ◌∙◌, arith, append_assoc, length-append, subst}
use Rattle.std.specs.Prelude.{◌&&◌, ◌||◌, ◌==◌, nat_lt, bytes_eq, count_by, flat_map, fold, sum_by, All}
use Rattle.std.specs.List.{list_any, range_with_len, slice_split}
use Rattle.std.specs.Cmp.Lexicographic.{bytes_decides}
use Rattle.std.proofs.lemmas.Bool.{eq-eqb, eqb-false, eqb-true, ltb-false, ltb-true, ne_eqb}
use Rattle.std.proofs.lemmas.List.{append-nil, get_or-map, length-map}
use Rattle.std.proofs.lemmas.List.Elements.{All-append, All-filter, All-from_get_or, All-head, All-map, All-nil, All-same, All-tail, All-weaker}
use Rattle.std.proofs.lemmas.List.FromFn.{get_or-range_with_len, length-range_with_len}
use Rattle.std.proofs.lemmas.List.Folds.{list_any-append}
use Rattle.std.proofs.lemmas.List.Splits.{length-slice_split}
use Rattle.std.proofs.lemmas.List.Sums.{count_by-le-length, sum_by-append, sum_by-cons}
use Rattle.indexmap.specs.IndexSet.{insert_key}
use Rattle.cmb_run_scopes.proofs.GroupFacts.{found-all, found-insert}
use Rattle.cmb_run_scopes.proofs.Walks.{Within, found_at, inner_within, order, walk}
use Rattle.cmb_run_scopes.specs.Reading.{declared}
use Rattle.cmb_run_scopes.specs.Scopes.{declarations, declarations_of, is_deeper, is_here, is_in, part_at, parts, path, pieces, scopes as scope_names}

-- how often a number stands in a list
abbrev times : ℕ → List ℕ → ℕ
times q xs = count_by (λ x. x == q) xs

-- ---- a sum over names that are met once

abbrev weigh : List ℕ → ℕ → List ℕ → ℕ
weigh x c name = cond (bytes_eq x name) c 0

abbrev Weighs : List ℕ → ℕ → List (List ℕ) → Type 0
Weighs x c names = sum_by (weigh x c) names ≡ cond (list_any (bytes_eq x) names) c 0

weighs-insert : (x : List ℕ) (c : ℕ) (names : List (List ℕ)) (new : List ℕ) → Weighs x c names → Weighs x c (insert_key bytes_eq names new)
weighs-insert x c names new h = by (list_any (bytes_eq new) names) (bytes_eq x new) refl refl
  where
    by : (a b : Bool) → list_any (bytes_eq new) names ≡ a → bytes_eq x new ≡ b → Weighs x c (insert_key bytes_eq names new)
    by true b e f = rw e h
    by false false e f =
        let any = list_any-append (bytes_eq x) names (new ∷ []) in
        rw (e, any, sum_by-append (weigh x c) names (new ∷ []), f) (none (list_any (bytes_eq x) names) h)
      where
        none : (b : Bool) → sum_by (weigh x c) names ≡ cond b c 0 → sum_by (weigh x c) names + 0 ≡ cond (b || false) c 0
        none true g = omega arith
        none false g = omega arith
    by false true e f =
        let same : x ≡ new = (bytes_decides x new).0 f in
        let unmet : list_any (bytes_eq x) names ≡ false = rw same e in
        let zero_sum : sum_by (weigh x c) names ≡ 0 = rw unmet at h in
        let any = list_any-append (bytes_eq x) names (new ∷ []) in
        rw (e, any, sum_by-append (weigh x c) names (new ∷ []), f, unmet) (omega arith)

weighs-all : (x : List ℕ) (c : ℕ) (known names : List (List ℕ)) → Weighs x c known → Weighs x c (fold (insert_key bytes_eq) known names)
weighs-all x c known [] h = h
weighs-all x c known (new ∷ names) h = weighs-all x c (insert_key bytes_eq known new) names (weighs-insert x c known new h)

-- ---- numbers that pass a test

zero_either : (b : Bool) → cond b zero zero ≡ zero
zero_either true = refl
zero_either false = refl

-- what passes a test stands there as often as before, and what doesn't stands nowhere
times-filter : (t : ℕ → Bool) (q : ℕ) (xs : List ℕ) → times q (filter t xs) ≡ cond (t q) (times q xs) 0
times-filter t q [] = sym (zero_either (t q))
times-filter t q (x ∷ xs) = by (times-filter t q xs) (t x) (x == q) (t q) refl refl refl
  where
    by : times q (filter t xs) ≡ cond (t q) (times q xs) 0 → (a b d : Bool) → t x ≡ a → (x == q) ≡ b → t q ≡ d → times q (filter t (x ∷ xs)) ≡ cond (t q) (times q (x ∷ xs)) 0
    by later true b true e f g =
        let h : times q (filter t xs) ≡ times q xs = rw g at later in
        rw (e, g, sum_by-cons (λ y. cond (y == q) 1 0) x (filter t xs), sum_by-cons (λ y. cond (y == q) 1 0) x xs, h)
    by later false false true e f g =
        let h : times q (filter t xs) ≡ times q xs = rw g at later in
        rw (e, g, sum_by-cons (λ y. cond (y == q) 1 0) x xs, f) (omega arith)
    by later false true true e f g = let same : x ≡ q = eqb-true x q f in let no : true ≡ false = sym g ∙ ap t (sym same) ∙ e in absurd (cc)
    by later true false false e f g =
        let h : times q (filter t xs) ≡ 0 = rw g at later in
        rw (e, g, sum_by-cons (λ y. cond (y == q) 1 0) x (filter t xs), f) (omega arith)
    by later true true false e f g = let same : x ≡ q = eqb-true x q f in let no : true ≡ false = sym e ∙ ap t same ∙ g in absurd (cc)
    by later false b false e f g = let h : times q (filter t xs) ≡ 0 = rw g at later in rw (e, g) h

-- what stands in a list has what all in it have
pub has : (P : ℕ → Type 0) (q : ℕ) (xs : List ℕ) → All P xs → 0 < times q xs → P q
has P q [] all some = absurd (omega arith)
has P q (x ∷ xs) all some = by (has P q xs (All-tail P x xs all)) (x == q) refl
  where
    by : (0 < times q xs → P q) → (b : Bool) → (x == q) ≡ b → P q
    by later true e = subst P (eqb-true x q e) (All-head P x xs all)
    by later false e =
        let count : times q (x ∷ xs) ≡ cond (x == q) 1 0 + times q xs = sum_by-cons (λ y. cond (y == q) 1 0) x xs in
        let count' : times q (x ∷ xs) ≡ 0 + times q xs = count ∙ ap (λ (t : Bool). cond t 1 0 + times q xs) e in
        later (omega arith)

module _ (paths : List (List (List ℕ))) where
  -- a net that lies in a scope of a level has its part among the scopes' names
  met : (level q : ℕ) (places : List ℕ) → is_deeper paths level q ≡ true → 0 < times q places → list_any (bytes_eq (part_at paths level q)) (map (part_at paths level) (filter (is_deeper paths level) places)) ≡ true
  met level q [] deeper some = absurd (omega arith)
  met level q (place ∷ places) deeper some = by (met level q places deeper) (place == q) refl (is_deeper paths level place) refl
    where
      by : (0 < times q places → list_any (bytes_eq (part_at paths level q)) (map (part_at paths level) (filter (is_deeper paths level) places)) ≡ true) → (b : Bool) → (place == q) ≡ b
          → (a : Bool) → is_deeper paths level place ≡ a
          → list_any (bytes_eq (part_at paths level q)) (map (part_at paths level) (filter (is_deeper paths level) (place ∷ places))) ≡ true
      by later true e a f =
          let same : place ≡ q = eqb-true place q e in
          let here : is_deeper paths level place ≡ true = rw same deeper in
          let part_same : bytes_eq (part_at paths level q) (part_at paths level place) ≡ true = (bytes_decides (part_at paths level q) (part_at paths level place)).1 (ap (part_at paths level) (sym same)) in
          rw (here, part_same)
      by later false e a f =
          let count : times q (place ∷ places) ≡ cond (place == q) 1 0 + times q places = sum_by-cons (λ y. cond (y == q) 1 0) place places in
          let count' : times q (place ∷ places) ≡ 0 + times q places = count ∙ ap (λ (t : Bool). cond t 1 0 + times q places) e in
          more a f (later (omega arith))
        where
          more : (a : Bool) → is_deeper paths level place ≡ a → list_any (bytes_eq (part_at paths level q)) (map (part_at paths level) (filter (is_deeper paths level) places)) ≡ true
              → list_any (bytes_eq (part_at paths level q)) (map (part_at paths level) (filter (is_deeper paths level) (place ∷ places))) ≡ true
          more false g rest = rw g rest
          more true g rest = rw (g, rest) (either (bytes_eq (part_at paths level q) (part_at paths level place)))
            where
              either : (b : Bool) → (b || true) ≡ true
              either true = refl
              either false = refl

  no_weight : (t : List ℕ → Bool) (names : List (List ℕ)) → sum_by (λ name. cond (t name) 0 0) names ≡ 0
  no_weight t [] = refl
  no_weight t (name ∷ names) =
      let here = zero_either (t name) in
      let rest = no_weight t names in
      let both = sum_by-cons (λ n. cond (t n) 0 0) name names in
      omega arith

  none_in : (c : ℕ) (names : List (List ℕ)) → sum_by (λ (name : List ℕ). 0) names ≡ 0
  none_in c [] = refl
  none_in c (name ∷ names) = let rest = none_in c names in let both = sum_by-cons (λ (n : List ℕ). 0) name names in omega arith

  -- how often the nets of a level are declared at it and in its scopes
  total : (q depth level : ℕ) (around : List (List ℕ)) (places : List ℕ) → All (Within paths (suc depth) level around) places → (c : ℕ) → times q places ≡ c → (b : Bool) → is_deeper paths level q ≡ b
      → cond (is_here paths level q) c 0 + sum_by (λ name. cond (is_in paths level name q) c 0) (scope_names paths level places) ≡ c
  total q depth level around places all zero e b f =
      let here = zero_either (is_here paths level q) in
      let rest = no_weight (λ name. is_in paths level name q) (scope_names paths level places) in
      omega arith
  total q depth level around places all (suc c) e true f =
      let below : level + 1 < length (path paths q) = ltb-true (level + 1) (length (path paths q)) f in
      let apart : length (path paths q) ≡ level + 1 → ⊥ = λ same. absurd (omega arith) in
      let other : is_here paths level q ≡ false = ne_eqb (length (path paths q)) (level + 1) apart in
      let there = met level q places f (omega arith) in
      let names = map (part_at paths level) (filter (is_deeper paths level) places) in
      let named : list_any (bytes_eq (part_at paths level q)) (scope_names paths level places) ≡ true = found-all (part_at paths level q) [] names ∙ there in
      let sum_is = weighs-all (part_at paths level q) (suc c) [] names refl in
      rw (other, f) (let all_of : sum_by (weigh (part_at paths level q) (suc c)) (scope_names paths level places) ≡ suc c = sum_is ∙ ap (λ (t : Bool). cond t (suc c) 0) named in omega arith)
  total q depth level around places all (suc c) e false f =
      let w : Within paths (suc depth) level around q = has (Within paths (suc depth) level around) q places all (omega arith) in
      let above : level < length (path paths q) = w.deep in
      let shallow : length (path paths q) ≤ level + 1 = ltb-false (level + 1) (length (path paths q)) f in
      let here : is_here paths level q ≡ true = eq-eqb (length (path paths q)) (level + 1) (omega arith) in
      rw (here, f) (let none = none_in c (scope_names paths level places) in omega arith)

  scopes-sum : (q level : ℕ) (places : List ℕ) (inner : List ℕ → List ℕ) → ((name : List ℕ) → times q (inner name) ≡ cond (is_in paths level name q) (times q places) 0) → (names : List (List ℕ))
      → times q (flat_map inner names) ≡ sum_by (λ name. cond (is_in paths level name q) (times q places) 0) names
  scopes-sum q level places inner each [] = refl
  scopes-sum q level places inner each (name ∷ names) =
      let first = each name in
      let rest = scopes-sum q level places inner each names in
      let parts_ = sum_by-append (λ y. cond (y == q) 1 0) (inner name) (flat_map inner names) in
      let both = sum_by-cons (λ n. cond (is_in paths level n q) (times q places) 0) name names in
      parts_ ∙ ap (λ t. t + times q (flat_map inner names)) first ∙ ap (λ t. cond (is_in paths level name q) (times q places) 0 + t) rest ∙ sym both

  -- each net is declared as often as it stands among the nets
  pub counted : (q depth level : ℕ) (around : List (List ℕ)) (places : List ℕ) → All (Within paths depth level around) places → times q (order paths depth level places) ≡ times q places
  counted q zero level around [] all = refl
  counted q zero level around (place ∷ places) all = let w = All-head (Within paths zero level around) place places all in absurd (omega (arith, w.deep, w.shallow))
  counted q (suc depth) level around places all =
      let here = filter (is_here paths level) places in
      let inner : List ℕ → List ℕ = λ part. order paths depth (level + 1) (filter (is_in paths level part) places) in
      let names = scope_names paths level places in
      sum_by-append (λ y. cond (y == q) 1 0) here (flat_map inner names)
      ∙ ap (λ t. t + times q (flat_map inner names)) (times-filter (is_here paths level) q places)
      ∙ ap (λ t. cond (is_here paths level q) (times q places) 0 + t) (scopes-sum q level places inner
      (λ name. counted q depth (level + 1) (around ++ name ∷ []) (filter (is_in paths level name) places) (inner_within paths depth level around name places all)
      ∙ times-filter (is_in paths level name) q places) names)
      ∙ total q depth level around places all (times q places) refl (is_deeper paths level q) refl

  all_in : (P : ℕ → Type 0) (inner : List ℕ → List ℕ) → ((name : List ℕ) → All P (inner name)) → (names : List (List ℕ)) → All P (flat_map inner names)
  all_in P inner each [] = All-nil P
  all_in P inner each (name ∷ names) = All-append P (inner name) (flat_map inner names) (each name) (all_in P inner each names)

  -- only nets are declared
  pub all-order : (P : ℕ → Type 0) (depth level : ℕ) (places : List ℕ) → All P places → All P (order paths depth level places)
  all-order P zero level places all = All-nil P
  all-order P (suc depth) level places all =
      All-append P (filter (is_here paths level) places) (flat_map (λ part. order paths depth (level + 1) (filter (is_in paths level part) places)) (scope_names paths level places))
      (All-filter (is_here paths level) P places all)
      (all_in P (λ part. order paths depth (level + 1) (filter (is_in paths level part) places))
      (λ name. all-order P depth (level + 1) (filter (is_in paths level name) places) (All-filter (is_in paths level name) P places all)) (scope_names paths level places))

-- ---- all names

parts-some : (name : List ℕ) → 0 < length (parts name)
unfolding parts
parts-some name = by (list_any (λ piece. length piece == 0) (pieces name)) (length-slice_split (λ byte. byte == 46) name)
  where
    by : (b : Bool) → length (pieces name) ≡ count_by (λ byte. byte == 46) name + 1 → 0 < length (cond b (name ∷ []) (pieces name))
    by true e = omega arith
    by false e = omega arith

parts-few : (name : List ℕ) → length name ≤ 255 → length (parts name) ≤ 256
unfolding parts
parts-few name short = by (list_any (λ piece. length piece == 0) (pieces name)) (length-slice_split (λ byte. byte == 46) name) (count_by-le-length (λ byte. byte == 46) name)
  where
    by : (b : Bool) → length (pieces name) ≡ count_by (λ byte. byte == 46) name + 1 → count_by (λ byte. byte == 46) name ≤ length name → length (cond b (name ∷ []) (pieces name)) ≤ 256
    by true e f = omega arith
    by false e f = omega arith

times-below : (q a n : ℕ) → q < a → times q (range_with_len a n) ≡ 0
times-below q a zero below = refl
times-below q a (suc n) below =
    let rest = times-below q (a + 1) n (omega arith) in
    let both = sum_by-cons (λ y. cond (y == q) 1 0) a (range_with_len (a + 1) n) in
    let other : (a == q) ≡ false = ne_eqb a q (λ e. absurd (omega arith)) in
    both ∙ ap (λ (t : Bool). cond t 1 0 + times q (range_with_len (a + 1) n)) other ∙ omega arith

times-range : (q a n : ℕ) → a ≤ q → q < a + n → times q (range_with_len a n) ≡ 1
times-range q a zero from below = absurd (omega arith)
times-range q a (suc n) from below = by (times-range q (a + 1) n) (a == q) refl
  where
    by : (a + 1 ≤ q → q < a + 1 + n → times q (range_with_len (a + 1) n) ≡ 1) → (b : Bool) → (a == q) ≡ b → times q (range_with_len a (suc n)) ≡ 1
    by later true e =
        let same : a ≡ q = eqb-true a q e in
        let rest = times-below q (a + 1) n (omega arith) in
        sum_by-cons (λ y. cond (y == q) 1 0) a (range_with_len (a + 1) n) ∙ ap (λ (t : Bool). cond t 1 0 + times q (range_with_len (a + 1) n)) e ∙ omega arith
    by later false e =
        let apart : a ≡ q → ⊥ = eqb-false a q e in
        let rest = later (omega arith) (omega arith) in
        sum_by-cons (λ y. cond (y == q) 1 0) a (range_with_len (a + 1) n) ∙ ap (λ (t : Bool). cond t 1 0 + times q (range_with_len (a + 1) n)) e ∙ omega arith

times-found : (paths : List (List (List ℕ))) (q : ℕ) (xs : List ℕ) → count_by (λ found. found.0 == q) (map (found_at paths) xs) ≡ times q xs
times-found paths q [] = refl
times-found paths q (x ∷ xs) =
    sum_by-cons (λ found. cond (found.0 == q) 1 0) (found_at paths x) (map (found_at paths) xs) ∙ ap (λ t. cond (x == q) 1 0 + t) (times-found paths q xs)
    ∙ sym (sum_by-cons (λ y. cond (y == q) 1 0) x xs)

abbrev places_of : List (List ℕ) → List ℕ
places_of names = range_with_len 0 (length names)

abbrev paths_of : List (List ℕ) → List (List (List ℕ))
paths_of names = map parts names

below_all : (names : List (List ℕ)) → All (λ place. place < length names) (places_of names)
below_all names =
    All-from_get_or (λ place. place < length names) (places_of names) 0
    (λ i inside. let long = length-range_with_len 0 (length names) in let at = get_or-range_with_len 0 (length names) i 0 (omega arith) in omega arith)

path_is : (names : List (List ℕ)) (place : ℕ) → place < length names → path (paths_of names) place ≡ parts (get_or names place [])
path_is names place inside = get_or-map parts names place [] [] inside

all_within : (names : List (List ℕ)) → All (λ name. length name ≤ 255) names → All (Within (paths_of names) 256 0 []) (places_of names)
all_within names short =
    All-weaker (λ place. place < length names) (Within (paths_of names) 256 0 [])
    (λ place inside.
    let is = path_is names place inside in
    let some = parts-some (get_or names place []) in
    let few = parts-few (get_or names place []) (short place [] inside) in
    let long = ap length is in
    record { deep = omega arith; shallow = omega arith; inside = refl })
    (places_of names) (below_all names)

abbrev order_of : List (List ℕ) → List ℕ
order_of names = order (paths_of names) 256 0 (places_of names)

all_declared : (names : List (List ℕ)) → All (λ name. length name ≤ 255) names → declared [] (declarations_of names) ≡ map (found_at (paths_of names)) (order_of names)
all_declared names short =
    ap (declared []) (sym (append-nil (declarations_of names))) ∙ walk (paths_of names) 256 0 [] (places_of names) [] (all_within names short)
    ∙ append-nil (map (found_at (paths_of names)) (order_of names))

pub declared-once : (names : List (List ℕ)) (place : ℕ) → All (λ name. length name ≤ 255) names → place < length names → count_by (λ found. found.0 == place) (declared [] (declarations_of names)) ≡ 1
declared-once names place short inside =
    ap (count_by (λ found. found.0 == place)) (all_declared names short) ∙ times-found (paths_of names) place (order_of names)
    ∙ counted (paths_of names) place 256 0 [] (places_of names) (all_within names short) ∙ times-range place 0 (length names) (omega arith) (omega arith)

pub declared-there : (names : List (List ℕ)) → All (λ name. length name ≤ 255) names → All (λ found. found.1 ≡ parts (get_or names found.0 [])) (declared [] (declarations_of names))
declared-there names short =
    let Is : ℕ × List (List ℕ) → Type 0 = λ found. found.1 ≡ parts (get_or names found.0 []) in
    All-same Is (declared [] (declarations_of names)) (map (found_at (paths_of names)) (order_of names)) (all_declared names short)
    (All-map Is (found_at (paths_of names)) (order_of names)
    (All-weaker (λ place. place < length names) (λ place. Is (found_at (paths_of names) place)) (λ place inside. path_is names place inside) (order_of names)
    (all-order (paths_of names) (λ place. place < length names) 256 0 (places_of names) (below_all names))))
