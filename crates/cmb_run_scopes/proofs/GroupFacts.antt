-- A net more in the scopes of a level.
use Rattle.std.proofs.Common.{◌≡◌, ℕ, suc, ◌+◌, ◌<◌, ◌≤◌, Bool, true, false, List, [], ◌∷◌, ◌++◌, length, take, set, get_or, map, filter, refl, sym, ap, ◌∙◌, arith, subst}
use Rattle.std.specs.Prelude.{◌||◌, bytes_eq, fold, not, if◌then◌else◌}
use Rattle.std.specs.List.{list_any, position_or_len, IsDistinct}
use Rattle.std.specs.Cmp.Lexicographic.{bytes_decides}
use Rattle.std.proofs.lemmas.Bool.{le-ltb, lt-ltb}
use Rattle.std.proofs.lemmas.List.{append-nil, get_or_default, length-map, map-append, take_more}
use Rattle.std.proofs.lemmas.List.Elements.{All-from_recursion, filter-append}
use Rattle.std.proofs.lemmas.List.Folds.{list_any-append, list_any_none}
use Rattle.std.proofs.lemmas.List.Sums.{fold_push}
use Rattle.indexmap.specs.IndexSet.{insert_key}
use Rattle.cmb_run_scopes.specs.Inner.Grouped.{Scope, first, grouped, placed, with_net}
use Rattle.cmb_run_scopes.specs.Scopes.{is_deeper, is_in, part_at, scopes as scope_names}

abbrev pair : List ℕ → List ℕ → Scope
pair name places = (name, places)

-- ---- where a net is put

-- scopes of other names stay
others : (name : List ℕ) (place : ℕ) (found : List Scope) → list_any (bytes_eq name) (map first found) ≡ false → map (with_net name place) found ≡ found
others name place [] apart = refl
others name place ((other, places) ∷ found) apart = by (others name place found) (bytes_eq name other) refl
  where
    by : (list_any (bytes_eq name) (map first found) ≡ false → map (with_net name place) found ≡ found) → (b : Bool) → bytes_eq name other ≡ b
        → map (with_net name place) ((other, places) ∷ found) ≡ (other, places) ∷ found
    by later true e = let no : true ≡ false = rw e at apart in absurd (cc)
    by later false e = let rest : list_any (bytes_eq name) (map first found) ≡ false = rw e at apart in rw (e, append-nil, later rest)

-- a scope more
pub placed-new : (name : List ℕ) (place : ℕ) (found : List Scope) → list_any (bytes_eq name) (map first found) ≡ false → placed name place found ≡ found ++ (name, place ∷ []) ∷ []
placed-new name place found none = rw (none, others name place found none)

-- the scope at which a name is found gets the net, and no other
abbrev at : List ℕ → List Scope → ℕ
at name found = position_or_len (bytes_eq name) (map first found)

abbrev WithIt : List ℕ → ℕ → Scope → List Scope → Type 0
WithIt name place d found =
    set found (at name found) ((get_or found (at name found) d).0, (get_or found (at name found) d).1 ++ place ∷ []) ≡ map (with_net name place) found

with_it : (name : List ℕ) (place : ℕ) (found : List Scope) (d : Scope) → IsDistinct bytes_eq (map first found) → at name found < length found → WithIt name place d found
unfolding IsDistinct
with_it name place [] d apart inside = absurd (omega arith)
with_it name place ((other, places) ∷ found) d apart inside = by (with_it name place found d apart.1) (bytes_eq name other) refl
  where
    by : (at name found < length found → WithIt name place d found) → (b : Bool) → bytes_eq name other ≡ b → WithIt name place d ((other, places) ∷ found)
    by later true e =
        let same : name ≡ other = (bytes_decides name other).0 e in
        let none : list_any (bytes_eq other) (map first found) ≡ false = list_any_none (bytes_eq other) (map first found) (All-from_recursion (λ o. bytes_eq other o ≡ false) (map first found) apart.0) in
        let none' : list_any (bytes_eq name) (map first found) ≡ false = rw same none in
        rw (e, others name place found none')
    by later false e =
        let inside' : 1 + at name found < length ((other, places) ∷ found) = rw e at inside in
        let one_more : 1 + at name found ≡ suc (at name found) = omega arith in
        rw (e, one_more, append-nil, later (omega arith))

pub placed-old : (name : List ℕ) (place : ℕ) (found : List Scope) (d : Scope) → IsDistinct bytes_eq (map first found) → list_any (bytes_eq name) (map first found) ≡ true → at name found < length found
    → set found (at name found) ((get_or found (at name found) d).0, (get_or found (at name found) d).1 ++ place ∷ []) ≡ placed name place found
placed-old name place found d apart there inside = rw (there, append-nil) (with_it name place found d apart inside)

-- ---- what is found among names

same_both : (a b : List ℕ) → bytes_eq a b ≡ bytes_eq b a
same_both a b = by (bytes_eq a b) (bytes_eq b a) refl refl
  where
    by : (p q : Bool) → bytes_eq a b ≡ p → bytes_eq b a ≡ q → bytes_eq a b ≡ bytes_eq b a
    by true true e f = e ∙ sym f
    by false false e f = e ∙ sym f
    by true false e f = let same : a ≡ b = (bytes_decides a b).0 e in let yes : bytes_eq b a ≡ true = (bytes_decides b a).1 (sym same) in absurd (cc)
    by false true e f = let same : b ≡ a = (bytes_decides b a).0 f in let yes : bytes_eq a b ≡ true = (bytes_decides a b).1 (sym same) in absurd (cc)

or_false : (b : Bool) → (b || false) ≡ b
or_false true = refl
or_false false = refl

or_assoc : (a b c : Bool) → ((a || b) || c) ≡ (a || (b || c))
or_assoc true b c = refl
or_assoc false b c = refl

pub found-insert : (name : List ℕ) (names : List (List ℕ)) (new : List ℕ) → list_any (bytes_eq name) (insert_key bytes_eq names new) ≡ (list_any (bytes_eq name) names || bytes_eq name new)
found-insert name names new = by (list_any (bytes_eq new) names) (bytes_eq name new) refl refl
  where
    by : (b c : Bool) → list_any (bytes_eq new) names ≡ b → bytes_eq name new ≡ c → list_any (bytes_eq name) (insert_key bytes_eq names new) ≡ (list_any (bytes_eq name) names || bytes_eq name new)
    by false c e f = rw e (list_any-append (bytes_eq name) names (new ∷ []) ∙ ap (λ b. list_any (bytes_eq name) names || b) (or_false (bytes_eq name new)))
    by true false e f = rw (e, f) (sym (or_false (list_any (bytes_eq name) names)))
    by true true e f =
        let same : name ≡ new = (bytes_decides name new).0 f in
        let there : list_any (bytes_eq name) names ≡ true = rw same e in
        rw (e, there)

pub found-all : (name : List ℕ) (known names : List (List ℕ)) → list_any (bytes_eq name) (fold (insert_key bytes_eq) known names) ≡ (list_any (bytes_eq name) known || list_any (bytes_eq name) names)
found-all name known [] = sym (or_false (list_any (bytes_eq name) known))
found-all name known (new ∷ names) =
    found-all name (insert_key bytes_eq known new) names ∙ ap (λ b. b || list_any (bytes_eq name) names) (found-insert name known new)
    ∙ or_assoc (list_any (bytes_eq name) known) (bytes_eq name new) (list_any (bytes_eq name) names)

-- ---- a net more

agree : {X Y : Type 0} (f g : X → Y) → ((x : X) → f x ≡ g x) → (xs : List X) → map f xs ≡ map g xs
agree f g same [] = refl
agree f g same (x ∷ xs) = rw (same x, agree f g same xs)

pub map_twice : {X Y Z : Type 0} (f : X → Y) (g : Y → Z) (xs : List X) → map g (map f xs) ≡ map (λ x. g (f x)) xs
map_twice f g [] = refl
map_twice f g (x ∷ xs) = ap (λ t. g (f x) ∷ t) (map_twice f g xs)

names_only : (h : List ℕ → List ℕ) (names : List (List ℕ)) → map first (map (λ name. (name, h name)) names) ≡ names
names_only h [] = refl
names_only h (name ∷ names) = ap (λ t. name ∷ t) (names_only h names)

module _ (paths : List (List (List ℕ))) (level : ℕ) where
  -- the names of the scopes that are grouped
  pub grouped-names : (places : List ℕ) → map first (grouped paths level places) ≡ scope_names paths level places
  grouped-names places = names_only (λ name. filter (is_in paths level name) places) (scope_names paths level places)

  -- a net that is in no scope further inside
  pub scopes-keep : (places : List ℕ) (place : ℕ) → is_deeper paths level place ≡ false → scope_names paths level (places ++ place ∷ []) ≡ scope_names paths level places
  scopes-keep places place none = rw (filter-append (is_deeper paths level) places (place ∷ []), none, append-nil)

  pub grouped-keep : (places : List ℕ) (place : ℕ) → is_deeper paths level place ≡ false → grouped paths level (places ++ place ∷ []) ≡ grouped paths level places
  grouped-keep places place none =
      ap (map (λ name. pair name (filter (is_in paths level name) (places ++ place ∷ [])))) (scopes-keep places place none)
      ∙ agree (λ name. pair name (filter (is_in paths level name) (places ++ place ∷ []))) (λ name. pair name (filter (is_in paths level name) places))
      (λ name. ap (pair name) (rw (filter-append (is_in paths level name) places (place ∷ []), none, append-nil))) (scope_names paths level places)

  -- a net that is in one
  pub scopes-push : (places : List ℕ) (place : ℕ) → is_deeper paths level place ≡ true
      → scope_names paths level (places ++ place ∷ []) ≡ insert_key bytes_eq (scope_names paths level places) (part_at paths level place)
  scopes-push places place deeper =
      rw (filter-append (is_deeper paths level) places (place ∷ []), deeper, map-append (part_at paths level) (filter (is_deeper paths level) places) (place ∷ []))
      (fold_push (insert_key bytes_eq) [] (map (part_at paths level) (filter (is_deeper paths level) places)) (part_at paths level place))

  -- no net is in a scope whose name wasn't met
  none_in : (name : List ℕ) (places : List ℕ) → list_any (bytes_eq name) (map (part_at paths level) (filter (is_deeper paths level) places)) ≡ false → filter (is_in paths level name) places ≡ []
  none_in name [] none = refl
  none_in name (place ∷ places) none = by (none_in name places) (is_deeper paths level place) (bytes_eq name (part_at paths level place)) refl refl
    where
      by : (list_any (bytes_eq name) (map (part_at paths level) (filter (is_deeper paths level) places)) ≡ false → filter (is_in paths level name) places ≡ [])
          → (b c : Bool) → is_deeper paths level place ≡ b → bytes_eq name (part_at paths level place) ≡ c → filter (is_in paths level name) (place ∷ places) ≡ []
      by later false c e f = let rest : list_any (bytes_eq name) (map (part_at paths level) (filter (is_deeper paths level) places)) ≡ false = rw e at none in rw e (later rest)
      by later true false e f =
          let rest : list_any (bytes_eq name) (map (part_at paths level) (filter (is_deeper paths level) places)) ≡ false = rw (e, f) at none in
          let other : bytes_eq (part_at paths level place) name ≡ false = same_both (part_at paths level place) name ∙ f in
          rw (e, other) (later rest)
      by later true true e f = let no : true ≡ false = rw (e, f) at none in absurd (cc)

module _ (paths : List (List (List ℕ))) (level : ℕ) (places : List ℕ) (place : ℕ) (deeper : is_deeper paths level place ≡ true) where
  abbrev part : List ℕ
  part = part_at paths level place

  abbrev alone : List ℕ → Scope
  alone name = (name, filter (is_in paths level name) places)

  abbrev joined : List ℕ → Scope
  joined name = (name, filter (is_in paths level name) (places ++ place ∷ []))

  one : (name : List ℕ) → joined name ≡ with_net part place (alone name)
  one name = ap (pair name) (rw (filter-append (is_in paths level name) places (place ∷ []), deeper))

  each : (names : List (List ℕ)) → map joined names ≡ map (with_net part place) (map alone names)
  each names = agree joined (λ name. with_net part place (alone name)) one names ∙ sym (map_twice alone (with_net part place) names)

  -- each scope with one net more
  pub grouped-push : grouped paths level (places ++ place ∷ []) ≡ placed part place (grouped paths level places)
  grouped-push = by (list_any (bytes_eq part) (scope_names paths level places)) refl
    where
      by : (b : Bool) → list_any (bytes_eq part) (scope_names paths level places) ≡ b → grouped paths level (places ++ place ∷ []) ≡ placed part place (grouped paths level places)
      by true e =
          let same : scope_names paths level (places ++ place ∷ []) ≡ scope_names paths level places =
          scopes-push paths level places place deeper ∙ ap (λ (b : Bool). if b then scope_names paths level places else scope_names paths level places ++ part ∷ []) e in
          let names = grouped-names paths level places in
          let there : list_any (bytes_eq part) (map first (grouped paths level places)) ≡ true = ap (list_any (bytes_eq part)) names ∙ e in
          ap (map joined) same ∙ each (scope_names paths level places)
          ∙ sym (append-nil (map (with_net part place) (grouped paths level places)))
          ∙ ap (λ (b : Bool). map (with_net part place) (grouped paths level places) ++ (if b then [] else (part, place ∷ []) ∷ [])) (sym there)
      by false e =
          let more : scope_names paths level (places ++ place ∷ []) ≡ scope_names paths level places ++ part ∷ [] =
          scopes-push paths level places place deeper ∙ ap (λ (b : Bool). if b then scope_names paths level places else scope_names paths level places ++ part ∷ []) e in
          let names = grouped-names paths level places in
          let new : list_any (bytes_eq part) (map first (grouped paths level places)) ≡ false = ap (list_any (bytes_eq part)) names ∙ e in
          let unmet : list_any (bytes_eq part) (map (part_at paths level) (filter (is_deeper paths level) places)) ≡ false =
          sym (found-all part [] (map (part_at paths level) (filter (is_deeper paths level) places))) ∙ e in
          let none = none_in paths level part places unmet in
          let itself : bytes_eq part part ≡ true = (bytes_decides part part).1 refl in
          let first_net : joined part ≡ (part, place ∷ []) = ap (pair part) (rw (filter-append (is_in paths level part) places (place ∷ []), deeper, none, itself)) in
          ap (map joined) more ∙ map-append joined (scope_names paths level places) (part ∷ [])
          ∙ ap (λ t. map joined (scope_names paths level places) ++ t ∷ []) first_net
          ∙ ap (λ t. t ++ (part, place ∷ []) ∷ []) (each (scope_names paths level places))
          ∙ ap (λ (b : Bool). map (with_net part place) (grouped paths level places) ++ (if b then [] else (part, place ∷ []) ∷ [])) (sym new)

-- ---- as the code goes on

-- a net more, that is in a scope
pub grouped-more : (paths : List (List (List ℕ))) (level : ℕ) (places : List ℕ) (i : ℕ) → i < length places → is_deeper paths level (get_or places i 0) ≡ true
    → (scope_names paths level (take (i + 1) places) ≡ insert_key bytes_eq (scope_names paths level (take i places)) (part_at paths level (get_or places i 0)))
    × (grouped paths level (take (i + 1) places) ≡ placed (part_at paths level (get_or places i 0)) (get_or places i 0) (grouped paths level (take i places)))
grouped-more paths level places i inside deeper =
    let more = take_more places i 0 inside in (
      ap (scope_names paths level) more ∙ scopes-push paths level (take i places) (get_or places i 0) deeper,
      ap (grouped paths level) more ∙ grouped-push paths level (take i places) (get_or places i 0) deeper,
    )

-- a net more, that is in none
pub grouped-same : (paths : List (List (List ℕ))) (level : ℕ) (places : List ℕ) (i : ℕ) → i < length places → is_deeper paths level (get_or places i 0) ≡ false
    → (scope_names paths level (take (i + 1) places) ≡ scope_names paths level (take i places)) × (grouped paths level (take (i + 1) places) ≡ grouped paths level (take i places))
grouped-same paths level places i inside none =
    let more = take_more places i 0 inside in (
      ap (scope_names paths level) more ∙ scopes-keep paths level (take i places) (get_or places i 0) none,
      ap (grouped paths level) more ∙ grouped-keep paths level (take i places) (get_or places i 0) none,
    )

-- ---- as the code puts a net

pub placed-first : (v name : List ℕ) (place : ℕ) (found : List Scope) (keys : List (List ℕ)) (is_first : Bool) (s : Scope) (new : List Scope) → v ≡ name → map first found ≡ keys
    → is_first ≡ true → is_first ≡ not (list_any (bytes_eq v) keys) → s ≡ (name, place ∷ []) → new ≡ found ++ s ∷ [] → new ≡ placed name place found
placed-first v name place found keys is_first s new same names opens is made pushed =
    pushed ∙ ap (λ t. found ++ t ∷ []) made ∙ sym (placed-new name place found (by (list_any (bytes_eq name) (map first found)) refl))
  where
    by : (b : Bool) → list_any (bytes_eq name) (map first found) ≡ b → list_any (bytes_eq name) (map first found) ≡ false
    by false e = e
    by true e =
        let there : list_any (bytes_eq v) keys ≡ true = rw (same, sym names) e in
        let other : is_first ≡ false = is ∙ ap not there in
        absurd (cc)

pub placed-again : (v name : List ℕ) (place : ℕ) (found : List Scope) (keys new_keys : List (List ℕ)) (is_first : Bool) (index : ℕ) (got added : Scope) → v ≡ name → map first found ≡ keys
    → is_first ≡ false → is_first ≡ not (list_any (bytes_eq v) keys) → new_keys ≡ insert_key bytes_eq keys v → IsDistinct bytes_eq new_keys
    → index ≡ position_or_len (bytes_eq v) keys → index < length new_keys → got ≡ get_or found index got → added ≡ (got.0, got.1 ++ place ∷ []) → set found index added ≡ placed name place found
placed-again v name place found keys new_keys is_first index got added same names stands is kept apart where_ inside read made = by (list_any (bytes_eq name) (map first found)) refl
  where
    by : (b : Bool) → list_any (bytes_eq name) (map first found) ≡ b → set found index added ≡ placed name place found
    by false e =
        let none : list_any (bytes_eq v) keys ≡ false = rw (same, sym names) e in
        let other : is_first ≡ true = is ∙ ap not none in
        absurd (cc)
    by true e =
        let there : list_any (bytes_eq v) keys ≡ true = rw (same, sym names) e in
        let stays : new_keys ≡ map first found = kept ∙ ap (λ (b : Bool). if b then keys else keys ++ v ∷ []) there ∙ sym names in
        let apart' : IsDistinct bytes_eq (map first found) = subst (IsDistinct bytes_eq) stays apart in
        let place_is : index ≡ at name found = where_ ∙ ap (λ t. position_or_len (bytes_eq t) keys) same ∙ ap (position_or_len (bytes_eq name)) (sym names) in
        let long : length new_keys ≡ length found = ap length stays ∙ length-map found first in
        let within : at name found < length found = omega arith in
        let read' : get_or found (at name found) got ≡ got = sym (read ∙ ap (λ i. get_or found i got) place_is) in
        ap (λ i. set found i added) place_is ∙ ap (set found (at name found)) (made ∙ ap (λ (t : Scope). pair t.0 (t.1 ++ place ∷ [])) (sym read'))
        ∙ placed-old name place found got apart' e within

-- ---- as the code goes over nets

abbrev Grouped : List (List (List ℕ)) → ℕ → List ℕ → List (List ℕ) → List Scope → Type 0
Grouped paths level places seen found = (seen ≡ scope_names paths level places) × (found ≡ grouped paths level places)

path-is : (paths : List (List (List ℕ))) (place : ℕ) (p : List (List ℕ)) → place < length paths → p ≡ get_or paths place p → get_or paths place [] ≡ p
path-is paths place p inside is = get_or_default paths place [] p inside ∙ sym is

pub put-more : (paths : List (List (List ℕ))) (level : ℕ) (places : List ℕ) (i n : ℕ) (p : List (List ℕ)) (part : List ℕ) (seen new_seen : List (List ℕ)) (found new_found : List Scope)
    → i < length places → get_or places i 0 < length paths → p ≡ get_or paths (get_or places i 0) p → n ≡ length p → level + 1 < n → part ≡ get_or p level []
    → seen ≡ scope_names paths level (take i places) → found ≡ grouped paths level (take i places) → new_seen ≡ insert_key bytes_eq seen part → new_found ≡ placed part (get_or places i 0) found
    → Grouped paths level (take (i + 1) places) new_seen new_found
put-more paths level places i n p part seen new_seen found new_found inside known is long deeper named s f h k =
    let path_is = path-is paths (get_or places i 0) p known is in
    let longer : level + 1 < length (get_or paths (get_or places i 0) []) = rw path_is (omega arith) in
    let test : is_deeper paths level (get_or places i 0) ≡ true = lt-ltb (level + 1) (length (get_or paths (get_or places i 0) [])) longer in
    let part_is : part ≡ part_at paths level (get_or places i 0) = named ∙ ap (λ q. get_or q level []) (sym path_is) in
    let more = grouped-more paths level places i inside test in (
      h ∙ ap (λ q. insert_key bytes_eq q part) s ∙ ap (insert_key bytes_eq (scope_names paths level (take i places))) part_is ∙ sym more.0,
      k ∙ ap (placed part (get_or places i 0)) f ∙ ap (λ q. placed q (get_or places i 0) (grouped paths level (take i places))) part_is ∙ sym more.1,
    )

pub put-same : (paths : List (List (List ℕ))) (level : ℕ) (places : List ℕ) (i n : ℕ) (p : List (List ℕ)) (seen : List (List ℕ)) (found : List Scope)
    → i < length places → get_or places i 0 < length paths → p ≡ get_or paths (get_or places i 0) p → n ≡ length p → n ≤ level + 1
    → seen ≡ scope_names paths level (take i places) → found ≡ grouped paths level (take i places)
    → Grouped paths level (take (i + 1) places) seen found
put-same paths level places i n p seen found inside known is long shallow s f =
    let path_is = path-is paths (get_or places i 0) p known is in
    let shorter : length (get_or paths (get_or places i 0) []) ≤ level + 1 = rw path_is (omega arith) in
    let test : is_deeper paths level (get_or places i 0) ≡ false = le-ltb (level + 1) (length (get_or paths (get_or places i 0) [])) shorter in
    let same = grouped-same paths level places i inside test in
    (s ∙ sym same.0, f ∙ sym same.1)
