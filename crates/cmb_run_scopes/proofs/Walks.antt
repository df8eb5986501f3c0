-- What declarations say, read in order.
use Rattle.std.proofs.Common.{◌≡◌, ℕ, zero, suc, ◌+◌, ◌-◌, ◌<◌, ◌≤◌, Bool, true, false, List, [], ◌∷◌, ◌++◌, length, take, get_or, map, filter, refl, sym, ap, ◌∙◌, arith, append_assoc, length-append}
use Rattle.std.specs.Prelude.{◌&&◌, ◌==◌, nat_lt, bytes_eq, flat_map, All}
use Rattle.std.specs.Cmp.Lexicographic.{bytes_decides}
use Rattle.std.proofs.lemmas.List.{map-append, take_all, take_at, take_more}
use Rattle.std.proofs.lemmas.List.Elements.{All-cons, All-head, All-nil, All-tail}
use Rattle.cmb_run_scopes.specs.Reading.{declared}
use Rattle.cmb_run_scopes.specs.Scopes.{Declaration, declarations, is_deeper, is_here, is_in, part_at, path, scopes as scope_names}
use Rattle.cmb_run_scopes.specs.Scopes.Declaration.{net, scope, upscope}

both_true : (a b : Bool) → (a && b) ≡ true → (a ≡ true) × (b ≡ true)
both_true true b e = (refl, e)
both_true false b e = absurd (cc)

popped : (xs : List (List ℕ)) (x : List ℕ) → take (length (xs ++ x ∷ []) - 1) (xs ++ x ∷ []) ≡ xs
popped xs x = let long = length-append xs (x ∷ []) in take_at xs (x ∷ []) (length (xs ++ x ∷ []) - 1) (omega arith)

module _ (paths : List (List (List ℕ))) where
  -- the net lies in this scope of the level, and so many scopes further inside at most
  pub record Within (depth level : ℕ) (around : List (List ℕ)) (place : ℕ) : Type 0 where
    pub deep : level < length (path paths place)
    pub shallow : length (path paths place) ≤ level + depth
    pub inside : take level (path paths place) ≡ around

  -- the order in which nets are declared
  abbrev pub order : ℕ → ℕ → List ℕ → List ℕ
  order zero level places = []
  order (suc depth) level places =
      filter (is_here paths level) places ++ flat_map (λ part. order depth (level + 1) (filter (is_in paths level part) places)) (scope_names paths level places)

  abbrev pub found_at : ℕ → ℕ × List (List ℕ)
  found_at place = (place, path paths place)

  abbrev own : ℕ → ℕ → Declaration
  own level place = net place (part_at paths level place)

  whole_path : (depth level : ℕ) (around : List (List ℕ)) (place : ℕ) → Within depth level around place → length (path paths place) ≡ level + 1 → around ++ part_at paths level place ∷ [] ≡ path paths place
  whole_path depth level around place w long =
      ap (λ t. t ++ part_at paths level place ∷ []) (sym w.inside) ∙ sym (take_more (path paths place) level [] (omega arith)) ∙ take_all (level + 1) (path paths place) (omega arith)

  own-declared : (depth level : ℕ) (around : List (List ℕ)) (places : List ℕ) (rest : List Declaration) → All (Within depth level around) places
      → declared around (map (own level) (filter (is_here paths level) places) ++ rest) ≡ map found_at (filter (is_here paths level) places) ++ declared around rest
  own-declared depth level around [] rest all = refl
  own-declared depth level around (place ∷ places) rest all =
      by (own-declared depth level around places rest (All-tail (Within depth level around) place places all)) (is_here paths level place) refl
    where
      by : declared around (map (own level) (filter (is_here paths level) places) ++ rest) ≡ map found_at (filter (is_here paths level) places) ++ declared around rest
          → (b : Bool) → is_here paths level place ≡ b
          → declared around (map (own level) (filter (is_here paths level) (place ∷ places)) ++ rest) ≡ map found_at (filter (is_here paths level) (place ∷ places)) ++ declared around rest
      by later false e = rw e later
      by later true e =
          let long : length (path paths place) ≡ level + 1 = grind (arith, e) in
          let here = whole_path depth level around place (All-head (Within depth level around) place places all) long in
          rw (e, here, later)

  -- a scope further inside
  deeper_within : (depth level : ℕ) (around : List (List ℕ)) (name : List ℕ) (place : ℕ) → Within (suc depth) level around place → is_in paths level name place ≡ true
      → Within depth (level + 1) (around ++ name ∷ []) place
  deeper_within depth level around name place w test =
      let tests = both_true (is_deeper paths level place) (bytes_eq (part_at paths level place) name) test in
      let below : level + 1 < length (path paths place) = grind (arith, tests.0) in
      let same : part_at paths level place ≡ name = (bytes_decides (part_at paths level place) name).0 tests.1 in
      record {
        deep = below;
        shallow = let s = w.shallow in omega arith;
        inside = take_more (path paths place) level [] (omega arith) ∙ ap (λ t. t ++ part_at paths level place ∷ []) w.inside ∙ ap (λ t. around ++ t ∷ []) same;
      }

  pub inner_within : (depth level : ℕ) (around : List (List ℕ)) (name : List ℕ) (places : List ℕ) → All (Within (suc depth) level around) places
      → All (Within depth (level + 1) (around ++ name ∷ [])) (filter (is_in paths level name) places)
  inner_within depth level around name [] all = All-nil (Within depth (level + 1) (around ++ name ∷ []))
  inner_within depth level around name (place ∷ places) all =
      by (inner_within depth level around name places (All-tail (Within (suc depth) level around) place places all)) (is_in paths level name place) refl
    where
      by : All (Within depth (level + 1) (around ++ name ∷ [])) (filter (is_in paths level name) places) → (b : Bool) → is_in paths level name place ≡ b
          → All (Within depth (level + 1) (around ++ name ∷ [])) (filter (is_in paths level name) (place ∷ places))
      by later false e = rw e later
      by later true e =
          rw e (All-cons (Within depth (level + 1) (around ++ name ∷ [])) place (filter (is_in paths level name) places)
          (deeper_within depth level around name place (All-head (Within (suc depth) level around) place places all) e) later)

  -- one scope after the other
  blocks : (around : List (List ℕ)) (block : List ℕ → List Declaration) (inner : List ℕ → List ℕ)
      → ((name : List ℕ) (more : List Declaration) → declared around (block name ++ more) ≡ map found_at (inner name) ++ declared around more)
      → (names : List (List ℕ)) (rest : List Declaration) → declared around (flat_map block names ++ rest) ≡ map found_at (flat_map inner names) ++ declared around rest
  blocks around block inner one [] rest = refl
  blocks around block inner one (name ∷ names) rest =
      ap (declared around) (append_assoc (block name) (flat_map block names) rest) ∙ one name (flat_map block names ++ rest)
      ∙ ap (λ t. map found_at (inner name) ++ t) (blocks around block inner one names rest)
      ∙ sym (append_assoc (map found_at (inner name)) (map found_at (flat_map inner names)) (declared around rest))
      ∙ ap (λ t. t ++ declared around rest) (sym (map-append found_at (inner name) (flat_map inner names)))

  block_declared : (around : List (List ℕ)) (name : List ℕ) (lines : List Declaration) (inner : List ℕ) (more : List Declaration)
      → declared (around ++ name ∷ []) (lines ++ upscope ∷ more) ≡ map found_at inner ++ declared (around ++ name ∷ []) (upscope ∷ more)
      → declared around ((scope name ∷ lines ++ upscope ∷ []) ++ more) ≡ map found_at inner ++ declared around more
  block_declared around name lines inner more h =
      ap (declared (around ++ name ∷ [])) (append_assoc lines (upscope ∷ []) more) ∙ h ∙ ap (λ t. map found_at inner ++ declared t more) (popped around name)

  -- the nets are declared in this order, each where its parts say
  pub walk : (depth level : ℕ) (around : List (List ℕ)) (places : List ℕ) (rest : List Declaration) → All (Within depth level around) places
      → declared around (declarations depth paths level places ++ rest) ≡ map found_at (order depth level places) ++ declared around rest
  unfolding declarations
  walk zero level around places rest all = refl
  walk (suc depth) level around places rest all =
      let block : List ℕ → List Declaration = λ part. scope part ∷ declarations depth paths (level + 1) (filter (is_in paths level part) places) ++ upscope ∷ [] in
      let inner : List ℕ → List ℕ = λ part. order depth (level + 1) (filter (is_in paths level part) places) in
      let here = filter (is_here paths level) places in
      let names = scope_names paths level places in
      ap (declared around) (append_assoc (map (own level) here) (flat_map block names) rest)
      ∙ own-declared (suc depth) level around places (flat_map block names ++ rest) all
      ∙ ap (λ t. map found_at here ++ t) (blocks around block inner
      (λ name more. block_declared around name (declarations depth paths (level + 1) (filter (is_in paths level name) places)) (inner name) more
      (walk depth (level + 1) (around ++ name ∷ []) (filter (is_in paths level name) places) (upscope ∷ more) (inner_within depth level around name places all))) names rest)
      ∙ sym (append_assoc (map found_at here) (map found_at (flat_map inner names)) (declared around rest))
      ∙ ap (λ t. t ++ declared around rest) (sym (map-append found_at here (flat_map inner names)))
