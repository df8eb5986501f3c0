-- Numbers in lists.
use Rattle.std.proofs.Common.{◌≡◌, ◌≢◌, ℕ, zero, suc, ◌+◌, ◌<◌, ◌≤◌, ◌⊎◌, inl, inr, true, false, ◌==◌, ◌||◌, List, [], ◌∷◌, ◌++◌, length, get_or, set, take, sym, ap, subst, ◌∙◌, arith, map, Bool}
use Rattle.std.specs.Prelude.{All, replicate}
use Rattle.std.specs.List.{list_any}
use Rattle.std.proofs.lemmas.Bool.{cases_eq, cases_Bool, cases_lt, eqb-true, false≢true}
use Rattle.std.proofs.lemmas.List.{length-append, length-map, get_or-map, get_or_append_left, get_or-append-add, get_or-set_same, get_or-set_other, get_or_default, get_or_past}
use Rattle.std.proofs.lemmas.List.Folds.{list_any_more}
use Rattle.cmb_engine.specs.Inner.Cells.{Cell, Told, AreBelow, AreFanout, AreLists, IsListed, cell_at, reads}
use Rattle.cmb_engine.specs.Inner.Orders.{Order, IsOrder, rank_in}
use Rattle.cmb_engine.specs.declared.cell.Pin.{Pin}

-- a number at the end of a list
among-more : (xs : List ℕ) (number other : ℕ) → (k : ℕ) × (k < length xs) × (get_or xs k 0 ≡ other)
    → (k : ℕ) × (k < length (xs ++ number ∷ [])) × (get_or (xs ++ number ∷ []) k 0 ≡ other)
among-more xs number other h = (h.0, omega (arith, h.1, length-append xs (number ∷ [])), get_or_append_left xs (number ∷ []) 0 h.0 h.1 ∙ h.2)

among-last : (xs : List ℕ) (number : ℕ) → (k : ℕ) × (k < length (xs ++ number ∷ [])) × (get_or (xs ++ number ∷ []) k 0 ≡ number)
among-last xs number = (length xs + 0, omega (arith, length-append xs (number ∷ [])), get_or-append-add xs (number ∷ []) 0 0)

below-more : (bound number : ℕ) (xs : List ℕ) → number < bound → All (λ n. n < bound) xs → All (λ n. n < bound) (xs ++ number ∷ [])
below-more bound number xs small below k d inside = go (cases_lt k (length xs))
  where
    go : (k < length xs) ⊎ (length xs ≤ k) → get_or (xs ++ number ∷ []) k d < bound
    go (inl l) = subst (λ (n : ℕ). n < bound) (sym (get_or_append_left xs (number ∷ []) d k l)) (below k d l)
    go (inr l) =
        let e : k ≡ length xs + 0 = omega (arith, length-append xs (number ∷ [])) in
        let last : get_or (xs ++ number ∷ []) k d ≡ number = ap (λ i. get_or (xs ++ number ∷ []) i d) e ∙ get_or-append-add xs (number ∷ []) 0 d in
        subst (λ (n : ℕ). n < bound) (sym last) small

-- a number put into a list
module _ (lists new : List (List ℕ)) (place number : ℕ) (inside : place < length lists) (is : new ≡ set lists place (get_or lists place [] ++ number ∷ [])) where
  pushed-here : get_or new place [] ≡ get_or lists place [] ++ number ∷ []
  pushed-here = ap (λ ls. get_or ls place []) is ∙ get_or-set_same lists place _ [] inside

  pushed-there : (m : ℕ) → m ≢ place → get_or new m [] ≡ get_or lists m []
  pushed-there m other = ap (λ ls. get_or ls m []) is ∙ get_or-set_other lists place m _ [] other

  pub pushed-keeps : (m other : ℕ) → IsListed lists m other → IsListed new m other
  pushed-keeps m other h = go (cases_eq m place)
    where
      go : (m ≡ place) ⊎ (m ≡ place → ⊥) → IsListed new m other
      go (inl e) =
          let here : IsListed lists place other = subst (λ (p : ℕ). IsListed lists p other) e h in
          subst (λ (p : ℕ). IsListed new p other) (sym e)
          (subst (λ (xs : List ℕ). (k : ℕ) × (k < length xs) × (get_or xs k 0 ≡ other)) (sym pushed-here) (among-more (get_or lists place []) number other here))
      go (inr l) = subst (λ (xs : List ℕ). (k : ℕ) × (k < length xs) × (get_or xs k 0 ≡ other)) (sym (pushed-there m l)) h

  pub pushed-has : IsListed new place number
  pushed-has = subst (λ (xs : List ℕ). (k : ℕ) × (k < length xs) × (get_or xs k 0 ≡ number)) (sym pushed-here) (among-last (get_or lists place []) number)

  pub pushed-below : (bound : ℕ) → number < bound → AreBelow bound lists → AreBelow bound new
  pushed-below bound small below m = go (cases_eq m place)
    where
      go : (m ≡ place) ⊎ (m ≡ place → ⊥) → All (λ n. n < bound) (get_or new m [])
      go (inl e) =
          subst (λ (p : ℕ). All (λ n. n < bound) (get_or new p [])) (sym e)
          (subst (λ (xs : List ℕ). All (λ n. n < bound) xs) (sym pushed-here) (below-more bound number (get_or lists place []) small (below place)))
      go (inr l) = subst (λ (xs : List ℕ). All (λ n. n < bound) xs) (sym (pushed-there m l)) (below m)

  -- one more pin
  pub pushed-pin : (pins : List Pin) (i : ℕ) (d : Pin) → i < length pins → place ≡ (get_or pins i d).net
      → ((m : ℕ) → list_any (λ pin. pin.net == m) (take i pins) ≡ true → IsListed lists m number)
      → (m : ℕ) → list_any (λ pin. pin.net == m) (take (i + 1) pins) ≡ true → IsListed new m number
  pushed-pin pins i d small at so_far m any = go (cases_Bool (list_any (λ pin. pin.net == m) (take i pins)))
    where
      parts : (list_any (λ pin. pin.net == m) (take i pins) || ((get_or pins i d).net == m)) ≡ true
      parts = sym (list_any_more (λ pin. pin.net == m) pins i d small) ∙ any

      go : (list_any (λ pin. pin.net == m) (take i pins) ≡ true) ⊎ (list_any (λ pin. pin.net == m) (take i pins) ≡ false) → IsListed new m number
      go (inl a) = pushed-keeps m number (so_far m a)
      go (inr a) =
          let last : ((get_or pins i d).net == m) ≡ true = ap (λ b. b || ((get_or pins i d).net == m)) (sym a) ∙ parts in
          subst (λ (p : ℕ). IsListed new p number) (at ∙ eqb-true _ _ last) pushed-has

-- no number is in empty lists
pub below-replicate : (bound count : ℕ) → AreBelow bound (replicate count [])
below-replicate bound zero m k d inside = absurd (omega arith)
below-replicate bound (suc count) zero k d inside = absurd (omega arith)
below-replicate bound (suc count) (suc m) k d inside = below-replicate bound count m k d inside

-- what is told reads nothing
pub lists-all : (is_such : Cell → Bool) (cells : List Cell) (lists : List (List ℕ)) (upto : ℕ) → length cells ≤ upto → length lists ≡ length cells → AreBelow (length cells) lists
    → ((m place : ℕ) → m < upto → is_such (cell_at cells m) ≡ true → reads (cell_at cells m) place ≡ true → IsListed lists place m) → AreLists is_such cells lists
lists-all is_such cells lists upto all count below listed = record {
  count = count;
  listed = λ m place such read. go m place such read (cases_lt m upto);
  within = below;
}
  where
    go : (m place : ℕ) → is_such (cell_at cells m) ≡ true → reads (cell_at cells m) place ≡ true → (m < upto) ⊎ (upto ≤ m) → IsListed lists place m
    go m place such read (inl l) = listed m place l such read
    go m place such read (inr l) = absurd (false≢true (sym (ap (λ cell. reads cell place) (get_or_past cells m Told (omega arith))) ∙ read))

-- one more net's pins are listed
pub listed-more : (is_such : Cell → Bool) (cells : List Cell) (old new : List (List ℕ)) (net : ℕ)
    → ((m place : ℕ) → m < net → is_such (cell_at cells m) ≡ true → reads (cell_at cells m) place ≡ true → IsListed old place m)
    → ((place number : ℕ) → IsListed old place number → IsListed new place number)
    → ((place : ℕ) → is_such (cell_at cells net) ≡ true → reads (cell_at cells net) place ≡ true → IsListed new place net)
    → (m place : ℕ) → m < net + 1 → is_such (cell_at cells m) ≡ true → reads (cell_at cells m) place ≡ true → IsListed new place m
listed-more is_such cells old new net so_far kept listed m place small such read = go (cases_lt m net)
  where
    go : (m < net) ⊎ (net ≤ m) → IsListed new place m
    go (inl l) = kept place m (so_far m place l such read)
    go (inr l) =
        let e : m ≡ net = omega (arith, l, small) in
        subst (λ (n : ℕ). IsListed new place n) (sym e)
        (listed place (subst (λ (n : ℕ). is_such (cell_at cells n) ≡ true) e such) (subst (λ (n : ℕ). reads (cell_at cells n) place ≡ true) e read))

-- ---- ranks in the place of slots

-- each slot of an order is below the count of its ranks
pub slots-within : (order : Order) (count : ℕ) → IsOrder order → length order.ranks ≡ count → All (λ slot. slot < count) order.slots
slots-within order count ordered ranked k d inside =
    subst (λ (slot : ℕ). slot < count) (get_or_default order.slots k 0 d inside) (omega (arith, ordered.within k inside, ranked))

pub ranked-fanout : (is_such : Cell → Bool) (cells : List Cell) (order : Order) (lists ranked : List (List ℕ))
    → ranked ≡ map (λ slot. map (rank_in order) (get_or lists slot [])) order.slots → AreLists is_such cells lists → IsOrder order
    → length order.ranks ≡ length cells → AreFanout is_such cells order ranked
ranked-fanout is_such cells order lists ranked is are ordered count = record {
  count = ap length is ∙ length-map order.slots (λ slot. map rank (get_or lists slot []));
  readers_of = λ place inside m such read. go place inside m (are.listed m (get_or order.slots place 0) such read);
  within = λ place. below place (cases_lt place (length order.slots));
}
  where
    rank : ℕ → ℕ
    rank = rank_in order

    at : (place : ℕ) → place < length order.slots → get_or ranked place [] ≡ map rank (get_or lists (get_or order.slots place 0) [])
    at place inside = ap (λ ls. get_or ls place []) is ∙ get_or-map (λ slot. map rank (get_or lists slot [])) order.slots place 0 [] inside

    go : (place : ℕ) → place < length order.slots → (m : ℕ) → IsListed lists (get_or order.slots place 0) m
        → (k : ℕ) × (k < length (get_or ranked place [])) × (get_or (get_or ranked place []) k 0 ≡ rank m)
    go place inside m h =
        let list : List ℕ = get_or lists (get_or order.slots place 0) [] in
        subst (λ (xs : List ℕ). (k : ℕ) × (k < length xs) × (get_or xs k 0 ≡ rank m)) (sym (at place inside))
        (h.0, omega (arith, h.1, length-map list rank), get_or-map rank list h.0 0 0 h.1 ∙ ap rank h.2)

    below : (place : ℕ) → (place < length order.slots) ⊎ (length order.slots ≤ place) → All (λ number. number < length order.slots) (get_or ranked place [])
    below place (inr past) = λ k d l.
        absurd (omega (arith, l, ap length (get_or_past ranked place [] (omega (arith, past, ap length is, length-map order.slots (λ slot. map rank (get_or lists slot [])))))))
    below place (inl inside) = subst (λ (xs : List ℕ). All (λ number. number < length order.slots) xs) (sym (at place inside)) each
      where
        list : List ℕ
        list = get_or lists (get_or order.slots place 0) []

        each : All (λ number. number < length order.slots) (map rank list)
        each k d l =
            let inside : k < length list = omega (arith, l, length-map list rank) in
            let small : get_or list k 0 < length order.ranks = omega (arith, are.within (get_or order.slots place 0) k 0 inside, count) in
            subst (λ (n : ℕ). n < length order.slots) (sym (get_or-map rank list k 0 d inside)) (ordered.stands (get_or list k 0) small).below
