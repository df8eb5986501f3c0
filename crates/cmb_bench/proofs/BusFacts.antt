-- The bus of a name, looked for byte by byte.
use Rattle.std.proofs.Common.{◌≡◌, ◌∙◌, ℕ, ◌+◌, ◌<◌, ◌≤◌, List, [], ◌∷◌, ◌++◌, Bool, true, false, Option, None, Some, length, take, drop, get_or, refl, sym, ap, subst, append_assoc, append-nil}
use Rattle.std.specs.Prelude.{◌&&◌, nat_eq}
use Rattle.std.proofs.lemmas.List.{drop_all, drop_more, take_more}
use Rattle.cmb_bench.specs.Buses.{behind_bytes, bus_of, is_index}

behind_more : (front more : List ℕ) (bus : Option (List ℕ)) → behind_bytes front (behind_bytes more bus) ≡ behind_bytes (front ++ more) bus
behind_more front more None = refl
behind_more front more (Some bus) = ap Some (sym (append_assoc front more bus))

cons_here : (byte : ℕ) (rest : List ℕ) → (nat_eq byte 91 && is_index rest) ≡ true → bus_of (byte ∷ rest) ≡ Some []
unfolding bus_of
cons_here byte rest h = rw h refl

cons_next : (byte : ℕ) (rest : List ℕ) → (nat_eq byte 91 && is_index rest) ≡ false → bus_of (byte ∷ rest) ≡ behind_bytes (byte ∷ []) (bus_of rest)
unfolding bus_of
cons_next byte rest h = rw h refl

pub bus_first : (bus : Option (List ℕ)) → behind_bytes [] bus ≡ bus
bus_first None = refl
bus_first (Some bus) = refl

module _ (name : List ℕ) (place : ℕ) where
  abbrev pub Found : Type 0
  Found = behind_bytes (take place name) (bus_of (drop place name)) ≡ bus_of name

  pub bus_here : place < length name → (nat_eq (get_or name place 0) 91 && is_index (drop (place + 1) name)) ≡ true → Found → bus_of name ≡ Some (take place name)
  bus_here within here so_far =
      sym so_far ∙ ap (behind_bytes (take place name)) (ap bus_of (drop_more name place 0 within) ∙ cons_here _ _ here) ∙ ap Some (append-nil (take place name))

  pub bus_next : place < length name → (nat_eq (get_or name place 0) 91 && is_index (drop (place + 1) name)) ≡ false → Found
      → behind_bytes (take (place + 1) name) (bus_of (drop (place + 1) name)) ≡ bus_of name
  bus_next within other so_far =
      ap (λ front. behind_bytes front (bus_of (drop (place + 1) name))) (take_more name place 0 within)
      ∙ sym (behind_more (take place name) (get_or name place 0 ∷ []) (bus_of (drop (place + 1) name)))
      ∙ sym (ap (behind_bytes (take place name)) (ap bus_of (drop_more name place 0 within) ∙ cons_next _ _ other)) ∙ so_far

  pub bus_nowhere : length name ≤ place → Found → bus_of name ≡ None
  unfolding bus_of
  bus_nowhere past so_far = sym so_far ∙ ap (behind_bytes (take place name)) (ap bus_of (drop_all place name past))
