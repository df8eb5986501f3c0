-- Names and their numbers.
use Rattle.std.proofs.Common.{◌≡◌, ◌<◌, ◌+◌, ℕ, suc, List, [], ◌∷◌, Bool, true, false, refl, sym, ap, ◌∙◌, arith, get_or}
use Rattle.std.specs.Prelude.{cond, not, length, nat_lt, Some, None, bytes_eq}
use Rattle.std.specs.List.{position_or_len}
use Rattle.std.proofs.lemmas.Bool.Decides.{nat_tests}
use Rattle.std.proofs.lemmas.Slice.Eq.{bytes_eq-Decides}
use Rattle.std.proofs.lemmas.Bool.{lt-ltb}
use Rattle.std.proofs.lemmas.List.Sums.{position_or_len_is}
use Rattle.std.proofs.lemmas.Map.Keys.{apart_from_distinct}
use Rattle.std.specs.List.{IsDistinct}
use Rattle.std.specs.Cmp.Lexicographic.{nat_list_eq_equiv}
use Rattle.cmb_netlist.specs.Netlist.{Netlist, name_of, number_of}

first_name : (names : List (List ℕ)) (name : List ℕ) → position_or_len (bytes_eq name) names < length names → get_or names (position_or_len (bytes_eq name) names) [] ≡ name
first_name [] name h = absurd (omega arith)
first_name (x ∷ xs) name h = by (bytes_eq name x) refl h (first_name xs name)
  where
    by : (b : Bool) → bytes_eq name x ≡ b → cond (not b) (1 + position_or_len (bytes_eq name) xs) 0 < length (x ∷ xs)
        → (position_or_len (bytes_eq name) xs < length xs → get_or xs (position_or_len (bytes_eq name) xs) [] ≡ name)
        → get_or (x ∷ xs) (cond (not b) (1 + position_or_len (bytes_eq name) xs) 0) [] ≡ name
    by true e h more = sym ((bytes_eq-Decides name x).0 e)
    by false e h more =
        let i : 1 + position_or_len (bytes_eq name) xs ≡ suc (position_or_len (bytes_eq name) xs) = omega arith in
        rw i (more (omega arith))

-- the net with a number is there, and has the name that was looked up
pub number_name : (netlist : Netlist) (name : List ℕ) (k : ℕ) → number_of netlist name ≡ Some k → (k < length netlist.names) × (get_or netlist.names k [] ≡ name)
unfolding number_of
number_name netlist name k h = by (nat_lt (position_or_len (bytes_eq name) netlist.names) (length netlist.names)) refl h
  where
    by : (b : Bool) → nat_lt (position_or_len (bytes_eq name) netlist.names) (length netlist.names) ≡ b → cond b (Some (position_or_len (bytes_eq name) netlist.names)) None ≡ Some k
        → (k < length netlist.names) × (get_or netlist.names k [] ≡ name)
    by true e h =
        let f : position_or_len (bytes_eq name) netlist.names ≡ k = cc h in
        let g : position_or_len (bytes_eq name) netlist.names < length netlist.names = grind (arith, nat_tests) in
        let a : k < length netlist.names = omega arith in
        (a, ap (λ n. get_or netlist.names n []) (sym f) ∙ first_name netlist.names name g)
    by false e h = cc h

-- two names with one number are one
pub same_name : (netlist : Netlist) (a b : List ℕ) (k : ℕ) → number_of netlist a ≡ Some k → number_of netlist b ≡ Some k → a ≡ b
same_name netlist a b k h g = sym (number_name netlist a k h).1 ∙ (number_name netlist b k g).1

-- a net has the number that its name is looked up by
pub number-name_of : (netlist : Netlist) (net : ℕ) → IsDistinct bytes_eq netlist.names → net < length netlist.names → number_of netlist (name_of netlist net) ≡ Some net
unfolding number_of
number-name_of netlist net different within =
    let place : position_or_len (bytes_eq (get_or netlist.names net [])) netlist.names ≡ net =
    position_or_len_is _ netlist.names net [] (omega arith)
    (λ k before. nat_list_eq_equiv.symm (get_or netlist.names net []) (get_or netlist.names k []) ∙ apart_from_distinct bytes_eq netlist.names k net [] different before within)
    (λ _. nat_list_eq_equiv.refl (get_or netlist.names net [])) in
    ap (λ n. cond (nat_lt n (length netlist.names)) (Some n) None) place ∙ ap (λ b. cond b (Some net) None) (lt-ltb net (length netlist.names) within)
