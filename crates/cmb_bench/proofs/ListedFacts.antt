-- A list read token by token.
use Rattle.std.proofs.Common.{◌≡◌, ◌∙◌, ℕ, List, [], ◌∷◌, ◌++◌, ◌+◌, Bool, true, false, Option, None, Some, refl, sym, ap, append-nil, cond, arith, subst}
use Rattle.std.specs.Prelude.{◌||◌, ◌<◌, not, if◌then◌else◌, length, All}
use Rattle.std.specs.List.{filter, list_any, range_with_len}
use Rattle.std.specs.Str.{bytes_eq}
use Rattle.std.proofs.lemmas.List.Elements.{All-filter, filter-append}
use Rattle.std.proofs.lemmas.List.Folds.{list_any-append}
use Rattle.std.proofs.lemmas.List.FromFn.{get_or-range_with_len, length-range_with_len, map-range_with_len_more}
use Rattle.std.proofs.lemmas.List.{map-id}
use Rattle.cmb_bench.specs.declared.text.Class.TheVariants.{End}
use Rattle.cmb_bench.specs.Inner.Said.{AreSaid}
use Rattle.cmb_bench.specs.Inner.Snippet.{snippets_of}
use Rattle.cmb_bench.specs.Inner.Scan.{behind}
use Rattle.cmb_bench.specs.Inner.Word.{is_end, name_in}
use Rattle.cmb_bench.specs.Buses.{bus_of}
use Rattle.cmb_bench.specs.Listed.{HasUnknown, Lists, is_meant, is_meant_by_bus, is_name, is_said, is_unknown, meant_nets, unknown_line}
use Rattle.cmb_bench.specs.Statement.{is_member}
use Rattle.cmb_netlist.specs.Netlist.{Netlist, name_of, number_of}
use Rattle.cmb_bench.specs.Text.{Lexeme, Word, mark, name, tokens_of}
use Rattle.cmb_bench.proofs.Cutting.{cutting_is}
use Rattle.cmb_bench.proofs.MemberFacts.{member_more, or_false}

module _ (netlist : Netlist) (s after : List Lexeme) (token : Lexeme) (is : s ≡ token ∷ behind token.word after) where
  pub known_next : is_unknown netlist token.word ≡ false → is_end token.word ≡ false → unknown_line netlist s ≡ unknown_line netlist after
  unfolding unknown_line
  known_next known more = rw (is, known, more) refl

  pub unknown_here : is_unknown netlist token.word ≡ true → unknown_line netlist s ≡ Some token.line
  unfolding unknown_line
  unknown_here unknown = rw (is, unknown) refl

  pub known_end : is_end token.word ≡ true → unknown_line netlist s ≡ None
  unfolding unknown_line
  known_end last = rw (is, last) (by token.word last)
    where
      by : (word : Word) → is_end word ≡ true → unknown_line netlist (record { word = word; line = token.line } ∷ []) ≡ None
      by (mark End) h = refl
      by _ h = cc h

module _ (s after : List Lexeme) (token : Lexeme) (is : s ≡ token ∷ behind token.word after) where
  pub said_next : is_end token.word ≡ false → (bytes : List ℕ) → is_said s bytes ≡ (is_name bytes token.word || is_said after bytes)
  said_next more bytes = rw (is, more) refl

  pub said_end : is_end token.word ≡ true → (bytes : List ℕ) → is_said s bytes ≡ false
  said_end last bytes = rw (is, last) (by token.word last)
    where
      by : (word : Word) → is_end word ≡ true → is_said (record { word = word; line = token.line } ∷ []) bytes ≡ false
      by (mark End) h = refl
      by _ h = cc h

-- a token that is a name says it
pub name_is : (word : Word) (own bytes : List ℕ) → name_in word ≡ Some own → is_name bytes word ≡ bytes_eq bytes own
name_is (name other) own bytes h = let e : other ≡ own = cc in ap (bytes_eq bytes) e
name_is (mark class) own bytes h = cc h

or_assoc : (a b c : Bool) → ((a || b) || c) ≡ (a || (b || c))
or_assoc true b c = refl
or_assoc false b c = refl

-- one name more was read
pub said_more : (all s after : List Lexeme) (token : Lexeme) (old new : List (List ℕ)) (own : List ℕ) (fresh : Bool) → s ≡ token ∷ behind token.word after → is_end token.word ≡ false
    → name_in token.word ≡ Some own → fresh ≡ not (is_member own old) → new ≡ (if fresh then old ++ own ∷ [] else old)
    → ((x : List ℕ) → (is_member x old || is_said s x) ≡ is_said all x) → (x : List ℕ) → (is_member x new || is_said after x) ≡ is_said all x
said_more all s after token old new own fresh is more named is_fresh grown so_far x =
    let here : is_said s x ≡ (bytes_eq x own || is_said after x) = said_next s after token is more x ∙ ap (λ b. b || is_said after x) (name_is token.word own x named) in
    ap (λ b. b || is_said after x) (member_more old new own x fresh is_fresh grown) ∙ or_assoc (is_member x old) (bytes_eq x own) (is_said after x)
    ∙ ap (λ b. is_member x old || b) (sym here) ∙ so_far x

-- all names were read
pub AreSaid-read : (netlist : Netlist) (bytes : List ℕ) (names : List (List ℕ)) (s t after : List Lexeme) (token : Lexeme) → s ≡ tokens_of (snippets_of bytes)
    → unknown_line netlist s ≡ unknown_line netlist t → ((x : List ℕ) → (is_member x names || is_said t x) ≡ is_said s x) → t ≡ token ∷ behind token.word after → is_end token.word ≡ true
    → AreSaid netlist bytes names
AreSaid-read netlist bytes names s t after token all known said is last = record {
  known = ap (unknown_line netlist) (sym all) ∙ known ∙ known_end netlist t after token is last;
  said = λ x. sym (or_false (is_member x names)) ∙ ap (λ b. is_member x names || b) (sym (said_end t after token is last x)) ∙ said x ∙ ap (λ l. is_said l x) all;
}

-- one was read that is no name of a net or bus
pub HasUnknown-read : (netlist : Netlist) (bytes : List ℕ) (s t : List Lexeme) (line : ℕ) → s ≡ tokens_of (snippets_of bytes) → unknown_line netlist s ≡ unknown_line netlist t → unknown_line netlist t ≡ Some line
    → HasUnknown netlist bytes line
HasUnknown-read netlist bytes s t line all known here = record {
  snippets = snippets_of bytes;
  cut = cutting_is bytes;
  first = ap (unknown_line netlist) (sym all) ∙ known ∙ here;
}

-- names that are said alike mean the same nets
meant_same : (netlist : Netlist) (one other : List ℕ → Bool) → ((bytes : List ℕ) → one bytes ≡ other bytes) → (net : ℕ) → is_meant netlist one net ≡ is_meant netlist other net
meant_same netlist one other same net = rw (same (name_of netlist net)) (ap (λ b. other (name_of netlist net) || b) (by (bus_of (name_of netlist net))))
  where
    by : (bus : Option (List ℕ)) → is_meant_by_bus netlist one bus ≡ is_meant_by_bus netlist other bus
    by None = refl
    by (Some bus) = rw (same bus) refl

filter_same : (p q : ℕ → Bool) → ((n : ℕ) → p n ≡ q n) → (ns : List ℕ) → filter p ns ≡ filter q ns
filter_same p q same [] = refl
filter_same p q same (n ∷ ns) = rw (same n, filter_same p q same ns) refl

-- all tokens were read
pub Lists-read : (netlist : Netlist) (bytes numbers : List ℕ) (names : List (List ℕ)) → AreSaid netlist bytes names → numbers ≡ meant_nets netlist (λ name. is_member name names) → Lists netlist bytes numbers
Lists-read netlist bytes numbers names said are = record {
  snippets = snippets_of bytes;
  cut = cutting_is bytes;
  known = said.known;
  are = are ∙ filter_same _ _ (meant_same netlist (λ name. is_member name names) (is_said (tokens_of (snippets_of bytes))) said.said) _;
}

-- ---- nets one by one

-- the nets that are meant are nets
pub meant_within : (netlist : Netlist) (said : List ℕ → Bool) (nets : List ℕ) → nets ≡ meant_nets netlist said → All (λ net. net < length netlist.names) nets
meant_within netlist said nets is =
    let Below : List ℕ → Type 0 = λ l. All (λ net. net < length netlist.names) l in
    subst Below (sym is) (All-filter (is_meant netlist said) (λ net. net < length netlist.names) (range_with_len 0 (length netlist.names))
    (λ k d h. let l = length-range_with_len 0 (length netlist.names) in let e = get_or-range_with_len 0 (length netlist.names) k d (omega (arith, h, l)) in omega (arith, h, l, e)))

range_more : (n : ℕ) → range_with_len 0 (n + 1) ≡ range_with_len 0 n ++ n ∷ []
range_more n = sym (map-id (range_with_len 0 (n + 1))) ∙ map-range_with_len_more (λ (k : ℕ). k) 0 n n (omega arith) ∙ ap (λ xs. xs ++ n ∷ []) (map-id (range_with_len 0 n))

pub passed : (p : ℕ → Bool) (net : ℕ) (old new : List ℕ) → old ≡ filter p (range_with_len 0 net) → p net ≡ true → new ≡ old ++ net ∷ [] → new ≡ filter p (range_with_len 0 (net + 1))
passed p net old new so_far passes is =
    is ∙ ap (λ xs. xs ++ net ∷ []) so_far
    ∙ sym (ap (filter p) (range_more net) ∙ filter-append p (range_with_len 0 net) (net ∷ []) ∙ ap (λ b. filter p (range_with_len 0 net) ++ cond b (net ∷ []) []) passes)

pub left_out : (p : ℕ → Bool) (net : ℕ) (old new : List ℕ) → old ≡ filter p (range_with_len 0 net) → p net ≡ false → new ≡ old → new ≡ filter p (range_with_len 0 (net + 1))
left_out p net old new so_far fails is =
    is ∙ so_far
    ∙ sym (ap (filter p) (range_more net) ∙ filter-append p (range_with_len 0 net) (net ∷ []) ∙ ap (λ b. filter p (range_with_len 0 net) ++ cond b (net ∷ []) []) fails ∙ append-nil (filter p (range_with_len 0 net)))
