-- The fault that reading answers is what the machine finds at the first token where it finds one.
use Rattle.std.proofs.Common.{◌≡◌, ℕ, List, [], ◌∷◌, ◌++◌, Bool, true, false, length, refl, sym, ap, ◌∙◌, subst, Result, Ok, Err, nat_lt, inl, inr, ⊎_elim, append_assoc, append-nil, arith}
use Rattle.std.specs.Prelude.{Option, Some, None, if◌then◌else◌, codes, nat_le, ◌⊎◌, ◌+◌, ◌<◌}
use Rattle.cmb_bench.specs.declared.text.Class.{Class}
use Rattle.cmb_bench.specs.declared.text.Class.TheVariants.{Open, Close, Comma, Equals, End, Bad}
use Rattle.cmb_bench.specs.declared.fault.BenchFault.{BenchFault}
use Rattle.cmb_bench.specs.declared.fault.FaultKind.{FaultKind}
use Rattle.cmb_bench.specs.declared.fault.FaultKind.TheVariants as faults
use Rattle.cmb_netlist.specs.declared.netlist.Cell.{Cell}
use Rattle.cmb_bench.specs.Text.{Lexeme, Word, name, mark, Snippet, tokens_from, is_token, word_of, line_feeds}
use Rattle.cmb_bench.specs.Inner.Word.{is_end, has_class, name_in}
use Rattle.cmb_netlist.specs.Kinds.{is_word, cell_of, takes_one}
use Rattle.cmb_bench.specs.Statement.{Statement, input, output, drive, Mention, driven_by, is_member, driven}
use Rattle.cmb_bench.specs.Grammar.{at, said, IsNew, IsShort, SpellsOperands, Spells}
use Rattle.cmb_bench.specs.Inner.Reading.{fault_at, misplaced, next_in, named, cell_in, short_name, short, used_name, marked, with_net, with_first, operands_at, driver_at, input_at, output_at, keyword_at, statement_at, ◌>>=◌}
use Rattle.cmb_bench.specs.Inner.Building.{Parses, begins_more}
use Rattle.cmb_bench.proofs.Machine.{Place, start, first, keyed, named as named_place, equalled, kinded, listing, listed, Stand, go, run, or_else, name_check, net_check, verdict}
use Rattle.cmb_bench.proofs.Inversion.{mark_is, marked_is, name_is, next_is, named_is, short_is, new_is}
use Rattle.cmb_bench.proofs.Undriven.{bind_err, err_is, last_err}
use Rattle.cmb_bench.proofs.Takes.{cell_is, chosen, statement_takes, used_takes}
use Rattle.cmb_bench.specs.Meaning.{IsKind}
use Rattle.cmb_bench.specs.FirstFault.{FirstAt, number_of_fault}
use Rattle.cmb_bench.proofs.Verdict.{AtMost, stands_verdict}
use Rattle.cmb_bench.proofs.Shape.{verdict_stands}
use Rattle.cmb_bench.proofs.Clear.{Carries, statement_clear, ok_name, ok_net, kind_short}

-- the machine takes these tokens, finding no fault, and then finds this one at the next token
abbrev pub Falls : BenchFault → List (List ℕ) → Place → List Lexeme → Lexeme → Type 0
Falls f names place [] u = (verdict names place u.word ≡ Some f.kind) × (f.line ≡ u.line)
Falls f names place (t ∷ b) u = (s : Stand) × (go names place t.word ≡ Some s) × (verdict names place t.word ≡ None) × Falls f s.names s.place b u

pub record Caught (f : BenchFault) (names : List (List ℕ)) (place : Place) (ts : List Lexeme) : Type 0 where
  pub before : List Lexeme
  pub token : Lexeme
  pub after : List Lexeme
  pub is : ts ≡ before ++ token ∷ after
  pub falls : Falls f names place before token

carry : (f : BenchFault) → Carries (Caught f)
carry f names place t ts s g v h = record { before = t ∷ h.before; token = h.token; after = h.after; is = ap (λ l. t ∷ l) h.is; falls = (s, g, v, h.falls) }

here : (f : BenchFault) (names : List (List ℕ)) (place : Place) (t : Lexeme) (ts : List Lexeme) → verdict names place t.word ≡ Some f.kind → f.line ≡ t.line → Caught f names place (t ∷ ts)
here f names place t ts v l = record { before = []; token = t; after = ts; is = refl; falls = (v, l) }

-- the end of input is among the tokens
abbrev pub Closed : List Lexeme → Type 0
Closed [] = ⊥
Closed (t ∷ ts) = (is_end t.word ≡ true) ⊎ Closed ts

going_on : (t : Lexeme) (ts : List Lexeme) (w : Word) → t.word ≡ w → is_end w ≡ false → Closed (t ∷ ts) → Closed ts
going_on t ts w is other h = ⊎_elim (λ e. let never : true ≡ false = sym e ∙ ap is_end is ∙ other in absurd (cc)) (λ c. c) h

next_err : (ts : List Lexeme) (f : BenchFault) → next_in ts ≡ Err f → Closed ts → ⊥
next_err [] f e c = c
next_err (t ∷ ts) f e c = cc

-- a test that failed
if_err : {A : Type 0} (b : Bool) (d f : BenchFault) (r : Result A BenchFault) → (if b then Err d else r) ≡ Err f → ((b ≡ true) × (d ≡ f)) ⊎ ((b ≡ false) × (r ≡ Err f))
if_err true d f r e = inl (refl, err_is e)
if_err false d f r e = inr (refl, e)

misplaced_kind : (b : Bool) (t : Lexeme) → let m : BenchFault = if b then fault_at t faults.Byte else fault_at t faults.Statement in ((if b then Some faults.Byte else Some faults.Statement) ≡ Some m.kind) × (m.line ≡ t.line)
misplaced_kind true t = (refl, refl)
misplaced_kind false t = (refl, refl)

-- a token that no statement goes on with
stray : (f : BenchFault) (names : List (List ℕ)) (place : Place) (t : Lexeme) (ts : List Lexeme) → go names place t.word ≡ None → misplaced t ≡ f → Caught f names place (t ∷ ts)
stray f names place t ts g is =
    let k = misplaced_kind (has_class Bad t.word) t in
    subst (λ d. Caught d names place (t ∷ ts)) is (here (misplaced t) names place t ts (rw g k.0) k.1)

named_err : (w : Word) (t : Lexeme) (f : BenchFault) → named (name_in w) t ≡ Err f → (c : Class) × (w ≡ mark c) × (misplaced t ≡ f)
named_err (name n) t f e = absurd (cc)
named_err (mark c) t f e = (c, refl, err_is e)

-- a place where a name is taken, and no mark but one that isn't next
pub record Naming (names : List (List ℕ)) (place : Place) (w : Word) : Type 0 where
  pub marks : (c : Class) → w ≡ mark c → go names place w ≡ None
  pub fits : (n : List ℕ) → verdict names place (name n) ≡ name_check n

short_err : (t : Lexeme) (f : BenchFault) → short_name t ≡ Err f → ((c : Class) × (t.word ≡ mark c) × (misplaced t ≡ f)) ⊎ ((n : List ℕ) × (t.word ≡ name n) × (nat_lt 255 (length n) ≡ true) × (fault_at t faults.Name ≡ f))
unfolding short_name
short_err t f e =
    ⊎_elim
    (λ h. inl (named_err t.word t f h))
    (λ h. inr (⊎_elim (λ c. (h.0, name_is t.word h.0 (named_is _ t h.0 h.1), c.0, c.1)) (λ c. let no = c.1 in absurd (cc)) (if_err (nat_lt 255 (length h.0)) (fault_at t faults.Name) f (Ok h.0) h.2)))
    (bind_err (named (name_in t.word) t) (λ n. short n t) f e)

short_caught : (f : BenchFault) (names : List (List ℕ)) (place : Place) (t : Lexeme) (ts : List Lexeme) → Naming names place t.word → short_name t ≡ Err f → Caught f names place (t ∷ ts)
short_caught f names place t ts h e =
    ⊎_elim
    (λ c. stray f names place t ts (h.marks c.0 c.1) c.2)
    (λ n. subst (λ d. Caught d names place (t ∷ ts)) n.3 (here (fault_at t faults.Name) names place t ts (ap (verdict names place) n.1 ∙ h.fits n.0 ∙ rw n.2 refl) refl))
    (short_err t f e)

-- a mark that is wanted
marked_caught : (c : Class) (f : BenchFault) (names : List (List ℕ)) (place : Place) (ts : List Lexeme) → Closed ts → ((w : Word) → has_class c w ≡ false → go names place w ≡ None) → marked c ts ≡ Err f → Caught f names place ts
unfolding marked
marked_caught class f names place [] c other e = absurd c
marked_caught class f names place (t ∷ ts) c other e =
    ⊎_elim
    (λ h. let no = h.1 in absurd (cc))
    (λ h. stray f names place t ts (other t.word h.0) (err_is h.1))
    (chosen (has_class class t.word) (Ok ts) (Err (misplaced t)) (Err f) e)

-- what marks the places take
listing_marks : (names : List (List ℕ)) (n k : List ℕ) (only : Bool) (w : Word) → Naming names (listing n k only) w
listing_marks names n k only w = record { marks = (λ c is. rw is refl); fits = (λ n. refl) }

output_marks : (names : List (List ℕ)) (w : Word) → Naming names (keyed false) w
output_marks names w = record { marks = (λ c is. rw is refl); fits = (λ n. refl) }

start_mark : (names : List (List ℕ)) (c : Class) → is_end (mark c) ≡ false → go names start (mark c) ≡ None
start_mark names End e = absurd (cc)
start_mark names _ e = refl

start_marks : (names : List (List ℕ)) (w : Word) → is_end w ≡ false → Naming names start w
start_marks names w other = record { marks = (λ c is. ap (go names start) is ∙ start_mark names c (ap is_end (sym is) ∙ other)); fits = (λ n. refl) }

kinded_other : (names : List (List ℕ)) (n k : List ℕ) (w : Word) → has_class Open w ≡ false → go names (kinded n k) w ≡ None
kinded_other names n k (mark Open) e = absurd (cc)
kinded_other names n k w e = refl

named_other : (names : List (List ℕ)) (which : Bool) (n : List ℕ) (w : Word) → has_class Close w ≡ false → go names (named_place which n) w ≡ None
named_other names true n (mark Close) e = absurd (cc)
named_other names false n (mark Close) e = absurd (cc)
named_other names which n w e = refl

listed_other : (names : List (List ℕ)) (n k : List ℕ) (only : Bool) (w : Word) → has_class Comma w ≡ false → has_class Close w ≡ false → go names (listed n k only) w ≡ None
listed_other names n k only (mark Comma) e d = absurd (cc)
listed_other names n k only (mark Close) e d = absurd (cc)
listed_other names n k only w e d = refl

first_other : (names : List (List ℕ)) (n : List ℕ) (w : Word) → has_class Equals w ≡ false → has_class Open w ≡ false → go names (first n) w ≡ None
first_other names n (mark Equals) e d = absurd (cc)
first_other names n (mark Open) e d = absurd (cc)
first_other names n w e d = refl

-- a token that is taken
take_name : (f : BenchFault) (names : List (List ℕ)) (place : Place) (t : Lexeme) (ts : List Lexeme) (n : List ℕ) (s : Stand) → t.word ≡ name n → go names place (name n) ≡ Some s → verdict names place (name n) ≡ None → Caught f s.names s.place ts → Caught f names place (t ∷ ts)
take_name f names place t ts n s is g v h = carry f names place t ts s (ap (go names place) is ∙ g) (ap (verdict names place) is ∙ v) h

take_mark : (f : BenchFault) (names : List (List ℕ)) (place : Place) (t : Lexeme) (ts : List Lexeme) (c : Class) (s : Stand) → t.word ≡ mark c → go names place (mark c) ≡ Some s → verdict names place (mark c) ≡ None → Caught f s.names s.place ts → Caught f names place (t ∷ ts)
take_mark f names place t ts c s is g v h = carry f names place t ts s (ap (go names place) is ∙ g) (ap (verdict names place) is ∙ v) h

short_word : (t : Lexeme) (n : List ℕ) → short_name t ≡ Ok n → t.word ≡ name n
short_word t n e = ap (λ (v : Lexeme). v.word) (short_is t n e).0

comma_verdict : (names : List (List ℕ)) (n k : List ℕ) (only : Bool) (f : Cell) → cell_of k ≡ Some f → takes_one f ≡ false → verdict names (listed n k only) (mark Comma) ≡ None
comma_verdict names n k true f is many = rw (is, many) refl
comma_verdict names n k false f is many = refl

first_comma : (names : List (List ℕ)) (n k : List ℕ) (only : Bool) (f : Cell) → cell_of k ≡ Some f → takes_one f ≡ true → (only ≡ false → takes_one f ≡ false) → verdict names (listed n k only) (mark Comma) ≡ Some faults.Operands
first_comma names n k true f is one many = rw (is, one) refl
first_comma names n k false f is one many = let no = many refl in absurd (cc)

operands_caught : (d : BenchFault) (f : Cell) (names : List (List ℕ)) (n k : List ℕ) (only : Bool) (ts : List Lexeme) → cell_of k ≡ Some f → (only ≡ false → takes_one f ≡ false) → Closed ts → operands_at f ts ≡ Err d → Caught d names (listing n k only) ts
unfolding operands_at
operands_caught d f names n k only [] is many c e = absurd c
operands_caught d f names n k only (t ∷ []) is many c e =
    ⊎_elim
    (λ h. short_caught d names (listing n k only) t [] (listing_marks names n k only t.word) h)
    (λ h. absurd (going_on t [] (name h.0) (short_word t h.0 h.1) refl c))
    (bind_err (short_name t) _ d e)
operands_caught d f names n k only (t ∷ u ∷ ts) is many c e =
    ⊎_elim
    (λ h. short_caught d names (listing n k only) t (u ∷ ts) (listing_marks names n k only t.word) h)
    (λ h.
    let word = short_word t h.0 h.1 in
    let c1 = going_on t (u ∷ ts) (name h.0) word refl c in
    take_name d names (listing n k only) t (u ∷ ts) h.0 (record { names = names; place = listed n k only }) word refl (ok_name h.0 (short_is t h.0 h.1).1)
    (⊎_elim
    (λ x.
    let comma = mark_is Comma u.word refl x.0 in
    ⊎_elim
    (λ y. subst (λ g. Caught g names (listed n k only) (u ∷ ts)) y.1 (here (fault_at u faults.Operands) names (listed n k only) u ts (ap (verdict names (listed n k only)) comma ∙ first_comma names n k only f is y.0 many) refl))
    (λ y. take_mark d names (listed n k only) u ts Comma (record { names = names; place = listing n k false }) comma refl (comma_verdict names n k only f is y.0)
    (operands_caught d f names n k false ts is (λ _. y.0) (going_on u ts (mark Comma) comma refl c1) (last_err (operands_at f ts) _ d y.1)))
    (if_err (takes_one f) (fault_at u faults.Operands) d (with_first (record { name = h.0; line = t.line }) (operands_at f ts)) x.1))
    (λ x. ⊎_elim
    (λ y. let no = y.1 in absurd (cc))
    (λ y. stray d names (listed n k only) u ts (listed_other names n k only u.word x.0 y.0) (err_is y.1))
    (chosen (has_class Close u.word) (Ok (record { name = h.0; line = t.line } ∷ [], ts)) (Err (misplaced u)) (Err d) x.1))
    (chosen (has_class Comma u.word) _ _ (Err d) h.2)))
    (bind_err (short_name t) _ d e)

-- a net that may not be driven
net_err : (names : List (List ℕ)) (n : List ℕ) (t : Lexeme) (f : BenchFault) → with_net names n t ≡ Err f → (or_else (net_check names n) (name_check n) ≡ Some f.kind) × (f.line ≡ t.line)
unfolding with_net
net_err names n t f e =
    ⊎_elim
    (λ a. (rw a.0 (ap (λ (d : BenchFault). Some d.kind) a.1), ap (λ (d : BenchFault). d.line) (sym a.1)))
    (λ a. ⊎_elim
    (λ b. (rw (a.0, b.0) (ap (λ (d : BenchFault). Some d.kind) b.1), ap (λ (d : BenchFault). d.line) (sym b.1)))
    (λ b. ⊎_elim
    (λ c. (rw (a.0, b.0, c.0) (ap (λ (d : BenchFault). Some d.kind) c.1), ap (λ (d : BenchFault). d.line) (sym c.1)))
    (λ c. let no = c.1 in absurd (cc))
    (if_err (nat_lt 255 (length n)) (fault_at t faults.Name) f _ b.1))
    (if_err (nat_le 65535 (length names)) (fault_at t faults.TooMany) f _ a.1))
    (if_err (is_member n names) (fault_at t faults.Driven) f _ e)

not_name : (o : Option FaultKind) (c : Option FaultKind) (k : FaultKind) → c ≡ None → or_else o c ≡ Some k → o ≡ Some k
not_name None c k is e = let no : None ≡ Some k = sym is ∙ e in absurd (cc)
not_name (Some j) c k is e = e

new_check : (names : List (List ℕ)) (n : List ℕ) → IsNew names n → or_else (net_check names n) (name_check n) ≡ None
new_check names n h = rw (ok_net names n h) (ok_name n h.short)

cell_err : (o : Option Cell) (t : Lexeme) (f : BenchFault) → cell_in o t ≡ Err f → (o ≡ None) × (fault_at t faults.Kind ≡ f)
cell_err None t f e = (refl, err_is e)
cell_err (Some g) t f e = absurd (cc)

no_kind : (names : List (List ℕ)) (n k : List ℕ) → cell_of k ≡ None → verdict names (equalled n) (name k) ≡ Some faults.Kind
no_kind names n k is = rw is refl

known_kind : (names : List (List ℕ)) (n k : List ℕ) (f : Cell) → cell_of k ≡ Some f → verdict names (equalled n) (name k) ≡ None
known_kind names n k f is = rw is (ok_name k (kind_short k f is))

-- a name that is taken next, where no mark is
name_caught : {A : Type 0} (more : Lexeme × List Lexeme → List ℕ → Result A BenchFault) (d : BenchFault) (names : List (List ℕ)) (place : Place) (ts : List Lexeme) → Closed ts → ((c : Class) → go names place (mark c) ≡ None)
    → ((t : Lexeme) (rest : List Lexeme) (n : List ℕ) → t.word ≡ name n → Closed rest → more (t, rest) n ≡ Err d → Caught d names place (t ∷ rest))
    → (do
      t ← next_in ts
      n ← named (name_in t.0.word) t.0
      more t n) ≡ Err d → Caught d names place ts
name_caught more d names place [] c none go_on e = absurd c
name_caught more d names place (t ∷ ts) c none go_on e =
    ⊎_elim
    (λ k. let m = named_err t.word t d k in stray d names place t ts (ap (go names place) m.1 ∙ none m.0) m.2)
    (λ k. let is = name_is t.word k.0 (named_is _ t k.0 k.1) in go_on t ts k.0 is (going_on t ts (name k.0) is refl c) k.2)
    (bind_err (named (name_in t.word) t) _ d e)

driver_caught : (d : BenchFault) (names : List (List ℕ)) (n : List ℕ) (u : Lexeme) (ts : List Lexeme) → u.word ≡ mark Equals → IsShort n → Closed ts → driver_at names n u ts ≡ Err d → Caught d names (first n) (u ∷ ts)
unfolding driver_at
driver_caught d names n u ts word fits c e =
    ⊎_elim
    (λ a. let k = net_err names n u d a in here d names (first n) u ts (ap (verdict names (first n)) word ∙ not_name (net_check names n) (name_check n) d.kind (ok_name n fits) k.0) k.1)
    (λ a. take_mark d names (first n) u ts Equals (record { names = names; place = equalled n }) word refl (ok_net names n (new_is names a.0 n u a.1)) (name_caught _ d names (equalled n) ts c (λ m. refl)
    (λ t rest k is c1 h. ⊎_elim
    (λ f. let m = cell_err (cell_of k) t d f in subst (λ g. Caught g names (equalled n) (t ∷ rest)) m.1 (here (fault_at t faults.Kind) names (equalled n) t rest (ap (verdict names (equalled n)) is ∙ no_kind names n k m.0) refl))
    (λ f.
    let known = cell_is (cell_of k) t f.0 f.1 in
    take_name d names (equalled n) t rest k (record { names = names; place = kinded n k }) is refl (known_kind names n k f.0 known) (⊎_elim
    (λ o. marked_caught Open d names (kinded n k) rest c1 (kinded_other names n k) o)
    (λ o.
    let w = marked_is Open rest o.0 refl o.1 in
    let c2 = going_on (at (mark Open) w.0) o.0 (mark Open) refl refl (subst Closed w.1 c1) in
    subst (Caught d names (kinded n k)) (sym w.1) (take_mark d names (kinded n k) (at (mark Open) w.0) o.0 Open (record { names = names; place = listing n k true }) refl refl refl
    (operands_caught d f.0 names n k true o.0 known (λ never. absurd (cc)) c2 (last_err (operands_at f.0 o.0) _ d o.2))))
    (bind_err (marked Open rest) _ d f.2)))
    (bind_err (cell_in (cell_of k) t) _ d h))
    a.2))
    (bind_err (with_net names n u) _ d e)

input_caught : (d : BenchFault) (names : List (List ℕ)) (ts : List Lexeme) → Closed ts → input_at names ts ≡ Err d → Caught d names (keyed true) ts
unfolding input_at
input_caught d names ts c e = name_caught _ d names (keyed true) ts c (λ m. refl)
    (λ t rest n is c1 h. ⊎_elim
    (λ a. let m = net_err names n t d a in here d names (keyed true) t rest (ap (verdict names (keyed true)) is ∙ m.0) m.1)
    (λ a. take_name d names (keyed true) t rest n (record { names = names; place = named_place true n }) is refl (new_check names n (new_is names a.0 n t a.1))
    (marked_caught Close d names (named_place true n) rest c1 (named_other names true n) (last_err (marked Close rest) _ d a.2)))
    (bind_err (with_net names n t) _ d h))
    e

used_caught : (d : BenchFault) (names : List (List ℕ)) (ts : List Lexeme) → Closed ts → used_name ts ≡ Err d → Caught d names (keyed false) ts
unfolding used_name
used_caught d names [] c e = absurd c
used_caught d names (t ∷ ts) c e = short_caught d names (keyed false) t ts (output_marks names t.word) (last_err (short_name t) _ d e)

output_caught : (d : BenchFault) (names : List (List ℕ)) (ts : List Lexeme) → Closed ts → output_at ts ≡ Err d → Caught d names (keyed false) ts
unfolding output_at
output_caught d names ts c e =
    ⊎_elim
    (λ m. used_caught d names ts c m)
    (λ m.
    let n = m.0.0.name in
    let w = used_takes ts m.0 m.1 in
    subst (Caught d names (keyed false)) (sym w.0) (take_name d names (keyed false) (said m.0.0) m.0.1 n (record { names = names; place = named_place false n }) refl refl (ok_name n w.1)
    (marked_caught Close d names (named_place false n) m.0.1 (going_on (said m.0.0) m.0.1 (name n) refl refl (subst Closed w.0 c)) (named_other names false n) (last_err (marked Close m.0.1) _ d m.2))))
    (bind_err (used_name ts) _ d e)

keyword_caught : (d : BenchFault) (names : List (List ℕ)) (n : List ℕ) (u : Lexeme) (ts : List Lexeme) → u.word ≡ mark Open → Closed ts → keyword_at names n u ts ≡ Err d → Caught d names (first n) (u ∷ ts)
unfolding keyword_at
keyword_caught d names n u ts word c e =
    ⊎_elim
    (λ a. take_mark d names (first n) u ts Open (record { names = names; place = keyed true }) word (rw a.0 refl) (rw a.0 refl) (input_caught d names ts c a.1))
    (λ a. ⊎_elim
    (λ b. take_mark d names (first n) u ts Open (record { names = names; place = keyed false }) word (rw (a.0, b.0) refl) (rw (a.0, b.0) refl) (output_caught d names ts c b.1))
    (λ b. stray d names (first n) u ts (ap (go names (first n)) word ∙ rw (a.0, b.0) refl) (err_is b.1))
    (chosen (is_word n (codes "OUTPUT")) (output_at ts) (Err (misplaced u)) (Err d) a.1))
    (chosen (is_word n (codes "INPUT")) (input_at names ts) _ (Err d) e)

statement_caught : (d : BenchFault) (names : List (List ℕ)) (ts : List Lexeme) → Closed ts → begins_more ts → statement_at names ts ≡ Err d → Caught d names start ts
unfolding statement_at
statement_caught d names [] c more e = absurd c
statement_caught d names (t ∷ ts) c more e =
    ⊎_elim
    (λ a. short_caught d names start t ts (start_marks names t.word more) a)
    (λ a.
    let word = short_word t a.0 a.1 in
    let fits = (short_is t a.0 a.1).1 in
    let c1 = going_on t ts (name a.0) word refl c in
    take_name d names start t ts a.0 (record { names = names; place = first a.0 }) word refl (ok_name a.0 fits) (⊎_elim
    (λ b. absurd (next_err ts d b c1))
    (λ b.
    let u = b.0.0 in
    let c2 : Closed (u ∷ b.0.1) = subst Closed (next_is ts b.0 b.1) c1 in
    subst (Caught d names (first a.0)) (sym (next_is ts b.0 b.1)) (⊎_elim
    (λ x. let is = mark_is Equals u.word refl x.0 in driver_caught d names a.0 u b.0.1 is fits (going_on u b.0.1 (mark Equals) is refl c2) x.1)
    (λ x. ⊎_elim
    (λ y. let is = mark_is Open u.word refl y.0 in keyword_caught d names a.0 u b.0.1 is (going_on u b.0.1 (mark Open) is refl c2) y.1)
    (λ y. stray d names (first a.0) u b.0.1 (first_other names a.0 u.word x.0 y.0) (err_is y.1))
    (chosen (has_class Open u.word) (keyword_at names a.0 u b.0.1) (Err (misplaced u)) (Err d) x.1))
    (chosen (has_class Equals u.word) (driver_at names a.0 u b.0.1) _ (Err d) b.2)))
    (bind_err (next_in ts) _ d a.2)))
    (bind_err (short_name t) _ d e)

-- ---- behind the statements in front

no_end : {A : Type 0} → (false ≡ true) ⊎ A → A
no_end h = ⊎_elim (λ e. absurd (cc)) (λ a. a) h

operands_end : (ms : List Mention) (ts rest : List Lexeme) → SpellsOperands ms ts rest → Closed ts → Closed rest
operands_end [] ts rest h c = absurd h
operands_end (m ∷ []) ts rest h c = no_end (no_end (subst Closed h.1 c))
operands_end (m ∷ n ∷ ms) ts rest h c = operands_end (n ∷ ms) h.1 rest h.3 (no_end (no_end (subst Closed h.2 c)))

statement_end : (s : Statement) (ts rest : List Lexeme) → Spells IsKind s ts rest → Closed ts → Closed rest
statement_end (input n) ts rest h c = no_end (no_end (no_end (no_end (subst Closed h.6 c))))
statement_end (output m) ts rest h c = no_end (no_end (no_end (no_end (subst Closed h.5 c))))
statement_end (drive n f ms) ts rest h c = operands_end ms h.5 rest h.8 (no_end (no_end (no_end (no_end (subst Closed h.7 c)))))

parses_caught : (d : BenchFault) (names : List (List ℕ)) (ts : List Lexeme) (ss : List Statement) (mid : List Lexeme) → Parses names ts ss mid → begins_more mid → statement_at (names ++ driven ss) mid ≡ Err d → Closed ts → Caught d names start ts
parses_caught d names ts [] mid h more e c = subst (Caught d names start) (sym h) (statement_caught d names mid (subst Closed h c) more (ap (λ l. statement_at l mid) (sym (append-nil names)) ∙ e))
parses_caught d names ts (s ∷ ss) mid h more e c =
    let b = statement_takes names ts (s, h.0) h.1 in
    statement_clear (Caught d) (carry d) names s ts h.0 b.spelled b.lawful
    (parses_caught d (names ++ driven_by s) h.0 ss mid h.2 more (ap (λ l. statement_at l mid) (append_assoc names (driven_by s) (driven ss)) ∙ e) (statement_end s ts h.0 b.spelled c))

tokens_end : (line last : ℕ) (ps : List Snippet) → Closed (tokens_from line last ps)
tokens_end line last [] = inl refl
tokens_end line last (p ∷ ps) = elim (is_token p.class) as (λ v. Closed (if v then record { word = word_of p.class p.bytes; line = line } ∷ tokens_from (line + line_feeds p.bytes) line ps else tokens_from (line + line_feeds p.bytes) last ps)) [ true ↦ inr (tokens_end (line + line_feeds p.bytes) line ps) | false ↦ tokens_end (line + line_feeds p.bytes) last ps ]

falls_run : (f : BenchFault) (names : List (List ℕ)) (place : Place) (b : List Lexeme) (u : Lexeme) → Falls f names place b u → (s : Stand) × (run names place b ≡ Some s) × (verdict s.names s.place u.word ≡ Some f.kind) × (f.line ≡ u.line)
unfolding run
falls_run f names place [] u h = (record { names = names; place = place }, refl, h.0, h.1)
falls_run f names place (t ∷ b) u h = let r = falls_run f h.0.names h.0.place b u h.3 in (r.0, rw h.1 r.1, r.2, r.3)

same_head : {x y : Lexeme} {xs ys : List Lexeme} → x ∷ xs ≡ y ∷ ys → x ≡ y
same_head e = cc

same_tail : {x y : Lexeme} {xs ys : List Lexeme} → x ∷ xs ≡ y ∷ ys → xs ≡ ys
same_tail e = cc

falls_before : (f : BenchFault) (names : List (List ℕ)) (place : Place) (b : List Lexeme) (u : Lexeme) (a b2 : List Lexeme) (t : Lexeme) (a2 : List Lexeme) → Falls f names place b u → b ++ u ∷ a ≡ b2 ++ t ∷ a2 → length b2 < length b → (s : Stand) × (run names place b2 ≡ Some s) × (verdict s.names s.place t.word ≡ None)
unfolding run
falls_before f names place [] u a b2 t a2 h is below = absurd (omega (arith, below))
falls_before f names place (x ∷ b) u a [] t a2 h is below = (record { names = names; place = place }, refl, subst (λ (v : Lexeme). verdict names place v.word ≡ None) (same_head is) h.2)
falls_before f names place (x ∷ b) u a (y ∷ b2) t a2 h is below =
    let r = falls_before f h.0.names h.0.place b u a b2 t a2 h.3 (same_tail is) (omega (arith, below)) in
    (r.0, rw (ap (λ (v : Lexeme). go names place v.word) (sym (same_head is)) ∙ h.1) r.1, r.2)

caught_first : (ts : List Lexeme) (f : BenchFault) → Caught f [] start ts → FirstAt ts f
caught_first ts f h =
    let r = falls_run f [] start h.before h.token h.falls in
    record {
      before = h.before;
      token = h.token;
      after = h.after;
      is = h.is;
      stands = verdict_stands h.before h.token r.0 f.kind r.1 r.2;
      line = r.3;
      least = (λ kind stands. subst (λ o. AtMost o (number_of_fault kind)) r.2 (stands_verdict kind h.before h.token r.0 r.1 stands));
      earlier = (λ before t after kind is below stands. let q = falls_before f [] start h.before h.token h.after before t after h.falls (sym h.is ∙ is) below in subst (λ o. AtMost o (number_of_fault kind)) q.2 (stands_verdict kind before t q.0 q.1 stands));
    }

-- the fault of the first statement that can't be read is the first fault
pub front_first : (line last : ℕ) (ps : List Snippet) (ss : List Statement) (mid : List Lexeme) (f : BenchFault) → Parses [] (tokens_from line last ps) ss mid → begins_more mid → statement_at (driven ss) mid ≡ Err f → FirstAt (tokens_from line last ps) f
front_first line last ps ss mid f h more e = caught_first (tokens_from line last ps) f (parses_caught f [] (tokens_from line last ps) ss mid h more e (tokens_end line last ps))
