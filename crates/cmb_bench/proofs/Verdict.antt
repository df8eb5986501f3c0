-- Where a fault stands at a token, the machine finds one there, and none with a greater number.
use Rattle.std.proofs.Common.{◌≡◌, ℕ, ◌<◌, ◌≤◌, List, [], ◌∷◌, ◌++◌, true, false, length, map, refl, sym, ap, ◌∙◌, subst, ⊎_elim, nat_lt, arith}
use Rattle.std.specs.Prelude.{Option, Some, None, codes, option_and_then, if◌then◌else◌, nat_le}
use Rattle.cmb_bench.specs.declared.text.Class.TheVariants.{Open, Comma, Equals, Bad}
use Rattle.cmb_bench.specs.declared.fault.FaultKind.{FaultKind}
use Rattle.cmb_bench.specs.declared.fault.FaultKind.TheVariants as faults
use Rattle.cmb_netlist.specs.declared.netlist.Cell.{Cell}
use Rattle.cmb_bench.specs.Text.{Lexeme, Word, name, mark}
use Rattle.cmb_bench.specs.Inner.Word.{has_class}
use Rattle.cmb_netlist.specs.Kinds.{cell_of, is_word}
use Rattle.cmb_bench.specs.Statement.{Statement, is_member, driven}
use Rattle.cmb_bench.specs.Grammar.{at}
use Rattle.cmb_bench.specs.FirstFault.{AtKind, AtComma, IsBehind, StandsAt, number_of_fault}
use Rattle.cmb_bench.proofs.Machine.{Place, start, first, keyed, named, equalled, kinded, listing, listed, ended, Stand, go, run, or_else, name_check, net_check, kind_check, checked, if_taken, verdict}
use Rattle.cmb_bench.proofs.Placing.{fronted_run}
use Rattle.cmb_bench.proofs.Completing.{run_begins, and_then_is}

-- a fault is found, with at most this number
abbrev pub AtMost : Option FaultKind → ℕ → Type 0
AtMost None n = ⊥
AtMost (Some k) n = number_of_fault k ≤ n

same_stand : {s t : Stand} → let o : Option Stand = Some s in o ≡ Some t → s ≡ t
same_stand e = cc

run_more : (names : List (List ℕ)) (place : Place) (b : List Lexeme) (u : Lexeme) (s t : Stand) → run names place b ≡ Some s → go s.names s.place u.word ≡ Some t → run names place (b ++ u ∷ []) ≡ Some t
unfolding run
run_more names place [] u s t e g = let same : record { names = names; place = place } ≡ s = same_stand e in rw (ap (λ (q : Stand). go q.names q.place u.word) same ∙ g) refl
run_more names place (x ∷ b) u s t e g = let q = and_then_is (go names place x.word) (λ q. run q.names q.place b) s e in rw q.1 (run_more q.0.names q.0.place b u s t q.2 g)

-- the machine goes by what tokens say, and not by their lines
abbrev on_lines : List Word → List Lexeme
on_lines [] = []
on_lines (word ∷ words) = at word 0 ∷ on_lines words

run_words : (names : List (List ℕ)) (place : Place) (ts : List Lexeme) → run names place ts ≡ run names place (on_lines (map (λ t. t.word) ts))
unfolding run
run_words names place [] = refl
run_words names place (t ∷ ts) = again (go names place t.word) (λ q. run_words q.names q.place ts)
  where
    again : (o : Option Stand) → ((q : Stand) → run q.names q.place ts ≡ run q.names q.place (on_lines (map (λ u. u.word) ts)))
        → option_and_then (λ (q : Stand). run q.names q.place ts) o ≡ option_and_then (λ (q : Stand). run q.names q.place (on_lines (map (λ u. u.word) ts))) o
    again None same = refl
    again (Some q) same = same q

is_behind : (ss : List Statement) (words : List Word) (word : Word) (b : List Lexeme) (t : Lexeme) (s : Stand) → run [] start b ≡ Some s → IsBehind ss words word b t → Some s ≡ run (driven ss) start (on_lines words)
is_behind ss words word b t s e h = sym e ∙ fronted_run [] ss b h.behind h.front ∙ run_words (driven ss) start h.behind ∙ ap (λ ws. run (driven ss) start (on_lines ws)) h.said

at_equals : (ss : List Statement) (n : List ℕ) (b : List Lexeme) (t : Lexeme) (s : Stand) → run [] start b ≡ Some s → IsBehind ss (name n ∷ []) (mark Equals) b t → s ≡ record { names = driven ss; place = first n }
unfolding run
at_equals ss n b t s e h = same_stand (is_behind ss (name n ∷ []) (mark Equals) b t s e h)

at_input : (ss : List Statement) (n w : List ℕ) (b : List Lexeme) (t : Lexeme) (s : Stand) → run [] start b ≡ Some s → is_word w (codes "INPUT") ≡ true → IsBehind ss (name w ∷ mark Open ∷ []) (name n) b t → s ≡ record { names = driven ss; place = keyed true }
unfolding run
at_input ss n w b t s e is h = same_stand (is_behind ss (name w ∷ mark Open ∷ []) (name n) b t s e h ∙ rw is refl)

at_kind : (ss : List Statement) (n k : List ℕ) (b : List Lexeme) (t : Lexeme) (s : Stand) → run [] start b ≡ Some s → AtKind ss n k b t → s ≡ record { names = driven ss; place = equalled n }
unfolding run
at_kind ss n k b t s e h = same_stand (is_behind ss (name n ∷ mark Equals ∷ []) (name k) b t s e h)

at_comma : (ss : List Statement) (n k m : List ℕ) (b : List Lexeme) (t : Lexeme) (s : Stand) → run [] start b ≡ Some s → AtComma ss n k m b t → s ≡ record { names = driven ss; place = listed n k true }
unfolding run
at_comma ss n k m b t s e h = same_stand (is_behind ss (name n ∷ mark Equals ∷ name k ∷ mark Open ∷ name m ∷ []) (mark Comma) b t s e h)

long_name : (names : List (List ℕ)) (n : List ℕ) → nat_lt 255 (length n) ≡ true → AtMost (or_else (net_check names n) (name_check n)) 8
long_name names n h = elim (is_member n names) as (λ v. AtMost (or_else (if v then Some faults.Driven else (if nat_le 65535 (length names) then Some faults.TooMany else None)) (name_check n)) 8) [
  | true ↦ omega arith
  | false ↦ elim (nat_le 65535 (length names)) as (λ v. AtMost (or_else (if v then Some faults.TooMany else None) (name_check n)) 8) [ true ↦ omega arith | false ↦ rw h (omega arith) ]
]

too_long : (n : List ℕ) → 255 < length n → nat_lt 255 (length n) ≡ true
too_long n h = grind arith

kind_long : (o : Option Cell) (n : List ℕ) → nat_lt 255 (length n) ≡ true → AtMost (or_else (kind_check o) (name_check n)) 8
kind_long None n h = omega arith
kind_long (Some f) n h = rw h (omega arith)

pub name_verdict : (names : List (List ℕ)) (place : Place) (n : List ℕ) → nat_lt 255 (length n) ≡ true → AtMost (verdict names place (name n)) 8
name_verdict names start n h = rw h (omega arith)
name_verdict names (first m) n h = omega arith
name_verdict names (keyed true) n h = long_name names n h
name_verdict names (keyed false) n h = rw h (omega arith)
name_verdict names (named true m) n h = omega arith
name_verdict names (named false m) n h = omega arith
name_verdict names (equalled m) n h = kind_long (cell_of n) n h
name_verdict names (kinded m k) n h = omega arith
name_verdict names (listing m k b) n h = rw h (omega arith)
name_verdict names (listed m k b) n h = omega arith
name_verdict names ended n h = omega arith

bad_verdict : (names : List (List ℕ)) (place : Place) (w : Word) → has_class Bad w ≡ true → AtMost (verdict names place w) 1
bad_verdict names place w h = rw h (omega arith)

driven_verdict : (names : List (List ℕ)) (n : List ℕ) (other : Option FaultKind) → is_member n names ≡ true → AtMost (or_else (net_check names n) other) 5
driven_verdict names n other h = rw h (omega arith)

many_verdict : (names : List (List ℕ)) (n : List ℕ) (other : Option FaultKind) → nat_le 65535 (length names) ≡ true → AtMost (or_else (net_check names n) other) 7
many_verdict names n other h = elim (is_member n names) as (λ v. AtMost (or_else (if v then Some faults.Driven else (if nat_le 65535 (length names) then Some faults.TooMany else None)) other) 7) [ true ↦ omega arith | false ↦ rw h (omega arith) ]

alone : (o : Option FaultKind) (n : ℕ) → AtMost (or_else o None) n → AtMost o n
alone None n h = h
alone (Some k) n h = h

reached : (a b : ℕ) → a ≤ b → nat_le a b ≡ true
reached a b h = grind arith

taken_verdict : (o : Option Stand) (c : Option FaultKind) → ((s : Stand) → o ≡ Some s → ⊥) → AtMost (if_taken o c) 2
taken_verdict None c never = omega arith
taken_verdict (Some s) c never = absurd (never s refl)

statement_verdict : (names : List (List ℕ)) (place : Place) (w : Word) → ((s : Stand) → go names place w ≡ Some s → ⊥) → AtMost (verdict names place w) 2
statement_verdict names place w never = elim (has_class Bad w) as (λ v. AtMost (if v then Some faults.Byte else if_taken (go names place w) (checked names place w)) 2) [ true ↦ omega arith | false ↦ taken_verdict (go names place w) (checked names place w) never ]

at_word : (n : ℕ) (s t : Stand) (v w : Word) → s ≡ t → v ≡ w → AtMost (verdict t.names t.place w) n → AtMost (verdict s.names s.place v) n
at_word n s t v w same word h = subst (λ (q : Stand). AtMost (verdict q.names q.place v) n) (sym same) (subst (λ x. AtMost (verdict t.names t.place x) n) (sym word) h)

-- a fault that stands at a token is found there, or one with a lesser number
pub stands_verdict : (kind : FaultKind) (b : List Lexeme) (u : Lexeme) (s : Stand) → run [] start b ≡ Some s → StandsAt kind b u → AtMost (verdict s.names s.place u.word) (number_of_fault kind)
stands_verdict faults.Byte b u s e h = bad_verdict s.names s.place u.word (ap (has_class Bad) h)
stands_verdict faults.Statement b u s e h = statement_verdict s.names s.place u.word (λ t g. h (run_begins (b ++ u ∷ []) t (run_more [] start b u s t e g)))
stands_verdict faults.Kind b u s e h = at_word 3 s _ u.word (name h.2) (at_kind h.0 h.1 h.2 b u s e h.3) h.3.token (rw h.4 (omega arith))
stands_verdict faults.Operands b u s e h = at_word 4 s _ u.word (mark Comma) (at_comma h.0 h.1 h.2 h.3 b u s e h.5) h.5.token (rw (h.6, h.7) (omega arith))
stands_verdict faults.Driven b u s e h =
    ⊎_elim
    (λ x. at_word 5 s _ u.word (mark Equals) (at_equals h.0 h.1 b u s e x) x.token (alone _ 5 (driven_verdict (driven h.0) h.1 None h.3)))
    (λ x. at_word 5 s _ u.word (name h.1) (at_input h.0 h.1 x.0 b u s e x.1 x.2) x.2.token (driven_verdict (driven h.0) h.1 (name_check h.1) h.3))
    h.2
stands_verdict faults.TooMany b u s e h =
    ⊎_elim
    (λ x. at_word 7 s _ u.word (mark Equals) (at_equals h.0 h.1 b u s e x) x.token (alone _ 7 (many_verdict (driven h.0) h.1 None (reached 65535 _ h.3))))
    (λ x. at_word 7 s _ u.word (name h.1) (at_input h.0 h.1 x.0 b u s e x.1 x.2) x.2.token (many_verdict (driven h.0) h.1 (name_check h.1) (reached 65535 _ h.3)))
    h.2
stands_verdict faults.Name b u s e h = subst (λ w. AtMost (verdict s.names s.place w) 8) (sym h.1) (name_verdict s.names s.place h.0 (too_long h.0 h.2))
stands_verdict faults.Undriven b u s e h = absurd h
stands_verdict faults.Memory b u s e h = absurd h
