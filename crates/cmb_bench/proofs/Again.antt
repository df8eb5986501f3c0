-- What is in the grammar, and lawful, is read.
use Rattle.std.proofs.Common.{◌≡◌, ℕ, ◌<◌, ◌≤◌, List, [], ◌∷◌, ◌++◌, length, Bool, true, false, refl, sym, ap, ◌∙◌, Ok, nat_lt, arith}
use Rattle.std.specs.Prelude.{nat_le, codes}
use Rattle.std.specs.Char.{to_ascii_lowercase}
use Rattle.std.specs.Str.{str_to_ascii_lowercase}
use Rattle.std.proofs.lemmas.List.{length-map}
use Rattle.std.proofs.lemmas.Slice.Eq.{bytes_eq-Decides}
use Rattle.cmb_bench.specs.declared.text.Class.TheVariants.{Equals}
use Rattle.cmb_netlist.specs.declared.netlist.Cell.{Cell}
use Rattle.cmb_bench.specs.Text.{Lexeme, name, mark}
use Rattle.cmb_netlist.specs.Kinds.{is_word}
use Rattle.cmb_bench.specs.Statement.{Statement, input, output, drive, Mention}
use Rattle.cmb_bench.specs.Grammar.{at, IsNew, IsShort, AreShort, HasArity, SpellsOperands, Spells, IsLawful}
use Rattle.cmb_bench.specs.Inner.Reading.{short_name, used_name, marked, with_net, operands_at, driver_at, input_at, output_at, keyword_at, statement_at}
use Rattle.cmb_bench.specs.Meaning.{IsKind}
use Rattle.cmb_bench.proofs.Arity.{takes_more, arity_tail}

pub not_above : (n m : ℕ) → n ≤ m → nat_lt m n ≡ false
not_above n m h = grind arith

pub not_reached : (n m : ℕ) → n < m → nat_le m n ≡ false
not_reached n m h = grind arith

short_again : (n : List ℕ) (l : ℕ) → IsShort n → short_name (at (name n) l) ≡ Ok n
unfolding short_name
short_again n l h = rw (not_above (length n) 255 h) refl

pub operands_again : (f : Cell) (ms : List Mention) (ts rest : List Lexeme) → SpellsOperands ms ts rest → HasArity f ms → AreShort ms → operands_at f ts ≡ Ok (ms, rest)
unfolding operands_at
operands_again f [] ts rest h arity short = absurd h
operands_again f (m ∷ []) ts rest h arity short = rw (h.1, short_again m.name m.line short.0) refl
operands_again f (m ∷ n ∷ ms) ts rest h arity short =
    rw (h.2, short_again m.name m.line short.0, takes_more f m n ms arity, operands_again f (n ∷ ms) h.1 rest h.3 (arity_tail f m n ms arity) short.1) refl

new_again : (names : List (List ℕ)) (n : List ℕ) (t : Lexeme) → IsNew names n → with_net names n t ≡ Ok (names ++ n ∷ [])
unfolding with_net
new_again names n t h = rw (h.other, not_reached _ _ h.few, not_above _ _ h.short) refl

pub word_length : (w v : List ℕ) → is_word w v ≡ true → length w ≡ length v
word_length w v e = sym (length-map w to_ascii_lowercase) ∙ ap length ((bytes_eq-Decides (str_to_ascii_lowercase w) (str_to_ascii_lowercase v)).0 e) ∙ length-map v to_ascii_lowercase

pub input_short : (w : List ℕ) → is_word w (codes "INPUT") ≡ true → IsShort w
input_short w e = omega (arith, word_length w (codes "INPUT") e)

pub output_short : (w : List ℕ) → is_word w (codes "OUTPUT") ≡ true → IsShort w
output_short w e = omega (arith, word_length w (codes "OUTPUT") e)

is_false : (b : Bool) → (b ≡ true → ⊥) → b ≡ false
is_false true never = absurd (never refl)
is_false false never = refl

pub not_input : (w : List ℕ) → is_word w (codes "OUTPUT") ≡ true → is_word w (codes "INPUT") ≡ false
not_input w e = is_false (is_word w (codes "INPUT")) (λ i. omega (arith, word_length w (codes "OUTPUT") e, word_length w (codes "INPUT") i))

pub statement_again : (names : List (List ℕ)) (s : Statement) (ts rest : List Lexeme) → Spells IsKind s ts rest → IsLawful names s → statement_at names ts ≡ Ok (s, rest)
unfolding statement_at driver_at input_at output_at keyword_at used_name marked
statement_again names (input n) ts rest h lawful = rw (h.6, short_again h.0 h.1 (input_short h.0 h.5), h.5, new_again names n (at (name n) h.3) lawful) refl
statement_again names (output m) ts rest h lawful = rw (h.5, short_again h.0 h.1 (output_short h.0 h.4), not_input h.0 h.4, h.4, short_again m.name m.line lawful) refl
statement_again names (drive n f ms) ts rest h lawful = rw (h.7, short_again n h.1 lawful.0.short, new_again names n (at (mark Equals) h.2) lawful.0, h.6, operands_again f ms h.5 rest h.8 lawful.1 lawful.2) refl
