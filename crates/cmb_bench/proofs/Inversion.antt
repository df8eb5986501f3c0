-- What a reading that went well says of its steps.
use Rattle.std.proofs.Common.{◌≡◌, ℕ, ◌<◌, ◌≤◌, List, [], ◌∷◌, length, Bool, true, false, refl, ap, ◌∙◌, subst, Result, Ok, Err, nat_lt, arith}
use Rattle.std.specs.Prelude.{if◌then◌else◌, Option, Some, None, nat_le}
use Rattle.cmb_bench.specs.declared.text.Class.{Class}
use Rattle.cmb_bench.specs.declared.text.Class.TheVariants.{White, Comment, Open, Close, Comma, Equals, Bad, End}
use Rattle.cmb_bench.specs.declared.fault.BenchFault.{BenchFault}
use Rattle.cmb_bench.specs.Text.{Lexeme, Word, name, mark}
use Rattle.cmb_bench.specs.Inner.Word.{has_class, name_in}
use Rattle.cmb_bench.specs.Grammar.{at, IsNew, IsShort}
use Rattle.cmb_bench.specs.Statement.{is_member}
use Rattle.cmb_bench.specs.Inner.Reading.{◌>>=◌, next_in, named, short_name, short, marked, with_net}

pub bind_ok : {A B : Type 0} (r : Result A BenchFault) (f : A → Result B BenchFault) (y : B) → (r >>= f) ≡ Ok y → (x : A) × (r ≡ Ok x) × (f x ≡ Ok y)
bind_ok (Ok x) f y e = (x, refl, e)
bind_ok (Err d) f y e = absurd (cc)

pub unless : {A : Type 0} (b : Bool) (d : BenchFault) (r : Result A BenchFault) (y : A) → (if b then Err d else r) ≡ Ok y → (b ≡ false) × (r ≡ Ok y)
unless true d r y e = absurd (cc)
unless false d r y e = (refl, e)

pub provided : {A : Type 0} (b : Bool) (d : BenchFault) (r : Result A BenchFault) (y : A) → (if b then r else Err d) ≡ Ok y → (b ≡ true) × (r ≡ Ok y)
provided true d r y e = (refl, e)
provided false d r y e = absurd (cc)

pub ok_is : {A : Type 0} {x y : A} → let r : Result A BenchFault = Ok x in r ≡ Ok y → x ≡ y
ok_is e = cc

-- a token of a mark's class is that mark
pub mark_is : (c : Class) (w : Word) → has_class c (mark c) ≡ true → has_class c w ≡ true → w ≡ mark c
mark_is White (mark White) m e = refl
mark_is Comment (mark Comment) m e = refl
mark_is Open (mark Open) m e = refl
mark_is Close (mark Close) m e = refl
mark_is Comma (mark Comma) m e = refl
mark_is Equals (mark Equals) m e = refl
mark_is Bad (mark Bad) m e = refl
mark_is End (mark End) m e = refl
mark_is _ _ m e = absurd (cc)

pub name_is : (w : Word) (n : List ℕ) → name_in w ≡ Some n → w ≡ name n
name_is (name m) n e = ap name (cc)
name_is (mark c) n e = absurd (cc)

pub token_is : (t : Lexeme) (w : Word) → t.word ≡ w → t ≡ at w t.line
token_is t w e = ap (λ v. at v t.line) e

pub next_is : (ts : List Lexeme) (t : Lexeme × List Lexeme) → next_in ts ≡ Ok t → ts ≡ t.0 ∷ t.1
next_is [] t e = absurd (cc)
next_is (u ∷ us) t e = let same : (u, us) ≡ t = cc in ap (λ (p : Lexeme × List Lexeme). p.0 ∷ p.1) same

pub named_is : (o : Option (List ℕ)) (t : Lexeme) (n : List ℕ) → named o t ≡ Ok n → o ≡ Some n
named_is None t n e = absurd (cc)
named_is (Some m) t n e = ap Some (cc)

pub at_most : (n m : ℕ) → nat_lt m n ≡ false → n ≤ m
at_most n m e = grind arith

pub short_is : (t : Lexeme) (n : List ℕ) → short_name t ≡ Ok n → (t ≡ at (name n) t.line) × IsShort n
unfolding short_name
short_is t n e =
    let s = bind_ok (named (name_in t.word) t) (λ m. short m t) n e in
    let u = unless (nat_lt 255 (length s.0)) _ (Ok s.0) n s.2 in
    let same : s.0 ≡ n = ok_is u.1 in
    (token_is t (name n) (name_is t.word n (named_is _ t s.0 s.1 ∙ ap Some same)), subst IsShort same (at_most _ _ u.0))

pub marked_is : (c : Class) (ts rest : List Lexeme) → has_class c (mark c) ≡ true → marked c ts ≡ Ok rest → (l : ℕ) × (ts ≡ at (mark c) l ∷ rest)
unfolding marked
marked_is c ts rest m e =
    let s = bind_ok (next_in ts) _ rest e in
    let u = provided (has_class c s.0.0.word) _ (Ok s.0.1) rest s.2 in
    (s.0.0.line, next_is ts s.0 s.1 ∙ ap (λ t. t ∷ s.0.1) (token_is s.0.0 _ (mark_is c _ m u.0)) ∙ ap (λ l. at (mark c) s.0.0.line ∷ l) (ok_is u.1))

less : (n m : ℕ) → nat_le m n ≡ false → n < m
less n m e = grind arith

pub new_is : (names new : List (List ℕ)) (n : List ℕ) (t : Lexeme) → with_net names n t ≡ Ok new → IsNew names n
unfolding with_net
new_is names new n t e =
    let a = unless (is_member n names) _ _ new e in
    let b = unless (nat_le 65535 (length names)) _ _ new a.1 in
    let c = unless (nat_lt 255 (length n)) _ _ new b.1 in
    record { other = a.0; few = less _ _ b.0; short = at_most _ _ c.0 }
