-- What is read is in the grammar, and lawful.
use Rattle.std.proofs.Common.{◌≡◌, ℕ, List, [], ◌∷◌, Bool, true, false, refl, sym, ap, ◌∙◌, subst, Ok, inl, inr, ⊎_elim}
use Rattle.std.specs.Prelude.{if◌then◌else◌, Option, Some, None, codes, ◌⊎◌}
use Rattle.cmb_bench.specs.declared.text.Class.TheVariants.{Open, Comma, Equals, Close}
use Rattle.cmb_netlist.specs.declared.netlist.Cell.{Cell}
use Rattle.cmb_bench.specs.Text.{Lexeme, Word, name, mark}
use Rattle.cmb_bench.specs.Inner.Word.{has_class, name_in}
use Rattle.cmb_netlist.specs.Kinds.{is_word, cell_of, takes_one}
use Rattle.cmb_bench.specs.Statement.{Statement, Mention}
use Rattle.cmb_bench.specs.Grammar.{at, said, IsShort, AreShort, HasArity, SpellsOperands, Spells, IsLawful}
use Rattle.cmb_bench.specs.Inner.Reading.{next_in, named, cell_in, short_name, used_name, marked, with_net, with_first, operands_at, driver_at, input_at, output_at, keyword_at, statement_at}
use Rattle.cmb_bench.specs.Meaning.{IsKind}
use Rattle.cmb_bench.proofs.Arity.{arity_one, arity_more}
use Rattle.cmb_bench.proofs.Inversion.{bind_ok, unless, provided, ok_is, mark_is, name_is, token_is, next_is, named_is, short_is, marked_is, new_is}

-- which way a test went
pub chosen : {A : Type 0} (b : Bool) (x y z : A) → (if b then x else y) ≡ z → ((b ≡ true) × (x ≡ z)) ⊎ ((b ≡ false) × (y ≡ z))
chosen true x y z e = inl (refl, e)
chosen false x y z e = inr (refl, e)

pub record Operands (f : Cell) (ts : List Lexeme) (r : List Mention × List Lexeme) : Type 0 where
  pub spelled : SpellsOperands r.0 ts r.1
  pub arity : HasArity f r.0
  pub short : AreShort r.0

grows : (f : Cell) (m : Mention) (l : ℕ) (ts rest : List Lexeme) (ms : List Mention) → IsShort m.name → takes_one f ≡ false → Operands f ts (ms, rest) → Operands f (said m ∷ at (mark Comma) l ∷ ts) (m ∷ ms, rest)
grows f m l ts rest [] short many h = absurd h.spelled
grows f m l ts rest (n ∷ ms) short many h = record { spelled = (l, ts, refl, h.spelled); arity = arity_more f m n ms many; short = (short, h.short) }

pub operands_takes : (f : Cell) (ts : List Lexeme) (r : List Mention × List Lexeme) → operands_at f ts ≡ Ok r → Operands f ts r
unfolding operands_at
operands_takes f [] r e = absurd (cc)
operands_takes f (t ∷ []) r e = let s = bind_ok (short_name t) _ r e in let no = s.2 in absurd (cc)
operands_takes f (t ∷ u ∷ ts) r e =
    let s = bind_ok (short_name t) _ r e in
    let sh = short_is t s.0 s.1 in
    let m : Mention = record { name = s.0; line = t.line } in
    ⊎_elim
    (λ c. let one = unless (takes_one f) _ (with_first m (operands_at f ts)) r c.1 in
    let more = bind_ok (operands_at f ts) _ r one.1 in
    let inner = operands_takes f ts more.0 more.1 in
    let grown = grows f m u.line ts more.0.1 more.0.0 sh.1 one.0 inner in
    subst (λ q. Operands f (t ∷ u ∷ ts) q) (ok_is more.2)
    (subst (λ (v : Lexeme). Operands f (v ∷ u ∷ ts) (m ∷ more.0.0, more.0.1)) (sym sh.0)
    (subst (λ (v : Lexeme). Operands f (said m ∷ v ∷ ts) (m ∷ more.0.0, more.0.1)) (sym (token_is u _ (mark_is Comma _ refl c.0))) grown)))
    (λ c. let last = provided (has_class Close u.word) _ (Ok (m ∷ [], ts)) r c.1 in
    subst (λ q. Operands f (t ∷ u ∷ ts) q) (ok_is last.1)
    (subst (λ (v : Lexeme). Operands f (v ∷ u ∷ ts) (m ∷ [], ts)) (sym sh.0)
    (subst (λ (v : Lexeme). Operands f (said m ∷ v ∷ ts) (m ∷ [], ts)) (sym (token_is u _ (mark_is Close _ refl last.0)))
    (record { spelled = (u.line, refl); arity = arity_one f m; short = (sh.1, tt) }))))
    (chosen (has_class Comma u.word) _ _ (Ok r) s.2)

pub used_takes : (ts : List Lexeme) (r : Mention × List Lexeme) → used_name ts ≡ Ok r → (ts ≡ said r.0 ∷ r.1) × IsShort r.0.name
unfolding used_name
used_takes ts r e =
    let s = bind_ok (next_in ts) _ r e in
    let n = bind_ok (short_name s.0.0) _ r s.2 in
    let sh = short_is s.0.0 n.0 n.1 in
    let same : (record { name = n.0; line = s.0.0.line }, s.0.1) ≡ r = ok_is n.2 in
    (next_is ts s.0 s.1 ∙ ap (λ t. t ∷ s.0.1) sh.0 ∙ ap (λ (p : Mention × List Lexeme). said p.0 ∷ p.1) same, subst (λ (p : Mention × List Lexeme). IsShort p.0.name) same sh.1)

pub cell_is : (o : Option Cell) (t : Lexeme) (f : Cell) → cell_in o t ≡ Ok f → o ≡ Some f
cell_is None t f e = absurd (cc)
cell_is (Some g) t f e = ap Some (cc)

-- a statement that is read behind the two tokens of its beginning
pub record Taken (names : List (List ℕ)) (ts : List Lexeme) (r : Statement × List Lexeme) : Type 0 where
  pub spelled : Spells IsKind r.0 ts r.1
  pub lawful : IsLawful names r.0

pub driver_takes : (names : List (List ℕ)) (n : List ℕ) (a : ℕ) (u : Lexeme) (ts : List Lexeme) (r : Statement × List Lexeme) → driver_at names n u ts ≡ Ok r → Taken names (at (name n) a ∷ at (mark Equals) u.line ∷ ts) r
unfolding driver_at
driver_takes names n a u ts r e =
    let w = bind_ok (with_net names n u) _ r e in
    let t = bind_ok (next_in ts) _ r w.2 in
    let k = bind_ok (named (name_in t.0.0.word) t.0.0) _ r t.2 in
    let f = bind_ok (cell_in (cell_of k.0) t.0.0) _ r k.2 in
    let o = bind_ok (marked Open t.0.1) _ r f.2 in
    let p = bind_ok (operands_at f.0 o.0) _ r o.2 in
    let kind_token = token_is t.0.0 _ (name_is t.0.0.word k.0 (named_is _ t.0.0 k.0 k.1)) in
    let mark_token = marked_is Open t.0.1 o.0 refl o.1 in
    let inner = operands_takes f.0 o.0 p.0 p.1 in
    subst (λ q. Taken names (at (name n) a ∷ at (mark Equals) u.line ∷ ts) q) (ok_is p.2)
    (record {
      spelled = (k.0, a, u.line, t.0.0.line, mark_token.0, o.0, cell_is _ t.0.0 f.0 f.1, ap (λ l. at (name n) a ∷ at (mark Equals) u.line ∷ l) (next_is ts t.0 t.1 ∙ ap (λ v. v ∷ t.0.1) kind_token ∙ ap (λ l. at (name k.0) t.0.0.line ∷ l) mark_token.1), inner.spelled);
      lawful = (new_is names w.0 n u w.1, inner.arity, inner.short);
    })

pub input_takes : (names : List (List ℕ)) (w : List ℕ) (a b : ℕ) (ts : List Lexeme) (r : Statement × List Lexeme) → is_word w (codes "INPUT") ≡ true → input_at names ts ≡ Ok r → Taken names (at (name w) a ∷ at (mark Open) b ∷ ts) r
unfolding input_at
input_takes names w a b ts r word e =
    let t = bind_ok (next_in ts) _ r e in
    let n = bind_ok (named (name_in t.0.0.word) t.0.0) _ r t.2 in
    let d = bind_ok (with_net names n.0 t.0.0) _ r n.2 in
    let c = bind_ok (marked Close t.0.1) _ r d.2 in
    let name_token = token_is t.0.0 _ (name_is t.0.0.word n.0 (named_is _ t.0.0 n.0 n.1)) in
    let mark_token = marked_is Close t.0.1 c.0 refl c.1 in
    subst (λ q. Taken names (at (name w) a ∷ at (mark Open) b ∷ ts) q) (ok_is c.2)
    (record {
      spelled = (w, a, b, t.0.0.line, mark_token.0, word, ap (λ l. at (name w) a ∷ at (mark Open) b ∷ l) (next_is ts t.0 t.1 ∙ ap (λ v. v ∷ t.0.1) name_token ∙ ap (λ l. at (name n.0) t.0.0.line ∷ l) mark_token.1));
      lawful = new_is names d.0 n.0 t.0.0 d.1;
    })

pub output_takes : (names : List (List ℕ)) (w : List ℕ) (a b : ℕ) (ts : List Lexeme) (r : Statement × List Lexeme) → is_word w (codes "OUTPUT") ≡ true → output_at ts ≡ Ok r → Taken names (at (name w) a ∷ at (mark Open) b ∷ ts) r
unfolding output_at
output_takes names w a b ts r word e =
    let m = bind_ok (used_name ts) _ r e in
    let c = bind_ok (marked Close m.0.1) _ r m.2 in
    let used = used_takes ts m.0 m.1 in
    let mark_token = marked_is Close m.0.1 c.0 refl c.1 in
    subst (λ q. Taken names (at (name w) a ∷ at (mark Open) b ∷ ts) q) (ok_is c.2)
    (record {
      spelled = (w, a, b, mark_token.0, word, ap (λ l. at (name w) a ∷ at (mark Open) b ∷ l) (used.0 ∙ ap (λ l. said m.0.0 ∷ l) mark_token.1));
      lawful = used.1;
    })

pub keyword_takes : (names : List (List ℕ)) (w : List ℕ) (a : ℕ) (u : Lexeme) (ts : List Lexeme) (r : Statement × List Lexeme) → keyword_at names w u ts ≡ Ok r → Taken names (at (name w) a ∷ at (mark Open) u.line ∷ ts) r
unfolding keyword_at
keyword_takes names w a u ts r e =
    ⊎_elim
    (λ c. input_takes names w a u.line ts r c.0 c.1)
    (λ c. let o = provided (is_word w (codes "OUTPUT")) _ (output_at ts) r c.1 in output_takes names w a u.line ts r o.0 o.1)
    (chosen (is_word w (codes "INPUT")) _ _ (Ok r) e)

pub statement_takes : (names : List (List ℕ)) (ts : List Lexeme) (r : Statement × List Lexeme) → statement_at names ts ≡ Ok r → Taken names ts r
unfolding statement_at
statement_takes names ts r e =
    let t = bind_ok (next_in ts) _ r e in
    let n = bind_ok (short_name t.0.0) _ r t.2 in
    let u = bind_ok (next_in t.0.1) _ r n.2 in
    let sh = short_is t.0.0 n.0 n.1 in
    let front : (w : Word) → u.0.0.word ≡ w → ts ≡ at (name n.0) t.0.0.line ∷ at w u.0.0.line ∷ u.0.1 = λ w is. next_is ts t.0 t.1 ∙ ap (λ v. v ∷ t.0.1) sh.0 ∙ ap (λ l. at (name n.0) t.0.0.line ∷ l) (next_is t.0.1 u.0 u.1 ∙ ap (λ v. v ∷ u.0.1) (token_is u.0.0 w is)) in
    ⊎_elim
    (λ c. subst (λ l. Taken names l r) (sym (front _ (mark_is Equals _ refl c.0))) (driver_takes names n.0 t.0.0.line u.0.0 u.0.1 r c.1))
    (λ c. let o = provided (has_class Open u.0.0.word) _ (keyword_at names n.0 u.0.0 u.0.1) r c.1 in
    subst (λ l. Taken names l r) (sym (front _ (mark_is Open _ refl o.0))) (keyword_takes names n.0 t.0.0.line u.0.0 u.0.1 r o.1))
    (chosen (has_class Equals u.0.0.word) _ _ (Ok r) u.2)
