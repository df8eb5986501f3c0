-- Tokens that the machine takes begin a list of statements.
use Rattle.std.proofs.Common.{◌≡◌, ℕ, List, [], ◌∷◌, ◌++◌, Bool, true, false, refl, sym, ap, subst, ⊎_elim}
use Rattle.std.specs.Prelude.{Option, Some, None, option_and_then, if◌then◌else◌, codes}
use Rattle.cmb_bench.specs.declared.text.Class.TheVariants.{Open, Close, Comma, Equals, End}
use Rattle.cmb_netlist.specs.declared.netlist.Cell.TheVariants.{Flop}
use Rattle.cmb_bench.specs.Text.{Lexeme, Word, name, mark}
use Rattle.cmb_netlist.specs.Kinds.{is_word}
use Rattle.cmb_bench.specs.Statement.{Statement, input, output, drive, Mention}
use Rattle.cmb_bench.specs.Grammar.{at, said, SpellsOperands, SpellsAll}
use Rattle.cmb_bench.specs.FirstFault.{AnyKind, Begins}
use Rattle.cmb_bench.proofs.Takes.{chosen}
use Rattle.cmb_bench.proofs.Machine.{Place, start, first, keyed, named, equalled, kinded, listing, listed, ended, Stand, stand, go, run}

-- the word of a keyword
abbrev pub word_for : Bool → List ℕ
word_for true = codes "INPUT"
word_for false = codes "OUTPUT"

abbrev Whole : List Lexeme → Type 0
Whole ws = (ss : List Statement) × SpellsAll AnyKind ss ws

-- operands, and statements behind these
pub record Listed (ws : List Lexeme) : Type 0 where
  pub operands : List Mention
  pub rest : List Lexeme
  pub spelled : SpellsOperands operands ws rest
  pub others : Whole rest

-- these tokens are what is missing at this place
abbrev pub Completes : Place → List Lexeme → Type 0
Completes start ws = Whole ws
Completes (first n) ws = (a : ℕ) → Whole (at (name n) a ∷ ws)
Completes (keyed which) ws = (w : List ℕ) (a b : ℕ) → is_word w (word_for which) ≡ true → Whole (at (name w) a ∷ at (mark Open) b ∷ ws)
Completes (named which n) ws = (w : List ℕ) (a b c : ℕ) → is_word w (word_for which) ≡ true → Whole (at (name w) a ∷ at (mark Open) b ∷ at (name n) c ∷ ws)
Completes (equalled n) ws = (a b : ℕ) → Whole (at (name n) a ∷ at (mark Equals) b ∷ ws)
Completes (kinded n k) ws = (a b c : ℕ) → Whole (at (name n) a ∷ at (mark Equals) b ∷ at (name k) c ∷ ws)
Completes (listing n k only) ws = Listed ws
Completes (listed n k only) ws = (m : Mention) → Listed (said m ∷ ws)
Completes ended ws = ws ≡ []

some_is : {s t : Stand} → let o : Option Stand = Some s in o ≡ Some t → s ≡ t
some_is e = cc

place_of : {names : List (List ℕ)} {place : Place} {s : Stand} → stand names place ≡ Some s → place ≡ s.place
place_of e = ap (λ (t : Stand). t.place) (some_is e)

abbrev the_end : List Lexeme
the_end = at (mark End) 0 ∷ []

close_input : (n : List ℕ) (l : ℕ) (ws : List Lexeme) → Whole ws → Completes (named true n) (at (mark Close) l ∷ ws)
close_input n l ws h = λ w a b c is. (input n ∷ h.0, (ws, (w, a, b, c, l, is, refl), h.1))

close_output : (n : List ℕ) (l : ℕ) (ws : List Lexeme) → Whole ws → Completes (named false n) (at (mark Close) l ∷ ws)
close_output n l ws h = λ w a b c is. (output (record { name = n; line = c }) ∷ h.0, (ws, (w, a, b, l, is, refl), h.1))

open_list : (n k : List ℕ) (l : ℕ) (ws : List Lexeme) → Listed ws → Completes (kinded n k) (at (mark Open) l ∷ ws)
open_list n k l ws h = λ a b c. (drive n Flop h.operands ∷ h.others.0, (h.rest, (k, a, b, c, l, ws, tt, refl, h.spelled), h.others.1))

close_list : (l : ℕ) (ws : List Lexeme) → Whole ws → (m : Mention) → Listed (said m ∷ at (mark Close) l ∷ ws)
close_list l ws h m = record { operands = m ∷ []; rest = ws; spelled = (l, refl); others = h }

more_list : (l : ℕ) (ws rest : List Lexeme) (ms : List Mention) → SpellsOperands ms ws rest → Whole rest → (m : Mention) → Listed (said m ∷ at (mark Comma) l ∷ ws)
more_list l ws rest [] s others m = absurd s
more_list l ws rest (x ∷ ms) s others m = record { operands = m ∷ x ∷ ms; rest = rest; spelled = (l, ws, refl, s); others = others }

open_first : (names : List (List ℕ)) (n : List ℕ) (l : ℕ) (s : Stand) (ws : List Lexeme) → (if is_word n (codes "INPUT") then stand names (keyed true) else (if is_word n (codes "OUTPUT") then stand names (keyed false) else None)) ≡ Some s → Completes s.place ws → Completes (first n) (at (mark Open) l ∷ ws)
open_first names n l s ws e h =
    ⊎_elim
    (λ c. let g : Completes (keyed true) ws = subst (λ p. Completes p ws) (sym (place_of c.1)) h in λ a. g n a l c.0)
    (λ c. ⊎_elim (λ d. let g : Completes (keyed false) ws = subst (λ p. Completes p ws) (sym (place_of d.1)) h in λ a. g n a l d.0) (λ d. let never = d.1 in absurd (cc)) (chosen (is_word n (codes "OUTPUT")) (stand names (keyed false)) None (Some s) c.1))
    (chosen (is_word n (codes "INPUT")) (stand names (keyed true)) (if is_word n (codes "OUTPUT") then stand names (keyed false) else None) (Some s) e)

-- what was missing behind a token is missing before it, with the token
pub back : (names : List (List ℕ)) (place : Place) (word : Word) (l : ℕ) (s : Stand) (ws : List Lexeme) → go names place word ≡ Some s → Completes s.place ws → Completes place (at word l ∷ ws)
back names start (name n) l s ws e h = let same = place_of e in subst (λ p. Completes p ws) (sym same) h l
back names start (mark End) l s ws e h = let same = place_of e in let none = subst (λ p. Completes p ws) (sym same) h in ([], (l, ap (λ v. at (mark End) l ∷ v) none))
back names (first n) (mark Equals) l s ws e h = let same = place_of e in λ a. subst (λ p. Completes p ws) (sym same) h a l
back names (first n) (mark Open) l s ws e h = open_first names n l s ws e h
back names (keyed which) (name n) l s ws e h = let same = place_of e in λ w a b is. subst (λ p. Completes p ws) (sym same) h w a b l is
back names (named true n) (mark Close) l s ws e h = let same = place_of e in close_input n l ws (subst (λ p. Completes p ws) (sym same) h)
back names (named false n) (mark Close) l s ws e h = let same = place_of e in close_output n l ws (subst (λ p. Completes p ws) (sym same) h)
back names (equalled n) (name k) l s ws e h = let same = place_of e in λ a b. subst (λ p. Completes p ws) (sym same) h a b l
back names (kinded n k) (mark Open) l s ws e h = let same = place_of e in open_list n k l ws (subst (λ p. Completes p ws) (sym same) h)
back names (listing n k only) (name m) l s ws e h = let same = place_of e in subst (λ p. Completes p ws) (sym same) h (record { name = m; line = l })
back names (listed n k only) (mark Comma) l s ws e h = let same = place_of e in let inner = subst (λ p. Completes p ws) (sym same) h in more_list l ws inner.rest inner.operands inner.spelled inner.others
back names (listed n k only) (mark Close) l s ws e h = let same = place_of e in close_list l ws (subst (λ p. Completes p ws) (sym same) h)
back names place word l s ws e h = absurd (cc)

-- each place can be completed
complete : (place : Place) → (ws : List Lexeme) × Completes place ws
complete start = (the_end, ([], (0, refl)))
complete (first n) = let m : Mention = record { name = n; line = 0 } in (at (mark Equals) 0 ∷ at (name n) 0 ∷ at (mark Open) 0 ∷ said m ∷ at (mark Close) 0 ∷ the_end, λ a. (drive n Flop (m ∷ []) ∷ [], (the_end, (n, a, 0, 0, 0, said m ∷ at (mark Close) 0 ∷ the_end, tt, refl, (0, refl)), (0, refl))))
complete (keyed true) = (at (name []) 0 ∷ at (mark Close) 0 ∷ the_end, λ w a b is. close_input [] 0 the_end ([], (0, refl)) w a b 0 is)
complete (keyed false) = (at (name []) 0 ∷ at (mark Close) 0 ∷ the_end, λ w a b is. close_output [] 0 the_end ([], (0, refl)) w a b 0 is)
complete (named true n) = (at (mark Close) 0 ∷ the_end, close_input n 0 the_end ([], (0, refl)))
complete (named false n) = (at (mark Close) 0 ∷ the_end, close_output n 0 the_end ([], (0, refl)))
complete (equalled n) = let m : Mention = record { name = n; line = 0 } in (at (name n) 0 ∷ at (mark Open) 0 ∷ said m ∷ at (mark Close) 0 ∷ the_end, λ a b. (drive n Flop (m ∷ []) ∷ [], (the_end, (n, a, b, 0, 0, said m ∷ at (mark Close) 0 ∷ the_end, tt, refl, (0, refl)), (0, refl))))
complete (kinded n k) = let m : Mention = record { name = n; line = 0 } in (at (mark Open) 0 ∷ said m ∷ at (mark Close) 0 ∷ the_end, open_list n k 0 (said m ∷ at (mark Close) 0 ∷ the_end) (close_list 0 the_end ([], (0, refl)) m))
complete (listing n k only) = let m : Mention = record { name = n; line = 0 } in (said m ∷ at (mark Close) 0 ∷ the_end, close_list 0 the_end ([], (0, refl)) m)
complete (listed n k only) = (at (mark Close) 0 ∷ the_end, close_list 0 the_end ([], (0, refl)))
complete ended = ([], refl)

pub and_then_is : {A B : Type 0} (o : Option A) (f : A → Option B) (y : B) → option_and_then f o ≡ Some y → (x : A) × (o ≡ Some x) × (f x ≡ Some y)
and_then_is None f y e = absurd (cc)
and_then_is (Some x) f y e = (x, refl, e)

along : (names : List (List ℕ)) (place : Place) (ts : List Lexeme) (s : Stand) → run names place ts ≡ Some s → (more : List Lexeme) × Completes place (ts ++ more)
unfolding run
along names place [] s e = complete place
along names place (t ∷ ts) s e =
    let x = and_then_is (go names place t.word) (λ q. run q.names q.place ts) s e in
    let h = along x.0.names x.0.place ts s x.2 in
    (h.0, back names place t.word t.line x.0 (ts ++ h.0) x.1 h.1)

pub run_begins : (ts : List Lexeme) (s : Stand) → run [] start ts ≡ Some s → Begins ts
run_begins ts s e = let h = along [] start ts s e in record { more = h.0; statements = h.1.0; spelled = h.1.1 }
