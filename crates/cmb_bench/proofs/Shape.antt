-- Where the machine stands says what the tokens so far are, so what it finds at a token stands there.
use Rattle.std.proofs.Common.{◌≡◌, ℕ, ◌<◌, ◌≤◌, List, [], ◌∷◌, ◌++◌, true, false, length, refl, sym, ap, ◌∙◌, subst, nat_lt, inl, inr, ⊎_elim, append_assoc, append-nil, arith}
use Rattle.std.specs.Prelude.{Option, Some, None, if◌then◌else◌, codes, nat_le, ◌⊎◌}
use Rattle.cmb_bench.specs.declared.text.Class.TheVariants.{Open, Close, Comma, Equals, Bad, End}
use Rattle.cmb_bench.specs.declared.fault.FaultKind.{FaultKind}
use Rattle.cmb_bench.specs.declared.fault.FaultKind.TheVariants as faults
use Rattle.cmb_netlist.specs.declared.netlist.Cell.{Cell}
use Rattle.cmb_netlist.specs.declared.netlist.Cell.TheVariants.{Flop}
use Rattle.cmb_bench.specs.Text.{Lexeme, Word, name, mark}
use Rattle.cmb_bench.specs.Inner.Word.{has_class}
use Rattle.cmb_netlist.specs.Kinds.{is_word, cell_of, takes_one}
use Rattle.cmb_bench.specs.Statement.{Statement, input, output, drive, Mention, driven_by, is_member, driven}
use Rattle.cmb_bench.specs.Grammar.{at, said, SpellsOperands, Spells, SpellsAll}
use Rattle.cmb_bench.specs.FirstFault.{AnyKind, Fronted, Begins, DrivenAt, StandsAt}
use Rattle.cmb_bench.proofs.Machine.{Place, start, first, keyed, named, equalled, kinded, listing, listed, ended, Stand, stand, go, run, or_else, name_check, net_check, kind_check, comma_check, checked, if_taken, verdict}
use Rattle.cmb_bench.proofs.Takes.{chosen}
use Rattle.cmb_bench.proofs.Parsing.{driven_more}
use Rattle.cmb_bench.proofs.Placing.{statement_run}
use Rattle.cmb_bench.proofs.Completing.{word_for, and_then_is}
use Rattle.cmb_bench.proofs.Inversion.{mark_is}

-- with any further operands these tokens are a driver statement of this net
abbrev Lists : List ℕ → List Lexeme → Type 0
Lists n part = (ws : List Lexeme) (ms : List Mention) → SpellsOperands ms ws [] → (f : Cell) × (all : List Mention) × Spells AnyKind (drive n f all) (part ++ ws) []

-- behind these statements, the tokens are those that lead to the place
abbrev pub Shape : List Lexeme → Place → List Statement → Type 0
Shape done start ss = Fronted ss done []
Shape done (first n) ss = (a : ℕ) × Fronted ss done (at (name n) a ∷ [])
Shape done (keyed which) ss = (w : List ℕ) × (a : ℕ) × (b : ℕ) × (is_word w (word_for which) ≡ true) × Fronted ss done (at (name w) a ∷ at (mark Open) b ∷ [])
Shape done (named which n) ss = (w : List ℕ) × (a : ℕ) × (b : ℕ) × (c : ℕ) × (is_word w (word_for which) ≡ true) × Fronted ss done (at (name w) a ∷ at (mark Open) b ∷ at (name n) c ∷ [])
Shape done (equalled n) ss = (a : ℕ) × (b : ℕ) × Fronted ss done (at (name n) a ∷ at (mark Equals) b ∷ [])
Shape done (kinded n k) ss = (a : ℕ) × (b : ℕ) × (c : ℕ) × Fronted ss done (at (name n) a ∷ at (mark Equals) b ∷ at (name k) c ∷ [])
Shape done (listing n k true) ss = (a : ℕ) × (b : ℕ) × (c : ℕ) × (d : ℕ) × Fronted ss done (at (name n) a ∷ at (mark Equals) b ∷ at (name k) c ∷ at (mark Open) d ∷ [])
Shape done (listing n k false) ss = (part : List Lexeme) × Fronted ss done part × Lists n part
Shape done (listed n k true) ss = (m : Mention) × (a : ℕ) × (b : ℕ) × (c : ℕ) × (d : ℕ) × Fronted ss done (at (name n) a ∷ at (mark Equals) b ∷ at (name k) c ∷ at (mark Open) d ∷ said m ∷ [])
Shape done (listed n k false) ss = (m : Mention) × (part : List Lexeme) × Fronted ss done (part ++ said m ∷ []) × Lists n part
Shape done ended ss = Unit {0}

pub record Shaped (done : List Lexeme) (s : Stand) : Type 0 where
  pub statements : List Statement
  pub names : s.names ≡ driven statements
  pub shape : Shape done s.place statements

operands_grow : (ms : List Mention) (ts rest more : List Lexeme) → SpellsOperands ms ts rest → SpellsOperands ms (ts ++ more) (rest ++ more)
operands_grow [] ts rest more h = h
operands_grow (m ∷ []) ts rest more h = (h.0, ap (λ l. l ++ more) h.1)
operands_grow (m ∷ n ∷ ms) ts rest more h = (h.0, h.1 ++ more, ap (λ l. l ++ more) h.2, operands_grow (n ∷ ms) h.1 rest more h.3)

statement_grows : (s : Statement) (ts rest more : List Lexeme) → Spells AnyKind s ts rest → Spells AnyKind s (ts ++ more) (rest ++ more)
statement_grows (input n) ts rest more h = (h.0, h.1, h.2, h.3, h.4, h.5, ap (λ l. l ++ more) h.6)
statement_grows (output m) ts rest more h = (h.0, h.1, h.2, h.3, h.4, ap (λ l. l ++ more) h.5)
statement_grows (drive n f ms) ts rest more h = (h.0, h.1, h.2, h.3, h.4, h.5 ++ more, tt, ap (λ l. l ++ more) h.7, operands_grow ms h.5 rest more h.8)

grows : (ss : List Statement) (ts rest : List Lexeme) (t : Lexeme) → Fronted ss ts rest → Fronted ss (ts ++ t ∷ []) (rest ++ t ∷ [])
grows [] ts rest t h = ap (λ l. l ++ t ∷ []) h
grows (s ∷ ss) ts rest t h = (h.0 ++ t ∷ [], statement_grows s ts h.0 (t ∷ []) h.1, grows ss h.0 rest t h.2)

-- the tokens behind the statements are one more
one_more : (ss : List Statement) (ts rest : List Lexeme) (s : Statement) → Fronted ss ts rest → Spells AnyKind s rest [] → Fronted (ss ++ s ∷ []) ts []
one_more [] ts rest s h spelled = ([], subst (λ l. Spells AnyKind s l []) (sym h) spelled, refl)
one_more (x ∷ ss) ts rest s h spelled = (h.0, h.1, one_more ss h.0 rest s h.2 spelled)

stand_is : {s t : Stand} → let o : Option Stand = Some s in o ≡ Some t → s ≡ t
stand_is e = cc

to : (done : List Lexeme) (ss : List Statement) (names : List (List ℕ)) (place : Place) (s : Stand) → stand names place ≡ Some s → names ≡ driven ss → Shape done place ss → Shaped done s
to done ss names place s e is h = subst (Shaped done) (stand_is e) (record { statements = ss; names = is; shape = h })

-- to the place behind a whole statement that drives a net
to_start : (done rest : List Lexeme) (ss : List Statement) (x : Statement) (n : List ℕ) (names : List (List ℕ)) (s : Stand) → driven_by x ≡ n ∷ [] → stand (names ++ n ∷ []) start ≡ Some s → names ≡ driven ss → Fronted ss done rest → Spells AnyKind x rest [] → Shaped done s
to_start done rest ss x n names s drives e is h spelled = to done (ss ++ x ∷ []) (names ++ n ∷ []) start s e (ap (λ l. l ++ n ∷ []) is ∙ ap (λ l. driven ss ++ l) (sym drives) ∙ sym (driven_more ss x)) (one_more ss done rest x h spelled)

more_operands : (n k : List ℕ) (m : Mention) (a b c d l : ℕ) → Lists n (at (name n) a ∷ at (mark Equals) b ∷ at (name k) c ∷ at (mark Open) d ∷ said m ∷ at (mark Comma) l ∷ [])
more_operands n k m a b c d l ws [] h = absurd h
more_operands n k m a b c d l ws (x ∷ ms) h = (Flop, m ∷ x ∷ ms, (k, a, b, c, d, said m ∷ at (mark Comma) l ∷ ws, tt, refl, (l, ws, refl, h)))

again_operands : (n : List ℕ) (m : Mention) (l : ℕ) (part : List Lexeme) → Lists n part → Lists n ((part ++ said m ∷ []) ++ at (mark Comma) l ∷ [])
again_operands n m l part lists ws [] h = absurd h
again_operands n m l part lists ws (x ∷ ms) h =
    let g = lists (said m ∷ at (mark Comma) l ∷ ws) (m ∷ x ∷ ms) (l, ws, refl, h) in
    let same : part ++ said m ∷ at (mark Comma) l ∷ ws ≡ ((part ++ said m ∷ []) ++ at (mark Comma) l ∷ []) ++ ws = sym (ap (λ v. v ++ ws) (append_assoc part (said m ∷ []) (at (mark Comma) l ∷ [])) ∙ append_assoc part (said m ∷ at (mark Comma) l ∷ []) ws) in
    (g.0, g.1, subst (λ v. Spells AnyKind (drive n g.0 g.1) v []) same g.2)

open_first : (ss : List Statement) (names : List (List ℕ)) (n : List ℕ) (done : List Lexeme) (l : ℕ) (s : Stand) → (if is_word n (codes "INPUT") then stand names (keyed true) else (if is_word n (codes "OUTPUT") then stand names (keyed false) else None)) ≡ Some s → names ≡ driven ss → Shape done (first n) ss → Shaped (done ++ at (mark Open) l ∷ []) s
open_first ss names n done l s e is h =
    ⊎_elim
    (λ c. to _ ss names (keyed true) s c.1 is (n, h.0, l, c.0, grows ss done _ (at (mark Open) l) h.1))
    (λ c. ⊎_elim (λ d. to _ ss names (keyed false) s d.1 is (n, h.0, l, d.0, grows ss done _ (at (mark Open) l) h.1)) (λ d. let never = d.1 in absurd (cc)) (chosen (is_word n (codes "OUTPUT")) (stand names (keyed false)) None (Some s) c.1))
    (chosen (is_word n (codes "INPUT")) (stand names (keyed true)) (if is_word n (codes "OUTPUT") then stand names (keyed false) else None) (Some s) e)

-- one more token
step : (ss : List Statement) (names : List (List ℕ)) (place : Place) (done : List Lexeme) (word : Word) (l : ℕ) (s : Stand) → go names place word ≡ Some s → names ≡ driven ss → Shape done place ss → Shaped (done ++ at word l ∷ []) s
step ss names start done (name n) l s e is h = to _ ss names (first n) s e is (l, grows ss done _ (at (name n) l) h)
step ss names start done (mark End) l s e is h = to _ ss names ended s e is tt
step ss names (first n) done (mark Equals) l s e is h = to _ ss names (equalled n) s e is (h.0, l, grows ss done _ (at (mark Equals) l) h.1)
step ss names (first n) done (mark Open) l s e is h = open_first ss names n done l s e is h
step ss names (keyed which) done (name n) l s e is h = to _ ss names (named which n) s e is (h.0, h.1, h.2, l, h.3, grows ss done _ (at (name n) l) h.4)
step ss names (named true n) done (mark Close) l s e is h = to_start _ _ ss (input n) n names s refl e is (grows ss done _ (at (mark Close) l) h.5) (h.0, h.1, h.2, h.3, l, h.4, refl)
step ss names (named false n) done (mark Close) l s e is h =
    let m : Mention = record { name = n; line = h.3 } in
    to _ (ss ++ output m ∷ []) names start s e (is ∙ sym (append-nil (driven ss)) ∙ sym (driven_more ss (output m))) (one_more ss _ _ (output m) (grows ss done _ (at (mark Close) l) h.5) (h.0, h.1, h.2, l, h.4, refl))
step ss names (equalled n) done (name k) l s e is h = to _ ss names (kinded n k) s e is (h.0, h.1, l, grows ss done _ (at (name k) l) h.2)
step ss names (kinded n k) done (mark Open) l s e is h = to _ ss names (listing n k true) s e is (h.0, h.1, h.2, l, grows ss done _ (at (mark Open) l) h.3)
step ss names (listing n k true) done (name m) l s e is h = to _ ss names (listed n k true) s e is (record { name = m; line = l }, h.0, h.1, h.2, h.3, grows ss done _ (at (name m) l) h.4)
step ss names (listing n k false) done (name m) l s e is h = to _ ss names (listed n k false) s e is (record { name = m; line = l }, h.0, grows ss done _ (at (name m) l) h.1, h.2)
step ss names (listed n k true) done (mark Comma) l s e is h = to _ ss names (listing n k false) s e is (_, grows ss done _ (at (mark Comma) l) h.5, more_operands n k h.0 h.1 h.2 h.3 h.4 l)
step ss names (listed n k false) done (mark Comma) l s e is h = to _ ss names (listing n k false) s e is (_, grows ss done _ (at (mark Comma) l) h.2, again_operands n h.0 l h.1 h.3)
step ss names (listed n k true) done (mark Close) l s e is h = to_start _ _ ss (drive n Flop (h.0 ∷ [])) n names s refl e is (grows ss done _ (at (mark Close) l) h.5) (k, h.1, h.2, h.3, h.4, said h.0 ∷ at (mark Close) l ∷ [], tt, refl, (l, refl))
step ss names (listed n k false) done (mark Close) l s e is h =
    let g = h.3 (said h.0 ∷ at (mark Close) l ∷ []) (h.0 ∷ []) (l, refl) in
    to_start _ _ ss (drive n g.0 g.1) n names s refl e is (grows ss done _ (at (mark Close) l) h.2) (subst (λ v. Spells AnyKind (drive n g.0 g.1) v []) (sym (append_assoc h.1 (said h.0 ∷ []) (at (mark Close) l ∷ []))) g.2)
step ss names place done word l s e is h = absurd (cc)

shaped_run : (ts done : List Lexeme) (s t : Stand) → Shaped done s → run s.names s.place ts ≡ Some t → Shaped (done ++ ts) t
unfolding run
shaped_run [] done s t h e = subst (Shaped (done ++ [])) (stand_is e) (subst (λ l. Shaped l s) (sym (append-nil done)) h)
shaped_run (x ∷ ts) done s t h e =
    let q = and_then_is (go s.names s.place x.word) (λ q. run q.names q.place ts) t e in
    subst (λ l. Shaped l t) (append_assoc done (x ∷ []) ts) (shaped_run ts (done ++ x ∷ []) q.0 t (step h.statements s.names s.place done x.word x.line q.0 q.1 h.names h.shape) q.2)

pub shaped : (ts : List Lexeme) (s : Stand) → run [] start ts ≡ Some s → Shaped ts s
shaped ts s e = shaped_run ts [] (record { names = []; place = start }) s (record { statements = []; names = refl; shape = refl }) e

-- ---- a token that the machine doesn't take goes on no list of statements

pub all_run : (names : List (List ℕ)) (ss : List Statement) (ts : List Lexeme) → SpellsAll AnyKind ss ts → run names start ts ≡ stand (names ++ driven ss) ended
unfolding run
all_run names [] ts h = rw (h.1, append-nil names) refl
all_run names (s ∷ ss) ts h = statement_run names s ts h.0 h.1 ∙ all_run (names ++ driven_by s) ss h.0 h.2 ∙ ap (λ l. stand l ended) (append_assoc names (driven_by s) (driven ss))

stuck : (names : List (List ℕ)) (place : Place) (b : List Lexeme) (t : Lexeme) (more : List Lexeme) (s : Stand) → run names place b ≡ Some s → go s.names s.place t.word ≡ None → run names place (b ++ t ∷ more) ≡ None
unfolding run
stuck names place [] t more s e g = let same : record { names = names; place = place } ≡ s = stand_is e in rw (ap (λ (q : Stand). go q.names q.place t.word) same ∙ g) refl
stuck names place (x ∷ b) t more s e g = let q = and_then_is (go names place x.word) (λ q. run q.names q.place b) s e in rw q.1 (stuck q.0.names q.0.place b t more s q.2 g)

not_begun : (b : List Lexeme) (t : Lexeme) (s : Stand) → run [] start b ≡ Some s → go s.names s.place t.word ≡ None → Begins (b ++ t ∷ []) → ⊥
not_begun b t s e g h =
    let all = all_run [] h.statements ((b ++ t ∷ []) ++ h.more) h.spelled in
    let none : run [] start ((b ++ t ∷ []) ++ h.more) ≡ None = ap (run [] start) (append_assoc b (t ∷ []) h.more) ∙ stuck [] start b t h.more s e g in
    cc

-- ---- what the machine finds stands there

kind_is : {j k : FaultKind} → let o : Option FaultKind = Some j in o ≡ Some k → j ≡ k
kind_is e = cc

either : (o c : Option FaultKind) (k : FaultKind) → or_else o c ≡ Some k → (o ≡ Some k) ⊎ (c ≡ Some k)
either None c k e = inr e
either (Some j) c k e = inl e

is_long : (n : ℕ) → nat_lt 255 n ≡ true → 255 < n
is_long n e = grind arith

is_full : (n : ℕ) → nat_le 65535 n ≡ true → 65535 ≤ n
is_full n e = grind arith

named_stands : (b : List Lexeme) (n : List ℕ) (l : ℕ) (k : FaultKind) → name_check n ≡ Some k → StandsAt k b (at (name n) l)
named_stands b n l k e =
    ⊎_elim
    (λ c. subst (λ j. StandsAt j b (at (name n) l)) (kind_is c.1) (n, refl, is_long (length n) c.0))
    (λ c. let never = c.1 in absurd (cc))
    (chosen (nat_lt 255 (length n)) (Some faults.Name) None (Some k) e)

net_stands : (ss : List Statement) (names : List (List ℕ)) (n : List ℕ) (b : List Lexeme) (t : Lexeme) (k : FaultKind) → names ≡ driven ss → DrivenAt ss n b t → net_check names n ≡ Some k → StandsAt k b t
net_stands ss names n b t k is h e =
    ⊎_elim
    (λ c. subst (λ j. StandsAt j b t) (kind_is c.1) (ss, n, h, subst (λ l. is_member n l ≡ true) is c.0))
    (λ c. ⊎_elim
    (λ d. subst (λ j. StandsAt j b t) (kind_is d.1) (ss, n, h, subst (λ l. 65535 ≤ length l) is (is_full (length names) d.0)))
    (λ d. let never = d.1 in absurd (cc))
    (chosen (nat_le 65535 (length names)) (Some faults.TooMany) None (Some k) c.1))
    (chosen (is_member n names) (Some faults.Driven) _ (Some k) e)

kind_missing : (o : Option Cell) (k : FaultKind) → kind_check o ≡ Some k → (o ≡ None) × (faults.Kind ≡ k)
kind_missing None k e = (refl, kind_is e)
kind_missing (Some f) k e = absurd (cc)

one_operand : (o : Option Cell) (k : FaultKind) → comma_check o ≡ Some k → (f : Cell) × (o ≡ Some f) × (takes_one f ≡ true) × (faults.Operands ≡ k)
one_operand None k e = absurd (cc)
one_operand (Some f) k e =
    ⊎_elim
    (λ c. (f, refl, c.0, kind_is c.1))
    (λ c. let never = c.1 in absurd (cc))
    (chosen (takes_one f) (Some faults.Operands) None (Some k) e)

check_stands : (ss : List Statement) (names : List (List ℕ)) (place : Place) (b : List Lexeme) (word : Word) (l : ℕ) (k : FaultKind) → names ≡ driven ss → Shape b place ss → checked names place word ≡ Some k → StandsAt k b (at word l)
check_stands ss names (first n) b (mark Equals) l k is h e = net_stands ss names n b (at (mark Equals) l) k is (inl (record { behind = _; front = h.1; said = refl; token = refl })) e
check_stands ss names (listed n w true) b (mark Comma) l k is h e =
    let o = one_operand (cell_of w) k e in
    subst (λ j. StandsAt j b (at (mark Comma) l)) o.3 (ss, n, w, h.0.name, o.0, record { behind = _; front = h.5; said = refl; token = refl }, o.1, o.2)
check_stands ss names (equalled n) b (name w) l k is h e =
    ⊎_elim
    (λ c. let o = kind_missing (cell_of w) k c in subst (λ j. StandsAt j b (at (name w) l)) o.1 (ss, n, w, record { behind = _; front = h.2; said = refl; token = refl }, o.0))
    (λ c. named_stands b w l k c)
    (either (kind_check (cell_of w)) (name_check w) k e)
check_stands ss names (keyed true) b (name n) l k is h e =
    ⊎_elim
    (λ c. net_stands ss names n b (at (name n) l) k is (inr (h.0, h.3, record { behind = _; front = h.4; said = refl; token = refl })) c)
    (λ c. named_stands b n l k c)
    (either (net_check names n) (name_check n) k e)
check_stands ss names place b (name n) l k is h e = named_stands b n l k e
check_stands ss names place b word l k is h e = absurd (cc)

taken_stands : (o : Option Stand) (c : Option FaultKind) (b : List Lexeme) (t : Lexeme) (k : FaultKind) → (o ≡ None → StandsAt faults.Statement b t) → (c ≡ Some k → StandsAt k b t) → if_taken o c ≡ Some k → StandsAt k b t
taken_stands None c b t k never found e = subst (λ j. StandsAt j b t) (kind_is e) (never refl)
taken_stands (Some s) c b t k never found e = found e

-- what the machine finds at a token stands there
pub verdict_stands : (b : List Lexeme) (t : Lexeme) (s : Stand) (k : FaultKind) → run [] start b ≡ Some s → verdict s.names s.place t.word ≡ Some k → StandsAt k b t
verdict_stands b t s k e v =
    let h = shaped b s e in
    ⊎_elim
    (λ c. subst (λ j. StandsAt j b t) (kind_is c.1) (mark_is Bad t.word refl c.0))
    (λ c. taken_stands (go s.names s.place t.word) (checked s.names s.place t.word) b t k (λ g. not_begun b t s e g) (λ found. check_stands h.statements s.names s.place b t.word t.line k h.names h.shape found) c.1)
    (chosen (has_class Bad t.word) (Some faults.Byte) (if_taken (go s.names s.place t.word) (checked s.names s.place t.word)) (Some k) v)
