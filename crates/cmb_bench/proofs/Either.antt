-- Each text spells a netlist or has a first fault.
use Rattle.std.proofs.Common.{◌≡◌, ℕ, ◌<◌, ◌≤◌, List, [], ◌∷◌, ◌++◌, Bool, true, false, length, refl, sym, ap, ◌∙◌, subst, Result, Ok, Err, inl, inr, ⊎_elim, append_assoc, append-nil, arith}
use Rattle.std.specs.Prelude.{if◌then◌else◌, ◌⊎◌, ◌+◌, suc, zero, ◌&&◌, ◌||◌, nat_le, nat_eq}
use Rattle.cmb_bench.specs.declared.text.Class.{Class}
use Rattle.cmb_bench.specs.declared.text.Class.TheVariants.{White, Comment, Open, Close, Comma, Equals, Name, Bad, End}
use Rattle.cmb_bench.specs.declared.fault.BenchFault.{BenchFault}
use Rattle.cmb_bench.specs.declared.fault.ReadError.TheVariants as errors
use Rattle.cmb_bench.specs.Text.{Lexeme, Word, name, mark, Snippet, IsSnippet, IsCutting, class_of, tokens_from, tokens_of, is_token, word_of, line_feeds}
use Rattle.cmb_bench.specs.Inner.Word.{is_end}
use Rattle.cmb_bench.specs.Inner.Snippet.{snippets_of}
use Rattle.cmb_bench.specs.Statement.{Statement, input, output, drive, Mention, driven_by, driven}
use Rattle.cmb_netlist.specs.declared.netlist.Driver.{Driver}
use Rattle.cmb_netlist.specs.Netlist.{Netlist}
use Rattle.cmb_bench.specs.Inner.Reading.{statement_at}
use Rattle.cmb_bench.specs.Inner.Building.{Parses, begins_more, built}
use Rattle.cmb_bench.specs.Grammar.{at, SpellsOperands, Spells}
use Rattle.cmb_bench.specs.Meaning.{IsKind, Reads}
use Rattle.cmb_bench.specs.FirstFault.{IsFirstFault}
use Rattle.cmb_bench.proofs.Inversion.{token_is, ok_is}
use Rattle.cmb_bench.proofs.Takes.{statement_takes}
use Rattle.cmb_bench.proofs.Cutting.{cutting_is}
use Rattle.cmb_bench.proofs.Whole.{builds_reads, reads_builds, reads_never, same_netlist, front_fault, fault_of}

-- the end of input is the last token, and no other
abbrev Ends : List Lexeme → Type 0
Ends [] = ⊥
Ends (t ∷ ts) = ((t.word ≡ mark End) × (ts ≡ [])) ⊎ ((is_end t.word ≡ false) × Ends ts)

choose : (b : Bool) (x y : Class) (bs : List ℕ) → is_end (word_of x bs) ≡ false → is_end (word_of y bs) ≡ false → is_end (word_of (if b then x else y) bs) ≡ false
choose true x y bs h k = h
choose false x y bs h k = k

not_end : (b : ℕ) (bs : List ℕ) → is_end (word_of (class_of b) bs) ≡ false
not_end b bs =
    let word : Class = if nat_le 33 b && nat_le b 126 then Name else Bad in
    let equals : Class = if nat_eq b 61 then Equals else word in
    let comma : Class = if nat_eq b 44 then Comma else equals in
    let close : Class = if nat_eq b 41 then Close else comma in
    let open_mark : Class = if nat_eq b 40 then Open else close in
    let comment : Class = if nat_eq b 35 then Comment else open_mark in
    choose (((nat_eq b 32 || nat_eq b 9) || nat_eq b 13) || nat_eq b 10) White comment bs refl
    (choose (nat_eq b 35) Comment open_mark bs refl
    (choose (nat_eq b 40) Open close bs refl
    (choose (nat_eq b 41) Close comma bs refl
    (choose (nat_eq b 44) Comma equals bs refl
    (choose (nat_eq b 61) Equals word bs refl
    (choose (nat_le 33 b && nat_le b 126) Name Bad bs refl refl))))))

snippet_not_end : (class : Class) (bytes rest : List ℕ) → IsSnippet class bytes rest → is_end (word_of class bytes) ≡ false
snippet_not_end class [] rest h = absurd h
snippet_not_end class (b ∷ bs) rest h = subst (λ c. is_end (word_of c (b ∷ bs)) ≡ false) h.0 (not_end b (b ∷ bs))

tokens_ends : (line last : ℕ) (ps : List Snippet) (bytes : List ℕ) → IsCutting bytes ps → Ends (tokens_from line last ps)
tokens_ends line last [] bytes h = inl (refl, refl)
tokens_ends line last (p ∷ ps) bytes h =
    elim (is_token p.class) as (λ v. Ends (if v then record { word = word_of p.class p.bytes; line = line } ∷ tokens_from (line + line_feeds p.bytes) line ps else tokens_from (line + line_feeds p.bytes) last ps)) [
      | true ↦ inr (snippet_not_end p.class p.bytes h.0 h.2, tokens_ends (line + line_feeds p.bytes) line ps h.0 h.3)
      | false ↦ tokens_ends (line + line_feeds p.bytes) last ps h.0 h.3
    ]

-- two tokens that aren't the end
past : (t : Lexeme) (ts : List Lexeme) → is_end t.word ≡ false → Ends (t ∷ ts) → Ends ts
past t ts other h = ⊎_elim (λ e. let never = sym other ∙ ap is_end e.0 in absurd (cc)) (λ k. k.1) h

two : (v w : Word) (a b : ℕ) (ts all : List Lexeme) → is_end v ≡ false → is_end w ≡ false → all ≡ at v a ∷ at w b ∷ ts → Ends all → Ends ts
two v w a b ts all one other is h = past (at w b) ts other (past (at v a) (at w b ∷ ts) one (subst Ends is h))

four : (v w x y : Word) (a b c d : ℕ) (ts all : List Lexeme) → is_end v ≡ false → is_end w ≡ false → is_end x ≡ false → is_end y ≡ false → all ≡ at v a ∷ at w b ∷ at x c ∷ at y d ∷ ts → Ends all → Ends ts
four v w x y a b c d ts all one other third last is h = two x y c d ts (at x c ∷ at y d ∷ ts) third last refl (two v w a b (at x c ∷ at y d ∷ ts) all one other is h)

-- what is left is shorter, and has the end
record Left (ts rest : List Lexeme) : Type 0 where
  shorter : length rest < length ts
  ends : Ends rest

operands_left : (ms : List Mention) (ts rest : List Lexeme) → SpellsOperands ms ts rest → Ends ts → Left ts rest
operands_left [] ts rest h e = absurd h
operands_left (m ∷ []) ts rest h e = record { shorter = omega (arith, ap length h.1); ends = two (name m.name) (mark Close) m.line h.0 rest ts refl refl h.1 e }
operands_left (m ∷ n ∷ ms) ts rest h e = let inner = operands_left (n ∷ ms) h.1 rest h.3 (two (name m.name) (mark Comma) m.line h.0 h.1 ts refl refl h.2 e) in record { shorter = omega (arith, ap length h.2, inner.shorter); ends = inner.ends }

statement_left : (s : Statement) (ts rest : List Lexeme) → Spells IsKind s ts rest → Ends ts → Left ts rest
statement_left (input n) ts rest h e = record { shorter = omega (arith, ap length h.6); ends = four (name h.0) (mark Open) (name n) (mark Close) h.1 h.2 h.3 h.4 rest ts refl refl refl refl h.6 e }
statement_left (output m) ts rest h e = record { shorter = omega (arith, ap length h.5); ends = four (name h.0) (mark Open) (name m.name) (mark Close) h.1 h.2 m.line h.3 rest ts refl refl refl refl h.5 e }
statement_left (drive n f ms) ts rest h e = let inner = operands_left ms h.5 rest h.8 (four (name n) (mark Equals) (name h.0) (mark Open) h.1 h.2 h.3 h.4 h.5 ts refl refl refl refl h.7 e) in record { shorter = omega (arith, ap length h.7, inner.shorter); ends = inner.ends }

looked : {A : Type 0} (r : Result A BenchFault) → ((x : A) × (r ≡ Ok x)) ⊎ ((f : BenchFault) × (r ≡ Err f))
looked (Ok x) = inl (x, refl)
looked (Err f) = inr (f, refl)

record AllRead (names : List (List ℕ)) (ts : List Lexeme) : Type 0 where
  statements : List Statement
  line : ℕ
  parsed : Parses names ts statements (at (mark End) line ∷ [])

record Stopped (names : List (List ℕ)) (ts : List Lexeme) : Type 0 where
  statements : List Statement
  mid : List Lexeme
  fault : BenchFault
  parsed : Parses names ts statements mid
  more : begins_more mid
  stops : statement_at (names ++ driven statements) mid ≡ Err fault

stop_later : (names : List (List ℕ)) (ts rest : List Lexeme) (s : Statement) → statement_at names ts ≡ Ok (s, rest) → Stopped (names ++ driven_by s) rest → Stopped names ts
stop_later names ts rest s e h = record { statements = s ∷ h.statements; mid = h.mid; fault = h.fault; parsed = (rest, e, h.parsed); more = h.more; stops = ap (λ l. statement_at l h.mid) (sym (append_assoc names (driven_by s) (driven h.statements))) ∙ h.stops }

read_all : (fuel : ℕ) (names : List (List ℕ)) (ts : List Lexeme) → length ts ≤ fuel → Ends ts → AllRead names ts ⊎ Stopped names ts
read_all fuel names [] fits e = absurd e
read_all zero names (t ∷ ts) fits e = absurd (omega (arith, fits))
read_all (suc fuel) names (t ∷ ts) fits e =
    ⊎_elim
    (λ end. inl (record { statements = []; line = t.line; parsed = (λ i. (token_is t (mark End) end.0) i ∷ end.1 i) }))
    (λ other. ⊎_elim
    (λ ok.
    let b = statement_takes names (t ∷ ts) ok.0 ok.1 in
    let left = statement_left ok.0.0 (t ∷ ts) ok.0.1 b.spelled e in
    ⊎_elim
    (λ all. inl (record { statements = ok.0.0 ∷ all.statements; line = all.line; parsed = (ok.0.1, ok.1, all.parsed) }))
    (λ stopped. inr (stop_later names (t ∷ ts) ok.0.1 ok.0.0 ok.1 stopped))
    (read_all fuel (names ++ driven_by ok.0.0) ok.0.1 (omega (arith, left.shorter, fits)) left.ends))
    (λ err. inr (record { statements = []; mid = t ∷ ts; fault = err.0; parsed = refl; more = other.0; stops = ap (λ l. statement_at l (t ∷ ts)) (append-nil names) ∙ err.1 }))
    (looked (statement_at names (t ∷ ts))))
    e

pub either_one : (bytes : List ℕ) → ((c : Netlist) × Reads bytes c) ⊎ ((f : BenchFault) × IsFirstFault bytes f)
either_one bytes =
    ⊎_elim
    (λ all. ⊎_elim
    (λ ok. let c : Netlist = record { names = driven all.statements; drivers = ok.0.0; outputs = ok.0.1 } in inl (c, builds_reads bytes c all.statements all.line refl all.parsed ok.1))
    (λ err. inr (err.0, fault_of bytes all.statements all.statements all.line (driven all.statements) (Err (errors.Fault err.0)) refl refl all.parsed err.1))
    (looked (built (driven all.statements) [] all.statements)))
    (λ stopped. inr (stopped.fault, front_fault bytes (errors.Fault stopped.fault) (stopped.statements, stopped.mid, stopped.parsed, stopped.more, stopped.stops)))
    (read_all (length (tokens_of (snippets_of bytes))) [] (tokens_of (snippets_of bytes)) (omega arith) (tokens_ends 1 1 (snippets_of bytes) bytes (cutting_is bytes)))

-- two netlists of one text have the statements that are read, so they are the same
pub one_netlist : (bytes : List ℕ) (c d : Netlist) → Reads bytes c → Reads bytes d → c ≡ d
one_netlist bytes c d r q =
    ⊎_elim
    (λ all.
    let a = reads_builds bytes c all.statements all.line r all.parsed in
    let b = reads_builds bytes d all.statements all.line q all.parsed in
    let P : Type 0 = List Driver × List ℕ in
    let x : P = (c.drivers, c.outputs) in
    let y : P = (d.drivers, d.outputs) in
    let same : x ≡ y = ok_is (sym a.1 ∙ b.1) in
    same_netlist c d (a.0 ∙ sym b.0) (ap (λ (p : List Driver × List ℕ). p.0) same) (ap (λ (p : List Driver × List ℕ). p.1) same))
    (λ stopped. absurd (reads_never bytes c stopped.statements stopped.mid stopped.fault r stopped.parsed stopped.more stopped.stops))
    (read_all (length (tokens_of (snippets_of bytes))) [] (tokens_of (snippets_of bytes)) (omega arith) (tokens_ends 1 1 (snippets_of bytes) bytes (cutting_is bytes)))
