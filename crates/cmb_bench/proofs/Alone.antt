-- A text that spells a netlist has no first fault, and any text has at most one.
use Rattle.std.proofs.Common.{◌≡◌, ℕ, ◌<◌, ◌≤◌, List, [], ◌∷◌, ◌++◌, true, false, length, refl, sym, ap, ◌∙◌, subst, Ok, nat_eq, ⊎_elim, arith, length-append}
use Rattle.std.specs.Prelude.{if◌then◌else◌, ◌⊎◌, codes}
use Rattle.std.proofs.str.Laws.{order}
use Rattle.std.specs.List.{flat_map, AllByRecursion}
use Rattle.indexmap.specs.IndexSet.{insert_key}
use Rattle.cmb_bench.specs.declared.text.Class.TheVariants.{Open, Close, Comma, Equals, End}
use Rattle.cmb_bench.specs.declared.fault.BenchFault.{BenchFault}
use Rattle.cmb_bench.specs.declared.fault.FaultKind.{FaultKind}
use Rattle.cmb_bench.specs.declared.fault.FaultKind.TheVariants as faults
use Rattle.cmb_bench.specs.Text.{Lexeme, Word, name, mark, tokens_of}
use Rattle.cmb_bench.specs.Inner.Snippet.{snippets_of}
use Rattle.cmb_netlist.specs.Kinds.{is_word}
use Rattle.cmb_bench.specs.Statement.{Statement, input, output, drive, Mention, driven_by, driven, used_by, is_member}
use Rattle.cmb_netlist.specs.declared.netlist.Driver.{Driver}
use Rattle.cmb_netlist.specs.Netlist.{Netlist}
use Rattle.cmb_bench.specs.Grammar.{at, said, SpellsOperands, Spells, SpellsAll}
use Rattle.cmb_bench.specs.Meaning.{Reads}
use Rattle.cmb_bench.specs.Inner.Building.{number_in, numbers_in, built}
use Rattle.cmb_bench.specs.FirstFault.{AnyKind, StandsAt, FirstAt, OnlyUndriven, IsFirstFault, NoneBelow, number_of_fault}
use Rattle.cmb_bench.proofs.Inversion.{bind_ok}
use Rattle.cmb_bench.proofs.Again.{not_input}
use Rattle.cmb_bench.proofs.Meant.{means_built}
use Rattle.cmb_bench.proofs.Cutting.{cutting_unique}
use Rattle.cmb_bench.proofs.Clear.{none_stands, all_weaker}
use Rattle.cmb_bench.proofs.Undriven.{found}
use Rattle.cmb_bench.proofs.Whole.{spelled_by}

-- ---- the same tokens drive and use the same names

word_same : (v w : Word) (a b : ℕ) → at v a ≡ at w b → v ≡ w
word_same v w a b e = ap (λ (t : Lexeme). t.word) e

name_same : (n m : List ℕ) (a b : ℕ) → at (name n) a ≡ at (name m) b → n ≡ m
name_same n m a b e = let w = word_same (name n) (name m) a b e in cc

said_same : (m n : Mention) → said m ≡ said n → m ≡ n
said_same m n e =
    let names = name_same m.name n.name m.line n.line e in
    let lines : m.line ≡ n.line = ap (λ (t : Lexeme). t.line) e in
    λ i. record { name = names i; line = lines i }

record SameOperands (ms ns : List Mention) (a b : List Lexeme) : Type 0 where
  mentions : ms ≡ ns
  rest : a ≡ b

same_operands : (ms ns : List Mention) (ts a b : List Lexeme) → SpellsOperands ms ts a → SpellsOperands ns ts b → SameOperands ms ns a b
same_operands [] ns ts a b h k = absurd h
same_operands (m ∷ ms) [] ts a b h k = absurd k
same_operands (m ∷ []) (n ∷ []) ts a b h k = let e = sym h.1 ∙ k.1 in let here = said_same m n (cc) in record { mentions = (λ i. here i ∷ []); rest = cc }
same_operands (m ∷ []) (n ∷ y ∷ ns) ts a b h k = let e = sym h.1 ∙ k.2 in let never = word_same (mark Close) (mark Comma) h.0 k.0 (cc) in absurd (cc)
same_operands (m ∷ x ∷ ms) (n ∷ []) ts a b h k = let e = sym h.2 ∙ k.1 in let never = word_same (mark Comma) (mark Close) h.0 k.0 (cc) in absurd (cc)
same_operands (m ∷ x ∷ ms) (n ∷ y ∷ ns) ts a b h k =
    let e = sym h.2 ∙ k.2 in
    let mid : h.1 ≡ k.1 = cc in
    let inner = same_operands (x ∷ ms) (y ∷ ns) k.1 a b (subst (λ l. SpellsOperands (x ∷ ms) l a) mid h.3) k.3 in
    let here = said_same m n (cc) in
    record { mentions = (λ i. here i ∷ inner.mentions i); rest = inner.rest }

record SameStatement (s t : Statement) (a b : List Lexeme) : Type 0 where
  drives : driven_by s ≡ driven_by t
  uses : used_by s ≡ used_by t
  rest : a ≡ b

both_words : (w v : List ℕ) → w ≡ v → is_word w (codes "INPUT") ≡ true → is_word v (codes "OUTPUT") ≡ true → ⊥
both_words w v same i o = let no = sym (subst (λ x. is_word x (codes "INPUT") ≡ true) same i) ∙ not_input v o in cc

same_statement : (s t : Statement) (ts a b : List Lexeme) → Spells AnyKind s ts a → Spells AnyKind t ts b → SameStatement s t a b
same_statement (input n) (input m) ts a b h k = let e = sym h.6 ∙ k.6 in let here = name_same n m h.3 k.3 (cc) in record { drives = (λ i. here i ∷ []); uses = refl; rest = cc }
same_statement (input n) (output m) ts a b h k = let e = sym h.6 ∙ k.5 in absurd (both_words h.0 k.0 (name_same h.0 k.0 h.1 k.1 (cc)) h.5 k.4)
same_statement (input n) (drive m g ns) ts a b h k = let e = sym h.6 ∙ k.7 in let never = word_same (mark Open) (mark Equals) h.2 k.2 (cc) in absurd (cc)
same_statement (output n) (input m) ts a b h k = let e = sym k.6 ∙ h.5 in absurd (both_words k.0 h.0 (name_same k.0 h.0 k.1 h.1 (cc)) k.5 h.4)
same_statement (output n) (output m) ts a b h k = let e = sym h.5 ∙ k.5 in let here = said_same n m (cc) in record { drives = refl; uses = (λ i. here i ∷ []); rest = cc }
same_statement (output n) (drive m g ns) ts a b h k = let e = sym h.5 ∙ k.7 in let never = word_same (mark Open) (mark Equals) h.2 k.2 (cc) in absurd (cc)
same_statement (drive n f ms) (input m) ts a b h k = let e = sym h.7 ∙ k.6 in let never = word_same (mark Equals) (mark Open) h.2 k.2 (cc) in absurd (cc)
same_statement (drive n f ms) (output m) ts a b h k = let e = sym h.7 ∙ k.5 in let never = word_same (mark Equals) (mark Open) h.2 k.2 (cc) in absurd (cc)
same_statement (drive n f ms) (drive m g ns) ts a b h k =
    let e = sym h.7 ∙ k.7 in
    let mid : h.5 ≡ k.5 = cc in
    let inner = same_operands ms ns k.5 a b (subst (λ l. SpellsOperands ms l a) mid h.8) k.8 in
    let here = name_same n m h.1 k.1 (cc) in
    record { drives = (λ i. here i ∷ []); uses = inner.mentions; rest = inner.rest }

record SameAll (ss us : List Statement) : Type 0 where
  drives : driven ss ≡ driven us
  uses : flat_map used_by ss ≡ flat_map used_by us

never_end : (s : Statement) (l : ℕ) (a : List Lexeme) → Spells AnyKind s (at (mark End) l ∷ []) a → ⊥
never_end (input n) l a h = let e = h.6 in cc
never_end (output m) l a h = let e = h.5 in cc
never_end (drive n f ms) l a h = let e = h.7 in cc

same_all : (ss us : List Statement) (ts : List Lexeme) → SpellsAll AnyKind ss ts → SpellsAll AnyKind us ts → SameAll ss us
same_all [] [] ts h k = record { drives = refl; uses = refl }
same_all [] (u ∷ us) ts h k = absurd (never_end u h.0 k.0 (subst (λ l. Spells AnyKind u l k.0) h.1 k.1))
same_all (s ∷ ss) [] ts h k = absurd (never_end s k.0 h.0 (subst (λ l. Spells AnyKind s l h.0) k.1 h.1))
same_all (s ∷ ss) (u ∷ us) ts h k =
    let here = same_statement s u ts h.0 k.0 h.1 k.1 in
    let more = same_all ss us k.0 (subst (SpellsAll AnyKind ss) here.rest h.2) k.2 in
    record { drives = (λ i. here.drives i ++ more.drives i); uses = (λ i. here.uses i ++ more.uses i) }

-- ---- where a netlist is built, each used name is driven

abbrev Known : List (List ℕ) → List Mention → Type 0
Known names ms = AllByRecursion (λ m. is_member m.name names ≡ true) ms

known_append : (names : List (List ℕ)) (ms ns : List Mention) → Known names ms → Known names ns → Known names (ms ++ ns)
known_append names [] ns h k = k
known_append names (m ∷ ms) ns h k = (h.0, known_append names ms ns h.1 k)

known_at : (names : List (List ℕ)) (before : List Mention) (m : Mention) (after : List Mention) → Known names (before ++ m ∷ after) → is_member m.name names ≡ true
known_at names [] m after h = h.0
known_at names (x ∷ before) m after h = known_at names before m after h.1

numbers_known : (names : List (List ℕ)) (ms : List Mention) (ns : List ℕ) → numbers_in names ms ≡ Ok ns → Known names ms
unfolding numbers_in
numbers_known names [] ns e = tt
numbers_known names (m ∷ ms) ns e =
    let k = bind_ok (number_in names m) _ ns e in
    let rest = bind_ok (numbers_in names ms) _ ns k.2 in
    (found m names k.0 k.1, numbers_known names ms rest.0 rest.1)

built_known : (names : List (List ℕ)) (ss : List Statement) (before : List ℕ) (r : List Driver × List ℕ) → built names before ss ≡ Ok r → Known names (flat_map used_by ss)
unfolding built
built_known names [] before r e = tt
built_known names (input n ∷ ss) before r e = let k = bind_ok (built names before ss) _ r e in built_known names ss before k.0 k.1
built_known names (output m ∷ ss) before r e = let k = bind_ok (number_in names m) _ r e in (found m names k.0 k.1, built_known names ss (insert_key nat_eq before k.0) r k.2)
built_known names (drive n g ms ∷ ss) before r e =
    let k = bind_ok (numbers_in names ms) _ r e in
    let rest = bind_ok (built names before ss) _ r k.2 in
    known_append names ms (flat_map used_by ss) (numbers_known names ms k.0 k.1) (built_known names ss before rest.0 rest.1)

none_first : (ts : List Lexeme) (f : BenchFault) → NoneBelow ts (length ts) → FirstAt ts f → ⊥
none_first ts f none h =
    let below : length h.before < length ts = omega (arith, ap length h.is, length-append h.before (h.token ∷ h.after)) in
    none h.before h.token h.after f.kind h.is below h.stands

first_in : (bytes : List ℕ) (f : BenchFault) → IsFirstFault bytes f → FirstAt (tokens_of (snippets_of bytes)) f ⊎ OnlyUndriven (tokens_of (snippets_of bytes)) f
first_in bytes f h = subst (λ ps. FirstAt (tokens_of ps) f ⊎ OnlyUndriven (tokens_of ps) f) (cutting_unique bytes h.snippets h.cut) h.fault

pub never_both : (bytes : List ℕ) (c : Netlist) (f : BenchFault) → Reads bytes c → IsFirstFault bytes f → ⊥
never_both bytes c f r h =
    let ts = tokens_of (snippets_of bytes) in
    let spelled = spelled_by bytes c r in
    ⊎_elim
    (λ first. none_first (tokens_of (snippets_of bytes)) f (none_stands r.statements (tokens_of (snippets_of bytes)) spelled r.lawful) first)
    (λ only.
    let same = same_all r.statements only.statements (tokens_of (snippets_of bytes)) (all_weaker r.statements (tokens_of (snippets_of bytes)) spelled) only.spelled in
    let known = built_known (driven r.statements) r.statements [] _ (means_built (driven r.statements) r.statements [] c.drivers r.meant.numbers r.meant.drivers r.meant.outputs) in
    let u = only.first in
    let yes : is_member u.mention.name (driven r.statements) ≡ true = known_at (driven r.statements) u.before u.mention u.after (subst (Known (driven r.statements)) (same.uses ∙ u.is) known) in
    let no : is_member u.mention.name (driven r.statements) ≡ false = subst (λ l. is_member u.mention.name l ≡ false) (sym same.drives) u.missing in
    cc)
    (first_in bytes f h)

-- ---- the first fault is one

kind_of : ℕ → FaultKind
kind_of n =
    if nat_eq n 1 then faults.Byte
    else (if nat_eq n 2 then faults.Statement
    else (if nat_eq n 3 then faults.Kind
    else (if nat_eq n 4 then faults.Operands
    else (if nat_eq n 5 then faults.Driven
    else (if nat_eq n 6 then faults.Undriven
    else (if nat_eq n 7 then faults.TooMany
    else (if nat_eq n 8 then faults.Name
    else faults.Memory)))))))

kind_back : (k : FaultKind) → kind_of (number_of_fault k) ≡ k
unfolding kind_of
kind_back faults.Byte = refl
kind_back _ = refl

same_number : (j k : FaultKind) → number_of_fault j ≡ number_of_fault k → j ≡ k
same_number j k e = sym (kind_back j) ∙ ap kind_of e ∙ kind_back k

both_ways : (a b : ℕ) → a ≤ b → b ≤ a → a ≡ b
both_ways a b h k = omega (arith, h, k)

same_fault : (f g : BenchFault) → f.line ≡ g.line → f.kind ≡ g.kind → f ≡ g
same_fault f g l k = λ i. record { line = l i; kind = k i }

record SameSplit (a b : List Lexeme) (x y : Lexeme) : Type 0 where
  before : a ≡ b
  token : x ≡ y

same_split : (a b : List Lexeme) (x y : Lexeme) (c d : List Lexeme) → a ++ x ∷ c ≡ b ++ y ∷ d → length a ≡ length b → SameSplit a b x y
same_split [] [] x y c d e l = record { before = refl; token = cc }
same_split [] (v ∷ b) x y c d e l = absurd (omega (arith, l))
same_split (u ∷ a) [] x y c d e l = absurd (omega (arith, l))
same_split (u ∷ a) (v ∷ b) x y c d e l =
    let tail : a ++ x ∷ c ≡ b ++ y ∷ d = cc in
    let head : u ≡ v = cc in
    let inner = same_split a b x y c d tail (omega (arith, l)) in
    record { before = (λ i. head i ∷ inner.before i); token = inner.token }

same_first : (ts : List Lexeme) (f g : BenchFault) → FirstAt ts f → FirstAt ts g → f ≡ g
same_first ts f g h k =
    ⊎_elim
    (λ lt. absurd (k.earlier h.before h.token h.after f.kind h.is lt h.stands))
    (λ ge. ⊎_elim
    (λ lt. absurd (h.earlier k.before k.token k.after g.kind k.is lt k.stands))
    (λ le.
    let same = same_split h.before k.before h.token k.token h.after k.after (sym h.is ∙ k.is) (both_ways _ _ le ge) in
    let stands : StandsAt g.kind h.before h.token = subst (λ t. StandsAt g.kind h.before t) (sym same.token) (subst (λ b. StandsAt g.kind b k.token) (sym same.before) k.stands) in
    let other : StandsAt f.kind k.before k.token = subst (λ t. StandsAt f.kind k.before t) same.token (subst (λ b. StandsAt f.kind b h.token) same.before h.stands) in
    same_fault f g (h.line ∙ ap (λ (t : Lexeme). t.line) same.token ∙ sym k.line) (same_number f.kind g.kind (both_ways _ _ (h.least g.kind stands) (k.least f.kind other))))
    (order (length k.before) (length h.before)))
    (order (length h.before) (length k.before))

same_mention : (names : List (List ℕ)) (a b : List Mention) (x y : Mention) (c d : List Mention) → a ++ x ∷ c ≡ b ++ y ∷ d → Known names a → Known names b → is_member x.name names ≡ false → is_member y.name names ≡ false → x ≡ y
same_mention names [] [] x y c d e ka kb nx ny = cc
same_mention names [] (v ∷ b) x y c d e ka kb nx ny =
    let same : x ≡ v = cc in
    let no : true ≡ false = sym kb.0 ∙ ap (λ (m : Mention). is_member m.name names) (sym same) ∙ nx in
    absurd (cc)
same_mention names (u ∷ a) [] x y c d e ka kb nx ny =
    let same : u ≡ y = cc in
    let no : true ≡ false = sym ka.0 ∙ ap (λ (m : Mention). is_member m.name names) same ∙ ny in
    absurd (cc)
same_mention names (u ∷ a) (v ∷ b) x y c d e ka kb nx ny = let tail : a ++ x ∷ c ≡ b ++ y ∷ d = cc in same_mention names a b x y c d tail ka.1 kb.1 nx ny

same_undriven : (ts : List Lexeme) (f g : BenchFault) → OnlyUndriven ts f → OnlyUndriven ts g → f ≡ g
same_undriven ts f g h k =
    let same = same_all h.statements k.statements ts h.spelled k.spelled in
    let a = h.first in
    let b = k.first in
    let known = subst (λ l. Known l b.before) (sym same.drives) b.earlier in
    let missing = subst (λ l. is_member b.mention.name l ≡ false) (sym same.drives) b.missing in
    let mention = same_mention (driven h.statements) a.before b.before a.mention b.mention a.after b.after (sym a.is ∙ same.uses ∙ b.is) a.earlier known a.missing missing in
    a.fault ∙ ap (λ (m : Mention). record { line = m.line; kind = faults.Undriven }) mention ∙ sym b.fault

pub one_first_fault : (bytes : List ℕ) (f g : BenchFault) → IsFirstFault bytes f → IsFirstFault bytes g → f ≡ g
one_first_fault bytes f g h k =
    ⊎_elim
    (λ a. ⊎_elim (λ b. same_first (tokens_of (snippets_of bytes)) f g a b) (λ b. absurd (none_first (tokens_of (snippets_of bytes)) f b.none a)) (first_in bytes g k))
    (λ a. ⊎_elim (λ b. absurd (none_first (tokens_of (snippets_of bytes)) g a.none b)) (λ b. same_undriven (tokens_of (snippets_of bytes)) f g a b) (first_in bytes g k))
    (first_in bytes f h)
