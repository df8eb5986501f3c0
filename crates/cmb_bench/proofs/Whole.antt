-- From the loops to the theorem about whole texts.
use Rattle.std.proofs.Common.{◌≡◌, ℕ, ◌≤◌, List, [], ◌∷◌, ◌++◌, length, refl, sym, ap, ◌∙◌, subst, Result, Ok, Err, arith, append_assoc, append-nil, length-append, inl, inr}
use Rattle.std.specs.Result.{IfOk, IfErr}
use Rattle.cmb_bench.specs.declared.fault.ReadError.{ReadError}
use Rattle.cmb_bench.specs.declared.fault.ReadError.TheVariants as errors
use Rattle.cmb_bench.specs.declared.text.Class.TheVariants.{End}
use Rattle.cmb_bench.specs.declared.fault.BenchFault.{BenchFault}
use Rattle.cmb_bench.specs.Text.{Lexeme, mark, tokens_of}
use Rattle.cmb_bench.specs.Inner.Snippet.{snippets_of}
use Rattle.cmb_bench.specs.Statement.{Statement, input, output, drive, driven_by, driven}
use Rattle.cmb_netlist.specs.declared.netlist.Driver.{Driver}
use Rattle.cmb_netlist.specs.Netlist.{Netlist}
use Rattle.cmb_bench.specs.Inner.Reading.{statement_at, short_name, Gives}
use Rattle.cmb_bench.specs.Inner.Building.{Parses, begins_more, built, Fronts}
use Rattle.cmb_bench.specs.Grammar.{at, SpellsAll, AreLawful}
use Rattle.cmb_bench.specs.Meaning.{IsKind, Reads}
use Rattle.cmb_bench.specs.FirstFault.{OnlyUndriven}
use Rattle.cmb_bench.specs.Inner.Faulty.{IsFaulty, AnswersOnly}
use Rattle.cmb_bench.proofs.Inversion.{ok_is}
use Rattle.cmb_bench.proofs.Undriven.{built_missing}
use Rattle.cmb_bench.proofs.Caught.{front_first}
use Rattle.cmb_bench.proofs.Clear.{none_stands, all_weaker}
use Rattle.cmb_bench.proofs.Takes.{statement_takes}
use Rattle.cmb_bench.proofs.Again.{statement_again}
use Rattle.cmb_bench.proofs.Cutting.{cutting_is, cutting_unique}
use Rattle.cmb_bench.proofs.Meant.{built_means, means_built}

pub parses_spells : (names : List (List ℕ)) (ts : List Lexeme) (ss : List Statement) (line : ℕ) → Parses names ts ss (at (mark End) line ∷ []) → SpellsAll IsKind ss ts × AreLawful names ss
parses_spells names ts [] line h = ((line, h), tt)
parses_spells names ts (s ∷ ss) line h =
    let b = statement_takes names ts (s, h.0) h.1 in
    let more = parses_spells (names ++ driven_by s) h.0 ss line h.2 in
    ((h.0, b.spelled, more.0), (b.lawful, more.1))

pub few_nets : (names : List (List ℕ)) (ss : List Statement) → AreLawful names ss → length names ≤ 65535 → length (names ++ driven ss) ≤ 65535
few_nets names [] h few = rw (append-nil names) few
few_nets names (input n ∷ ss) h few = rw (← append_assoc names (n ∷ []) (driven ss)) (few_nets (names ++ n ∷ []) ss h.1 (rw (length-append names (n ∷ [])) (omega (arith, h.0.few))))
few_nets names (output m ∷ ss) h few = few_nets names ss (rw (append-nil names) at h.1) few
few_nets names (drive n f ms ∷ ss) h few = rw (← append_assoc names (n ∷ []) (driven ss)) (few_nets (names ++ n ∷ []) ss h.1 (rw (length-append names (n ∷ [])) (omega (arith, h.0.0.few))))

no_statement : (names : List (List ℕ)) (line : ℕ) (r : Statement × List Lexeme) → statement_at names (at (mark End) line ∷ []) ≡ Ok r → ⊥
unfolding statement_at short_name
no_statement names line r e = cc

-- what is left of other statements that the same tokens spell
pub record Rest (names : List (List ℕ)) (ss all : List Statement) (mid : List Lexeme) : Type 0 where
  pub more : List Statement
  pub is : all ≡ ss ++ more
  pub spelled : SpellsAll IsKind more mid
  pub lawful : AreLawful (names ++ driven ss) more

pub follows : (names : List (List ℕ)) (ts : List Lexeme) (ss : List Statement) (mid : List Lexeme) (all : List Statement) → Parses names ts ss mid → SpellsAll IsKind all ts → AreLawful names all → Rest names ss all mid
follows names ts [] mid all h spelled lawful = record { more = all; is = refl; spelled = subst (SpellsAll IsKind all) h spelled; lawful = subst (λ n. AreLawful n all) (sym (append-nil names)) lawful }
follows names ts (s ∷ ss) mid [] h spelled lawful = absurd (no_statement names spelled.0 (s, h.0) (ap (statement_at names) (sym spelled.1) ∙ h.1))
follows names ts (s ∷ ss) mid (x ∷ all) h spelled lawful =
    let read : (s, h.0) ≡ (x, spelled.0) = ok_is (sym h.1 ∙ statement_again names x ts spelled.0 spelled.1 lawful.0) in
    let same : x ≡ s = sym (ap (λ (p : Statement × List Lexeme). p.0) read) in
    let left : spelled.0 ≡ h.0 = sym (ap (λ (p : Statement × List Lexeme). p.1) read) in
    let inner = follows (names ++ driven_by s) h.0 ss mid all h.2 (subst (SpellsAll IsKind all) left spelled.2) (subst (λ v. AreLawful (names ++ driven_by v) all) same lawful.1) in
    record { more = inner.more; is = (λ i. same i ∷ inner.is i); spelled = inner.spelled; lawful = subst (λ n. AreLawful n inner.more) (append_assoc names (driven_by s) (driven ss)) inner.lawful }

all_of_them : (ss all : List Statement) (line : ℕ) (more : List Statement) → all ≡ ss ++ more → SpellsAll IsKind more (at (mark End) line ∷ []) → AreLawful (driven ss) more → all ≡ ss
all_of_them ss all line [] is spelled lawful = is ∙ append-nil ss
all_of_them ss all line (s ∷ more) is spelled lawful = absurd (no_statement (driven ss) line (s, spelled.0) (statement_again (driven ss) s _ spelled.0 spelled.1 lawful.0))

pub same_statements : (ts : List Lexeme) (ss all : List Statement) (line : ℕ) → Parses [] ts ss (at (mark End) line ∷ []) → SpellsAll IsKind all ts → AreLawful [] all → all ≡ ss
same_statements ts ss all line h spelled lawful = let rest = follows [] ts ss _ all h spelled lawful in all_of_them ss all line rest.more rest.is rest.spelled rest.lawful

never : (names : List (List ℕ)) (mid : List Lexeme) (more : List Statement) (f : BenchFault) → begins_more mid → statement_at names mid ≡ Err f → SpellsAll IsKind more mid → AreLawful names more → ⊥
never names mid [] f begins e spelled lawful = let b = subst begins_more spelled.1 begins in cc
never names mid (s ∷ more) f begins e spelled lawful = let ok = statement_again names s mid spelled.0 spelled.1 lawful.0 in cc

pub no_statements : (ts : List Lexeme) (ss : List Statement) (mid : List Lexeme) (f : BenchFault) (all : List Statement) → Parses [] ts ss mid → begins_more mid → statement_at (driven ss) mid ≡ Err f → SpellsAll IsKind all ts → AreLawful [] all → ⊥
no_statements ts ss mid f all h begins e spelled lawful = let rest = follows [] ts ss mid all h spelled lawful in never (driven ss) mid rest.more f begins e rest.spelled rest.lawful

-- a text with this netlist has these statements
pub spelled_by : (bytes : List ℕ) (c : Netlist) (r : Reads bytes c) → SpellsAll IsKind r.statements (tokens_of (snippets_of bytes))
spelled_by bytes c r = subst (λ ps. SpellsAll IsKind r.statements (tokens_of ps)) (cutting_unique bytes r.snippets r.cut) r.spelled

pub reads_builds : (bytes : List ℕ) (c : Netlist) (ss : List Statement) (line : ℕ) → Reads bytes c → Parses [] (tokens_of (snippets_of bytes)) ss (at (mark End) line ∷ []) → (c.names ≡ driven ss) × (built (driven ss) [] ss ≡ Ok (c.drivers, c.outputs))
reads_builds bytes c ss line r h =
    let same = same_statements (tokens_of (snippets_of bytes)) ss r.statements line h (spelled_by bytes c r) r.lawful in
    let built_is = means_built (driven r.statements) r.statements [] c.drivers r.meant.numbers r.meant.drivers r.meant.outputs ∙ ap (λ l. Ok (c.drivers, l)) (sym r.meant.once) in
    (r.meant.names ∙ ap driven same, ap (λ l. built (driven l) [] l) (sym same) ∙ built_is)

pub reads_never : (bytes : List ℕ) (c : Netlist) (ss : List Statement) (mid : List Lexeme) (f : BenchFault) → Reads bytes c → Parses [] (tokens_of (snippets_of bytes)) ss mid → begins_more mid → statement_at (driven ss) mid ≡ Err f → ⊥
reads_never bytes c ss mid f r h begins e = no_statements (tokens_of (snippets_of bytes)) ss mid f r.statements h begins e (spelled_by bytes c r) r.lawful

pub same_netlist : (a b : Netlist) → a.names ≡ b.names → a.drivers ≡ b.drivers → a.outputs ≡ b.outputs → a ≡ b
same_netlist a b names drivers outputs = λ i. record { names = names i; drivers = drivers i; outputs = outputs i }

pub builds_reads : (bytes : List ℕ) (c : Netlist) (ss : List Statement) (line : ℕ) → c.names ≡ driven ss → Parses [] (tokens_of (snippets_of bytes)) ss (at (mark End) line ∷ []) → built (driven ss) [] ss ≡ Ok (c.drivers, c.outputs) → Reads bytes c
builds_reads bytes c ss line names h e =
    let spelled = parses_spells [] (tokens_of (snippets_of bytes)) ss line h in
    let means = built_means (driven ss) ss [] (c.drivers, c.outputs) e in
    record {
      snippets = snippets_of bytes;
      cut = cutting_is bytes;
      statements = ss;
      spelled = spelled.0;
      lawful = spelled.1;
      meant = record { names = names; drivers = means.drives; numbers = means.numbers; outputs = means.named; once = means.once };
    }

pub found_of : (bytes : List ℕ) (ss given : List Statement) (line : ℕ) (names : List (List ℕ)) (r : Result Netlist ReadError) → names ≡ driven ss → given ≡ ss → Parses [] (tokens_of (snippets_of bytes)) ss (at (mark End) line ∷ []) →
    Gives (λ n. (n.drivers, n.outputs)) r (built names [] given) → IfOk r (λ n. n.names ≡ names) → IfOk r (λ n. Reads bytes n)
found_of bytes ss given line names (Err e) names_are given_is h gives named = tt
found_of bytes ss given line names (Ok n) names_are given_is h gives named = builds_reads bytes n ss line (named ∙ names_are) h (ap (λ l. built l [] ss) (sym names_are) ∙ ap (built names []) (sym given_is) ∙ gives)

pub only_of : (bytes : List ℕ) (ss given : List Statement) (line : ℕ) (names : List (List ℕ)) (r : Result Netlist ReadError) → names ≡ driven ss → given ≡ ss → Parses [] (tokens_of (snippets_of bytes)) ss (at (mark End) line ∷ []) →
    Gives (λ n. (n.drivers, n.outputs)) r (built names [] given) → IfOk r (λ n. n.names ≡ names) → (c : Netlist) → Reads bytes c → AnswersOnly r c
only_of bytes ss given line names (Err errors.Memory) names_are given_is h gives named c reads = tt
only_of bytes ss given line names (Err (errors.Fault f)) names_are given_is h gives named c reads =
    let b = (reads_builds bytes c ss line reads h).1 in
    let e = ap (λ l. built l [] ss) (sym names_are) ∙ ap (built names []) (sym given_is) ∙ gives in
    cc
only_of bytes ss given line names (Ok n) names_are given_is h gives named c reads =
    let b = reads_builds bytes c ss line reads h in
    let e = ap (λ l. built l [] ss) (sym names_are) ∙ ap (built names []) (sym given_is) ∙ gives in
    let P : Type 0 = List Driver × List ℕ in
    let x : P = (n.drivers, n.outputs) in
    let y : P = (c.drivers, c.outputs) in
    let same : x ≡ y = ok_is (sym e ∙ b.1) in
    same_netlist n c (named ∙ names_are ∙ sym b.0) (ap (λ (p : List Driver × List ℕ). p.0) same) (ap (λ (p : List Driver × List ℕ). p.1) same)

pub never_of : (bytes : List ℕ) (e : ReadError) → Fronts e (tokens_of (snippets_of bytes)) → (c : Netlist) → Reads bytes c → AnswersOnly (Err e) c
never_of bytes errors.Memory h c reads = tt
never_of bytes (errors.Fault f) h c reads = reads_never bytes c h.0 h.1 f reads h.2 h.3 h.4

pub few_of : (bytes : List ℕ) (ss : List Statement) (line : ℕ) (names : List (List ℕ)) → names ≡ driven ss → Parses [] (tokens_of (snippets_of bytes)) ss (at (mark End) line ∷ []) → length names ≤ 65535
few_of bytes ss line names names_are h =
    let few = few_nets [] ss (parses_spells [] (tokens_of (snippets_of bytes)) ss line h).1 (omega arith) in
    omega (arith, ap length names_are, few)

pub front_fault : (bytes : List ℕ) (e : ReadError) → Fronts e (tokens_of (snippets_of bytes)) → IsFaulty bytes e
front_fault bytes errors.Memory h = tt
front_fault bytes (errors.Fault f) h = record { snippets = snippets_of bytes; cut = cutting_is bytes; fault = inl (front_first 1 1 (snippets_of bytes) h.0 h.1 f h.2 h.3 h.4) }

pub fault_of : (bytes : List ℕ) (ss given : List Statement) (line : ℕ) (names : List (List ℕ)) (r : Result Netlist ReadError) → names ≡ driven ss → given ≡ ss → Parses [] (tokens_of (snippets_of bytes)) ss (at (mark End) line ∷ []) →
    Gives (λ n. (n.drivers, n.outputs)) r (built names [] given) → IfErr r (λ e. IsFaulty bytes e)
fault_of bytes ss given line names (Ok n) names_are given_is h gives = tt
fault_of bytes ss given line names (Err errors.Memory) names_are given_is h gives = tt
fault_of bytes ss given line names (Err (errors.Fault f)) names_are given_is h gives =
    let e = ap (λ l. built l [] ss) (sym names_are) ∙ ap (built names []) (sym given_is) ∙ gives in
    let missing = built_missing (driven ss) ss [] f e in
    let spelled = parses_spells [] (tokens_of (snippets_of bytes)) ss line h in
    let only : OnlyUndriven (tokens_of (snippets_of bytes)) f = record {
      none = none_stands ss (tokens_of (snippets_of bytes)) spelled.0 spelled.1;
      statements = ss;
      spelled = all_weaker ss (tokens_of (snippets_of bytes)) spelled.0;
      first = record { before = missing.before; mention = missing.mention; after = missing.after; is = missing.is; earlier = missing.earlier; missing = missing.missing; fault = missing.fault };
    } in
    record { snippets = snippets_of bytes; cut = cutting_is bytes; fault = inr only }
