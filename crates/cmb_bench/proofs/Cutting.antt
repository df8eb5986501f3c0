-- Each text has one cutting.
use Rattle.std.proofs.Common.{◌≡◌, ℕ, List, [], ◌∷◌, ◌++◌, true, false, refl, sym, ap, ◌∙◌, subst}
use Rattle.std.specs.Prelude.{if◌then◌else◌}
use Rattle.std.specs.List.{AllByRecursion}
use Rattle.cmb_bench.specs.declared.text.Class.{Class}
use Rattle.cmb_bench.specs.declared.text.Class.TheVariants.{White}
use Rattle.cmb_bench.specs.Text.{class_of, continues, Snippet, StopsBefore, IsSnippet, IsCutting}
use Rattle.cmb_bench.specs.Inner.Snippet.{front, snippets_after, snippets_of}

-- what is left behind the bytes that go on a snippet of this class
abbrev tail_of : Class → List ℕ → List ℕ
tail_of class [] = []
tail_of class (b ∷ bs) = if continues class b then tail_of class bs else b ∷ bs

split : (class : Class) (bs : List ℕ) → bs ≡ front class bs ++ tail_of class bs
split class [] = refl
split class (b ∷ bs) = elim (continues class b) as (λ v. b ∷ bs ≡ (if v then b ∷ front class bs else []) ++ (if v then tail_of class bs else b ∷ bs)) [ true ↦ ap (λ l. b ∷ l) (split class bs) | false ↦ refl ]

all_front : (class : Class) (bs : List ℕ) → AllByRecursion (λ x. continues class x ≡ true) (front class bs)
all_front class [] = tt
all_front class (b ∷ bs) = elim (continues class b) as (λ v. continues class b ≡ v → AllByRecursion (λ x. continues class x ≡ true) (if v then b ∷ front class bs else [])) [ true ↦ λ e. (e, all_front class bs) | false ↦ λ e. tt ] refl

tail_stops : (class : Class) (bs : List ℕ) → StopsBefore class (tail_of class bs)
tail_stops class [] = tt
tail_stops class (b ∷ bs) = elim (continues class b) as (λ v. continues class b ≡ v → StopsBefore class (if v then tail_of class bs else b ∷ bs)) [ true ↦ λ e. tail_stops class bs | false ↦ λ e. e ] refl

cuts : (class : Class) (bs : List ℕ) → IsCutting (tail_of class bs) (snippets_after class bs)
cuts class [] = refl
cuts class (b ∷ bs) = elim (continues class b) as (λ v. IsCutting (if v then tail_of class bs else b ∷ bs) (if v then snippets_after class bs else record { class = class_of b; bytes = b ∷ front (class_of b) bs } ∷ snippets_after (class_of b) bs)) [ true ↦ cuts class bs | false ↦ (tail_of (class_of b) bs, ap (λ l. b ∷ l) (split (class_of b) bs), (refl, all_front (class_of b) bs, tail_stops (class_of b) bs), cuts (class_of b) bs) ]

white_tail : (bs : List ℕ) → tail_of White bs ≡ bs
white_tail [] = refl
white_tail (b ∷ bs) = refl

pub cutting_is : (bytes : List ℕ) → IsCutting bytes (snippets_of bytes)
cutting_is bytes = subst (λ l. IsCutting l (snippets_of bytes)) (white_tail bytes) (cuts White bytes)

run_front : (class : Class) (bs rest : List ℕ) → AllByRecursion (λ x. continues class x ≡ true) bs → StopsBefore class rest → front class (bs ++ rest) ≡ bs
run_front class [] [] all stops = refl
run_front class [] (r ∷ rest) all stops = rw stops refl
run_front class (b ∷ bs) rest all stops = rw all.0 (ap (λ l. b ∷ l) (run_front class bs rest all.1 stops))

run_snippets : (class : Class) (bs rest : List ℕ) → AllByRecursion (λ x. continues class x ≡ true) bs → StopsBefore class rest → snippets_after class (bs ++ rest) ≡ snippets_of rest
run_snippets class [] [] all stops = refl
run_snippets class [] (r ∷ rest) all stops = rw stops refl
run_snippets class (b ∷ bs) rest all stops = rw all.0 (run_snippets class bs rest all.1 stops)

one_snippet : (class : Class) (bytes rest : List ℕ) → IsSnippet class bytes rest → snippets_of (bytes ++ rest) ≡ record { class = class; bytes = bytes } ∷ snippets_of rest
one_snippet class [] rest h = absurd h
one_snippet class (b ∷ bs) rest h = subst (λ c. AllByRecursion (λ x. continues c x ≡ true) bs → StopsBefore c rest → snippets_of (b ∷ (bs ++ rest)) ≡ record { class = c; bytes = b ∷ bs } ∷ snippets_of rest) h.0
    (λ all stops. rw (run_front (class_of b) bs rest all stops, run_snippets (class_of b) bs rest all stops) refl) h.1 h.2

pub cutting_unique : (bytes : List ℕ) (ps : List Snippet) → IsCutting bytes ps → ps ≡ snippets_of bytes
cutting_unique bytes [] h = sym (ap snippets_of h)
cutting_unique bytes (p ∷ ps) h = ap (λ l. p ∷ l) (cutting_unique h.0 ps h.3) ∙ sym (ap snippets_of h.1 ∙ one_snippet p.class p.bytes h.0 h.2)
