-- What a longest run at the front of the bytes is, and the first snippet and the first token of a text.
use Rattle.std.proofs.Common.{◌≡◌, ℕ, ◌+◌, ◌<◌, ◌≤◌, List, [], ◌∷◌, true, false, length, get_or, take, drop, refl, sym, ap, ◌∙◌, arith, nat_eq, add-zero, Bool}
use Rattle.std.proofs.lemmas.Bool.{eqb-true}
use Rattle.std.specs.Prelude.{if◌then◌else◌, zero, suc}
use Rattle.cmb_bench.specs.declared.text.Class.{Class}
use Rattle.cmb_bench.specs.declared.text.Class.TheVariants.{White, Comment, Open, Close, Comma, Equals, Name, Bad, End}
use Rattle.cmb_bench.specs.Text.{class_of, continues, is_token, line_feeds, tokens_from, word_of}
use Rattle.cmb_bench.specs.Inner.Snippet.{BeginsToken, front, snippets_after, snippets_of}
use mir.Val.{bool_byte}

-- the first n bytes go on a snippet of this class, and no more
pub record IsRun (class : Class) (bytes : List ℕ) (n : ℕ) : Type 0 where
  pub within : n ≤ length bytes
  pub before : (k : ℕ) → k < n → continues class (get_or bytes k 0) ≡ true
  pub stops : n < length bytes → continues class (get_or bytes n 0) ≡ false

pub tail_run : (class : Class) (b : ℕ) (bs : List ℕ) (n : ℕ) → IsRun class (b ∷ bs) (suc n) → IsRun class bs n
tail_run class b bs n run = record {
  within = omega (arith, run.within);
  before = λ k h. run.before (suc k) (omega arith);
  stops = λ h. run.stops (omega arith);
}

pub front_at : (class : Class) (bytes : List ℕ) (n : ℕ) → IsRun class bytes n → front class bytes ≡ take n bytes
front_at class [] zero run = refl
front_at class [] (suc n) run = absurd (omega (arith, run.within))
front_at class (b ∷ bs) zero run = rw (run.stops (omega arith)) refl
front_at class (b ∷ bs) (suc n) run = let h : continues class b ≡ true = run.before 0 (omega arith) in rw h (ap (λ l. b ∷ l) (front_at class bs n (tail_run class b bs n run)))

pub snippets_at : (class : Class) (bytes : List ℕ) (n : ℕ) → IsRun class bytes n → snippets_after class bytes ≡ snippets_of (drop n bytes)
snippets_at class [] zero run = refl
snippets_at class [] (suc n) run = absurd (omega (arith, run.within))
snippets_at class (b ∷ bs) zero run = rw (run.stops (omega arith)) refl
snippets_at class (b ∷ bs) (suc n) run = let h : continues class b ≡ true = run.before 0 (omega arith) in rw h (snippets_at class bs n (tail_run class b bs n run))

-- no snippet goes on with a line feed
pub no_feed : (class : Class) → continues class 10 ≡ false
no_feed class = elim class as (λ c. continues c 10 ≡ false) [ White ↦ refl | Comment ↦ refl | Open ↦ refl | Close ↦ refl | Comma ↦ refl | Equals ↦ refl | Name ↦ refl | Bad ↦ refl | End ↦ refl ]

pub not_feed : (b : ℕ) (class : Class) → continues class b ≡ true → nat_eq b 10 ≡ false
not_feed b class goes = elim (nat_eq b 10) as (λ v. nat_eq b 10 ≡ v → v ≡ false) [ true ↦ λ e. sym goes ∙ ap (continues class) (eqb-true b 10 e) ∙ no_feed class | false ↦ λ e. refl ] refl

pub no_feeds : (class : Class) (bytes : List ℕ) → line_feeds (front class bytes) ≡ 0
no_feeds class [] = refl
no_feeds class (b ∷ bs) = elim (continues class b) as (λ v. continues class b ≡ v → line_feeds (if v then b ∷ front class bs else []) ≡ 0) [ true ↦ λ e. rw (not_feed b class e) (rw (no_feeds class bs) refl) | false ↦ λ e. refl ] refl

-- the first snippet of a text that isn't empty
pub first_snippet : (b : ℕ) (after : List ℕ) (n : ℕ) → IsRun (class_of b) after n →
    snippets_of (b ∷ after) ≡ record { class = class_of b; bytes = take (1 + n) (b ∷ after) } ∷ snippets_of (drop (1 + n) (b ∷ after))
first_snippet b after n run =
    let one : 1 + n ≡ suc n = omega arith in
    rw one (rw (front_at _ after n run, snippets_at _ after n run) refl)

pub feeds_of : (b : ℕ) (after : List ℕ) (n : ℕ) → IsRun (class_of b) after n →
    line_feeds (take (1 + n) (b ∷ after)) ≡ (if nat_eq b 10 then 1 else 0)
feeds_of b after n run =
    let one : 1 + n ≡ suc n = omega arith in
    let none : line_feeds (take n after) ≡ 0 = ap line_feeds (sym (front_at _ after n run)) ∙ no_feeds (class_of b) after in
    rw one (rw none (add-zero _))

-- a run of no bytes
pub no_run : (class : Class) (bytes : List ℕ) → ((b : ℕ) → continues class b ≡ false) → IsRun class bytes 0
no_run class bytes alone = record { within = omega arith; before = λ k h. absurd (omega (arith, h)); stops = λ h. alone _ }

-- a token that isn't a name is one byte
alone : (class : Class) → is_token class ≡ true → (class ≡ Name → ⊥) → (b : ℕ) → continues class b ≡ false
alone class = elim class as (λ c. is_token c ≡ true → (c ≡ Name → ⊥) → (b : ℕ) → continues c b ≡ false) [ White ↦ λ t n b. refl | Comment ↦ λ t n b. absurd cc | Open ↦ λ t n b. refl | Close ↦ λ t n b. refl | Comma ↦ λ t n b. refl | Equals ↦ λ t n b. refl | Name ↦ λ t n b. absurd (n refl) | Bad ↦ λ t n b. refl | End ↦ λ t n b. refl ]

-- only white begins with a line feed
feed_free : (b : ℕ) → (class_of b ≡ White → ⊥) → nat_eq b 10 ≡ false
feed_free b dark = elim (nat_eq b 10) as (λ v. nat_eq b 10 ≡ v → v ≡ false) [ true ↦ λ e. absurd (dark (ap class_of (eqb-true b 10 e))) | false ↦ λ e. refl ] refl

byte_of : (v : Bool) → bool_byte v ≡ (if v then 1 else 0)
byte_of true = refl
byte_of false = refl

-- the tokens of a text that begins with a white byte
pub behind_white : (line last b feeds : ℕ) (bytes after : List ℕ) → bytes ≡ b ∷ after → class_of b ≡ White → feeds ≡ bool_byte (nat_eq b 10) →
    tokens_from line last (snippets_of bytes) ≡ tokens_from (line + feeds) last (snippets_of after)
behind_white line last b feeds bytes after whole white is =
    let run : IsRun (class_of b) after 0 = rw white (no_run White after (λ x. refl)) in
    ap (λ l. tokens_from line last (snippets_of l)) whole ∙ ap (tokens_from line last) (first_snippet b after 0 run) ∙ rw white (rw (is, byte_of (nat_eq b 10), feeds_of b after 0 run) refl)

-- the tokens of a text that begins with a comment
pub behind_comment : (line last b : ℕ) (bytes after : List ℕ) (n : ℕ) → bytes ≡ b ∷ after → class_of b ≡ Comment → IsRun Comment after n →
    tokens_from line last (snippets_of bytes) ≡ tokens_from (line + 0) last (snippets_of (drop n after))
behind_comment line last b bytes after n whole comment run =
    let one : 1 + n ≡ suc n = omega arith in
    let from : IsRun (class_of b) after n = rw comment run in
    let free : nat_eq b 10 ≡ false = feed_free b (λ e. absurd cc) in
    ap (λ l. tokens_from line last (snippets_of l)) whole ∙ ap (tokens_from line last) (first_snippet b after n from) ∙ rw comment (rw (feeds_of b after n from, free, one) refl)

-- the tokens of a text that begins with one
pub first_token : (line last b : ℕ) (bytes after : List ℕ) (class : Class) (n : ℕ) → bytes ≡ b ∷ after → class ≡ class_of b → BeginsToken bytes → IsRun class after n →
    tokens_from line last (snippets_of bytes) ≡ record { word = word_of class (take (1 + n) bytes); line = line } ∷ tokens_from line line (snippets_of (drop (1 + n) bytes))
first_token line last b bytes after class n whole is begins run =
    let from : IsRun (class_of b) after n = rw (sym is) run in
    let is_one : is_token (class_of b) ≡ true = rw whole at begins in
    let free : nat_eq b 10 ≡ false = feed_free b (λ e. let clash : true ≡ false = sym is_one ∙ ap is_token e in absurd cc) in
    rw (whole, is) (ap (tokens_from line last) (first_snippet b after n from) ∙ rw is_one (rw (feeds_of b after n from, free, add-zero line) refl))

-- the same of a token that isn't a name
pub first_mark : (line last b : ℕ) (bytes after : List ℕ) (class : Class) → bytes ≡ b ∷ after → class ≡ class_of b → BeginsToken bytes → (class ≡ Name → ⊥) →
    tokens_from line last (snippets_of bytes) ≡ record { word = word_of class (take 1 bytes); line = line } ∷ tokens_from line line (snippets_of (drop 1 bytes))
first_mark line last b bytes after class whole is begins no_name =
    let token : is_token class ≡ true = rw is (rw whole at begins) in
    first_token line last b bytes after class 0 whole is begins (no_run class after (alone class token no_name))
