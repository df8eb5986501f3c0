-- What a share tells of its nets.
use Rattle.std.proofs.Common.{◌≡◌, ◌∙◌, ℕ, ◌<◌, ◌==◌, ◌||◌, Bool, true, false, nat_lt, List, [], ◌∷◌, cond, length, get_or, ap, refl, sym, subst, arith}
use Rattle.std.specs.Result.{is_err}
use Rattle.std.specs.Prelude.{All, Contains, OnOk, Result, Ok, Err, filter}
use Rattle.std.proofs.lemmas.Bool.{and_from, and_parts, eq-eqb, eqb-true, false≢true, lt-ltb, ltb-true, not_from_false}
use Rattle.std.proofs.lemmas.List.Elements.{All-cons, All-contains, All-filter, All-nil, Contains-get_or}
use Rattle.cmb_design_model.specs.Exact.{nets_of}
use Rattle.cmb_design_model.specs.Value.{value}
use Rattle.cmb_engine.specs.Shares.{IsDriven, IsOwed, TellsAll, TellsThose}
use Rattle.cmb_words.specs.Changes.{IsStill, RisesWithin, TellsNet, is_among}
use Rattle.cmb_words.specs.declared.changed.Changed.{Changed}
use Rattle.cmb_words.proofs.Rising.{rises_at}
use Rattle.cmb_words.proofs.StillFacts.{still-empty}
use Rattle.cmb_shares.proofs.RisingFacts.{rise-of}
use Rattle.cmb_shares.specs.declared.simulator.Simulator.{Simulator}
use Rattle.cmb_shares.specs.Inner.Messages.{AreTold}
use Rattle.cmb_shares.specs.Inner.Runs.{IsRun, Owns, Reads, Run, driven_by}
use Rattle.cmb_shares.specs.Inner.Simulators.{IsSimulator, is_fed, is_owned}

-- what holds where all went well, of two such facts
pub on_ok_two : {T E P Q S : Type 0} (r : Result T E) → (P → Q → S) → OnOk r P → OnOk r Q → OnOk r S
on_ok_two (Ok x) both p q = both p q
on_ok_two (Err e) both p q = tt

-- where no error came, all went well
pub on_ok_gives : {T E P : Type 0} (r : Result T E) → is_err r ≡ false → OnOk r P → P
on_ok_gives (Ok x) fine p = p
on_ok_gives (Err e) fine p = absurd (false≢true (sym fine))

-- ---- those that pass a test

module _ (p : Changed → Bool) where
  passes : (xs : List Changed) → All (λ x. p x ≡ true) (filter p xs)
  passes [] = All-nil (λ x. p x ≡ true)
  passes (x ∷ xs) = by (p x) refl (passes xs)
    where
      by : (b : Bool) → p x ≡ b → All (λ y. p y ≡ true) (filter p xs) → All (λ y. p y ≡ true) (cond b (x ∷ filter p xs) (filter p xs))
      by true e later = All-cons (λ y. p y ≡ true) x (filter p xs) e later
      by false e later = later

  -- a net all of whose words pass is among them just where it is among all
  among-filter : (net : ℕ) → ((x : Changed) → (x.net == net) ≡ true → p x ≡ true) → (xs : List Changed) → is_among net (filter p xs) ≡ is_among net xs
  among-filter net fits [] = refl
  among-filter net fits (x ∷ xs) = by (p x) refl (among-filter net fits xs)
    where
      none : (b : Bool) → (x.net == net) ≡ b → p x ≡ false → is_among net xs ≡ ((x.net == net) || is_among net xs)
      none true q e = absurd (false≢true (sym e ∙ fits x q))
      none false q e = ap (λ b. b || is_among net xs) (sym q)

      by : (b : Bool) → p x ≡ b → is_among net (filter p xs) ≡ is_among net xs → is_among net (cond b (x ∷ filter p xs) (filter p xs)) ≡ is_among net (x ∷ xs)
      by true e later = ap (λ b. (x.net == net) || b) later
      by false e later = later ∙ none (x.net == net) refl e

-- ---- those that a share owns, and a reader reads

owned-owns : (run : Run) (number : ℕ) (one : Changed) → is_owned run.owners number one ≡ true → Owns run number one.net
owned-owns run number one e =
    let both = and_parts (nat_lt one.net (length run.owners)) (get_or run.owners one.net 0 == number) e in
    (ltb-true _ _ both.0, eqb-true _ _ both.1)

owns-owned : (run : Run) (number : ℕ) (one : Changed) → Owns run number one.net → is_owned run.owners number one ≡ true
owns-owned run number one own = and_from _ _ (lt-ltb _ _ own.0) (eq-eqb _ _ own.1)

-- a test that only nets that the share owns pass, and of those each that is read
module _ (run : Run) (number reader from upto : ℕ) (changed : List Changed) (p : Changed → Bool) (sound : (x : Changed) → p x ≡ true → Owns run number x.net)
    (whole : (x : Changed) → Owns run number x.net → Reads run reader x.net → p x ≡ true)
    (words : (one : Changed) → Contains changed one → Owns run number one.net → TellsNet (value run.design) from upto one)
    (others : (net : ℕ) → Owns run number net → Reads run reader net → is_among net changed ≡ false → IsStill (value run.design net) from upto)
    (is : IsRun run) (share : reader < length run.driven) where
  abbrev IsTold : Changed → Type 0
  IsTold one = Owns run number one.net → TellsNet (value run.design) from upto one

  all : All IsTold changed
  all = λ k d h own. words (get_or changed k d) (Contains-get_or changed k d h) own

  mine : (k : ℕ) (d : Changed) → k < length (filter p changed) → Owns run number (get_or (filter p changed) k d).net
  mine k d h = sound (get_or (filter p changed) k d) (passes p changed k d h)

  fits : (net : ℕ) → Owns run number net → Reads run reader net → (x : Changed) → (x.net == net) ≡ true → p x ≡ true
  fits net own reads x e =
      let same : x.net ≡ net = eqb-true _ _ e in
      whole x (subst (Owns run number) (sym same) own) (subst (Reads run reader) (sym same) reads)

  told-filter : AreTold run number reader from upto (filter p changed)
  told-filter = record {
    within = λ k d h. omega (arith, is.nets, (mine k d h).0);
    rises = λ text. absurd (omega (arith, share, text));
    among = λ share k d h. mine k d h;
    words = λ k d h. All-filter p IsTold changed all k d h (mine k d h);
    others = λ net own reads none. others net own reads (sym (among-filter p net (fits net own reads) changed) ∙ none);
  }

-- what its engine tells, to the text
pub told-owned : (run : Run) (s : Simulator) (changed : List Changed) (upto : ℕ) → IsSimulator run s → TellsAll (IsOwed s.engine) (value run.design) s.engine.clock upto changed
    → RisesWithin 0 (nets_of run.design) changed → AreTold run s.number (length run.driven) s.engine.clock upto changed
told-owned run s changed upto is tells rises = record {
  within = λ k d small. rises_at 0 (nets_of run.design) changed k d rises small;
  rises = λ _. rise-of 0 (nets_of run.design) changed rises;
  among = λ share. absurd (omega (arith, share));
  words = tells.words;
  others = λ net own reads none. tells.others net (subst (λ (driven : List Bool). IsDriven driven net) (sym is.driven) (is.lawful.owned s.number net is.number own), is.told net own (reads.1 (omega arith))) none;
}

-- what was told ahead of it, to a share
pub told-fed : (run : Run) (s : Simulator) (reader from upto : ℕ) (told : List Changed) → IsSimulator run s → reader < length run.driven
    → All (λ one. Contains s.engine.exports one.net) told → TellsThose (Contains s.engine.exports) (value run.design) from upto told
    → AreTold run s.number reader from upto (filter (is_fed run.owners s.number (driven_by run reader)) told)
told-fed run s reader from upto told is within only tells =
    told-filter run s.number reader from upto told (is_fed run.owners s.number (driven_by run reader))
    (λ x e. owned-owns run s.number x (and_parts _ _ e).0)
    (λ x own reads. and_from _ _ (owns-owned run s.number x own) (not_from_false _ (reads.0 within).undriven))
    (λ one there own. tells.words one there (All-contains (λ (c : Changed). Contains s.engine.exports c.net) told one only there))
    (λ net own reads none. tells.others net ((is.exports net).1 (is.lawful.owned s.number net is.number own, is.lawful.known reader net within (reads.0 within))) none)
    is.lawful within

-- of no tick nothing is told
pub told-nothing : (run : Run) (sender reader tick : ℕ) (changes : List Changed) → changes ≡ [] → AreTold run sender reader tick tick changes
told-nothing run sender reader tick changes none =
    subst (AreTold run sender reader tick tick) (sym none)
    (record {
      within = λ k d small. absurd (omega (arith, small));
      rises = λ _ j k d l small. absurd (omega (arith, small));
      among = λ share k d small. absurd (omega (arith, small));
      words = λ k d small. absurd (omega (arith, small));
      others = λ net owned read missing. still-empty (value run.design net) tick tick (omega arith);
    })
