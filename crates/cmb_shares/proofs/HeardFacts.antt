-- What a share hears of a window.
use Rattle.std.proofs.Common.{◌≡◌, ◌∙◌, ◌⊎◌, inl, inr, ℕ, ◌+◌, ◌<◌, ◌≤◌, ◌||◌, Bool, true, false, List, [], ◌∷◌, ◌++◌, length, get_or, map, set, take, ap, refl, sym, subst, arith}
use Rattle.std.specs.Prelude.{Contains}
use Rattle.std.proofs.lemmas.Bool.{false≢true}
use Rattle.std.proofs.lemmas.List.{get_or-map, get_or_past, length-map, map-set, set-get_or, take_more}
use Rattle.std.proofs.lemmas.List.Elements.{All-append, All-contains, All-nil, Contains-push_cases}
use Rattle.std.proofs.lemmas.List.Folds.{list_any-append}
use Rattle.std.proofs.lemmas.Bool.{cases_lt}
use Rattle.cmb_design_model.specs.Value.{value}
use Rattle.cmb_engine.specs.Shares.{IsGiven, TellsThose}
use Rattle.cmb_words.specs.Changes.{IsStill, TellsNet, is_among}
use Rattle.cmb_words.specs.declared.changed.Changed.{Changed}
use Rattle.cmb_shares.specs.declared.message.Envelope.{Envelope}
use Rattle.cmb_shares.specs.Inner.Messages.{AreTold, IsMessage}
use Rattle.cmb_shares.specs.Inner.Runs.{IsRun, Owns, Reads, Run, driven_by}
use Rattle.cmb_shares.specs.Inner.Stations.{AreHeardOf, Covers, readers_of, senders_of}

-- a mark that is set stands within its list
pub set_within : (marks : List Bool) (net : ℕ) → get_or marks net false ≡ true → net < length marks
set_within marks net is = by (cases_lt net (length marks))
  where
    by : (net < length marks) ⊎ (length marks ≤ net) → net < length marks
    by (inl l) = l
    by (inr g) = absurd (false≢true (sym (get_or_past marks net false g) ∙ is))

pub neither : (a b : Bool) → (a || b) ≡ false → (a ≡ false) × (b ≡ false)
neither true b e = absurd (false≢true (sym e))
neither false b e = (refl, e)

module _ (run : Run) (reader from upto : ℕ) where
  pub heard-none : AreHeardOf run reader from upto [] []
  heard-none = record {
    words = All-nil (TellsNet (value run.design) from upto);
    others = λ sender net there. absurd (omega (arith, there.1));
  }

  -- what one sender more tells
  pub heard-more : (senders : List ℕ) (given : List Changed) (sender : ℕ) (changes : List Changed) → AreHeardOf run reader from upto senders given → AreTold run sender reader from upto changes
      → AreHeardOf run reader from upto (senders ++ sender ∷ []) (given ++ changes)
  heard-more senders given sender changes heard told = record {
    words = All-append (TellsNet (value run.design) from upto) given changes heard.words told.words;
    others = λ other net there own reads none.
        let both = neither (is_among net given) (is_among net changes) (sym (list_any-append _ given changes) ∙ none) in
        by other net own reads both.0 both.1 (Contains-push_cases senders sender other there);
  }
    where
      by : (other net : ℕ) → Owns run other net → Reads run reader net → is_among net given ≡ false → is_among net changes ≡ false → Contains senders other ⊎ (sender ≡ other)
          → IsStill (value run.design net) from upto
      by other net own reads before here (inl h) = heard.others other net h own reads before
      by other net own reads before here (inr e) = told.others net (subst (λ n. Owns run n net) (sym e) own) reads here

-- a message by what its envelope says
pub told-as : (run : Run) (e : Envelope) (sender reader from upto : ℕ) (changes : List Changed) → e.sender ≡ sender → e.reader ≡ reader → e.from ≡ from → e.upto ≡ upto
    → IsMessage run e changes → AreTold run sender reader from upto changes
told-as run e sender reader from upto changes s r f u is =
    subst (λ n. AreTold run n reader from upto changes) s
    (subst (λ n. AreTold run e.sender n from upto changes) r
    (subst (λ n. AreTold run e.sender e.reader n upto changes) f
    (subst (λ n. AreTold run e.sender e.reader e.from n changes) u is)))

-- what a share is given of a window is what the owners tell it
pub heard-given : (run : Run) (number from upto : ℕ) (senders : List ℕ) (given : List Changed) → IsRun run → number < length run.driven → Covers run number senders
    → AreHeardOf run number from upto senders given → TellsThose (IsGiven run.design (driven_by run number)) (value run.design) from upto given
heard-given run number from upto senders given is within covers heard = record {
  words = λ one there _. All-contains (TellsNet (value run.design) from upto) given one heard.words there;
  others = λ net asked none.
      let crosses = is.known number net within asked in
      let inside = set_within run.crossing net crosses.0 in
      heard.others (get_or run.owners net 0) net (covers net asked) (omega (arith, inside, is.crossed), refl) ((λ _. asked), (λ text. absurd (omega (arith, within, text)))) none;
}

-- ---- who tells

-- a message of the same sender leaves the senders as they are, and one to the same reader the readers
same-set : (f : Envelope → ℕ) (channels : List Envelope) (place : ℕ) (next : Envelope) → f next ≡ f (get_or channels place next) → map f (set channels place next) ≡ map f channels
same-set f channels place next same =
    map-set f channels place next ∙ ap (λ n. set (map f channels) place n) same
    ∙ sym (map-set f channels place (get_or channels place next)) ∙ ap (map f) (set-get_or channels place next)

pub senders-set : (inlets : List Envelope) (place : ℕ) (next : Envelope) → next.sender ≡ (get_or inlets place next).sender → senders_of (set inlets place next) ≡ senders_of inlets
senders-set = same-set (λ e. e.sender)

pub readers-set : (feeds : List Envelope) (place : ℕ) (next : Envelope) → next.reader ≡ (get_or feeds place next).reader → readers_of (set feeds place next) ≡ readers_of feeds
readers-set = same-set (λ e. e.reader)

-- the first senders, and one more
pub senders-more : (inlets : List Envelope) (place : ℕ) (d : Envelope) → place < length inlets
    → take (place + 1) (senders_of inlets) ≡ take place (senders_of inlets) ++ (get_or inlets place d).sender ∷ []
senders-more inlets place d within =
    let f : Envelope → ℕ = λ e. e.sender in
    take_more (map f inlets) place (f d) (omega (arith, within, length-map inlets f)) ∙ ap (λ n. take place (map f inlets) ++ n ∷ []) (get_or-map f inlets place d (f d) within)
