-- What the first shares made of a window, and one share more.
use Rattle.std.proofs.Common.{◌≡◌, ◌∙◌, ◌⊎◌, inl, inr, ℕ, suc, ◌*◌, ◌≤◌, true, false, List, [], length, get_or, sym, subst, arith}
use Rattle.std.specs.Prelude.{Contains}
use Rattle.std.proofs.lemmas.Bool.{cases_Bool, cases_eq, false≢true}
use Rattle.std.proofs.lemmas.List.Elements.{All-contains}
use Rattle.cmb_design_model.specs.Exact.{nets_of}
use Rattle.cmb_design_model.specs.Value.{value}
use Rattle.cmb_dump.specs.Shown.{IsShown}
use Rattle.cmb_words.specs.Changes.{IsStill, RisesWithin, TellsNet, is_among}
use Rattle.cmb_words.specs.declared.changed.Changed.{Changed}
use Rattle.cmb_shares.specs.Inner.Flows.{AreGathered, AreMade, IsMade}
use Rattle.cmb_shares.specs.Inner.Gatherings.{Adds, AreTaken, Holds, IsBlank, Table, has}
use Rattle.cmb_shares.specs.Inner.Messages.{AreTold}
use Rattle.cmb_shares.specs.Inner.Runs.{IsRun, Run}
use Rattle.cmb_shares.proofs.HeardFacts.{neither}
use Rattle.cmb_shares.proofs.RisingFacts.{rises-within}

-- ---- no share made anything

pub made-none : (run : Run) (from upto : ℕ) (table : Table) → IsBlank (nets_of run.design) table → AreGathered run 0 from upto table
made-none run from upto table is = record {
  nets = is.nets;
  words = λ one holds. absurd (false≢true (sym (is.none one.net) ∙ holds.marked));
  others = λ net made shown none. absurd (omega (arith, made.1));
}

-- ---- one share more, which tells the text

pub made-more : (run : Run) (made reader from upto : ℕ) (own : List Changed) (old new : Table) → length run.driven ≤ reader → AreGathered run made from upto old → AreTold run made reader from upto own → Adds own old new
    → AreGathered run (suc made) from upto new
made-more run made reader from upto own old new text before told added = record {
  nets = added.len ∙ before.nets;
  words = λ one holds. word one (added.each one holds);
  others = λ net is shown none. let both = neither (is_among net own) (has old net) (sym (added.marked net) ∙ none) in still net is shown both.0 both.1 (cases_eq (get_or run.owners net 0) made);
}
  where
    word : (one : Changed) → Holds old one ⊎ Contains own one → TellsNet (value run.design) from upto one
    word one (inl h) = before.words one h
    word one (inr h) = All-contains (TellsNet (value run.design) from upto) own one told.words h

    still : (net : ℕ) → IsMade run (suc made) net → IsShown run.shown net → is_among net own ≡ false → has old net ≡ false → (get_or run.owners net 0 ≡ made) ⊎ (get_or run.owners net 0 ≡ made → ⊥) → IsStill (value run.design net) from upto
    still net is shown here there (inl e) = told.others net (is.0, e) ((λ share. absurd (omega (arith, share, text))), (λ _. shown)) here
    still net is shown here there (inr n) = before.others net (is.0, omega (arith, is.1, n)) shown there

pub made-as : (run : Run) (made made' from from' upto upto' : ℕ) (table : Table) → made ≡ made' → from ≡ from' → upto ≡ upto' → AreGathered run made from upto table → AreGathered run made' from' upto' table
made-as run made made' from from' upto upto' table m f u is =
    subst (λ n. AreGathered run n from' upto' table) m (subst (λ n. AreGathered run made n upto' table) f (subst (λ n. AreGathered run made from n table) u is))

-- ---- what they made is taken out of the table

pub made-taken : (run : Run) (made from upto : ℕ) (table : Table) (changes : List Changed) → IsRun run → AreGathered run made from upto table → AreTaken table (length table.words) changes → AreMade run made from upto changes
made-taken run made from upto table changes is are taken = record {
  rises = subst (λ n. RisesWithin 0 n changes) are.nets taken.rises;
  words = λ k d h. are.words (get_or changes k d) (taken.each k d h);
  others = λ net mine shown none. are.others net mine shown (unmarked net mine none (cases_Bool (has table net)));
}
  where
    unmarked : (net : ℕ) → IsMade run made net → is_among net changes ≡ false → (has table net ≡ true) ⊎ (has table net ≡ false) → has table net ≡ false
    unmarked net mine none (inl e) = absurd (false≢true (sym none ∙ taken.whole net (omega (arith, mine.0, is.nets, are.nets)) e))
    unmarked net mine none (inr e) = e

-- what some shares made, fewer made
pub made-fewer : (run : Run) (fewer made from upto : ℕ) (table : Table) → fewer ≤ made → AreGathered run made from upto table → AreGathered run fewer from upto table
made-fewer run fewer made from upto table less is = record {
  nets = is.nets;
  words = is.words;
  others = λ net mine. is.others net (mine.0, omega (arith, mine.1, less));
}

-- nothing is taken yet
pub taken-none : (table : Table) (changes : List Changed) → changes ≡ [] → AreTaken table (64 * 0) changes
taken-none table changes none = subst (λ (l : List Changed). AreTaken table (64 * 0) l) (sym none) (record {
  rises = tt;
  each = λ k d h. absurd (omega (arith, h));
  whole = λ net below. absurd (omega (arith, below));
})

-- the one share made what it tells the text
pub made-alone : (run : Run) (from upto : ℕ) (changes : List Changed) → length run.driven ≡ 1 → AreTold run 0 (length run.driven) from upto changes → AreMade run (length run.driven) from upto changes
made-alone run from upto changes one told = record {
  rises = rises-within (nets_of run.design) changes (told.rises (omega arith)) told.within;
  words = told.words;
  others = λ net made shown none. told.others net (made.0, omega (arith, made.1, one)) ((λ share. absurd (omega (arith, share))), (λ _. shown)) none;
}
