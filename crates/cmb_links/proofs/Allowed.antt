-- What a seat may do to a word of its board.
use Rattle.std.proofs.Common.{◌≡◌, ℕ, ◌+◌, ◌%◌, ◌^◌, ◌<◌, ◌≤◌, ◌==◌, false, List, [], ◌∷◌, slice_index, set, sym, refl, ap, ◌∙◌, subst, arith}
use mathlib.Core.Option.{none, some}
use lib.ListN.{get_elem?}
use Rattle.atomic_table.specs.Table.{State, Me, Act, step, keeps, stepped, carried_after, Valid, Allows}
use Rattle.cmb_wave.specs.Calls.{word_of}
use Rattle.cmb_wave.specs.declared.level.Promise.{Promise}
use Rattle.cmb_design_model.specs.Design.{Design}
use Rattle.cmb_design_model.specs.Exact.{nets_of, IsRightIn}
use Rattle.cmb_links.specs.Promises.{promise_of_word, newest}
use Rattle.cmb_links.specs.Seats.{driver, after_publish, after_look, after_raise, after_check, after_finish, after_count}
use Rattle.cmb_links.specs.Inner.BoardSteps.{only, joined}
use Rattle.cmb_links.specs.Boards.{IsBoard}
use Rattle.cmb_links.specs.Inner.BoardSteps.{seats_of}
use Rattle.cmb_links.specs.Inner.BoardSteps.{Leaves, Publishes, Looks, Raises, Checks, Finishes, Counts}
use Rattle.cmb_links.specs.declared.view.BoardRun.{BoardRun}
use Rattle.cmb_links.specs.declared.view.View.{View}
use Rattle.cmb_links.proofs.Joined.{place_of, at_joined, joined-set}
use Rattle.cmb_links.proofs.Newest.{promise_of_word-word_of}
use Rattle.cmb_links.proofs.Steps.{Stays, tells, publishes_kept, looks_kept, raises_kept, checks_kept, finishes_kept, counts_kept}

-- the words with what the table keeps for each seat, and a seat's part of it
abbrev pub S : Type 0
S = State (Unit {0}) (List View)

abbrev pub M : Type 0
M = Me (Unit {0}) (List View)

-- the rule of the table of a board
abbrev pub Law : BoardRun → S → Type 0
Law t s = IsBoard t (seats_of s)

-- a seat with one view
abbrev pub IsOne : M → Type 0
IsOne me = me.0 ≡ only me.0 ∷ []

module _ (t : BoardRun) (s : S) (id : ℕ) (me : M) (one : IsOne me) (at : get_elem? s.views id ≡ some me.0) where
  -- its view stands in its place
  pub seated : get_elem? (joined s.views) (place_of s.views id) ≡ some (only me.0)
  seated = at_joined s.views id (only me.0) [] (at ∙ ap some one)

  -- what a step leaves of the board, it leaves of the table
  pub settled : (k x : ℕ) (w : View) → IsBoard t (stepped (seats_of s) k x (place_of s.views id) [] w keeps) → Law t (stepped s k x id me.1 (w ∷ []) keeps)
  settled k x w after = subst (λ (vs : List View). IsBoard t record { words = set s.words k x; homes = s.homes; views = vs })
      (sym (joined-set s.views id (only me.0) w (at ∙ ap some one))) after

pub publish_allowed : (t : BoardRun) (slots id : ℕ) (me : M) (p : Promise) → IsOne me → driver (only me.0).board_run p.net ≡ (only me.0).place → IsRightIn (only me.0).board_run.design p
    → p.upto < 2 ^ 32 → (newest p.net (only me.0).promised.published).upto ≤ p.upto
    → Allows (Law t) slots id me p.net (λ _. word_of p) (λ _. Publishes (step slots p.net (word_of p) 0 none) me (word_of p))
publish_allowed t slots id me p one drives right fits rises s kept _ at _ =
    let v : View = only me.0 in let f = seats_of s in let i = place_of s.views id in let here = seated t s id me one at in
    let old = kept.seats i v here in let x : ℕ = word_of p in
    let owed = subst (λ (u : BoardRun). (driver u p.net ≡ i) × IsRightIn u.design p) old.board_run (drives ∙ old.place, right) in
    let after : IsBoard t (stepped f p.net x i [] (after_publish v p) keeps) = publishes_kept t f i v kept here [] p owed.0 owed.1 fits rises in
    let inside = owed.1.net in
    subst (λ (r : Promise). (w : List View) × (a : Act (Unit {0})) × Valid s.homes me.1 a × Law t (stepped s p.net x id me.1 w a)
    × Leaves p.net x (after_publish v r) me (w, carried_after me.1 a))
    (sym (promise_of_word-word_of p p.net refl fits)) (
      after_publish v p ∷ [],
      keeps,
      tt,
      settled t s id me one at p.net x (after_publish v p) after,
      (refl, tells t f i v (after_publish v p) kept here [] p.net x (omega arith) (refl, refl, refl) after),
    )

-- a step that makes f n of a word's n and leaves the seat the view w n, where that keeps the board's rule
step_allowed : (t : BoardRun) (slots id : ℕ) (me : M) (k : ℕ) (word : Design → ℕ) (f : ℕ → ℕ) (w : ℕ → View) → IsOne me → k ≡ word (only me.0).board_run.design → ((n : ℕ) → Stays (only me.0) (w n))
    → ((s : State (Unit {0}) View) (i : ℕ) → IsBoard t s → get_elem? s.views i ≡ some (only me.0) → (word t.design < nets_of t.design + 2)
    × IsBoard t (stepped s (word t.design) (f (slice_index s.words (word t.design))) i [] (w (slice_index s.words (word t.design))) keeps))
    → Allows (Law t) slots id me k f (λ n. Leaves k (f n) (w n) me)
step_allowed t slots id me k word f w one is' stays kept_after s kept _ at _ =
    let b = seats_of s in let i = place_of s.views id in let here = seated t s id me one at in
    let old = kept.seats i (only me.0) here in let j : ℕ = word t.design in let n : ℕ = slice_index s.words j in
    let is : j ≡ k = sym (is' ∙ ap (λ (u : BoardRun). word u.design) old.board_run) in
    let after = kept_after b i kept here in
    subst (λ (j : ℕ). (z : List View) × (a : Act (Unit {0})) × Valid s.homes me.1 a × Law t (stepped s j (f (slice_index s.words j)) id me.1 z a)
    × Leaves j (f (slice_index s.words j)) (w (slice_index s.words j)) me (z, carried_after me.1 a)) is (
      w n ∷ [],
      keeps,
      tt,
      settled t s id me one at j (f n) (w n) after.1,
      (refl, tells t b i (only me.0) (w n) kept here [] j (f n) after.0 (stays n) after.1),
    )

pub look_allowed : (t : BoardRun) (slots id : ℕ) (me : M) (k : ℕ) → IsOne me → k < nets_of (only me.0).board_run.design → Allows (Law t) slots id me k (λ n. n) (Looks (step slots k 0 0 none) me)
look_allowed t slots id me k one in' =
    let v : View = only me.0 in
    step_allowed t slots id me k (λ _. k) (λ n. n) (λ n. after_look v (promise_of_word k n)) one refl (λ _. (refl, refl, refl)) (λ s i kept here.
    let inside : k < nets_of t.design = subst (λ (u : BoardRun). k < nets_of u.design) (kept.seats i v here).board_run in' in (omega arith, looks_kept t s i v kept here [] k inside))

pub raise_allowed : (t : BoardRun) (slots id : ℕ) (me : M) (k : ℕ) → IsOne me → k ≡ nets_of (only me.0).board_run.design → Allows (Law t) slots id me k (λ _. 1) (λ _. Raises (step slots k 1 0 none) me 1)
raise_allowed t slots id me k one is =
    let v : View = only me.0 in
    step_allowed t slots id me k nets_of (λ _. 1) (λ _. after_raise v) one is (λ _. (refl, refl, refl)) (λ s i kept here. (omega arith, raises_kept t s i v kept here []))

pub check_allowed : (t : BoardRun) (slots id : ℕ) (me : M) (k : ℕ) → IsOne me → k ≡ nets_of (only me.0).board_run.design → Allows (Law t) slots id me k (λ n. n) (Checks (step slots k 0 0 none) me)
check_allowed t slots id me k one is =
    let v : View = only me.0 in
    step_allowed t slots id me k nets_of (λ n. n) (λ n. after_check v (n == 1)) one is (λ _. (refl, refl, refl)) (λ s i kept here. (omega arith, checks_kept t s i v kept here []))

pub finish_allowed : (t : BoardRun) (slots id : ℕ) (me : M) (k : ℕ) → IsOne me → k ≡ nets_of (only me.0).board_run.design + 1 → (only me.0).place < (only me.0).board_run.workers → (only me.0).endings.finished ≡ false
    → Allows (Law t) slots id me k (λ n. (n + 1) % 2 ^ 64) (Finishes (step slots k 1 0 none) me)
finish_allowed t slots id me k one is works not_yet =
    let v : View = only me.0 in
    step_allowed t slots id me k (λ d. nets_of d + 1) (λ n. (n + 1) % 2 ^ 64) (λ _. after_finish v) one is (λ _. (refl, refl, refl)) (λ s i kept here.
    let old = kept.seats i v here in let place = old.place in
    let works' : i < t.workers = subst (λ (u : BoardRun). i < u.workers) old.board_run (omega arith) in (omega arith, finishes_kept t s i v kept here [] works' not_yet))

pub count_allowed : (t : BoardRun) (slots id : ℕ) (me : M) (k : ℕ) → IsOne me → k ≡ nets_of (only me.0).board_run.design + 1 → Allows (Law t) slots id me k (λ n. n) (Counts (step slots k 0 0 none) me)
count_allowed t slots id me k one is =
    let v : View = only me.0 in
    step_allowed t slots id me k (λ d. nets_of d + 1) (λ n. n) (λ n. after_count v n) one is (λ _. (refl, refl, refl)) (λ s i kept here. (omega arith, counts_kept t s i v kept here []))
