-- Traces of nets, from window to window.
use Rattle.std.proofs.Common.{◌≡◌, ℕ, suc, ◌+◌, ◌-◌, ◌<◌, ◌≤◌, min, false, List, [], ◌∷◌, ◌++◌, length, length-append, get_or, set, drop, take, ◌⊎◌, inl, inr, refl, sym, ap, subst, ◌∙◌, arith}
use Rattle.std.specs.Prelude.{◌==◌, All, Contains}
use Rattle.std.proofs.lemmas.Bool.{cases_eq, cases_lt}
use Rattle.std.proofs.lemmas.Bool.Decides.{nat_tests}
use Rattle.std.proofs.lemmas.List.{append-nil, drop_all, take_all, get_or_append_left, get_or-set_other, get_or-set_same, length-set}
use Rattle.std.proofs.Math.Seq.{get_or-append_seam}
use Rattle.std.proofs.lemmas.List.Elements.{All-cons, All-contains}
use Rattle.cmb_words.specs.Word.{level_at_place}
use Rattle.cmb_words.specs.declared.word.Word.{Word}
use Rattle.cmb_wave.specs.declared.level.Level.{Level}
use Rattle.cmb_words.specs.declared.changed.Changed.{Changed}
use Rattle.cmb_words.specs.Changes.{IsStill, RisesWithin, Tells, TellsNet, is_among}
use Rattle.cmb_words.proofs.TellsFacts.{tells-level}
use Rattle.cmb_activity.proofs.TallyFacts.{still_at}
use Rattle.cmb_expect.specs.declared.trace.Trace.{Trace}
use Rattle.cmb_expect.specs.Inner.Traces.{AreTraces, IsTrace, level_told}

-- ---- one net

-- the level at tick 0, at all places of a word
pub trace-start : (level : ℕ → Level) (trace : Trace) → trace.upto ≡ 1 → ((i : ℕ) → i < 64 → level_at_place trace.word i ≡ level 0) → IsTrace level 0 1 trace
trace-start level trace at same = record {
  within = omega (arith, at);
  told = λ tick from below. same _ (omega arith) ∙ ap level (let e : 0 ≡ tick = omega (arith, below) in e);
}

-- what a window told
trace-new : (level : ℕ → Level) (trace : Trace) (from upto : ℕ) → trace.upto ≡ upto → from < upto → upto ≤ from + 63
    → ((tick : ℕ) → from ≤ suc tick → tick < upto → level_at_place trace.word (tick + 64 - upto) ≡ level tick) → IsTrace level from upto trace
trace-new level trace from upto at order short tells = record {
  within = omega (arith, at);
  told = λ tick late below.
      ap (level_at_place trace.word) (let e : min (tick + 64 - trace.upto) 63 ≡ tick + 64 - upto = omega (arith, at, order, short, late, below) in e)
      ∙ tells tick (omega (arith, late)) below;
}

-- a net that didn't change in a window
trace-still : (level : ℕ → Level) (trace : Trace) (from upto : ℕ) → 1 ≤ from → from < upto → IsStill level from upto → IsTrace level from from trace → IsTrace level from upto trace
trace-still level trace from upto some order still at = record {
  within = omega (arith, at.within, order);
  told = λ tick late below.
      ap (level_at_place trace.word) (let e : min (tick + 64 - trace.upto) 63 ≡ min (from - 1 + 64 - trace.upto) 63 = omega (arith, at.within, late, some) in e)
      ∙ at.told (from - 1) (omega (arith, some)) (omega (arith, some))
      ∙ sym (ap level (let e : tick ≡ from - 1 + (tick + 1 - from) = omega (arith, late, some) in e)
      ∙ still_at level from upto (tick + 1 - from) some still (omega (arith, late, below, order)));
}

-- ---- all nets

-- what is known of the last window, as far as the next one needs it
pub traces-later : (level : ℕ → ℕ → Level) (nets from clock : ℕ) (traces : List Trace) → from ≤ clock → AreTraces level nets from clock traces → AreTraces level nets clock clock traces
traces-later level nets from clock traces order all = record {
  count = all.count;
  each = λ net d within. record {
    within = (all.each net d within).within;
    told = λ tick late below. (all.each net d within).told tick (omega (arith, order, late)) below;
  };
}

pub no_traces : (level : ℕ → ℕ → Level) → AreTraces level 0 0 1 []
no_traces level = record { count = refl; each = λ net d within. absurd (omega (arith, within)) }

-- those of one net more
pub one_more : (level : ℕ → ℕ → Level) (net : ℕ) (traces : List Trace) (new : Trace) → AreTraces level net 0 1 traces → IsTrace (level net) 0 1 new → AreTraces level (suc net) 0 1 (traces ++ new ∷ [])
one_more level net traces new so_far is = record {
  count = length-append traces (new ∷ []) ∙ (let e : length traces + 1 ≡ suc net = omega (arith, so_far.count) in e);
  each = λ n d within. go n d (cases_lt n net) within;
}
  where
    go : (n : ℕ) (d : Trace) → (n < net) ⊎ (net ≤ n) → n < suc net → IsTrace (level n) 0 1 (get_or (traces ++ new ∷ []) n d)
    go n d (inl below) within =
        subst (IsTrace (level n) 0 1) (sym (get_or_append_left traces (new ∷ []) d n (omega (arith, below, so_far.count)))) (so_far.each n d below)
    go n d (inr late) within =
        let same : net ≡ n = omega (arith, late, within) in
        subst (λ (m : ℕ). IsTrace (level m) 0 1 (get_or (traces ++ new ∷ []) m d)) same
        (subst (IsTrace (level net) 0 1) (sym (ap (λ (m : ℕ). get_or (traces ++ new ∷ []) m d) (sym so_far.count) ∙ get_or-append_seam traces new [] d)) is)

-- ---- the changes of a window

-- a net's trace is as it was, or what one of the changes told
abbrev IsKept : List Trace → List Trace → List Changed → List Changed → ℕ → Trace → Type 0
IsKept old new changed rest net d = (get_or new net d ≡ get_or old net d) × (is_among net rest ≡ false → is_among net changed ≡ false)

pub record IsTold (new : List Trace) (changed : List Changed) (upto net : ℕ) (d : Trace) : Type 0 where
  pub one : Changed
  pub there : Contains changed one
  pub net_of : one.net ≡ net
  pub word : (get_or new net d).word ≡ one.word
  pub at : (get_or new net d).upto ≡ upto

-- the first changes were taken up, and the rest is left
pub record AreTaken (old new : List Trace) (changed rest : List Changed) (upto : ℕ) : Type 0 where
  pub count : length new ≡ length old
  pub each : (net : ℕ) (d : Trace) → net < length old → IsKept old new changed rest net d ⊎ IsTold new changed upto net d

pub begins : (old : List Trace) (changed : List Changed) (upto : ℕ) → AreTaken old old changed changed upto
begins old changed upto = record { count = refl; each = λ net d within. inl (refl, λ none. none) }

not_this : (net : ℕ) (c : Changed) (cs : List Changed) → (net ≡ c.net → ⊥) → is_among net cs ≡ false → is_among net (c ∷ cs) ≡ false
not_this net c cs differs none =
    let other : (c.net == net) ≡ false = grind (arith, nat_tests) in
    rw other none

pub goes_on : (old traces : List Trace) (changed : List Changed) (c : Changed) (cs : List Changed) (upto : ℕ) (new : Trace) → AreTaken old traces changed (c ∷ cs) upto → Contains changed c
    → c.net < length old → new.word ≡ c.word → new.upto ≡ upto → AreTaken old (set traces c.net new) changed cs upto
goes_on old traces changed c cs upto new so_far there inside word at = record {
  count = length-set traces c.net new ∙ so_far.count;
  each = λ net d within. go net d within (cases_eq net c.net);
}
  where
    kept : (net : ℕ) (d : Trace) → (net ≡ c.net → ⊥) → get_or (set traces c.net new) net d ≡ get_or traces net d
    kept net d differs = get_or-set_other traces c.net net new d (λ e. differs e)

    other : (net : ℕ) (d : Trace) → (net ≡ c.net → ⊥) → IsKept old traces changed (c ∷ cs) net d ⊎ IsTold traces changed upto net d
        → IsKept old (set traces c.net new) changed cs net d ⊎ IsTold (set traces c.net new) changed upto net d
    other net d differs (inl was) = inl (kept net d differs ∙ was.0, λ none. was.1 (not_this net c cs differs none))
    other net d differs (inr told) = inr (record {
      one = told.one;
      there = told.there;
      net_of = told.net_of;
      word = ap (λ (t : Trace). t.word) (kept net d differs) ∙ told.word;
      at = ap (λ (t : Trace). t.upto) (kept net d differs) ∙ told.at;
    })

    this : (d : Trace) → get_or (set traces c.net new) c.net d ≡ new
    this d = get_or-set_same traces c.net new d (omega (arith, inside, so_far.count))

    go : (net : ℕ) (d : Trace) → net < length old → (net ≡ c.net) ⊎ (net ≡ c.net → ⊥)
        → IsKept old (set traces c.net new) changed cs net d ⊎ IsTold (set traces c.net new) changed upto net d
    go net d within (inl same) = inr (subst (λ (n : ℕ). IsTold (set traces c.net new) changed upto n d) (sym same) (record {
      one = c;
      there = there;
      net_of = refl;
      word = ap (λ (t : Trace). t.word) (this d) ∙ word;
      at = ap (λ (t : Trace). t.upto) (this d) ∙ at;
    }))
    go net d within (inr differs) = other net d differs (so_far.each net d within)

pub ends : (old new : List Trace) (changed : List Changed) (upto : ℕ) → AreTaken old new changed [] upto → (level : ℕ → ℕ → Level) (from : ℕ) → 1 ≤ from → from < upto → upto ≤ from + 63
    → AreTraces level (length old) from from old → Tells level (length old) from upto changed → AreTraces level (length old) from upto new
ends old new changed upto taken level from some order short all tells = record {
  count = taken.count;
  each = λ net d within. go net d within (taken.each net d within);
}
  where
    go : (net : ℕ) (d : Trace) → net < length old → IsKept old new changed [] net d ⊎ IsTold new changed upto net d → IsTrace (level net) from upto (get_or new net d)
    go net d within (inl kept) =
        subst (IsTrace (level net) from upto) (sym kept.0)
        (trace-still (level net) (get_or old net d) from upto some order (tells.others net within (kept.1 refl)) (all.each net d within))
    go net d within (inr told) =
        trace-new (level net) (get_or new net d) from upto told.at order short
        (λ tick late below.
        let words : TellsNet level from upto told.one = All-contains (TellsNet level from upto) changed told.one tells.words told.there in
        ap (λ (w : Word). level_at_place w (tick + 64 - upto)) told.word ∙ tells-level level from upto told.one words tick late below
        ∙ ap (λ (n : ℕ). level n tick) told.net_of)

-- the nets that changed are nets
pub rises-within : (low nets : ℕ) (changed : List Changed) → RisesWithin low nets changed → All (λ one. one.net < nets) changed
rises-within low nets [] rises = λ k d below. absurd (omega (arith, below))
rises-within low nets (c ∷ cs) rises = All-cons (λ one. one.net < nets) c cs rises.1 (rises-within (suc c.net) nets cs rises.2)

-- a window taken up, in the words of a loop that makes it
pub followed : (level : ℕ → ℕ → Level) (nets clock upto : ℕ) (old new : List Trace) (changed read : List Changed) → length old ≡ nets → read ≡ changed → 1 ≤ clock → clock < upto → upto ≤ clock + 63
    → AreTraces level nets clock clock old → Tells level nets clock upto changed
    → ((any : ℕ → ℕ → Level) (from : ℕ) → 1 ≤ from → from < upto → upto ≤ from + 63 → AreTraces any (length old) from from old → Tells any (length old) from upto read → AreTraces any (length old) from upto new)
    → AreTraces level nets clock upto new
followed level nets clock upto old new changed read many same some order short all tells follows =
    subst (λ (n : ℕ). AreTraces level n clock upto new) many
    (follows level clock some order short (subst (λ (n : ℕ). AreTraces level n clock clock old) (sym many) all)
    (subst (λ (n : ℕ). Tells level n clock upto read) (sym many) (subst (λ (list : List Changed). Tells level nets clock upto list) (sym same) tells)))

-- a slice of a whole vector, written back
pub written_back : {X : Type 0} (old new : List X) (len : ℕ) → length new ≡ length old → len ≡ length old → take len (new ++ drop (length new) old) ≡ new
written_back {X} old new len many all =
    ap (λ (rest : List X). take len (new ++ rest)) (drop_all (length new) old (omega (arith, many)))
    ∙ ap (take len) (append-nil new) ∙ take_all len new (omega (arith, many, all))
